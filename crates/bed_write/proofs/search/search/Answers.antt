-- Nothing is found where no value is bad.
use Rattle.bed_write.proofs.SearchLaws.{all_good}
use Rattle.bed_write.proofs.search.search.Goals as goal

pub returns-else-any_bad : goal.returns-else-any_bad
returns-else-any_bad g c =
    let a = c.args.coding in
    let m = c.args.matrix.now in
    all_good g.T.BedVal.width a.is_a1_counted a.missing m.animal_order m.iid_count m.sid_count m.val.now m.is_full (c.any_bad.ensures c.if-any_bad.false)
