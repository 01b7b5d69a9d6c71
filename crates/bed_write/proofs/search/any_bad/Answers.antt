use Rattle.std.proofs.Common.{arith}
use Rattle.std.proofs.lemmas.Bool.{ltb-false}
use Rattle.bed_write.specs.Private.{by_tests}
use Rattle.bed_write.proofs.FirstLaws.{number_read}
use Rattle.bed_write.proofs.SearchLaws.{none_so_far}
use Rattle.bed_write.proofs.search.any_bad.Goals as goal

pub loop-value-preserved : goal.loop-value-preserved
loop-value-preserved g c =
    let a = c.args.coding in
    none_so_far (by_tests g.T.BedVal.width a c.args.val.now) _ _ _ c.loop-value.invariant
    (λ e. let n = number_read g.T.BedVal.width a.is_a1_counted a.missing c.args.val.now _ _ _ c.loop-value-test.true c.value-item.is _ c.code_or_four.ensures in
    omega (arith, ltb-false 3 _ e))
