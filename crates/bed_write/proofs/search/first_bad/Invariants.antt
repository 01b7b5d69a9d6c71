-- No marker before is bad, and no animal before at this marker.
use Rattle.std.proofs.Common.{ℕ, ◌<◌}
use Rattle.bed_write.specs.Writing.{value_code}
use Rattle.bed_write.specs.Groups.{or_four}
use Rattle.bed_write.proofs.SearchLaws.{GoodMarker}
use Rattle.bed_write.proofs.search.first_bad.Given as goal

abbrev pub invariant-loop-animal : goal.invariant-loop-animal
invariant-loop-animal g l =
    let c = l.fn.coding in
    let m = l.fn.matrix in
    (a : ℕ) → a < l.animal → or_four (value_code g.T.BedVal.width c.is_a1_counted c.missing m.animal_order m.iid_count m.sid_count m.val.now a l.marker) < 4

abbrev pub invariant-loop-marker : goal.invariant-loop-marker
invariant-loop-marker g l =
    let c = l.fn.coding in
    let m = l.fn.matrix in
    (k : ℕ) → k < l.marker
    → GoodMarker m.iid_count m.sid_count (value_code g.T.BedVal.width c.is_a1_counted c.missing m.animal_order m.iid_count m.sid_count m.val.now) k
