-- While none was bad, every value so far has a code.
use Rattle.std.proofs.Common.{◌≡◌, ℕ, ◌<◌, false}
use Rattle.bed_write.specs.Private.{by_tests}
use Rattle.bed_write.proofs.search.any_bad.Given as goal

abbrev pub invariant-loop-value : goal.invariant-loop-value
invariant-loop-value g l = l.bad ≡ false → (k : ℕ) → k < l.value-index → by_tests g.T.BedVal.width l.fn.coding l.val k < 4
