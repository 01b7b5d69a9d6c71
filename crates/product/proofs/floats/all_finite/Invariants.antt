-- `all_finite`: if no one was counted, every value so far is finite.
use Rattle.std.proofs.Common.{◌≡◌, ◌≤◌}
use Rattle.product.specs.Private.{NoNan}
use Rattle.product.proofs.floats.all_finite.Given as goal

abbrev pub invariant-loop-i : goal.invariant-loop-i
invariant-loop-i l = (l.others ≤ l.i) × (l.others ≡ 0 → NoNan l.bytes l.at l.i)
