-- `are_finite`: the runs before t are finite.
use Rattle.std.proofs.Common.{ℕ, ◌+◌, ◌*◌, ◌<◌}
use Rattle.product.specs.Private.{NoNan}
use Rattle.product.proofs.lent.Runs.are_finite.Given as goal

abbrev pub invariant-loop-t : goal.invariant-loop-t
invariant-loop-t l = (u : ℕ) → u < l.t → NoNan l.self.bytes.now (l.self.at + 8 * (u * l.self.step)) l.self.count
