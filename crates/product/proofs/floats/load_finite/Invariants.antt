-- `load_finite`: the places before i are filled.
use Rattle.std.proofs.Common.{◌≡◌, ◌+◌, ◌*◌}
use Rattle.product.specs.Values.{float_at}
use Rattle.product.proofs.InPlaceLaws.{filled}
use Rattle.product.proofs.floats.load_finite.Given as goal

abbrev pub invariant-loop-i : goal.invariant-loop-i
invariant-loop-i l = l.dst ≡ filled (λ j. float_at l.bytes (l.at + 8 * j)) l.i l.initial.dst
