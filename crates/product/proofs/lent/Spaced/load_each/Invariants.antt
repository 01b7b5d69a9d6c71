-- `load_each`: the places before i are filled.
use Rattle.std.proofs.Common.{◌≡◌}
use Rattle.product.specs.Lent.{value_at}
use Rattle.product.proofs.InPlaceLaws.{filled}
use Rattle.product.proofs.lent.Spaced.load_each.Given as goal

abbrev pub invariant-loop-i : goal.invariant-loop-i
invariant-loop-i l = l.dst ≡ filled (value_at l.self) l.i l.initial.dst
