-- `take_out`: the places before i are filled.
use mathlib.Core.Path.{◌≡◌}
use Prim.Native.Nat.{◌+◌, ◌*◌}
use lib.ListN.{get_or}
use lib.Ieee.{nan}
use Rattle.product.proofs.InPlaceLaws.{filled}
use Rattle.product.proofs.column.take_out.Given as goal

abbrev pub invariant-loop-i : goal.invariant-loop-i
invariant-loop-i l = l.dst ≡ filled (λ j. get_or l.piece (l.from + j * l.width) nan) l.i l.initial.dst
