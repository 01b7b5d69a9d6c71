-- `add_four`: the sums before place j have their products.
use mathlib.Core.Path.{◌≡◌}
use Prim.Native.Nat.{◌+◌}
use lib.Ieee.{binary64}
use Rattle.product.specs.Lent.{value_at, tile_at}
use Rattle.product.proofs.InPlaceLaws.{filled}
use Rattle.product.proofs.RowLaws.{by_four}
use Rattle.product.proofs.lent.Tile.add_four.Given as goal

abbrev pub invariant-loop-j : goal.invariant-loop-j
invariant-loop-j l = l.sums ≡ filled (by_four binary64 (λ j t. tile_at l.self j (l.i + t)) (λ t. value_at l.line (l.i + t)) l.initial.sums) l.j l.initial.sums
