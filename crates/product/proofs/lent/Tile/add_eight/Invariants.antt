-- `add_eight`: i terms are in each sum.
use mathlib.Core.Path.{◌≡◌}
use lib.Ieee.{binary64}
use Rattle.product.specs.Private.{row_more}
use Rattle.product.specs.Lent.{value_at, tile_at}
use Rattle.product.proofs.lent.Tile.add_eight.Given as goal

abbrev pub invariant-loop-i : goal.invariant-loop-i
invariant-loop-i l = l.s ≡ row_more binary64 (tile_at l.self) (value_at l.line) l.i l.initial.s
