-- `add_many`: the terms so far are in each sum.
use mathlib.Core.Path.{◌≡◌}
use Prim.Native.Nat.{◌*◌}
use lib.Ieee.{binary64}
use Rattle.product.specs.Private.{row_more}
use Rattle.product.specs.Lent.{value_at, tile_at}
use Rattle.product.proofs.lent.Tile.add_many.Given as goal

abbrev pub invariant-loop-q : goal.invariant-loop-q
invariant-loop-q l = l.sums ≡ row_more binary64 (tile_at l.self) (value_at l.line) (4 * l.q) l.initial.sums

abbrev pub invariant-loop-i : goal.invariant-loop-i
invariant-loop-i l = l.sums ≡ row_more binary64 (tile_at l.self) (value_at l.line) l.i l.fn.sums
