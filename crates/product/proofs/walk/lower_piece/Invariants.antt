-- `lower_piece`: the rows before the top have all their terms.
use mathlib.Core.Path.{◌≡◌}
use Prim.Native.Nat.{◌+◌, ◌*◌, ◌≤◌}
use lib.ListN.{length}
use lib.Ieee.{binary64}
use Rattle.product.specs.Private.{value_of_line, block_more}
use Rattle.product.proofs.walk.lower_piece.Given as goal

abbrev pub invariant-loop-top : goal.invariant-loop-top
invariant-loop-top l = (l.top ≤ l.height) × (length l.x ≡ 1800) × (length l.piece ≡ length l.initial.piece) × (l.piece ≡ block_more binary64 l.width (value_of_line l.bytes (l.offset + 8 * l.first) l.line l.step) l.count 0 l.top 0 l.width l.initial.piece)
