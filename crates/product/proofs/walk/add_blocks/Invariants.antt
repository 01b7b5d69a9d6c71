-- `add_blocks`: the rows before the top have their products.
use mathlib.Core.Path.{◌≡◌}
use Prim.Native.Nat.{◌≤◌}
use lib.ListN.{length}
use lib.Ieee.{binary64}
use Rattle.product.specs.Private.{block_more}
use Rattle.product.specs.Lent.{line_value}
use Prim.Native.Nat.{◌-◌}
use Rattle.product.proofs.walk.add_blocks.Given as goal

abbrev pub invariant-loop-top : goal.invariant-loop-top
invariant-loop-top l = (l.rows.top ≤ l.top) × (l.top ≤ l.rows.bottom) × (length l.x ≡ length l.initial.x) × (length l.piece ≡ length l.initial.piece) × (l.piece ≡ block_more binary64 l.width (line_value l.rows.lines.now) l.rows.lines.now.terms l.rows.top l.top 0 l.width l.initial.piece)

abbrev pub decreases-loop-top : goal.decreases-loop-top
decreases-loop-top l = l.rows.bottom - l.top
