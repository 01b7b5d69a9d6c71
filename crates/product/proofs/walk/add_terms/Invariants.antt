-- `add_terms`: the first k terms are in.
use mathlib.Core.Path.{◌≡◌}
use Prim.Native.Nat.{◌≤◌}
use lib.ListN.{length}
use lib.Ieee.{binary64}
use Rattle.product.specs.Private.{block_more}
use Rattle.product.specs.Lent.{line_value}
use Rattle.product.proofs.walk.add_terms.Given as goal

abbrev pub invariant-loop-k : goal.invariant-loop-k
invariant-loop-k l = (l.k ≤ l.rows.lines.now.terms) × (length l.x ≡ length l.initial.x) × (length l.piece ≡ length l.initial.piece) × (l.piece ≡ block_more binary64 l.width (line_value l.rows.lines.now) l.k l.rows.top l.rows.bottom 0 l.width l.initial.piece)
