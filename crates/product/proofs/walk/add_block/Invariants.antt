-- `add_block`: the columns before c have their products.
use mathlib.Core.Path.{◌≡◌}
use lib.ListN.{length}
use lib.Ieee.{binary64}
use Rattle.product.specs.Private.{block_more}
use Rattle.product.specs.Lent.{line_value}
use Rattle.product.proofs.walk.add_block.Given as goal

abbrev pub invariant-loop-c : goal.invariant-loop-c
invariant-loop-c l =
    let r = l.block.rows in
    (length l.room ≡ length l.initial.room) × (length l.piece ≡ length l.initial.piece) × (l.piece ≡ block_more binary64 l.width (line_value r.lines.now) r.lines.now.terms r.top r.bottom 0 l.c l.initial.piece)
