use mathlib.Core.Path.{refl, ◌∙◌}
use native.Mathlib.Omega.{arith}
use lib.Ieee.{binary64}
use Rattle.product.specs.Lent.{line_value}
use Rattle.product.proofs.BlockLaws.{rows_more_law}
use Rattle.product.proofs.walk.add_blocks.Goals as goal

pub loop-top-preserved : goal.loop-top-preserved
loop-top-preserved c =
    let l = c.args.rows.now.lines.now in
    let w = c.loop-top in (
      omega arith,
      omega arith,
      c.load_tile.auto.x ∙ w.invariant.2,
      c.add_block.auto.piece ∙ w.invariant.3,
      rows_more_law binary64 _ (line_value l) l.terms _ w.top _ _ _ w.piece _ c.requires.3 (omega arith) (omega arith) refl w.invariant.4 c.add_block.ensures,
    )
