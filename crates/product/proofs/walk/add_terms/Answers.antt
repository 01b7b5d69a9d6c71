use mathlib.Core.Path.{◌≡◌, ◌∙◌}
use Prim.Native.Nat.{ℕ, ◌+◌}
use native.Mathlib.Omega.{arith}
use lib.Ieee.{binary64}
use Rattle.product.specs.Private.{block_more}
use Rattle.product.specs.Lent.{line_value}
use Rattle.product.proofs.BlockLaws.{block_terms}
use Rattle.product.proofs.LowerLaws.{line_from}
use Rattle.product.proofs.walk.add_terms.Goals as goal
use Rattle.product.proofs.walk.add_terms.Goals.{After-add_blocks}

-- the first m terms are in after a pass
turn : (c : After-add_blocks) (m : ℕ) → c.loop-k.k + c.min.result ≡ m →
    let a = c.args in
    let r = a.rows.now in
    c.add_blocks.new.piece ≡ block_more binary64 a.width (line_value r.lines.now) m r.top r.bottom 0 a.width a.piece.now
turn c m q =
    let e = c.part.ensures in
    block_terms binary64 _ (line_value c.args.rows.now.lines.now) (line_value c.part.result) c.loop-k.k _ m _ _ _ _ _ c.loop-k.piece _ (omega (arith, e.4, q))
    (line_from _ _ _ _ _ _ _ c.loop-k.k _ e.0 e.1 e.2 e.5) c.loop-k.invariant.3 c.add_blocks.ensures

pub loop-k-preserved : goal.loop-k-preserved
loop-k-preserved c =
    let w = c.loop-k in (
      omega arith,
      c.add_blocks.auto.x ∙ w.invariant.1,
      c.add_blocks.auto.piece ∙ w.invariant.2,
      turn (goal.at.loop-k-preserved c).After-add_blocks _ (omega arith),
    )

pub returns-2 : goal.returns-2
returns-2 c = turn (goal.at.returns-2 c).After-add_blocks _ (omega arith)
