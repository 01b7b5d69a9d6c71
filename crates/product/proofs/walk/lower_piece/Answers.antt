use mathlib.Core.Path.{◌≡◌, refl, ap, ◌∙◌}
use mathlib.Core.List.{List}
use Prim.Native.Nat.{ℕ, ◌+◌, ◌*◌}
use native.Mathlib.Omega.{arith}
use lib.ListN.{length}
use lib.Ieee.{Float, binary64, of_bits}
use Rattle.answer.specs.Lists.{tabulate}
use Rattle.product.specs.Dot.{plus_zero}
use Rattle.product.specs.Private.{value_of_line, block_more, lower_piece}
use Rattle.product.proofs.InPlaceLaws.{replicate_tabulate}
use Rattle.product.proofs.BlockLaws.{rows_more_law}
use Rattle.product.proofs.LowerLaws.{lower_none, lower_empty, lower_all}
use Rattle.product.proofs.walk.lower_piece.Goals as goal
use Rattle.product.proofs.walk.lower_piece.Goals.{After-fill, After-add_terms, then-width-eq0-via-then-width-eq0, then-width-eq0-via-else-width-eq0+then-count-eq0}

-- every place is +0
cleared : (c : After-fill) → c.fill.new.self ≡ tabulate (length c.args.piece.now) (λ p. plus_zero)
unfolding of_bits
cleared c = c.fill.ensures.after (λ y e. e) ∙ replicate_tabulate _ _

pub returns-then-width-eq0 : goal.returns-then-width-eq0
returns-then-width-eq0 c =
    lower_none binary64 _ _ _ _ _ c.requires.2 (cleared (goal.at.returns-then-width-eq0 c).After-fill)
    ∙ elim c.then-width-eq0.branch [
      | then-width-eq0-via-then-width-eq0 w ↦ lower_empty binary64 _ _ _ _ 0 w.if-width-eq0.true
      | then-width-eq0-via-else-width-eq0+then-count-eq0 w ↦ ap (lower_piece binary64 _ _ _) (let u : 0 ≡ c.args.count = omega arith in u)
    ]

pub overflow_mul-lines : goal.overflow_mul-lines
overflow_mul-lines c = omega (arith, c.requires.3 0 0 (omega arith) (omega arith))

pub overflow_add-lines : goal.overflow_add-lines
overflow_add-lines c = omega (arith, c.requires.3 0 0 (omega arith) (omega arith))

-- the rows before the bottom have all their terms after a turn
turn : (c : After-add_terms) (bottom : ℕ) → c.loop-top.top + c.min.result ≡ bottom →
    let a = c.args in
    c.add_terms.new.piece ≡ block_more binary64 a.width (value_of_line a.bytes.now (a.offset + 8 * a.first) a.line a.step) a.count 0 bottom 0 a.width c.fill.new.self
turn c bottom q =
    rows_more_law binary64 _ _ _ 0 c.loop-top.top _ bottom _ c.loop-top.piece _ (omega arith) (omega arith) (omega arith) q c.loop-top.invariant.3 c.add_terms.ensures

pub loop-top-preserved : goal.loop-top-preserved
loop-top-preserved c =
    let w = c.loop-top in (
      omega arith,
      c.add_terms.auto.x ∙ w.invariant.1,
      c.add_terms.auto.piece ∙ w.invariant.2,
      turn (goal.at.loop-top-preserved c).After-add_terms _ (omega arith),
    )

-- all rows have all their terms
finished : (c : After-fill) → (out : List Float) (bottom : ℕ) → (c.args.width ≡ 0 → ⊥) → bottom ≡ c.args.height →
    let a = c.args in
    let v = value_of_line a.bytes.now (a.offset + 8 * a.first) a.line a.step in
    out ≡ block_more binary64 a.width v a.count 0 bottom 0 a.width c.fill.new.self → out ≡ lower_piece binary64 a.height a.width v a.count
finished c out bottom some q e =
    let a = c.args in
    let v : ℕ → ℕ → Float = value_of_line a.bytes.now (a.offset + 8 * a.first) a.line a.step in
    lower_all binary64 _ _ _ _ c.fill.new.self out (omega arith) (lower_none binary64 _ _ _ _ _ c.requires.2 (cleared c)) (e ∙ ap (λ (z : ℕ). block_more binary64 a.width v a.count 0 z 0 a.width c.fill.new.self) q)

pub returns-else-count-eq0 : goal.returns-else-count-eq0
returns-else-count-eq0 c = finished (goal.at.returns-else-count-eq0 c).After-fill _ _ c.if-width-eq0.false (omega arith) c.loop-top.invariant.3

pub returns-else-count-eq0-2 : goal.returns-else-count-eq0-2
returns-else-count-eq0-2 c =
    finished (goal.at.returns-else-count-eq0-2 c).After-fill _ _ c.if-width-eq0.false refl (turn (goal.at.returns-else-count-eq0-2 c).After-add_terms _ (omega arith))
