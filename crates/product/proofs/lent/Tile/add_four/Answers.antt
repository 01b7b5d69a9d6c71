use mathlib.Core.Path.{◌≡◌, ap, ◌∙◌}
use Prim.Native.Nat.{ℕ, ◌+◌, ◌*◌}
use native.Mathlib.Omega.{arith}
use lib.ListN.{get_or}
use lib.Ieee.{Float, nan, binary64}
use Rattle.product.specs.Lent.{value_at, tile_at}
use Rattle.product.proofs.RowLaws.{four_step}
use Rattle.product.proofs.lent.Tile.add_four.Goals as goal

pub loop-j-preserved : goal.loop-j-preserved
loop-j-preserved c =
    let a = c.args in
    let w = c.loop-j in
    let x : ℕ → ℕ → Float = λ j t. tile_at a.self j (a.i + t) in
    let y : ℕ → Float = λ t. value_at a.line.now (a.i + t) in
    let at : (k k' : ℕ) → k ≡ k' → get_or a.self.x.now k nan ≡ get_or a.self.x.now k' nan = λ k k' e. ap (λ (z : ℕ). get_or a.self.x.now z nan) e in
    four_step binary64 x y a.sums.now w.sums w.j _ _ _ _ c.value-y0.result c.value-y1.result c.value-y2.result c.value-y3.result
    (at (a.i * a.self.g + w.j) _ (omega arith)) (at (a.i * a.self.g + a.self.g + w.j) _ (omega arith)) (at (a.i * a.self.g + a.self.g + a.self.g + w.j) _ (omega arith)) (at (a.i * a.self.g + a.self.g + a.self.g + a.self.g + w.j) _ (omega arith))
    (c.value-y0.ensures ∙ ap (value_at a.line.now) (let u : a.i ≡ a.i + 0 = omega arith in u)) c.value-y1.ensures c.value-y2.ensures c.value-y3.ensures (omega arith) w.invariant
