use mathlib.Core.Path.{◌≡◌, refl, ap, ◌∙◌}
use Prim.Native.Nat.{ℕ, ◌+◌, ◌*◌}
use lib.Ieee.{binary64}
use native.Mathlib.Omega.{arith}
use Rattle.product.specs.Private.{row_more}
use Rattle.product.specs.Lent.{value_at, tile_at}
use Rattle.product.proofs.RowLaws.{row_step, row_add}
use Rattle.product.proofs.lent.Tile.add_many.Goals as goal

pub loop-q-preserved : goal.loop-q-preserved
loop-q-preserved c =
    let a = c.args in
    let l = a.line.now in
    let w = c.loop-q in
    row_add binary64 (tile_at a.self) (value_at l) (4 * w.q) 4 a.sums.now w.sums c.add_four.new.sums w.invariant c.add_four.ensures
    ∙ ap (λ (z : ℕ). row_more binary64 (tile_at a.self) (value_at l) z a.sums.now) (let u : 4 * w.q + 4 ≡ 4 * (w.q + 1) = omega arith in u)

pub loop-i-preserved : goal.loop-i-preserved
loop-i-preserved c =
    let a = c.args in
    let l = a.line.now in
    let w = c.loop-i in
    row_step binary64 (tile_at a.self) (value_at l) w.i a.sums.now w.sums c.add_one.new.sums (λ j. tile_at a.self j w.i) c.value.result w.invariant (λ j b. refl) c.value.ensures c.add_one.ensures
