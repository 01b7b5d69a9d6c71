use mathlib.Core.Path.{◌≡◌, refl, ap, ◌∙◌}
use mathlib.Core.List.{◌++◌}
use Prim.Native.Nat.{ℕ, ◌-◌}
use native.Mathlib.Omega.{arith}
use lib.ListN.{length, drop, replicate}
use lib.Ieee.{binary64, of_bits}
use Rattle.product.specs.Private.{row_more}
use Rattle.product.specs.Lent.{value_at, tile_at}
use Rattle.product.proofs.RowLaws.{row_step, row_back}
use Rattle.product.proofs.lent.Tile.add_eight.Goals as goal

pub loop-i-preserved : goal.loop-i-preserved
loop-i-preserved c =
    let a = c.args in
    let l = a.line.now in
    let w = c.loop-i in
    row_step binary64 (tile_at a.self) (value_at l) w.i (c.take_out.new.dst ++ drop (length a.sums.now - 0) (replicate 8 (of_bits binary64 0))) w.s c.add_one.new.sums (λ j. tile_at a.self j w.i) c.value.result w.invariant (λ j b. refl) c.value.ensures c.add_one.ensures

pub returns : goal.returns
returns c =
    let a = c.args in
    let l = a.line.now in
    let w = c.loop-i in
    row_back binary64 (tile_at a.self) (value_at l) l.count (length a.sums.now) a.sums.now (replicate 8 (of_bits binary64 0)) c.take_out.new.dst w.s c.put_back.new.piece refl (omega arith) c.take_out.ensures (w.invariant ∙ ap (λ (t : ℕ). row_more binary64 (tile_at a.self) (value_at l) t (c.take_out.new.dst ++ drop (length a.sums.now - 0) (replicate 8 (of_bits binary64 0)))) (let u : w.i ≡ l.count = omega arith in u)) c.loop-i-test.array_long c.put_back.auto.piece c.put_back.ensures
