use mathlib.Core.Path.{◌≡◌, ◌∙◌}
use Prim.Native.Nat.{◌+◌, ◌-◌}
use native.Mathlib.Omega.{arith}
use lib.ListN.{length, take, drop}
use lib.Ieee.{binary64}
use Rattle.product.specs.Lent.{line_value}
use Rattle.product.proofs.GridLaws.{row_in}
use Rattle.product.proofs.PartLaws.{length_part}
use Rattle.product.proofs.BlockLaws.{some_below, below_places, column_turn}
use Rattle.product.proofs.walk.add_block.Goals as goal

pub take_out-requires : goal.take_out-requires
take_out-requires c i h =
    let b = c.args.block.now.rows in omega (arith, c.loop-c.invariant.0, c.loop-c.invariant.1, row_in b.bottom c.args.width (b.top + i) (omega (arith, c.loop-c.invariant.0)))

pub put_back-requires : goal.put_back-requires
put_back-requires c =
    let a = c.args in
    let b = a.block.now.rows in
    let m = length a.room.now in
    let w = c.loop-c in
    let sums = c.add_products.new.sums in
    let d = c.saturating_sub-above in
    let e : length sums ≡ m = c.add_products.auto.sums ∙ c.take_out.auto.dst ∙ w.invariant.0 in
    let e' : length (take (length sums - d.result) (drop d.result sums)) ≡ length sums - d.result = length_part d.result (length sums - d.result) sums (omega (arith, some_below b.top w.c d.result d.ensures m (omega arith) (omega arith))) in
    (c.requires.0, λ i h. (below_places b.top w.c d.result d.ensures m b.bottom a.width (length w.piece) c.requires.1 (omega arith) (omega arith) (omega arith) (omega (arith, c.requires.2, w.invariant.1))).2 i (omega arith))

pub loop-c-preserved : goal.loop-c-preserved
loop-c-preserved c =
    let a = c.args in
    let b = a.block.now.rows in
    let l = b.lines.now in
    let w = c.loop-c in
    let p = c.put_back in (
      c.add_products.auto.sums ∙ c.take_out.auto.dst ∙ w.invariant.0,
      p.auto.piece ∙ w.invariant.1,
      column_turn binary64 a.width (line_value l) l.terms b.top _ b.bottom w.c _ _ _ w.room _ _ _ c.requires.1 (omega arith) (omega arith) (omega arith) c.saturating_sub-above.ensures (omega (arith, w.invariant.1, c.requires.2)) (omega (arith, w.invariant.0)) c.take_out.ensures c.add_products.ensures p.auto.piece p.ensures w.invariant.2,
    )
