use Rattle.std.proofs.Common.{ℕ, rules, ◌+◌, ◌*◌, sym, ap, ◌∙◌, arith}
use Rattle.bed_write.proofs.RowLaws.{stored, tile_done, all_done, first_in, headed_rows, headed_done}
use Rattle.bed_write.proofs.write.Writer.write.Goals as goal

pub returns-then-width-eq0 : goal.returns-then-width-eq0
returns-then-width-eq0 g c =
    let m = c.args.self.now.matrix in
    headed_done m.iid_count m.sid_count _ _ c.block_width-width.ensures c.args.out.now (c.requires ∙ ap (λ (x : ℕ). 3 + x * m.sid_count) (sym c.block_width-width.ensures)) _ c.copy_from_slice.ensures.after c.if-width-eq0.true

pub loop-from-init : goal.loop-from-init
loop-from-init g c =
    let m = c.args.self.now.matrix in
    headed_rows m.iid_count m.sid_count _ _ c.block_width-width.ensures c.args.out.now (c.requires ∙ ap (λ (x : ℕ). 3 + x * m.sid_count) (sym c.block_width-width.ensures)) _ c.copy_from_slice.ensures.after

pub byte_at-requires : goal.byte_at-requires
byte_at-requires g c =
    ((let u = c.loop-m.invariant.until_in in omega (arith, c.loop-m-test.true)), first_in _ _ _ c.block_width-width.ensures c.loop-b-test.true)

pub loop-m-preserved : goal.loop-m-preserved
loop-m-preserved g c = stored c.loop-m.invariant (let u = c.loop-m.invariant.until_in in omega (arith, c.loop-m-test.true)) c.loop-b-test.true _ c.byte_at.ensures

pub returns-else-width-eq0 : goal.returns-else-width-eq0
returns-else-width-eq0 g c = all_done c.loop-from.invariant c.loop-from-test.false

pub returns-else-width-eq0-2 : goal.returns-else-width-eq0-2
returns-else-width-eq0-2 g c = all_done (tile_done c.loop-b.invariant c.loop-b-test.false) (search rules)
