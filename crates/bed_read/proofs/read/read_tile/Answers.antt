use Rattle.std.proofs.Common.{ℕ, rules, arith, length, sym, subst, ◌*◌, ◌+◌, ◌-◌, ◌≤◌}
use Rattle.calls.specs.Lists.{Inside}
use Rattle.calls.proofs.ListLaws.{parts_inside}
use Rattle.bed_read.proofs.DrawLaws.{part_length, drawn_part}
use Rattle.bed_read.proofs.TileLaws.{tile_to, lines_end}
use Rattle.bed_read.proofs.MatrixLaws.{line_read, four_inside, four_read}
use Rattle.bed_read.proofs.read.read_tile.Goals as goal

pub read_four-requires : goal.read_four-requires
read_four-requires g c =
    let m = c.args.lines.now in
    let l = c.loop-four in
    let h : 4 * l.four + 4 ≤ length m.outer.now = omega (arith, c.loop-four-test.true, c.lines_by_four-fours.ensures.0) in
    let e = lines_end (4 * l.four) 4 _ (length m.inner.now) _ h l.invariant.rows.long in
    let b = c.lines_by_four-fours.ensures.1 (omega (arith, c.loop-four-test.true)) in
    (four_inside _ _ _ _ _ _ _ m.ready _ l.val _ _ _ _ c.requires.2 c.requires.0 l.invariant _ c.four_starts-starts.ensures b.0 h c.requires.3, b.1, omega (arith, e, c.requires.1, c.requires.2))

pub loop-four-preserved : goal.loop-four-preserved
loop-four-preserved g c =
    let m = c.args.lines.now in
    let l = c.loop-four in
    let h : 4 * l.four + 4 ≤ length m.outer.now = omega (arith, c.loop-four-test.true, c.lines_by_four-fours.ensures.0) in
    let b = c.lines_by_four-fours.ensures.1 (omega (arith, c.loop-four-test.true)) in
    tile_to _ _ _ _ _ _ _ _ _ (four_read _ _ _ _ _ _ _ m.ready _ _ _ _ _ _ c.requires.2 c.requires.0 l.invariant _ c.four_starts-starts.ensures b.0 h c.read_four.ensures) (omega arith)

pub offset_bounds-val-at : goal.offset_bounds-val-at
offset_bounds-val-at g c =
    let m = c.args.lines.now in
    let e = lines_end c.loop-o.o 1 _ (length m.inner.now) _ (omega (arith, c.loop-o-test.true)) c.loop-o.invariant.rows.long in
    let h : c.loop-o.o * length m.inner.now + c.args.from ≤ length c.loop-o.val = omega (arith, e, c.requires.1, c.requires.2) in search rules

pub read_line-requires : goal.read_line-requires
read_line-requires g c =
    let m = c.args.lines.now in
    let p = c.outer_part-part.ensures in
    let n = c.args.until - c.args.from in
    let at = c.loop-o.o * length m.inner.now + c.args.from in
    let e = lines_end c.loop-o.o 1 _ (length m.inner.now) _ (omega (arith, c.loop-o-test.true)) c.loop-o.invariant.rows.long in
    subst (λ (x : ℕ). Inside m.file.now c.outer_part-part.result.byte c.outer_part-part.result.place c.args.parts.now x)
    (sym (part_length at (at + n - at) n c.loop-o.val (omega (arith, e, c.requires.1, c.requires.2)) (omega arith)))
    (parts_inside _ _ _ _ _ m.ready _ _ _ c.requires.0 c.requires.2 _ _ _ c.loop-o-test.true p.byte_is p.place_is c.requires.3)

pub loop-o-preserved : goal.loop-o-preserved
loop-o-preserved g c =
    let m = c.args.lines.now in
    let p = c.outer_part-part.ensures in
    let e = lines_end c.loop-o.o 1 _ (length m.inner.now) _ (omega (arith, c.loop-o-test.true)) c.loop-o.invariant.rows.long in
    line_read _ _ _ _ _ _ _ m.ready _ _ _ _ _ _ c.requires.2 c.requires.0 c.loop-o.invariant _ _ p.byte_is p.place_is c.loop-o-test.true
    (drawn_part g.T.BedVal.width.zero (c.loop-o.o * length m.inner.now + c.args.from) _ (c.args.until - c.args.from) _ _ _ (omega (arith, e, c.requires.1, c.requires.2)) (omega arith) c.read_line.ensures)
