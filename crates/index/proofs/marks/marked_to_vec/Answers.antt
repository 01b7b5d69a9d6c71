-- `marked_to_vec`: 19, or each marked place in turn.
use Rattle.std.proofs.Common.{◌<◌, length, arith, sym}
use mir.Facts.{to_z_pos}
use mir.Syntax.{w64}
use Rattle.index.specs.Numbers.{numbers_below}
use Rattle.index.proofs.MarkLaws.{marked_before, unmarked, is_marked_law, room_for, all_marked}
use Rattle.index.proofs.BufferLaws.{too_short, filled_placed, filled_none, filled_more, filled_as}
use Rattle.index.proofs.marks.marked_to_vec.Goals as goal
use Rattle.index.proofs.marks.marked_to_vec.Goals.{then-mark-ne0, else-mark-ne0}

pub returns-then-n-list : goal.returns-then-n-list
returns-then-n-list c = too_short _ _ (omega (arith, c.count_marked-n.ensures))

pub loop-i-init : goal.loop-i-init
unfolding marked_before numbers_below
loop-i-init c = filled_none _

pub bounds-list-at : goal.bounds-list-at
bounds-list-at c =
    let room : c.loop-i.at < length c.args.list.now =
    room_for _ _ c.if-mark-ne0.true _ _ c.loop-i-test.true (sym c.loop-i.invariant.count) (omega (arith, c.count_marked-n.ensures)) in
    omega (arith, c.loop-i.invariant.long)

pub loop-i-preserved : goal.loop-i-preserved
loop-i-preserved c =
    elim c.if-mark-ne0.branch [
      | then-mark-ne0 w ↦ rw (w.at-is, w.list-is)
          (filled_more _ _ _ c.loop-i.invariant (room_for _ _ w.if-mark-ne0.true _ _ c.loop-i-test.true (sym c.loop-i.invariant.count) (omega (arith, c.count_marked-n.ensures)))
          (is_marked_law _ _ w.if-mark-ne0.true) (to_z_pos w64 (omega arith)))
      | else-mark-ne0 w ↦ rw (w.at-is, w.list-is) (filled_as _ c.loop-i.invariant (unmarked _ _ w.if-mark-ne0.false))
    ]

pub returns : goal.returns
returns c = filled_placed _ _ (sym c.count_marked-n.ensures) c.if-n-list.false (all_marked _ _ c.loop-i.auto.i-end c.loop-i-test.false) c.loop-i.invariant
