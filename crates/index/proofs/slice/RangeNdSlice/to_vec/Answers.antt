-- `RangeNdSlice::to_vec`: 19, or each number in turn.
use Rattle.std.proofs.Common.{pos, sym, arith, ◌∙◌}
use borrow.Author.Rules.{sfits_of}
use lib.Seq.{take_all}
use mir.Syntax.{w64}
use mir.Facts.{to_z-of_z}
use Rattle.std.proofs.lemmas.List.{take_more}
use Rattle.index.proofs.BufferLaws.{too_short, filled_placed, filled_more}
use Rattle.index.proofs.slice.RangeNdSlice.to_vec.Goals as goal

pub returns-then-n-room : goal.returns-then-n-room
returns-then-n-room c = too_short _ _ (omega (arith, c.len-n.ensures))

pub loop-k-preserved : goal.loop-k-preserved
loop-k-preserved c =
    filled_more _ _ _ c.loop-k.invariant (omega arith) (take_more _ _ (pos 0) (omega (arith, c.len-n.ensures)))
    (to_z-of_z {w = w64} (sfits_of c.number_at.type_inv) ∙ c.number_at.ensures)

pub returns : goal.returns
returns c = filled_placed _ _ (sym c.len-n.ensures) c.if-n-room.false (sym (take_all _ _ (omega (arith, c.len-n.ensures)))) c.loop-k.invariant
