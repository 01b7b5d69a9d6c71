-- `vec_to_vec`: 19, or each number in turn.
use Rattle.std.proofs.Common.{pos, refl, sym, arith}
use borrow.Author.Rules.{sfits_of}
use lib.Seq.{take_all}
use mir.Syntax.{w64}
use mir.Facts.{to_z-of_z}
use Rattle.std.proofs.lemmas.List.{take_more}
use Rattle.index.proofs.BufferLaws.{too_short, filled_placed, filled_more}
use Rattle.index.proofs.vec_to_vec.Goals as goal

pub returns-then-vec-list : goal.returns-then-vec-list
returns-then-vec-list c = too_short _ _ c.if-vec-list.true

pub loop-k-preserved : goal.loop-k-preserved
loop-k-preserved c = filled_more _ _ _ c.loop-k.invariant (omega arith) (take_more _ _ (pos 0) (omega arith)) (to_z-of_z {w = w64} (sfits_of c.list-1.given))

pub returns : goal.returns
returns c = filled_placed _ _ refl c.if-vec-list.false (sym (take_all _ _ (omega arith))) c.loop-k.invariant
