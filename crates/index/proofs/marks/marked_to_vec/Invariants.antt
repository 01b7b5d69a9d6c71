-- `marked_to_vec`: after i turns the buffer's first places hold those marked before i.
use Rattle.index.proofs.MarkLaws.{marked_before}
use Rattle.index.proofs.BufferLaws.{Filled}
use Rattle.index.proofs.marks.marked_to_vec.Given as goal

abbrev pub invariant-loop-i : goal.invariant-loop-i
invariant-loop-i l = Filled (marked_before l.marks l.i) l.initial.list l.at l.list
