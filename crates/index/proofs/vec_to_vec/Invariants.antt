-- `vec_to_vec`: after k turns the buffer's first k places hold the list's first k numbers.
use Rattle.std.proofs.Common.{take}
use Rattle.index.proofs.BufferLaws.{Filled}
use Rattle.index.proofs.vec_to_vec.Given as goal

abbrev pub invariant-loop-k : goal.invariant-loop-k
invariant-loop-k l = Filled (take l.k l.vec) l.initial.list l.k l.list
