-- The places so far.
use Rattle.std.proofs.Common.{◌≡◌, map, take}
use Rattle.std.specs.List.{range_with_len}
use Rattle.stored_list.specs.Words.{word_at}
use Rattle.stored_list.proofs.line.Line.buffer_at.Given as goal

abbrev pub invariant-loop-i : goal.invariant-loop-i
invariant-loop-i g l = take l.i l.buffer ≡ map (λ i. g.T.Stored.value (word_at l.fn.self l.fn.section i)) (range_with_len 0 l.i)
