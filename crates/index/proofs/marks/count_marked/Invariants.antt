-- `count_marked`: n is how many marks so far are not 0.
use Rattle.std.proofs.Common.{◌≡◌, take}
use Rattle.std.specs.List.{count_by}
use Rattle.index.proofs.MarkLaws.{is_chosen}
use Rattle.index.proofs.marks.count_marked.Given as goal

abbrev pub invariant-loop-mark : goal.invariant-loop-mark
invariant-loop-mark l = l.n ≡ count_by is_chosen (take l.mark-index l.marks)
