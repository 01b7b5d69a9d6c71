-- `count_marked`: as many marks pass as places are marked.
use Rattle.std.proofs.Common.{sym, ap, ◌∙◌}
use lib.Seq.{take_all}
use Rattle.std.specs.List.{count_by}
use Rattle.index.proofs.MarkLaws.{is_chosen, counted}
use Rattle.index.proofs.marks.count_marked.Goals as goal

pub returns : goal.returns
returns c = c.loop-mark.invariant ∙ ap (count_by is_chosen) (take_all _ _ c.loop-mark-test.false) ∙ sym (counted _)
