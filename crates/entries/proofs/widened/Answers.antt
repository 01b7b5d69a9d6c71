-- `widened`: the first item, or one more.
use Rattle.std.proofs.Common.{sym, ap, ◌∙◌}
use Rattle.entries.specs.Private.{span_numbers, bytes_of}
use Rattle.entries.proofs.SpanLaws.{span_first, item_next}
use Rattle.entries.proofs.widened.Goals as goal

pub returns-in-None : goal.returns-in-None
returns-in-None c count before entry q s = span_first count entry _ q before (sym (ap (λ o. span_numbers (bytes_of o)) c.in-None.is) ∙ s)

pub returns-in-Some : goal.returns-in-Some
returns-in-Some c count before entry q s =
    item_next count before entry _ _ _ _ _ c.min.ensures c.max.ensures q (sym (ap (λ o. span_numbers (bytes_of o)) c.in-Some.is) ∙ s)
