use Rattle.std.proofs.Common.{sym, ◌∙◌, rules}
use Rattle.call_counts.proofs.CountLaws.{counted_none}
use Rattle.call_counts.proofs.count_all.Goals as goal

pub count_along-requires : goal.count_along-requires
count_along-requires c = (sym c.is_along_block.ensures ∙ c.if-is_along_block.true, counted_none _ _ _ _ _ _ _ (c.fill.ensures.len ∙ c.requires) (λ p h. search rules))

pub count_resolved-requires : goal.count_resolved-requires
count_resolved-requires c = counted_none _ _ _ _ _ _ _ (c.fill.ensures.len ∙ c.requires) (λ p h. search rules)
