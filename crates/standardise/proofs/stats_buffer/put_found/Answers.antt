-- `put_found`, by what is found.
use Rattle.std.proofs.Common.{◌∙◌}
use Rattle.standardise.proofs.ChoiceLaws.{lent_kept, found_stored, refused_stays}
use Rattle.standardise.proofs.stats_buffer.put_found.Goals as goal

pub returns-in-Some : goal.returns-in-Some
returns-in-Some c = c.put_stats.ensures ∙ found_stored _ _ _ _ _ c.in-Ok.is c.in-Some.is

pub returns-in_default-observed : goal.returns-in_default-observed
returns-in_default-observed c = lent_kept _ _ _ _ c.in-Ok.is c.in_default-observed.is

pub returns-in_default : goal.returns-in_default
returns-in_default c = refused_stays _ _ _ _ c.in_default.is
