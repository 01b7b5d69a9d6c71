-- `put_stats` writes the places of marker m.
use Rattle.standardise.proofs.ChoiceLaws.{stored}
use Rattle.standardise.proofs.stats_buffer.put_stats.Goals as goal

pub returns : goal.returns
returns c = stored c.args.stats.now c.args.m c.args.s c.args.observed
