-- `get_stats` reads the places of marker m.
use Rattle.std.proofs.Common.{refl}
use Rattle.statistics.specs.Statistics.{stats_at}
use Rattle.standardise.proofs.stats_buffer.get_stats.Goals as goal

pub returns : goal.returns
unfolding stats_at
returns c = refl
