-- `load`: the markers passed are loaded.
use Rattle.std.proofs.Common.{◌≡◌, ℕ, ◌+◌, ◌<◌, length}
use lib.Ieee.{binary64}
use Rattle.statistics.specs.Statistics.{stats_at}
use Rattle.standardise.specs.Private.{tile_width, scale_at, scale_of}
use Rattle.standardise.proofs.animal_order.Scales.load.Given as goal

abbrev pub invariant-loop-j : goal.invariant-loop-j
invariant-loop-j l = (length l.self.means ≡ tile_width) × (length l.self.deviations ≡ tile_width) × (length l.self.factors ≡ tile_width)
    × ((k : ℕ) → k < l.j → scale_at l.self k ≡ scale_of binary64 (stats_at l.stats (l.base + k)))
