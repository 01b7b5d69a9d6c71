-- A marker's three numbers in their places, and the pair that is lent out of them.
use mathlib.Core.Path.{◌≡◌, refl}
use mathlib.Core.Bool.{true}
use mathlib.Core.List.{◌++◌}
use lib.ListN.{length, get_or}
use lib.Ieee.{Float, nan, binary64}
use Rattle.statistics.specs.declared.Stats.{Stats}
use Rattle.std.specs.Prelude.{Ok}
use Rattle.statistics.specs.Statistics.{lent, found_for, stats_per_marker, in_places, stats_at}

module _ (s : Stats) (observed : Float) where
  -- they fill the places
  pub fills_places : length (in_places s observed) ≡ stats_per_marker
  unfolding in_places
  fills_places = refl

  -- "three numbers: mean, deviation and observed count"
  pub third_place : get_or (in_places s observed) 2 nan ≡ observed
  unfolding in_places
  third_place = refl

  -- of a record that was stored the pair is lent, whatever its third number, also behind another record
  pub lent_back : stats_at (in_places s observed) 0 ≡ s
  unfolding in_places stats_at
  lent_back = refl

  pub lent_back_behind : (r : Stats) (other : Float) → stats_at (in_places r other ++ in_places s observed) 1 ≡ s
  unfolding in_places stats_at
  lent_back_behind r other = refl

-- a marker with no value is not refused if statistics are lent
pub none_but_lent : (s : Stats) → found_for binary64 true s 2 (λ i. nan) ≡ Ok (lent s)
unfolding found_for
none_but_lent s = refl
