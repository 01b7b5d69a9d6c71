-- `read_then_standardise_f64`: the reading, then the standardiser of what it left.
use mathlib.Core.Path.{refl}
use lib.Ieee.{binary64, of_bits, div}
use Rattle.read_standardised.proofs.JoinLaws.{in_turn_left}
use Rattle.read_standardised.proofs.in_turn.read_then_standardise_f64.Goals as goal

pub returns : goal.returns
unfolding of_bits div
returns c = in_turn_left binary64 _ _ _ _ _ _ _ _ _ _ _ _ _ _ refl c.read_no_alloc-reading.ensures _ _ _ c.impute_and_zero_mean_snps_f64-standardising.ensures
