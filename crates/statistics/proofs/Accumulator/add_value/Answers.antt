-- `add_value` is `counted`.
use Rattle.std.proofs.Common.{sym, ◌∙◌}
use lib.Ieee.{of_bits, binary64}
use Rattle.statistics.proofs.FloatLaws.{nan_counted, number_counted}
use Rattle.statistics.proofs.Accumulator.add_value.Goals as goal

pub returns-then-is_nan : goal.returns-then-is_nan
returns-then-is_nan c = nan_counted binary64 _ _ (sym c.is_nan.ensures.value ∙ c.if-is_nan.true)

pub returns : goal.returns
unfolding of_bits
returns c = number_counted binary64 _ _ (sym c.is_nan.ensures.value ∙ c.if-is_nan.false)
