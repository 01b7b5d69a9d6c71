-- `is_infinite` is `is_infinite`.
use Rattle.std.proofs.Common.{◌∙◌}
use lib.Ieee.{of_bits}
use Rattle.statistics.proofs.FloatLaws.{infinity_above, infinity_below}
use Rattle.statistics.proofs.is_infinite.Goals as goal

pub returns-then-x : goal.returns-then-x
unfolding of_bits
returns-then-x c = c.if-x.true ∙ infinity_above _ c.if-x.true

pub returns-else-x : goal.returns-else-x
unfolding of_bits
returns-else-x c = infinity_below _ c.if-x.false
