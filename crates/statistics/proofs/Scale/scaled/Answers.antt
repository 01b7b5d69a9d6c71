-- `scaled` is `scaled_by`, test by test.
use Rattle.std.proofs.Common.{sym, ◌∙◌}
use lib.Ieee.{binary64, of_bits}
use Rattle.statistics.proofs.FloatLaws.{scaled_infinite, scaled_nan, scaled_number}
use Rattle.statistics.proofs.Scale.scaled.Goals as goal
use Rattle.statistics.proofs.Scale.scaled.Goals.{then-self-via-then-self, then-self-via-else-self+then-is_nan}

pub returns-then-self : goal.returns-then-self
unfolding of_bits
returns-then-self c = elim c.then-self.branch [
  | then-self-via-then-self w ↦ scaled_infinite binary64 _ _ _ _ w.if-self.true
  | then-self-via-else-self+then-is_nan w ↦ scaled_nan binary64 _ _ _ _ (sym w.is_nan.ensures.value ∙ w.if-is_nan.true)
]

pub returns : goal.returns
unfolding of_bits
returns c = scaled_number binary64 _ _ _ _ c.if-self.false (sym c.is_nan.ensures.value ∙ c.if-is_nan.false)
