-- `find_stats` is `stats_from`, test by test.
use Rattle.std.proofs.Common.{sym, ◌∙◌}
use mathlib.Core.Bool.{true≢false}
use lib.Ieee.{binary64, of_bits}
use Rattle.statistics.proofs.FloatLaws.{few_none, mean_nan, stats_found}
use Rattle.statistics.proofs.Accumulator.find_stats.Goals as goal
use Rattle.statistics.proofs.Accumulator.find_stats.Goals.{then-is_nan-2, else-is_nan-2}

pub returns-then-self : goal.returns-then-self
unfolding of_bits
returns-then-self c = few_none binary64 _ c.if-self.true

pub returns-then-is_nan : goal.returns-then-is_nan
unfolding of_bits
returns-then-is_nan c = mean_nan binary64 _ c.if-self.false (sym c.is_nan.ensures.value ∙ c.if-is_nan.true)

pub returns-then-root : goal.returns-then-root
unfolding of_bits
returns-then-root c =
    stats_found binary64 _ c.if-self.false _ _ (sym c.is_nan.ensures.value ∙ c.if-is_nan.false) c.root_f64-root.ensures
    (elim c.if-is_nan-2.branch [
      | then-is_nan-2 w ↦ simp (sym c.is_nan-2.ensures.value ∙ w.if-is_nan-2.true)
      | else-is_nan-2 w ↦ simp (sym c.is_nan-2.ensures.value ∙ w.if-is_nan-2.false, sym w.value-is ∙ c.if-root.true)
    ])

pub returns-else-root : goal.returns-else-root
unfolding of_bits
returns-else-root c =
    stats_found binary64 _ c.if-self.false _ _ (sym c.is_nan.ensures.value ∙ c.if-is_nan.false) c.root_f64-root.ensures
    (elim c.if-is_nan-2.branch [
      | then-is_nan-2 w ↦ absurd (true≢false (sym w.if-is_nan-2.true ∙ sym w.value-is ∙ c.if-root.false))
      | else-is_nan-2 w ↦ simp (sym c.is_nan-2.ensures.value ∙ w.if-is_nan-2.false, sym w.value-is ∙ c.if-root.false)
    ])
