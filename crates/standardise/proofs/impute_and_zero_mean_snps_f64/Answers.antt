-- `impute_and_zero_mean_snps_f64`: the checks in order, then the loop of the matrix order.
use mathlib.Core.Path.{◌≡◌, sym, ◌∙◌}
use mathlib.Core.Bool.{true, false}
use lib.Ieee.{binary64}
use Rattle.answer.specs.Answer.{Answer}
use Rattle.standardise.specs.Standardised.{buffer_checks}
use Rattle.standardise.proofs.CallLaws.{counts_too_large, values_mismatch, stats_mismatch, checks_pass, call_refused, call_made}
use Rattle.standardise.proofs.impute_and_zero_mean_snps_f64.Goals as goal
use Rattle.standardise.proofs.impute_and_zero_mean_snps_f64.Goals.{Else-not-product_is-2}

pub returns-then-not-counts_fit : goal.returns-then-not-counts_fit
returns-then-not-counts_fit c = call_refused binary64 _ _ _ _ _ _ _ 18 (λ later. counts_too_large _ _ _ _ later (sym c.counts_fit.ensures ∙ c.if-not-counts_fit.true))

pub returns-then-not-product_is : goal.returns-then-not-product_is
returns-then-not-product_is c =
    call_refused binary64 _ _ _ _ _ _ _ 15 (λ later. values_mismatch _ _ _ _ later (sym c.counts_fit.ensures ∙ c.if-not-counts_fit.false) (sym c.product_is.ensures ∙ c.if-not-product_is.true))

pub returns-then-not-product_is-2 : goal.returns-then-not-product_is-2
returns-then-not-product_is-2 c =
    call_refused binary64 _ _ _ _ _ _ _ 17
    (λ later. stats_mismatch _ _ _ _ later (sym c.counts_fit.ensures ∙ c.if-not-counts_fit.false) (sym c.product_is.ensures ∙ c.if-not-product_is.false) (sym c.product_is-2.ensures ∙ c.if-not-product_is-2.true))

-- the checks find nothing
passed : (c : Else-not-product_is-2) (later : Answer) → let a = c.args in buffer_checks a.iid_count a.sid_count a.val.now a.stats.now later ≡ later
passed c later =
    checks_pass _ _ _ _ later (sym c.counts_fit.ensures ∙ c.if-not-counts_fit.false) (sym c.product_is.ensures ∙ c.if-not-product_is.false) (sym c.product_is-2.ensures ∙ c.if-not-product_is-2.false)

pub returns-then-animal_order : goal.returns-then-animal_order
returns-then-animal_order c = call_made binary64 _ _ _ _ _ _ _ (passed (goal.at.returns-then-animal_order c).Else-not-product_is-2) true c.if-animal_order.true _ _ _ c.process_all_iids.ensures

pub returns : goal.returns
returns c = call_made binary64 _ _ _ _ _ _ _ (passed (goal.at.returns c).Else-not-product_is-2) false c.if-animal_order.false _ _ _ c.process_all_sids.ensures
