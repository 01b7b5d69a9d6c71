-- `read_standardised_f64`: its own 18, 15 and 17, then the reading, then the standardiser.
use mathlib.Core.Path.{refl, sym, ◌∙◌}
use mathlib.Core.List.{[]}
use native.Mathlib.Omega.{arith}
use lib.Ieee.{binary64, of_bits, div}
use mathlib.Core.Bool.{true, false}
use Rattle.answer.specs.Answer.{done}
use Rattle.answer.proofs.AnswerLaws.{error_said}
use Rattle.bed_read.proofs.ReadLaws.{error_refuses}
use Rattle.read_standardised.specs.Says.{joined_says}
use Rattle.read_standardised.proofs.JoinLaws.{counts_too_large, values_mismatch, stats_mismatch, call_refused, standardised_after, refused_after}
use Rattle.read_standardised.proofs.Never14.{never_14_after}
use Rattle.read_standardised.proofs.read_standardised_f64.Goals as goal

pub returns-then-not-counts_fit : goal.returns-then-not-counts_fit
returns-then-not-counts_fit c = call_refused binary64 _ _ _ _ _ _ _ _ _ _ refl (counts_too_large _ _ _ _ _ _ _ (sym c.counts_fit.ensures ∙ c.if-not-counts_fit.true))

pub returns-then-not-product_is : goal.returns-then-not-product_is
returns-then-not-product_is c =
    call_refused binary64 _ _ _ _ _ _ _ _ _ _ refl (values_mismatch _ _ _ _ _ _ _ (sym c.counts_fit.ensures ∙ c.if-not-counts_fit.false) (sym c.product_is.ensures ∙ c.if-not-product_is.true))

pub returns-then-not-product_is-2 : goal.returns-then-not-product_is-2
returns-then-not-product_is-2 c =
    call_refused binary64 _ _ _ _ _ _ _ _ _ _ refl (stats_mismatch _ _ _ _ _ _ _ (sym c.counts_fit.ensures ∙ c.if-not-counts_fit.false) (sym c.product_is.ensures ∙ c.if-not-product_is.false) (sym c.product_is-2.ensures ∙ c.if-not-product_is-2.true))

pub of_standardising-requires : goal.of_standardising-requires
unfolding of_bits div
of_standardising-requires c =
    let read = c.in_ok-read_no_alloc.ensures in never_14_after binary64 _ _ _ _ _ _ _ _ _ (done []) _ _ refl read.0 read.1 true refl refl _ c.impute_and_zero_mean_snps_f64.ensures.0

pub returns : goal.returns
unfolding of_bits div
returns c =
    let read = c.in_ok-read_no_alloc.ensures in
    standardised_after binary64 _ _ _ _ _ _ _ _ _ (omega (arith, c.well_formed.1.1.1.1.0.1)) (omega (arith, c.well_formed.1.1.1.1.1.0.1)) (sym c.product_is-2.ensures ∙ c.if-not-product_is-2.false)
    (done []) _ _ refl read.0 read.1 true refl refl _ _ _ _ c.of_standardising.ensures c.impute_and_zero_mean_snps_f64.ensures

pub returns-in_err-read_no_alloc : goal.returns-in_err-read_no_alloc
unfolding of_bits div
returns-in_err-read_no_alloc c =
    let read = c.in_err-read_no_alloc.ensures in
    let kept = refused_after binary64 _ _ _ _ _ _ _ _ _ (omega (arith, c.well_formed.1.1.1.1.0.1)) (omega (arith, c.well_formed.1.1.1.1.1.0.1)) (sym c.product_is-2.ensures ∙ c.if-not-product_is-2.false)
    _ _ _ refl read.0 read.1 false (sym (error_refuses _)) refl in
    (error_said joined_says _ _ c.from_residual.ensures.1 ∙ kept.0, kept.1, kept.2)
