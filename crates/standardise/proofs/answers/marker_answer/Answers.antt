-- `marker_answer` is `marker_answer`, case by case.
use Rattle.std.proofs.Common.{◌≡◌, sym, ap, ◌∙◌}
use Rattle.std.specs.Prelude.{Err}
use Rattle.statistics.specs.declared.MarkerError.TheVariants.{NoIndividuals, IllegalSnpMean}
use Rattle.standardise.specs.Standardised.{marker_answer}
use Rattle.standardise.proofs.answers.marker_answer.Goals as goal

pub returns-in-Ok : goal.returns-in-Ok
unfolding marker_answer
returns-in-Ok c = sym (ap (marker_answer c.args.m) c.in-Ok.is)

pub returns-in-Err-NoIndividuals : goal.returns-in-Err-NoIndividuals
unfolding marker_answer
returns-in-Err-NoIndividuals c =
    let w = c.in-Err-NoIndividuals in
    let e : w.field-0 ≡ NoIndividuals = rw w.is at w.field-0-is in
    sym (ap (marker_answer c.args.m) (w.is ∙ ap Err e))

pub returns-in-Err-IllegalSnpMean : goal.returns-in-Err-IllegalSnpMean
unfolding marker_answer
returns-in-Err-IllegalSnpMean c =
    let w = c.in-Err-IllegalSnpMean in
    let e : w.field-0 ≡ IllegalSnpMean = rw w.is at w.field-0-is in
    sym (ap (marker_answer c.args.m) (w.is ∙ ap Err e))
