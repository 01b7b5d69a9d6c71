-- `check_canonical`: what `accept` says, then the length to be written.
use Rattle.std.proofs.Common.{refl, ◌∙◌}
use Rattle.answer.proofs.AnswerLaws.{error_told}
use Rattle.canonical.specs.Says.{canonical_number, canonical_says}
use Rattle.canonical.proofs.CanonicalLaws.{canonical_refused, size_refused, length_right, length_wrong}
use Rattle.canonical.proofs.checks.check_canonical.Goals as goal

pub returns-in_err-accept : goal.returns-in_err-accept
returns-in_err-accept c = error_told canonical_says canonical_number (λ _. refl) _ _ c.from_residual.ensures.1 ∙ canonical_refused _ _ _ _ _ c.in_err-accept.ensures

pub returns-in_err-length : goal.returns-in_err-length
returns-in_err-length c = error_told canonical_says canonical_number (λ _. refl) _ _ c.from_residual-in_err-length.ensures.1 ∙ size_refused _ _ _ _ c.in_ok-accept.ensures _ c.in_err-length.ensures

pub returns-then-out_len-length : goal.returns-then-out_len-length
returns-then-out_len-length c = length_wrong _ _ _ _ c.in_ok-accept.ensures _ c.in_ok-length.ensures c.if-out_len-length.true

pub returns : goal.returns
returns c = length_right _ _ _ _ c.in_ok-accept.ensures _ c.in_ok-length.ensures c.if-out_len-length.false
