-- `canonical`: the checks, then the canonical file of the accepted one.
use Rattle.std.proofs.Common.{ℕ, ◌+◌, ◌*◌, [], sym, ap, refl, ◌∙◌, arith}
use Rattle.answer.specs.Answer.{done, is_done}
use Rattle.answer.proofs.AnswerLaws.{same_error}
use Rattle.blocks.specs.Block.{block_width}
use Rattle.calls.proofs.PlaceLaws.{shape_read}
use Rattle.canonical.specs.Says.{canonical_says}
use Rattle.canonical.proofs.CanonicalLaws.{writable, canonical_wrote, canonical_kept}
use Rattle.canonical.proofs.canonical.Goals as goal

pub returns-in_err-check_canonical : goal.returns-in_err-check_canonical
returns-in_err-check_canonical c =
    let told = c.in_err-check_canonical.ensures in
    (ap canonical_says (same_error _ _ c.from_residual.ensures.1) ∙ told, canonical_kept _ _ _ _ _ told refl)

pub invariant_of-accepted : goal.invariant_of-accepted
invariant_of-accepted c =
    let e = c.shape_of.ensures in
    let g = writable c.args.file.now c.args.iid_count c.args.sid_count _ (sym (ap is_done c.in_ok-check_canonical.ensures)) in
    record {
      shaped = shape_read _ _ _ _ e g.accepts.length_is;
      iids_fit = omega (arith, g.accepts.iids_fit, e.iids_are);
      width_is = c.block_width.ensures ∙ ap block_width (sym e.iids_are);
    }

pub write-requires : goal.write-requires
write-requires c =
    let e = c.shape_of.ensures in
    let g = writable c.args.file.now c.args.iid_count c.args.sid_count _ (sym (ap is_done c.in_ok-check_canonical.ensures)) in
    g.out_long ∙ ap (λ (x : ℕ). 3 + x * c.args.sid_count) (sym c.block_width.ensures) ∙ ap (λ (x : ℕ). 3 + c.block_width.result * x) (sym e.sids_are)

pub returns : goal.returns
returns c = (
  c.in_ok-check_canonical.ensures,
  canonical_wrote _ _ _ _ _ _ (done []) c.in_ok-check_canonical.ensures refl c.shape_of.ensures c.write.ensures,
)
