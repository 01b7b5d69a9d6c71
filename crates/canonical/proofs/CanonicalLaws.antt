-- Laws of the canonical call's checks, and of the later buffer.
use mathlib.Core.Path.{◌≡◌, sym, ap, subst, ◌∙◌}
use mathlib.Core.Bool.{true, false}
use mathlib.Core.List.{List, [], ◌∷◌}
use Prim.Native.Nat.{ℕ, ◌-◌, ◌^◌, ◌≤◌}
use borrow.Author.Tests.{eqb-true, eq-eqb, ne_eqb, leb-true}
use lib.Dec.{eqb, leb}
use lib.IntN.{pos}
use lib.ListN.{length}
use Rattle.answer.specs.Answer.{Answer, done, refused, check, check_count, is_done}
use Rattle.blocks.specs.Block.{file_length, check_size, size_answer}
use Rattle.answer.proofs.AnswerLaws.{Stage, count_stage, then_stage, heard, stays, check_passes, check_refuses, check_done, count_done, count_passes, new_if_done, old_if_not, before_later}
use Rattle.blocks.proofs.Widths.{size_refuses, size_passes, size_is}
use Rattle.bed_file.specs.File.{check_file, accept_answer}
use Rattle.bed_file.proofs.FileLaws.{Accepted, accepted, file_stage}
use Rattle.calls.specs.declared.Shape.{Shape}
use Rattle.calls.specs.Places.{IsShape}
use Rattle.canonical.specs.Canonical.{canonical_answer, canonical_file, canonical_buffer}

-- ---- the checks, by what `accept` and then `try_file_length` say
module _ (file : List ℕ) (iids sids out_length : ℕ) where
  read_stage : Stage (λ later. check_count iids (check_count sids (check_file file iids sids later)))
  read_stage = then_stage (count_stage iids) (then_stage (count_stage sids) (file_stage file iids sids))

  pub canonical_refused : (k : ℕ) → refused k [] ≡ accept_answer file iids sids → refused k [] ≡ canonical_answer file iids sids out_length
  unfolding canonical_answer accept_answer
  canonical_refused k e = sym (stays read_stage [] k [] (sym e) _)

  module _ (d : done [] ≡ accept_answer file iids sids) where
    abbrev later : ℕ → Answer
    later n = check (eqb out_length n) 16 (done [])

    left : canonical_answer file iids sids out_length ≡ check_count iids (check_count sids (check_size iids sids (later (file_length iids sids))))
    unfolding canonical_answer accept_answer
    left =
        let acc = accepted file iids sids (sym (ap is_done d)) in
        heard read_stage [] (sym (ap is_done d)) (check_size iids sids (later (file_length iids sids)))
        ∙ sym (count_passes iids _ acc.iids_fit ∙ count_passes sids _ acc.sids_fit)

    pub size_refused : (k : ℕ) → refused k [] ≡ size_answer iids sids → refused k [] ≡ canonical_answer file iids sids out_length
    size_refused k e = sym (left ∙ size_refuses iids sids _ k e)

    module _ (n : ℕ) (e : done (pos n ∷ []) ≡ size_answer iids sids) where
      after_size : canonical_answer file iids sids out_length ≡ later n
      after_size = left ∙ size_passes iids sids _ n e ∙ ap later (sym (size_is iids sids n e))

      pub length_right : out_length ≡ n → done [] ≡ canonical_answer file iids sids out_length
      length_right h = sym (after_size ∙ check_passes (eqb out_length n) 16 (done []) (eq-eqb out_length n h))

      pub length_wrong : (out_length ≡ n → ⊥) → refused 16 [] ≡ canonical_answer file iids sids out_length
      length_wrong h = sym (after_size ∙ check_refuses (eqb out_length n) 16 (done []) (ne_eqb out_length n h))

-- ---- what is known where the canonical call is done
pub record Writable (file : List ℕ) (iids sids out_length : ℕ) : Type 0 where
  pub accepts : Accepted file iids sids
  pub fits : file_length iids sids ≤ 2 ^ 64 - 1
  pub out_long : out_length ≡ file_length iids sids

accept_done : (file : List ℕ) (iids sids : ℕ) (later : Answer) → is_done (check_count iids (check_count sids (check_file file iids sids later))) ≡ true → is_done (accept_answer file iids sids) ≡ true
unfolding accept_answer
accept_done file iids sids later d = before_later (read_stage file iids sids 0) later d

pub writable : (file : List ℕ) (iids sids out_length : ℕ) → is_done (canonical_answer file iids sids out_length) ≡ true → Writable file iids sids out_length
unfolding canonical_answer check_size
writable file iids sids out_length d =
    let later = check_size iids sids (check (eqb out_length (file_length iids sids)) 16 (done [])) in
    let acc = accepted file iids sids (accept_done file iids sids later d) in
    let d0 = count_done iids _ d in
    let d1 = count_done sids _ d0.1 in
    let d2 : is_done later ≡ true = subst (λ (x : Answer). is_done x ≡ true) (acc.heard_later later) d1.1 in
    let d3 = check_done (leb (file_length iids sids) (2 ^ 64 - 1)) 4 _ d2 in
    let d4 = check_done (eqb out_length (file_length iids sids)) 16 _ d3.1 in
    record { accepts = acc; fits = leb-true (file_length iids sids) (2 ^ 64 - 1) d3.0; out_long = eqb-true out_length (file_length iids sids) d4.0 }

-- ---- the later buffer
pub canonical_wrote :
    (file : List ℕ) (iids sids : ℕ) (shape : Shape) (old out : List ℕ) (a : Answer) → a ≡ canonical_answer file iids sids (length old) → is_done a ≡ true
    → IsShape file iids sids shape → out ≡ canonical_file file shape.iids shape.sids → out ≡ canonical_buffer file iids sids old
unfolding canonical_buffer
canonical_wrote file iids sids shape old out a e d s o =
    o
    ∙ ap (λ (x : ℕ). canonical_file file x shape.sids) s.iids_are
    ∙ ap (canonical_file file iids) s.sids_are
    ∙ sym (new_if_done _ _ old (sym (ap is_done e) ∙ d))

pub canonical_kept :
    (file : List ℕ) (iids sids : ℕ) (old : List ℕ) (a : Answer) → a ≡ canonical_answer file iids sids (length old) → is_done a ≡ false
    → old ≡ canonical_buffer file iids sids old
unfolding canonical_buffer
canonical_kept file iids sids old a e d = sym (old_if_not _ _ old (sym (ap is_done e) ∙ d))
