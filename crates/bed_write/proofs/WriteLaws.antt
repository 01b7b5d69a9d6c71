-- Laws of the whole-file writer: its checks, and what it answers and leaves by what was found.
use mathlib.Core.Path.{◌≡◌, refl, sym, ap, ◌∙◌}
use mathlib.Core.Bool.{Bool, true, false}
use mathlib.Core.List.{List, [], ◌∷◌}
use Rattle.std.specs.Prelude.{Option, Some, None, Result, Ok, Err, IsErrAnd}
use Prim.Native.Nat.{ℕ, ◌-◌, ◌*◌, ◌^◌, ◌≤◌}
use native.Mathlib.Omega.{arith}
use borrow.Author.Tests.{eqb-true, leb-true, eq-eqb, ne_eqb}
use lib.Dec.{eqb, leb}
use lib.IntN.{pos}
use lib.ListN.{length}
use Rattle.answer.specs.Answer.{Answer, done, refused, check, count_limit, is_done}
use Rattle.blocks.specs.Block.{file_length, check_size, size_answer}
use Rattle.answer.proofs.AnswerLaws.{Stage, lets, refuses, check_stage, then_stage, heard, check_passes, check_refuses, check_done, count_done, new_if_done, old_if_not}
use Rattle.blocks.proofs.Widths.{size_stage, size_refuses, size_passes, size_is}
use Rattle.bed_write.specs.Packing.{or_zero}
use Rattle.bed_write.specs.Writing.{first_bad_call, check_call, check_buffers, write_answer, bed_file, write_buffer}
use Rattle.bed_write.specs.declared.write.WriteError.{WriteError}
use Rattle.bed_write.specs.declared.write.WriteError.TheVariants as writes
use Rattle.bed_write.specs.Says.{write_refusal, write_says}
use Rattle.bed_write.proofs.SearchLaws.{call}

-- ---- 18, 4, 15, 16, by the tests in order
pub buffers_stage : (iids sids val_length out_length : ℕ) → Stage (λ later. check_buffers iids sids val_length out_length later)
unfolding check_buffers
buffers_stage iids sids val_length out_length =
    then_stage (size_stage iids sids) (then_stage (check_stage (eqb (iids * sids) val_length) 15) (check_stage (eqb out_length (file_length iids sids)) 16))

module _ (iids sids val_length out_length : ℕ) where
  pub buffers_refused : (k : ℕ) → refused k [] ≡ size_answer iids sids → refused k [] ≡ check_buffers iids sids val_length out_length (done [])
  unfolding check_buffers
  buffers_refused k e = sym (size_refuses iids sids _ k e)

  module _ (n : ℕ) (e : done (pos n ∷ []) ≡ size_answer iids sids) where
    after_size : check_buffers iids sids val_length out_length (done []) ≡ check (eqb (iids * sids) val_length) 15 (check (eqb out_length n) 16 (done []))
    unfolding check_buffers
    after_size =
        size_passes iids sids _ n e ∙ ap (λ (k : ℕ). check (eqb (iids * sids) val_length) 15 (check (eqb out_length k) 16 (done []))) (sym (size_is iids sids n e))

    module _ (t : Bool) (p : t ≡ eqb (iids * sids) val_length) where
      pub buffers_mismatch : t ≡ false → refused 15 [] ≡ check_buffers iids sids val_length out_length (done [])
      buffers_mismatch f = sym (after_size ∙ check_refuses (eqb (iids * sids) val_length) 15 _ (sym p ∙ f))

      pub buffers_length : t ≡ true → (out_length ≡ n → ⊥) → refused 16 [] ≡ check_buffers iids sids val_length out_length (done [])
      buffers_length f h =
          sym (after_size ∙ check_passes (eqb (iids * sids) val_length) 15 _ (sym p ∙ f) ∙ check_refuses (eqb out_length n) 16 (done []) (ne_eqb out_length n h))

      pub buffers_done : t ≡ true → out_length ≡ n → done [] ≡ check_buffers iids sids val_length out_length (done [])
      buffers_done f h =
          sym (after_size ∙ check_passes (eqb (iids * sids) val_length) 15 _ (sym p ∙ f) ∙ check_passes (eqb out_length n) 16 (done []) (eq-eqb out_length n h))

-- ---- the writer, by what was found
module _ (iids sids : ℕ) (code : ℕ → ℕ → Option ℕ) (val_length : ℕ) (old : List ℕ) (d : done [] ≡ check_buffers iids sids val_length (length old) (done [])) where
  heard_later : (later : Answer) → check_buffers iids sids val_length (length old) later ≡ later
  heard_later = heard (buffers_stage iids sids val_length (length old)) [] (sym (ap is_done d))

  pub write_bad :
      (a m : ℕ) → Some (call a m) ≡ first_bad_call iids sids code
      → (refused 7 (pos a ∷ pos m ∷ []) ≡ write_answer iids sids code val_length (length old)) × (old ≡ write_buffer iids sids code val_length old)
  unfolding write_answer write_buffer check_call
  write_bad a m e =
      let q : write_answer iids sids code val_length (length old) ≡ refused 7 (pos a ∷ pos m ∷ []) =
      heard_later _ ∙ ap (λ o. check_call o (done [])) (sym e) in
      (sym q, sym (old_if_not _ _ old (ap is_done q)))

  pub write_done :
      None ≡ first_bad_call iids sids code → (out : List ℕ) → out ≡ bed_file iids sids (λ a m. or_zero (code a m))
      → (done [] ≡ write_answer iids sids code val_length (length old)) × (out ≡ write_buffer iids sids code val_length old)
  unfolding write_answer write_buffer check_call
  write_done e out o =
      let q : write_answer iids sids code val_length (length old) ≡ done [] = heard_later _ ∙ ap (λ o. check_call o (done [])) (sym e) in
      (sym q, o ∙ sym (new_if_done _ _ old (ap is_done q)))

-- where the buffers are refused
refused_stays : {F : Answer → Answer} → Stage F → (a later : Answer) → a ≡ F (done []) → is_done a ≡ false → a ≡ F later
refused_stays (lets f) a later e n = absurd (let q : ◌≡◌ {A = Bool} true false = sym (ap is_done (e ∙ f (done []))) ∙ n in let z : ◌≡◌ {A = ℕ} 0 1 = cc in omega arith)
refused_stays (refuses k vs f) a later e n = e ∙ f (done []) ∙ sym (f later)

pub write_refused :
    (iids sids : ℕ) (code : ℕ → ℕ → Option ℕ) (val_length : ℕ) (old : List ℕ) (a : Answer) → a ≡ check_buffers iids sids val_length (length old) (done []) → is_done a ≡ false
    → (a ≡ write_answer iids sids code val_length (length old)) × (old ≡ write_buffer iids sids code val_length old)
unfolding write_answer write_buffer
write_refused iids sids code val_length old a e n =
    let q = refused_stays (buffers_stage iids sids val_length (length old)) a (check_call (first_bad_call iids sids code) (done [])) e n in
    (q, sym (old_if_not _ _ old (sym (ap is_done q) ∙ n)))

-- ---- what is known where the buffers are right
pub record Passed (iids sids val_length out_length : ℕ) (a : Answer) : Type 0 where
  pub is_done_law : a ≡ done []
  pub pass : done [] ≡ check_buffers iids sids val_length out_length (done [])
  pub product : iids * sids ≡ val_length
  pub out_long : out_length ≡ file_length iids sids
  pub iids_fit : iids ≤ count_limit
  pub sids_fit : sids ≤ count_limit
  pub file_fits : file_length iids sids ≤ 2 ^ 64 - 1

pub passed : (iids sids val_length out_length : ℕ) (a : Answer) → a ≡ check_buffers iids sids val_length out_length (done []) → is_done a ≡ true → Passed iids sids val_length out_length a
unfolding check_buffers check_size
passed iids sids val_length out_length a e t =
    let d : is_done (check_buffers iids sids val_length out_length (done [])) ≡ true = sym (ap is_done e) ∙ t in
    let h = heard (buffers_stage iids sids val_length out_length) [] d (done []) in
    let d0 = count_done iids _ d in
    let d1 = count_done sids _ d0.1 in
    let d2 = check_done (leb (file_length iids sids) (2 ^ 64 - 1)) 4 _ d1.1 in
    let d3 = check_done (eqb (iids * sids) val_length) 15 _ d2.1 in
    let d4 = check_done (eqb out_length (file_length iids sids)) 16 _ d3.1 in
    record { is_done_law = e ∙ h; pass = sym h; product = eqb-true (iids * sids) val_length d3.0; out_long = eqb-true out_length (file_length iids sids) d4.0; iids_fit = d0.0; sids_fit = d1.0; file_fits = leb-true (file_length iids sids) (2 ^ 64 - 1) d2.0 }

-- ---- refusals as the code gives them
-- of counts, by `?`
pub size_told : (r : Result Unit WriteError) (n : ℕ) → IsErrAnd r (λ error. write_refusal error ≡ refused n []) → write_says r ≡ refused n []
size_told (Ok _) n h = absurd h
size_told (Err error) n h = h

-- a refusal that is handed on
pub error_kept : (r : Result Unit WriteError) (e : WriteError) → IsErrAnd r (λ error. error ≡ e) → write_says r ≡ write_refusal e
error_kept (Ok _) e h = absurd h
error_kept (Err error) e h = ap write_refusal h

pub not_done : (e : WriteError) → is_done (write_refusal e) ≡ false
not_done writes.CountTooLarge = refl
not_done writes.IndexesTooBigForFiles = refl
not_done writes.IndexMismatch = refl
not_done writes.EncodingLength = refl
not_done (writes.BadValue animal marker) = refl
