-- A writing that is done: what is known of it, and the file that it leaves. And when a writing is done. Over plain numbers and lists.
use mathlib.Core.Path.{◌≡◌, refl, sym, ap, subst, ◌∙◌}
use mathlib.Core.Bool.{Bool, true}
use mathlib.Core.List.{List, []}
use Rattle.std.specs.Prelude.{Option, Some, None}
use Prim.Native.Nat.{ℕ, ◌-◌, ◌*◌, ◌^◌, ◌<◌, ◌≤◌}
use native.Mathlib.Omega.{arith}
use borrow.Author.Tests.{eq-eqb, le-leb}
use lib.Dec.{eqb, leb}
use lib.ListN.{length}
use Rattle.answer.specs.Answer.{Answer, done, is_done, count_limit}
use Rattle.blocks.specs.Block.{file_length, check_size}
use Rattle.codes.specs.Value.{Width}
use Rattle.answer.proofs.AnswerLaws.{check_passes, count_passes, new_if_done, heard, before_later}
use Rattle.bed_file.specs.File.{accept_answer}
use Rattle.calls.specs.Calls.{call_code}
use Rattle.bed_write.specs.Packing.{or_zero, first_of, if_bad}
use Rattle.bed_write.specs.Writing.{value_code, first_bad_call, check_call, check_buffers, write_answer, bed_file, write_buffer}
use Rattle.bed_write.proofs.FirstLaws.{first_none, first_all, not_bad, zero_below, value_coded}
use Rattle.bed_write.proofs.BedLaws.{bed_ext}
use Rattle.bed_write.proofs.WriteLaws.{buffers_stage, passed, Passed, write_done}
use Rattle.canonical.specs.Canonical.{canonical_answer, canonical_file, canonical_buffer}
use Rattle.canonical.proofs.Theorems.{canonical_left}
use Rattle.canonical.proofs.WrittenLaws.{bed_call, bed_accepted, bed_canonical}

abbrev pair : ℕ → ℕ → ℕ × ℕ
pair a m = (a, m)

call_none : (o : Option (ℕ × ℕ)) → is_done (check_call o (done [])) ≡ true → o ≡ None
unfolding check_call
call_none None e = refl
call_none (Some p) e = absurd (let q : ◌≡◌ {A = ℕ} 0 1 = cc in omega arith)

module _ (iids sids : ℕ) (code : ℕ → ℕ → Option ℕ) (val_length : ℕ) (old : List ℕ) (d : is_done (write_answer iids sids code val_length (length old)) ≡ true) where
  buffers_done : is_done (check_buffers iids sids val_length (length old) (done [])) ≡ true
  unfolding write_answer
  buffers_done = before_later (buffers_stage iids sids val_length (length old)) _ d

  -- the counts and the length fit, and the buffers have the right lengths
  pub writing_passed : Passed iids sids val_length (length old) (check_buffers iids sids val_length (length old) (done []))
  writing_passed = passed iids sids val_length (length old) (check_buffers iids sids val_length (length old) (done [])) refl buffers_done

  no_bad : first_bad_call iids sids code ≡ None
  unfolding write_answer
  no_bad = call_none (first_bad_call iids sids code) (subst (λ (x : Answer). is_done x ≡ true) (heard (buffers_stage iids sids val_length (length old)) [] buffers_done (check_call (first_bad_call iids sids code) (done []))) d)

  -- every value has a code
  pub has_code : (a m : ℕ) → a < iids → m < sids → code a m ≡ Some (or_zero (code a m))
  unfolding first_bad_call
  has_code a m ha hm =
      not_bad (code a m) (pair a m)
      (first_all iids (λ a. if_bad (code a m) (pair a m)) (first_all sids (λ m. first_of iids (λ a. if_bad (code a m) (pair a m))) no_bad m hm) a ha)

  -- the file of the codes is left
  pub wrote : write_buffer iids sids code val_length old ≡ bed_file iids sids (λ a m. or_zero (code a m))
  unfolding write_buffer
  wrote = new_if_done _ _ old d

-- ---- where every value has a code, the counts and the length fit and the buffers are of the right lengths, it is done and leaves the file of the codes
module _ (iids sids : ℕ) (code : ℕ → ℕ → Option ℕ) (val_length : ℕ) (old : List ℕ) (c : ℕ → ℕ → ℕ) (coded : (a m : ℕ) → a < iids → m < sids → code a m ≡ Some (c a m)) where
  codes_found : first_bad_call iids sids code ≡ None
  unfolding first_bad_call if_bad
  codes_found =
      first_none sids (λ m. first_of iids (λ a. if_bad (code a m) (pair a m)))
      (λ m hm. first_none iids (λ a. if_bad (code a m) (pair a m)) (λ a ha. ap (λ o. if_bad o (pair a m)) (coded a m ha hm)))

  module _ (hi : iids ≤ count_limit) (hs : sids ≤ count_limit) (fits : file_length iids sids ≤ 2 ^ 64 - 1) (l : iids * sids ≡ val_length) (k : length old ≡ file_length iids sids) where
    buffers_pass : check_buffers iids sids val_length (length old) (done []) ≡ done []
    unfolding check_buffers check_size
    buffers_pass =
        count_passes iids _ hi
        ∙ count_passes sids _ hs
        ∙ check_passes (leb (file_length iids sids) (2 ^ 64 - 1)) 4 _ (le-leb (file_length iids sids) (2 ^ 64 - 1) fits)
        ∙ check_passes (eqb (iids * sids) val_length) 15 _ (eq-eqb (iids * sids) val_length l)
        ∙ check_passes (eqb (length old) (file_length iids sids)) 16 _ (eq-eqb (length old) (file_length iids sids) k)

    pub codes_written : (write_answer iids sids code val_length (length old) ≡ done []) × (write_buffer iids sids code val_length old ≡ bed_file iids sids c)
    unfolding or_zero
    codes_written =
        let r = write_done iids sids code val_length old (sym buffers_pass) (sym codes_found) (bed_file iids sids (λ a m. or_zero (code a m))) refl in
        (sym r.0, sym r.1 ∙ bed_ext iids sids (λ a m. or_zero (code a m)) c (λ a m ha hm. ap or_zero (coded a m ha hm)))

-- ---- a matrix of values whose writing is done
module _ {V : Type 0} (w : Width V) (flag : Bool) (missing : V) (order : Bool) (iids sids : ℕ) (val : List V) (old : List ℕ)
    (d : is_done (write_answer iids sids (value_code w flag missing order iids sids val) (length val) (length old)) ≡ true) where
  abbrev code : ℕ → ℕ → Option ℕ
  code = value_code w flag missing order iids sids val

  abbrev codes : ℕ → ℕ → ℕ
  codes a m = or_zero (code a m)

  abbrev file : List ℕ
  file = write_buffer iids sids code (length val) old

  is_file : file ≡ bed_file iids sids codes
  is_file = wrote iids sids code (length val) old d

  -- each code is one of the four
  pub written_small : (a m : ℕ) → a < iids → m < sids → or_zero (value_code w flag missing order iids sids val a m) < 4
  written_small a m ha hm = zero_below (code a m) (value_coded w flag missing order iids sids val a m)

  -- the file has the code of each value
  pub written_call : (a m : ℕ) → a < iids → m < sids → call_code file iids sids a m ≡ or_zero (value_code w flag missing order iids sids val a m)
  written_call a m ha hm = ap (λ x. call_code x iids sids a m) is_file ∙ bed_call iids sids codes written_small a m ha hm

  -- it is accepted for its counts
  pub written_accepted : accept_answer file iids sids ≡ done []
  written_accepted =
      let p = writing_passed iids sids code (length val) old d in
      ap (λ x. accept_answer x iids sids) is_file ∙ bed_accepted iids sids codes written_small p.iids_fit p.sids_fit p.file_fits

  -- and the canonical call leaves the same bytes
  pub written_canonical : (other : List ℕ) → length other ≡ file_length iids sids → (canonical_answer file iids sids (length other) ≡ done []) × (canonical_buffer file iids sids other ≡ file)
  written_canonical other l =
      let p = writing_passed iids sids code (length val) old d in
      let c = canonical_left file iids sids (ap is_done written_accepted) p.file_fits other l in
      (c.0, c.1 ∙ subst (λ x. canonical_file x iids sids ≡ x) (sym is_file) (bed_canonical iids sids codes written_small))
