-- Writing what was read, by any lists, under the same flag and missing value: which codes are written. Over the width.
use mathlib.Core.Path.{◌≡◌, refl, sym, ap, ◌∙◌}
use mathlib.Core.Bool.{Bool, true, false, cond, true≢false}
use mathlib.Core.List.{List, []}
use Rattle.std.specs.Prelude.{Some, None}
use Prim.Native.Nat.{ℕ, ◌-◌, ◌^◌, ◌<◌, ◌≤◌}
use borrow.Author.Tests.{eqb-true, eqb-false}
use lib.Dec.{eqb}
use lib.IntN.{ℤ}
use lib.ListN.{length, get_or}
use Rattle.answer.specs.Answer.{done, is_done, count_limit}
use Rattle.answer.specs.Matrix.{matrix_place}
use Rattle.answer.proofs.Tests.{by_test}
use Rattle.blocks.specs.Block.{file_length}
use Rattle.codes.specs.Value.{Width, values, value_of, code_of, same_or_nan}
use Rattle.codes.proofs.ValueLaws.{self_same, number_back, encode_decode, Numbers, NoNumber}
use Rattle.bed_read.specs.Reading.{read_answer, read_code, values_read, read_buffer}
use Rattle.bed_read.proofs.BufferLaws.{read_below, read_length, read_cell, buffer_values}
use Rattle.bed_write.specs.Packing.{place_code, or_zero}
use Rattle.bed_write.specs.Writing.{value_code, write_answer, bed_file, write_buffer}
use Rattle.bed_write.proofs.FirstLaws.{zero_below, code_small}
use Rattle.demands.proofs.WriteLaws.{codes_written}

-- ---- the code that is written where a code was read: the code of its value
unfoldable pub code_again : {V : Type 0} (w : Width V) → Bool → V → ℕ → ℕ
unfolding or_zero
code_again w flag missing code = or_zero (code_of w flag missing (value_of w flag missing code))

missing_value : {V : Type 0} (w : Width V) (flag : Bool) (missing : V) → value_of w flag missing 1 ≡ missing
unfolding value_of values
missing_value w true missing = refl
missing_value w false missing = refl

-- tests of which the last passes find a code
by_tests_law : (a b c d : Bool) (x y : ℕ) → d ≡ true
    → cond a (Some x) (cond b (Some 2) (cond c (Some y) (cond d (Some 1) None))) ≡ Some (or_zero (cond a (Some x) (cond b (Some 2) (cond c (Some y) (cond d (Some 1) None)))))
unfolding or_zero
by_tests_law true b c d x y e = refl
by_tests_law false true c d x y e = refl
by_tests_law false false true d x y e = refl
by_tests_law false false false true x y e = refl
by_tests_law false false false false x y e = absurd (true≢false (sym e))

module _ {V : Type 0} (w : Width V) (n : Numbers w) (flag : Bool) (missing : V) where
  abbrev again : ℕ → ℕ
  again = code_again w flag missing

  pub again_below : (code : ℕ) → again code < 4
  unfolding code_again
  again_below code = zero_below (code_of w flag missing (value_of w flag missing code)) (code_small w flag missing (value_of w flag missing code))

  -- a code other than missing's is written again
  number_again : (code : ℕ) → code < 4 → (code ≡ 1 → ⊥) → again code ≡ code
  unfolding code_again or_zero
  number_again code h o = ap or_zero (number_back w n flag missing code h o)

  -- and missing's, if missing is none of 0, 1, 2
  pub again_same : NoNumber w missing → (code : ℕ) → code < 4 → again code ≡ code
  unfolding code_again or_zero
  again_same other code h = ap or_zero (encode_decode w n flag missing other code h)

  -- whatever missing is, a second time changes nothing
  pub again_twice : (code : ℕ) → code < 4 → again (again code) ≡ again code
  again_twice code h =
      by_test (eqb (again code) 1)
      (λ t. let is_one_law = eqb-true (again code) 1 t in
      by_test (eqb code 1) (λ s. ap again (is_one_law ∙ sym (eqb-true code 1 s))) (λ s. ap again (number_again code h (eqb-false code 1 s))))
      (λ t. number_again (again code) (again_below code) (eqb-false (again code) 1 t))

  -- every value that is read has a code: missing too, since it is missing if it is no number
  missing_coded : code_of w flag missing (value_of w flag missing 1) ≡ Some (again 1)
  unfolding code_again code_of or_zero
  missing_coded =
      ap (λ (v : V). code_of w flag missing v) (missing_value w flag missing)
      ∙ by_tests_law (w.same missing w.zero) (w.same missing w.one) (w.same missing w.two) (same_or_nan w missing missing) (cond flag 3 0) (cond flag 0 3) (self_same w missing)
      ∙ ap (λ (v : V). Some (or_zero (code_of w flag missing v))) (sym (missing_value w flag missing))

  has_code : (code : ℕ) → code < 4 → code_of w flag missing (value_of w flag missing code) ≡ Some (again code)
  has_code code h =
      by_test (eqb code 1)
      (λ t. let one = eqb-true code 1 t in ap (λ (c : ℕ). code_of w flag missing (value_of w flag missing c)) one ∙ missing_coded ∙ ap (λ (c : ℕ). Some (again c)) (sym one))
      (λ t. let o = eqb-false code 1 t in number_back w n flag missing code h o ∙ ap Some (sym (number_again code h o)))

module _ {V : Type 0} (w : Width V) (numbers : Numbers w) (flag : Bool) (missing : V) (order : Bool)
    (file : List ℕ) (iids sids : ℕ) (il sl : List ℤ) (val : List V) (d : is_done (read_answer file iids sids il sl (length val)) ≡ true)
    -- lists of n and s entries
    (n s : ℕ) (li : length il ≡ n) (ls : length sl ≡ s) where
  abbrev read : List V
  read = read_buffer w file iids sids flag il sl missing order val

  abbrev written : ℕ → ℕ → ℕ
  written k m = code_again w flag missing (read_code file iids sids il sl k m)

  is_read : read ≡ values_read w flag missing order file iids sids il sl
  is_read = buffer_values w file iids sids flag il sl missing order val d

  coded : (k m : ℕ) → k < n → m < s → value_code w flag missing order n s read k m ≡ Some (written k m)
  unfolding value_code place_code
  coded k m hk hm =
      ap (λ (l : List V). code_of w flag missing (get_or l (matrix_place order n s k m) missing)) is_read
      ∙ ap (code_of w flag missing) (read_cell w flag missing order file iids sids il sl n s li ls missing k m hk hm)
      ∙ has_code w numbers flag missing (read_code file iids sids il sl k m) (read_below file iids sids il sl k m)

  -- the writing is not refused where the counts and the length fit and the buffer is of the right length, and leaves the file of those codes
  pub read_is_written : n ≤ count_limit → s ≤ count_limit → file_length n s ≤ 2 ^ 64 - 1 → (out : List ℕ) → length out ≡ file_length n s
      → (write_answer n s (value_code w flag missing order n s read) (length read) (length out) ≡ done [])
      × (write_buffer n s (value_code w flag missing order n s read) (length read) out ≡ bed_file n s written)
  read_is_written hn hs fits out l =
      codes_written n s (value_code w flag missing order n s read) (length read) out written coded hn hs fits
      (sym (ap length is_read ∙ read_length w flag missing order file iids sids il sl n s li ls)) l
