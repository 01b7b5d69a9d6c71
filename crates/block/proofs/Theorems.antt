-- A block that was filled, read back; and one that was not.
use mathlib.Core.Path.{◌≡◌, refl, sym, ap, subst, ◌∙◌}
use mathlib.Core.Bool.{Bool, true}
use mathlib.Core.List.{List, []}
use Rattle.std.specs.Prelude.{Option, Some, None}
use Prim.Native.Nat.{ℕ, ◌≤◌, ◌<◌}
use native.Mathlib.Omega.{arith}
use lib.Dec.{eqb}
use lib.IntN.{ℤ}
use lib.ListN.{length, get_or, get_or-eq_default}
use Rattle.answer.specs.Answer.{done, refused, is_done, count_limit}
use Rattle.blocks.specs.Block.{block_width}
use Rattle.codes.specs.Code.{item_code}
use Rattle.answer.specs.Lists.{tabulate}
use Rattle.codes.specs.Value.{Width, same_or_nan, value_of}
use Rattle.answer.proofs.AnswerLaws.{check_done, count_done, new_if_done, old_if_not}
use Rattle.codes.proofs.CodeLaws.{Codes, packed_code}
use Rattle.answer.proofs.Tabulate.{length_tabulate, get_d_tabulate}
use Rattle.answer.proofs.Tests.{by_lt}
use Rattle.codes.proofs.ValueLaws.{decode_encode}
use Rattle.bed_write.specs.Packing.{place_code, or_zero, packed_codes, if_bad, first_bad_animal, check_animal}
use Rattle.bed_write.proofs.EncodeLaws.{block_length}
use Rattle.bed_write.proofs.FirstLaws.{first_all, not_bad, zero_below, place_coded}
use Rattle.block.specs.Blocks.{check_bytes, pack_answer, pack_buffer, decode_answer, column_of, decode_buffer}
use Rattle.block.proofs.CheckLaws.{decode_done}

no_animal : (o : Option ℕ) → is_done (check_animal o (done [])) ≡ true → o ≡ None
unfolding check_animal
no_animal None e = refl
no_animal (Some a) e = absurd (let q : ◌≡◌ {A = ℕ} 0 1 = cc in omega arith)

-- what is known where packing is done
record Packable (iids : ℕ) (code : ℕ → Option ℕ) : Type 0 where
  fits : iids ≤ count_limit
  no_bad : first_bad_animal iids code ≡ None

packable : (iids val_length : ℕ) (code : ℕ → Option ℕ) (byte_count : ℕ) → is_done (pack_answer iids val_length code byte_count) ≡ true → Packable iids code
unfolding pack_answer check_bytes
packable iids val_length code byte_count d =
    let p = count_done iids _ d in
    let b = check_done (eqb byte_count (block_width iids)) 16 _ p.1 in
    let v = check_done (eqb val_length iids) 15 (check_animal (first_bad_animal iids code) (done [])) b.1 in
    record { fits = p.0; no_bad = no_animal (first_bad_animal iids code) v.1 }

-- the bytes that packing leaves where it is done
filled : (iids val_length : ℕ) (code : ℕ → Option ℕ) (old : List ℕ) → is_done (pack_answer iids val_length code (length old)) ≡ true → pack_buffer iids val_length code old ≡ packed_codes iids code
unfolding pack_buffer
filled iids val_length code old d = new_if_done (pack_answer iids val_length code (length old)) (packed_codes iids code) old d

-- "`encode1` shall leave the buffer unchanged at 7, and the callers that rely on it follow" (document 02): a refused packing leaves every byte of the block
pub refused_unchanged : (iids val_length : ℕ) (code : ℕ → Option ℕ) (old : List ℕ) (number : ℕ) (carried : List ℤ) → pack_answer iids val_length code (length old) ≡ refused number carried → pack_buffer iids val_length code old ≡ old
unfolding pack_buffer
refused_unchanged iids val_length code old number carried e = old_if_not (pack_answer iids val_length code (length old)) (packed_codes iids code) old (ap is_done e)

-- the code of each animal in a packed block
module _ (iids : ℕ) (code : ℕ → Option ℕ) (small : (k : ℕ) → or_zero (code k) < 4) where
  codes_small : Codes (tabulate iids (λ a. or_zero (code a)))
  codes_small k =
      by_lt k iids (λ h. subst (λ (c : ℕ). c < 4) (sym (get_d_tabulate iids (λ a. or_zero (code a)) k 0 h)) (small k))
      (λ h. let l : length (tabulate iids (λ a. or_zero (code a))) ≡ iids = length_tabulate iids (λ a. or_zero (code a)) in
      let e : get_or (tabulate iids (λ a. or_zero (code a))) k 0 ≡ 0 = get_or-eq_default (tabulate iids (λ a. or_zero (code a))) 0 (omega arith) in
      omega arith)

  code_back : (k : ℕ) → k < iids → item_code (packed_codes iids code) k ≡ or_zero (code k)
  unfolding packed_codes
  code_back k h = packed_code (tabulate iids (λ a. or_zero (code a))) codes_small k ∙ get_d_tabulate iids (λ a. or_zero (code a)) k 0 h

-- ---- packed, then decoded
module _ {V : Type 0} (w : Width V) (flag : Bool) (missing : V) (iids : ℕ) (val : List V) (old : List ℕ)
    (d : is_done (pack_answer iids (length val) (place_code w flag missing val) (length old)) ≡ true) (out : List V) (l : length out ≡ iids) where
  abbrev code : ℕ → Option ℕ
  code = place_code w flag missing val

  abbrev new : List ℕ
  new = pack_buffer iids (length val) code old

  p : Packable iids code
  p = packable iids (length val) code (length old) d

  decoded : decode_answer (length new) iids (length out) ≡ done []
  decoded =
      decode_done (length new) iids (length out) p.fits l
      (ap length (filled iids (length val) code old d) ∙ block_length iids code)

  small : (k : ℕ) → or_zero (code k) < 4
  small k = zero_below (code k) (place_coded w flag missing val k)

  value_back : (k : ℕ) → k < iids → get_or (decode_buffer w flag missing new iids out) k missing ≡ value_of w flag missing (or_zero (code k))
  unfolding decode_buffer column_of
  value_back k h =
      ap (λ x. get_or x k missing) (new_if_done (decode_answer (length new) iids (length out)) (column_of w flag missing new iids) out (ap is_done decoded))
      ∙ get_d_tabulate iids (λ a. value_of w flag missing (item_code new a)) k missing h
      ∙ ap (value_of w flag missing) (ap (λ (bytes : List ℕ). item_code bytes k) (filled iids (length val) code old d) ∙ code_back iids code small k h)

  has_code : (k : ℕ) → k < iids → code k ≡ Some (or_zero (code k))
  unfolding first_bad_animal
  has_code k h = not_bad (code k) k (first_all iids (λ a. if_bad (code a) a) p.no_bad k h)

-- "Under one flag and one missing value, an accepted writing read back gives every value, equal by number or NaN for NaN.": of one block. Where packing is done,
-- decoding the bytes that it left into a column of the right length is done, and gives every value.
pub packed_read_back :
    {V : Type 0} (w : Width V) (flag : Bool) (missing : V) (iids : ℕ) (val : List V) (old : List ℕ)
    → is_done (pack_answer iids (length val) (place_code w flag missing val) (length old)) ≡ true
    → (out : List V) → length out ≡ iids
    → (decode_answer (length (pack_buffer iids (length val) (place_code w flag missing val) old)) iids (length out) ≡ done [])
    × ((k : ℕ) → k < iids
    → same_or_nan w (get_or val k missing)
    (get_or (decode_buffer w flag missing (pack_buffer iids (length val) (place_code w flag missing val) old) iids out) k missing)
    ≡ true)
unfolding place_code
packed_read_back w flag missing iids val old d out l = (
  decoded w flag missing iids val old d out l,
  λ k h.
      subst (λ x. same_or_nan w (get_or val k missing) x ≡ true) (sym (value_back w flag missing iids val old d out l k h))
      (decode_encode w flag missing (get_or val k missing) (or_zero (place_code w flag missing val k)) (has_code w flag missing iids val old d out l k h)),
)
