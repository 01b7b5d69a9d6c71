-- W-212's sentences on small files. The comments quote document 02.
use mathlib.Core.Path.{◌≡◌, sym, ap, subst, ◌∙◌}
use mathlib.Core.List.{List, []}
use Prim.Native.Nat.{ℕ, zero, suc, ◌-◌, ◌*◌, ◌^◌, ◌<◌, ◌≤◌}
use native.Mathlib.Nat.{mul-le-mul, le_refl, mul_comm, mul-zero}
use native.Mathlib.Omega.{arith}
use lib.ListN.{length}
use Rattle.answer.specs.Answer.{done, count_limit, is_done}
use Rattle.blocks.specs.Block.{block_width, file_length}
use Rattle.codes.proofs.CodeLaws.{width_room}
use Rattle.bed_file.specs.File.{accept_answer}
use Rattle.canonical.specs.Canonical.{canonical_answer, canonical_file, canonical_buffer}
use Rattle.canonical.proofs.Theorems.{canonical_left}
use Rattle.canonical.proofs.WrittenLaws.{bed_accepted, bed_canonical}
use Rattle.small_files.specs.Serial.{serial_code, serial_file}
use Rattle.small_files.specs.OneSerial.{IsSmall, codes_by_marker, digits, number_of, HasOneSerial, IsCanonical}
use Rattle.small_files.proofs.Digits.{digits_make}
use Rattle.small_files.proofs.Serials.{serial_below, serial_length, serial_codes, same_serial, number_in_limit, number_gives}

-- ---- for any two counts
-- a file of either mode, accepted, its canonical file short enough to be written, and a packed buffer of the right length
module _ (file : List ℕ) (iids sids : ℕ) (acc : accept_answer file iids sids ≡ done []) (fits : file_length iids sids ≤ 2 ^ 64 - 1)
    (old : List ℕ) (l : length old ≡ file_length iids sids) where
  left : (canonical_answer file iids sids (length old) ≡ done []) × (canonical_buffer file iids sids old ≡ canonical_file file iids sids)
  left = canonical_left file iids sids (ap is_done acc) fits old l

  -- its canonical file is that of the number that its codes make
  pub number_gives_left : serial_file iids sids (number_of (codes_by_marker iids sids file)) ≡ canonical_buffer file iids sids old
  number_gives_left = number_gives iids sids file ∙ sym left.1

  -- "has exactly one serial"
  pub one_serial : HasOneSerial iids sids (canonical_buffer file iids sids old)
  one_serial =
      let below : number_of (codes_by_marker iids sids file) < 4 ^ (iids * sids) = number_in_limit iids sids file in
      record {
        serial = number_of (codes_by_marker iids sids file);
        below_limit = below;
        gives_it = number_gives_left;
        no_other = λ s h e. same_serial iids sids s (number_of (codes_by_marker iids sids file)) h below (e ∙ sym number_gives_left);
      }

-- "serial number s gives the canonical file", whatever the number
pub serial_canonical :
    (iids sids s : ℕ) → iids ≤ count_limit → sids ≤ count_limit → file_length iids sids ≤ 2 ^ 64 - 1 → IsCanonical iids sids (serial_file iids sids s)
unfolding serial_file
serial_canonical iids sids s hi hs fits =
    let code = serial_code iids sids s in
    let acc : accept_answer (serial_file iids sids s) iids sids ≡ done [] = bed_accepted iids sids code (serial_below iids sids s) hi hs fits in
    record {
      is_accepted = acc;
      is_done_law = λ old l. (canonical_left (serial_file iids sids s) iids sids (ap is_done acc) fits old l).0;
      is_left = λ old l. (canonical_left (serial_file iids sids s) iids sids (ap is_done acc) fits old l).1 ∙ bed_canonical iids sids code (serial_below iids sids s);
    }

-- different serials give different files
pub different_files :
    (iids sids s t : ℕ) → s < 4 ^ (iids * sids) → t < 4 ^ (iids * sids) → (s ≡ t → ⊥) → serial_file iids sids s ≡ serial_file iids sids t → ⊥
different_files iids sids s t hs ht d e = d (same_serial iids sids s t hs ht e)

-- ---- "For given animals and markers, with product 1 to 8"
-- no count is 0, and so none passes the product
in_product : (a b : ℕ) → 1 ≤ a * b → a ≤ a * b
in_product a zero h = absurd (let e : a * 0 ≡ 0 = mul-zero a in omega arith)
in_product a (suc b) h = let e : a * 1 ≤ a * suc b = mul-le-mul (le_refl a) (omega arith) in omega arith

module _ (iids sids : ℕ) (small : IsSmall iids sids) where
  pub iids_fit : iids ≤ count_limit
  iids_fit = let h = in_product iids sids small.at_least_1 in let k = small.at_most_8 in omega arith

  pub sids_fit : sids ≤ count_limit
  sids_fit =
      let c : sids * iids ≡ iids * sids = mul_comm sids iids in
      let h = in_product sids iids (let k = small.at_least_1 in omega arith) in
      let k = small.at_most_8 in omega arith

  -- a block has at most a byte for each animal
  pub length_fits : file_length iids sids ≤ 2 ^ 64 - 1
  length_fits =
      let w : block_width iids ≤ iids = let r = (width_room iids).1 in omega arith in
      let h : block_width iids * sids ≤ iids * sids = mul-le-mul w (le_refl sids) in
      let k = small.at_most_8 in omega arith

  -- "Every canonical file of that shape has exactly one serial.": what the canonical call leaves of every accepted file, of either mode, in every packed
  -- buffer of the right length; it refuses none
  pub every_canonical_file :
      (file : List ℕ) → accept_answer file iids sids ≡ done [] → (old : List ℕ) → length old ≡ file_length iids sids
      → (canonical_answer file iids sids (length old) ≡ done []) × HasOneSerial iids sids (canonical_buffer file iids sids old)
  every_canonical_file file acc old l = ((left file iids sids acc length_fits old l).0, one_serial file iids sids acc length_fits old l)

  -- the same of a file that is canonical itself
  pub every_own_canonical : (file : List ℕ) → IsCanonical iids sids file → HasOneSerial iids sids file
  every_own_canonical file c =
      let old = serial_file iids sids 0 in
      let l : length old ≡ file_length iids sids = serial_length iids sids 0 in
      subst (HasOneSerial iids sids) (c.is_left old l) (one_serial file iids sids c.is_accepted length_fits old l)

  -- "serial number s gives the canonical file whose codes, marker by marker, are the base-4 digits of s": it is canonical, and has these codes
  pub every_serial : (s : ℕ) → IsCanonical iids sids (serial_file iids sids s) × (codes_by_marker iids sids (serial_file iids sids s) ≡ digits (iids * sids) s)
  every_serial s = (serial_canonical iids sids s iids_fit sids_fit length_fits, serial_codes iids sids s)

  -- and it is the only one that has them
  pub only_file :
      (s : ℕ) → s < 4 ^ (iids * sids) → (file : List ℕ) → IsCanonical iids sids file → codes_by_marker iids sids file ≡ digits (iids * sids) s
      → file ≡ serial_file iids sids s
  only_file s h file c e =
      let old = serial_file iids sids s in
      let l : length old ≡ file_length iids sids = serial_length iids sids s in
      sym (c.is_left old l)
      ∙ sym (number_gives_left file iids sids c.is_accepted length_fits old l)
      ∙ ap (serial_file iids sids) (ap number_of e ∙ digits_make (iids * sids) s h)
