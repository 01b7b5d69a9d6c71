-- Files and serials, for any two counts: the codes of the file of a serial, and the serial of a file's codes.
use mathlib.Core.Path.{◌≡◌, sym, ap, subst, ◌∙◌}
use mathlib.Core.Bool.{false}
use mathlib.Core.List.{List}
use Prim.Native.Nat.{ℕ, ◌+◌, ◌*◌, ◌/◌, ◌%◌, ◌^◌, ◌<◌}
use native.Mathlib.Nat.{div-add-mod'}
use lib.ListN.{length, get_or}
use Rattle.answer.specs.Matrix.{matrix_place, matrix}
use Rattle.answer.proofs.Tabulate.{get_d_tabulate, tabulate_ext}
use Rattle.answer.proofs.MatrixLaws.{length_matrix, place_below, get_d_matrix, matrix_ext}
use Rattle.codes.proofs.CodeLaws.{Codes}
use Rattle.blocks.specs.Block.{file_length}
use Rattle.calls.specs.Calls.{call_code}
use Rattle.calls.proofs.CallLaws.{call_below}
use Rattle.bed_write.proofs.BedLaws.{bed_length, bed_ext}
use Rattle.canonical.specs.Canonical.{canonical_file}
use Rattle.canonical.proofs.WrittenLaws.{bed_call}
use Rattle.small_files.specs.Serial.{digit, serial_code, serial_file}
use Rattle.small_files.specs.OneSerial.{codes_by_marker, digits, number_of}
use Rattle.small_files.proofs.Digits.{codes_by_place, number_below, digit_below, digits_make, number_digits}

module _ (iids sids : ℕ) where
  abbrev codes_of : List ℕ → List ℕ
  codes_of = codes_by_marker iids sids

  codes_length : (file : List ℕ) → length (codes_of file) ≡ iids * sids
  codes_length file = length_matrix false iids sids (call_code file iids sids)

  codes_below : (file : List ℕ) → Codes (codes_of file)
  unfolding matrix
  codes_below file =
      codes_by_place (iids * sids) (λ p. call_code file iids sids (p % iids) (p / iids)) (λ p h. call_below file iids sids (p % iids) (p / iids))

  -- ---- the file of a serial
  pub serial_below : (s a m : ℕ) → a < iids → m < sids → serial_code iids sids s a m < 4
  unfolding serial_code
  serial_below s a m ha hm = digit_below _ _ _

  pub serial_length : (s : ℕ) → length (serial_file iids sids s) ≡ file_length iids sids
  unfolding serial_file
  serial_length s = bed_length iids sids (serial_code iids sids s)

  serial_by_marker : (s : ℕ) → matrix false iids sids (serial_code iids sids s) ≡ digits (iids * sids) s
  unfolding matrix serial_code
  serial_by_marker s =
      tabulate_ext (iids * sids) (λ p. digit (iids * sids) s (p / iids * iids + p % iids)) (digit (iids * sids) s)
      (λ p h. ap (digit (iids * sids) s) (div-add-mod' p iids))

  -- its "codes, marker by marker, are the base-4 digits of s"
  pub serial_codes : (s : ℕ) → codes_by_marker iids sids (serial_file iids sids s) ≡ digits (iids * sids) s
  unfolding serial_file
  serial_codes s =
      matrix_ext false iids sids (call_code (serial_file iids sids s) iids sids) (serial_code iids sids s) (bed_call iids sids (serial_code iids sids s) (serial_below s))
      ∙ serial_by_marker s

  -- and these make the serial
  pub serial_back : (s : ℕ) → s < 4 ^ (iids * sids) → number_of (codes_by_marker iids sids (serial_file iids sids s)) ≡ s
  serial_back s h = ap number_of (serial_codes s) ∙ digits_make (iids * sids) s h

  -- one file, one serial
  pub same_serial : (s t : ℕ) → s < 4 ^ (iids * sids) → t < 4 ^ (iids * sids) → serial_file iids sids s ≡ serial_file iids sids t → s ≡ t
  same_serial s t hs ht e = sym (serial_back s hs) ∙ ap (λ (file : List ℕ). number_of (codes_of file)) e ∙ serial_back t ht

  -- ---- the serial of a file
  module _ (file : List ℕ) where
    pub number_in_limit : number_of (codes_by_marker iids sids file) < 4 ^ (iids * sids)
    number_in_limit = subst (λ (n : ℕ). number_of (codes_of file) < 4 ^ n) (codes_length file) (number_below (codes_of file) (codes_below file))

    code_back : (a m : ℕ) → a < iids → m < sids → serial_code iids sids (number_of (codes_of file)) a m ≡ call_code file iids sids a m
    unfolding serial_code matrix_place
    code_back a m ha hm =
        sym (get_d_tabulate (iids * sids) (digit (iids * sids) (number_of (codes_of file))) (m * iids + a) 0 (place_below iids sids a m ha hm false))
        ∙ ap (λ (l : List ℕ). get_or l (m * iids + a) 0) (number_digits (iids * sids) (codes_of file) (codes_length file) (codes_below file))
        ∙ get_d_matrix iids sids a m ha hm false (call_code file iids sids) 0

    -- the number that its codes make is the serial of its canonical file
    pub number_gives : serial_file iids sids (number_of (codes_by_marker iids sids file)) ≡ canonical_file file iids sids
    unfolding serial_file canonical_file
    number_gives = bed_ext iids sids (serial_code iids sids (number_of (codes_of file))) (call_code file iids sids) code_back
