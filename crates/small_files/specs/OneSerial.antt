-- What is shown of serial numbers: the words that only theorems speak in. Definitions only.
use Rattle.std.specs.Prelude.{◌≡◌, false, List, [], ◌∷◌, ℕ, ◌+◌, ◌*◌, ◌^◌, ◌<◌, ◌≤◌, length}
use Rattle.answer.specs.Answer.{done}
use Rattle.answer.specs.Lists.{tabulate}
use Rattle.answer.specs.Matrix.{matrix}
use Rattle.blocks.specs.Block.{file_length}
use Rattle.bed_file.specs.File.{accept_answer}
use Rattle.calls.specs.Calls.{call_code}
use Rattle.canonical.specs.Canonical.{canonical_answer, canonical_buffer}
use Rattle.small_files.specs.Serial.{digit, serial_file}

-- "with product 1 to 8"
pub record IsSmall (iids sids : ℕ) : Type 0 where
  pub at_least_1 : 1 ≤ iids * sids
  pub at_most_8 : iids * sids ≤ 8

-- "codes, marker by marker": those of all calls of a file, as a matrix in marker order
abbrev pub codes_by_marker : ℕ → ℕ → List ℕ → List ℕ
codes_by_marker iids sids file = matrix false iids sids (call_code file iids sids)

-- "the base-4 digits of s", n of them
abbrev pub digits : ℕ → ℕ → List ℕ
digits n s = tabulate n (digit n s)

-- the number that digits make in base 4, the first one "most significant"
unfoldable pub number_of : List ℕ → ℕ
number_of [] = 0
number_of (d ∷ ds) = d * 4 ^ length ds + number_of ds

-- a file "has exactly one serial": of the numbers below "4 to the power of the product" one gives its bytes, and no other does
pub record HasOneSerial (iids sids : ℕ) (file : List ℕ) : Type 0 where
  pub serial : ℕ
  pub below_limit : serial < 4 ^ (iids * sids)
  pub gives_it : serial_file iids sids serial ≡ file
  pub no_other : (s : ℕ) → s < 4 ^ (iids * sids) → serial_file iids sids s ≡ file → s ≡ serial

-- a "canonical file": it is accepted, and the canonical call, lent it and a packed buffer of the right length, leaves its bytes there (01)
pub record IsCanonical (iids sids : ℕ) (file : List ℕ) : Type 0 where
  pub is_accepted : accept_answer file iids sids ≡ done []
  pub is_done_law : (old : List ℕ) → length old ≡ file_length iids sids → canonical_answer file iids sids (length old) ≡ done []
  pub is_left : (old : List ℕ) → length old ≡ file_length iids sids → canonical_buffer file iids sids old ≡ file
