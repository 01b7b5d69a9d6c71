-- What only private functions speak in.
use Rattle.std.specs.Prelude.{◌≡◌, Bool, cond, List, ℕ, ◌+◌, ◌*◌, ◌<◌, ℤ, FitsSigned, get_or}
use Rattle.std.specs.Prelude.{Option, Some, None}
use Rattle.std.specs.Int.{w8, cast_unsigned}
use Rattle.codes.specs.Value.{Width, i8, code_of}
use Rattle.codes.specs.declared.values.Coding.{Coding}
use Rattle.bed_write.specs.Packing.{place_code, or_zero}
use Rattle.bed_write.specs.Writing.{value_code, first_bad_call}
use Rattle.bed_write.specs.Groups.{or_four, in_group, Four}
use Rattle.entries.specs.declared.IidIndex.{IidIndex}
use Rattle.entries.specs.declared.SidIndex.{SidIndex}

-- the code of 0, 1 or 2, else another number
abbrev pub number_code : {V : Type 0} (w : Width V) → Bool → V → ℕ → ℕ
number_code w flag v other = cond (w.same v w.zero) (cond flag 3 0) (cond (w.same v w.one) 2 (cond (w.same v w.two) (cond flag 0 3) other))

-- a table that has the code of each i8, or 4, at the place of its byte
pub record CodesOfBytes (k : Coding ℤ) (table : List ℕ) : Type 0 where
  pub code_of_law : (v : ℤ) → FitsSigned w8 v → get_or table (cast_unsigned w8 v) 0 ≡ or_four (code_of i8 k.is_a1_counted k.missing v)

-- the number of the value at a place of a list, by tests
abbrev pub by_tests : {V : Type 0} (w : Width V) → Coding V → List V → ℕ → ℕ
by_tests w k vals at = or_four (place_code w k.is_a1_counted k.missing vals at)

-- ---- a group: the places of values that stand `stride` apart from `start` on, `left` of them there
-- the number of the value at place k
abbrev pub strided : (ℕ → ℕ) → ℕ → ℕ → ℕ → ℕ
strided number start stride k = number (start + k * stride)

-- each of the four places that is there is inside a list of that length
abbrev pub FourInside : ℕ → ℕ → ℕ → ℕ → Type 0
FourInside len start stride left = (k : ℕ) → k < left → k < 4 → start + k * stride < len

-- the code of the value at place j, and those at four places, if none of them is bad
abbrev pub GoodPlace : {V : Type 0} (w : Width V) → Coding V → List V → ℕ → ℕ → ℕ → ℕ → ℕ → Type 0
GoodPlace w k val start stride left j r =
    (j < left → strided (by_tests w k val) start stride j < 4) → r ≡ in_group left (strided (by_tests w k val) start stride) j

abbrev pub GoodFour : {V : Type 0} (w : Width V) → Coding V → List V → ℕ → ℕ → ℕ → ℕ → ℕ → ℕ → ℕ → Type 0
GoodFour w k val start stride left c0 c1 c2 c3 =
    ((j : ℕ) → j < left → j < 4 → strided (by_tests w k val) start stride j < 4)
    → Four (in_group left (strided (by_tests w k val) start stride)) c0 c1 c2 c3

-- ---- a matrix of values
-- the animal and the marker that were found, if any
abbrev pub bad_says : Option (IidIndex × SidIndex) → Option (ℕ × ℕ)
bad_says (Some (animal, marker)) = Some (animal.0, marker.0)
bad_says None = None

-- the first bad call of a matrix of values
abbrev pub Finds : {V : Type 0} (w : Width V) → Coding V → Bool → ℕ → ℕ → List V → Option (ℕ × ℕ) → Type 0
Finds w k order iids sids val found = found ≡ first_bad_call iids sids (value_code w k.is_a1_counted k.missing order iids sids val)

-- the code of animal a at marker m, where no value is bad
abbrev pub matrix_code : {V : Type 0} (w : Width V) → Coding V → Bool → ℕ → ℕ → List V → ℕ → ℕ → ℕ
matrix_code w k order iids sids val a m = or_zero (value_code w k.is_a1_counted k.missing order iids sids val a m)
