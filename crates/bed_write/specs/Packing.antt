-- Packing one marker's values: their codes, the first bad one, and what `encode1` answers and leaves.
use Rattle.std.specs.Prelude.{◌≡◌, Bool, List, [], ◌∷◌, ℕ, zero, suc, eqb, pos, length, get_or}
use Rattle.std.specs.Prelude.{Option, Some, None}
use Rattle.answer.specs.Answer.{Answer, done, refused, check, if_done}
use Rattle.blocks.specs.Block.{block_width}
use Rattle.codes.specs.Code.{packed}
use Rattle.answer.specs.Lists.{tabulate}
use Rattle.codes.specs.Value.{Width, code_of}

-- the code of the value at a place of a list, if it has one
unfoldable pub place_code : {V : Type 0} (w : Width V) → Bool → V → List V → ℕ → Option ℕ
place_code w flag missing vals k = code_of w flag missing (get_or vals k missing)

-- a code to be packed; a value that has none is never packed
unfoldable pub or_zero : Option ℕ → ℕ
or_zero (Some code) = code
or_zero None = 0

-- one marker's packed block, of n animals
unfoldable pub packed_codes : ℕ → (ℕ → Option ℕ) → List ℕ
packed_codes n code = packed (tabulate n (λ a. or_zero (code a)))

unfoldable pub or_else : {A : Type 0} → Option A → Option A → Option A
or_else (Some x) later = Some x
or_else None later = later

-- what is found at the first of n places at which something is found
unfoldable pub first_of : {A : Type 0} → ℕ → (ℕ → Option A) → Option A
unfolding or_else
first_of zero found = None
first_of (suc n) found = or_else (found 0) (first_of n (λ k. found (suc k)))

-- "a value is none of 0, 1, 2, missing": it has no code, and this is found
unfoldable pub if_bad : {A : Type 0} → Option ℕ → A → Option A
if_bad (Some code) place = None
if_bad None place = Some place

-- "the first one's animal"
unfoldable pub first_bad_animal : ℕ → (ℕ → Option ℕ) → Option ℕ
first_bad_animal n code = first_of n (λ a. if_bad (code a) a)

-- 7: "carries the first one's animal"
unfoldable pub check_animal : Option ℕ → Answer → Answer
check_animal None later = later
check_animal (Some animal) later = refused 7 (pos animal ∷ [])

-- "`encode1` checks 16 first"; 16: "packed buffer has the wrong length"
unfoldable pub encode_answer : ℕ → (ℕ → Option ℕ) → ℕ → Answer
unfolding check check_animal
encode_answer n code out_length = check (eqb out_length (block_width n)) 16 (check_animal (first_bad_animal n code) (done []))

-- the later packed buffer of `encode1`: "`encode1` shall leave the buffer unchanged at 7" (document 02), as every refusal does
unfoldable pub encode_buffer : ℕ → (ℕ → Option ℕ) → List ℕ → List ℕ
encode_buffer n code old = if_done (encode_answer n code (length old)) (packed_codes n code) old

-- `encode1` of a column of values: what it answers, and the later bytes
abbrev pub Encodes : {V : Type 0} (w : Width V) → Bool → V → List V → Answer → List ℕ → List ℕ → Type 0
Encodes w flag missing column said old new =
    (said ≡ encode_answer (length column) (place_code w flag missing column) (length old))
    × (new ≡ encode_buffer (length column) (place_code w flag missing column) old)
