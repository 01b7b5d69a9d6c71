-- What "first" means: the least place. Words of the theorems on refusal 7. Definitions only.
use Rattle.std.specs.Prelude.{◌≡◌, ℕ, ◌<◌}
use Rattle.std.specs.Prelude.{Option, Some, None}

-- x is found at a place below n, and nothing is found at any lower place
pub record IsFoundFirst (A : Type 0) (n : ℕ) (found : ℕ → Option A) (x : A) : Type 0 where
  pub place : ℕ
  pub inside : place < n
  pub found_there : found place ≡ Some x
  pub none_lower : (j : ℕ) → j < place → found j ≡ None

-- a value that is one of 0, 1, 2, missing: it has a code
abbrev pub HasCode : Option ℕ → Type 0
HasCode o = (c : ℕ) × (o ≡ Some c)

-- 7: "a value is none of 0, 1, 2, missing; carries the first one's animal"
pub record IsFirstBad (n : ℕ) (code : ℕ → Option ℕ) (a : ℕ) : Type 0 where
  pub inside : a < n
  pub is_bad : code a ≡ None
  pub lower_good : (j : ℕ) → j < a → HasCode (code j)

-- "in the whole-file writer its marker too": "the first marker, and in it the first animal, with a bad value"
pub record IsFirstBadCall (iids sids : ℕ) (code : ℕ → ℕ → Option ℕ) (a m : ℕ) : Type 0 where
  pub marker_inside : m < sids
  pub first_animal : IsFirstBad iids (λ j. code j m) a
  pub lower_markers_good : (j k : ℕ) → j < iids → k < m → HasCode (code j k)

-- the animal of a call that is found
abbrev pub animal_of : Option (ℕ × ℕ) → Option ℕ
animal_of (Some (animal, marker)) = Some animal
animal_of None = None
