-- What a call answers, and its checks in order.
use Rattle.std.specs.Prelude.{◌≡◌, Bool, true, false, ◌&&◌, cond, List, [], ◌∷◌, ℕ, ◌^◌, ◌-◌, ℤ, leb}
use Rattle.std.specs.Prelude.{Option, Some, None}

-- Done, with the numbers that the call answers, or refused by document 01's number, with the values that this number carries.
pub data Answer : Type 0 where
  done : List ℤ → Answer
  refused : ℕ → List ℤ → Answer

-- "given exactly if": where the fact does not hold, the number; else what the later checks say
unfoldable pub check : Bool → ℕ → Answer → Answer
check true n later = later
check false n later = refused n []

-- "first bad entry of the .. list; carries it"
unfoldable pub check_entry : Option ℤ → ℕ → Answer → Answer
check_entry None n later = later
check_entry (Some e) n later = refused n (e ∷ [])

-- whether nothing was refused
abbrev pub is_done : Answer → Bool
is_done (done vs) = true
is_done (refused n vs) = false

-- "never gives" a number (02): the answer is not the refusal by it, whatever that would carry
abbrev pub GivesNo : ℕ → Answer → Type 0
GivesNo n answer = (vs : List ℤ) → answer ≡ refused n vs → ⊥

-- 18: "a count, a piece's height, width or start, or a range bound exceeds 2^63 − 1"
abbrev pub count_limit : ℕ
count_limit = 2 ^ 63 - 1

unfoldable pub check_count : ℕ → Answer → Answer
unfolding check
check_count n later = check (leb n count_limit) 18 later

-- whether neither of two counts meets 18
abbrev pub counts_fit : ℕ → ℕ → Bool
counts_fit a b = leb a count_limit && leb b count_limit

-- "Every refusal leaves all lent bytes and values unchanged": a buffer's later contents, new if nothing was refused, else old
unfoldable pub if_done : {A : Type 0} → Answer → A → A → A
if_done answer new old = cond (is_done answer) new old
