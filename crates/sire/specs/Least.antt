-- The least of the counts at the places of a list.
use Rattle.std.specs.Prelude.{◌≡◌, Bool, true, cond, ℕ, zero, suc, ◌<◌, ◌≤◌, ltb}
use Rattle.std.specs.Prelude.{Option, Some, None}

-- "by its place in the list and its count"
pub record Placed : Type 0 where
  pub place : ℕ
  pub count : ℕ

-- an earlier one stays, unless a later one's count is below its
unfoldable pub lesser : Option Placed → Placed → Option Placed
lesser None later = Some later
lesser (Some earlier) later = cond (ltb later.count earlier.count) (Some later) (Some earlier)

-- of the places 0 to n − 1 that pass a test, that of the least count, "the first on equal counts"; none where none passes
unfoldable pub least_of : (ℕ → Bool) → (ℕ → ℕ) → ℕ → Option Placed
unfolding lesser
least_of test count zero = None
least_of test count (suc n) = cond (test n) (lesser (least_of test count n) (record { place = n; count = count n })) (least_of test count n)

-- what is found, by its words (proofs/Least `least_exactly`): a place that passes, with its count; no place that passes has less, and those before it more
pub record IsLeast (test : ℕ → Bool) (count : ℕ → ℕ) (n : ℕ) (found : Placed) : Type 0 where
  pub in_list : found.place < n
  pub passes : test found.place ≡ true
  pub its_count : found.count ≡ count found.place
  pub least : (k : ℕ) → k < n → test k ≡ true → found.count ≤ count k
  pub first : (k : ℕ) → k < found.place → test k ≡ true → found.count < count k

-- its count, or else another number
unfoldable pub count_or : Option Placed → ℕ → ℕ
count_or None other = other
count_or (Some found) other = found.count

-- ---- words of theorems
-- a number is the count of the least
pub record CountOfLeast (test : ℕ → Bool) (count : ℕ → ℕ) (n number : ℕ) : Type 0 where
  pub found : Placed
  pub is_least : IsLeast test count n found
  pub is_count : number ≡ found.count

-- one is found, and its count is no more than a number
pub record FoundNoMore (o : Option Placed) (number : ℕ) : Type 0 where
  pub found : Placed
  pub is_found : o ≡ Some found
  pub no_more : found.count ≤ number
