-- Numbers in lists.
use Rattle.std.specs.Prelude.{ℕ, suc, ◌+◌, ◌-◌, ◌/◌, min, max, eqb, Bool, true, ◌&&◌, cond, List, [], ◌∷◌, map, ℤ, pos, negsuc, nat_lt}
use Rattle.std.specs.Prelude.{Option, Some, None}
use Rattle.answer.specs.Answer.{Answer, done, check_entry, check_count}

-- "Entry i from 0 to count − 1 means i; from −count to −1 it means count + i; all else is bad, for count 0 every entry."
-- The entry −(k + 1) is `negsuc k`: it is good if k + 1 is at most the count.
unfoldable pub is_good : ℕ → ℤ → Bool
is_good count (pos i) = nat_lt i count
is_good count (negsuc k) = nat_lt k count

-- the number that a good entry means
unfoldable pub means : ℕ → ℤ → ℕ
means count (pos i) = i
means count (negsuc k) = count - suc k

-- the first entry of a list that is bad for a count
unfoldable pub first_bad : ℕ → List ℤ → Option ℤ
first_bad count [] = None
first_bad count (e ∷ es) = cond (is_good count e) (first_bad count es) (Some e)

-- whether the entries of a list mean k, k + 1, k + 2 and so on
unfoldable pub in_order_from : ℕ → ℕ → List ℤ → Bool
in_order_from count k [] = true
in_order_from count k (e ∷ es) = eqb (means count e) k && in_order_from count (suc k) es

-- whether they mean 0, 1, 2 and so on
abbrev pub in_order : ℕ → List ℤ → Bool
in_order count list = in_order_from count 0 list

-- an entry by itself: the number that it means, after 5 or 6, whichever is its list's number n
unfoldable pub entry_answer : ℕ → ℕ → ℤ → Answer
unfolding check_entry
entry_answer n count e = check_entry (first_bad count (e ∷ [])) n (done (pos (means count e) ∷ []))

-- the least and the greatest of a number and the numbers of a list
unfoldable pub least : ℕ → List ℕ → ℕ
least n [] = n
least n (m ∷ ms) = min n (least m ms)

unfoldable pub greatest : ℕ → List ℕ → ℕ
greatest n [] = n
greatest n (m ∷ ms) = max n (greatest m ms)

-- the byte i/4 that holds the number of an entry
unfoldable pub byte_of : ℕ → ℤ → ℕ
byte_of count e = means count e / 4

-- "The byte span of a list is its lowest i/4, rounded down, and the length highest − lowest + 1, or (0, 0) when empty."
unfoldable pub span : ℕ → List ℤ → List ℤ
span count [] = pos 0 ∷ pos 0 ∷ []
span count (e ∷ es) =
    let bytes = map (byte_of count) es in
    let lowest = least (byte_of count e) bytes in
    let highest = greatest (byte_of count e) bytes in
    pos lowest ∷ pos (highest - lowest + 1) ∷ []

-- the byte span after 18 and 5
unfoldable pub span_answer : ℕ → List ℤ → Answer
unfolding check_count check_entry
span_answer count list = check_count count (check_entry (first_bad count list) 5 (done (span count list)))
