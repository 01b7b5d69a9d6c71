-- Which candidate is the sire: comparing an offspring with candidates, marker by marker, under a limit. 02's lamb is the offspring, its rams are the
-- candidates.
use Rattle.std.specs.Prelude.{Bool, true, not, ◌&&◌, ◌||◌, List, [], ◌∷◌, ℕ, ◌-◌, ◌*◌, min, eqb, ℤ, pos, length, get_or}
use Rattle.std.specs.Prelude.{Option, Some, None}
use Rattle.answer.specs.Answer.{Answer, done, check_count, check_entry}
use Rattle.answer.specs.Lists.{how_many}
use Rattle.statistics.specs.Calls.{total}
use Rattle.entries.specs.Entry.{means, first_bad}
use Rattle.codes.specs.Value.{Width}
use Rattle.bed_file.specs.File.{check_file}
use Rattle.calls.specs.Calls.{call_code}
use Rattle.sire.specs.Least.{Placed, least_of, count_or}

-- ---- two calls
-- "A lamb and a ram oppose at a marker when one call is 0 and the other 2.": of their codes, one is 3, no copy of the first allele, and the other 0, two
unfoldable pub opposing : ℕ → ℕ → Bool
opposing c d = (eqb c 3 && eqb d 0) || (eqb c 0 && eqb d 3)

-- the same of two values
unfoldable pub opposing_values : {V : Type 0} (w : Width V) → V → V → Bool
opposing_values w u v = (w.same u w.zero && w.same v w.two) || (w.same u w.two && w.same v w.zero)

-- ---- what the limit leaves. k is a candidate's place in the list, from 0
-- "go through rams in list order and markers upward": how many of its markers are compared. Those before it use k × markers of the limit; of what they
-- leave, if anything, it uses one a marker
unfoldable pub compared : ℕ → ℕ → ℕ → ℕ
compared limit markers k = min markers (limit - k * markers)

-- "fully compared"
unfoldable pub is_finished : ℕ → ℕ → ℕ → Bool
unfolding compared
is_finished limit markers k = eqb (compared limit markers k) markers

-- "the comparisons made", of so many candidates
unfoldable pub comparisons_made : ℕ → ℕ → ℕ → ℕ
unfolding total compared
comparisons_made limit markers candidates = total (compared limit markers) candidates

-- ---- `opposes k m`: whether the candidate at place k opposes at marker m
-- "count so far", "0 for one not begun": at the markers compared
unfoldable pub so_far : ℕ → ℕ → (ℕ → ℕ → Bool) → ℕ → ℕ
unfolding how_many compared
so_far limit markers opposes k = how_many (compared limit markers k) (opposes k)

-- at all markers
unfoldable pub in_all : ℕ → (ℕ → ℕ → Bool) → ℕ → ℕ
unfolding how_many
in_all markers opposes k = how_many markers (opposes k)

-- "the fully compared ram that opposes least, the first on equal counts, by its place in the list and its count"
unfoldable pub named : ℕ → ℕ → ℕ → (ℕ → ℕ → Bool) → Option Placed
unfolding least_of is_finished so_far
named limit markers candidates opposes = least_of (is_finished limit markers) (so_far limit markers opposes) candidates

-- the first of those not finished whose count so far is least
unfoldable pub least_unfinished : ℕ → ℕ → ℕ → (ℕ → ℕ → Bool) → Option Placed
unfolding least_of is_finished so_far
least_unfinished limit markers candidates opposes = least_of (λ k. not (is_finished limit markers k)) (so_far limit markers opposes) candidates

-- "a floor: the least count so far among rams not finished ..; with none unfinished it is the named ram's count, or 0 for an empty list"
unfoldable pub floor : ℕ → ℕ → ℕ → (ℕ → ℕ → Bool) → ℕ
unfolding count_or least_unfinished named
floor limit markers candidates opposes =
    count_or (least_unfinished limit markers candidates opposes) (count_or (named limit markers candidates opposes) 0)

-- "The least over the whole list", at all markers: none of an empty list
unfoldable pub least_overall : ℕ → ℕ → (ℕ → ℕ → Bool) → Option Placed
unfolding least_of in_all
least_overall markers candidates opposes = least_of (λ k. true) (in_all markers opposes) candidates

-- ---- of a file
-- whether the candidate at place k of a list opposes the offspring at marker m; both are entries
unfoldable pub opposes_in : List ℕ → ℕ → ℕ → ℤ → List ℤ → ℕ → ℕ → Bool
unfolding opposing
opposes_in file iids sids offspring candidates k m =
    opposing (call_code file iids sids (means iids offspring) m) (call_code file iids sids (means iids (get_or candidates k (pos 0))) m)

-- "Entries are checked as animal numbers after the file's own checks, lamb first.": 18 for either count, the file's own, then 5
unfoldable pub check_sire : List ℕ → ℕ → ℕ → ℤ → List ℤ → Answer → Answer
unfolding check_count check_file check_entry
check_sire file iids sids offspring candidates later =
    check_count iids (check_count sids (check_file file iids sids (check_entry (first_bad iids (offspring ∷ candidates)) 5 later)))

-- "by its place in the list and its count", where one is named
unfoldable pub named_numbers : Option Placed → List ℤ
named_numbers None = []
named_numbers (Some found) = pos found.place ∷ pos found.count ∷ []

-- "Return the comparisons made, the fully compared ram .., and a floor": here the floor before the two numbers of the named one
unfoldable pub sire_numbers : ℕ → ℕ → ℕ → (ℕ → ℕ → Bool) → List ℤ
unfolding comparisons_made floor named named_numbers
sire_numbers limit markers candidates opposes =
    pos (comparisons_made limit markers candidates)
    ∷ pos (floor limit markers candidates opposes)
    ∷ named_numbers (named limit markers candidates opposes)

-- the whole answer; the limit is any number
unfoldable pub sire_answer : List ℕ → ℕ → ℕ → ℤ → List ℤ → ℕ → Answer
unfolding check_sire sire_numbers
sire_answer file iids sids offspring candidates limit =
    check_sire file iids sids offspring candidates (done (sire_numbers limit sids (length candidates) (opposes_in file iids sids offspring candidates)))
