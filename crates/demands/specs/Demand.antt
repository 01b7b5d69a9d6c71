-- The words of demand 3: accepted files, calls that agree, lists that name each animal once. The two ways to go are read_standardised's Ways. Definitions only.
use Rattle.std.specs.Prelude.{◌≡◌, true, false, List, [], ◌∷◌, ℕ, ◌*◌, ◌<◌, ℤ, pos, length, get_or, Float}
use Rattle.std.specs.Prelude.{None}
use Rattle.answer.specs.Answer.{done}
use Rattle.entries.specs.Entry.{is_good, means, first_bad}
use Rattle.bed_file.specs.File.{accept_answer}
use Rattle.calls.specs.Calls.{call_code}
use Rattle.statistics.specs.Statistics.{stats_per_marker}

-- "A file is accepted for two counts if the reading's checks without 15, 5 and 6 find nothing."
abbrev pub IsAccepted : List ℕ → ℕ → ℕ → Type 0
IsAccepted file iids sids = accept_answer file iids sids ≡ done []

-- "two files' calls agree if these codes are equal", of every animal and marker below the counts
abbrev pub CallsAgree : List ℕ → List ℕ → ℕ → ℕ → Type 0
CallsAgree file other iids sids = (a m : ℕ) → a < iids → m < sids → call_code file iids sids a m ≡ call_code other iids sids a m

-- "A list is good if no entry is bad."
abbrev pub GoodList : ℕ → List ℤ → Type 0
GoodList count list = first_bad count list ≡ None

-- "first bad entry of the .. list; carries it": the values that a refusal by a list carries are the entry at `place`, as given; it is bad, and
-- those before it are good
pub record CarriesFirstBad (count : ℕ) (list values : List ℤ) : Type 0 where
  pub place : ℕ
  pub in_list : place < length list
  pub is_bad : is_good count (get_or list place (pos 0)) ≡ false
  pub good_before : (k : ℕ) → k < place → is_good count (get_or list k (pos 0)) ≡ true
  pub is_carried : values ≡ get_or list place (pos 0) ∷ []

-- the number that the entry at place k means
unfoldable pub meant : ℕ → List ℤ → ℕ → ℕ
meant count list k = means count (get_or list k (pos 0))

-- a number "is meant by exactly one entry": the entry at `place`, and at no other place
pub record MeantOnce (count : ℕ) (list : List ℤ) (a : ℕ) : Type 0 where
  pub place : ℕ
  pub in_list : place < length list
  pub means_it : meant count list place ≡ a
  pub no_other : (k : ℕ) → k < length list → meant count list k ≡ a → k ≡ place

-- "A good list names each animal once if every number from 0 to the animal count − 1 is meant by exactly one entry"
pub record NamesEachOnce (count : ℕ) (list : List ℤ) : Type 0 where
  pub good_list : GoodList count list
  pub meant_once : (a : ℕ) → a < count → MeantOnce count list a

-- "They start from lent buffers .. of the lengths that 15 and 17 want": 15 wants "the product of the two list lengths", 17 "3 times
-- markers" (02)
pub record RightLengths (iid_list sid_list : List ℤ) (val stats : List Float) : Type 0 where
  pub for_15 : length iid_list * length sid_list ≡ length val
  pub for_17 : stats_per_marker * length sid_list ≡ length stats
