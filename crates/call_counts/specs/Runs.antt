-- What is counted by runs of the animal list, over the file and the two lists.
use Rattle.std.specs.Prelude.{◌≡◌, false, List, ℕ, ◌*◌, ◌<◌, length}
use Rattle.calls.specs.declared.Part.{Part}
use Rattle.calls.specs.Lists.{entry_number, IsEntryPart}
use Rattle.call_counts.specs.declared.lists.Lists.{Lists}
use Rattle.call_counts.specs.Private.{tally_named, count_at, CountedTo}

-- a function may be called with what an entry m of the marker list adds to where a call stands, and returns the tally of n entries of the animal
-- list, from `from` on, at the marker that it means
pub record TalliesRun (lists : Lists) (from n : ℕ) (pre : Part → Type 0) (post : Part → ℕ → Type 0) : Type 0 where
  pub callable : (m : ℕ) (part : Part) → m < length lists.sid_index.now → IsEntryPart lists.shape false lists.sid_index.now m part → pre part
  pub tally_is :
      (m : ℕ) (part : Part) (t : ℕ) → m < length lists.sid_index.now → IsEntryPart lists.shape false lists.sid_index.now m part → post part t
      → t ≡ tally_named lists.file.now lists.shape.iids lists.shape.sids lists.iid_index.now (entry_number lists.shape false lists.sid_index.now m) from n

-- the counts of every marker named, over the first n entries of the animal list
abbrev pub EntriesCounted : Lists → ℕ → List ℕ → Type 0
EntriesCounted lists n counts =
    CountedTo (count_at lists.file.now lists.shape.iids lists.shape.sids lists.iid_index.now lists.sid_index.now) (4 * length lists.sid_index.now) n counts
