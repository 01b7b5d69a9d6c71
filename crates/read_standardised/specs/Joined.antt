-- Document 01's joined call: what it answers and what it leaves in the two lent buffers. Definitions only.
use Rattle.std.specs.Prelude.{◌≡◌, Bool, true, List, [], ℕ, ◌*◌, eqb, ℤ, length, Float}
use Rattle.std.proofs.Math.Bool.{false}
use Rattle.std.specs.Float.{nan, Format}
use Rattle.answer.specs.Answer.{Answer, done, check, check_count, if_done}
use Rattle.codes.specs.Value.{float}
use Rattle.bed_file.specs.File.{check_file}
use Rattle.bed_read.specs.Reading.{check_lists, values_read}
use Rattle.statistics.specs.Statistics.{stats_per_marker}
use Rattle.standardise.specs.Standardised.{lowest_refused, new_stats, new_values}

-- "It checks 18, 15, 17, the reading's from 1 on, then markers". 15: "value buffer is not the product of the two list lengths";
-- 17: "statistics buffer is not 2 times the matrix's markers", which "now reads 3 times markers" (02): those of the marker list
unfoldable pub joined_checks : List ℕ → ℕ → ℕ → List ℤ → List ℤ → ℕ → ℕ → Answer → Answer
unfolding check_count check check_file check_lists
joined_checks file iids sids iid_list sid_list val_length stats_length markers =
    check_count iids
    (check_count sids
    (check (eqb (length iid_list * length sid_list) val_length) 15 (check (eqb (stats_per_marker * length sid_list) stats_length) 17
    (check_file file iids sids
    (check_lists iids sids iid_list sid_list markers)))))

-- a call
module _ (f : Format) (file : List ℕ) (iids sids : ℕ) (flag : Bool) (iid_list sid_list : List ℤ) (order : Bool) (val stats : List Float) where
  -- "reads with missing NaN"
  unfoldable pub read_nan : List Float
  read_nan = values_read float flag nan order file iids sids iid_list sid_list

  -- "computes statistics": 13 and 14 carry the marker's place in the matrix read
  unfoldable pub joined_answer : Answer
  unfolding joined_checks read_nan
  joined_answer =
      joined_checks file iids sids iid_list sid_list (length val) (length stats)
      (lowest_refused f order (length iid_list) (length sid_list) read_nan false stats)

  -- the statistics buffer afterwards
  unfoldable pub joined_stats : List Float
  unfolding joined_checks read_nan if_done
  joined_stats =
      if_done (joined_checks file iids sids iid_list sid_list (length val) (length stats) (done []))
      (new_stats f order (length iid_list) (length sid_list) read_nan false stats) stats

  -- "and applies"; "at 13 the buffer holds the values read, standardised where the rule above says": the value buffer afterwards
  unfoldable pub joined_values : List Float
  unfolding joined_checks read_nan if_done
  joined_values =
      if_done (joined_checks file iids sids iid_list sid_list (length val) (length stats) (done []))
      (new_values f order (length iid_list) (length sid_list) read_nan false stats true) val

  -- a call's answer, and both buffers afterwards
  abbrev pub Joins : Answer → List Float → List Float → Type 0
  Joins said val_after stats_after = (said ≡ joined_answer) × (val_after ≡ joined_values) × (stats_after ≡ joined_stats)
