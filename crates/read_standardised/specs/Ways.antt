-- Demand 3's two ways to go: reading and then standardising, or the joined call; what each answers and leaves. Definitions only.
use Rattle.std.specs.Prelude.{◌≡◌, Bool, List, [], ◌∷◌, ℕ, ℤ, length, Float}
use Rattle.std.specs.Float.{nan, Format}
use Rattle.answer.specs.Answer.{Answer}
use Rattle.codes.specs.Value.{float}
use Rattle.bed_read.specs.Reading.{read_answer, read_buffer}
use Rattle.standardise.specs.Standardised.{standardise_answer, later_stats, later_values}
use Rattle.read_standardised.specs.Joined.{joined_answer, joined_stats, joined_values}

-- "Each side either reads and then standardises .. or makes the joined call"; "outside the joined call, the same two choices"
pub data Way : Type 0 where
  in_turn : (use_stats apply : Bool) → Way
  joined_call : Way

-- a side
module _ (f : Format) (file : List ℕ) (iids sids : ℕ) (flag : Bool) (iid_list sid_list : List ℤ) (order : Bool) (val stats : List Float) where
  -- the values as the reading left them
  unfoldable pub as_read : List Float
  as_read = read_buffer float file iids sids flag iid_list sid_list nan order val

  -- "standardises the values as the reading left them, in the order they were read in and with the lengths of the animal and marker lists
  -- as its two counts": the answers of its calls
  unfoldable pub answers_of : Way → List Answer
  answers_of (in_turn use_stats apply) =
      read_answer file iids sids iid_list sid_list (length val)
      ∷ standardise_answer f order (length iid_list) (length sid_list) as_read use_stats stats ∷ []
  answers_of joined_call = joined_answer f file iids sids flag iid_list sid_list order val stats ∷ []

  -- "Afterwards": the value buffer
  unfoldable pub values_left : Way → List Float
  values_left (in_turn use_stats apply) = later_values f order (length iid_list) (length sid_list) as_read use_stats stats apply
  values_left joined_call = joined_values f file iids sids flag iid_list sid_list order val stats

  -- and the statistics buffer
  unfoldable pub stats_left : Way → List Float
  stats_left (in_turn use_stats apply) = later_stats f order (length iid_list) (length sid_list) as_read use_stats stats
  stats_left joined_call = joined_stats f file iids sids flag iid_list sid_list order val stats

  -- a side that goes a way: what it answers, and both buffers afterwards
  abbrev pub GoesBy : Way → List Answer → List Float → List Float → Type 0
  GoesBy way said val_after stats_after = (said ≡ answers_of way) × (val_after ≡ values_left way) × (stats_after ≡ stats_left way)
