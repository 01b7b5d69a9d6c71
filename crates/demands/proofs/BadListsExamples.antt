-- Bad lists at small files: F and the mode 0 file with its calls, 5 animals and 2 markers. 5 is no animal; 2 is an animal and no marker.
use mathlib.Core.Path.{◌≡◌, refl}
use mathlib.Core.Bool.{Bool, true, false}
use mathlib.Core.List.{List, [], ◌∷◌}
use Rattle.std.specs.Prelude.{Some}
use Prim.Native.Nat.{ℕ, ◌*◌}
use lib.IntN.{ℤ, pos}
use lib.ListN.{length}
use lib.Ieee.{Float, nan, binary64}
use Rattle.answer.specs.Answer.{refused, if_done}
use Rattle.blocks.specs.Block.{block_width}
use Rattle.entries.specs.Entry.{first_bad, is_good}
use Rattle.codes.specs.Value.{Width}
use Rattle.bed_file.specs.File.{is_mode1, items, blocks, accept_answer}
use Rattle.bed_read.specs.Reading.{read_answer, read_buffer}
use Rattle.read_standardised.specs.Joined.{joined_answer, joined_stats, joined_values}
use Rattle.read_standardised.specs.Ways.{Way, joined_call, answers_of, values_left, stats_left}
use Rattle.demands.specs.Demand.{IsAccepted, GoodList, RightLengths, CarriesFirstBad}
use Rattle.demands.specs.SmallHerds.{F, in_mode0}
use Rattle.demands.proofs.Agree.{agree_read, agree_answers, agree_values, agree_stats}
use Rattle.demands.proofs.BadLists.{read_by_5, read_by_6, joined_by_5, joined_by_6, bad_animal, bad_marker, joined_bad_animal, joined_bad_marker}
use Rattle.demands.proofs.Demand3Examples.{modes_calls}

-- in mode 1 (true) and mode 0 (false)
abbrev pub herd : Bool → List ℕ
herd true = F
herd false = in_mode0

accepted : (mode1 : Bool) → IsAccepted (herd mode1) 5 2
unfolding accept_answer is_mode1 items blocks block_width
accepted true = refl
accepted false = refl

-- good (true) and bad (false)
abbrev pub animals : Bool → List ℤ
animals true = pos 0 ∷ pos 2 ∷ []
animals false = pos 0 ∷ pos 5 ∷ []

abbrev pub markers : Bool → List ℤ
markers true = pos 0 ∷ pos 1 ∷ []
markers false = pos 0 ∷ pos 2 ∷ []

abbrev pub four : List Float
four = nan ∷ nan ∷ nan ∷ nan ∷ []

abbrev pub six : List Float
six = nan ∷ nan ∷ nan ∷ nan ∷ nan ∷ nan ∷ []

lengths : (a m : Bool) → RightLengths (animals a) (markers m) four six
lengths true true = record { for_15 = refl; for_17 = refl }
lengths true false = record { for_15 = refl; for_17 = refl }
lengths false true = record { for_15 = refl; for_17 = refl }
lengths false false = record { for_15 = refl; for_17 = refl }

four_values : (a m : Bool) → length (animals a) * length (markers m) ≡ 4
four_values a m = (lengths a m).for_15

animal_5 : first_bad 5 (animals false) ≡ Some (pos 5)
unfolding first_bad is_good
animal_5 = refl

animals_good : GoodList 5 (animals true)
unfolding first_bad is_good
animals_good = refl

marker_2 : first_bad 2 (markers false) ≡ Some (pos 2)
unfolding first_bad is_good
marker_2 = refl

-- ---- which number is given, and what it carries: in either mode, with the other list good or bad
module _ (mode1 m : Bool) where
  pub animal_told : read_answer (herd mode1) 5 2 (animals false) (markers m) 4 ≡ refused 5 (pos 5 ∷ [])
  animal_told = bad_animal (herd mode1) 5 2 (accepted mode1) (animals false) (markers m) (pos 5) 4 (four_values false m) animal_5

  pub joined_animal_told : (flag order : Bool) → joined_answer binary64 (herd mode1) 5 2 flag (animals false) (markers m) order four six ≡ refused 5 (pos 5 ∷ [])
  joined_animal_told flag order =
      joined_bad_animal (herd mode1) 5 2 (accepted mode1) (animals false) (markers m) (pos 5) binary64 flag order four six (lengths false m) animal_5

  pub animal_meant : CarriesFirstBad 5 (animals false) (pos 5 ∷ [])
  animal_meant = read_by_5 (herd mode1) 5 2 (animals false) (markers m) 4 (pos 5 ∷ []) animal_told

  pub joined_animal_meant : CarriesFirstBad 5 (animals false) (pos 5 ∷ [])
  joined_animal_meant = joined_by_5 binary64 (herd mode1) 5 2 true (animals false) (markers m) true four six (pos 5 ∷ []) (joined_animal_told true true)

module _ (mode1 : Bool) where
  pub marker_told : read_answer (herd mode1) 5 2 (animals true) (markers false) 4 ≡ refused 6 (pos 2 ∷ [])
  marker_told = bad_marker (herd mode1) 5 2 (accepted mode1) (animals true) (markers false) (pos 2) 4 (four_values true false) animals_good marker_2

  pub joined_marker_told : (flag order : Bool) → joined_answer binary64 (herd mode1) 5 2 flag (animals true) (markers false) order four six ≡ refused 6 (pos 2 ∷ [])
  joined_marker_told flag order =
      joined_bad_marker (herd mode1) 5 2 (accepted mode1) (animals true) (markers false) (pos 2) binary64 flag order four six (lengths true false) animals_good marker_2

  pub marker_meant : (GoodList 5 (animals true)) × (CarriesFirstBad 2 (markers false) (pos 2 ∷ []))
  marker_meant = read_by_6 (herd mode1) 5 2 (animals true) (markers false) 4 (pos 2 ∷ []) marker_told

  pub joined_marker_meant : (GoodList 5 (animals true)) × (CarriesFirstBad 2 (markers false) (pos 2 ∷ []))
  joined_marker_meant = joined_by_6 binary64 (herd mode1) 5 2 true (animals true) (markers false) true four six (pos 2 ∷ []) (joined_marker_told true true)

  -- a list is looked at where the other is empty
  pub alone : (read_answer (herd mode1) 5 2 (animals false) [] 0 ≡ refused 5 (pos 5 ∷ [])) × (read_answer (herd mode1) 5 2 [] (markers false) 0 ≡ refused 6 (pos 2 ∷ []))
  unfolding first_bad
  alone = (
    bad_animal (herd mode1) 5 2 (accepted mode1) (animals false) [] (pos 5) 0 refl animal_5,
    bad_marker (herd mode1) 5 2 (accepted mode1) [] (markers false) (pos 2) 0 refl refl marker_2,
  )

-- ---- the two files, which agree: good and bad lists, at every width, in both orders and in every way
module _ (a m : Bool) where
  pub read_alike : {V : Type 0} (w : Width V) (flag : Bool) (missing : V) (order : Bool) (val : List V)
      → (read_answer F 5 2 (animals a) (markers m) (length val) ≡ read_answer in_mode0 5 2 (animals a) (markers m) (length val))
      × (read_buffer w F 5 2 flag (animals a) (markers m) missing order val ≡ read_buffer w in_mode0 5 2 flag (animals a) (markers m) missing order val)
  read_alike = agree_read F in_mode0 5 2 (accepted true) (accepted false) modes_calls (animals a) (markers m)

  module _ (flag order : Bool) (val stats : List Float) (way : Way) where
    pub answers_alike : answers_of binary64 F 5 2 flag (animals a) (markers m) order val stats way ≡ answers_of binary64 in_mode0 5 2 flag (animals a) (markers m) order val stats way
    answers_alike = agree_answers F in_mode0 5 2 (accepted true) (accepted false) modes_calls (animals a) (markers m) binary64 flag order val stats way

    pub values_alike : values_left binary64 F 5 2 flag (animals a) (markers m) order val stats way ≡ values_left binary64 in_mode0 5 2 flag (animals a) (markers m) order val stats way
    values_alike = agree_values F in_mode0 5 2 (accepted true) (accepted false) modes_calls (animals a) (markers m) binary64 flag order val stats way

    pub stats_alike : stats_left binary64 F 5 2 flag (animals a) (markers m) order val stats way ≡ stats_left binary64 in_mode0 5 2 flag (animals a) (markers m) order val stats way
    stats_alike = agree_stats F in_mode0 5 2 (accepted true) (accepted false) modes_calls (animals a) (markers m) binary64 flag order val stats way

-- what a refused joined call answers and leaves, computed
pub joined_keeps : (mode1 order : Bool)
    → (answers_of binary64 (herd mode1) 5 2 true (animals true) (markers false) order four six joined_call ≡ refused 6 (pos 2 ∷ []) ∷ [])
    × (values_left binary64 (herd mode1) 5 2 true (animals true) (markers false) order four six joined_call ≡ four)
    × (stats_left binary64 (herd mode1) 5 2 true (animals true) (markers false) order four six joined_call ≡ six)
unfolding answers_of values_left stats_left joined_answer joined_values joined_stats is_mode1 items blocks block_width first_bad is_good if_done
joined_keeps true true = (refl, refl, refl)
joined_keeps true false = (refl, refl, refl)
joined_keeps false true = (refl, refl, refl)
joined_keeps false false = (refl, refl, refl)
