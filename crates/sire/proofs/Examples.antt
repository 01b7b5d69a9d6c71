-- W-211 at a drawn table and at single calls: what is computed, then each theorem taken once, its hypotheses closed by computation.
use mathlib.Core.Path.{◌≡◌, refl}
use mathlib.Core.Bool.{Bool, true, false, not}
use mathlib.Core.List.{List, [], ◌∷◌}
use mathlib.Core.Logic.{◌⊎◌, inl, inr}
use Rattle.std.specs.Prelude.{Option, Some, None}
use Prim.Native.Nat.{ℕ, ◌<◌, ◌≤◌, min}
use lib.Dec.{eqb, lit≤}
use lib.IntN.{pos, negsuc}
use lib.Ieee.{nan, eq}
use lib.ListN.{get_or}
use Rattle.answer.specs.Lists.{how_many}
use Rattle.statistics.specs.Calls.{total}
use Rattle.codes.specs.Code.{copies}
use Rattle.codes.specs.Value.{i8, float, values, value_of, same_int}
use Rattle.codes.proofs.ValueLaws.{i8_numbers, float_numbers}
use Rattle.sire.specs.Least.{Placed, lesser, least_of, IsLeast, count_or, CountOfLeast, FoundNoMore}
use Rattle.sire.specs.Sire.{opposing, opposing_values, compared, is_finished, comparisons_made, so_far, in_all, named, least_unfinished, floor, least_overall}
use Rattle.sire.proofs.Opposing.{opposing_by_copies, opposing_by_values, i8_not_two, float_not_two, opposing_either_way}
use Rattle.sire.proofs.Limit.{compared_in_order, made_is, compared_of_the_rest, finished_exactly, no_markers_finished, not_begun}
use Rattle.sire.proofs.Theorems.{named_is_least, nobody_named, floor_unfinished, floor_not_begun, floor_finished, named_overall, overall_is_least, no_lower_than_named, no_lower_than_floor, floor_empty, enough, larger_limit}

-- ---- four candidates and three markers: a row is a candidate, 1 is an opposing marker. They oppose at 2, 1, 1 and 0 markers
abbrev table : List (List ℕ)
table = (1 ∷ 0 ∷ 1 ∷ []) ∷ (0 ∷ 1 ∷ 0 ∷ []) ∷ (0 ∷ 0 ∷ 1 ∷ []) ∷ (0 ∷ 0 ∷ 0 ∷ []) ∷ []

abbrev drawn : ℕ → ℕ → Bool
drawn k m = eqb (get_or (get_or table k []) m 0) 1

abbrev pub placed : ℕ → ℕ → Placed
placed place count = record { place = place; count = count }

abbrev pub at : ℕ → ℕ → Option Placed
at place count = Some (placed place count)

pub first_on_equal_counts : least_of (λ k. true) (λ k. get_or (2 ∷ 1 ∷ 1 ∷ []) k 0) 3 ≡ at 1 1
unfolding least_of lesser
first_on_equal_counts = refl

-- each computed by the definitions alone
pub record Drawn : Type 0 where
  -- 9 comparisons finish three. Places 1 and 2 oppose at one marker each: the first is named. The fourth is not begun
  pub nine_named : named 9 3 4 drawn ≡ at 1 1
  pub nine_floor : floor 9 3 4 drawn ≡ 0
  pub nine_made : comparisons_made 9 3 4 ≡ 9
  -- without the fourth, none is unfinished
  pub three_floor : floor 9 3 3 drawn ≡ 1
  -- 5 finish the first, which opposes at two markers, and compare the second at two, at one of which it opposes
  pub five_named : named 5 3 2 drawn ≡ at 0 2
  pub five_floor : floor 5 3 2 drawn ≡ 1
  pub five_overall : least_overall 3 2 drawn ≡ at 1 1
  -- 2 finish none
  pub two_named : named 2 3 1 drawn ≡ None
  pub two_floor : floor 2 3 1 drawn ≡ 1
  -- more than the list needs
  pub all_named : named 100 3 4 drawn ≡ at 3 0
  pub all_made : comparisons_made 100 3 4 ≡ 12
  -- the last marker counts
  pub last_marker : so_far 9 3 drawn 2 ≡ 1
  -- limit 0: with markers none is named, without markers the first
  pub zero_named : named 0 3 4 drawn ≡ None
  pub no_markers : named 0 0 4 drawn ≡ at 0 0
  pub nobody : named 9 3 0 drawn ≡ None

pub computed : Drawn
unfolding comparisons_made compared is_finished so_far in_all named least_unfinished floor least_overall least_of lesser count_or total how_many
computed =
    record {
      nine_named = refl;
      nine_floor = refl;
      nine_made = refl;
      three_floor = refl;
      five_named = refl;
      five_floor = refl;
      five_overall = refl;
      two_named = refl;
      two_floor = refl;
      all_named = refl;
      all_made = refl;
      last_marker = refl;
      zero_named = refl;
      no_markers = refl;
      nobody = refl;
    }

-- ---- by the theorems
pub record ByTheorems : Type 0 where
  -- the comparison of place 1 at marker 2 is the sixth: made with a limit of 6, not with one of 5
  pub sixth_made : 2 < compared 6 3 1
  pub sixth_not_made : 2 < compared 5 3 1 → 5 < 5
  pub made : comparisons_made 9 3 4 ≡ 9
  pub of_the_rest : compared 5 3 1 ≡ 2
  pub finished : is_finished 0 0 3 ≡ true
  pub third_finished : is_finished 9 3 2 ≡ true
  pub not_begun_count : so_far 9 3 drawn 3 ≡ 0
  pub first_of_least : IsLeast (is_finished 9 3) (in_all 3 drawn) 4 (placed 1 1)
  pub nobody_below : named 2 3 1 drawn ≡ None
  pub nobody_why : (◌≡◌ {A = ℕ} 1 0) ⊎ (2 < 3)
  pub nobody_there : named 9 3 0 drawn ≡ None
  pub least_unfinished_law : CountOfLeast (λ k. not (is_finished 5 3 k)) (so_far 5 3 drawn) 2 1
  pub not_begun_floor : floor 9 3 4 drawn ≡ 0
  pub finished_floor : floor 9 3 3 drawn ≡ 1
  pub empty_floor : floor 9 3 0 drawn ≡ 0
  pub least_overall_law : IsLeast (λ k. true) (in_all 3 drawn) 4 (placed 3 0)
  pub finished_overall : named 12 3 4 drawn ≡ least_overall 3 4 drawn
  pub not_below_named : min (floor 5 3 2 drawn) 2 ≤ 1
  pub not_below_floor : floor 2 3 1 drawn ≤ 2
  pub more_named : FoundNoMore (named 9 3 4 drawn) 2

pub by_theorems : ByTheorems
unfolding comparisons_made compared is_finished so_far in_all named least_unfinished floor least_overall least_of lesser count_or total how_many
by_theorems =
    record {
      sixth_made = (compared_in_order 6 3 1 2 (lit≤ tt)).1 (lit≤ tt);
      sixth_not_made = (compared_in_order 5 3 1 2 (lit≤ tt)).0;
      made = made_is 9 3 4;
      of_the_rest = compared_of_the_rest 5 3 1;
      finished = no_markers_finished 0 3;
      third_finished = (finished_exactly 9 3 2).1 (inr (lit≤ tt));
      not_begun_count = not_begun 9 3 drawn 3 (lit≤ tt);
      first_of_least = (named_is_least 9 3 4 drawn (placed 1 1)).0 refl;
      nobody_below = (nobody_named 2 3 1 drawn).1 (inr (lit≤ tt));
      nobody_why = (nobody_named 2 3 1 drawn).0 refl;
      nobody_there = (nobody_named 9 3 0 drawn).1 (inl refl);
      least_unfinished_law = floor_unfinished 5 3 2 drawn 1 (lit≤ tt) refl;
      not_begun_floor = floor_not_begun 9 3 4 drawn 3 (lit≤ tt) refl (lit≤ tt);
      finished_floor = floor_finished 9 3 3 drawn (enough 9 3 3 (lit≤ tt)) (placed 1 1) refl;
      empty_floor = floor_empty 9 3 drawn;
      least_overall_law = (overall_is_least 3 4 drawn (placed 3 0)).0 refl;
      finished_overall = named_overall 12 3 4 drawn (enough 12 3 4 (lit≤ tt));
      not_below_named = no_lower_than_named 5 3 2 drawn (placed 1 1) refl (placed 0 2) refl;
      not_below_floor = no_lower_than_floor 2 3 1 drawn (placed 0 2) refl refl;
      more_named = larger_limit 5 9 3 4 drawn (lit≤ tt) (placed 0 2) refl;
    }

-- ---- calls. Codes 0 and 3 are 2 and 0 with the first allele counted, 0 and 2 without; code 1 is missing, here −127 and NaN
pub record Calls : Type 0 where
  pub copies_apart : ((copies 0 ≡ Some 0) × (copies 3 ≡ Some 2)) ⊎ ((copies 0 ≡ Some 2) × (copies 3 ≡ Some 0))
  pub counted : opposing_values i8 (pos 2) (pos 0) ≡ true
  pub other_counted : opposing_values i8 (pos 0) (pos 2) ≡ true
  pub missing : opposing_values float nan float.two ≡ false
  pub one_copy : opposing_values float float.one float.zero ≡ false

pub calls : Calls
unfolding opposing value_of values same_int eq
calls =
    record {
      copies_apart = (opposing_by_copies 0 3 (lit≤ tt) (lit≤ tt)).0 refl;
      counted = opposing_by_values i8 i8_numbers i8_not_two (negsuc 126) refl refl true 0 3 (lit≤ tt) (lit≤ tt);
      other_counted = opposing_by_values i8 i8_numbers i8_not_two (negsuc 126) refl refl false 0 3 (lit≤ tt) (lit≤ tt);
      missing = opposing_by_values float float_numbers float_not_two nan refl refl false 1 3 (lit≤ tt) (lit≤ tt);
      one_copy = opposing_by_values float float_numbers float_not_two nan refl refl true 2 3 (lit≤ tt) (lit≤ tt);
    }

pub either_way : opposing 3 0 ≡ opposing 0 3
either_way = opposing_either_way 3 0
