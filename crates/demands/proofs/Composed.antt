-- Lists composed: as long as the second, good where both are, and each entry means in the first file what the entry of the first list means that the
-- second names.
use mathlib.Core.Path.{◌≡◌, refl, ap, subst, ◌∙◌}
use mathlib.Core.Bool.{true}
use mathlib.Core.List.{List, [], ◌∷◌, map}
use Prim.Native.Nat.{ℕ, ◌<◌}
use native.Mathlib.Omega.{arith}
use borrow.Author.Tests.{lt-ltb}
use lib.Dec.{lit≤}
use lib.IntN.{ℤ, pos, negsuc}
use lib.ListN.{length, get_or, length-map, get_or-map}
use Rattle.entries.specs.Entry.{is_good, means, first_bad}
use Rattle.entries.proofs.EntryLaws.{means_below, all_good, none_bad}
use Rattle.answer.proofs.Tabulate.{get_d_inside}
use Rattle.demands.specs.Demand.{GoodList, meant}
use Rattle.demands.specs.Composed.{resolved_through, composed, composed_as_given}

-- ---- by what each entry of the second becomes
-- f takes an entry that is good for the first list's length to one that is good for the count, and that means what the entry at its place means
pub record Through (count : ℕ) (first : List ℤ) (f : ℤ → ℤ) : Type 0 where
  pub still_good : (e : ℤ) → is_good (length first) e ≡ true → is_good count (f e) ≡ true
  pub same_meaning : (e : ℤ) → means count (f e) ≡ means count (get_or first (means (length first) e) (pos 0))

map_at : (f : ℤ → ℤ) (l : List ℤ) (k : ℕ) → k < length l → get_or (map f l) k (pos 0) ≡ f (get_or l k (pos 0))
map_at f l k h = get_d_inside (map f l) k (pos 0) (f (pos 0)) (let e = length-map l f in omega arith) ∙ get_or-map f l k (pos 0)

module _ (count : ℕ) (first second : List ℤ) (f : ℤ → ℤ) (t : Through count first f) where
  pub through_good : GoodList (length first) second → GoodList count (map f second)
  through_good h =
      none_bad count (map f second)
      (λ k l. let b : k < length second = subst (λ (n : ℕ). k < n) (length-map second f) l in
      ap (is_good count) (map_at f second k b) ∙ t.still_good (get_or second k (pos 0)) (all_good (length first) second k h b))

  pub through_means : (k : ℕ) → k < length second → meant count (map f second) k ≡ meant count first (meant (length first) second k)
  unfolding meant
  through_means k b = ap (means count) (map_at f second k b) ∙ t.same_meaning (get_or second k (pos 0))

-- ---- the entry resolved, and the entry of the first list as it stands there
module _ (count : ℕ) (first : List ℤ) (g : GoodList count first) where
  place_good : (e : ℤ) → is_good (length first) e ≡ true → is_good count (get_or first (means (length first) e) (pos 0)) ≡ true
  place_good e h = all_good count first (means (length first) e) g (means_below (length first) e h)

  pub resolved : Through count first (resolved_through count first)
  unfolding resolved_through is_good means
  resolved =
      record {
        still_good = λ e h. lt-ltb (means count (get_or first (means (length first) e) (pos 0))) count (means_below count (get_or first (means (length first) e) (pos 0)) (place_good e h));
        same_meaning = λ e. refl;
      }

  pub as_given : Through count first (λ e. get_or first (means (length first) e) (pos 0))
  as_given = record { still_good = place_good; same_meaning = λ e. refl }

  -- ---- so of both compositions
  module _ (second : List ℤ) where
    pub composed_length : length (composed count first second) ≡ length second
    unfolding composed
    composed_length = length-map second (resolved_through count first)

    pub composed_good : GoodList (length first) second → GoodList count (composed count first second)
    unfolding composed
    composed_good = through_good count first second (resolved_through count first) resolved

    pub composed_means : (k : ℕ) → k < length second → meant count (composed count first second) k ≡ meant count first (meant (length first) second k)
    unfolding composed
    composed_means = through_means count first second (resolved_through count first) resolved

    pub given_good : GoodList (length first) second → GoodList count (composed_as_given first second)
    unfolding composed_as_given
    given_good = through_good count first second (λ e. get_or first (means (length first) e) (pos 0)) as_given

    pub given_means : (k : ℕ) → k < length second → meant count (composed_as_given first second) k ≡ meant count first (meant (length first) second k)
    unfolding composed_as_given
    given_means = through_means count first second (λ e. get_or first (means (length first) e) (pos 0)) as_given

-- ---- animals 4, 0, 1 and 1 again, of 5; of these four the last, and twice that at place 1
abbrev pub four : List ℤ
four = pos 4 ∷ negsuc 4 ∷ pos 1 ∷ pos 1 ∷ []

abbrev pub of_four : List ℤ
of_four = negsuc 0 ∷ pos 1 ∷ negsuc 2 ∷ []

four_good : GoodList 5 four
unfolding first_bad is_good
four_good = refl

of_four_good : GoodList (length four) of_four
unfolding first_bad is_good
of_four_good = refl

-- so animals 1, 0 and 0: −1 is place 3 of the four, and would be place 4 of 5, where the first list has nothing
pub four_composed : composed 5 four of_four ≡ pos 1 ∷ pos 0 ∷ pos 0 ∷ []
unfolding composed resolved_through means
four_composed = refl

pub four_as_given : composed_as_given four of_four ≡ pos 1 ∷ negsuc 4 ∷ negsuc 4 ∷ []
unfolding composed_as_given means
four_as_given = refl

pub four_composed_good : GoodList 5 (composed 5 four of_four)
four_composed_good = composed_good 5 four four_good of_four of_four_good

pub four_given_means : meant 5 (composed_as_given four of_four) 2 ≡ 0
unfolding meant means
four_given_means = given_means 5 four four_good of_four 2 (lit≤ tt)

-- lists of no entries
pub none_composed : composed 5 [] [] ≡ []
unfolding composed
none_composed = refl
