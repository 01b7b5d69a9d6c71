-- The sentences of W-211 of document 02 on the named candidate and the floor. `opposes k m`: whether the candidate at place k opposes at marker m.
use mathlib.Core.Path.{◌≡◌, refl, sym, ap, ◌∙◌}
use mathlib.Core.Bool.{Bool, true, false, not}
use mathlib.Core.Logic.{◌↔◌, ◌⊎◌, inl, inr}
use Rattle.std.specs.Prelude.{Option, Some, None}
use Prim.Native.Nat.{ℕ, suc, ◌*◌, ◌<◌, ◌≤◌, min}
use native.Mathlib.Nat.{mul-le-mul}
use native.Mathlib.Omega.{arith}
use Rattle.answer.proofs.Tests.{by_test, by_lt}
use Rattle.sire.specs.Least.{Placed, least_of, IsLeast, count_or, CountOfLeast, FoundNoMore}
use Rattle.sire.specs.Sire.{compared, is_finished, so_far, in_all, named, least_unfinished, floor, least_overall}
use Rattle.sire.proofs.Least.{not_both, least_exactly, none_exactly, least_no_more, least_ext}
use Rattle.sire.proofs.Limit.{finished_all, reached_finished, still_finished, not_begun, finished_count, so_far_most}

-- "The least over the whole list"
pub overall_is_least :
    (markers candidates : ℕ) (opposes : ℕ → ℕ → Bool) (whole : Placed)
    → (least_overall markers candidates opposes ≡ Some whole) ↔ IsLeast (λ k. true) (in_all markers opposes) candidates whole
unfolding least_overall
overall_is_least markers candidates opposes whole = least_exactly (λ k. true) (in_all markers opposes) candidates whole

module _ (limit markers candidates : ℕ) (opposes : ℕ → ℕ → Bool) where
  -- ---- the named candidate
  -- the same by the counts at all markers
  named_in_all : named limit markers candidates opposes ≡ least_of (is_finished limit markers) (in_all markers opposes) candidates
  unfolding named
  named_in_all =
      least_ext (is_finished limit markers) (is_finished limit markers) (so_far limit markers opposes) (in_all markers opposes) candidates
      (λ k l. refl) (λ k l t. finished_count limit markers opposes k t)

  -- "the fully compared ram that opposes least, the first on equal counts, by its place in the list and its count"
  pub named_is_least : (found : Placed) → (named limit markers candidates opposes ≡ Some found) ↔ IsLeast (is_finished limit markers) (in_all markers opposes) candidates found
  named_is_least found = (
    (λ e. (least_exactly (is_finished limit markers) (in_all markers opposes) candidates found).0 (sym named_in_all ∙ e)),
    (λ h. named_in_all ∙ (least_exactly (is_finished limit markers) (in_all markers opposes) candidates found).1 h),
  )

  none_finished : named limit markers candidates opposes ≡ None → (k : ℕ) → k < candidates → is_finished limit markers k ≡ false
  none_finished e = (none_exactly (is_finished limit markers) (in_all markers opposes) candidates).0 (sym named_in_all ∙ e)

  -- "No ram is named exactly if the list is empty or the limit is below the marker count."
  then_none : named limit markers candidates opposes ≡ None → (candidates ≡ 0) ⊎ (limit < markers)
  then_none e =
      by_lt 0 candidates
      (λ l. by_lt limit markers (λ b. inr b) (λ b. not_both (is_finished limit markers 0) (reached_finished limit markers 0 (omega arith)) (none_finished e 0 l)))
      (λ l. inl (omega arith))

  unfinished_below : limit < markers → (k : ℕ) → is_finished limit markers k ≡ false
  unfolding compared
  unfinished_below h k =
      by_test (is_finished limit markers k)
      (λ t. absurd (let e = finished_all limit markers k t in omega arith))
      (λ t. t)

  if_none : (candidates ≡ 0) ⊎ (limit < markers) → named limit markers candidates opposes ≡ None
  unfolding named
  if_none (inl e) = (none_exactly (is_finished limit markers) (so_far limit markers opposes) candidates).1 (λ k l. absurd (omega arith))
  if_none (inr h) = (none_exactly (is_finished limit markers) (so_far limit markers opposes) candidates).1 (λ k l. unfinished_below h k)

  pub nobody_named : (named limit markers candidates opposes ≡ None) ↔ ((candidates ≡ 0) ⊎ (limit < markers))
  nobody_named = (then_none, if_none)

  -- ---- the floor
  -- "the least count so far among rams not finished"
  pub floor_unfinished :
      (k : ℕ) → k < candidates → is_finished limit markers k ≡ false
      → CountOfLeast (λ j. not (is_finished limit markers j)) (so_far limit markers opposes) candidates (floor limit markers candidates opposes)
  unfolding floor least_unfinished count_or
  floor_unfinished k l f =
      let m = least_no_more (λ j. not (is_finished limit markers j)) (so_far limit markers opposes) candidates k l (ap not f) in
      record {
        found = m.found;
        is_least = (least_exactly (λ j. not (is_finished limit markers j)) (so_far limit markers opposes) candidates m.found).0 m.is_found;
        is_count = rw m.is_found;
      }

  floor_most : (k : ℕ) → k < candidates → is_finished limit markers k ≡ false → floor limit markers candidates opposes ≤ so_far limit markers opposes k
  floor_most k l f = let u = floor_unfinished k l f in let m = u.is_least.least k l (ap not f) in let e = u.is_count in omega arith

  -- "0 for one not begun"
  pub floor_not_begun : (k : ℕ) → k < candidates → is_finished limit markers k ≡ false → limit ≤ k * markers → floor limit markers candidates opposes ≡ 0
  floor_not_begun k l f h = let m = floor_most k l f in let z = not_begun limit markers opposes k h in omega arith

  module _ (all : (k : ℕ) → k < candidates → is_finished limit markers k ≡ true) where
    floor_named : floor limit markers candidates opposes ≡ count_or (named limit markers candidates opposes) 0
    unfolding floor least_unfinished count_or
    floor_named =
        ap (λ (o : Option Placed). count_or o (count_or (named limit markers candidates opposes) 0))
        ((none_exactly (λ k. not (is_finished limit markers k)) (so_far limit markers opposes) candidates).1 (λ k l. ap not (all k l)))

    -- "with none unfinished it is the named ram's count"
    pub floor_finished : (found : Placed) → named limit markers candidates opposes ≡ Some found → floor limit markers candidates opposes ≡ found.count
    unfolding count_or
    floor_finished found e = floor_named ∙ ap (λ (o : Option Placed). count_or o 0) e

    -- the named candidate is then the first of the least over the whole list
    pub named_overall : named limit markers candidates opposes ≡ least_overall markers candidates opposes
    unfolding least_overall
    named_overall =
        named_in_all
        ∙ least_ext (is_finished limit markers) (λ k. true) (in_all markers opposes) (in_all markers opposes) candidates all (λ k l t. refl)

  -- ---- "The least over the whole list is"
  module _ (whole : Placed) (overall : least_overall markers candidates opposes ≡ Some whole) where
    whole_is : IsLeast (λ k. true) (in_all markers opposes) candidates whole
    whole_is = (overall_is_least markers candidates opposes whole).0 overall

    if_unfinished : is_finished limit markers whole.place ≡ false → floor limit markers candidates opposes ≤ whole.count
    if_unfinished f =
        let a = floor_most whole.place whole_is.in_list f in
        let b = so_far_most limit markers opposes whole.place in
        let c = whole_is.its_count in omega arith

    -- "no lower than the smaller of floor and named count"
    pub no_lower_than_named : (found : Placed) → named limit markers candidates opposes ≡ Some found → min (floor limit markers candidates opposes) found.count ≤ whole.count
    no_lower_than_named found e =
        by_test (is_finished limit markers whole.place)
        (λ t. let a = ((named_is_least found).0 e).least whole.place whole_is.in_list t in let c = whole_is.its_count in omega arith)
        (λ f. let a = if_unfinished f in omega arith)

    -- "or than the floor when no ram is named"
    pub no_lower_than_floor : named limit markers candidates opposes ≡ None → floor limit markers candidates opposes ≤ whole.count
    no_lower_than_floor e = if_unfinished (none_finished e whole.place whole_is.in_list)

-- "or 0 for an empty list"
pub floor_empty : (limit markers : ℕ) (opposes : ℕ → ℕ → Bool) → floor limit markers 0 opposes ≡ 0
unfolding floor least_unfinished named least_of count_or
floor_empty limit markers opposes = refl

-- none is unfinished where the limit reaches rams times markers
pub enough : (limit markers candidates : ℕ) → candidates * markers ≤ limit → (k : ℕ) → k < candidates → is_finished limit markers k ≡ true
enough limit markers candidates h k l =
    let m : suc k * markers ≤ candidates * markers = mul-le-mul l (let r : markers ≤ markers = omega arith in r) in
    reached_finished limit markers k (omega arith)

-- ---- "A larger limit never names a ram that opposes more.": it names one, whose count is no more
pub larger_limit :
    (limit more markers candidates : ℕ) (opposes : ℕ → ℕ → Bool) → limit ≤ more
    → (found : Placed) → named limit markers candidates opposes ≡ Some found → FoundNoMore (named more markers candidates opposes) found.count
larger_limit limit more markers candidates opposes h found e =
    let a = (named_is_least limit markers candidates opposes found).0 e in
    let t = still_finished limit more markers found.place h a.passes in
    let m = least_no_more (is_finished more markers) (in_all markers opposes) candidates found.place a.in_list t in
    let q = a.its_count in
    record {
      found = m.found;
      is_found = named_in_all more markers candidates opposes ∙ m.is_found;
      no_more = let n = m.no_more in omega arith;
    }
