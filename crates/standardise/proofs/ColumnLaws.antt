-- A marker's column as a part of the values in marker order.
use mathlib.Core.Path.{◌≡◌, refl, sym, ap, ◌∙◌}
use mathlib.Core.Bool.{Bool}
use mathlib.Core.List.{List, ◌++◌, map}
use Prim.Native.Nat.{ℕ, zero, suc, ◌+◌, ◌-◌, ◌≤◌}
use native.Mathlib.Numerals.{add-one}
use native.Mathlib.Omega.{arith}
use lib.ListN.{length, get_or, set, take, drop, take-append-drop, length-drop}
use lib.Seq.{length-take-le, get_or-take, get_or-drop}
use lib.Ieee.{Float, nan, Format}
use borrow.Rule.Slice.PartMut.{put_mid}
use Rattle.std.proofs.lemmas.List.{take_rest, get_or_default, get_or-append_right, set-append_right, length-map}
use Rattle.std.proofs.lemmas.List.Edits.{map_over_more}
use Rattle.statistics.specs.declared.Stats.{Stats}
use Rattle.statistics.specs.Statistics.{found_for}
use Rattle.statistics.proofs.CountLaws.{found_for_ext}
use Rattle.standardise.specs.Private.{nth, from, written, changed}

-- the values from a place on
module _ (xs : List Float) (a : ℕ) where
  pub length_rest : length (take (length xs - a) (drop a xs)) ≡ length xs - a
  length_rest = ap length (take_rest xs a) ∙ length-drop a xs

  pub in_rest : (i : ℕ) → get_or (take (length xs - a) (drop a xs)) i nan ≡ nth xs (a + i)
  in_rest i = ap (λ (ys : List Float). get_or ys i nan) (take_rest xs a) ∙ get_or-drop a xs i nan

  -- a marker's statistics
  pub part_found : (f : Format) (use_stats : Bool) (s : Stats) (n k : ℕ) → k ≡ n → a + n ≤ length xs
      → found_for f use_stats s (length (take k (drop a xs))) (nth (take k (drop a xs))) ≡ found_for f use_stats s n (from xs a)
  part_found f use_stats s n k e h =
      let d = length-drop a xs in
      let l : length (take k (drop a xs)) ≡ n = length-take-le k (drop a xs) (omega (arith, d)) ∙ e in
      ap (λ (m : ℕ). found_for f use_stats s m (nth (take k (drop a xs)))) l
      ∙ found_for_ext f (nth (take k (drop a xs))) (from xs a) use_stats s n (λ i b. get_or-take k (drop a xs) i nan (omega arith) ∙ get_or-drop a xs i nan)

  module _ (g : Float → Float) where
    first : ℕ → List Float
    first n = map g (take n (drop a xs)) ++ drop n (drop a xs)

    first_changed : (n : ℕ) → a + n ≤ length xs → take a xs ++ first n ≡ changed xs a n g
    unfolding written first
    first_changed zero h = take-append-drop a xs
    first_changed (suc n) h =
        let d = length-drop a xs in
        let t : length (take a xs) ≡ a = length-take-le a xs (omega arith) in
        let w = g (get_or xs (a + n) nan) in
        let l : length (map g (take n (drop a xs))) ≡ n = length-map (take n (drop a xs)) g ∙ length-take-le n (drop a xs) (omega (arith, d)) in
        let back : a + n - a ≡ n = omega arith in
        let none : n + (n - n) ≡ n = omega arith in
        let x = get_or (drop a xs) n nan in
        let there : get_or (first n) n x ≡ get_or (drop a xs) n x = (
        get_or-append_right (map g (take n (drop a xs))) (drop n (drop a xs)) n n x l (omega arith)
        ∙ get_or-drop n (drop a xs) (n - n) x
        ∙ ap (λ (j : ℕ). get_or (drop a xs) j x) none
        ) in
        sym (ap (λ (ys : List Float). set ys (a + n) w) (sym (first_changed n (omega arith)))
        ∙ set-append_right (take a xs) (first n) a (a + n) w t (omega arith)
        ∙ ap (λ (j : ℕ). take a xs ++ set (first n) j w) back
        ∙ ap (λ (v : Float). take a xs ++ set (first n) n (g v)) (sym (get_or-drop a xs n nan))
        ∙ ap (λ (ys : List Float). take a xs ++ ys) (map_over_more g (drop a xs) (first n) n x (omega (arith, d)) refl (sym (there ∙ get_or_default (drop a xs) n x nan (omega (arith, d)))))
        ∙ ap (λ (j : ℕ). take a xs ++ first j) (add-one n))

    -- a marker's values, when they are put back
    pub part_changed : (n k : ℕ) (ys : List Float) → k ≡ n → a + n ≤ length xs → ys ≡ map g (take k (drop a xs)) → put_mid a k xs ys ≡ changed xs a n g
    unfolding first
    part_changed n k ys e h y =
        ap (λ (zs : List Float). put_mid a k xs zs) y ∙ ap (λ (j : ℕ). take a xs ++ first j) e ∙ first_changed n h
