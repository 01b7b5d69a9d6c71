-- Laws of the least of the counts at the places of a list.
use mathlib.Core.Path.{◌≡◌, refl, sym, ap, subst, ◌∙◌}
use mathlib.Core.Bool.{Bool, true, false, cond}
use mathlib.Core.Logic.{◌↔◌}
use Rattle.std.specs.Prelude.{Option, Some, None}
use Prim.Native.Nat.{ℕ, zero, suc, ◌<◌, ◌≤◌}
use native.Mathlib.Omega.{arith}
use lib.Dec.{ltb}
use borrow.Author.Tests.{ltb-true, ltb-false}
use Rattle.answer.proofs.Tests.{by_test, by_lt}
use Rattle.sire.specs.Least.{Placed, lesser, least_of, IsLeast, FoundNoMore}

pub not_both : {A : Type 0} (b : Bool) → b ≡ true → b ≡ false → A
not_both b t f = absurd (let q : true ≡ false = (sym t ∙ f) in let z : ◌≡◌ {A = ℕ} 0 1 = cc in omega arith)

-- the later one where its count is below, else the earlier
lesser_by : (P : Option Placed → Type 0) (earlier later : Placed)
    → (later.count < earlier.count → P (Some later)) → (earlier.count ≤ later.count → P (Some earlier)) → P (lesser (Some earlier) later)
unfolding lesser
lesser_by P earlier later f g =
    by_test (ltb later.count earlier.count)
    (λ t. subst (λ (b : Bool). P (cond b (Some later) (Some earlier))) (sym t) (f (ltb-true later.count earlier.count t)))
    (λ t. subst (λ (b : Bool). P (cond b (Some later) (Some earlier))) (sym t) (g (ltb-false later.count earlier.count t)))

module _ (test : ℕ → Bool) (count : ℕ → ℕ) where
  -- what is found among n places: nothing where none passes, else the first of the least
  data Finds (n : ℕ) : Option Placed → Type 0 where
    nothing : ((k : ℕ) → k < n → test k ≡ false) → Finds n None
    finds : (found : Placed) → IsLeast test count n found → Finds n (Some found)

  here : ℕ → Placed
  here n = record { place = n; count = count n }

  module _ (n : ℕ) where
    same_count : (k : ℕ) → n ≤ k → k < suc n → count k ≡ count n
    same_count k a b = ap count (omega arith)

    same_test : (k : ℕ) → n ≤ k → k < suc n → test k ≡ test n
    same_test k a b = ap test (omega arith)

    skipped : {o : Option Placed} → test n ≡ false → Finds n o → Finds (suc n) o
    skipped f (nothing h) = nothing (λ k l. by_lt k n (λ a. h k a) (λ a. same_test k a l ∙ f))
    skipped f (finds found h) =
        finds found (record {
          in_list = let a = h.in_list in omega arith;
          passes = h.passes;
          its_count = h.its_count;
          least = λ k l t. by_lt k n (λ a. h.least k a t) (λ a. not_both (test k) t (same_test k a l ∙ f));
          first = h.first;
        })

    -- the place n itself is found, if those before it that pass have more
    taken : test n ≡ true → ((k : ℕ) → k < n → test k ≡ true → count n < count k) → Finds (suc n) (Some (here n))
    unfolding here
    taken t more =
        finds (here n) (record {
          in_list = omega arith;
          passes = t;
          its_count = refl;
          least = λ k l u. by_lt k n (λ a. let m = more k a u in omega arith) (λ a. let e = same_count k a l in omega arith);
          first = more;
        })

    kept : (found : Placed) → IsLeast test count n found → found.count ≤ count n → Finds (suc n) (Some found)
    kept found h m =
        finds found (record {
          in_list = let a = h.in_list in omega arith;
          passes = h.passes;
          its_count = h.its_count;
          least = λ k l u. by_lt k n (λ a. h.least k a u) (λ a. let e = same_count k a l in omega arith);
          first = h.first;
        })

    next : {o : Option Placed} → test n ≡ true → Finds n o → Finds (suc n) (lesser o (here n))
    unfolding lesser here
    next t (nothing h) = taken t (λ k a u. not_both (test k) u (h k a))
    next t (finds found h) = lesser_by (Finds (suc n)) found (here n) (λ l. taken t (λ k a u. let m = h.least k a u in omega arith)) (kept found h)

  least_found : (n : ℕ) → Finds n (least_of test count n)
  unfolding least_of here
  least_found zero = nothing (λ k l. absurd (omega arith))
  least_found (suc n) =
      by_test (test n)
      (λ t. rw t (next n t (least_found n)))
      (λ t. rw t (skipped n t (least_found n)))

  -- ---- what is found has these words, and nothing else has
  found_has : {n : ℕ} {o : Option Placed} (found : Placed) → Finds n o → o ≡ Some found → IsLeast test count n found
  found_has found (nothing h) e = absurd (let z : ◌≡◌ {A = ℕ} 0 1 = cc in omega arith)
  found_has {n} found (finds other h) e = let q : other ≡ found = cc in subst (IsLeast test count n) q h

  none_has : {n : ℕ} {o : Option Placed} → Finds n o → o ≡ None → (k : ℕ) → k < n → test k ≡ false
  none_has (nothing h) e = h
  none_has (finds other h) e = absurd (let z : ◌≡◌ {A = ℕ} 0 1 = cc in omega arith)

  module _ (n : ℕ) where
    least_is : (found : Placed) → least_of test count n ≡ Some found → IsLeast test count n found
    least_is found e = found_has found (least_found n) e

    least_none : least_of test count n ≡ None → (k : ℕ) → k < n → test k ≡ false
    least_none e = none_has (least_found n) e

    same_place : (f g : Placed) → IsLeast test count n f → IsLeast test count n g → g.place ≤ f.place
    same_place f g a b =
        by_lt f.place g.place
        (λ l. absurd (let m = b.first f.place l a.passes in let q = a.least g.place b.in_list b.passes in let x = a.its_count in let y = b.its_count in omega arith))
        (λ l. l)

    pub just_one : (f g : Placed) → IsLeast test count n f → IsLeast test count n g → f ≡ g
    just_one f g a b =
        let p : f.place ≡ g.place = (let u = same_place f g a b in let v = same_place g f b a in omega arith) in
        let q : f.count ≡ g.count = (a.its_count ∙ ap count p ∙ sym b.its_count) in
        ap (λ (x : ℕ). let r : Placed = record { place = x; count = f.count } in r) p ∙ ap (λ (x : ℕ). let r : Placed = record { place = g.place; count = x } in r) q

    to_least : {o : Option Placed} (found : Placed) → IsLeast test count n found → Finds n o → o ≡ Some found
    to_least found a (nothing h) = not_both (test found.place) a.passes (h found.place a.in_list)
    to_least found a (finds other h) = ap Some (just_one other found h a)

    to_none : {o : Option Placed} → ((k : ℕ) → k < n → test k ≡ false) → Finds n o → o ≡ None
    to_none f (nothing h) = refl
    to_none f (finds other h) = not_both (test other.place) h.passes (f other.place h.in_list)

    pub least_exactly : (found : Placed) → (least_of test count n ≡ Some found) ↔ IsLeast test count n found
    least_exactly found = (least_is found, λ a. to_least found a (least_found n))

    pub none_exactly : (least_of test count n ≡ None) ↔ ((k : ℕ) → k < n → test k ≡ false)
    none_exactly = (least_none, λ f. to_none f (least_found n))

    -- where a place passes, one is found, whose count is no more
    module _ (k : ℕ) (l : k < n) (t : test k ≡ true) where
      to_some : {o : Option Placed} → Finds n o → FoundNoMore o (count k)
      to_some (nothing h) = not_both (test k) t (h k l)
      to_some (finds other h) = record { found = other; is_found = refl; no_more = h.least k l t }

      pub least_no_more : FoundNoMore (least_of test count n) (count k)
      least_no_more = to_some (least_found n)

-- ---- tests and counts that agree at every place
module _ (s t : ℕ → Bool) (f g : ℕ → ℕ) (n : ℕ) (tests : (k : ℕ) → k < n → s k ≡ t k) (counts : (k : ℕ) → k < n → t k ≡ true → f k ≡ g k) where
  finds_same : {o : Option Placed} → Finds s f n o → least_of t g n ≡ o
  finds_same (nothing h) = (none_exactly t g n).1 (λ k l. sym (tests k l) ∙ h k l)
  finds_same (finds found h) =
      let p : t found.place ≡ true = (sym (tests found.place h.in_list) ∙ h.passes) in
      let c : f found.place ≡ g found.place = counts found.place h.in_list p in
      (least_exactly t g n found).1 (record {
        in_list = h.in_list;
        passes = p;
        its_count = h.its_count ∙ c;
        least = λ k l u. let a = h.least k l (tests k l ∙ u) in let b = counts k l u in omega arith;
        first = λ k l u. let i = h.in_list in let m : k < n = omega arith in let a = h.first k l (tests k m ∙ u) in let b = counts k m u in omega arith;
      })

  pub least_ext : least_of s f n ≡ least_of t g n
  least_ext = sym (finds_same (least_found s f n))
