-- A list of places, each below n, in which every number below n stands exactly once: it is as long as n, and every sum over it is the sum over all.
use mathlib.Core.Path.{◌≡◌, refl, sym, ap, subst, ◌∙◌}
use mathlib.Core.Bool.{Bool, true, false, cond}
use mathlib.Core.Logic.{◌⊎◌, inl, inr}
use Prim.Native.Nat.{ℕ, zero, suc, ◌+◌, ◌<◌}
use native.Mathlib.Nat.{eq-or-lt_of_le, le_of_suc-le-suc}
use native.Mathlib.Omega.{arith}
use lib.Dec.{eqb}
use borrow.Author.Tests.{eq-eqb, ne_eqb, eqb-true, eqb-false}
use Rattle.statistics.specs.Calls.{total, SumsAgree}
use Rattle.statistics.proofs.Exact.{total_ext}

-- x at the place k, and 0 elsewhere
abbrev only : ℕ → (ℕ → ℕ) → ℕ → ℕ
only k h j = cond (eqb j k) (h j) 0

total_nothing : (n : ℕ) → total (λ j. 0) n ≡ 0
unfolding total
total_nothing zero = refl
total_nothing (suc n) = let e : total (λ j. 0) n ≡ 0 = total_nothing n in omega arith

only_other : (k : ℕ) (h : ℕ → ℕ) (j : ℕ) → (j ≡ k → ⊥) → only k h j ≡ 0
only_other k h j n = ap (λ (b : Bool). cond b (h j) 0) (ne_eqb j k n)

only_here : (k : ℕ) (h : ℕ → ℕ) → only k h k ≡ h k
only_here k h = ap (λ (b : Bool). cond b (h k) 0) (eq-eqb k k refl)

total_only : (n k : ℕ) (h : ℕ → ℕ) → k < n → total (only k h) n ≡ h k
unfolding total
total_only zero k h l = absurd (let z : k < 0 = l in omega arith)
total_only (suc n) k h l = go (eq-or-lt_of_le (le_of_suc-le-suc l)) (total_only n k h)
  where
    go : (k ≡ n) ⊎ (k < n) → (k < n → total (only k h) n ≡ h k) → total (only k h) n + only k h n ≡ h k
    go (inl q) earlier =
        let a : total (only k h) n ≡ 0 = (total_ext (only k h) (λ j. 0) n (λ j b. only_other k h j (λ e. let z : j ≡ n = (e ∙ q) in omega arith)) ∙ total_nothing n) in
        let b : only k h n ≡ h k = (ap (only k h) (sym q) ∙ only_here k h) in
        omega arith
    go (inr q) earlier =
        let a : total (only k h) n ≡ h k = earlier q in
        let b : only k h n ≡ 0 = only_other k h n (λ e. omega arith) in
        omega arith

total_add : (g h : ℕ → ℕ) (n : ℕ) → total (λ j. g j + h j) n ≡ total g n + total h n
unfolding total
total_add g h zero = refl
total_add g h (suc n) = let e : total (λ j. g j + h j) n ≡ total g n + total h n = total_add g h n in omega arith

total_swap : (g : ℕ → ℕ → ℕ) (m n : ℕ) → total (λ k. total (g k) n) m ≡ total (λ j. total (λ k. g k j) m) n
unfolding total
total_swap g zero n = sym (total_nothing n)
total_swap g (suc m) n =
    let e : total (λ k. total (g k) n) m ≡ total (λ j. total (λ k. g k j) m) n = total_swap g m n in
    let a : total (λ j. total (λ k. g k j) m + g m j) n ≡ total (λ j. total (λ k. g k j) m) n + total (g m) n = total_add (λ j. total (λ k. g k j) m) (g m) n in
    omega arith

total_ones : (n : ℕ) → total (λ j. 1) n ≡ n
unfolding total
total_ones zero = refl
total_ones (suc n) = let e : total (λ j. 1) n ≡ n = total_ones n in omega arith

module _ (π : ℕ → ℕ) (len n : ℕ) (below : (k : ℕ) → k < len → π k < n)
    (once : (j : ℕ) → j < n → (k : ℕ) × (k < len) × (π k ≡ j) × ((i : ℕ) → i < len → π i ≡ j → i ≡ k)) where
  pub same_sum : (h : ℕ → ℕ) → total (λ k. h (π k)) len ≡ total h n
  same_sum h =
      total_ext (λ k. h (π k)) (λ k. total (only (π k) h) n) len (λ k l. sym (total_only n (π k) h (below k l)))
      ∙ total_swap (λ k. only (π k) h) len n
      ∙ total_ext (λ j. total (λ k. only (π k) h j) len) h n (λ j l. one_entry j (once j l))
    where
      one_entry : (j : ℕ) → (k : ℕ) × (k < len) × (π k ≡ j) × ((i : ℕ) → i < len → π i ≡ j → i ≡ k) → total (λ k. only (π k) h j) len ≡ h j
      one_entry j (k, l, e, unique) =
          total_ext (λ i. only (π i) h j) (only k (λ i. h j)) len (λ i b. ap (λ (t : Bool). cond t (h j) 0) (same i b)) ∙ total_only len k (λ i. h j) l
        where
          same : (i : ℕ) → i < len → eqb j (π i) ≡ eqb i k
          same i b = go (eqb i k) refl
            where
              go : (t : Bool) → eqb i k ≡ t → eqb j (π i) ≡ eqb i k
              go true q = eq-eqb j (π i) (sym (ap π (eqb-true i k q) ∙ e)) ∙ sym q
              go false q = ne_eqb j (π i) (λ p. eqb-false i k q (unique i b (sym p))) ∙ sym q

  pub as_long : len ≡ n
  as_long = sym (total_ones len) ∙ same_sum (λ j. 1) ∙ total_ones n

  pub each_once : SumsAgree π n
  each_once h = subst (λ (m : ℕ). total (λ k. h (π k)) m ≡ total h n) as_long (same_sum h)
