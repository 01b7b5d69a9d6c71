-- Facts of all numbers below a given one, and of a list that names each once, from a test that computes.
use mathlib.Core.Path.{◌≡◌, ap, ◌∙◌}
use mathlib.Core.Bool.{Bool, true, false, not, ◌&&◌, ◌||◌}
use mathlib.Core.List.{List}
use Prim.Native.Nat.{ℕ, zero, suc, ◌<◌}
use native.Mathlib.Omega.{arith}
use borrow.Author.Tests.{eqb-true, eqb-false, eq-eqb, ltb-true}
use lib.Dec.{eqb, ltb}
use lib.IntN.{ℤ}
use lib.ListN.{length, get_or}
use Rattle.answer.proofs.Tests.{both_true, by_test}
use Rattle.demands.specs.Demand.{GoodList, meant, MeantOnce, NamesEachOnce}

-- whether a test holds of every number below n
unfoldable pub all_below : ℕ → (ℕ → Bool) → Bool
all_below zero test = true
all_below (suc n) test = all_below n test && test n

pub all_below_law : (n : ℕ) (test : ℕ → Bool) → all_below n test ≡ true → (k : ℕ) → k < n → test k ≡ true
unfolding all_below
all_below_law zero test e k h = absurd (omega arith)
all_below_law (suc n) test e k h =
    let b = both_true (all_below n test) (test n) e in
    by_test (eqb k n) (λ t. ap test (eqb-true k n t) ∙ b.1) (λ t. let d : k ≡ n → ⊥ = eqb-false k n t in all_below_law n test b.0 k (omega arith))

-- whether a list names each number below the count once: number a by the entry at place a of `places`, and by no other
unfoldable pub names_test : ℕ → List ℤ → List ℕ → Bool
unfolding all_below meant
names_test count list places =
    all_below count
    (λ a. ltb (get_or places a 0) (length list)
    && (eqb (meant count list (get_or places a 0)) a && all_below (length list) (λ k. not (eqb (meant count list k) a) || eqb k (get_or places a 0))))

only : (x y : Bool) → not x || y ≡ true → x ≡ true → y ≡ true
only true y e t = e
only false y e t = absurd (let q : ◌≡◌ {A = ℕ} 0 1 = cc in omega arith)

pub names_by_test : (count : ℕ) (list : List ℤ) (places : List ℕ) → GoodList count list → names_test count list places ≡ true → NamesEachOnce count list
unfolding names_test
names_by_test count list places g e = record { good_list = g; meant_once = λ a h. once a (all_below_law count _ e a h) }
  where
    once : (a : ℕ)
        → (ltb (get_or places a 0) (length list)
        && (eqb (meant count list (get_or places a 0)) a && all_below (length list) (λ k. not (eqb (meant count list k) a) || eqb k (get_or places a 0)))) ≡ true
        → MeantOnce count list a
    once a t =
        let b = both_true _ _ t in
        let d = both_true _ _ b.1 in
        record {
          place = get_or places a 0;
          in_list = ltb-true _ _ b.0;
          means_it = eqb-true _ _ d.0;
          no_other = λ k h m. eqb-true _ _ (only (eqb (meant count list k) a) (eqb k (get_or places a 0)) (all_below_law (length list) _ d.1 k h) (eq-eqb _ _ m));
        }
