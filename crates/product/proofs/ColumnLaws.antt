-- Lists that get values at places a width apart.
use mathlib.Core.Path.{◌≡◌, subst, ◌∙◌}
use mathlib.Core.List.{List}
use mathlib.Core.Logic.{⊎_elim}
use Prim.Native.Nat.{ℕ, suc, ◌+◌, ◌*◌, ◌≤◌, ◌<◌}
use native.Mathlib.Nat.{mul-le-mul_right}
use native.Mathlib.Omega.{arith}
use lib.ListN.{length, get_or, set}
use lib.Seq.{get_or-set_same, get_or-set_other}
use lib.Ieee.{Float, nan}
use Rattle.product.proofs.PartLaws.{below_or}

-- the first n are there, and every other place is as it was
module _ (src : List Float) (from width : ℕ) (old : List Float) where
  abbrev pub PutTo : List Float → ℕ → Type 0
  PutTo l n = ((i : ℕ) → i < n → get_or l (from + i * width) nan ≡ get_or src i nan) × ((p : ℕ) → ((i : ℕ) → i < n → p ≡ from + i * width → ⊥) → get_or l p nan ≡ get_or old p nan)

  pub put_more : (l : List Float) (n : ℕ) → 0 < width → from + n * width < length l → PutTo l n → PutTo (set l (from + n * width) (get_or src n nan)) (n + 1)
  put_more l n h b o = (
    λ i h'. ⊎_elim (λ d. let e : suc i * width ≤ n * width = mul-le-mul_right width d in get_or-set_other l (from + n * width) (from + i * width) (get_or src n nan) nan (λ q. omega arith) ∙ o.0 i d)
        (λ d. let q : n ≡ i = omega arith in subst (λ (z : ℕ). get_or (set l (from + n * width) (get_or src n nan)) (from + z * width) nan ≡ get_or src z nan) q (get_or-set_same l (from + n * width) (get_or src n nan) nan b))
        (below_or i n),
    λ p h'. get_or-set_other l (from + n * width) p (get_or src n nan) nan (h' n (omega arith)) ∙ o.1 p (λ i h''. h' i (omega arith)),
  )
