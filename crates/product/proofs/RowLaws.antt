-- Laws of a row of sums that grows by some terms at a time: sum j by the products of x j and y.
use mathlib.Core.Path.{◌≡◌, refl, ap, ◌∙◌}
use mathlib.Core.List.{List, ◌++◌}
use Prim.Native.Nat.{ℕ, ◌+◌, ◌-◌, ◌*◌, ◌<◌, ◌≤◌}
use native.Mathlib.Omega.{arith}
use lib.ListN.{length, get_or, set, take, drop, get_or-append}
use lib.Seq.{length-take-le, get_or-take}
use lib.Ieee.{Float, nan, Format, add, mul}
use Rattle.answer.specs.Lists.{tabulate}
use Rattle.answer.proofs.Tabulate.{length_tabulate, get_d_tabulate, tabulate_ext, is_tabulate}
use Rattle.product.specs.Private.{sum_more, term_more, row_more, Put}
use Rattle.product.proofs.InPlaceLaws.{filled, mapped, mapped_step}
use Rattle.product.proofs.SumLaws.{term_more_law, sum_add, sum_ext}

-- a sum with one product more
module _ (f : Format) (value : ℕ → Float) (v : Float) where
  abbrev pub with_term : List Float → ℕ → Float
  with_term d = mapped (λ j s. add f s (mul f (value j) v)) nan d

  pub term_step : (d l : List Float) (j : ℕ) (a : Float) → l ≡ filled (with_term d) j d → j < length d → a ≡ value j → set l j (add f (get_or l j nan) (mul f a v)) ≡ filled (with_term d) (j + 1) d
  term_step d l j a e b q = ap (λ (z : Float). set l j (add f (get_or l j nan) (mul f z v))) q ∙ mapped_step (λ j s. add f s (mul f (value j) v)) nan d l j e b

module _ (f : Format) (x : ℕ → ℕ → Float) (y : ℕ → Float) where
  -- sum j with n terms more
  abbrev pub grown : List Float → ℕ → ℕ → Float
  grown sums n j = sum_more f (get_or sums j nan) (x j) y n

  pub row_none : (sums : List Float) → sums ≡ row_more f x y 0 sums
  unfolding sum_more
  row_none sums = is_tabulate sums (length sums) (λ j. get_or sums j nan) nan refl (λ j b. refl)

  pub length_row : (t : ℕ) (first sums : List Float) → sums ≡ row_more f x y t first → length sums ≡ length first
  length_row t first sums e = ap length e ∙ length_tabulate (length first) (grown first t)

  pub row_at : (t : ℕ) (first sums : List Float) (j : ℕ) → sums ≡ row_more f x y t first → j < length first → get_or sums j nan ≡ grown first t j
  row_at t first sums j e b = ap (λ (z : List Float). get_or z j nan) e ∙ get_d_tabulate (length first) (grown first t) j nan b

  -- one term more, of one sum and of all
  pub sum_step : (sums : List Float) (t j : ℕ) (s a v : Float) → s ≡ grown sums t j → a ≡ x j t → v ≡ y t → add f s (mul f a v) ≡ grown sums (t + 1) j
  sum_step sums t j s a v e p q =
      ap (λ (z : Float). add f s (mul f z v)) p
      ∙ ap (λ (z : Float). add f s (mul f (x j t) z)) q
      ∙ term_more_law f (get_or sums j nan) s (x j) y t e

  pub row_step : (t : ℕ) (first sums sums' : List Float) (value : ℕ → Float) (v : Float) → sums ≡ row_more f x y t first → ((j : ℕ) → j < length first → value j ≡ x j t) → v ≡ y t → sums' ≡ term_more f value v sums → sums' ≡ row_more f x y (t + 1) first
  row_step t first sums sums' value v e p q s =
      s
      ∙ ap (λ (n : ℕ). tabulate n (λ j. add f (get_or sums j nan) (mul f (value j) v))) (length_row t first sums e)
      ∙ tabulate_ext (length first) (λ j. add f (get_or sums j nan) (mul f (value j) v)) (grown first (t + 1))
      (λ j b. sum_step first t j (get_or sums j nan) (value j) v (row_at t first sums j e b) (p j b) q)

  -- m terms more
  pub row_add : (t m : ℕ) (first sums sums' : List Float) → sums ≡ row_more f x y t first → sums' ≡ row_more f (λ j i. x j (t + i)) (λ i. y (t + i)) m sums → sums' ≡ row_more f x y (t + m) first
  row_add t m first sums sums' e s =
      s
      ∙ ap (λ (n : ℕ). tabulate n (λ j. sum_more f (get_or sums j nan) (λ i. x j (t + i)) (λ i. y (t + i)) m)) (length_row t first sums e)
      ∙ tabulate_ext (length first) (λ j. sum_more f (get_or sums j nan) (λ i. x j (t + i)) (λ i. y (t + i)) m) (grown first (t + m))
      (λ j b.
      ap (λ (z : Float). sum_more f z (λ i. x j (t + i)) (λ i. y (t + i)) m) (row_at t first sums j e b)
      ∙ sum_add f (get_or first j nan) (x j) y t m)

  -- the same values from elsewhere
  pub row_ext : (x' : ℕ → ℕ → Float) (y' : ℕ → Float) (n : ℕ) (sums out : List Float) → ((i j : ℕ) → i < n → j < length sums → x j i ≡ x' j i) → ((i : ℕ) → i < n → y i ≡ y' i) → out ≡ row_more f x y n sums → out ≡ row_more f x' y' n sums
  row_ext x' y' n sums out p q e =
      e
      ∙ tabulate_ext (length sums) (grown sums n) (λ j. sum_more f (get_or sums j nan) (x' j) y' n)
      (λ j b. sum_ext f (get_or sums j nan) (x j) y (x' j) y' n (λ i h. p i j h b) q)

  -- sums that were taken out of a list, and grown
  pub taken_grown : (n : ℕ) (piece room taken out : List Float) (from w j : ℕ) → taken ≡ tabulate (length room) (λ i. get_or piece (from + i * w) nan) → out ≡ row_more f x y n taken → j < length room → get_or out j nan ≡ sum_more f (get_or piece (from + j * w) nan) (x j) y n
  taken_grown n piece room taken out from w j e g b =
      row_at n taken out j g (let z : length taken ≡ length room = ap length e ∙ length_tabulate (length room) (λ i. get_or piece (from + i * w) nan) in omega arith)
      ∙ ap (λ (z : Float). sum_more f z (x j) y n) (ap (λ (z : List Float). get_or z j nan) e ∙ get_d_tabulate (length room) (λ i. get_or piece (from + i * w) nan) j nan b)

  -- sums that were copied to the front of a list, grown there, and put back
  pub row_back : (n m : ℕ) (sums s₀ taken s out : List Float) → m ≡ length sums → m ≤ length s₀
      → taken ≡ tabulate (length (take (m - 0) s₀)) (λ i. get_or sums (0 + i * 1) nan)
      → s ≡ row_more f x y n (taken ++ drop (m - 0) s₀)
      → length s ≡ length s₀
      → length out ≡ length sums
      → Put (take (m - 0) s) 0 1 sums out
      → out ≡ row_more f x y n sums
  row_back n m sums s₀ taken s out hm h e g hs ho put =
      is_tabulate out (length sums) (grown sums n) nan ho
      (λ j b.
      ap (λ (k : ℕ). get_or out k nan) (let q : j ≡ 0 + j * 1 = omega arith in q)
      ∙ put.0 j (let z : length (take (m - 0) s) ≡ m - 0 = length-take-le (m - 0) s (omega arith) in omega arith)
      ∙ get_or-take (m - 0) s j nan (omega arith)
      ∙ row_at n (taken ++ drop (m - 0) s₀) s j g (let z : length s ≡ length (taken ++ drop (m - 0) s₀) = length_row n (taken ++ drop (m - 0) s₀) s g in omega arith)
      ∙ ap (λ (z : Float). sum_more f z (x j) y n)
      (get_or-append taken (drop (m - 0) s₀) nan j (let z : length taken ≡ length (take (m - 0) s₀) = ap length e ∙ length_tabulate (length (take (m - 0) s₀)) (λ i. get_or sums (0 + i * 1) nan) in omega (arith, count))
      ∙ ap (λ (z : List Float). get_or z j nan) e
      ∙ get_d_tabulate (length (take (m - 0) s₀)) (λ i. get_or sums (0 + i * 1) nan) j nan (omega (arith, count))
      ∙ ap (λ (k : ℕ). get_or sums k nan) (let q : 0 + j * 1 ≡ j = omega arith in q)))
    where
      count : length (take (m - 0) s₀) ≡ m
      count = let z : length (take (m - 0) s₀) ≡ m - 0 = length-take-le (m - 0) s₀ (omega arith) in omega arith

-- four terms more, written out
module _ (f : Format) (x : ℕ → ℕ → Float) (y : ℕ → Float) where
  abbrev pub by_four : List Float → ℕ → Float
  by_four = mapped (λ j s. sum_more f s (x j) y 4) nan

  same : (s a0 a0' b0 b0' a1 a1' b1 b1' a2 a2' b2 b2' a3 a3' b3 b3' : Float) → a0 ≡ a0' → b0 ≡ b0' → a1 ≡ a1' → b1 ≡ b1' → a2 ≡ a2' → b2 ≡ b2' → a3 ≡ a3' → b3 ≡ b3'
      → add f (add f (add f (add f s (mul f a0 b0)) (mul f a1 b1)) (mul f a2 b2)) (mul f a3 b3) ≡ add f (add f (add f (add f s (mul f a0' b0')) (mul f a1' b1')) (mul f a2' b2')) (mul f a3' b3')
  same s a0 a0' b0 b0' a1 a1' b1 b1' a2 a2' b2 b2' a3 a3' b3 b3' p0 q0 p1 q1 p2 q2 p3 q3 = cc

  pub four_step : (d l : List Float) (j : ℕ) (a0 a1 a2 a3 y0 y1 y2 y3 : Float) → a0 ≡ x j 0 → a1 ≡ x j 1 → a2 ≡ x j 2 → a3 ≡ x j 3 → y0 ≡ y 0 → y1 ≡ y 1 → y2 ≡ y 2 → y3 ≡ y 3 → j < length d → l ≡ filled (by_four d) j d
      → set l j (add f (add f (add f (add f (get_or l j nan) (mul f a0 y0)) (mul f a1 y1)) (mul f a2 y2)) (mul f a3 y3)) ≡ filled (by_four d) (j + 1) d
  unfolding sum_more
  four_step d l j a0 a1 a2 a3 y0 y1 y2 y3 p0 p1 p2 p3 q0 q1 q2 q3 b e =
      ap (set l j) (same (get_or l j nan) a0 (x j 0) y0 (y 0) a1 (x j 1) y1 (y 1) a2 (x j 2) y2 (y 2) a3 (x j 3) y3 (y 3) p0 q0 p1 q1 p2 q2 p3 q3)
      ∙ mapped_step (λ j s. sum_more f s (x j) y 4) nan d l j e b
