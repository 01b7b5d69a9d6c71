-- A list that is written from its front on: place i gets g i.
use mathlib.Core.Path.{◌≡◌, refl, sym, ap, ◌∙◌}
use mathlib.Core.List.{List, [], ◌∷◌, ◌++◌, append-nil}
use Prim.Native.Nat.{ℕ, zero, suc, ◌+◌, ◌≤◌, ◌<◌}
use native.Mathlib.Numerals.{add-one}
use native.Mathlib.Omega.{arith}
use lib.ListN.{length, take, drop, get_or, set, replicate, drop_of_length-le}
use lib.Seq.{take-suc, drop-cons, length-take-le, set_at, get_or_at, append_snoc, take_all}
use Rattle.answer.specs.Lists.{tabulate}
use Rattle.answer.proofs.Tabulate.{length_tabulate, get_d_tabulate}

module _ {A : Type 0} where
  -- the first i places are new, the others are those of d
  unfoldable pub filled : (ℕ → A) → ℕ → List A → List A
  filled g i d = take i (tabulate (length d) g) ++ drop i d

  pub filled_none : (g : ℕ → A) (d : List A) → d ≡ filled g 0 d
  unfolding filled
  filled_none g d = refl

  module _ (g : ℕ → A) (d : List A) where
    front : (i : ℕ) → i ≤ length d → length (take i (tabulate (length d) g)) ≡ i
    front i h = length-take-le i (tabulate (length d) g) (simp length_tabulate h)

    -- the place to be written still has what d has
    pub get_d_filled : (i : ℕ) (z : A) → i < length d → get_or (filled g i d) i z ≡ get_or d i z
    unfolding filled
    get_d_filled i z h =
        ap (λ (t : List A). get_or (take i (tabulate (length d) g) ++ t) i z) (drop-cons d i z h)
        ∙ get_or_at (take i (tabulate (length d) g)) (get_or d i z) (drop (suc i) d) z i (front i (omega arith))

    grown : (i : ℕ) → i < length d → take i (tabulate (length d) g) ++ (g i ∷ []) ≡ take (suc i) (tabulate (length d) g)
    grown i h =
        ap (λ (x : A). take i (tabulate (length d) g) ++ (x ∷ [])) (sym (get_d_tabulate (length d) g i (g i) h))
        ∙ sym (take-suc (tabulate (length d) g) i (g i) (simp length_tabulate h))

    pub filled_more : (i : ℕ) → i < length d → set (filled g i d) i (g i) ≡ filled g (i + 1) d
    unfolding filled
    filled_more i h =
        ap (λ (t : List A). set (take i (tabulate (length d) g) ++ t) i (g i)) (drop-cons d i (g i) h)
        ∙ set_at (take i (tabulate (length d) g)) (get_or d i (g i)) (drop (suc i) d) (g i) i (front i (omega arith))
        ∙ sym (append_snoc (take i (tabulate (length d) g)) (g i) (drop (suc i) d))
        ∙ ap (λ (t : List A). t ++ drop (suc i) d) (grown i h)
        ∙ ap (λ (n : ℕ). take n (tabulate (length d) g) ++ drop n d) (sym (add-one i))

    pub filled_all : (i : ℕ) → length d ≤ i → filled g i d ≡ tabulate (length d) g
    unfolding filled
    filled_all i h =
        let e : length (tabulate (length d) g) ≤ i = simp length_tabulate h in
        ap (λ (t : List A). t ++ drop i d) (take_all i (tabulate (length d) g) e)
        ∙ ap (λ (t : List A). tabulate (length d) g ++ t) (drop_of_length-le d h)
        ∙ append-nil (tabulate (length d) g)

  -- one more place, by a store
  pub filled_step : (g : ℕ → A) (d l : List A) (i : ℕ) (v : A) → l ≡ filled g i d → i < length d → v ≡ g i → set l i v ≡ filled g (i + 1) d
  filled_step g d l i v e h q = ap (λ (t : List A). set t i v) e ∙ ap (λ (x : A). set (filled g i d) i x) q ∙ filled_more g d i h

  -- the same where the new value is made from the old one
  module _ (h : ℕ → A → A) (z : A) where
    abbrev pub mapped : List A → ℕ → A
    mapped d j = h j (get_or d j z)

    pub mapped_step : (d l : List A) (i : ℕ) → l ≡ filled (mapped d) i d → i < length d → set l i (h i (get_or l i z)) ≡ filled (mapped d) (i + 1) d
    mapped_step d l i e b = filled_step (mapped d) d l i (h i (get_or l i z)) e b (ap (h i) (ap (λ (t : List A). get_or t i z) e ∙ get_d_filled (mapped d) d i z b))

  -- all of eight places
  pub eight_filled : (g : ℕ → A) (d : List A) (a0 a1 a2 a3 a4 a5 a6 a7 : A) → length d ≡ 8 → a0 ≡ g 0 → a1 ≡ g 1 → a2 ≡ g 2 → a3 ≡ g 3 → a4 ≡ g 4 → a5 ≡ g 5 → a6 ≡ g 6 → a7 ≡ g 7 → set (set (set (set (set (set (set (set d 0 a0) 1 a1) 2 a2) 3 a3) 4 a4) 5 a5) 6 a6) 7 a7 ≡ tabulate (length d) g
  eight_filled g d a0 a1 a2 a3 a4 a5 a6 a7 s q0 q1 q2 q3 q4 q5 q6 q7 =
      let e1 : set d 0 a0 ≡ filled g 1 d = filled_step g d (d) 0 a0 (filled_none g d) (omega arith) q0 in
      let e2 : set (set d 0 a0) 1 a1 ≡ filled g 2 d = filled_step g d (set d 0 a0) 1 a1 (e1) (omega arith) q1 in
      let e3 : set (set (set d 0 a0) 1 a1) 2 a2 ≡ filled g 3 d = filled_step g d (set (set d 0 a0) 1 a1) 2 a2 (e2) (omega arith) q2 in
      let e4 : set (set (set (set d 0 a0) 1 a1) 2 a2) 3 a3 ≡ filled g 4 d = filled_step g d (set (set (set d 0 a0) 1 a1) 2 a2) 3 a3 (e3) (omega arith) q3 in
      let e5 : set (set (set (set (set d 0 a0) 1 a1) 2 a2) 3 a3) 4 a4 ≡ filled g 5 d = filled_step g d (set (set (set (set d 0 a0) 1 a1) 2 a2) 3 a3) 4 a4 (e4) (omega arith) q4 in
      let e6 : set (set (set (set (set (set d 0 a0) 1 a1) 2 a2) 3 a3) 4 a4) 5 a5 ≡ filled g 6 d = filled_step g d (set (set (set (set (set d 0 a0) 1 a1) 2 a2) 3 a3) 4 a4) 5 a5 (e5) (omega arith) q5 in
      let e7 : set (set (set (set (set (set (set d 0 a0) 1 a1) 2 a2) 3 a3) 4 a4) 5 a5) 6 a6 ≡ filled g 7 d = filled_step g d (set (set (set (set (set (set d 0 a0) 1 a1) 2 a2) 3 a3) 4 a4) 5 a5) 6 a6 (e6) (omega arith) q6 in
      let e8 : set (set (set (set (set (set (set (set d 0 a0) 1 a1) 2 a2) 3 a3) 4 a4) 5 a5) 6 a6) 7 a7 ≡ filled g 8 d = filled_step g d (set (set (set (set (set (set (set d 0 a0) 1 a1) 2 a2) 3 a3) 4 a4) 5 a5) 6 a6) 7 a7 (e7) (omega arith) q7 in
      e8 ∙ filled_all g d 8 (omega arith)

  -- one value at every place
  pub replicate_tabulate : (n : ℕ) (z : A) → replicate n z ≡ tabulate n (λ p. z)
  unfolding tabulate
  replicate_tabulate zero z = refl
  replicate_tabulate (suc n) z = ap (λ (t : List A). z ∷ t) (replicate_tabulate n z)

-- a loop that fills a list from its front on
pub ruleset fills = (filled_none, filled_step, filled_all)
