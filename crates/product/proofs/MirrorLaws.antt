-- A list that is mirrored from its front on: a place above the diagonal gets what its mirror place has.
use mathlib.Core.Path.{◌≡◌, refl, sym, ap, ◌∙◌}
use mathlib.Core.Bool.{Bool, cond}
use mathlib.Core.List.{List}
use mathlib.Core.Logic.{⊎_elim}
use Prim.Native.Nat.{ℕ, ◌+◌, ◌*◌, ◌/◌, ◌%◌, ◌≤◌, ◌<◌}
use native.Mathlib.Nat.{div-add-mod', mod-lt, mul-le-mul_right, eq-or-lt_of_le}
use native.Mathlib.Omega.{arith}
use lib.Dec.{leb, ltb}
use lib.ListN.{length, get_or, set, length-set}
use lib.Seq.{get_or-set_same, get_or-set_other}
use lib.Ieee.{Float, nan}
use borrow.Author.Tests.{le-leb, lt-leb, lt-ltb, le-ltb}
use Rattle.answer.specs.Lists.{tabulate}
use Rattle.answer.proofs.Tabulate.{tabulate_ext, is_tabulate}
use Rattle.product.proofs.PartLaws.{below_or}
use Rattle.product.proofs.GridLaws.{grid, grid_same, row_in}

module _ (w : ℕ) where
  abbrev at : List Float → ℕ → ℕ → Float
  at l r c = get_or l (r * w + c) nan

  entry : List Float → ℕ → ℕ → ℕ → Float
  entry l p r c = cond (leb c r) (at l r c) (cond (ltb (r * w + c) p) (at l r c) (at l c r))

  -- the list when all places from p on are mirrored
  pub mirrored : ℕ → List Float → List Float
  mirrored p l = grid (length l) w (entry l p)

  lower : (l : List Float) (p r c : ℕ) → c ≤ r → entry l p r c ≡ at l r c
  unfolding entry
  lower l p r c b = simp (le-leb c r b)

  passed : (l : List Float) (p r c : ℕ) → r * w + c < p → entry l p r c ≡ at l r c
  unfolding entry
  passed l p r c b = ⊎_elim (λ a. simp (lt-leb c r a, lt-ltb (r * w + c) p b)) (λ a. lower l p r c a) (below_or r c)

  above : (l : List Float) (p r c : ℕ) → r < c → p ≤ r * w + c → entry l p r c ≡ at l c r
  unfolding entry
  above l p r c b b' = simp (lt-leb c r b, le-ltb (r * w + c) p b')

  pub mirrored_none : (l : List Float) → mirrored 0 l ≡ tabulate (length l) (λ p. cond (leb (p % w) (p / w)) (get_or l p nan) (get_or l (p % w * w + p / w) nan))
  unfolding mirrored entry
  mirrored_none l =
      tabulate_ext (length l) (λ q. entry l 0 (q / w) (q % w)) (λ p. cond (leb (p % w) (p / w)) (get_or l p nan) (get_or l (p % w * w + p / w) nan))
      (λ q b.
      ap (λ (t : Bool). cond (leb (q % w) (q / w)) (at l (q / w) (q % w)) (cond t (at l (q / w) (q % w)) (at l (q % w) (q / w)))) (le-ltb (q / w * w + q % w) 0 (omega arith))
      ∙ ap (λ (x : ℕ). cond (leb (q % w) (q / w)) (get_or l x nan) (at l (q % w) (q / w))) (div-add-mod' q w))

  module _ (pos : 0 < w) where
    pub mirrored_all : (l : List Float) → mirrored (w * w) l ≡ l
    unfolding mirrored
    mirrored_all l =
        sym (is_tabulate l (length l) (λ q. entry l (w * w) (q / w) (q % w)) nan refl
        (λ q b.
        ap (λ (x : ℕ). get_or l x nan) (sym (div-add-mod' q w))
        ∙ sym (⊎_elim (λ a. passed l (w * w) (q / w) (q % w) (let m : q % w < w = mod-lt q pos in let e : q / w * w + w ≤ w * w = row_in w w (q / w) (omega arith) in omega arith)) (λ a. lower l (w * w) (q / w) (q % w) a) (below_or (q / w) (q % w)))))

    -- in row r nothing changes up to the diagonal
    pub mirrored_skip : (l : List Float) (r : ℕ) → r < w → mirrored (r * w + (r + 1)) l ≡ mirrored (r * w) l
    unfolding mirrored
    mirrored_skip l r h =
        grid_same (length l) w (entry l (r * w + (r + 1))) (entry l (r * w)) pos
        (λ r' c' b b'. ⊎_elim (λ a. ⊎_elim
        (λ d. let e : r' * w + w ≤ r * w = row_in r w r' d in passed l (r * w + (r + 1)) r' c' (omega arith) ∙ sym (passed l (r * w) r' c' (omega arith)))
        (λ d. above l (r * w + (r + 1)) r' c' a (far r' c' a d) ∙ sym (above l (r * w) r' c' a (let e : r * w ≤ r' * w = mul-le-mul_right w d in omega arith)))
        (below_or r' r))
        (λ a. lower l (r * w + (r + 1)) r' c' a ∙ sym (lower l (r * w) r' c' a))
        (below_or r' c'))
      where
        far : (r' c' : ℕ) → r' < c' → r ≤ r' → r * w + (r + 1) ≤ r' * w + c'
        far r' c' a d =
            ⊎_elim (λ q. let e : r * w ≡ r' * w = ap (λ (x : ℕ). x * w) q in omega arith) (λ q. let e : r * w + w ≤ r' * w = row_in r' w r q in omega arith) (eq-or-lt_of_le d)

    -- one place more
    module _ (l : List Float) (r c : ℕ) (h : r < c) (b : c < w) (n : w * w ≤ length l) where
      place : r * w + c < length l
      place = let e : r * w + w ≤ w * w = row_in w w r (omega arith) in omega arith

      new : List Float
      new = set l (r * w + c) (get_or l (c * w + r) nan)

      unique : (r' c' : ℕ) → c' < w → r' * w + c' ≡ r * w + c → r' ≡ r
      unique r' c' b' e = ⊎_elim (λ a. absurd (let q : r' * w + w ≤ r * w = row_in r w r' a in let z : ⊥ = omega arith in z)) (λ a. ⊎_elim (λ a'. absurd (let q : r * w + w ≤ r' * w = row_in r' w r a' in let z : ⊥ = omega arith in z)) (λ a'. omega arith) (below_or r r')) (below_or r' r)

      other : (r' c' : ℕ) → (r' * w + c' ≡ r * w + c → ⊥) → at new r' c' ≡ at l r' c'
      unfolding new
      other r' c' d = get_or-set_other l (r * w + c) (r' * w + c') (get_or l (c * w + r) nan) nan d

      other_lower : (r' c' : ℕ) → c' < w → c' ≤ r' → at new r' c' ≡ at l r' c'
      other_lower r' c' b' a = other r' c' (λ e. let q : r' ≡ r = unique r' c' b' e in let q' : r' * w ≡ r * w = ap (λ (x : ℕ). x * w) q in let z : ⊥ = omega arith in z)

      here : at new r c ≡ at l c r
      unfolding new
      here = get_or-set_same l (r * w + c) (get_or l (c * w + r) nan) nan place

      pub mirrored_step : mirrored (r * w + (c + 1)) (set l (r * w + c) (get_or l (c * w + r) nan)) ≡ mirrored (r * w + c) l
      unfolding mirrored new
      mirrored_step =
          ap (λ (k : ℕ). grid k w (entry new (r * w + (c + 1)))) (length-set l (r * w + c) (get_or l (c * w + r) nan))
          ∙ grid_same (length l) w (entry new (r * w + (c + 1))) (entry l (r * w + c)) pos same
        where
          same : (r' c' : ℕ) → r' * w + c' < length l → c' < w → entry new (r * w + (c + 1)) r' c' ≡ entry l (r * w + c) r' c'
          same r' c' d d' =
              ⊎_elim (λ a. ⊎_elim
              (λ e. passed new (r * w + (c + 1)) r' c' (omega arith) ∙ other r' c' (λ q. omega arith) ∙ sym (passed l (r * w + c) r' c' e))
              (λ e. ⊎_elim
              (λ q.
              let i : r' ≡ r = unique r' c' d' (sym q) in
              let i' : r' * w ≡ r * w = ap (λ (x : ℕ). x * w) i in
              let i'' : c' ≡ c = omega arith in
              passed new (r * w + (c + 1)) r' c' (omega arith)
              ∙ ap (λ (x : ℕ). get_or new x nan) (sym q)
              ∙ here
              ∙ ap (λ (x : ℕ). at l x r) (sym i'')
              ∙ ap (λ (x : ℕ). at l c' x) (sym i)
              ∙ sym (above l (r * w + c) r' c' a e))
              (λ q. above new (r * w + (c + 1)) r' c' a (omega arith) ∙ other_lower c' r' (omega arith) (omega arith) ∙ sym (above l (r * w + c) r' c' a e))
              (eq-or-lt_of_le e))
              (below_or (r' * w + c') (r * w + c)))
              (λ a. lower new (r * w + (c + 1)) r' c' a ∙ other_lower r' c' d' a ∙ sym (lower l (r * w + c) r' c' a))
              (below_or r' c')
