-- Which numbers a slice has: laws over plain numbers.
use mathlib.Core.Path.{◌≡◌, refl, sym, ap, ◌∙◌}
use mathlib.Core.Bool.{Bool, true, false}
use mathlib.Core.List.{List, [], ◌∷◌, ◌++◌, map}
use Prim.Native.Nat.{ℕ, zero, suc, ◌+◌, ◌-◌, ◌*◌, ◌/◌, ◌%◌, ◌≤◌, ◌<◌}
use native.Mathlib.Nat.{mul-one, le-div_iff_mul-le, div-eq_of_lt, div-eq_of_lt-le, div-add-mod', mod-lt, pos_of_ne-zero}
use native.Mathlib.Omega.{arith}
use borrow.Author.Tests.{eqb-true, eqb-false, le-ltb}
use lib.Signed.{lt_z}
use lib.Dec.{eqb}
use lib.IntN.{ℤ, pos, negsuc, nat_abs}
use lib.ListN.{length, get_or}
use mir.Syntax.{w64}
use mir.Val.{to_z}
use Rattle.answer.specs.Answer.{count_limit}
use mir.Facts.{to_z_pos}
use Rattle.answer.specs.Lists.{tabulate}
use Rattle.answer.proofs.Tabulate.{length_tabulate, map_tabulate, get_d_tabulate, tabulate_ext}
use Rattle.index.specs.Numbers.{numbers_below, distances, forward, backward, walk, stepped}
use Rattle.index.proofs.BelowLaws.{below_more, below_same}
use Rattle.index.proofs.BufferLaws.{tabulate_suc}

-- how many of 0, step, 2 · step and so on are below n
unfoldable pub steps_below : ℕ → ℕ → ℕ
steps_below n step = (n + step - 1) / step

module _ (n step k : ℕ) (p : 0 < step) where
  -- k is one of the steps exactly if k · step is below n
  pub inside : k < steps_below n step → k * step < n
  unfolding steps_below
  inside h = let q : suc k * step ≤ n + step - 1 = (le-div_iff_mul-le p).0 h in omega arith

  pub reached : k * step < n → k < steps_below n step
  unfolding steps_below
  reached h = (le-div_iff_mul-le p).1 (let q : suc k * step ≤ n + step - 1 = omega arith in q)

-- "Start ≥ end: empty."
pub none : (n step : ℕ) → 0 < step → n ≡ 0 → steps_below n step ≡ 0
unfolding steps_below
none n step p h = div-eq_of_lt (omega arith)

-- a step of 1 misses nothing
pub by_one : (n : ℕ) → steps_below n 1 ≡ n
unfolding steps_below
by_one n = omega arith

-- a number more is one step more exactly if step divides it
module _ (n step : ℕ) (p : 0 < step) where
  steps_are : (q m : ℕ) → q * step ≤ m + step - 1 → m + step - 1 < (q + 1) * step → steps_below m step ≡ q
  unfolding steps_below
  steps_are q m a b = div-eq_of_lt-le step a b

  module _ (e : n % step ≡ 0) where
    whole_steps : steps_below n step ≡ n / step
    whole_steps = let d = div-add-mod' n step in steps_are (n / step) n (omega arith) (omega arith)

    whole_next : steps_below (suc n) step ≡ suc (steps_below n step)
    whole_next =
        let d = div-add-mod' n step in
        steps_are (suc (n / step)) (suc n) (omega arith) (omega arith) ∙ ap suc (sym whole_steps)

    whole_last : n ≡ steps_below n step * step
    whole_last = let d = div-add-mod' n step in let w : n / step * step ≡ n = omega arith in sym w ∙ ap (λ (q : ℕ). q * step) (sym whole_steps)

  part_next : (n % step ≡ 0 → ⊥) → steps_below (suc n) step ≡ steps_below n step
  part_next h =
      let d = div-add-mod' n step in
      let r : n % step < step = mod-lt n p in
      let o : 0 < n % step = pos_of_ne-zero h in
      steps_are (suc (n / step)) (suc n) (omega arith) (omega arith) ∙ sym (steps_are (suc (n / step)) n (omega arith) (omega arith))

-- the numbers below n that step divides are 0, step, 2 · step and so on
module _ (step : ℕ) (p : 0 < step) where
  abbrev divides : ℕ → Bool
  divides d = eqb (d % step) 0

  one_on : (n : ℕ) (t : Bool) → divides n ≡ t → numbers_below n divides ≡ tabulate (steps_below n step) (λ k. k * step) → numbers_below (suc n) divides ≡ tabulate (steps_below (suc n) step) (λ k. k * step)
  one_on n true e ih =
      let z : n % step ≡ 0 = eqb-true (n % step) 0 e in
      below_more divides n e
      ∙ ap (λ (l : List ℕ). l ++ (n ∷ [])) ih
      ∙ ap (λ (m : ℕ). tabulate (steps_below n step) (λ k. k * step) ++ (m ∷ [])) (whole_last n step p z)
      ∙ sym (tabulate_suc (steps_below n step) (λ k. k * step))
      ∙ ap (λ (m : ℕ). tabulate m (λ k. k * step)) (sym (whole_next n step p z))
  one_on n false e ih =
      below_same divides n e ∙ ih ∙ ap (λ (m : ℕ). tabulate m (λ k. k * step)) (sym (part_next n step p (eqb-false (n % step) 0 e)))

  pub multiples : (n : ℕ) → numbers_below n divides ≡ tabulate (steps_below n step) (λ k. k * step)
  unfolding numbers_below tabulate
  multiples zero = rw (none 0 step p refl) refl
  multiples (suc n) = one_on n (divides n) refl (multiples n)

-- the numbers of a slice by place
module _ (start end step : ℕ) (p : 0 < step) where
  pub forward_is : forward start end step ≡ tabulate (steps_below (end - start) step) (λ k. pos (start + k * step))
  unfolding forward distances
  forward_is = ap (map (λ (d : ℕ). pos (start + d))) (multiples step p (end - start)) ∙ map_tabulate (λ (d : ℕ). pos (start + d)) (steps_below (end - start) step) (λ k. k * step)

  pub backward_is : backward start end step ≡ tabulate (steps_below (end - start) step) (λ k. pos (end - 1 - k * step))
  unfolding backward distances
  backward_is = ap (map (λ (d : ℕ). pos (end - 1 - d))) (multiples step p (end - start)) ∙ map_tabulate (λ (d : ℕ). pos (end - 1 - d)) (steps_below (end - start) step) (λ k. k * step)

  pub length_walk : (is_reversed : Bool) → length (walk start end step is_reversed) ≡ steps_below (end - start) step
  length_walk true = ap length backward_is ∙ length_tabulate (steps_below (end - start) step) (λ k. pos (end - 1 - k * step))
  length_walk false = ap length forward_is ∙ length_tabulate (steps_below (end - start) step) (λ k. pos (start + k * step))

-- a slice of the code, of whose list the fields are known
module _ (start end step : ℕ) (is_reversed : Bool) (list : List ℤ) (is : walk start end step is_reversed ≡ list) (p : 0 < step) where
  pub len_is : length list ≡ steps_below (end - start) step
  len_is = sym (ap length is) ∙ length_walk start end step p is_reversed

  module _ (k : ℕ) (h : k < length list) where
    pub on_the_way : k * step < end - start
    on_the_way = inside (end - start) step k p (omega (arith, len_is))

    pub from_end : is_reversed ≡ true → end ≤ count_limit → to_z w64 (end - 1 - k * step) ≡ get_or list k (pos 0)
    from_end r f =
        to_z_pos w64 (omega arith)
        ∙ sym (get_d_tabulate (steps_below (end - start) step) (λ j. pos (end - 1 - j * step)) k (pos 0) (omega (arith, len_is)))
        ∙ ap (λ (l : List ℤ). get_or l k (pos 0)) (sym (backward_is start end step p) ∙ sym (ap (walk start end step) r) ∙ is)

    pub from_start : is_reversed ≡ false → end ≤ count_limit → to_z w64 (start + k * step) ≡ get_or list k (pos 0)
    from_start r f =
        let way = on_the_way in
        to_z_pos w64 (omega arith)
        ∙ sym (get_d_tabulate (steps_below (end - start) step) (λ j. pos (start + j * step)) k (pos 0) (omega (arith, len_is)))
        ∙ ap (λ (l : List ℤ). get_or l k (pos 0)) (sym (forward_is start end step p) ∙ sym (ap (walk start end step) r) ∙ is)

-- the walk of a step's magnitude, backward if the step is below 0, is that of the step
pub walk_is : (start end : ℕ) (step : ℤ) → 0 < nat_abs step → walk start end (nat_abs step) (lt_z step (pos 0)) ≡ stepped start end step
unfolding stepped
walk_is start end (pos n) p = simp (le-ltb n 0 (omega arith))
walk_is start end (negsuc k) p = refl

-- a step of 1
pub consecutive : (start end : ℕ) → forward start end 1 ≡ tabulate (end - start) (λ k. pos (start + k))
consecutive start end =
    forward_is start end 1 (omega arith)
    ∙ tabulate_ext (steps_below (end - start) 1) (λ k. pos (start + k * 1)) (λ k. pos (start + k)) (λ k h. ap (λ (j : ℕ). pos (start + j)) (mul-one k))
    ∙ ap (λ (n : ℕ). tabulate n (λ k. pos (start + k))) (by_one (end - start))
