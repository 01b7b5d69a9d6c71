-- What the limit leaves for each candidate.
use mathlib.Core.Path.{◌≡◌, ap}
use mathlib.Core.Bool.{Bool, true}
use mathlib.Core.Logic.{◌↔◌, ◌⊎◌, inl, inr}
use Prim.Native.Nat.{ℕ, zero, suc, ◌+◌, ◌-◌, ◌*◌, ◌<◌, ◌≤◌, min}
use native.Mathlib.Omega.{arith}
use borrow.Author.Tests.{eq-eqb, eqb-true}
use Rattle.answer.specs.Lists.{how_many}
use Rattle.statistics.specs.Calls.{total}
use Rattle.answer.proofs.Tests.{by_lt}
use Rattle.answer.proofs.HowMany.{many_add}
use Rattle.sire.specs.Sire.{compared, is_finished, comparisons_made, so_far, in_all}

-- "go through rams in list order and markers upward": the comparison of candidate k at marker m comes after k × markers + m others, and is made if that
-- is below the limit
pub compared_in_order : (limit markers k m : ℕ) → m < markers → (m < compared limit markers k) ↔ (k * markers + m < limit)
unfolding compared
compared_in_order limit markers k m h = ((λ l. omega arith), (λ l. omega arith))

-- "The comparisons made are the smaller of the limit and rams times markers, a missing call using one too.": whatever the calls are
pub made_is : (limit markers candidates : ℕ) → comparisons_made limit markers candidates ≡ min limit (candidates * markers)
unfolding comparisons_made total compared
made_is limit markers zero = omega arith
made_is limit markers (suc n) = let h = made_is limit markers n in omega arith

-- a candidate's part of what the comparisons before it leave of the limit
pub compared_of_the_rest : (limit markers k : ℕ) → compared limit markers k ≡ min markers (limit - comparisons_made limit markers k)
unfolding compared
compared_of_the_rest limit markers k = let e = made_is limit markers k in omega arith

module _ (limit markers k : ℕ) where
  pub finished_all : is_finished limit markers k ≡ true → compared limit markers k ≡ markers
  unfolding is_finished
  finished_all t = eqb-true (compared limit markers k) markers t

  pub all_finished : compared limit markers k ≡ markers → is_finished limit markers k ≡ true
  unfolding is_finished
  all_finished e = eq-eqb (compared limit markers k) markers e

  pub compared_most : compared limit markers k ≤ markers
  unfolding compared
  compared_most = omega arith

  pub reached_finished : suc k * markers ≤ limit → is_finished limit markers k ≡ true
  unfolding compared
  reached_finished h = all_finished (omega arith)

  -- the limit reaches its last marker, or there is none
  pub finished_exactly : (is_finished limit markers k ≡ true) ↔ ((markers ≡ 0) ⊎ (suc k * markers ≤ limit))
  unfolding compared
  finished_exactly = (then, if)
    where
      then : is_finished limit markers k ≡ true → (markers ≡ 0) ⊎ (suc k * markers ≤ limit)
      then t = let e = finished_all t in by_lt 0 markers (λ l. inr (omega arith)) (λ l. inl (omega arith))

      if : (markers ≡ 0) ⊎ (suc k * markers ≤ limit) → is_finished limit markers k ≡ true
      if (inl e) = all_finished (omega arith)
      if (inr h) = reached_finished h

-- "With no markers every ram counts as finished."
pub no_markers_finished : (limit k : ℕ) → is_finished limit 0 k ≡ true
unfolding is_finished compared
no_markers_finished limit k = eq-eqb (compared limit 0 k) 0 (omega arith)

pub still_finished : (limit more markers k : ℕ) → limit ≤ more → is_finished limit markers k ≡ true → is_finished more markers k ≡ true
unfolding compared
still_finished limit more markers k h t = let e = finished_all limit markers k t in all_finished more markers k (omega arith)

-- ---- counts
many_mono : (test : ℕ → Bool) (a b : ℕ) → a ≤ b → how_many a test ≤ how_many b test
many_mono test a b h =
    let e : how_many b test ≡ how_many (a + (b - a)) test = ap (λ (x : ℕ). how_many x test) (omega arith) in
    let s = many_add a (b - a) test in omega arith

module _ (limit markers : ℕ) (opposes : ℕ → ℕ → Bool) (k : ℕ) where
  -- "0 for one not begun"
  pub not_begun : limit ≤ k * markers → so_far limit markers opposes k ≡ 0
  unfolding so_far how_many total compared
  not_begun h = let e : compared limit markers k ≡ 0 = omega arith in ap (λ (n : ℕ). how_many n (opposes k)) e

  pub finished_count : is_finished limit markers k ≡ true → so_far limit markers opposes k ≡ in_all markers opposes k
  unfolding so_far in_all
  finished_count t = ap (λ (n : ℕ). how_many n (opposes k)) (finished_all limit markers k t)

  pub so_far_most : so_far limit markers opposes k ≤ in_all markers opposes k
  unfolding so_far in_all
  so_far_most = many_mono (opposes k) (compared limit markers k) markers (compared_most limit markers k)
