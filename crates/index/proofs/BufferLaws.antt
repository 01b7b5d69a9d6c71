-- A buffer that is filled from the front.
use mathlib.Core.Path.{◌≡◌, refl, sym, ap, ◌∙◌, subst}
use mathlib.Core.List.{List, [], ◌∷◌, ◌++◌}
use Prim.Native.Nat.{ℕ, zero, suc, ◌+◌, ◌≤◌, ◌<◌}
use native.Mathlib.Nat.{not-suc-le-zero, le_of_suc-le-suc}
use native.Mathlib.Omega.{arith}
use borrow.Author.Tests.{le-leb, lt-leb}
use lib.IntN.{ℤ, pos}
use lib.ListN.{length, drop, set, length-append, length-set}
use Rattle.answer.specs.Answer.{Answer, done, refused, check}
use Rattle.answer.specs.Lists.{tabulate}
use Rattle.index.specs.Checks.{list_answer, list_buffer}
use Rattle.index.specs.Private.{Listed, Checked}

-- a list at the front of a buffer
abbrev pub laid : List ℤ → List ℤ → List ℤ
laid list old = list ++ drop (length list) old

pub laid_more : (front old : List ℤ) (x : ℤ) → length front < length old → set (laid front old) (length front) x ≡ laid (front ++ (x ∷ [])) old
laid_more front [] x h = absurd (not-suc-le-zero h)
laid_more [] (y ∷ old) x h = refl
laid_more (a ∷ front) (y ∷ old) x h = ap (λ (l : List ℤ). a ∷ l) (laid_more front old x (le_of_suc-le-suc h))

pub tabulate_suc : {A : Type 0} (n : ℕ) (f : ℕ → A) → tabulate (suc n) f ≡ tabulate n f ++ (f n ∷ [])
unfolding tabulate
tabulate_suc zero f = refl
tabulate_suc (suc n) f = ap (λ l. f 0 ∷ l) (tabulate_suc n (λ k. f (suc k)))

-- a buffer whose first n places hold a list, the others being old
pub record Filled (front old : List ℤ) (n : ℕ) (new : List ℤ) : Type 0 where
  pub count : length front ≡ n
  pub long : length new ≡ length old
  pub holds : new ≡ laid front old

pub filled_none : (old : List ℤ) → Filled [] old 0 old
filled_none old = record { count = refl; long = refl; holds = refl }

pub filled_more : {front old new : List ℤ} {n : ℕ} (next : List ℤ) (x y : ℤ) → Filled front old n new → n < length old → next ≡ front ++ (x ∷ []) → y ≡ x → Filled next old (n + 1) (set new n y)
filled_more {front} {old} {new} {n} next x y f h m e =
    let c = f.count in
    let g : length front < length old = omega arith in
    record {
      count = ap length m ∙ length-append front (x ∷ []) ∙ ap (λ (k : ℕ). k + 1) c;
      long = length-set new n y ∙ f.long;
      holds = ap (λ (z : ℤ). set new n z) e ∙ ap (λ (b : List ℤ). set b n x) f.holds
          ∙ ap (λ (k : ℕ). set (laid front old) k x) (sym c) ∙ laid_more front old x g ∙ ap (λ (b : List ℤ). laid b old) (sym m);
    }

-- the same list under another name
pub filled_as : {front old new : List ℤ} {n : ℕ} (next : List ℤ) → Filled front old n new → next ≡ front → Filled next old n new
filled_as {front} {old} {new} {n} next f e = subst (λ (l : List ℤ). Filled l old n new) (sym e) f

-- 19, or the list at the front
module _ (list old : List ℤ) where
  pub too_short : length old < length list → Listed list old (refused 19 []) old
  unfolding list_answer list_buffer check
  too_short h = record { answer = simp (lt-leb (length list) (length old) h); buffer = simp (lt-leb (length list) (length old) h) }

  pub placed : {new : List ℤ} → length list ≤ length old → new ≡ laid list old → Listed list old (done (pos (length list) ∷ [])) new
  unfolding list_answer list_buffer check
  placed h e = record { answer = simp (le-leb (length list) (length old) h); buffer = simp (le-leb (length list) (length old) h) e }

  pub filled_placed : {front new : List ℤ} {n k : ℕ} → length list ≡ n → n ≤ length old → list ≡ front → Filled front old k new → Listed list old (done (pos n ∷ [])) new
  filled_placed {front} {new} {n} c h e f =
      subst (λ (m : ℕ). Listed list old (done (pos m ∷ [])) new) c (placed (omega arith) (f.holds ∙ ap (λ (l : List ℤ). laid l old) (sym e)))

-- a list that the checks let through, and a refusal of theirs
module _ {checks : Answer → Answer} {means old : List ℤ} where
  pub let_through : {list new : List ℤ} {says : Answer} → ((later : Answer) → checks later ≡ later) → list ≡ means → Listed list old says new → Checked checks means old says new
  let_through {list} {new} {says} p e l =
      let q = sym (p (list_answer means (length old))) in
      record {
        answer = l.answer ∙ ap (λ (m : List ℤ). list_answer m (length old)) e ∙ q;
        buffer = l.buffer ∙ ap (λ (m : List ℤ). list_buffer (list_answer m (length old)) m old) e ∙ ap (λ (a : Answer). list_buffer a means old) q;
      }

  pub stopped : {n : ℕ} → ((later : Answer) → checks later ≡ refused n []) → Checked checks means old (refused n []) old
  unfolding list_buffer
  stopped p =
      let q = sym (p (list_answer means (length old))) in
      record { answer = q; buffer = ap (λ (a : Answer). list_buffer a means old) q }
