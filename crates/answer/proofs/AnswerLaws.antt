-- Laws of answers and checks.
use mathlib.Core.Path.{◌≡◌, refl, sym, ap, ◌∙◌}
use mathlib.Core.Bool.{Bool, true, false}
use mathlib.Core.List.{List, [], ◌∷◌}
use Rattle.std.specs.Prelude.{Option, Some, None, Result, Ok, Err, IsErrAnd}
use Prim.Native.Nat.{ℕ, ◌≤◌, ◌<◌}
use native.Mathlib.Omega.{arith}
use borrow.Author.Tests.{leb-true, le-leb, lt-leb}
use lib.Dec.{leb}
use lib.IntN.{ℤ}
use mathlib.Core.Logic.{◌⊎◌, inl, inr}
use Rattle.std.proofs.lemmas.Bool.{and_parts, and_cases, both_ways}
use Rattle.answer.specs.Answer.{Answer, done, refused, check, check_entry, check_count, count_limit, counts_fit, is_done, if_done}

-- ---- a check that finds nothing, and one that refuses
pub check_passes : (b : Bool) (n : ℕ) (later : Answer) → b ≡ true → check b n later ≡ later
unfolding check
check_passes b n later e = rw e

pub check_refuses : (b : Bool) (n : ℕ) (later : Answer) → b ≡ false → check b n later ≡ refused n []
unfolding check
check_refuses b n later e = rw e

pub entry_passes : (o : Option ℤ) (n : ℕ) (later : Answer) → o ≡ None → check_entry o n later ≡ later
unfolding check_entry
entry_passes o n later e = rw e

pub entry_refuses : (o : Option ℤ) (n : ℕ) (later : Answer) (z : ℤ) → o ≡ Some z → check_entry o n later ≡ refused n (z ∷ [])
unfolding check_entry
entry_refuses o n later z e = rw e

pub count_passes : (n : ℕ) (later : Answer) → n ≤ count_limit → check_count n later ≡ later
unfolding check_count
count_passes n later h = check_passes (leb n count_limit) 18 later (le-leb n count_limit h)

pub count_refuses : (n : ℕ) (later : Answer) → count_limit < n → check_count n later ≡ refused 18 []
unfolding check_count
count_refuses n later h = check_refuses (leb n count_limit) 18 later (lt-leb n count_limit h)

-- ---- the checks of two counts, by one test
pub both_fit : (a b : ℕ) → counts_fit a b ≡ true → (a ≤ count_limit) × (b ≤ count_limit)
both_fit a b e = let parts = and_parts (leb a count_limit) (leb b count_limit) e in (leb-true a count_limit parts.0, leb-true b count_limit parts.1)

pub counts_refuse : (a b : ℕ) (later : Answer) → counts_fit a b ≡ false → check_count a (check_count b later) ≡ refused 18 []
unfolding check_count check
counts_refuse a b later e = by_first (leb a count_limit) refl
  where
    by_first : (t : Bool) → leb a count_limit ≡ t → check_count a (check_count b later) ≡ refused 18 []
    by_first false first = rw first
    by_first true first = simp (first, second (and_cases _ _ e))
      where
        second : (leb a count_limit ≡ false) ⊎ (leb b count_limit ≡ false) → leb b count_limit ≡ false
        second (inr o) = o
        second (inl o) = absurd (both_ways _ o first)

-- ---- what a list's check found
unfoldable carried : Answer → Option ℤ
carried (done vs) = None
carried (refused n []) = None
carried (refused n (e ∷ es)) = Some e

carried_entry : (o : Option ℤ) (n : ℕ) → carried (check_entry o n (done [])) ≡ o
unfolding carried check_entry
carried_entry None n = refl
carried_entry (Some e) n = refl

pub entry_some : (o : Option ℤ) (n : ℕ) (e : ℤ) → refused n (e ∷ []) ≡ check_entry o n (done []) → o ≡ Some e
unfolding carried
entry_some o n e q = sym (carried_entry o n) ∙ ap carried (sym q)

pub entry_none : (o : Option ℤ) (n : ℕ) → done [] ≡ check_entry o n (done []) → o ≡ None
unfolding carried
entry_none o n q = sym (carried_entry o n) ∙ ap carried (sym q)

-- ---- what is known where nothing was refused
pub check_done : (b : Bool) (n : ℕ) (later : Answer) → is_done (check b n later) ≡ true → (b ≡ true) × (is_done later ≡ true)
unfolding check
check_done true n later e = (refl, e)
check_done false n later e = absurd (let q : ◌≡◌ {A = ℕ} 0 1 = cc in omega arith)

pub entry_done : (o : Option ℤ) (n : ℕ) (later : Answer) → is_done (check_entry o n later) ≡ true → (o ≡ None) × (is_done later ≡ true)
unfolding check_entry
entry_done None n later e = (refl, e)
entry_done (Some z) n later e = absurd (let q : ◌≡◌ {A = ℕ} 0 1 = cc in omega arith)

pub count_done : (n : ℕ) (later : Answer) → is_done (check_count n later) ≡ true → (n ≤ count_limit) × (is_done later ≡ true)
unfolding check_count
count_done n later e = let d = check_done (leb n count_limit) 18 later e in (leb-true n count_limit d.0, d.1)

-- ---- a refusal by a number is not by a check that has another
unfoldable pub number : Answer → ℕ
number (done vs) = 0
number (refused n vs) = n

pub check_other : (b : Bool) (n : ℕ) (later : Answer) (m : ℕ) (vs : List ℤ) → (n ≡ m → ⊥) → check b n later ≡ refused m vs → later ≡ refused m vs
unfolding check number
check_other true n later m vs o e = e
check_other false n later m vs o e = absurd (o (ap number e))

pub count_other : (n : ℕ) (later : Answer) (m : ℕ) (vs : List ℤ) → (18 ≡ m → ⊥) → check_count n later ≡ refused m vs → later ≡ refused m vs
unfolding check_count
count_other n later m vs o e = check_other (leb n count_limit) 18 later m vs o e

pub entry_other : (o : Option ℤ) (n : ℕ) (later : Answer) (m : ℕ) (vs : List ℤ) → (n ≡ m → ⊥) → check_entry o n later ≡ refused m vs → (o ≡ None) × (later ≡ refused m vs)
unfolding check_entry number
entry_other None n later m vs d e = (refl, e)
entry_other (Some z) n later m vs d e = absurd (d (ap number e))

-- ---- later buffers
pub new_if_done : {A : Type 0} (a : Answer) (new old : A) → is_done a ≡ true → if_done a new old ≡ new
unfolding if_done
new_if_done a new old e = rw e

pub old_if_not : {A : Type 0} (a : Answer) (new old : A) → is_done a ≡ false → if_done a new old ≡ old
unfolding if_done
old_if_not a new old e = rw e

pub same_if_done : {A : Type 0} (a : Answer) (new new' old : A) → (is_done a ≡ true → new ≡ new') → if_done a new old ≡ if_done a new' old
unfolding if_done
same_if_done (done vs) new new' old e = e refl
same_if_done (refused n vs) new new' old e = refl

-- a test that tells whether an answer is done
pub is_done_of : (a b : Answer) (t : Bool) → a ≡ b → t ≡ is_done a → (v : Bool) → t ≡ v → is_done b ≡ v
is_done_of a b t e f v g = sym (ap is_done e) ∙ sym f ∙ g

-- ---- checks in a row: each lets the later ones speak, or refuses whatever they say
pub data Stage (F : Answer → Answer) : Type 0 where
  lets : ((later : Answer) → F later ≡ later) → Stage F
  refuses : (n : ℕ) (vs : List ℤ) → ((later : Answer) → F later ≡ refused n vs) → Stage F

pub check_stage : (b : Bool) (n : ℕ) → Stage (λ later. check b n later)
unfolding check
check_stage true n = lets (λ later. refl)
check_stage false n = refuses n [] (λ later. refl)

pub entry_stage : (o : Option ℤ) (n : ℕ) → Stage (λ later. check_entry o n later)
unfolding check_entry
entry_stage None n = lets (λ later. refl)
entry_stage (Some z) n = refuses n (z ∷ []) (λ later. refl)

pub count_stage : (n : ℕ) → Stage (λ later. check_count n later)
unfolding check_count
count_stage n = check_stage (leb n count_limit) 18

pub then_stage : {F G : Answer → Answer} → Stage F → Stage G → Stage (λ later. F (G later))
then_stage {F} {G} (lets f) (lets g) = lets (λ later. f (G later) ∙ g later)
then_stage {F} {G} (lets f) (refuses n vs g) = refuses n vs (λ later. f (G later) ∙ g later)
then_stage {F} {G} (refuses n vs f) s = refuses n vs (λ later. f (G later))

never : (n : ℕ) (vs ws : List ℤ) → refused n vs ≡ done ws → ⊥
never n vs ws e = let q : ◌≡◌ {A = ℕ} 0 1 = cc in omega arith

-- where a row of checks finds nothing, a later one is heard
pub heard : {F : Answer → Answer} → Stage F → (vs : List ℤ) → is_done (F (done vs)) ≡ true → (later : Answer) → F later ≡ later
heard (lets f) vs e later = f later
heard (refuses n ws f) vs e later = absurd (let q : ◌≡◌ {A = Bool} false true = sym (ap is_done (f (done vs))) ∙ e in let r : ◌≡◌ {A = ℕ} 0 1 = cc in omega arith)

-- where it refuses, that is the answer whatever comes later
pub stays : {F : Answer → Answer} → Stage F → (vs : List ℤ) (n : ℕ) (ws : List ℤ) → F (done vs) ≡ refused n ws → (later : Answer) → F later ≡ refused n ws
stays (lets f) vs n ws e later = absurd (never n ws vs (sym e ∙ f (done vs)))
stays (refuses m us f) vs n ws e later = f later ∙ sym (f (done vs)) ∙ e

-- where the answer is done, the earlier checks found nothing
pub before_later : {F : Answer → Answer} → Stage F → (later : Answer) → is_done (F later) ≡ true → is_done (F (done [])) ≡ true
before_later (lets f) later e = ap is_done (f (done []))
before_later (refuses n ws f) later e =
    absurd (let q : ◌≡◌ {A = Bool} false true = sym (ap is_done (f later)) ∙ e in let r : ◌≡◌ {A = ℕ} 0 1 = cc in omega arith)

-- ---- what `?` hands on at the same type of errors
pub same_error : {T E : Type 0} (r : Result T E) (e : E) → IsErrAnd r (λ error. error ≡ e) → r ≡ Err e
same_error (Ok _) e h = absurd h
same_error (Err error) e h = ap Err h

-- and what it turns into another error, one of the same number
pub error_told :
    {T E : Type 0} (says : Result T E → Answer) (number_of : E → ℕ) → ((error : E) → says (Err error) ≡ refused (number_of error) [])
    → (r : Result T E) (n : ℕ) → IsErrAnd r (λ error. n ≡ number_of error) → says r ≡ refused n []
error_told says number_of told (Ok _) n h = absurd h
error_told says number_of told (Err error) n h = told error ∙ ap (λ (k : ℕ). refused k []) (sym h)

pub error_said : {T E : Type 0} (says : Result T E → Answer) (r : Result T E) (a : Answer) → IsErrAnd r (λ error. says (Err error) ≡ a) → says r ≡ a
error_said says (Ok _) a h = absurd h
error_said says (Err error) a h = h
