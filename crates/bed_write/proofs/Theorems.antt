-- Refusal 7: "first" is the least place, 7 carries "the first one's animal, in the whole-file writer its marker too", and no byte changes.
use mathlib.Core.Path.{◌≡◌, refl, ap, subst, ◌∙◌}
use mathlib.Core.Bool.{Bool, true, false}
use mathlib.Core.List.{List}
use Rattle.std.specs.Prelude.{Option, Some, None}
use Prim.Native.Nat.{ℕ, zero, suc, ◌<◌}
use native.Mathlib.Omega.{arith}
use lib.IntN.{ℤ}
use lib.ListN.{length}
use Rattle.answer.specs.Answer.{refused, is_done}
use Rattle.answer.specs.Matrix.{matrix_place}
use Rattle.codes.specs.Value.{Width}
use Rattle.answer.proofs.AnswerLaws.{old_if_not}
use Rattle.bed_write.specs.Packing.{place_code, packed_codes, or_else, first_of, if_bad, first_bad_animal, encode_answer, encode_buffer}
use Rattle.bed_write.specs.First.{IsFoundFirst, HasCode, IsFirstBad, IsFirstBadCall, animal_of}
use Rattle.bed_write.specs.Writing.{value_code, first_bad_call}
use Rattle.bed_write.proofs.FirstLaws.{first_none, first_some, first_all, first_ext}

least : {A : Type 0} (n : ℕ) (found : ℕ → Option A) (x : A) → first_of n found ≡ Some x → IsFoundFirst A n found x
unfolding first_of
least zero found x e = absurd (let q : ◌≡◌ {A = ℕ} 0 1 = cc in omega arith)
least {A} (suc n) found x e = go (found 0) refl e (least n (λ k. found (suc k)) x)
  where
    go : (o : Option A) → found 0 ≡ o → or_else o (first_of n (λ k. found (suc k))) ≡ Some x
        → (first_of n (λ k. found (suc k)) ≡ Some x → IsFoundFirst A n (λ k. found (suc k)) x) → IsFoundFirst A (suc n) found x
    go (Some y) a e later = record { place = 0; inside = omega arith; found_there = a ∙ e; none_lower = λ j h. absurd (omega arith) }
    go None a e later =
        let l = later e in
        let h = l.inside in
        record { place = suc l.place; inside = omega arith; found_there = l.found_there; none_lower = lower l }
      where
        lower : (l : IsFoundFirst A n (λ k. found (suc k)) x) (j : ℕ) → j < suc l.place → found j ≡ None
        lower l zero h = a
        lower l (suc j) h = l.none_lower j (omega arith)

-- what is found first is what is found at the least place at which something is found
pub first_is_least : {A : Type 0} (n : ℕ) (found : ℕ → Option A) (x : A)
    → (first_of n found ≡ Some x → IsFoundFirst A n found x) × (IsFoundFirst A n found x → first_of n found ≡ Some x)
first_is_least n found x = (least n found x, λ l. first_some n found l.place x l.inside l.none_lower l.found_there)

-- and nothing is found first exactly if nothing is found at any place
pub first_is_none : {A : Type 0} (n : ℕ) (found : ℕ → Option A)
    → (first_of n found ≡ None → (k : ℕ) → k < n → found k ≡ None) × (((k : ℕ) → k < n → found k ≡ None) → first_of n found ≡ None)
first_is_none n found = (first_all n found, first_none n found)

-- ---- 7: the first bad value
-- a value has a code or is bad
good_none : {A : Type 0} (o : Option ℕ) (x : A) → HasCode o → if_bad o x ≡ None
unfolding if_bad
good_none o x (c, e) = ap (λ (p : Option ℕ). if_bad p x) e

none_good : {A : Type 0} (o : Option ℕ) (x : A) → if_bad o x ≡ None → HasCode o
unfolding if_bad
none_good (Some c) x e = (c, refl)
none_good None x e = absurd (let q : ◌≡◌ {A = ℕ} 0 1 = cc in omega arith)

bad_some : {A : Type 0} (o : Option ℕ) (x : A) → o ≡ None → if_bad o x ≡ Some x
unfolding if_bad
bad_some o x e = ap (λ (p : Option ℕ). if_bad p x) e

some_bad : {A : Type 0} (o : Option ℕ) (x y : A) → if_bad o x ≡ Some y → (o ≡ None) × (x ≡ y)
unfolding if_bad
some_bad (Some c) x y e = absurd (let q : ◌≡◌ {A = ℕ} 0 1 = cc in omega arith)
some_bad None x y e = (refl, cc)

-- "carries the first one's animal"
pub first_bad_animal_law : (n : ℕ) (code : ℕ → Option ℕ) (a : ℕ)
    → (first_bad_animal n code ≡ Some a → IsFirstBad n code a) × (IsFirstBad n code a → first_bad_animal n code ≡ Some a)
unfolding first_bad_animal
first_bad_animal_law n code a = (
  λ e. let l = least n (λ a. if_bad (code a) a) a e in
      let b = some_bad (code l.place) l.place a l.found_there in
      subst (IsFirstBad n code) b.1 (record { inside = l.inside; is_bad = b.0; lower_good = λ j h. none_good (code j) j (l.none_lower j h) }),
  λ b. first_some n (λ a. if_bad (code a) a) a a b.inside (λ j h. good_none (code j) j (b.lower_good j h)) (bad_some (code a) a b.is_bad),
)

-- "in the whole-file writer its marker too"
module _ (iids sids : ℕ) (code : ℕ → ℕ → Option ℕ) where
  at : ℕ → ℕ → Option (ℕ × ℕ)
  at m a = if_bad (code a m) (a, m)

  pub first_bad_call_law : (a m : ℕ) → (first_bad_call iids sids code ≡ Some (a, m) → IsFirstBadCall iids sids code a m) × (IsFirstBadCall iids sids code a m → first_bad_call iids sids code ≡ Some (a, m))
  unfolding first_bad_call at
  first_bad_call_law a m = (
    λ e. let k = least sids (λ m. first_of iids (at m)) (a, m) e in
        let l = least iids (at k.place) (a, m) k.found_there in
        let b = some_bad (code l.place k.place) (l.place, k.place) (a, m) l.found_there in
        subst (λ (p : ℕ × ℕ). IsFirstBadCall iids sids code p.0 p.1) b.1 (record {
          marker_inside = k.inside;
          first_animal = record { inside = l.inside; is_bad = b.0; lower_good = λ j h. none_good (code j k.place) (j, k.place) (l.none_lower j h) };
          lower_markers_good = λ j i hj hi. none_good (code j i) (j, i) (first_all iids (at i) (k.none_lower i hi) j hj);
        }),
    λ b. let f = b.first_animal in
        first_some sids (λ m. first_of iids (at m)) m (a, m) b.marker_inside
        (λ i hi. first_none iids (at i) (λ j hj. good_none (code j i) (j, i) (b.lower_markers_good j i hj hi)))
        (first_some iids (at m) a (a, m) f.inside (λ j h. good_none (code j m) (j, m) (f.lower_good j h)) (bad_some (code a m) (a, m) f.is_bad)),
  )

-- ---- "`encode1` shall leave the buffer unchanged at 7" (document 02): at 7 as at 16, every byte is the old one
pub refused_unchanged : (n : ℕ) (code : ℕ → Option ℕ) (old : List ℕ) (number : ℕ) (carried : List ℤ) → encode_answer n code (length old) ≡ refused number carried → encode_buffer n code old ≡ old
unfolding encode_buffer
refused_unchanged n code old number carried e = old_if_not (encode_answer n code (length old)) (packed_codes n code) old (ap is_done e)

-- ---- one marker: the whole-file writer's search finds the animal that packing looks for, in either order
at_one : (order : Bool) (n a : ℕ) → matrix_place order n 1 a 0 ≡ a
unfolding matrix_place
at_one true n a = omega arith
at_one false n a = omega arith

only_animal : (n : ℕ) (o : ℕ → Option ℕ) (x : ℕ → ℕ) → animal_of (first_of n (λ k. if_bad (o k) (x k, 0))) ≡ first_of n (λ k. if_bad (o k) (x k))
unfolding first_of if_bad or_else
only_animal zero o x = refl
only_animal (suc n) o x = go (o 0) (only_animal n (λ k. o (suc k)) (λ k. x (suc k)))
  where
    go : (p : Option ℕ)
        → animal_of (first_of n (λ k. if_bad (o (suc k)) (x (suc k), 0))) ≡ first_of n (λ k. if_bad (o (suc k)) (x (suc k)))
        → animal_of (or_else (if_bad p (x 0, 0)) (first_of n (λ k. if_bad (o (suc k)) (x (suc k), 0)))) ≡ or_else (if_bad p (x 0)) (first_of n (λ k. if_bad (o (suc k)) (x (suc k))))
    go (Some c) later = later
    go None later = refl

pub one_marker_first_bad : {V : Type 0} (w : Width V) (flag : Bool) (missing : V) (order : Bool) (n : ℕ) (val : List V)
    → animal_of (first_bad_call n 1 (value_code w flag missing order n 1 val)) ≡ first_bad_animal n (place_code w flag missing val)
unfolding first_bad_call first_bad_animal first_of or_else value_code
one_marker_first_bad w flag missing order n val =
    ap animal_of (last (first_of n (λ a. if_bad (place_code w flag missing val (matrix_place order n 1 a 0)) (a, 0))))
    ∙ only_animal n (λ a. place_code w flag missing val (matrix_place order n 1 a 0)) (λ a. a)
    ∙ first_ext n _ _ (λ a h. ap (λ (k : ℕ). if_bad (place_code w flag missing val k) a) (at_one order n a))
  where
    last : (o : Option (ℕ × ℕ)) → or_else o None ≡ o
    last (Some x) = refl
    last None = refl

pub one_marker_found :
    {V : Type 0} (w : Width V) (flag : Bool) (missing : V) (order : Bool) (n : ℕ) (val : List V) (found : Option (ℕ × ℕ))
    → found ≡ first_bad_call n 1 (value_code w flag missing order n 1 val) → animal_of found ≡ first_bad_animal n (place_code w flag missing val)
one_marker_found w flag missing order n val found e = ap animal_of e ∙ one_marker_first_bad w flag missing order n val
