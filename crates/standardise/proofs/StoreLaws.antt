-- Rows of stores.
use mathlib.Core.Path.{◌≡◌, refl, sym, ap, ◌∙◌}
use mathlib.Core.List.{List, ◌++◌}
use Prim.Native.Nat.{ℕ, zero, suc, ◌+◌, ◌-◌, ◌<◌, ◌≤◌}
use native.Mathlib.Numerals.{add-one}
use native.Mathlib.Omega.{arith}
use lib.Dec.{eqb}
use lib.ListN.{length, get_or, set, take, drop, length-set, take-append-drop, length-drop}
use lib.Seq.{length-take-le, get_or-take, get_or-drop, get_or-set_same, get_or-set_other, set-get_or}
use lib.Ieee.{Float, nan}
use borrow.Rule.Slice.PartMut.{put_mid}
use Rattle.std.proofs.lemmas.List.{set-append_left, set-append_right}
use borrow.Author.Tests.{eqb-true, eqb-false}
use Rattle.answer.proofs.Tests.{by_test}
use Rattle.standardise.specs.Private.{written, nth, from}

module _ (xs : List Float) (place : ℕ → ℕ) where
  pub length_written : (v : ℕ → Float) (k : ℕ) → length (written xs place v k) ≡ length xs
  unfolding written
  length_written v zero = refl
  length_written v (suc k) = length-set (written xs place v k) (place k) (v k) ∙ length_written v k

  -- one store more
  pub written_more : (v : ℕ → Float) (k : ℕ) (ys : List Float) (w : Float) → ys ≡ written xs place v k → w ≡ v k → set ys (place k) w ≡ written xs place v (k + 1)
  unfolding written
  written_more v k ys w e g = ap (λ (l : List Float). set l (place k) w) e ∙ ap (set (written xs place v k) (place k)) g ∙ ap (written xs place v) (sym (add-one k))

  -- a place that no store met
  pub unwritten : (v : ℕ → Float) (k p : ℕ) → ((j : ℕ) → j < k → place j ≡ p → ⊥) → get_or (written xs place v k) p nan ≡ get_or xs p nan
  unfolding written
  unwritten v zero p n = refl
  unwritten v (suc k) p n =
      get_or-set_other (written xs place v k) (place k) p (v k) nan (λ e. n k (omega arith) (sym e)) ∙ unwritten v k p (λ j h. n j (omega arith))

  -- a place after all stores: what each store that met it left there, or else what it held
  pub get_d_written : (v : ℕ → Float) (k p : ℕ) (x : Float) → ((j : ℕ) → j < k → place j < length xs) → ((j : ℕ) → j < k → place j ≡ p → v j ≡ x)
      → (((j : ℕ) → j < k → place j ≡ p → ⊥) → get_or xs p nan ≡ x) → get_or (written xs place v k) p nan ≡ x
  unfolding written
  get_d_written v zero p x inside met none = none (λ j h e. let z : j < 0 = h in omega arith)
  get_d_written v (suc k) p x inside met none = by_test (eqb (place k) p) (λ t. here (eqb-true (place k) p t))
      (λ t. there (eqb-false (place k) p t) (get_d_written v k p x (λ j h. inside j (omega arith)) (λ j h. met j (omega arith))))
    where
      here : place k ≡ p → get_or (set (written xs place v k) (place k) (v k)) p nan ≡ x
      here e =
          ap (λ (q : ℕ). get_or (set (written xs place v k) (place k) (v k)) q nan) (sym e)
          ∙ get_or-set_same (written xs place v k) (place k) (v k) nan
          (let l : length (written xs place v k) ≡ length xs = length_written v k in let i : place k < length xs = inside k (omega arith) in omega arith)
          ∙ met k (omega arith) e

      last : (place k ≡ p → ⊥) → ((j : ℕ) → j < k → place j ≡ p → ⊥) → (j : ℕ) → j < suc k → place j ≡ p → ⊥
      last m n j h e = by_test (eqb j k) (λ t. m (ap place (sym (eqb-true j k t)) ∙ e)) (λ t. let d : j ≡ k → ⊥ = eqb-false j k t in n j (omega arith) e)

      there : (place k ≡ p → ⊥) → ((((j : ℕ) → j < k → place j ≡ p → ⊥) → get_or xs p nan ≡ x) → get_or (written xs place v k) p nan ≡ x)
          → get_or (set (written xs place v k) (place k) (v k)) p nan ≡ x
      there m earlier =
          get_or-set_other (written xs place v k) (place k) p (v k) nan (λ e. m (sym e))
          ∙ earlier (λ n. none (last m n))

  pub written_ext : (v w : ℕ → Float) (k : ℕ) → ((j : ℕ) → j < k → v j ≡ w j) → written xs place v k ≡ written xs place w k
  unfolding written
  written_ext v w zero e = refl
  written_ext v w (suc k) e =
      ap (set (written xs place v k) (place k)) (e k (omega arith))
      ∙ ap (λ (l : List Float). set l (place k) (w k)) (written_ext v w k (λ j h. e j (omega arith)))

  pub written_places : (q : ℕ → ℕ) (v : ℕ → Float) (k : ℕ) → ((j : ℕ) → place j ≡ q j) → written xs place v k ≡ written xs q v k
  unfolding written
  written_places q v zero e = refl
  written_places q v (suc k) e =
      ap (λ (x : ℕ). set (written xs place v k) x (v k)) (e k) ∙ ap (λ (l : List Float). set l (q k) (v k)) (written_places q v k e)

  -- storing what is there changes nothing
  pub written_same : (k : ℕ) → written xs place (λ j. get_or xs (place j) nan) k ≡ xs
  unfolding written
  written_same zero = refl
  written_same (suc k) = ap (λ (l : List Float). set l (place k) (get_or xs (place k) nan)) (written_same k) ∙ set-get_or xs (place k) nan

-- values changed one by one
pub row_changed_more : (xs : List Float) (change : ℕ → Float → Float) (n : ℕ) (ys : List Float) (w : Float)
    → ys ≡ written xs (λ i. i) (λ i. change i (nth xs i)) n → w ≡ change n (get_or ys n nan)
    → set ys n w ≡ written xs (λ i. i) (λ i. change i (nth xs i)) (n + 1)
row_changed_more xs change n ys w e g =
    written_more xs (λ i. i) (λ i. change i (nth xs i)) n ys w e
    (g ∙ ap (λ (l : List Float). change n (get_or l n nan)) e
    ∙ ap (change n) (unwritten xs (λ i. i) (λ i. change i (nth xs i)) n n (λ j h p. let q : j ≡ n = p in omega arith)))

-- a part of a list, when it is put back
module _ (xs : List Float) (a k : ℕ) (h : a + k ≤ length xs) where
  abbrev part : List Float
  part = take k (drop a xs)

  part_long : length part ≡ k
  part_long = length-take-le k (drop a xs) (let d = length-drop a xs in omega (arith, d))

  put_written : (v : ℕ → Float) (n : ℕ) → n ≤ k → put_mid a k xs (written part (λ j. j) v n) ≡ written xs (λ j. a + j) v n
  unfolding written
  put_written v zero b = ap (λ (l : List Float). take a xs ++ l) (take-append-drop k (drop a xs)) ∙ take-append-drop a xs
  put_written v (suc n) b =
      let ys = written part (λ j. j) v n in
      let s : n < length ys = (let l = length_written part (λ j. j) v n in omega (arith, part_long)) in
      let back : a + n - a ≡ n = omega arith in
      sym (ap (λ (l : List Float). set l (a + n) (v n)) (sym (put_written v n (omega arith)))
      ∙ set-append_right (take a xs) (ys ++ drop k (drop a xs)) a (a + n) (v n) (length-take-le a xs (omega arith)) (omega arith)
      ∙ ap (λ (j : ℕ). take a xs ++ set (ys ++ drop k (drop a xs)) j (v n)) back
      ∙ ap (λ (l : List Float). take a xs ++ l) (set-append_left ys (drop k (drop a xs)) n (v n) s))

  pub row_put : (n : ℕ) (change : ℕ → Float → Float) (ys : List Float) → k ≡ n
      → ys ≡ written (take k (drop a xs)) (λ j. j) (λ j. change j (nth (take k (drop a xs)) j)) (length (take k (drop a xs)))
      → put_mid a k xs ys ≡ written xs (λ j. a + j) (λ j. change j (from xs a j)) n
  row_put n change ys e y =
      ap (put_mid a k xs) (y ∙ ap (written part (λ j. j) (λ j. change j (nth part j))) part_long)
      ∙ put_written (λ j. change j (nth part j)) k (omega arith)
      ∙ written_ext xs (λ j. a + j) (λ j. change j (nth part j)) (λ j. change j (from xs a j)) k (λ j b. ap (change j) (get_or-take k (drop a xs) j nan b ∙ get_or-drop a xs j nan))
      ∙ ap (written xs (λ j. a + j) (λ j. change j (from xs a j))) e
