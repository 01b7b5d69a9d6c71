-- The places of the marks that are not 0.
use mathlib.Core.Path.{◌≡◌, refl, sym, ap, ◌∙◌}
use mathlib.Core.Bool.{Bool, true, false, not}
use mathlib.Core.List.{List, [], ◌∷◌, ◌++◌, map}
use Prim.Native.Nat.{ℕ, zero, suc, ◌+◌, ◌-◌, ◌≤◌, ◌<◌}
use native.Mathlib.Numerals.{add-one}
use native.Mathlib.Omega.{arith}
use borrow.Author.Tests.{eq-eqb, ne_eqb}
use lib.IntN.{ℤ, pos}
use lib.Dec.{eqb}
use lib.ListN.{length, get_or, take, length-append, length-map}
use Rattle.std.specs.List.{count_by}
use Rattle.std.proofs.lemmas.List.{map-append}
use Rattle.std.proofs.lemmas.List.Sums.{count_by_more_yes, count_by_more_no}
use lib.Seq.{take_all}
use Rattle.index.specs.Numbers.{numbers_below, marked}
use Rattle.index.proofs.BelowLaws.{below_more, below_same, below_grows}

abbrev pub is_chosen : ℕ → Bool
is_chosen mark = not (eqb mark 0)

abbrev is_marked : List ℕ → ℕ → Bool
is_marked marks i = is_chosen (get_or marks i 0)

-- the places marked before place i
unfoldable pub marked_before : List ℕ → ℕ → List ℤ
marked_before marks i = map pos (numbers_below i (is_marked marks))

pub all_marked : (marks : List ℕ) (i : ℕ) → i ≤ length marks → length marks ≤ i → marked marks ≡ marked_before marks i
unfolding marked_before marked
all_marked marks i a b = ap (λ (n : ℕ). map pos (numbers_below n (is_marked marks))) (omega arith)

module _ (marks : List ℕ) (i : ℕ) where
  pub unmarked : get_or marks i 0 ≡ 0 → marked_before marks (i + 1) ≡ marked_before marks i
  unfolding marked_before
  unmarked e =
      ap (λ (n : ℕ). map pos (numbers_below n (is_marked marks))) (add-one i)
      ∙ ap (map pos) (below_same (is_marked marks) i (ap not (eq-eqb (get_or marks i 0) 0 e)))

  module _ (n : get_or marks i 0 ≡ 0 → ⊥) where
    pub is_marked_law : marked_before marks (i + 1) ≡ marked_before marks i ++ (pos i ∷ [])
    unfolding marked_before
    is_marked_law =
        ap (λ (m : ℕ). map pos (numbers_below m (is_marked marks))) (add-one i)
        ∙ ap (map pos) (below_more (is_marked marks) i (ap not (ne_eqb (get_or marks i 0) 0 n)))
        ∙ map-append pos (numbers_below i (is_marked marks)) (i ∷ [])

    -- the number of places grows by one at a mark
    pub one_more : (count : ℕ) → count ≡ length (marked_before marks i) → count + 1 ≡ length (marked_before marks (i + 1))
    one_more count e =
        ap (λ (j : ℕ). j + 1) e ∙ sym (length-append (marked_before marks i) (pos i ∷ [])) ∙ sym (ap length is_marked_law)

    -- a place is left for it where there is room for all
    pub room_for : (count room : ℕ) → i < length marks → count ≡ length (marked_before marks i) → length (marked marks) ≤ room → count < room
    unfolding marked_before marked
    room_for count room h e r =
        let o : count + 1 ≡ length (marked_before marks (i + 1)) = one_more count e in
        let l : i + 1 + (length marks - (i + 1)) ≡ length marks = omega arith in
        let g : length (numbers_below (i + 1) (is_marked marks)) ≤ length (numbers_below (length marks) (is_marked marks)) =
        rw l at (below_grows (is_marked marks) (i + 1) (length marks - (i + 1))) in
        omega (arith, length-map (numbers_below (i + 1) (is_marked marks)) pos, length-map (numbers_below (length marks) (is_marked marks)) pos)

-- as many places are marked as marks are not 0
counted_more :
    (marks : List ℕ) (i : ℕ) → i < length marks → (t : Bool) → is_marked marks i ≡ t → length (numbers_below i (is_marked marks)) ≡ count_by is_chosen (take i marks)
    → length (numbers_below (suc i) (is_marked marks)) ≡ count_by is_chosen (take (suc i) marks)
counted_more marks i h true e so_far =
    ap length (below_more (is_marked marks) i e) ∙ length-append (numbers_below i (is_marked marks)) (i ∷ []) ∙ ap (λ (n : ℕ). n + 1) so_far
    ∙ sym (count_by_more_yes is_chosen marks i 0 h e) ∙ ap (λ (n : ℕ). count_by is_chosen (take n marks)) (add-one i)
counted_more marks i h false e so_far =
    ap length (below_same (is_marked marks) i e) ∙ so_far
    ∙ sym (count_by_more_no is_chosen marks i 0 h e) ∙ ap (λ (n : ℕ). count_by is_chosen (take n marks)) (add-one i)

counted_before : (marks : List ℕ) (i : ℕ) → i ≤ length marks → length (numbers_below i (is_marked marks)) ≡ count_by is_chosen (take i marks)
unfolding numbers_below
counted_before marks zero h = refl
counted_before marks (suc i) h = counted_more marks i (omega arith) (is_marked marks i) refl (counted_before marks i (omega arith))

pub counted : (marks : List ℕ) → length (marked marks) ≡ count_by is_chosen marks
unfolding marked
counted marks =
    length-map (numbers_below (length marks) (is_marked marks)) pos ∙ counted_before marks (length marks) (omega arith)
    ∙ ap (count_by is_chosen) (take_all (length marks) marks (omega arith))
