-- A list with a part of it replaced, place by place. `put_mid a k xs ys` has ys for the k elements from place a on.
use mathlib.Core.Path.{◌≡◌, refl, sym, ap, ◌∙◌}
use mathlib.Core.Bool.{Bool, true, false}
use mathlib.Core.List.{List, ◌++◌}
use mathlib.Core.Logic.{◌⊎◌, inl, inr, ⊎_elim}
use Prim.Native.Nat.{ℕ, ◌+◌, ◌-◌, ◌≤◌, ◌<◌}
use native.Mathlib.Omega.{arith}
use lib.Dec.{ltb}
use lib.ListN.{length, take, drop, get_or, length-drop, get_or-append}
use lib.Seq.{length-take-le, get_or-take, get_or-drop, get_or-append-add}
use borrow.Author.Tests.{ltb-true, ltb-false}
use borrow.Rule.Slice.PartMut.{put_mid}

-- one number is below another, or not
pub below_or : (a b : ℕ) → (a < b) ⊎ (b ≤ a)
below_or a b = go (ltb a b) refl
  where
    go : (t : Bool) → ltb a b ≡ t → (a < b) ⊎ (b ≤ a)
    go true e = inl (ltb-true a b e)
    go false e = inr (ltb-false a b e)

module _ {A : Type 0} (a k : ℕ) (xs : List A) where
  pub length_part : a + k ≤ length xs → length (take k (drop a xs)) ≡ k
  length_part h = length-take-le k (drop a xs) (simp length-drop (omega arith))

  module _ (ys : List A) (d : A) where
    front : a ≤ length xs → length (take a xs) ≡ a
    front h = length-take-le a xs h

    pub put_in : (j : ℕ) → a ≤ length xs → j < length ys → get_or (put_mid a k xs ys) (a + j) d ≡ get_or ys j d
    put_in j h b =
        ap (λ (n : ℕ). get_or (put_mid a k xs ys) (n + j) d) (sym (front h))
        ∙ get_or-append-add (take a xs) (ys ++ drop k (drop a xs)) j d
        ∙ get_or-append ys (drop k (drop a xs)) d j b

    before : (p : ℕ) → a ≤ length xs → p < a → get_or (put_mid a k xs ys) p d ≡ get_or xs p d
    before p h b =
        let e : length (take a xs) ≡ a = front h in
        get_or-append (take a xs) (ys ++ drop k (drop a xs)) d p (omega arith) ∙ get_or-take a xs p d b

    after : (q : ℕ) → a ≤ length xs → length ys ≡ k → get_or (put_mid a k xs ys) (a + (k + q)) d ≡ get_or xs (a + (k + q)) d
    after q h e =
        ap (λ (n : ℕ). get_or (put_mid a k xs ys) (n + (k + q)) d) (sym (front h))
        ∙ get_or-append-add (take a xs) (ys ++ drop k (drop a xs)) (k + q) d
        ∙ ap (λ (n : ℕ). get_or (ys ++ drop k (drop a xs)) (n + q) d) (sym e)
        ∙ get_or-append-add ys (drop k (drop a xs)) q d
        ∙ get_or-drop k (drop a xs) q d
        ∙ get_or-drop a xs (k + q) d

    pub put_out : (p : ℕ) → a + k ≤ length xs → length ys ≡ k → (a ≤ p → p < a + k → ⊥) → get_or (put_mid a k xs ys) p d ≡ get_or xs p d
    put_out p h e n =
        ⊎_elim (λ b. before p (omega arith) b)
        (λ b. ⊎_elim (λ b'. absurd (n b b'))
        (λ b'.
        let s : p ≡ a + (k + (p - (a + k))) = omega arith in
        ap (λ (q : ℕ). get_or (put_mid a k xs ys) q d) s ∙ after (p - (a + k)) (omega arith) e ∙ ap (λ (q : ℕ). get_or xs q d) (sym s))
        (below_or p (a + k)))
        (below_or p a)
