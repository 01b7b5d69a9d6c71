-- Lists that are compared with words.
use Rattle.std.proofs.Common.{◌≡◌, ℕ, suc, false, ◌&&◌, eqb, List, [], ◌∷◌, length, refl, sym, ap, arith, zip}
use Rattle.std.specs.List.{list_all}
use Rattle.std.proofs.lemmas.Bool.{and_right}
use Rattle.stored_list.specs.Buffers.{same_words}

module _ {A : Type 0} (word : A → ℕ) (of : ℕ → ℕ) where
  -- the elements beside the words of another list of their length
  pub same_pairs : (xs : List A) (ws : List ℕ) → length xs ≡ length ws → list_all (λ (p : A × ℕ). eqb (word p.0) (of p.1)) (zip xs ws) ≡ same_words word of xs ws
  unfolding same_words
  same_pairs [] [] l = refl
  same_pairs [] (w ∷ ws) l = absurd (omega (arith, l))
  same_pairs (x ∷ xs) [] l = absurd (omega (arith, l))
  same_pairs (x ∷ xs) (w ∷ ws) l = ap (λ b. eqb (word x) (of w) && b) (same_pairs xs ws (omega (arith, l)))

  -- two lists of other lengths
  pub same_lengths : (xs : List A) (ws : List ℕ) → (length xs ≡ length ws → ⊥) → false ≡ same_words word of xs ws
  unfolding same_words
  same_lengths [] [] n = absurd (n refl)
  same_lengths [] (w ∷ ws) n = refl
  same_lengths (x ∷ xs) [] n = refl
  same_lengths (x ∷ xs) (w ∷ ws) n = sym (and_right (eqb (word x) (of w)) (same_words word of xs ws) (sym (same_lengths xs ws (λ e. n (ap suc e)))))
