-- Laws of `tabulate`, and of elements by place.
use mathlib.Core.Path.{◌≡◌, refl, sym, ap, ◌∙◌}
use mathlib.Core.List.{List, [], ◌∷◌, map}
use Prim.Native.Nat.{ℕ, zero, suc, ◌+◌, ◌<◌}
use native.Mathlib.Nat.{le_of_suc-le-suc, not-suc-le-zero}
use native.Mathlib.Omega.{arith}
use lib.ListN.{length, get_or, set}
use lib.Seq.{ext_get_or, get_or-set_same, get_or-set_other}
use borrow.Author.Count.{below_more}
use Rattle.answer.specs.Lists.{tabulate}

pub length_tabulate : {A : Type 0} (n : ℕ) (f : ℕ → A) → length (tabulate n f) ≡ n
unfolding tabulate
length_tabulate zero f = refl
length_tabulate (suc n) f = ap suc (length_tabulate n (λ k. f (suc k)))

pub get_d_tabulate : {A : Type 0} (n : ℕ) (f : ℕ → A) (k : ℕ) (d : A) → k < n → get_or (tabulate n f) k d ≡ f k
unfolding tabulate
get_d_tabulate zero f k d h = absurd (not-suc-le-zero h)
get_d_tabulate (suc n) f zero d h = refl
get_d_tabulate (suc n) f (suc k) d h = get_d_tabulate n (λ j. f (suc j)) k d (le_of_suc-le-suc h)

-- two lists by place are equal if they agree at every place
pub tabulate_ext : {A : Type 0} (n : ℕ) (f g : ℕ → A) → ((k : ℕ) → k < n → f k ≡ g k) → tabulate n f ≡ tabulate n g
unfolding tabulate
tabulate_ext zero f g e = refl
tabulate_ext (suc n) f g e = ap (λ x. x ∷ tabulate n (λ k. f (suc k))) (e zero (omega arith)) ∙ ap (λ xs. g zero ∷ xs) (tabulate_ext n (λ k. f (suc k)) (λ k. g (suc k)) (λ k h. e (suc k) (omega arith)))

-- a list is the list of its elements by place
pub is_tabulate : {A : Type 0} (l : List A) (n : ℕ) (f : ℕ → A) (d : A) → length l ≡ n → ((k : ℕ) → k < n → get_or l k d ≡ f k) → l ≡ tabulate n f
is_tabulate l n f d e h =
    ext_get_or d l (tabulate n f) (e ∙ sym (length_tabulate n f))
    (λ k b. let b' : k < n = omega arith in h k b' ∙ sym (get_d_tabulate n f k d b'))

-- a list that has f at each place below k has it at place k too once that is stored
pub stored_more :
    {A : Type 0} (d : A) (f : ℕ → A) (l : List A) (k : ℕ) (v : A) → ((j : ℕ) → j < k → get_or l j d ≡ f j) → k < length l → v ≡ f k
    → (j : ℕ) → j < k + 1 → get_or (set l k v) j d ≡ f j
stored_more d f l k v p h e = below_more _ _ (λ j i. get_or-set_other l k j v d (λ z. omega arith) ∙ p j i) (get_or-set_same l k v d h ∙ e)

pub map_tabulate : {A B : Type 0} (h : A → B) (n : ℕ) (f : ℕ → A) → map h (tabulate n f) ≡ tabulate n (λ k. h (f k))
unfolding tabulate
map_tabulate h zero f = refl
map_tabulate h (suc n) f = ap (λ l. h (f 0) ∷ l) (map_tabulate h n (λ k. f (suc k)))

-- inside a list the default is nothing
pub get_d_inside : {A : Type 0} (l : List A) (k : ℕ) (d e : A) → k < length l → get_or l k d ≡ get_or l k e
get_d_inside [] k d e h = absurd (omega arith)
get_d_inside (x ∷ l) zero d e h = refl
get_d_inside (x ∷ l) (suc k) d e h = get_d_inside l k d e (omega arith)
