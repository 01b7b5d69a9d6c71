-- Laws of tests: two tests that follow from each other are one.
use mathlib.Core.Path.{◌≡◌, refl, sym, subst}
use mathlib.Core.Bool.{Bool, true, false, ◌&&◌}
use Prim.Native.Nat.{ℕ, ◌≤◌, ◌<◌}
use lib.Dec.{T, leb, ltb, eqb, leb→le, le→leb, eqb→eq}
use borrow.Author.Tests.{eq-eqb, ltb-true, ltb-false}

pub same_test : (s t : Bool) → (T s → T t) → (T t → T s) → s ≡ t
same_test true true f g = refl
same_test true false f g = absurd (f tt)
same_test false true f g = absurd (g tt)
same_test false false f g = refl

eq→eqb : (a b : ℕ) → a ≡ b → T (eqb a b)
eq→eqb a b e = subst T (sym (eq-eqb a b e)) tt

pub eqb_both : (a b c d : ℕ) → (a ≡ b → c ≡ d) → (c ≡ d → a ≡ b) → eqb a b ≡ eqb c d
eqb_both a b c d f g = same_test (eqb a b) (eqb c d) (λ t. eq→eqb c d (f (eqb→eq a b t))) (λ t. eq→eqb a b (g (eqb→eq c d t)))

pub leb_both : (a b c d : ℕ) → (a ≤ b → c ≤ d) → (c ≤ d → a ≤ b) → leb a b ≡ leb c d
leb_both a b c d f g = same_test (leb a b) (leb c d) (λ t. le→leb c d (f (leb→le a b t))) (λ t. le→leb a b (g (leb→le c d t)))

pub both_true : (a b : Bool) → a && b ≡ true → (a ≡ true) × (b ≡ true)
both_true true b e = (refl, e)
both_true false b e = absurd (subst T (sym e) tt)

-- by the cases of a test, and of an order
pub by_test : {A : Type 0} (b : Bool) → (b ≡ true → A) → (b ≡ false → A) → A
by_test true f g = f refl
by_test false f g = g refl

pub by_lt : {A : Type 0} (m n : ℕ) → (m < n → A) → (n ≤ m → A) → A
by_lt m n f g = by_test (ltb m n) (λ t. f (ltb-true m n t)) (λ t. g (ltb-false m n t))
