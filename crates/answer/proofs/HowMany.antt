-- How many places pass a test.
use mathlib.Core.Path.{◌≡◌, refl, ap, ◌∙◌}
use mathlib.Core.Bool.{Bool, true, false, cond}
use Prim.Native.Nat.{ℕ, zero, suc, ◌+◌, ◌<◌, ◌≤◌}
use native.Mathlib.Nat.{add-zero, add-suc}
use native.Mathlib.Omega.{arith}
use Rattle.answer.specs.Lists.{how_many}

bit_most : (b : Bool) → cond b 1 0 ≤ 1
bit_most true = omega arith
bit_most false = omega arith

pub many_most : (n : ℕ) (test : ℕ → Bool) → how_many n test ≤ n
unfolding how_many
many_most zero test = omega arith
many_most (suc n) test = let r = many_most n test in let b = bit_most (test n) in omega arith

pub many_add : (a b : ℕ) (test : ℕ → Bool) → how_many (a + b) test ≡ how_many a test + how_many b (λ k. test (a + k))
unfolding how_many
many_add a zero test = ap (λ (n : ℕ). how_many n test) (add-zero a) ∙ omega arith
many_add a (suc b) test = ap (λ (n : ℕ). how_many n test) (add-suc a b) ∙ (let r = many_add a b test in omega arith)

-- tests that agree at every place count alike
pub many_ext : (n : ℕ) (f g : ℕ → Bool) → ((k : ℕ) → k < n → f k ≡ g k) → how_many n f ≡ how_many n g
unfolding how_many
many_ext zero f g e = refl
many_ext (suc n) f g e =
    ap (λ (x : ℕ). x + cond (f n) 1 0) (many_ext n f g (λ k h. e k (omega arith))) ∙ ap (λ (b : Bool). how_many n g + cond b 1 0) (e n (omega arith))
