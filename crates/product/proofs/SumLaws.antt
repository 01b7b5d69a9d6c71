-- Laws of sums of products: `dot`, and sums that grow by some terms at a time.
use mathlib.Core.Path.{◌≡◌, refl, sym, ap, ◌∙◌}
use mathlib.Core.Bool.{Bool, true, false, cond}
use mathlib.Core.List.{List, [], ◌∷◌}
use Prim.Native.Nat.{ℕ, zero, suc, ◌+◌, ◌*◌, ◌<◌}
use native.Mathlib.Nat.{add-zero, add-suc, mul_comm}
use native.Mathlib.Omega.{arith}
use lib.Dec.{eqb}
use lib.Ieee.{Float, nan, inf, fin, Format, up, down, unlike, round, add, mul}
use Rattle.answer.specs.Lists.{tabulate}
use Rattle.product.specs.Dot.{plus_zero, dot_from, dot}
use Rattle.product.specs.Private.{sum_more}

-- m terms on n terms are n + m terms
pub sum_add : (f : Format) (s : Float) (x y : ℕ → Float) (n m : ℕ) → sum_more f (sum_more f s x y n) (λ t. x (n + t)) (λ t. y (n + t)) m ≡ sum_more f s x y (n + m)
unfolding sum_more
sum_add f s x y n zero = ap (sum_more f s x y) (sym (add-zero n))
sum_add f s x y n (suc m) =
    ap (λ (z : Float). add f z (mul f (x (n + m)) (y (n + m)))) (sum_add f s x y n m)
    ∙ ap (sum_more f s x y) (sym (add-suc n m))

-- sums of the same terms are the same
pub sum_ext : (f : Format) (s : Float) (x y x' y' : ℕ → Float) (n : ℕ) → ((t : ℕ) → t < n → x t ≡ x' t) → ((t : ℕ) → t < n → y t ≡ y' t) → sum_more f s x y n ≡ sum_more f s x' y' n
unfolding sum_more
sum_ext f s x y x' y' zero p q = refl
sum_ext f s x y x' y' (suc n) p q =
    ap (λ (z : Float). add f z (mul f (x n) (y n))) (sum_ext f s x y x' y' n (λ t h. p t (omega arith)) (λ t h. q t (omega arith)))
    ∙ ap (λ (z : Float). add f (sum_more f s x' y' n) (mul f z (y n))) (p n (omega arith))
    ∙ ap (λ (z : Float). add f (sum_more f s x' y' n) (mul f (x' n) z)) (q n (omega arith))

-- one term, written out
pub one_term : (f : Format) (s : Float) (x y : ℕ → Float) (i : ℕ) → add f s (mul f (x i) (y i)) ≡ sum_more f s (λ t. x (i + t)) (λ t. y (i + t)) 1
unfolding sum_more
one_term f s x y i = ap (λ (k : ℕ). add f s (mul f (x k) (y k))) (sym (add-zero i))

-- one term more
pub term_more_law :
    (f : Format) (s total : Float) (x y : ℕ → Float) (i : ℕ) → total ≡ sum_more f s x y i → add f total (mul f (x i) (y i)) ≡ sum_more f s x y (i + 1)
term_more_law f s total x y i e =
    one_term f total x y i
    ∙ ap (λ (t : Float). sum_more f t (λ t. x (i + t)) (λ t. y (i + t)) 1) e
    ∙ sum_add f s x y i 1

-- `dot` of two lists by place is the sum of their products
first_term : (f : Format) (s : Float) (x y : ℕ → Float) (n : ℕ) → sum_more f (add f s (mul f (x 0) (y 0))) (λ t. x (suc t)) (λ t. y (suc t)) n ≡ sum_more f s x y (suc n)
unfolding sum_more
first_term f s x y zero = refl
first_term f s x y (suc n) = ap (λ (z : Float). add f z (mul f (x (suc n)) (y (suc n)))) (first_term f s x y n)

dot_from_law : (f : Format) (s : Float) (n : ℕ) (x y : ℕ → Float) → dot_from f s (tabulate n x) (tabulate n y) ≡ sum_more f s x y n
unfolding dot_from tabulate sum_more
dot_from_law f s zero x y = refl
dot_from_law f s (suc n) x y = dot_from_law f (add f s (mul f (x 0) (y 0))) n (λ t. x (suc t)) (λ t. y (suc t)) ∙ first_term f s x y n

pub dot_sum : (f : Format) (n : ℕ) (x y : ℕ → Float) → dot f (tabulate n x) (tabulate n y) ≡ sum_more f plus_zero x y n
unfolding dot
dot_sum f n x y = dot_from_law f plus_zero n x y

unlike_swap : (s t : Bool) → unlike s t ≡ unlike t s
unlike_swap true true = refl
unlike_swap true false = refl
unlike_swap false true = refl
unlike_swap false false = refl

-- a product does not depend on which factor stands first, and so `dot xs ys` is `dot ys xs`
pub mul_swap : (f : Format) (x y : Float) → mul f x y ≡ mul f y x
unfolding mul
mul_swap f nan nan = refl
mul_swap f nan (inf t) = refl
mul_swap f nan (fin t n d) = refl
mul_swap f (inf s) nan = refl
mul_swap f (inf s) (inf t) = ap inf (unlike_swap s t)
mul_swap f (inf s) (fin t n d) = ap (λ (b : Bool). cond (eqb n 0) nan (inf b)) (unlike_swap s t)
mul_swap f (fin s m e) nan = refl
mul_swap f (fin s m e) (inf t) = ap (λ (b : Bool). cond (eqb m 0) nan (inf b)) (unlike_swap s t)
mul_swap f (fin s m e) (fin t n d) =
    ap (λ (b : Bool). round f b (m * up e * (n * up d)) (down e * down d)) (unlike_swap s t)
    ∙ ap (λ (k : ℕ). round f (unlike t s) k (down e * down d)) (mul_comm (m * up e) (n * up d))
    ∙ ap (λ (k : ℕ). round f (unlike t s) (n * up d * (m * up e)) k) (mul_comm (down e) (down d))

dot_from_swap : (f : Format) (s : Float) (xs ys : List Float) → dot_from f s xs ys ≡ dot_from f s ys xs
unfolding dot_from
dot_from_swap f s [] [] = refl
dot_from_swap f s [] (y ∷ ys) = refl
dot_from_swap f s (x ∷ xs) [] = refl
dot_from_swap f s (x ∷ xs) (y ∷ ys) =
    ap (λ (z : Float). dot_from f (add f s z) xs ys) (mul_swap f x y) ∙ dot_from_swap f (add f s (mul f y x)) xs ys

pub dot_swap : (f : Format) (xs ys : List Float) → dot f xs ys ≡ dot f ys xs
unfolding dot
dot_swap f xs ys = dot_from_swap f plus_zero xs ys
