-- Laws of matrices by place.
use mathlib.Core.Path.{◌≡◌, ap, subst, ◌∙◌}
use mathlib.Core.Bool.{Bool, true, false}
use mathlib.Core.List.{map}
use Prim.Native.Nat.{ℕ, zero, suc, ◌+◌, ◌*◌, ◌/◌, ◌%◌, ◌<◌}
use native.Mathlib.Nat.{div-lt_iff_lt-mul, mod-lt, mul_comm, mul-zero}
use native.Mathlib.Omega.{arith}
use lib.Arith.{digits_lt, digits_div, digits_mod}
use lib.ListN.{length, get_or}
use Rattle.answer.specs.Matrix.{matrix_place, matrix}
use Rattle.answer.proofs.Tabulate.{length_tabulate, get_d_tabulate, tabulate_ext, map_tabulate}

pub length_matrix : {A : Type 0} (order : Bool) (iids sids : ℕ) (f : ℕ → ℕ → A) → length (matrix order iids sids f) ≡ iids * sids
unfolding matrix
length_matrix true iids sids f = length_tabulate (iids * sids) (λ p. f (p / sids) (p % sids))
length_matrix false iids sids f = length_tabulate (iids * sids) (λ p. f (p % iids) (p / iids))

module _ (iids sids i m : ℕ) (hi : i < iids) (hm : m < sids) where
  -- the place of an animal and a marker is inside
  pub place_below : (order : Bool) → matrix_place order iids sids i m < iids * sids
  unfolding matrix_place
  place_below true = digits_lt hi hm
  place_below false = let c : sids * iids ≡ iids * sids = mul_comm sids iids in let d : m * iids + i < sids * iids = digits_lt hm hi in omega arith

  -- and holds what the matrix has for them
  pub get_d_matrix : {A : Type 0} (order : Bool) (f : ℕ → ℕ → A) (d : A) → get_or (matrix order iids sids f) (matrix_place order iids sids i m) d ≡ f i m
  unfolding matrix matrix_place
  get_d_matrix true f d =
      get_d_tabulate (iids * sids) (λ p. f (p / sids) (p % sids)) (i * sids + m) d (place_below true)
      ∙ ap (λ (k : ℕ). f k ((i * sids + m) % sids)) (digits_div i hm)
      ∙ ap (f i) (digits_mod i hm)
  get_d_matrix false f d =
      get_d_tabulate (iids * sids) (λ p. f (p % iids) (p / iids)) (m * iids + i) d (place_below false)
      ∙ ap (λ (k : ℕ). f k ((m * iids + i) / iids)) (digits_mod m hi)
      ∙ ap (f i) (digits_div m hi)

-- ---- matrices that agree in every cell, and a map over one
module _ (n s p : ℕ) (h : p < n * s) where
  row_below : p / s < n
  row_below = go s h
    where
      go : (s : ℕ) → p < n * s → p / s < n
      go zero h = absurd (let z : n * 0 ≡ 0 = mul-zero n in omega arith)
      go (suc s) h = let z : 0 < suc s = omega arith in (div-lt_iff_lt-mul z).1 h

  column_below : p % s < s
  column_below = go s h
    where
      go : (s : ℕ) → p < n * s → p % s < s
      go zero h = absurd (let z : n * 0 ≡ 0 = mul-zero n in omega arith)
      go (suc s) h = mod-lt p (omega arith)

pub matrix_ext : {A : Type 0} (order : Bool) (n s : ℕ) (g h : ℕ → ℕ → A) → ((k m : ℕ) → k < n → m < s → g k m ≡ h k m) → matrix order n s g ≡ matrix order n s h
unfolding matrix
matrix_ext true n s g h e = tabulate_ext (n * s) (λ p. g (p / s) (p % s)) (λ p. h (p / s) (p % s)) (λ p l. e (p / s) (p % s) (row_below n s p l) (column_below n s p l))
matrix_ext false n s g h e =
    tabulate_ext (n * s) (λ p. g (p % n) (p / n)) (λ p. h (p % n) (p / n))
    (λ p l. let c : p < s * n = subst (λ (x : ℕ). p < x) (mul_comm n s) l in e (p % n) (p / n) (column_below s n p c) (row_below s n p c))

pub map_matrix : {A B : Type 0} (v : A → B) (order : Bool) (n s : ℕ) (g : ℕ → ℕ → A) → map v (matrix order n s g) ≡ matrix order n s (λ k m. v (g k m))
unfolding matrix
map_matrix v true n s g = map_tabulate v (n * s) (λ p. g (p / s) (p % s))
map_matrix v false n s g = map_tabulate v (n * s) (λ p. g (p % n) (p / n))
