-- Four values more at once.
use mathlib.Core.Path.{◌≡◌, refl, sym, ap, ◌∙◌}
use mathlib.Core.Bool.{false}
use Prim.Native.Nat.{ℕ, ◌+◌}
use native.Mathlib.Omega.{arith}
use lib.Ieee.{Float, Format, add, mul, is_nan}
use Rattle.statistics.specs.declared.Accumulator.{Accumulator}
use Rattle.statistics.specs.Statistics.{one, counted, accumulated}
use Rattle.statistics.proofs.CountLaws.{accumulated_more}
use Rattle.statistics.proofs.FloatLaws.{number_counted}
use Rattle.standardise.specs.Private.{counted_four, Accumulates}

-- one after the other
pub each_counted :
    (f : Format) (a a1 a2 a3 r : Accumulator) (v0 v1 v2 v3 : Float)
    → a1 ≡ counted f a v0 → a2 ≡ counted f a1 v1 → a3 ≡ counted f a2 v2 → r ≡ counted f a3 v3 → r ≡ counted_four f a v0 v1 v2 v3
unfolding counted_four
each_counted f a a1 a2 a3 r v0 v1 v2 v3 e1 e2 e3 e4 =
    e4
    ∙ ap (λ (x : Accumulator). counted f x v3) (e3 ∙ ap (λ (x : Accumulator). counted f x v2) (e2 ∙ ap (λ (x : Accumulator). counted f x v1) e1))

abbrev more : Format → Accumulator → Float → Accumulator
more f a v = record { count = add f a.count one; sum = add f a.sum v; squares = add f a.squares (mul f v v) }

-- four numbers
pub four_counted :
    (f : Format) (a : Accumulator) (v0 v1 v2 v3 : Float) → is_nan v0 ≡ false → is_nan v1 ≡ false → is_nan v2 ≡ false → is_nan v3 ≡ false
    → more f (more f (more f (more f a v0) v1) v2) v3 ≡ counted_four f a v0 v1 v2 v3
four_counted f a v0 v1 v2 v3 n0 n1 n2 n3 =
    each_counted f a (more f a v0) (more f (more f a v0) v1) (more f (more f (more f a v0) v1) v2) (more f (more f (more f (more f a v0) v1) v2) v3) v0 v1 v2 v3
    (number_counted f a v0 n0) (number_counted f (more f a v0) v1 n1) (number_counted f (more f (more f a v0) v1) v2 n2)
    (number_counted f (more f (more f (more f a v0) v1) v2) v3 n3)

-- the values of four animals more
pub accumulated_four :
    (f : Format) (column : ℕ → Float) (n : ℕ) {a b : Accumulator}
    → b ≡ counted_four f a (column n) (column (n + 1)) (column (n + 2)) (column (n + 3)) → a ≡ accumulated f column n → b ≡ accumulated f column (n + 4)
unfolding counted_four
accumulated_four f column n {a} {b} e s =
    let e1 = accumulated_more f column n {a = a} {b = counted f a (column n)} refl s in
    let k2 : n + 1 + 1 ≡ n + 2 = omega arith in
    let k3 : n + 2 + 1 ≡ n + 3 = omega arith in
    let k4 : n + 3 + 1 ≡ n + 4 = omega arith in
    let e2 = accumulated_more f column (n + 1) {a = counted f a (column n)} {b = counted f (counted f a (column n)) (column (n + 1))} refl e1 ∙ ap (accumulated f column) k2 in
    let e3 = accumulated_more f column (n + 2) {a = counted f (counted f a (column n)) (column (n + 1))} {b = counted f (counted f (counted f a (column n)) (column (n + 1))) (column (n + 2))} refl e2 ∙ ap (accumulated f column) k3 in
    accumulated_more f column (n + 3) e e3 ∙ ap (accumulated f column) k4

-- one value more, and four numbers more, of any column
module _ (f : Format) (a : Accumulator) (i : ℕ) (v0 v1 v2 v3 : Float) where
  pub one_passed :
      (b : Accumulator) (j : ℕ) → j ≡ i + 1 → b ≡ counted f a v0 → Accumulates f a i v0 v1 v2 v3 b j
  one_passed b j k e =
      (omega arith, omega arith, λ column e0 e1 e2 e3 s. accumulated_more f column i (e ∙ ap (counted f a) e0) s ∙ ap (accumulated f column) (sym k))

  pub four_passed :
      is_nan v0 ≡ false → is_nan v1 ≡ false → is_nan v2 ≡ false → is_nan v3 ≡ false
      → Accumulates f a i v0 v1 v2 v3 (more f (more f (more f (more f a v0) v1) v2) v3) (i + 4)
  four_passed n0 n1 n2 n3 = (
    omega arith,
    omega arith,
    λ column e0 e1 e2 e3 s.
        accumulated_four f column i {a = a} {b = more f (more f (more f (more f a v0) v1) v2) v3}
        (four_counted f a v0 v1 v2 v3 n0 n1 n2 n3
        ∙ ap (λ (x : Float). counted_four f a x v1 v2 v3) e0
        ∙ ap (λ (x : Float). counted_four f a (column i) x v2 v3) e1
        ∙ ap (λ (x : Float). counted_four f a (column i) (column (i + 1)) x v3) e2
        ∙ ap (λ (x : Float). counted_four f a (column i) (column (i + 1)) (column (i + 2)) x) e3)
        s,
  )
