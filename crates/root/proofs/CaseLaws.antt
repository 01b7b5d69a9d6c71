-- Which case of the root each of the code's tests leaves. Over the format. Assumes nothing.
use mathlib.Core.Path.{◌≡◌, refl, sym, ap, ◌∙◌, subst}
use Prim.Native.Nat.{ℕ, zero, suc, ◌+◌, ◌*◌, ◌≤◌, ◌<◌}
use native.Mathlib.Nat.{not-le_of_lt, zero-lt-suc, mul-pos}
use native.Mathlib.Omega.{arith}
use mathlib.Core.Bool.{Bool, true, false, not, ◌&&◌, ◌||◌, beq, true≢false}
use lib.Dec.{T, ltb, eqb, eqb→eq, ltb→lt, lt→ltb}
use lib.Ieee.{Float, nan, inf, fin, Format, up, down, hid, ones, to_bits, fits, nan_bits, eq, lt}
use lib.Ieee.Fits.{up_pos, and_l}
use lib.Ieee.Bits.{is_true, nan_bits_is}
use lib.Ieee.Positive.{positive}
use Rattle.root.specs.Root.{root}
use Rattle.root.proofs.PatternLaws.{pattern_of, number_at}
use Rattle.root.proofs.Roots.{zero_value}

wrong : {X : Type 0} (b : Bool) → b ≡ true → b ≡ false → X
wrong b p q = absurd (true≢false (sym p ∙ q))

is_T : (b : Bool) → b ≡ true → T b
is_T b e = subst T (sym e) tt

some : (m u : ℕ) → 0 < u → suc m * u * 1 ≡ 0 → ⊥
some m u p e = omega (arith, mul-pos (zero-lt-suc m) p)

none : (a b : ℕ) → 0 * a * b ≡ 0
none a b = omega arith

-- what equals zero is a zero, and its own root
pub equals_zero : (f : Format) (v : Float) → eq v zero_value ≡ true → v ≡ root f v
unfolding eq root
equals_zero f nan e = absurd (true≢false (sym e))
equals_zero f (inf s) e = absurd (true≢false (sym e))
equals_zero f (fin s zero d) e = refl
equals_zero f (fin s (suc m) d) e =
    absurd (some m (up d) (up_pos d) (eqb→eq (suc m * up d * 1) (0 * 1 * down d) (and_l (eqb (suc m * up d * 1) (0 * 1 * down d)) (beq s false || eqb (suc m * up d * 1) 0) (is_T (eq (fin s (suc m) d) zero_value) e)) ∙ none 1 (down d)))

-- what is above zero, with a pattern below the infinity's, is positive and finite
pub above_positive : (f : Format) (v : Float) → lt zero_value v ≡ true → to_bits f v < ones f * hid f → T (positive v)
unfolding lt to_bits
above_positive f nan e u = absurd (true≢false (sym e))
above_positive f (inf true) e u = absurd (true≢false (sym e))
above_positive f (inf false) e u = absurd (no (ones f * hid f) u)
  where
    no : (x : ℕ) → 0 + x < x → ⊥
    no x l = omega arith
above_positive f (fin true m d) e u = absurd (true≢false (sym e))
above_positive f (fin false zero d) e u = absurd (no (0 * 1 * down d) (0 * up d * 1) (none 1 (down d)) (none (up d) 1) (ltb→lt (0 * 1 * down d) (0 * up d * 1) (is_T (lt zero_value (fin false zero d)) e)))
  where
    no : (x y : ℕ) → x ≡ 0 → y ≡ 0 → x < y → ⊥
    no x y a b l = omega arith
above_positive f (fin false (suc m) d) e u = lt→ltb 0 (suc m) (zero-lt-suc m)

-- above zero, with a pattern not below the infinity's, stands only +infinity
pub above_all : (f : Format) (v : Float) → T (fits f v) → lt zero_value v ≡ true → ones f * hid f ≤ to_bits f v → v ≡ root f v
unfolding lt root
above_all f nan F e u = absurd (true≢false (sym e))
above_all f (inf true) F e u = absurd (true≢false (sym e))
above_all f (inf false) F e u = refl
above_all f (fin true m d) F e u = absurd (true≢false (sym e))
above_all f (fin false m d) F e u = absurd (not-le_of_lt (pattern_of f (fin false m d) F tt).below u)

zero_equals : (a b : ℕ) (t : Bool) → a ≡ 0 → b ≡ 0 → (eqb a b && (t || eqb a 0)) ≡ true
zero_equals a b t p q = ap (λ (x : ℕ). eqb x b && (t || eqb x 0)) p ∙ ap (λ (x : ℕ). eqb 0 x && (t || eqb 0 0)) q ∙ either t
  where
    either : (t : Bool) → (t || true) ≡ true
    either true = refl
    either false = refl

-- what is neither zero nor above it is below zero, or a NaN
pub neither : (f : Format) (v : Float) → eq v zero_value ≡ false → lt zero_value v ≡ false → nan ≡ root f v
unfolding eq lt root
neither f nan z e = refl
neither f (inf true) z e = refl
neither f (inf false) z e = absurd (true≢false e)
neither f (fin s zero d) z e = wrong (eq (fin s zero d) zero_value) (zero_equals (0 * up d * 1) (0 * 1 * down d) (beq s false) (none (up d) 1) (none 1 (down d))) z
neither f (fin true (suc m) d) z e = refl
neither f (fin false (suc m) d) z e =
    wrong (lt zero_value (fin false (suc m) d))
    (is_true (ltb (0 * 1 * down d) (suc m * up d * 1)) (lt→ltb (0 * 1 * down d) (suc m * up d * 1) (omega (arith, none 1 (down d), mul-pos (zero-lt-suc m) (up_pos d))))) e

-- the bit pattern that comes back is no NaN's
pub below_number : (f : Format) (K : ℕ) → K < ones f * hid f → T (not (nan_bits f K))
below_number f K u = subst (λ (b : Bool). T (not b)) (sym (nan_bits_is f K)) (number_at f K u)
