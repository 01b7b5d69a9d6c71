-- The root of a whole number, digit by digit and by division, over any base. On plain numbers. Assumes nothing.
use mathlib.Core.Path.{◌≡◌, sym, ap, ◌∙◌, subst}
use mathlib.Core.Logic.{inl, inr}
use Prim.Native.Nat.{ℕ, zero, suc, ◌+◌, ◌-◌, ◌*◌, ◌/◌, ◌%◌, ◌^◌, ◌≤◌, ◌<◌}
use native.Mathlib.Nat.{le_trans, mul-le-mul, mul-le-mul_left, mul-le-mul_right, div-add-mod', mod-lt, div-div-eq-div-mul, div-lt_iff_lt-mul, mul-pos, lt_irrefl}
use native.Mathlib.Numerals.{add-one}
use native.Mathlib.Omega.{arith}
use lib.Pow.{pow-add}
use Rattle.root.specs.Private.{IsWholeRoot}
use Rattle.root.proofs.PatternLaws.{here_or_on}

-- ---- how large a root is
pub root_under : (n s r b : ℕ) → IsWholeRoot n s r → n < b * b → s < b
root_under n s r b w h = elim (here_or_on s b) [ inl l ↦ l | inr l ↦ absurd (no (mul-le-mul l l)) ]
  where
    no : b * b ≤ s * s → ⊥
    no m = omega (arith, w.sum)

pub root_over : (n s r b : ℕ) → IsWholeRoot n s r → b * b ≤ n → b ≤ s
root_over n s r b w h = elim (here_or_on s b) [ inl l ↦ absurd (no l (mul-le-mul l l)) | inr l ↦ l ]
  where
    no : s < b → suc s * suc s ≤ b * b → ⊥
    no l m = omega (arith, w.sum, w.small)

-- ---- one division: the root s of a number, with the rest r, made longer by the digits hi and lo to the base b
module _ (s r hi lo b : ℕ) (small : r ≤ 2 * s) (base : b ≤ 2 * s) (high : hi < b) (low : lo < b) where
  twice_pos : 0 < s * 2
  twice_pos = omega arith

  pub quotient_le : (r * b + hi) / (s * 2) ≤ b
  quotient_le =
      let m : r * b ≤ 2 * s * b = mul-le-mul_right b small in
      le_of_suc ((div-lt_iff_lt-mul twice_pos).1 (bound m))
    where
      bound : r * b ≤ 2 * s * b → r * b + hi < suc b * (s * 2)
      bound m = omega arith

      le_of_suc : {a c : ℕ} → a < suc c → a ≤ c
      le_of_suc l = omega arith

  pub over_lt : (r * b + hi) % (s * 2) * b + lo < s * 2 * b
  over_lt = carry ((r * b + hi) % (s * 2)) (s * 2) (mod-lt (r * b + hi) twice_pos)
    where
      carry : (u t : ℕ) → u < t → u * b + lo < t * b
      carry u t l = omega (arith, mul-le-mul_right b l)

  longer : (q u : ℕ) → q * (s * 2) + u ≡ r * b + hi → (s * s + r) * (b * b) + hi * b + lo + q * q ≡ (s * b + q) * (s * b + q) + (u * b + lo)
  longer q u e =
      let m : (q * (s * 2) + u) * b ≡ (r * b + hi) * b = ap (λ (z : ℕ). z * b) e in
      omega (arith, m)

  root_pos : 0 < s * b
  root_pos = mul-pos (omega arith) (omega arith)

  square_le : (r * b + hi) / (s * 2) * ((r * b + hi) / (s * 2)) ≤ s * b * 2
  square_le = le_trans (mul-le-mul quotient_le quotient_le) (omega (arith, mul-le-mul_right b base))

  pub square_lt : (r * b + hi) % (s * 2) * b + lo < (r * b + hi) / (s * 2) * ((r * b + hi) / (s * 2))
      → (r * b + hi) / (s * 2) * ((r * b + hi) / (s * 2)) < (s * b + (r * b + hi) / (s * 2)) * 2
  square_lt l = some ((r * b + hi) / (s * 2)) ((r * b + hi) % (s * 2) * b + lo) l square_le
    where
      some : (q o : ℕ) → o < q * q → q * q ≤ s * b * 2 → q * q < (s * b + q) * 2
      some zero o l a = omega arith
      some (suc q) o l a = omega arith

  -- where the quotient is too large, its square leaves less than nothing, and the root is one less
  pub one_less : (r * b + hi) % (s * 2) * b + lo < (r * b + hi) / (s * 2) * ((r * b + hi) / (s * 2))
      → IsWholeRoot ((s * s + r) * (b * b) + hi * b + lo) (s * b + (r * b + hi) / (s * 2) - 1)
      ((r * b + hi) % (s * 2) * b + lo + (s * b + (r * b + hi) / (s * 2) - 1) + (s * b + (r * b + hi) / (s * 2)) - (r * b + hi) / (s * 2) * ((r * b + hi) / (s * 2)))
  one_less l =
      let q = (r * b + hi) / (s * 2) in
      let u = (r * b + hi) % (s * 2) in
      less ((s * s + r) * (b * b) + hi * b + lo) (s * b + q) (u * b + lo) (q * q) (omega (arith, root_pos)) (square_lt l) l (longer q u (div-add-mod' (r * b + hi) (s * 2)))
    where
      one_off : (t : ℕ) → suc t - 1 ≡ t
      one_off t = omega arith

      square_suc : (t : ℕ) → suc t * suc t ≡ t * t + 2 * t + 1
      square_suc t = ap (λ (z : ℕ). z * z) (sym (add-one t)) ∙ expand t
        where
          expand : (t : ℕ) → (t + 1) * (t + 1) ≡ t * t + 2 * t + 1
          expand t = omega arith

      less : (n t o w : ℕ) → 0 < t → w < t * 2 → o < w → n + w ≡ t * t + o → IsWholeRoot n (t - 1) (o + (t - 1) + t - w)
      less n zero o w p a l e = absurd (lt_irrefl 0 p)
      less n (suc t) o w p a l e = subst (λ (z : ℕ). IsWholeRoot n z (o + z + suc t - w)) (sym (one_off t)) (record { sum = omega (arith, square_suc t); small = omega arith })

  pub as_it_is : (r * b + hi) / (s * 2) * ((r * b + hi) / (s * 2)) ≤ (r * b + hi) % (s * 2) * b + lo
      → IsWholeRoot ((s * s + r) * (b * b) + hi * b + lo) (s * b + (r * b + hi) / (s * 2))
      ((r * b + hi) % (s * 2) * b + lo - (r * b + hi) / (s * 2) * ((r * b + hi) / (s * 2)))
  as_it_is l =
      let q = (r * b + hi) / (s * 2) in
      let u = (r * b + hi) % (s * 2) in
      keep ((s * s + r) * (b * b) + hi * b + lo) (s * b + q) (u * b + lo) (q * q) l (omega (arith, over_lt)) (longer q u (div-add-mod' (r * b + hi) (s * 2)))
    where
      keep : (n t o w : ℕ) → w ≤ o → o ≤ t * 2 → n + w ≡ t * t + o → IsWholeRoot n t (o - w)
      keep n t o w l a e = record { sum = omega arith; small = omega arith }

-- with s below 2 ^ 27 and b at most 2 ^ 27 every step fits a u64
pub record Room (s r hi lo b : ℕ) : Type 0 where
  pub part : r * b + hi < 72057594037927936
  pub square : (r * b + hi) / (s * 2) * ((r * b + hi) / (s * 2)) ≤ 18014398509481984
  pub over : (r * b + hi) % (s * 2) * b + lo < 36028797018963968
  pub root : s * b + (r * b + hi) / (s * 2) ≤ 18014398509481984
  pub some : 0 < s * b
  pub enough : (r * b + hi) / (s * 2) * ((r * b + hi) / (s * 2)) ≤ s * b * 2

pub room : (s r hi lo b : ℕ) → (r ≤ 2 * s) × (s < 134217728) × (b ≤ 2 * s) × (b ≤ 134217728) × (hi < b) × (lo < b) → Room s r hi lo b
room s r hi lo b (small, under, base, most, high, low) =
    let q = (r * b + hi) / (s * 2) in
    let quotient : q ≤ b = quotient_le s r hi lo b small base high low in
    let short : q ≤ 134217728 = le_trans quotient most in
    let rest : r * b ≤ 2 * s * 134217728 = mul-le-mul small most in
    let twice : s * 2 * b ≤ s * 2 * 134217728 = mul-le-mul_left (s * 2) most in
    record {
      part = omega arith;
      square = mul-le-mul short short;
      over = omega (arith, over_lt s r hi lo b small base high low);
      root = omega arith;
      some = root_pos s r hi lo b small base high low;
      enough = square_le s r hi lo b small base high low;
    }

-- ---- two binary digits on
pub two_on : (n l : ℕ) → 4 * (n / 2 ^ (suc l * 2)) + n / 2 ^ (l * 2) % 4 ≡ n / 2 ^ (l * 2)
two_on n l = ap (λ (z : ℕ). 4 * z + n / 2 ^ (l * 2) % 4) (ap (λ (z : ℕ). n / z) (power l) ∙ sym (div-div-eq-div-mul n (2 ^ (l * 2)) 4)) ∙ whole (n / 2 ^ (l * 2))
  where
    power : (l : ℕ) → 2 ^ (suc l * 2) ≡ 2 ^ (l * 2) * 4
    power l = ap (λ (z : ℕ). 2 ^ z) (more l) ∙ pow-add 2 (l * 2) 2
      where
        more : (l : ℕ) → suc l * 2 ≡ l * 2 + 2
        more l = omega arith

    whole : (x : ℕ) → 4 * (x / 4) + x % 4 ≡ x
    whole x = omega arith

-- ---- the loop over seven pairs of binary digits
-- a turn, from `left` pairs to one less
pub short_turn : (n left s r s' r' : ℕ) → 0 < left → IsWholeRoot (n / 2 ^ (left * 2)) s r → IsWholeRoot (4 * (s * s + r) + n / 2 ^ ((left - 1) * 2) % 4) s' r' → IsWholeRoot (n / 2 ^ ((left - 1) * 2)) s' r'
short_turn n zero s r s' r' p w w' = absurd (lt_irrefl 0 p)
short_turn n (suc l) s r s' r' p w w' =
    subst (λ (k : ℕ). IsWholeRoot (n / 2 ^ (k * 2)) s' r') (sym (one_off l))
    (subst (λ (z : ℕ). IsWholeRoot z s' r') (ap (λ (z : ℕ). 4 * z + n / 2 ^ (l * 2) % 4) w.sum ∙ two_on n l)
    (subst (λ (k : ℕ). IsWholeRoot (4 * (s * s + r) + n / 2 ^ (k * 2) % 4) s' r') (one_off l) w'))
  where
    one_off : (t : ℕ) → suc t - 1 ≡ t
    one_off t = omega arith
