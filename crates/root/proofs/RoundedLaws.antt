-- From whole numbers to the format: the digits of a value and their exponent, and the whole root of the digits rounded to the root's bit pattern.
-- Over the format. Assumes nothing.
use mathlib.Core.Path.{◌≡◌, refl, sym, ap, ap₂, ◌∙◌, subst, subst₂}
use mathlib.Core.Logic.{◌⊎◌, inl, inr}
use Prim.Native.Nat.{ℕ, zero, suc, ◌+◌, ◌-◌, ◌*◌, ◌/◌, ◌%◌, ◌^◌, ◌≤◌, ◌<◌}
use native.Mathlib.Nat.{le_of_lt, lt_of_lt_of_le, lt_of_le_of_lt, not-le_of_lt, eq-or-lt_of_le, mul-le-mul, mul-le-mul_left, mul-le-mul_right, mul-lt-mul_of_pos_right, mul-pos, mul_assoc, mul-one, le-div_iff_mul-le, div-lt_iff_lt-mul, pow-succ', mod-lt}
use native.Mathlib.Omega.{arith}
use lib.Dec.{T, lit<, lit≤}
use lib.Pow.{pow-add, pow_pos, pow_mono}
use lib.Ieee.{Float, Format, binary32, binary64, prec, emax, low, hid, ones, of_bits}
use lib.Ieee.Positive.{positive}
use Rattle.root.specs.Root.{count, scaled, root}
use Rattle.root.specs.Private.{IsWholeRoot, IsScaled}
use Rattle.root.proofs.PatternLaws.{At, at_count, subnormal_at, normal_at, hid_pos, here_or_on}
use Rattle.root.proofs.Roots.{mid, mid_is, root_at, squared}
use Rattle.root.proofs.WholeLaws.{root_under, root_over}

-- ---- a format's numbers
two_emax : (f : Format) → 2 ≤ emax f
two_emax binary32 = lit≤ tt
two_emax binary64 = lit≤ tt

hid_le : (f : Format) → hid f ≤ 2 ^ (emax f - 1)
hid_le f = pow_mono (under f)
  where
    under : (g : Format) → prec g - 1 ≤ emax g - 1
    under binary32 = lit≤ tt
    under binary64 = lit≤ tt

low_is : (f : Format) → 2 ^ low f ≡ 2 ^ (emax f - 1) * hid f
low_is binary32 = refl
low_is binary64 = refl

-- ---- a value's digits
pub scaled_normal : (f : Format) (K : ℕ) → hid f ≤ K → K < ones f * hid f → IsScaled f (of_bits f K) (K % hid f + hid f) (K / hid f + (emax f - 2))
scaled_normal f K l u =
    let H = hid_pos f in
    let x : 1 ≤ K / hid f = (le-div_iff_mul-le H).1 (omega arith) in
    let y : K / hid f < ones f = (div-lt_iff_lt-mul H).1 u in
    let r : K % hid f < hid f = mod-lt K H in
    record {
      same = ap₂ (λ (a b : ℕ). a * 2 ^ b) (turn (K % hid f) (hid f)) (shift (K / hid f) (emax f) x (two_emax f))
          ∙ ap (λ (z : ℕ). (hid f + K % hid f) * z) (pow-add 2 (K / hid f - 1) (emax f - 1))
          ∙ sym (mul_assoc (hid f + K % hid f) (2 ^ (K / hid f - 1)) (2 ^ (emax f - 1)))
          ∙ ap (λ (z : ℕ). z * 2 ^ (emax f - 1)) (sym (at_count f K (K / hid f - 1) (hid f + K % hid f) (normal_at f K l u)));
      full = omega arith;
      short = omega arith;
      bound = omega (arith, two_emax f);
    }
  where
    turn : (a b : ℕ) → a + b ≡ b + a
    turn a b = omega arith

    shift : (x m : ℕ) → 1 ≤ x → 2 ≤ m → x + (m - 2) ≡ x - 1 + (m - 1)
    shift x m a b = omega arith

-- digits of which the first stands for 2 ^ l, moved up by s places
pub first_below : (l t K : ℕ) → 2 ^ l ≤ K → K < 2 ^ t → l < t
first_below l t K a b = elim (here_or_on l t) [ inl h ↦ h | inr h ↦ absurd (let m : 2 ^ t ≤ 2 ^ l = pow_mono h in omega arith) ]

moved_up : (l s t K : ℕ) → 2 ^ l ≤ K → K < 2 * 2 ^ l → l + s ≡ t → (2 ^ t ≤ K * 2 ^ s) × (K * 2 ^ s < 2 * 2 ^ t)
moved_up l s t K a b e =
    let p : 2 ^ t ≡ 2 ^ l * 2 ^ s = ap (λ (z : ℕ). 2 ^ z) (sym e) ∙ pow-add 2 l s in
    let x : 2 ^ l * 2 ^ s ≤ K * 2 ^ s = mul-le-mul_right (2 ^ s) a in
    let y : K * 2 ^ s < 2 * 2 ^ l * 2 ^ s = mul-lt-mul_of_pos_right b (pow_pos s) in
    (omega arith, omega arith)

-- a subnormal value's digits, moved up by s places
scaled_subnormal : (f : Format) (K s e : ℕ) → K < hid f → (hid f ≤ K * 2 ^ s) × (K * 2 ^ s < 2 * hid f) → s + e ≡ emax f - 1 → IsScaled f (of_bits f K) (K * 2 ^ s) e
scaled_subnormal f K s e l (least, most) p = record {
  same = mul_assoc K (2 ^ s) (2 ^ e) ∙ ap (λ (z : ℕ). K * z) (sym (pow-add 2 s e) ∙ ap (λ (z : ℕ). 2 ^ z) p)
      ∙ ap (λ (z : ℕ). z * 2 ^ (emax f - 1)) (sym (at_count f K 0 K (subnormal_at f K l) ∙ mul-one K));
  full = least;
  short = most;
  bound = omega (arith, two_emax f);
}

-- and in the code, which moves them in 64 bits
pub shifted_subnormal : (K l s : ℕ) → K < 2 ^ 52 → 2 ^ l ≤ K → K < 2 * 2 ^ l → l + s ≡ 52 → IsScaled binary64 (of_bits binary64 K) (K * 2 ^ s % 2 ^ 64 % 2 ^ 52 + 2 ^ 52) (1022 - s)
shifted_subnormal K l s k a b e =
    let m = moved_up l s 52 K a b e in
    let fits : K * 2 ^ s ≡ K * 2 ^ s % 2 ^ 64 % 2 ^ 52 + 2 ^ 52 = omega (arith, m.0, m.1) in
    subst (λ (d : ℕ). IsScaled binary64 (of_bits binary64 K) d (1022 - s)) fits
    (scaled_subnormal binary64 K s (1022 - s) k m (omega arith))

-- ---- rounding
-- the digits, doubled where the exponent is odd, so that half the exponent is left
halved : (e : ℕ) → 2 ^ e ≡ (1 + e % 2) * (2 ^ (e / 2) * 2 ^ (e / 2))
halved e = ap (λ (z : ℕ). 2 ^ z) (parts e) ∙ pow-add 2 (e % 2) (e / 2 + e / 2) ∙ ap₂ (λ (a b : ℕ). a * b) (bit (e % 2) (mod-lt e (lit< tt))) (pow-add 2 (e / 2) (e / 2))
  where
    parts : (e : ℕ) → e ≡ e % 2 + (e / 2 + e / 2)
    parts e = omega arith

    bit : (b : ℕ) → b < 2 → 2 ^ b ≡ 1 + b
    bit zero l = refl
    bit (suc zero) l = refl
    bit (suc (suc b)) l = absurd (no b l)
      where
        no : (b : ℕ) → suc (suc b) < 2 → ⊥
        no b l = omega arith

-- the variance on the scale of squares is the number under the root, times the square of a power of two
scaled_is : (f : Format) (v : Float) (d e : ℕ) → IsScaled f v d e → scaled f v ≡ d * (1 + e % 2) * (4 * hid f) * (2 ^ (e / 2) * 2 ^ (e / 2))
scaled_is f v d e g =
    ap (λ (z : ℕ). 4 * (count f v * z)) (low_is f) ∙ group (count f v) (2 ^ (emax f - 1)) (hid f)
    ∙ ap (λ (z : ℕ). 4 * hid f * z) (sym g.same ∙ ap (λ (z : ℕ). d * z) (halved e))
    ∙ regroup d (1 + e % 2) (hid f) (2 ^ (e / 2) * 2 ^ (e / 2))
  where
    group : (c a h : ℕ) → 4 * (c * (a * h)) ≡ 4 * h * (c * a)
    group c a h = omega arith

    regroup : (d b h x : ℕ) → 4 * h * (d * (b * x)) ≡ d * b * (4 * h) * x
    regroup d b h x = omega arith

-- the root of n * 4 * h, rounded: s has one binary digit more than is kept
module _ (h n s r : ℕ) (H : 0 < h) (least : h ≤ n) (most : n ≤ 4 * h - 2) (w : IsWholeRoot (n * (4 * h)) s r) where
  pub half_least : h ≤ (s + 1) / 2
  half_least =
      let a : 2 * h * (2 * h) ≤ n * (4 * h) = omega (arith, mul-le-mul_right (4 * h) least) in
      omega (arith, root_over (n * (4 * h)) s r (2 * h) w a)

  pub half_most : (s + 1) / 2 < 2 * h
  half_most =
      let a : n * (4 * h) ≤ (4 * h - 2) * (4 * h) = mul-le-mul_right (4 * h) most in
      omega (arith, root_under (n * (4 * h)) s r (4 * h - 1) w (lt_of_le_of_lt a (squares h H)))
    where
      squares : (h : ℕ) → 0 < h → (4 * h - 2) * (4 * h) < (4 * h - 1) * (4 * h - 1)
      squares h p = subst₂ (λ (a b : ℕ). (4 * h - 2) * a < b * b) (two_on h p) (one_on h p) (core (4 * h - 2))
        where
          core : (x : ℕ) → x * (x + 2) < (x + 1) * (x + 1)
          core x = omega arith

          two_on : (h : ℕ) → 0 < h → 4 * h - 2 + 2 ≡ 4 * h
          two_on h p = omega arith

          one_on : (h : ℕ) → 0 < h → 4 * h - 2 + 1 ≡ 4 * h - 1
          one_on h p = omega arith

  pub below_next : n * (4 * h) < (2 * ((s + 1) / 2) + 1) * (2 * ((s + 1) / 2) + 1)
  below_next =
      let m : (s + 1) * (s + 1) ≤ (2 * ((s + 1) / 2) + 1) * (2 * ((s + 1) / 2) + 1) = mul-le-mul (omega arith) (omega arith) in
      let u : n * (4 * h) < (s + 1) * (s + 1) = omega (arith, w.sum, w.small) in
      lt_of_lt_of_le u m

  pub above_last : (q : ℕ) → (s + 1) / 2 ≡ suc q → (2 * q + 1) * (2 * q + 1) < n * (4 * h)
  above_last q e =
      let l : 2 * q + 1 ≤ s = omega arith in
      let m : (2 * q + 1) * (2 * q + 1) ≤ s * s = mul-le-mul l l in
      let u : (2 * q + 1) * (2 * q + 1) ≤ n * (4 * h) = omega (arith, w.sum) in
      elim (eq-or-lt_of_le u) [ inl z ↦ absurd (no (q * q + q) (n * h) (omega (arith, z))) | inr g ↦ g ]
    where
      no : (a b : ℕ) → 4 * a + 1 ≡ 4 * b → ⊥
      no a b z = omega arith

-- twice the midpoint below the pattern of q * 2 ^ k: the gap below hid * 2 ^ k is half the gap above, where k is not 0
below_mid : (f : Format) (K k q m : ℕ) → At f (suc K) k (suc q) → hid f ≤ suc q → (2 * q + 1) * (2 * q + 1) < m → 2 * hid f * (2 * hid f) ≤ m
    → mid f K * mid f K < m * (2 ^ k * 2 ^ k)
below_mid f K k q m a l u g = go k a (here_or_on q (hid f))
  where
    plain : (j : ℕ) → At f K j q → mid f K * mid f K < m * (2 ^ j * 2 ^ j)
    plain j b =
        subst (λ (z : ℕ). z < m * (2 ^ j * 2 ^ j)) (sym (ap (λ (z : ℕ). z * z) (mid_is f K j q b) ∙ squared (2 * q + 1) (2 ^ j)))
        (mul-lt-mul_of_pos_right u (mul-pos (pow_pos j) (pow_pos j)))

    one_down : (h j : ℕ) → suc K ≡ j * h + suc q → K ≡ j * h + q
    one_down h j e = omega arith

    at_power : (h j : ℕ) → 0 < h → suc q ≡ h → suc K ≡ suc j * h + suc q → K ≡ j * h + (2 * h - 1)
    at_power h j p e z = omega arith

    scale : (m x : ℕ) → m * (2 * x * (2 * x)) ≡ 4 * m * (x * x)
    scale m x = omega arith

    shorter : (h : ℕ) → 0 < h → 2 * h * (2 * h) ≤ m → (2 * (2 * h - 1) + 1) * (2 * (2 * h - 1) + 1) < 4 * m
    shorter h p g =
        let o : 2 * (2 * h - 1) + 1 ≤ 4 * h = omega arith in
        let t : (2 * (2 * h - 1) + 1) * (2 * (2 * h - 1) + 1) ≤ (2 * (2 * h - 1) + 1) * (4 * h) = mul-le-mul_left (2 * (2 * h - 1) + 1) o in
        let w : (2 * (2 * h - 1) + 1) * (4 * h) < 4 * h * (4 * h) = mul-lt-mul_of_pos_right (omega arith) (omega arith) in
        omega arith

    go : (j : ℕ) → At f (suc K) j (suc q) → (q < hid f) ⊎ (hid f ≤ q) → mid f K * mid f K < m * (2 ^ j * 2 ^ j)
    go j b (inr r) = plain j (record { pattern = one_down (hid f) j b.pattern; leading = inr r; digits = le_of_lt b.digits; finite = b.finite })
    go zero b (inl r) = plain 0 (record { pattern = one_down (hid f) 0 b.pattern; leading = inl refl; digits = le_of_lt b.digits; finite = b.finite })
    go (suc j) b (inl r) =
        let H = hid_pos f in
        let e : suc q ≡ hid f = omega arith in
        let c : At f K j (2 * hid f - 1) = record { pattern = at_power (hid f) j H e b.pattern; leading = inr (omega arith); digits = omega arith; finite = le_of_lt b.finite } in
        subst₂ (λ (x y : ℕ). x < y) (sym (ap (λ (z : ℕ). z * z) (mid_is f K j (2 * hid f - 1) c) ∙ squared (2 * (2 * hid f - 1) + 1) (2 ^ j)))
        (sym (ap (λ (z : ℕ). m * (z * z)) (pow-succ' 2 j) ∙ scale m (2 ^ j)))
        (mul-lt-mul_of_pos_right (shorter (hid f) H g) (mul-pos (pow_pos j) (pow_pos j)))

-- the digits under the root
pub digits_least : (h d b : ℕ) → h ≤ d → h ≤ d * (1 + b)
digits_least h d b l = omega (arith, mul-le-mul_left d (zero_le_more b))
  where
    zero_le_more : (b : ℕ) → 1 ≤ 1 + b
    zero_le_more b = omega arith

pub digits_most : (h d b : ℕ) → b < 2 → d < 2 * h → d * (1 + b) ≤ 4 * h - 2
digits_most h d b l u =
    let m : d * (1 + b) ≤ d * 2 = mul-le-mul_left d (omega arith) in
    omega arith

few : (e m : ℕ) → e ≤ 3 * m → 2 ≤ m → suc (e / 2) < 2 * m + 1
few e m l t = omega arith

under_all : (h o k q : ℕ) → q < 2 * h → suc k < o → k * h + q < o * h
under_all h o k q a b = omega (arith, mul-le-mul_right h b)

-- The bit pattern put together from half the exponent and the rounded root is that of the value's root.
pub rounded : (f : Format) (v : Float) (d e s r : ℕ) → T (positive v) → IsScaled f v d e → IsWholeRoot (d * (1 + e % 2) * (4 * hid f)) s r
    → (e / 2 * hid f + (s + 1) / 2 < ones f * hid f) × (of_bits f (e / 2 * hid f + (s + 1) / 2) ≡ root f v)
rounded f v d e s r p g w = go ((s + 1) / 2) refl
  where
    least : hid f ≤ d * (1 + e % 2)
    least = digits_least (hid f) d (e % 2) g.full

    most : d * (1 + e % 2) ≤ 4 * hid f - 2
    most = digits_most (hid f) d (e % 2) (mod-lt e (lit< tt)) g.short

    go : (q : ℕ) → (s + 1) / 2 ≡ q → (e / 2 * hid f + q < ones f * hid f) × (of_bits f (e / 2 * hid f + q) ≡ root f v)
    go zero z = absurd (not-le_of_lt (hid_pos f) (subst (λ (x : ℕ). hid f ≤ x) z (half_least (hid f) (d * (1 + e % 2)) s r (hid_pos f) least most w)))
    go (suc q) z =
        let H = hid_pos f in
        let n = d * (1 + e % 2) in
        let m = n * (4 * hid f) in
        let k = e / 2 in
        let X = 2 ^ k in
        let K = k * hid f + q in
        let one : suc K ≡ k * hid f + suc q = omega arith in
        let full : hid f ≤ suc q = subst (λ (x : ℕ). hid f ≤ x) z (half_least (hid f) n s r H least most w) in
        let short : suc q < 2 * hid f = subst (λ (x : ℕ). x < 2 * hid f) z (half_most (hid f) n s r H least most w) in
        let a : At f (suc K) k (suc q) = record { pattern = one; leading = inr full; digits = short; finite = few e (emax f) g.bound (two_emax f) } in
        let u : k * hid f + suc q < ones f * hid f = under_all (hid f) (ones f) k (suc q) short a.finite in
        let c : scaled f v ≡ m * (X * X) = scaled_is f v d e g in
        let square : 2 * hid f * (2 * hid f) ≤ m = omega (arith, mul-le-mul_right (4 * hid f) least) in
        let under : mid f K * mid f K < scaled f v = subst (λ (x : ℕ). mid f K * mid f K < x) (sym c) (below_mid f K k q m a full (above_last (hid f) n s r H least most w q z) square) in
        let over : scaled f v < mid f (suc K) * mid f (suc K) =
        subst₂ (λ (x y : ℕ). x < y) (sym c) (sym (ap (λ (x : ℕ). x * x) (mid_is f (suc K) k (suc q) a) ∙ squared (2 * suc q + 1) X))
        (mul-lt-mul_of_pos_right (subst (λ (x : ℕ). m < (2 * x + 1) * (2 * x + 1)) z (below_next (hid f) n s r H least most w)) (mul-pos (pow_pos k) (pow_pos k))) in
        (u, ap (of_bits f) (sym one) ∙ root_at f v K p (subst (λ (x : ℕ). x < ones f * hid f) (sym one) u) under over)
