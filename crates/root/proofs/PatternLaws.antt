-- The bit patterns of a format's values from +0 up: what each counts, and that a larger pattern counts more. Over the format. Assumes nothing.
use mathlib.Core.Path.{◌≡◌, refl, sym, ap, ◌∙◌, subst, subst₂}
use mathlib.Core.Logic.{◌⊎◌, inl, inr}
use Prim.Native.Nat.{ℕ, zero, suc, ◌+◌, ◌-◌, ◌*◌, ◌/◌, ◌%◌, ◌^◌, ◌≤◌, ◌<◌}
use native.Mathlib.Nat.{le_refl, lt_of_lt_of_le, le_of_lt, not-le_of_lt, le-div_iff_mul-le, lt_irrefl, zero-lt-suc, eq-or-lt_of_le, mod-eq_of_lt, mod-lt, div-lt_iff_lt-mul, div-eq_of_lt, div-add-mod', mul-le-mul_right, mul-div_cancel, pow-suc, mul_comm, mul_right_comm, mul-pos, mul_assoc, le_of_eq, le_of_suc-le-suc, not-suc-le-zero, div-eq_of_lt-le}
use native.Mathlib.Numerals.{sub-one}
use native.Mathlib.Omega.{arith}
use mathlib.Core.Bool.{Bool, true, false, not, cond}
use lib.Dec.{T, leb, ltb, eqb, leb→le, le→leb, eqb→eq, not_T, ltb→lt, nltb→le, lit<}
use lib.Arith.{digits_div, digits_mod}
use lib.Pow.{pow_pos}
use lib.Ieee.{Float, nan, inf, fin, Format, binary32, binary64, prec, emax, low, down, odd, hid, ones, top, of_fields, of_bits, to_bits, fits, is_nan}
use lib.Ieee.Fits.{down_pos}
use lib.Ieee.Bits.{is_true, is_false, cond_no, of_bits-to_bits, to_bits-of_bits}
use lib.Ieee.Exact.{HasValue, odd_sign}
use lib.Ieee.Positive.{positive, positive_of_value, value_pos}
use Rattle.root.specs.Root.{count}

-- ---- numbers of a format
pub hid_pos : (f : Format) → 0 < hid f
hid_pos f = pow_pos (prec f - 1)

pub two_ones : (f : Format) → 2 < ones f
two_ones binary32 = lit< tt
two_ones binary64 = lit< tt

-- the infinity counts what the largest binary digit above the largest value does
pub inf_count : (f : Format) → hid f * 2 ^ (ones f - 1) ≡ 2 ^ (low f + suc (emax f))
inf_count binary32 = refl
inf_count binary64 = refl

-- ---- a pattern by its fields
has_count : (f : Format) (x : Float) (s : Bool) (a : ℕ) → HasValue x s a (2 ^ low f) → count f x ≡ a
unfolding count
has_count f nan s a h = absurd h
has_count f (inf t) s a h = absurd h
has_count f (fin t m e) s a h = ap (λ (z : ℕ). z / down e) h.1 ∙ mul-div_cancel a (down_pos e)

-- the sign is clear below `top`
clear : (f : Format) (b : ℕ) → b < top f → of_bits f b ≡ of_fields f false (b / hid f) (b % hid f)
unfolding of_bits
clear f b u =
    ap (λ (s : Bool). of_fields f s (b % top f / hid f) (b % hid f)) (is_false (leb (top f) b) (not_T (leb (top f) b) (λ (t : T (leb (top f) b)). not-le_of_lt u (leb→le (top f) b t))))
    ∙ ap (λ (x : ℕ). of_fields f false (x / hid f) (b % hid f)) (mod-eq_of_lt u)

set : (f : Format) (b : ℕ) → top f ≤ b → of_bits f b ≡ of_fields f true (b % top f / hid f) (b % hid f)
unfolding of_bits
set f b u = ap (λ (s : Bool). of_fields f s (b % top f / hid f) (b % hid f)) (is_true (leb (top f) b) (le→leb (top f) b u))

no_field : (f : Format) (t : ℕ) → of_fields f false 0 t ≡ odd (prec f) false t 0 (low f)
unfolding of_fields
no_field f t = refl

zero_more : (h q : ℕ) → 0 * h + q ≡ q
zero_more h q = omega arith

differ : (a b : ℕ) → a < b → a ≡ b → ⊥
differ a b h e = omega arith

some_field : (f : Format) (x t : ℕ) → suc x < ones f → of_fields f false (suc x) t ≡ odd (prec f) false (hid f + t) x (low f)
unfolding of_fields
some_field f x t h =
    cond_no (eqb (suc x) (ones f)) (cond (eqb t 0) (inf false) nan) (odd (prec f) false (hid f + t) x (low f))
    (not_T (eqb (suc x) (ones f)) (λ (u : T (eqb (suc x) (ones f))). differ (suc x) (ones f) h (eqb→eq (suc x) (ones f) u)))

-- ---- k * hid + q stands for q * 2 ^ k, where k is 0 or q has its leading digit
pub record At (f : Format) (K k q : ℕ) : Type 0 where
  pub pattern : K ≡ k * hid f + q
  pub leading : (k ≡ 0) ⊎ (hid f ≤ q)
  pub digits : q < 2 * hid f
  pub finite : suc k < ones f

low_part : (h q : ℕ) → h ≤ q → q < 2 * h → h + (q - h) ≡ q
low_part h q a b = omega arith

low_lt : (h q : ℕ) → h ≤ q → q < 2 * h → q - h < h
low_lt h q a b = omega arith

regroup : (h k q : ℕ) → h ≤ q → k * h + q ≡ suc k * h + (q - h)
regroup h k q a = omega arith

under_top : (h o k q : ℕ) → q < 2 * h → suc k < o → k * h + q < h * suc o
under_top h o k q a b =
    let m : suc (suc k) * h ≤ o * h = mul-le-mul_right h b in
    omega arith

normal_value : (f : Format) (k q : ℕ) → hid f ≤ q → q < 2 * hid f → suc k < ones f → HasValue (of_bits f (k * hid f + q)) false (q * 2 ^ k) (2 ^ low f)
normal_value f k q l d o =
    let r = low_lt (hid f) q l d in
    let e : of_bits f (k * hid f + q) ≡ odd (prec f) false q k (low f) =
    clear f (k * hid f + q) (under_top (hid f) (ones f) k q d o)
    ∙ ap (λ (z : ℕ). of_fields f false (z / hid f) (z % hid f)) (regroup (hid f) k q l)
    ∙ ap (λ (z : ℕ). of_fields f false z ((suc k * hid f + (q - hid f)) % hid f)) (digits_div (suc k) r)
    ∙ ap (λ (z : ℕ). of_fields f false (suc k) z) (digits_mod (suc k) r)
    ∙ some_field f k (q - hid f) o
    ∙ ap (λ (z : ℕ). odd (prec f) false z k (low f)) (low_part (hid f) q l d) in
    subst (λ (w : Float). HasValue w false (q * 2 ^ k) (2 ^ low f)) (sym e) (odd_sign (prec f) false q k (low f))

short_top : (h o q : ℕ) → q < h → q < h * suc o
short_top h o q a = omega (arith, mul-le-mul_right h (zero-lt-suc o))

subnormal_value : (f : Format) (q : ℕ) → q < hid f → HasValue (of_bits f q) false (q * 2 ^ 0) (2 ^ low f)
subnormal_value f q u =
    let e : of_bits f q ≡ odd (prec f) false q 0 (low f) =
    clear f q (short_top (hid f) (ones f) q u)
    ∙ ap (λ (z : ℕ). of_fields f false z (q % hid f)) (div-eq_of_lt u)
    ∙ ap (λ (z : ℕ). of_fields f false 0 z) (mod-eq_of_lt u)
    ∙ no_field f q in
    subst (λ (w : Float). HasValue w false (q * 2 ^ 0) (2 ^ low f)) (sym e) (odd_sign (prec f) false q 0 (low f))

pub here_or_on : (a b : ℕ) → (a < b) ⊎ (b ≤ a)
here_or_on a b = go (ltb a b) (ltb→lt a b) (nltb→le a b)
  where
    go : (t : Bool) → (T t → a < b) → (T (not t) → b ≤ a) → (a < b) ⊎ (b ≤ a)
    go true x y = inl (x tt)
    go false x y = inr (y tt)

pub at_value : (f : Format) (K k q : ℕ) → At f K k q → HasValue (of_bits f K) false (q * 2 ^ k) (2 ^ low f)
at_value f K k q a = subst (λ (z : ℕ). HasValue (of_bits f z) false (q * 2 ^ k) (2 ^ low f)) (sym a.pattern) (go k a.leading a.finite (here_or_on q (hid f)))
  where
    go : (j : ℕ) → (j ≡ 0) ⊎ (hid f ≤ q) → suc j < ones f → (q < hid f) ⊎ (hid f ≤ q) → HasValue (of_bits f (j * hid f + q)) false (q * 2 ^ j) (2 ^ low f)
    go j l o (inr r) = normal_value f j q r a.digits o
    go j (inr r) o (inl u) = normal_value f j q r a.digits o
    go j (inl z) o (inl u) =
        subst (λ (i : ℕ). HasValue (of_bits f (i * hid f + q)) false (q * 2 ^ i) (2 ^ low f)) (sym z)
        (subst (λ (i : ℕ). HasValue (of_bits f i) false (q * 2 ^ 0) (2 ^ low f)) (sym (zero_more (hid f) q)) (subnormal_value f q u))

pub at_count : (f : Format) (K k q : ℕ) → At f K k q → count f (of_bits f K) ≡ q * 2 ^ k
at_count f K k q a = has_count f (of_bits f K) false (q * 2 ^ k) (at_value f K k q a)

-- every pattern below the infinity's is one of these
pub record Fields (f : Format) (K : ℕ) : Type 0 where
  pub k : ℕ
  pub q : ℕ
  pub at : At f K k q

normal_pattern : (h K x : ℕ) → x * h + K % h ≡ K → 1 ≤ x → K ≡ (x - 1) * h + (h + K % h)
normal_pattern h K zero e l = absurd (lt_irrefl 0 l)
normal_pattern h K (suc x) e l = omega (arith, ap (λ (z : ℕ). z * h) (sub-one (suc x)))

pub subnormal_at : (f : Format) (K : ℕ) → K < hid f → At f K 0 K
subnormal_at f K l = record { pattern = sym (zero_more (hid f) K); leading = inl refl; digits = omega arith; finite = omega (arith, two_ones f) }

pub normal_at : (f : Format) (K : ℕ) → hid f ≤ K → K < ones f * hid f → At f K (K / hid f - 1) (hid f + K % hid f)
normal_at f K l u =
    let H = hid_pos f in
    let x : 1 ≤ K / hid f = (le-div_iff_mul-le H).1 (omega arith) in
    let y : K / hid f < ones f = (div-lt_iff_lt-mul H).1 u in
    let r : K % hid f < hid f = mod-lt K H in
    record { pattern = normal_pattern (hid f) K (K / hid f) (div-add-mod' K (hid f)) x; leading = inr (omega arith); digits = omega arith; finite = omega arith }

pub fields : (f : Format) (K : ℕ) → K < ones f * hid f → Fields f K
fields f K u =
    elim (here_or_on K (hid f)) [ inl l ↦ record { k = 0; q = K; at = subnormal_at f K l } | inr l ↦ record { k = K / hid f - 1; q = hid f + K % hid f; at = normal_at f K l u } ]

-- ---- one pattern on is one more in the last digit, and at the end of the patterns stands the infinity
pub inf_pattern : (f : Format) → of_bits f (ones f * hid f) ≡ inf false
unfolding of_bits
inf_pattern binary32 = refl
inf_pattern binary64 = refl

pub last_count : (f : Format) → count f (of_bits f (ones f * hid f)) ≡ hid f * 2 ^ (ones f - 1)
unfolding count
last_count f = ap (count f) (inf_pattern f) ∙ sym (inf_count f)

carry : (h q k : ℕ) → suc q ≡ 2 * h → h * 2 ^ suc k ≡ suc q * 2 ^ k
carry h q k e = ap (λ (z : ℕ). h * z) (pow-suc 2 k) ∙ sym (mul_assoc h (2 ^ k) 2) ∙ mul_right_comm h (2 ^ k) 2 ∙ ap (λ (z : ℕ). z * 2 ^ k) (mul_comm h 2 ∙ sym e)

pub next_count : (f : Format) (K k q : ℕ) → At f K k q → count f (of_bits f (suc K)) ≡ suc q * 2 ^ k
next_count f K k q a = go (eq-or-lt_of_le a.digits) (eq-or-lt_of_le a.finite)
  where
    further : (k ≡ 0) ⊎ (hid f ≤ q) → (k ≡ 0) ⊎ (hid f ≤ suc q)
    further (inl z) = inl z
    further (inr l) = inr (omega arith)

    go : (suc q ≡ 2 * hid f) ⊎ (suc q < 2 * hid f) → (suc (suc k) ≡ ones f) ⊎ (suc (suc k) < ones f) → count f (of_bits f (suc K)) ≡ suc q * 2 ^ k
    go (inr d) o = at_count f (suc K) k (suc q) (record { pattern = omega (arith, a.pattern); leading = further a.leading; digits = d; finite = a.finite })
    go (inl e) (inr o) =
        at_count f (suc K) (suc k) (hid f) (record { pattern = omega (arith, a.pattern); leading = inr (le_refl (hid f)); digits = omega (arith, hid_pos f); finite = o })
        ∙ carry (hid f) q k e
    go (inl e) (inl o) =
        let p : suc K ≡ ones f * hid f = omega (arith, a.pattern, ap (λ (z : ℕ). z * hid f) o) in
        ap (λ (z : ℕ). count f (of_bits f z)) p ∙ last_count f ∙ ap (λ (z : ℕ). hid f * 2 ^ z) (less (ones f) o) ∙ carry (hid f) q k e
      where
        less : (o : ℕ) → suc (suc k) ≡ o → o - 1 ≡ suc k
        less o w = omega arith

step_lt : (x q : ℕ) → 0 < x → q * x < suc q * x
step_lt x q h = omega arith

pub count_step : (f : Format) (K : ℕ) → K < ones f * hid f → count f (of_bits f K) < count f (of_bits f (suc K))
count_step f K u =
    let a = fields f K u in
    subst₂ (λ (x y : ℕ). x < y) (sym (at_count f K a.k a.q a.at)) (sym (next_count f K a.k a.q a.at)) (step_lt (2 ^ a.k) a.q (pow_pos a.k))

pub count_lt : (f : Format) (J K : ℕ) → K < J → J ≤ ones f * hid f → count f (of_bits f K) < count f (of_bits f J)
count_lt f zero K l u = absurd (not-suc-le-zero l)
count_lt f (suc J) K l u = go (eq-or-lt_of_le (le_of_suc-le-suc l)) (λ (w : K < J). count_lt f J K w (le_of_lt u))
  where
    go : (K ≡ J) ⊎ (K < J) → (K < J → count f (of_bits f K) < count f (of_bits f J)) → count f (of_bits f K) < count f (of_bits f (suc J))
    go (inl e) r = subst (λ (z : ℕ). count f (of_bits f z) < count f (of_bits f (suc J))) (sym e) (count_step f J u)
    go (inr w) r = lt_of_lt_of_le (r w) (le_of_lt (count_step f J u))

pub count_le : (f : Format) (J K : ℕ) → K ≤ J → J ≤ ones f * hid f → count f (of_bits f K) ≤ count f (of_bits f J)
count_le f J K l u = elim (eq-or-lt_of_le l) [ inl e ↦ le_of_eq (ap (λ (z : ℕ). count f (of_bits f z)) e) | inr w ↦ le_of_lt (count_lt f J K w u) ]

-- ---- which values these are: those that are finite and have no minus sign
abbrev pub plus : Float → Bool
plus nan = false
plus (inf s) = false
plus (fin true m e) = false
plus (fin false m e) = true

pub positive_plus : (x : Float) → T (positive x) → T (plus x)
positive_plus nan p = absurd p
positive_plus (inf s) p = absurd p
positive_plus (fin true m e) p = absurd p
positive_plus (fin false m e) p = tt

odd_minus : (d q k l : ℕ) → T (plus (odd d true q k l)) → ⊥
unfolding odd
odd_minus d zero k l p = p
odd_minus d (suc q) k l p = p

minus_fields : (f : Format) (x t : ℕ) → T (plus (of_fields f true x t)) → ⊥
unfolding of_fields
minus_fields f zero t p = odd_minus (prec f) t 0 (low f) p
minus_fields f (suc x) t p = go (eqb (suc x) (ones f)) (eqb t 0) p
  where
    go : (a b : Bool) → T (plus (cond a (cond b (inf true) nan) (odd (prec f) true (hid f + t) x (low f)))) → ⊥
    go true true q = q
    go true false q = q
    go false b q = odd_minus (prec f) (hid f + t) x (low f) q

no_number : (b : Bool) → T (plus (cond b (inf false) nan)) → ⊥
no_number true q = q
no_number false q = q

ones_field : (f : Format) (t : ℕ) → T (plus (of_fields f false (ones f) t)) → ⊥
unfolding of_fields
ones_field binary32 t p = no_number (eqb t 0) p
ones_field binary64 t p = no_number (eqb t 0) p

pub plus_below : (f : Format) (K : ℕ) → T (plus (of_bits f K)) → K < ones f * hid f
plus_below f K p = go (here_or_on K (ones f * hid f)) (here_or_on K (top f))
  where
    go : (K < ones f * hid f) ⊎ (ones f * hid f ≤ K) → (K < top f) ⊎ (top f ≤ K) → K < ones f * hid f
    go (inl l) t = l
    go (inr l) (inr t) = absurd (minus_fields f (K % top f / hid f) (K % hid f) (subst (λ (w : Float). T (plus w)) (set f K t) p))
    go (inr l) (inl t) =
        let e : K / hid f ≡ ones f = div-eq_of_lt-le (hid f) l (omega (arith, t)) in
        absurd (ones_field f (K % hid f) (subst (λ (w : Float). T (plus w)) (clear f K t ∙ ap (λ (z : ℕ). of_fields f false z (K % hid f)) e) p))

-- a value without a minus sign is that of its own pattern
pub record Pattern (f : Format) (x : Float) : Type 0 where
  pub is : of_bits f (to_bits f x) ≡ x
  pub below : to_bits f x < ones f * hid f

pub pattern_of : (f : Format) (x : Float) → T (fits f x) → T (plus x) → Pattern f x
pattern_of f x F p =
    let e = of_bits-to_bits f x F in
    record { is = e; below = plus_below f (to_bits f x) (subst (λ (w : Float). T (plus w)) (sym e) p) }

pub pattern_pos : (f : Format) (x : Float) → T (fits f x) → T (positive x) → 0 < to_bits f x
pattern_pos f x F p = go (to_bits f x) refl
  where
    go : (K : ℕ) → to_bits f x ≡ K → 0 < K
    go (suc K) e = zero-lt-suc K
    go zero e =
        let z : of_bits f 0 ≡ x = ap (of_bits f) (sym e) ∙ of_bits-to_bits f x F in
        let v : HasValue x false (0 * 2 ^ 0) (2 ^ low f) = subst (λ (w : Float). HasValue w false (0 * 2 ^ 0) (2 ^ low f)) z (subnormal_value f 0 (hid_pos f)) in
        absurd (lt_irrefl 0 (value_pos x (0 * 2 ^ 0) (2 ^ low f) p (pow_pos (low f)) v))

-- and a pattern above 0 and below the infinity's is that of a positive value
first_pos : (h k q K : ℕ) → 0 < h → 0 < K → K ≡ k * h + q → (k ≡ 0) ⊎ (h ≤ q) → 0 < q
first_pos h k q K H P e (inr l) = omega arith
first_pos h k q K H P e (inl z) = omega (arith, ap (λ (w : ℕ). w * h) z)

pub positive_at : (f : Format) (K : ℕ) → 0 < K → K < ones f * hid f → T (positive (of_bits f K))
positive_at f K l u =
    let a = fields f K u in
    positive_of_value (of_bits f K) (a.q * 2 ^ a.k) (2 ^ low f) (at_value f K a.k a.q a.at)
    (mul-pos (first_pos (hid f) a.k a.q K (hid_pos f) l a.at.pattern a.at.leading) (pow_pos a.k))

number : (z : Float) (a c : ℕ) → HasValue z false a c → T (not (is_nan z))
unfolding is_nan
number nan a c h = absurd h
number (inf s) a c h = tt
number (fin s m e) a c h = tt

twice_top : (h o K : ℕ) → K < o * h → K < 2 * (h * suc o)
twice_top h o K l = omega arith

pub number_at : (f : Format) (K : ℕ) → K < ones f * hid f → T (not (is_nan (of_bits f K)))
number_at f K u =
    let a = fields f K u in
    number (of_bits f K) (a.q * 2 ^ a.k) (2 ^ low f) (at_value f K a.k a.q a.at)

pub bits_at : (f : Format) (K : ℕ) → K < ones f * hid f → to_bits f (of_bits f K) ≡ K
bits_at f K u = to_bits-of_bits f K (twice_top (hid f) (ones f) K u) (number_at f K u)
