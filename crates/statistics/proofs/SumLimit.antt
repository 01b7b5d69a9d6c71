-- The sum of decoded calls never passes 2^54 at f64, 2^25 at f32, however many animals are read: there the next value is 4 away, and a sum with 1 or 2
-- more is rounded back. So a marker of decoded calls that has a value has a mean, and is not refused for 14.
use mathlib.Core.Path.{◌≡◌, refl, sym, ap, subst, ◌∙◌}
use mathlib.Core.Bool.{Bool, true, false, cond, true≢false}
use Prim.Native.Nat.{ℕ, zero, suc, ◌+◌, ◌*◌, ◌^◌, ◌<◌, ◌≤◌}
use native.Mathlib.Nat.{le_refl, lt_of_lt_of_le, mul-pos, mul-le-mul_right, pow-suc}
use native.Mathlib.Omega.{arith}
use lib.Dec.{T, lit≤, ltb, eqb}
use lib.IntN.{ℤ, pos}
use lib.Pow.{pow_mono, shl_lt}
use lib.Ieee.{Float, nan, inf, fin, Format, binary32, binary64, prec, emax, low, up, down, odd, units, round, of_int, add, div, lt, le, eq, is_nan}
use lib.Ieee.Bits.{is_true}
use lib.Ieee.Fits.{down_pos, round_is}
use lib.Ieee.Exact.{HasValue, round_exact}
use lib.Ieee.Order.{round_mono}
use lib.Ieee.Scale.{finite, overflow}
use borrow.Author.Tests.{ne_eqb}
use Rattle.statistics.specs.declared.Accumulator.{Accumulator}
use Rattle.std.specs.Prelude.{Err}
use Rattle.statistics.specs.declared.MarkerError.TheVariants.{NoIndividuals, IllegalSnpMean}
use Rattle.statistics.specs.Statistics.{plus_zero, one, counted, accumulated, mean, no_value, marker_stats}
use Rattle.statistics.specs.Calls.{two, IsCall, is_zero, is_one, is_two, is_missing, whole, sum_limit, Calls}
use Rattle.statistics.proofs.CountLaws.{at_most, not_below, Counts, counts}
use Rattle.statistics.proofs.Exact.{add_values, whole_zero}

-- ---- from the limit 1 or 2 more goes back to it
pub one_more_stays : (f : Format) → add f (sum_limit f) one ≡ sum_limit f
unfolding add
one_more_stays binary32 = refl
one_more_stays binary64 = refl

pub two_more_stays : (f : Format) → add f (sum_limit f) two ≡ sum_limit f
unfolding add
two_more_stays binary32 = refl
two_more_stays binary64 = refl

-- ---- a sum of numbers with the sign + grows with its parts
fractions_of_le : (m a : ℕ) (e c : ℤ) → T (le (fin false m e) (fin false a c)) → m * up e * down c ≤ a * up c * down e
unfolding le lt eq
fractions_of_le m a e c t = at_most (a * up c * down e) (m * up e * down c) _ t

-- x / p is at most a / c, and y / q at most b / d
fraction_sums : (x y p q a b c d : ℕ) → x * c ≤ a * p → y * d ≤ b * q → (x * q + y * p) * (c * d) ≤ (a * d + b * c) * (p * q)
fraction_sums x y p q a b c d h g =
    let u : x * c * (q * d) ≤ a * p * (q * d) = mul-le-mul_right (q * d) h in
    let v : y * d * (p * c) ≤ b * q * (p * c) = mul-le-mul_right (p * c) g in
    omega arith

add_mono : (f : Format) (m n a b : ℕ) (e d c k : ℤ) → T (le (fin false m e) (fin false a c)) → T (le (fin false n d) (fin false b k))
    → T (le (add f (fin false m e) (fin false n d)) (add f (fin false a c) (fin false b k)))
unfolding add
add_mono f m n a b e d c k s t =
    round_mono f (m * up e * down d + n * up d * down e) (down e * down d) (a * up c * down k + b * up k * down c) (down c * down k)
    (mul-pos (down_pos e) (down_pos d)) (mul-pos (down_pos c) (down_pos k))
    (fraction_sums (m * up e) (n * up d) (down e) (down d) (a * up c) (b * up k) (down c) (down k) (fractions_of_le m a e c s) (fractions_of_le n b d k t))

-- ---- what is rounded with the sign + has it, and is no NaN
data Plus : Float → Type 0 where
  infinity : Plus (inf false)
  number : (m : ℕ) (e : ℤ) → Plus (fin false m e)

plus_odd : (d q k l : ℕ) → Plus (odd d false q k l)
unfolding odd
plus_odd d zero k l = number _ _
plus_odd d (suc q) k l = number _ _

plus_units : (f : Format) (q k : ℕ) → Plus (units f false q k)
unfolding units
plus_units f q k = by_size (ltb (q * 2 ^ k) (overflow f)) (odd (suc (prec f)) false q k (low f)) (plus_odd (suc (prec f)) q k (low f))
  where
    by_size : (b : Bool) (x : Float) → Plus x → Plus (cond b x (inf false))
    by_size true x p = p
    by_size false x p = infinity

plus_rounded : (f : Format) (a c : ℕ) → Plus (round f false a c)
plus_rounded f a c = subst Plus (sym (round_is f false a c)) (plus_units f _ _)

plus_sum : (f : Format) (m n : ℕ) (e d : ℤ) → Plus (add f (fin false m e) (fin false n d))
unfolding add
plus_sum f m n e d = plus_rounded f (m * up e * down d + n * up d * down e) (down e * down d)

no_nan : {x : Float} → Plus x → is_nan x ≡ false
unfolding is_nan
no_nan infinity = refl
no_nan (number m e) = refl

-- ---- finite, with the sign +, and at most the limit
data Within (f : Format) : Float → Type 0 where
  within : (m : ℕ) (e : ℤ) → T (le (fin false m e) (sum_limit f)) → Within f (fin false m e)

plus_within : (f : Format) (x : Float) → Plus x → T (le x (sum_limit f)) → Within f x
unfolding le lt eq
plus_within f x infinity t = absurd t
plus_within f x (number m e) t = within m e t

zero_within : (f : Format) → Within f plus_zero
unfolding le lt eq
zero_within binary32 = within 0 (pos 0) tt
zero_within binary64 = within 0 (pos 0) tt

-- a number of at most 2 more
more_within : (f : Format) (x : Float) (n : ℕ) (d : ℤ) → T (le (fin false n d) two) → Within f x → Within f (add f x (fin false n d))
more_within f x n d h (within m e t) =
    plus_within f (add f (fin false m e) (fin false n d)) (plus_sum f m n e d)
    (subst (λ (y : Float). T (le (add f (fin false m e) (fin false n d)) y)) (two_more_stays f) (add_mono f m n _ _ e d _ _ t h))

call_within : (f : Format) (a : Accumulator) (v : Float) → IsCall v → Within f a.sum → Within f (counted f a v).sum
unfolding counted is_nan le lt eq
call_within f a v is_zero w = more_within f a.sum 0 (pos 0) tt w
call_within f a v is_one w = more_within f a.sum 1 (pos 0) tt w
call_within f a v is_two w = more_within f a.sum 1 (pos 1) tt w
call_within f a v is_missing w = w

within_le : (f : Format) (x : Float) → Within f x → le x (sum_limit f) ≡ true
within_le f x (within m e t) = is_true (le (fin false m e) (sum_limit f)) t

within_finite : (f : Format) (x : Float) → Within f x → finite x ≡ true
within_finite f x (within m e t) = refl

-- ---- over a count of 1 or more it is no NaN
not_zero : (n : ℕ) (d : ℤ) → T (le one (fin false n d)) → 0 < n
not_zero zero d t = absurd (let h : 1 * 1 * down d ≤ 0 * up d * 1 = fractions_of_le 1 0 (pos 0) d t in let p : 0 < down d = down_pos d in omega arith)
not_zero (suc n) d t = omega arith

quotient : (f : Format) (m n : ℕ) (e d : ℤ) → 0 < n → is_nan (div f (fin false m e) (fin false n d)) ≡ false
unfolding div
quotient f m n e d p =
    ap (λ (b : Bool). is_nan (cond b (cond (eqb m 0) nan (inf false)) (round f false (m * up e * down d) (n * up d * down e)))) (ne_eqb n 0 (λ z. omega arith))
    ∙ no_nan (plus_rounded f (m * up e * down d) (n * up d * down e))

within_mean : (f : Format) (x c : Float) → Within f x → T (le one c) → is_nan (div f x c) ≡ false
unfolding div le lt eq is_nan
within_mean f x nan (within m e t) u = absurd u
within_mean f x (inf s) (within m e t) u = refl
within_mean f x (fin true n d) (within m e t) u = absurd (not_below d n u)
within_mean f x (fin false n d) (within m e t) u = quotient f m n e d (not_zero n d u)

-- ---- calls, however many
-- of three values by two tests it is not the second
not_second : {A : Type 0} (p q : Bool) (x y z : A) → (p ≡ false → q ≡ false) → (x ≡ y → ⊥) → (z ≡ y → ⊥) → cond p x (cond q y z) ≡ y → ⊥
not_second true q x y z fails first third e = first e
not_second false true x y z fails first third e = true≢false (fails refl)
not_second false false x y z fails first third e = third e

module _ (f : Format) (column : ℕ → Float) where
  calls_within : (n : ℕ) → Calls column n → Within f (accumulated f column n).sum
  unfolding accumulated
  calls_within zero calls = zero_within f
  calls_within (suc n) calls = call_within f (accumulated f column n) (column n) (calls n (omega arith)) (calls_within n (λ i h. calls i (omega arith)))

  -- "their sum in f64 never passes 2^54, however many animals are read"
  pub sum_within : (n : ℕ) → Calls column n → le (accumulated f column n).sum (sum_limit f) ≡ true
  sum_within n calls = within_le f (accumulated f column n).sum (calls_within n calls)

  -- it is neither a NaN nor an infinity
  pub sum_finite : (n : ℕ) → Calls column n → finite (accumulated f column n).sum ≡ true
  sum_finite n calls = within_finite f (accumulated f column n).sum (calls_within n calls)

  -- so of calls that are not all missing the mean is no NaN
  pub mean_of_calls : (n : ℕ) → Calls column n → no_value column n ≡ false → is_nan (mean f (accumulated f column n)) ≡ false
  unfolding mean
  mean_of_calls n calls some =
      within_mean f (accumulated f column n).sum (accumulated f column n).count (calls_within n calls)
      (subst (λ (b : Bool). Counts b (accumulated f column n).count) some (counts f column n))

  -- and a marker of calls is not refused for 14
  pub calls_not_14 : (n : ℕ) → Calls column n → marker_stats f n column ≡ Err IllegalSnpMean → ⊥
  unfolding marker_stats
  calls_not_14 n calls =
      not_second (no_value column n) (is_nan (mean f (accumulated f column n))) (Err NoIndividuals) (Err IllegalSnpMean) _ (mean_of_calls n calls)
      (λ e. let z : ◌≡◌ {A = ℕ} 0 1 = cc in omega arith) (λ e. let z : ◌≡◌ {A = ℕ} 0 1 = cc in omega arith)

-- ---- the limit is met: by 2^53 calls of 2 at f64, 2^24 at f32
doubled : (k p : ℕ) → 2 * k * p ≡ k * (p * 2) * 1
doubled k p = omega arith

even_value : (f : Format) (k : ℕ) → k < 2 ^ prec f → HasValue (whole f (2 * k)) false (2 * k) 1
unfolding whole of_int
even_value f k h =
    round_exact f false (2 * k) 1 k (suc (low f)) (omega arith) h (lt_of_lt_of_le (shl_lt (prec f) (suc (low f)) h) (pow_mono (room f)))
    (doubled k (2 ^ low f) ∙ ap (λ (p : ℕ). k * p * 1) (sym (pow-suc 2 (low f))))
  where
    room : (f : Format) → prec f + suc (low f) ≤ low f + suc (emax f)
    room binary32 = lit≤ tt
    room binary64 = lit≤ tt

sum_of_twos : (f : Format) (k : ℕ) → k ≤ 2 ^ prec f → (accumulated f (λ i. two) k).sum ≡ whole f (2 * k)
unfolding accumulated counted is_nan whole of_int
sum_of_twos f zero h = whole_zero f
sum_of_twos f (suc k) h =
    let z : 2 * k + 2 ≡ 2 * suc k = omega arith in
    ap (λ (x : Float). add f x two) (sum_of_twos f k (omega arith))
    ∙ add_values f (whole f (2 * k)) two (2 * k) 2 (even_value f k h) (refl, refl)
    ∙ ap (whole f) z

pub limit_met : (f : Format) → (accumulated f (λ i. two) (2 ^ prec f)).sum ≡ sum_limit f
unfolding whole of_int
limit_met binary32 = sum_of_twos binary32 (2 ^ 24) (le_refl (2 ^ 24))
limit_met binary64 = sum_of_twos binary64 (2 ^ 53) (le_refl (2 ^ 53))

pub limit_f64 : sum_limit binary64 ≡ whole binary64 (2 ^ 54)
unfolding whole of_int
limit_f64 = refl

pub limit_f32 : sum_limit binary32 ≡ whole binary32 (2 ^ 25)
unfolding whole of_int
limit_f32 = refl

-- ---- the hypotheses can be met: 2, a missing call, 1
abbrev sample : ℕ → Float
sample zero = two
sample (suc zero) = nan
sample (suc (suc i)) = one

sample_calls : (n : ℕ) → Calls sample n
sample_calls n zero h = is_two
sample_calls n (suc zero) h = is_missing
sample_calls n (suc (suc i)) h = is_one

sample_sum : (accumulated binary64 sample 3).sum ≡ fin false 3 (pos 0)
unfolding accumulated counted add is_nan
sample_sum = refl

sample_within : le (accumulated binary64 sample 3).sum (sum_limit binary64) ≡ true
sample_within = sum_within binary64 sample 3 (sample_calls 3)

sample_mean : is_nan (mean binary64 (accumulated binary64 sample 3)) ≡ false
unfolding no_value is_nan
sample_mean = mean_of_calls binary64 sample 3 (sample_calls 3) refl

sample_not_14 : marker_stats binary64 3 sample ≡ Err IllegalSnpMean → ⊥
sample_not_14 = calls_not_14 binary64 sample 3 (sample_calls 3)
