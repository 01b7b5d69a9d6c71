-- The root of specs/Root, over the format. What another crate cites:
-- `root_is`, the root of a positive finite value exists; `root_only`, it is the only one; `no_tie`, `no_tie_lower`, the value is at no midpoint's square;
-- `root_fits`, it is a value of the format; `root_nan` and what follows, the special cases; `root_nan_exactly`, `root_positive`, `root_not_below`, which roots are
-- NaN, positive, and never below zero; `count_exact`, the whole numbers are exact; `before_lt`, `after_lt`, `none_before`, `none_after`, the midpoints are those
-- beside the neighbouring floats; `half_gap`, below a power of two the gap is half the gap above. Assumes nothing.
use mathlib.Core.Path.{◌≡◌, refl, sym, ap, ap₂, ◌∙◌, subst, subst₂}
use mathlib.Core.Logic.{◌⊎◌, inl, inr}
use Prim.Native.Nat.{ℕ, zero, suc, ◌+◌, ◌-◌, ◌*◌, ◌/◌, ◌%◌, ◌^◌, ◌≤◌, ◌<◌, zero-le}
use native.Mathlib.Nat.{le_refl, le_trans, le_of_eq, lt_of_lt_of_le, lt_of_le_of_lt, le_of_lt, not-le_of_lt, lt_irrefl, not-suc-le-zero, eq-or-lt_of_le, zero-lt-suc, add-le-add, mul-le-mul, mul-le-mul_left, mul-le-mul_right, mul-lt-mul_of_pos_right, mul-pos, mul_assoc, mul_comm, mul_right_comm, eq_of_mul-eq-mul_right, pow-succ', le_of_suc-le-suc, lt_of_mul-lt-mul_right, zero-mul, zero-div, mul-div_cancel}
use native.Mathlib.Numerals.{add-one, sub-one}
use native.Mathlib.Omega.{arith}
use mathlib.Core.Bool.{Bool, true, false, not, cond, ◌&&◌, ◌||◌, true≢false}
use lib.IntN.{ℤ, pos, negsuc}
use lib.Dec.{T, ltb, leb, eqb, leb→le, ltb→lt, lt→ltb, nltb→le, T_not, not_T, lit≤}
use lib.Pow.{pow-add, pow_pos, pow_mono, pow-lt}
use lib.Ieee.{Float, nan, inf, fin, Format, binary32, binary64, prec, emax, low, up, down, hid, ones, of_bits, to_bits, fits, is_nan, lt}
use lib.Ieee.Fits.{up_pos, down_pos, nan-fits, inf-fits, and_l, and_r}
use lib.Ieee.Bits.{is_true, is_false, of_bits-to_bits, of_bits-fits}
use lib.Ieee.Exact.{HasValue}
use lib.Ieee.Positive.{positive}
use Rattle.root.specs.Root.{count, before, after, lower, upper, scaled, IsRoot, first_from, below_upper, root}
use Rattle.root.proofs.PatternLaws.{At, fields, at_value, at_count, next_count, count_step, count_lt, count_le, hid_pos, two_ones, inf_count, inf_pattern, last_count, plus, positive_plus, Pattern, pattern_of, pattern_pos, positive_at, bits_at, here_or_on}

-- ---- the search
record Found (test : ℕ → Bool) (k j r : ℕ) : Type 0 where
  passes : T (test r)
  within : r ≤ j
  earlier : (i : ℕ) → k ≤ i → i < r → T (not (test i))

found : (test : ℕ → Bool) (n k j : ℕ) → k ≤ j → j < k + n → T (test j) → Found test k j (first_from test n k)
unfolding first_from
found test zero k j l u t = absurd (none k j l u)
  where
    none : (a b : ℕ) → a ≤ b → b < a + 0 → ⊥
    none a b x y = omega arith
found test (suc n) k j l u t = go (test k) refl (λ (w : k < j). found test n (suc k) j w (omega arith) t)
  where
    go : (b : Bool) → test k ≡ b → (k < j → Found test (suc k) j (first_from test n (suc k))) → Found test k j (cond b k (first_from test n (suc k)))
    go true e r = record { passes = subst T (sym e) tt; within = l; earlier = λ i a b. absurd (not-le_of_lt b a) }
    go false e r =
        let no : T (not (test k)) = subst (λ (b : Bool). T (not b)) (sym e) tt in
        let w : k < j = elim (eq-or-lt_of_le l) [ inl z ↦ absurd (T_not (test k) no (subst (λ (i : ℕ). T (test i)) (sym z) t)) | inr w ↦ w ] in
        let f = r w in
        record {
          passes = f.passes;
          within = f.within;
          earlier = λ i a b. elim (eq-or-lt_of_le a) [ inl z ↦ subst (λ (x : ℕ). T (not (test x))) z no | inr x ↦ f.earlier i x b ];
        }

found_from_zero : (test : ℕ → Bool) (n j : ℕ) → j < n → T (test j) → Found test 0 j (first_from test n 0)
found_from_zero test n j u t = found test n 0 j zero-le (omega arith) t

-- a number that passes, with none that passes before it, is what the search finds
found_only : (test : ℕ → Bool) (n j : ℕ) → j < n → T (test j) → ((i : ℕ) → i < j → T (not (test i))) → first_from test n 0 ≡ j
found_only test n j u t none =
    let f = found_from_zero test n j u t in
    elim (eq-or-lt_of_le f.within) [ inl e ↦ e | inr l ↦ absurd (T_not (test (first_from test n 0)) (none (first_from test n 0) l) f.passes) ]

-- ---- twice the midpoint above the value of pattern K
abbrev pub mid : Format → ℕ → ℕ
mid f K = count f (of_bits f K) + count f (of_bits f (suc K))

upper_at : (f : Format) (K : ℕ) → K < ones f * hid f → upper f (of_bits f K) ≡ mid f K
upper_at f K u = ap (λ (z : ℕ). count f (of_bits f K) + count f (of_bits f z)) (add-one (to_bits f (of_bits f K)) ∙ ap suc (bits_at f K u))

lower_at : (f : Format) (K : ℕ) → suc K < ones f * hid f → lower f (of_bits f (suc K)) ≡ mid f K
lower_at f K u = ap (λ (z : ℕ). count f (of_bits f z) + count f (of_bits f (suc K))) (ap (λ (z : ℕ). z - 1) (bits_at f (suc K) u) ∙ sub-one (suc K))

mid_le : (f : Format) (J K : ℕ) → K ≤ J → J < ones f * hid f → mid f K ≤ mid f J
mid_le f J K l u = add-le-add (count_le f J K l (le_of_lt u)) (count_le f (suc J) (suc K) (omega arith) u)

test_at : (f : Format) (v : Float) (K : ℕ) → K < ones f * hid f → below_upper f v K ≡ ltb (scaled f v) (mid f K * mid f K)
test_at f v K u = ap (λ (z : ℕ). ltb (scaled f v) (z * z)) (upper_at f K u)

passes_at : (f : Format) (v : Float) (K : ℕ) → K < ones f * hid f → scaled f v < mid f K * mid f K → T (below_upper f v K)
passes_at f v K u h = subst T (sym (test_at f v K u)) (lt→ltb (scaled f v) (mid f K * mid f K) h)

at_passes : (f : Format) (v : Float) (K : ℕ) → K < ones f * hid f → T (below_upper f v K) → scaled f v < mid f K * mid f K
at_passes f v K u t = ltb→lt (scaled f v) (mid f K * mid f K) (subst T (test_at f v K u) t)

fails_at : (f : Format) (v : Float) (K : ℕ) → K < ones f * hid f → mid f K * mid f K ≤ scaled f v → T (not (below_upper f v K))
fails_at f v K u h = not_T (below_upper f v K) (λ (t : T (below_upper f v K)). not-le_of_lt (at_passes f v K u t) h)

at_fails : (f : Format) (v : Float) (K : ℕ) → K < ones f * hid f → T (not (below_upper f v K)) → mid f K * mid f K ≤ scaled f v
at_fails f v K u t = nltb→le (scaled f v) (mid f K * mid f K) (subst (λ (b : Bool). T (not b)) (test_at f v K u) t)

-- ---- no tie
-- Twice a midpoint is (2 * q + 1) * 2 ^ k, so its square is an odd square times 2 ^ (2 * k). The value, scaled, is n * 2 ^ b, with n of at most `prec`
-- binary digits and b above 0. Were the two equal, the odd square would be even, or at most n: but where k is not 0, 2 * q + 1 alone has more than `prec` digits.
odd_even : (q x y : ℕ) → (2 * q + 1) * (2 * q + 1) ≡ x * (2 * y) → ⊥
odd_even q x y e = parity (2 * (q * q) + 2 * q) (x * y) (omega (arith, e))
  where
    parity : (a b : ℕ) → 2 * a + 1 ≡ 2 * b → ⊥
    parity a b e = omega arith

split_pow : (a b : ℕ) → a ≤ b → 2 ^ b ≡ 2 ^ (b - a) * 2 ^ a
split_pow a b l = ap (λ (z : ℕ). 2 ^ z) (back a b l) ∙ pow-add 2 (b - a) a
  where
    back : (x y : ℕ) → x ≤ y → y ≡ y - x + x
    back x y h = omega arith

never : (h q k n b : ℕ) → n < 2 * h → (k ≡ 0) ⊎ (h ≤ q) → 0 < b → (2 * q + 1) * (2 * q + 1) * 2 ^ (k + k) ≡ n * 2 ^ b → ⊥
never h q k n b N l B e = go (here_or_on (k + k) b)
  where
    large : (k ≡ 0) ⊎ (h ≤ q) → b ≤ k + k → h ≤ q
    large (inl z) w = absurd (no k b z B w)
      where
        no : (k b : ℕ) → k ≡ 0 → 0 < b → b ≤ k + k → ⊥
        no k b z p w = omega arith
    large (inr g) w = g

    over : (p : ℕ) → 0 < p → h ≤ q → (2 * q + 1) * (2 * q + 1) * p ≡ n → ⊥
    over p P g w =
        let s : (2 * q + 1) * 1 ≤ (2 * q + 1) * (2 * q + 1) = mul-le-mul_left (2 * q + 1) (omega arith) in
        let t : (2 * q + 1) * (2 * q + 1) * 1 ≤ (2 * q + 1) * (2 * q + 1) * p = mul-le-mul_left ((2 * q + 1) * (2 * q + 1)) P in
        omega (arith, w)

    go : (k + k < b) ⊎ (b ≤ k + k) → ⊥
    go (inl w) =
        let c : (2 * q + 1) * (2 * q + 1) ≡ n * 2 ^ (b - (k + k)) = eq_of_mul-eq-mul_right (2 ^ (k + k)) (pow_pos (k + k)) ((2 * q + 1) * (2 * q + 1)) (n * 2 ^ (b - (k + k)))
        (e ∙ ap (λ (z : ℕ). n * z) (split_pow (k + k) b (le_of_lt w)) ∙ sym (mul_assoc n (2 ^ (b - (k + k))) (2 ^ (k + k)))) in
        odd_even q n (2 ^ (b - (k + k) - 1)) (c ∙ ap (λ (z : ℕ). n * 2 ^ z) (one_less (k + k) b w) ∙ ap (λ (z : ℕ). n * z) (pow-succ' 2 (b - (k + k) - 1)))
      where
        one_less : (x y : ℕ) → x < y → y - x ≡ suc (y - x - 1)
        one_less x y l = omega arith
    go (inr w) =
        over (2 ^ (k + k - b)) (pow_pos (k + k - b)) (large l w)
        (eq_of_mul-eq-mul_right (2 ^ b) (pow_pos b) ((2 * q + 1) * (2 * q + 1) * 2 ^ (k + k - b)) n
        (mul_assoc ((2 * q + 1) * (2 * q + 1)) (2 ^ (k + k - b)) (2 ^ b) ∙ ap (λ (z : ℕ). (2 * q + 1) * (2 * q + 1) * z) (sym (split_pow b (k + k) w)) ∙ e))

pub mid_is : (f : Format) (K k q : ℕ) → At f K k q → mid f K ≡ (2 * q + 1) * 2 ^ k
mid_is f K k q a = ap₂ (λ (x y : ℕ). x + y) (at_count f K k q a) (next_count f K k q a) ∙ join (2 ^ k) q
  where
    join : (x y : ℕ) → y * x + suc y * x ≡ (2 * y + 1) * x
    join x y = omega arith

pub squared : (o x : ℕ) → o * x * (o * x) ≡ o * o * (x * x)
squared o x = omega arith

mid_tie : (f : Format) (N K : ℕ) → N < ones f * hid f → K < ones f * hid f → 4 * (count f (of_bits f N) * 2 ^ low f) ≡ mid f K * mid f K → ⊥
mid_tie f N K i u e =
    let v = fields f N i in
    let a = fields f K u in
    let x = 2 ^ a.k in
    let o = 2 * a.q + 1 in
    let left : 4 * (count f (of_bits f N) * 2 ^ low f) ≡ v.q * 2 ^ (2 + (v.k + low f)) =
    ap (λ (z : ℕ). 4 * (z * 2 ^ low f)) (at_count f N v.k v.q v.at) ∙ four v.q (2 ^ v.k) (2 ^ low f)
    ∙ ap (λ (z : ℕ). v.q * z) (ap (λ (z : ℕ). 2 ^ 2 * z) (sym (pow-add 2 v.k (low f))) ∙ sym (pow-add 2 2 (v.k + low f))) in
    let right : mid f K * mid f K ≡ o * o * 2 ^ (a.k + a.k) =
    ap (λ (z : ℕ). z * z) (mid_is f K a.k a.q a.at) ∙ squared o x ∙ ap (λ (z : ℕ). o * o * z) (sym (pow-add 2 a.k a.k)) in
    never (hid f) a.q a.k v.q (2 + (v.k + low f)) v.at.digits a.at.leading (omega arith) (sym right ∙ sym e ∙ left)
  where
    four : (n a b : ℕ) → 4 * (n * a * b) ≡ n * (2 ^ 2 * (a * b))
    four n a b = omega arith

-- ---- the root by its pattern
-- the variance's own pattern
count_of : (f : Format) (v : Float) → T (fits f v) → T (positive v) → count f (of_bits f (to_bits f v)) ≡ count f v
count_of f v F p = ap (count f) (of_bits-to_bits f v F)

count_pos : (f : Format) (v : Float) → T (fits f v) → T (positive v) → 0 < count f v
count_pos f v F p =
    subst (λ (z : ℕ). 0 < z) (count_of f v F p)
    (lt_of_le_of_lt zero-le (count_lt f (to_bits f v) 0 (pattern_pos f v F p) (le_of_lt (pattern_of f v F (positive_plus v p)).below)))

count_under : (f : Format) (v : Float) → T (fits f v) → T (positive v) → count f v < 2 ^ (low f + suc (emax f))
count_under f v F p =
    subst₂ (λ (x y : ℕ). x < y) (count_of f v F p) (last_count f ∙ inf_count f)
    (count_lt f (ones f * hid f) (to_bits f v) (pattern_of f v F (positive_plus v p)).below (le_refl (ones f * hid f)))

two_emax : (f : Format) → 4 ≤ 2 ^ suc (emax f)
two_emax binary32 = lit≤ tt
two_emax binary64 = lit≤ tt

below_last : (n A E : ℕ) → n < A * E → 4 ≤ E → 4 * (n * A) < A * E * (A * E)
below_last n A E h k =
    let a : 4 * (n * A) ≤ n * (A * E) = omega (arith, mul-le-mul_left (n * A) k) in
    lt_of_le_of_lt a (mul-lt-mul_of_pos_right h (lt_of_le_of_lt zero-le h))

last_of : (f : Format) → suc (ones f * hid f - 1) ≡ ones f * hid f
last_of f = positive_suc (ones f * hid f) (mul-pos (lt_of_le_of_lt zero-le (two_ones f)) (hid_pos f))
  where
    positive_suc : (n : ℕ) → 0 < n → suc (n - 1) ≡ n
    positive_suc n h = omega arith

last_lt : (f : Format) → ones f * hid f - 1 < ones f * hid f
last_lt f = le_of_eq (last_of f)

last_passes : (f : Format) (v : Float) → T (fits f v) → T (positive v) → T (below_upper f v (ones f * hid f - 1))
last_passes f v F p =
    let K = ones f * hid f - 1 in
    let X = 2 ^ (low f + suc (emax f)) in
    let e : X ≡ 2 ^ low f * 2 ^ suc (emax f) = pow-add 2 (low f) (suc (emax f)) in
    let c : count f (of_bits f (suc K)) ≡ X = ap (λ (z : ℕ). count f (of_bits f z)) (last_of f) ∙ last_count f ∙ inf_count f in
    let m : X ≤ mid f K = omega (arith, c) in
    let b : scaled f v < X * X = subst (λ (z : ℕ). scaled f v < z * z) (sym e) (below_last (count f v) (2 ^ low f) (2 ^ suc (emax f)) (subst (λ (z : ℕ). count f v < z) e (count_under f v F p)) (two_emax f)) in
    passes_at f v K (last_lt f) (lt_of_lt_of_le b (mul-le-mul m m))

-- of a positive finite value the root is what the search finds
root_search : (f : Format) (v : Float) → T (positive v) → root f v ≡ of_bits f (first_from (below_upper f v) (ones f * hid f) 0)
unfolding root
root_search f nan p = absurd p
root_search f (inf s) p = absurd p
root_search f (fin true m e) p = absurd p
root_search f (fin false zero e) p = absurd p
root_search f (fin false (suc m) e) p = refl

-- +0 is too small
zero_fails : (f : Format) (v : Float) → T (fits f v) → T (positive v) → T (below_upper f v 0) → ⊥
zero_fails f v F p t =
    let u : 0 < ones f * hid f = mul-pos (lt_of_le_of_lt zero-le (two_ones f)) (hid_pos f) in
    let a : At f 0 0 0 = record { pattern = omega arith; leading = inl refl; digits = omega (arith, hid_pos f); finite = omega (arith, two_ones f) } in
    let m : mid f 0 ≡ 1 = mid_is f 0 0 0 a in
    let w : scaled f v < 1 * 1 = subst (λ (z : ℕ). scaled f v < z * z) m (at_passes f v 0 u t) in
    let c : 0 < count f v * 2 ^ low f = mul-pos (count_pos f v F p) (pow_pos (low f)) in
    omega arith

is_root_at : (f : Format) (v : Float) (K : ℕ) → suc K < ones f * hid f → mid f K * mid f K < scaled f v → scaled f v < mid f (suc K) * mid f (suc K) → IsRoot f v (of_bits f (suc K))
is_root_at f v K u a b = record {
  positive_finite = positive_at f (suc K) (zero-lt-suc K) u;
  above_lower = let h = subst (λ (z : ℕ). z * z < scaled f v) (sym (lower_at f K u)) a in omega (arith, h);
  below_upper_law = subst (λ (z : ℕ). scaled f v < z * z) (sym (upper_at f (suc K) u)) b;
}

tie_at : (f : Format) (v : Float) (K : ℕ) → T (fits f v) → T (positive v) → K < ones f * hid f → scaled f v ≡ mid f K * mid f K → ⊥
tie_at f v K F p u e = mid_tie f (to_bits f v) K (pattern_of f v F (positive_plus v p)).below u (ap (λ (z : ℕ). 4 * (z * 2 ^ low f)) (count_of f v F p) ∙ e)

-- The root of a positive finite value exists: it is positive and finite, and the value lies strictly between the squares of the midpoints beside it.
pub root_is : (f : Format) (v : Float) → T (fits f v) → T (positive v) → IsRoot f v (root f v)
root_is f v F p =
    subst (λ (s : Float). IsRoot f v s) (sym (root_search f v p)) (go (first_from (below_upper f v) (ones f * hid f) 0) (found_from_zero (below_upper f v) (ones f * hid f) (ones f * hid f - 1) (last_lt f) (last_passes f v F p)))
  where
    go : (K : ℕ) → Found (below_upper f v) 0 (ones f * hid f - 1) K → IsRoot f v (of_bits f K)
    go zero r = absurd (zero_fails f v F p r.passes)
    go (suc K) r =
        let u : suc K < ones f * hid f = lt_of_le_of_lt r.within (last_lt f) in
        let w : K < ones f * hid f = le_of_lt u in
        let l : mid f K * mid f K < scaled f v =
        elim (eq-or-lt_of_le (at_fails f v K w (r.earlier K zero-le (le_refl (suc K))))) [ inl e ↦ absurd (tie_at f v K F p w (sym e)) | inr l ↦ l ] in
        is_root_at f v K u l (at_passes f v (suc K) u r.passes)

-- by patterns, the root is the only one
pub root_at : (f : Format) (v : Float) (K : ℕ) → T (positive v) → suc K < ones f * hid f → mid f K * mid f K < scaled f v → scaled f v < mid f (suc K) * mid f (suc K) → of_bits f (suc K) ≡ root f v
root_at f v K p u a b =
    let none : (i : ℕ) → i < suc K → T (not (below_upper f v i)) =
    λ i l.
    let j : i ≤ K = le_of_suc-le-suc l in
    let w : K < ones f * hid f = le_of_lt u in
    let m : mid f i ≤ mid f K = mid_le f K i j w in
    fails_at f v i (lt_of_le_of_lt j w) (le_trans (mul-le-mul m m) (le_of_lt a)) in
    sym (root_search f v p ∙ ap (of_bits f) (found_only (below_upper f v) (ones f * hid f) (suc K) u (passes_at f v (suc K) u b) none))

-- a positive value by its pattern, which is one more than its lower neighbour's
record Beside (f : Format) (s : Float) : Type 0 where
  K : ℕ
  here : s ≡ of_bits f (suc K)
  under : suc K < ones f * hid f
  lower_one : before f s ≡ of_bits f K
  upper_one : after f s ≡ of_bits f (suc (suc K))

beside : (f : Format) (s : Float) → T (fits f s) → T (positive s) → Beside f s
beside f s F p = go (to_bits f s) refl
  where
    go : (n : ℕ) → to_bits f s ≡ n → Beside f s
    go zero e = absurd (lt_irrefl 0 (subst (λ (z : ℕ). 0 < z) e (pattern_pos f s F p)))
    go (suc n) e = record {
      K = n;
      here = sym (of_bits-to_bits f s F) ∙ ap (of_bits f) e;
      under = subst (λ (z : ℕ). z < ones f * hid f) e (pattern_of f s F (positive_plus s p)).below;
      lower_one = ap (λ (z : ℕ). of_bits f (z - 1)) e ∙ ap (of_bits f) (sub-one (suc n));
      upper_one = ap (λ (z : ℕ). of_bits f (z + 1)) e ∙ ap (of_bits f) (add-one (suc n));
    }

-- The root is the only one: a value of the format that is a root of v is `root f v`.
pub root_only : (f : Format) (v s : Float) → T (positive v) → T (fits f s) → IsRoot f v s → s ≡ root f v
root_only f v s p S r =
    let b = beside f s S r.positive_finite in
    let u = b.under in
    let q : IsRoot f v (of_bits f (suc b.K)) = subst (λ (x : Float). IsRoot f v x) b.here r in
    b.here
    ∙ root_at f v b.K p u (subst (λ (z : ℕ). z * z < scaled f v) (lower_at f b.K u) q.above_lower) (subst (λ (z : ℕ). scaled f v < z * z) (upper_at f (suc b.K) u) q.below_upper_law)

-- No tie can happen: the variance is never at a midpoint's square (the reason stands at "no tie" above).
pub no_tie : (f : Format) (v s : Float) → T (fits f v) → T (positive v) → T (fits f s) → T (positive s) → scaled f v ≡ upper f s * upper f s → ⊥
no_tie f v s F p S q e =
    let P = pattern_of f s S (positive_plus s q) in
    tie_at f v (to_bits f s) F p P.below (e ∙ ap (λ (z : ℕ). z * z) (ap (upper f) (sym P.is) ∙ upper_at f (to_bits f s) P.below))

-- nor at the square of the one below
pub no_tie_lower : (f : Format) (v s : Float) → T (fits f v) → T (positive v) → T (fits f s) → T (positive s) → scaled f v ≡ lower f s * lower f s → ⊥
no_tie_lower f v s F p S q e =
    let b = beside f s S q in
    tie_at f v b.K F p (le_of_lt b.under) (e ∙ ap (λ (x : ℕ). x * x) (ap (lower f) b.here ∙ lower_at f b.K b.under))

-- ---- the special cases
pub root_nan : (f : Format) → root f nan ≡ nan
unfolding root
root_nan f = refl

pub root_inf : (f : Format) → root f (inf false) ≡ inf false
unfolding root
root_inf f = refl

pub root_minus_inf : (f : Format) → root f (inf true) ≡ nan
unfolding root
root_minus_inf f = refl

pub root_zero : (f : Format) (s : Bool) (e : ℤ) → root f (fin s 0 e) ≡ fin s 0 e
unfolding root
root_zero f s e = refl

pub root_minus : (f : Format) (m : ℕ) (e : ℤ) → root f (fin true (suc m) e) ≡ nan
unfolding root
root_minus f m e = refl

pub root_fits : (f : Format) (v : Float) → T (fits f v) → T (fits f (root f v))
unfolding root
root_fits f nan F = nan-fits f
root_fits f (inf true) F = nan-fits f
root_fits f (inf false) F = inf-fits f false
root_fits f (fin s zero e) F = F
root_fits f (fin true (suc m) e) F = nan-fits f
root_fits f (fin false (suc m) e) F = of_bits-fits f (first_from (below_upper f (fin false (suc m) e)) (ones f * hid f) 0)

pub root_positive : (f : Format) (v : Float) → T (fits f v) → T (positive v) → T (positive (root f v))
root_positive f v F p = (root_is f v F p).positive_finite

-- no root is below zero
abbrev pub zero_value : Float
zero_value = fin false 0 (pos 0)

nothing_below : (a b : ℕ) → b ≡ 0 → T (not (ltb a b))
nothing_below a b e = not_T (ltb a b) (λ (t : T (ltb a b)). not-suc-le-zero (subst (λ (z : ℕ). a < z) e (ltb→lt a b t)))

zero_times : (a b : ℕ) → 0 * a * b ≡ 0
zero_times a b = omega arith

plus_not_below : (x : Float) → T (positive x) → T (not (lt x zero_value))
unfolding lt
plus_not_below nan p = absurd p
plus_not_below (inf s) p = absurd p
plus_not_below (fin true m e) p = absurd p
plus_not_below (fin false m e) p = nothing_below (m * up e * 1) (0 * 1 * down e) (zero_times 1 (down e))

pub root_not_below : (f : Format) (v : Float) → T (fits f v) → T (not (lt (root f v) zero_value))
unfolding lt
root_not_below f nan F = subst (λ (x : Float). T (not (lt x zero_value))) (sym (root_nan f)) tt
root_not_below f (inf true) F = subst (λ (x : Float). T (not (lt x zero_value))) (sym (root_minus_inf f)) tt
root_not_below f (inf false) F = subst (λ (x : Float). T (not (lt x zero_value))) (sym (root_inf f)) tt
root_not_below f (fin true zero e) F = subst (λ (x : Float). T (not (lt x zero_value))) (sym (root_zero f true e)) (nothing_below 0 (0 * up e * 1 + 0 * 1 * down e) (omega arith))
root_not_below f (fin false zero e) F = subst (λ (x : Float). T (not (lt x zero_value))) (sym (root_zero f false e)) (nothing_below (0 * up e * 1) (0 * 1 * down e) (zero_times 1 (down e)))
root_not_below f (fin true (suc m) e) F = subst (λ (x : Float). T (not (lt x zero_value))) (sym (root_minus f m e)) tt
root_not_below f (fin false (suc m) e) F = plus_not_below (root f (fin false (suc m) e)) (root_positive f (fin false (suc m) e) F (lt→ltb 0 (suc m) (zero-lt-suc m)))

-- a root is a NaN exactly where the value is a NaN or below zero
pub root_nan_exactly : (f : Format) (v : Float) → T (fits f v) → is_nan (root f v) ≡ (is_nan v || lt v zero_value)
unfolding is_nan lt
root_nan_exactly f nan F = ap is_nan (root_nan f)
root_nan_exactly f (inf true) F = ap is_nan (root_minus_inf f)
root_nan_exactly f (inf false) F = ap is_nan (root_inf f)
root_nan_exactly f (fin s zero e) F = ap is_nan (root_zero f s e) ∙ sym (is_false (lt (fin s zero e) zero_value) (subst (λ (x : Float). T (not (lt x zero_value))) (root_zero f s e) (root_not_below f (fin s zero e) F)))
root_nan_exactly f (fin true (suc m) e) F =
    ap is_nan (root_minus f m e) ∙ sym (is_true (ltb 0 (suc m * up e * 1 + 0 * 1 * down e)) (lt→ltb 0 (suc m * up e * 1 + 0 * 1 * down e) (omega (arith, mul-pos (zero-lt-suc m) (up_pos e)))))
root_nan_exactly f (fin false (suc m) e) F =
    let p : T (positive (fin false (suc m) e)) = lt→ltb 0 (suc m) (zero-lt-suc m) in
    number (root f (fin false (suc m) e)) (root_positive f (fin false (suc m) e) F p) ∙ sym (is_false (lt (fin false (suc m) e) zero_value) (plus_not_below (fin false (suc m) e) p))
  where
    number : (x : Float) → T (positive x) → is_nan x ≡ false
    number nan p = absurd p
    number (inf s) p = absurd p
    number (fin s m e) p = refl

-- ---- the count is exact, and orders values as `lt` does
pub count_exact : (f : Format) (s : Bool) (m : ℕ) (e : ℤ) → T (fits f (fin s m e)) → count f (fin s m e) * down e ≡ m * up e * 2 ^ low f
unfolding count fits
count_exact f s zero e F = exact_zero (up e) (2 ^ low f) (down e) (down_pos e)
  where
    exact_zero : (a b d : ℕ) → 0 < d → 0 * a * b / d * d ≡ 0 * a * b
    exact_zero a b d h = ap (λ (z : ℕ). z / d * d) (zero_times a b) ∙ ap (λ (z : ℕ). z * d) (zero-div d) ∙ zero-mul d ∙ sym (zero_times a b)
count_exact f s (suc m) (pos k) F = whole (suc m * 2 ^ k * 2 ^ low f)
  where
    whole : (n : ℕ) → n / 1 * 1 ≡ n
    whole n = omega arith
count_exact f s (suc m) (negsuc k) F =
    let d : 2 ^ suc k ≤ 2 ^ low f = leb→le (2 ^ suc k) (2 ^ low f) (and_r (eqb (suc m % 2) 1 && ltb (suc m) (2 ^ prec f)) (leb (2 ^ suc k) (2 ^ low f)) (and_l (eqb (suc m % 2) 1 && ltb (suc m) (2 ^ prec f) && leb (2 ^ suc k) (2 ^ low f)) (ltb (suc m * 1) (2 ^ suc (emax f) * 2 ^ suc k)) F)) in
    let l : suc k ≤ low f = elim (here_or_on (low f) (suc k)) [ inl w ↦ absurd (not-le_of_lt (pow-lt w) d) | inr w ↦ w ] in
    let e : suc m * 1 * 2 ^ low f ≡ suc m * 1 * 2 ^ (low f - suc k) * 2 ^ suc k = ap (λ (z : ℕ). suc m * 1 * z) (split_pow (suc k) (low f) l) ∙ sym (mul_assoc (suc m * 1) (2 ^ (low f - suc k)) (2 ^ suc k)) in
    ap (λ (z : ℕ). z / 2 ^ suc k * 2 ^ suc k) e ∙ ap (λ (z : ℕ). z * 2 ^ suc k) (mul-div_cancel (suc m * 1 * 2 ^ (low f - suc k)) (pow_pos (suc k))) ∙ sym e

-- a value of the format without a minus sign has its count of smallest values
plus_value : (f : Format) (x : Float) → T (fits f x) → T (plus x) → HasValue x false (count f x) (2 ^ low f)
plus_value f nan F p = absurd p
plus_value f (inf s) F p = absurd p
plus_value f (fin true m e) F p = absurd p
plus_value f (fin false m e) F p = (refl, sym (count_exact f false m e F))

cross : (a b A B d d' L : ℕ) → A * L ≡ a * d → B * L ≡ b * d' → A * d' * L ≡ a * (d * d')
cross a b A B d d' L h k = mul_right_comm A d' L ∙ ap (λ (z : ℕ). z * d') h ∙ mul_assoc a d d'

lt_counts : (x y : Float) (a b L : ℕ) → 0 < L → HasValue x false a L → HasValue y false b L → T (lt x y) → a < b
unfolding lt
lt_counts nan y a b L p h k t = absurd h
lt_counts (inf s) y a b L p h k t = absurd h
lt_counts (fin s m e) nan a b L p h k t = absurd k
lt_counts (fin s m e) (inf u) a b L p h k t = absurd k
lt_counts (fin true m e) (fin u n d) a b L p h k t = absurd (true≢false h.0)
lt_counts (fin false m e) (fin true n d) a b L p h k t = absurd t
lt_counts (fin false m e) (fin false n d) a b L p h k t =
    lt_of_mul-lt-mul_right (down e * down d)
    (subst₂ (λ (x y : ℕ). x < y) (cross a b (m * up e) (n * up d) (down e) (down d) L h.1 k.1)
    (cross b a (n * up d) (m * up e) (down d) (down e) L k.1 h.1 ∙ ap (λ (z : ℕ). b * z) (mul_comm (down d) (down e)))
    (mul-lt-mul_of_pos_right (ltb→lt (m * up e * down d) (n * up d * down e) t) p))

counts_lt : (x y : Float) (a b L : ℕ) → 0 < L → HasValue x false a L → HasValue y false b L → a < b → T (lt x y)
unfolding lt
counts_lt nan y a b L p h k l = absurd h
counts_lt (inf s) y a b L p h k l = absurd h
counts_lt (fin s m e) nan a b L p h k l = absurd k
counts_lt (fin s m e) (inf u) a b L p h k l = absurd k
counts_lt (fin true m e) (fin u n d) a b L p h k l = absurd (true≢false h.0)
counts_lt (fin false m e) (fin true n d) a b L p h k l = absurd (true≢false k.0)
counts_lt (fin false m e) (fin false n d) a b L p h k l =
    lt→ltb (m * up e * down d) (n * up d * down e)
    (lt_of_mul-lt-mul_right L
    (subst₂ (λ (x y : ℕ). x < y) (sym (cross a b (m * up e) (n * up d) (down e) (down d) L h.1 k.1))
    (sym (cross b a (n * up d) (m * up e) (down d) (down e) L k.1 h.1 ∙ ap (λ (z : ℕ). b * z) (mul_comm (down d) (down e))))
    (mul-lt-mul_of_pos_right l (mul-pos (down_pos e) (down_pos d)))))

-- ---- the neighbours
-- what is above a value without a minus sign, or below one, and is no infinity or NaN, has no minus sign either
above_plus : (w x y : Float) → T (plus w) → T (lt w x) → T (lt x y) → T (plus x)
unfolding lt
above_plus nan x y p a b = absurd p
above_plus (inf s) x y p a b = absurd p
above_plus (fin true m e) x y p a b = absurd p
above_plus (fin false m e) nan y p a b = absurd a
above_plus (fin false m e) (inf true) y p a b = absurd a
above_plus (fin false m e) (inf false) nan p a b = absurd b
above_plus (fin false m e) (inf false) (inf t) p a b = absurd b
above_plus (fin false m e) (inf false) (fin t n d) p a b = absurd b
above_plus (fin false m e) (fin true n d) y p a b = absurd a
above_plus (fin false m e) (fin false n d) y p a b = tt

-- patterns in the order of their counts
pattern_lt : (f : Format) (J K : ℕ) → K ≤ ones f * hid f → count f (of_bits f K) < count f (of_bits f J) → K < J
pattern_lt f J K u l = elim (here_or_on K J) [ inl w ↦ w | inr w ↦ absurd (not-le_of_lt l (count_le f K J w u)) ]

value_plus : (x : Float) (a c : ℕ) → HasValue x false a c → T (plus x)
value_plus nan a c h = absurd h
value_plus (inf s) a c h = absurd h
value_plus (fin true m e) a c h = absurd (true≢false h.0)
value_plus (fin false m e) a c h = tt

plus_at : (f : Format) (K : ℕ) → K < ones f * hid f → T (plus (of_bits f K))
plus_at f K u =
    let a = fields f K u in
    value_plus (of_bits f K) (a.q * 2 ^ a.k) (2 ^ low f) (at_value f K a.k a.q a.at)

value_at : (f : Format) (K : ℕ) → K < ones f * hid f → HasValue (of_bits f K) false (count f (of_bits f K)) (2 ^ low f)
value_at f K u = plus_value f (of_bits f K) (of_bits-fits f K) (plus_at f K u)

plus_under_inf : (x : Float) → T (plus x) → T (lt x (inf false))
unfolding lt
plus_under_inf nan p = absurd p
plus_under_inf (inf s) p = absurd p
plus_under_inf (fin true m e) p = absurd p
plus_under_inf (fin false m e) p = tt

ordered_at : (f : Format) (K : ℕ) → K < ones f * hid f → T (lt (of_bits f K) (of_bits f (suc K)))
ordered_at f K u = go (eq-or-lt_of_le u)
  where
    go : (suc K ≡ ones f * hid f) ⊎ (suc K < ones f * hid f) → T (lt (of_bits f K) (of_bits f (suc K)))
    go (inl e) = subst (λ (y : Float). T (lt (of_bits f K) y)) (sym (ap (of_bits f) e ∙ inf_pattern f)) (plus_under_inf (of_bits f K) (plus_at f K u))
    go (inr w) =
        counts_lt (of_bits f K) (of_bits f (suc K)) (count f (of_bits f K)) (count f (of_bits f (suc K))) (2 ^ low f) (pow_pos (low f)) (value_at f K u) (value_at f (suc K) w) (count_step f K u)

none_at : (f : Format) (K : ℕ) (x : Float) → K < ones f * hid f → T (fits f x) → T (lt (of_bits f K) x) → T (lt x (of_bits f (suc K))) → ⊥
none_at f K x u F a b =
    let p : T (plus x) = above_plus (of_bits f K) x (of_bits f (suc K)) (plus_at f K u) a b in
    let P = pattern_of f x F p in
    let c : count f (of_bits f K) < count f x = lt_counts (of_bits f K) x (count f (of_bits f K)) (count f x) (2 ^ low f) (pow_pos (low f)) (value_at f K u) (plus_value f x F p) a in
    let l : K < to_bits f x = pattern_lt f (to_bits f x) K (le_of_lt u) (subst (λ (z : Float). count f (of_bits f K) < count f z) (sym P.is) c) in
    go p P l (eq-or-lt_of_le u)
  where
    go : T (plus x) → Pattern f x → K < to_bits f x → (suc K ≡ ones f * hid f) ⊎ (suc K < ones f * hid f) → ⊥
    go p P l (inl e) = not-le_of_lt P.below (subst (λ (z : ℕ). z ≤ to_bits f x) e l)
    go p P l (inr w) =
        let c : count f x < count f (of_bits f (suc K)) = lt_counts x (of_bits f (suc K)) (count f x) (count f (of_bits f (suc K))) (2 ^ low f) (pow_pos (low f)) (plus_value f x F p) (value_at f (suc K) w) b in
        let m : to_bits f x < suc K = pattern_lt f (suc K) (to_bits f x) (le_of_lt P.below) (subst (λ (z : Float). count f z < count f (of_bits f (suc K))) (sym P.is) c) in
        not-le_of_lt m l

-- `before` and `after` are the floats beside a positive s: they lie on each side of s, and no value of the format lies strictly between.
pub before_lt : (f : Format) (s : Float) → T (fits f s) → T (positive s) → T (lt (before f s) s)
before_lt f s F p =
    let b = beside f s F p in
    subst₂ (λ (x y : Float). T (lt x y)) (sym b.lower_one) (sym b.here) (ordered_at f b.K (le_of_lt b.under))

pub after_lt : (f : Format) (s : Float) → T (fits f s) → T (positive s) → T (lt s (after f s))
after_lt f s F p =
    let b = beside f s F p in
    subst₂ (λ (x y : Float). T (lt x y)) (sym b.here) (sym b.upper_one) (ordered_at f (suc b.K) b.under)

pub none_before : (f : Format) (s x : Float) → T (fits f s) → T (positive s) → T (fits f x) → T (lt (before f s) x) → T (lt x s) → ⊥
none_before f s x F p X l u =
    let b = beside f s F p in
    none_at f b.K x (le_of_lt b.under) X (subst (λ (y : Float). T (lt y x)) b.lower_one l) (subst (λ (y : Float). T (lt x y)) b.here u)

pub none_after : (f : Format) (s x : Float) → T (fits f s) → T (positive s) → T (fits f x) → T (lt s x) → T (lt x (after f s)) → ⊥
none_after f s x F p X l u =
    let b = beside f s F p in
    none_at f (suc b.K) x b.under X (subst (λ (y : Float). T (lt y x)) b.here l) (subst (λ (y : Float). T (lt x y)) b.upper_one u)

-- Below a power of two the gap is half the gap above: at hid * 2 ^ (k + 1) smallest values, 2 ^ k and 2 ^ (k + 1).
pub half_gap : (f : Format) (s : Float) (k : ℕ) → T (fits f s) → T (positive s) → count f s ≡ hid f * 2 ^ suc k
    → (count f s ≡ count f (before f s) + 2 ^ k) × (count f (after f s) ≡ count f s + 2 ^ suc k)
half_gap f s k F p e =
    let b = beside f s F p in
    let J = k * hid f + (2 * hid f - 1) in
    let H = hid_pos f in
    let here : count f s ≡ count f (of_bits f (suc b.K)) = ap (count f) b.here in
    let o : suc (suc k) < ones f = few f k (subst (λ (z : ℕ). z < hid f * 2 ^ (ones f - 1)) (sym here ∙ e) (subst (λ (z : ℕ). count f (of_bits f (suc b.K)) < z) (last_count f) (count_lt f (ones f * hid f) (suc b.K) b.under (le_refl (ones f * hid f))))) in
    let low_at : At f J k (2 * hid f - 1) = record { pattern = refl; leading = inr (omega arith); digits = omega arith; finite = le_of_lt o } in
    let high_at : At f (suc J) (suc k) (hid f) = record { pattern = whole (hid f) k H; leading = inr (le_refl (hid f)); digits = omega arith; finite = o } in
    let same : suc b.K ≡ suc J = only f (suc b.K) (suc J) (le_of_lt b.under) (under f (suc J) (suc k) (hid f) high_at) (sym here ∙ e ∙ sym (at_count f (suc J) (suc k) (hid f) high_at)) in
    let lower_one : count f (before f s) ≡ (2 * hid f - 1) * 2 ^ k = ap (count f) b.lower_one ∙ ap (λ (z : ℕ). count f (of_bits f z)) (less b.K J same) ∙ at_count f J k (2 * hid f - 1) low_at in
    let upper_one : count f (after f s) ≡ suc (hid f) * 2 ^ suc k = ap (count f) b.upper_one ∙ ap (λ (z : ℕ). count f (of_bits f (suc z))) same ∙ next_count f (suc J) (suc k) (hid f) high_at in (
      here ∙ ap (λ (z : ℕ). count f (of_bits f z)) same ∙ next_count f J k (2 * hid f - 1) low_at ∙ more (2 * hid f - 1) (2 ^ k) ∙ ap (λ (z : ℕ). z + 2 ^ k) (sym lower_one),
      upper_one ∙ more (hid f) (2 ^ suc k) ∙ ap (λ (z : ℕ). z + 2 ^ suc k) (sym e),
    )
  where
    whole : (h k : ℕ) → 0 < h → suc (k * h + (2 * h - 1)) ≡ suc k * h + h
    whole h k p = omega arith

    more : (q x : ℕ) → suc q * x ≡ q * x + x
    more q x = omega arith

    less : (a b : ℕ) → suc a ≡ suc b → a ≡ b
    less a b e = omega arith

    few : (f : Format) (k : ℕ) → hid f * 2 ^ suc k < hid f * 2 ^ (ones f - 1) → suc (suc k) < ones f
    few f k l = elim (here_or_on (suc (suc k)) (ones f)) [ inl w ↦ w | inr w ↦ absurd (not-le_of_lt l (mul-le-mul_left (hid f) (pow_mono (pred_le (suc k) (ones f) w)))) ]
      where
        pred_le : (a b : ℕ) → b ≤ suc a → b - 1 ≤ a
        pred_le a b h = omega arith

    under : (f : Format) (K k q : ℕ) → At f K k q → K ≤ ones f * hid f
    under f K k q a = omega (arith, a.pattern, a.digits, mul-le-mul_right (hid f) a.finite)

    only : (f : Format) (K J : ℕ) → K ≤ ones f * hid f → J ≤ ones f * hid f → count f (of_bits f K) ≡ count f (of_bits f J) → K ≡ J
    only f K J u w e = elim (here_or_on K J) [ inl l ↦ absurd (not-le_of_lt (count_lt f J K l w) (le_of_eq (sym e))) | inr l ↦ elim (eq-or-lt_of_le l) [ inl z ↦ sym z | inr g ↦ absurd (not-le_of_lt (count_lt f K J g u) (le_of_eq e)) ] ]
