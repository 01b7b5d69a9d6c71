-- Of any values the count is an exact whole number; of decoded calls of few enough animals the sum and the sum of squares are too; so the statistics of
-- animals reordered are equal.
use mathlib.Core.Path.{◌≡◌, refl, sym, ap, subst, ◌∙◌}
use mathlib.Core.Bool.{Bool, true, false, ◌&&◌, cond, true≢false}
use Prim.Native.Nat.{ℕ, zero, suc, ◌+◌, ◌*◌, ◌^◌, ◌<◌, ◌≤◌}
use native.Mathlib.Nat.{mul-pos, eq-or-lt_of_le, le_of_suc-le-suc}
use native.Mathlib.Omega.{arith}
use mathlib.Core.Logic.{◌⊎◌, inl, inr}
use lib.Dec.{lit≤, ltb, eqb}
use lib.IntN.{pos}
use lib.Ieee.{Float, nan, inf, fin, Format, binary32, binary64, prec, up, down, round, of_int, add, mul, is_nan}
use lib.Ieee.Fits.{down_pos}
use lib.Ieee.Exact.{HasValue}
use lib.Ieee.Back.{round_whole}
use lib.Ieee.Scale.{round_same}
use borrow.Author.Tests.{ltb-true, lt-ltb, ne_eqb}
use Rattle.statistics.specs.declared.Accumulator.{Accumulator}
use Rattle.statistics.specs.Statistics.{plus_zero, one, counted, accumulated, no_value, marker_stats, stats_from}
use Rattle.statistics.specs.Calls.{two, IsCall, is_zero, is_one, is_two, is_missing, whole, present, copy_count, total, observed, FewEnough, Calls, SameSums, SumsAgree}
use Rattle.statistics.proofs.CountLaws.{stats_from_law}

-- ---- sums of whole numbers
cross : (x y p q a b : ℕ) → x * 1 ≡ a * p → y * 1 ≡ b * q → (x * q + y * p) * 1 ≡ (a + b) * (p * q)
cross x y p q a b e g =
    let e' : x ≡ a * p = omega arith in
    let g' : y ≡ b * q = omega arith in
    let u : x * q ≡ a * p * q = ap (λ (z : ℕ). z * q) e' in
    let v : y * p ≡ b * q * p = ap (λ (z : ℕ). z * p) g' in
    omega arith

pub add_values : (f : Format) (x y : Float) (a b : ℕ) → HasValue x false a 1 → HasValue y false b 1 → add f x y ≡ round f false (a + b) 1
unfolding add
add_values f nan y a b v w = elim v [ ]
add_values f (inf _) y a b v w = elim v [ ]
add_values f (fin false m e) nan a b v w = elim w [ ]
add_values f (fin false m e) (inf _) a b v w = elim w [ ]
add_values f (fin true m e) y a b v w = absurd (true≢false v.0)
add_values f (fin false m e) (fin true n d) a b v w = absurd (true≢false w.0)
add_values f (fin false m e) (fin false n d) a b v w =
    round_same f false (m * up e * down d + n * up d * down e) (down e * down d) (a + b) 1 (mul-pos (down_pos e) (down_pos d)) (omega arith)
    (cross (m * up e) (n * up d) (down e) (down d) a b v.1 w.1)

whole_value : (f : Format) (n : ℕ) → n ≤ 2 ^ prec f → HasValue (whole f n) false n 1
unfolding whole of_int
whole_value f n h = round_whole f false n h

-- a whole number and a call's
pub whole_add : (f : Format) (n k : ℕ) (v : Float) → n ≤ 2 ^ prec f → HasValue v false k 1 → add f (whole f n) v ≡ whole f (n + k)
unfolding whole of_int
whole_add f n k v h w = add_values f (whole f n) v n k (whole_value f n h) w

pub whole_zero : (f : Format) → plus_zero ≡ whole f 0
unfolding whole of_int round
whole_zero binary32 = refl
whole_zero binary64 = refl

one_squared : (f : Format) → mul f one one ≡ one
unfolding mul round
one_squared binary32 = refl
one_squared binary64 = refl

zero_squared : (f : Format) → mul f plus_zero plus_zero ≡ plus_zero
unfolding mul round
zero_squared binary32 = refl
zero_squared binary64 = refl

two_squared : (f : Format) → mul f two two ≡ fin false 1 (pos 2)
unfolding mul round
two_squared binary32 = refl
two_squared binary64 = refl

-- ---- the count, of any values: up to 2^prec of them, 2^53 at f64, it is exactly how many are no NaN
count_more : (f : Format) (a : Accumulator) (n : ℕ) (v : Float) → n ≤ 2 ^ prec f → a.count ≡ whole f n → (counted f a v).count ≡ whole f (n + present v)
unfolding counted present
count_more f a n v h e = by_test (is_nan v)
  where
    by_test :
        (b : Bool) → (cond b a (record { count = add f a.count one; sum = add f a.sum v; squares = add f a.squares (mul f v v) })).count ≡ whole f (n + cond b 0 1)
    by_test true = let z : n ≡ n + 0 = omega arith in e ∙ ap (whole f) z
    by_test false = ap (λ (x : Float). add f x one) e ∙ whole_add f n 1 one h (refl, refl)

observed_most : (column : ℕ → Float) (n : ℕ) → observed column n ≤ n
unfolding total present
observed_most column zero = omega arith
observed_most column (suc n) = let a = observed_most column n in let b : present (column n) ≤ 1 = at_most (is_nan (column n)) in omega arith
  where
    at_most : (b : Bool) → cond b 0 1 ≤ 1
    at_most true = omega arith
    at_most false = omega arith

module _ (f : Format) (column : ℕ → Float) where
  pub observed_is : (n : ℕ) → n ≤ 2 ^ prec f → (accumulated f column n).count ≡ whole f (observed column n)
  unfolding accumulated total
  observed_is zero h = whole_zero f
  observed_is (suc n) h =
      let a : observed column n ≤ n = observed_most column n in
      count_more f (accumulated f column n) (observed column n) (column n) (omega arith) (observed_is n (omega arith))

-- past them it stays 2^prec
pub count_stays : (f : Format) → add f (fin false 1 (pos (prec f))) one ≡ fin false 1 (pos (prec f))
unfolding add
count_stays binary32 = refl
count_stays binary64 = refl

-- none is observed exactly if there is "no non-NaN value"
pub none_observed : (column : ℕ → Float) (n : ℕ) → eqb (observed column n) 0 ≡ no_value column n
unfolding total present no_value
none_observed column zero = refl
none_observed column (suc n) = by_test (is_nan (column n)) (no_value column n) (none_observed column n)
  where
    by_test : (b p : Bool) → eqb (observed column n) 0 ≡ p → eqb (observed column n + cond b 0 1) 0 ≡ (p && b)
    by_test true true e = let z : observed column n + 0 ≡ observed column n = omega arith in ap (λ (k : ℕ). eqb k 0) z ∙ e
    by_test true false e = let z : observed column n + 0 ≡ observed column n = omega arith in ap (λ (k : ℕ). eqb k 0) z ∙ e
    by_test false true e = ne_eqb (observed column n + 1) 0 (λ z. omega arith)
    by_test false false e = ne_eqb (observed column n + 1) 0 (λ z. omega arith)

-- ---- one call more
pub record Exactly (f : Format) (a : Accumulator) (s q : ℕ) : Type 0 where
  pub sum_exact : a.sum ≡ whole f s
  pub squares_exact : a.squares ≡ whole f q

one_more : (f : Format) (a : Accumulator) (s q : ℕ) (v : Float) (k l : ℕ) → s ≤ 2 ^ prec f → q ≤ 2 ^ prec f → Exactly f a s q
    → HasValue v false k 1 → HasValue (mul f v v) false l 1
    → Exactly f (record { count = add f a.count one; sum = add f a.sum v; squares = add f a.squares (mul f v v) }) (s + k) (q + l)
one_more f a s q v k l hs hq p w z = record {
  sum_exact = ap (λ (x : Float). add f x v) p.sum_exact ∙ whole_add f s k v hs w;
  squares_exact = ap (λ (x : Float). add f x (mul f v v)) p.squares_exact ∙ whole_add f q l (mul f v v) hq z;
}

none_more : (f : Format) (a : Accumulator) (s q : ℕ) → Exactly f a s q → Exactly f a (s + 0) (q + 0)
none_more f a s q p =
    let y : s ≡ s + 0 = omega arith in
    let z : q ≡ q + 0 = omega arith in
    record { sum_exact = p.sum_exact ∙ ap (whole f) y; squares_exact = p.squares_exact ∙ ap (whole f) z }

call_more : (f : Format) (a : Accumulator) (s q : ℕ) (v : Float) → IsCall v → s ≤ 2 ^ prec f → q ≤ 2 ^ prec f → Exactly f a s q
    → Exactly f (counted f a v) (s + copy_count v) (q + copy_count v * copy_count v)
unfolding counted copy_count is_nan
call_more f a s q v is_zero hs hq p =
    one_more f a s q plus_zero 0 0 hs hq p (refl, refl) (subst (λ (x : Float). HasValue x false 0 1) (sym (zero_squared f)) (refl, refl))
call_more f a s q v is_one hs hq p =
    one_more f a s q one 1 1 hs hq p (refl, refl) (subst (λ (x : Float). HasValue x false 1 1) (sym (one_squared f)) (refl, refl))
call_more f a s q v is_two hs hq p =
    one_more f a s q two 2 4 hs hq p (refl, refl) (subst (λ (x : Float). HasValue x false 4 1) (sym (two_squared f)) (refl, refl))
call_more f a s q v is_missing hs hq p = none_more f a s q p

-- ---- the sums are small
call_small : (v : Float) → IsCall v → (copy_count v ≤ 4) × (copy_count v * copy_count v ≤ 4)
unfolding copy_count
call_small v is_zero = (lit≤ tt, lit≤ tt)
call_small v is_one = (lit≤ tt, lit≤ tt)
call_small v is_two = (lit≤ tt, lit≤ tt)
call_small v is_missing = (lit≤ tt, lit≤ tt)

total_small : (h : ℕ → ℕ) (n : ℕ) → ((i : ℕ) → i < n → h i ≤ 4) → total h n ≤ 4 * n
unfolding total
total_small h zero s = omega arith
total_small h (suc n) s = let a : total h n ≤ 4 * n = total_small h n (λ i l. s i (omega arith)) in let b : h n ≤ 4 = s n (omega arith) in omega arith

-- ---- sum and sum of squares of calls are exact
module _ (f : Format) (column : ℕ → Float) where
  sums : (n : ℕ) → Calls column n → FewEnough f n
      → Exactly f (accumulated f column n) (total (λ i. copy_count (column i)) n) (total (λ i. copy_count (column i) * copy_count (column i)) n)
  unfolding accumulated total
  sums zero calls few = record { sum_exact = whole_zero f; squares_exact = whole_zero f }
  sums (suc n) calls few =
      let small : (i : ℕ) → i < n → (copy_count (column i) ≤ 4) × (copy_count (column i) * copy_count (column i) ≤ 4) = (λ i l. call_small (column i) (calls i (omega arith))) in
      let b : total (λ i. copy_count (column i)) n ≤ 4 * n = total_small (λ i. copy_count (column i)) n (λ i l. (small i l).0) in
      let c : total (λ i. copy_count (column i) * copy_count (column i)) n ≤ 4 * n = total_small (λ i. copy_count (column i) * copy_count (column i)) n (λ i l. (small i l).1) in
      call_more f (accumulated f column n) (total (λ i. copy_count (column i)) n) (total (λ i. copy_count (column i) * copy_count (column i)) n) (column n)
      (calls n (omega arith)) (omega arith) (omega arith) (sums n (λ i l. calls i (omega arith)) (omega arith))

  pub exact_sum : (n : ℕ) → Calls column n → FewEnough f n → (accumulated f column n).sum ≡ whole f (total (λ i. copy_count (column i)) n)
  exact_sum n calls few = (sums n calls few).sum_exact

  pub exact_squares : (n : ℕ) → Calls column n → FewEnough f n → (accumulated f column n).squares ≡ whole f (total (λ i. copy_count (column i) * copy_count (column i)) n)
  exact_squares n calls few = (sums n calls few).squares_exact

-- ---- animals reordered
triple : Float → Float → Float → Accumulator
triple x y z = record { count = x; sum = y; squares = z }

module _ (f : Format) (xs ys : ℕ → Float) (n : ℕ) (calls : Calls xs n) (calls' : Calls ys n) (few : FewEnough f n) (same : SameSums xs ys n) where
  pub reordered_accumulator : accumulated f xs n ≡ accumulated f ys n
  unfolding triple
  reordered_accumulator =
      let most : n ≤ 2 ^ prec f = omega arith in
      let a : (accumulated f xs n).count ≡ (accumulated f ys n).count = (observed_is f xs n most ∙ ap (whole f) (same present) ∙ sym (observed_is f ys n most)) in
      let b : (accumulated f xs n).sum ≡ (accumulated f ys n).sum = (exact_sum f xs n calls few ∙ ap (whole f) (same copy_count) ∙ sym (exact_sum f ys n calls' few)) in
      let c : (accumulated f xs n).squares ≡ (accumulated f ys n).squares = (
      exact_squares f xs n calls few ∙ ap (whole f) (same (λ v. copy_count v * copy_count v)) ∙ sym (exact_squares f ys n calls' few)
      ) in
      λ i. triple (a i) (b i) (c i)

  pub reordered_stats : marker_stats f n xs ≡ marker_stats f n ys
  reordered_stats = sym (stats_from_law f xs n) ∙ ap (stats_from f) reordered_accumulator ∙ stats_from_law f ys n

-- ---- a list of places that names each once
pub total_ext : (g h : ℕ → ℕ) (n : ℕ) → ((i : ℕ) → i < n → g i ≡ h i) → total g n ≡ total h n
unfolding total
total_ext g h zero e = refl
total_ext g h (suc n) e = let a : total g n ≡ total h n = total_ext g h n (λ i l. e i (omega arith)) in let b : g n ≡ h n = e n (omega arith) in omega arith

total_none : (h : ℕ → ℕ) (n : ℕ) → ((i : ℕ) → i < n → h i ≡ 0) → total h n ≡ 0
unfolding total
total_none h zero e = refl
total_none h (suc n) e = let a : total h n ≡ 0 = total_none h n (λ i l. e i (omega arith)) in let b : h n ≡ 0 = e n (omega arith) in omega arith

total_zero : (h : ℕ → ℕ) (n k : ℕ) → total h n ≡ 0 → k < n → h k ≡ 0
unfolding total
total_zero h zero k e l = absurd (let z : k < 0 = l in omega arith)
total_zero h (suc n) k e l = go (eq-or-lt_of_le (le_of_suc-le-suc l)) (total_zero h n k (omega arith))
  where
    go : (k ≡ n) ⊎ (k < n) → (k < n → h k ≡ 0) → h k ≡ 0
    go (inl q) earlier = let z : h n ≡ 0 = omega arith in ap h q ∙ z
    go (inr q) earlier = earlier q

-- it names only those places
pub names_below : (π : ℕ → ℕ) (n : ℕ) → SumsAgree π n → (k : ℕ) → k < n → π k < n
names_below π n names k l = go (ltb (π k) n) refl
  where
    outside : ℕ → ℕ
    outside j = cond (ltb j n) 0 1

    none : total outside n ≡ 0
    none = total_none outside n (λ i h. ap (λ (b : Bool). cond b 0 1) (lt-ltb i n h))

    at_zero : outside (π k) ≡ 0
    at_zero = total_zero (λ j. outside (π j)) n k (names outside ∙ none) l

    go : (b : Bool) → ltb (π k) n ≡ b → π k < n
    go true e = ltb-true (π k) n e
    go false e = absurd (let z : 1 ≡ 0 = (sym (ap (λ (b : Bool). cond b 0 1) e) ∙ at_zero) in omega arith)

-- and every sum over the values at those places agrees
pub names_same : (π : ℕ → ℕ) (n : ℕ) (column : ℕ → Float) → SumsAgree π n → SameSums (λ k. column (π k)) column n
names_same π n column names h = names (λ j. h (column j))

-- ---- the hypotheses can be met
pub f64_enough : FewEnough binary64 1000000000
f64_enough = lit≤ tt

pub f32_enough : FewEnough binary32 4194304
f32_enough = lit≤ tt
