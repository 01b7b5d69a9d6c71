-- A marker's count is below 1 exactly if it has no non-NaN value; and what is found for a marker rests on its values alone.
use mathlib.Core.Path.{◌≡◌, refl, sym, ap, subst, ◌∙◌}
use mathlib.Core.Bool.{Bool, true, false, ◌&&◌, ◌||◌, cond}
use Prim.Native.Nat.{ℕ, zero, suc, ◌+◌, ◌*◌, ◌<◌, ◌≤◌}
use native.Mathlib.Numerals.{add-one}
use native.Mathlib.Omega.{arith}
use lib.Dec.{T, ltb, eqb, ltb→lt, eqb→eq}
use lib.IntN.{ℤ}
use lib.Ieee.{Float, nan, inf, fin, Format, binary32, binary64, up, down, round, add, mul, lt, le, eq, is_nan}
use lib.Ieee.Fits.{down_pos}
use lib.Ieee.Order.{round_mono}
use borrow.Author.Tests.{le-ltb}
use Rattle.std.specs.Prelude.{Option, Some, None, Result, Ok, Err}
use Rattle.statistics.specs.declared.Accumulator.{Accumulator}
use Rattle.statistics.specs.declared.Stats.{Stats}
use Rattle.statistics.specs.declared.MarkerStats.{MarkerStats}
use Rattle.statistics.specs.declared.MarkerError.{MarkerError}
use Rattle.statistics.specs.declared.MarkerError.TheVariants.{NoIndividuals, IllegalSnpMean}
use Rattle.statistics.specs.Statistics.{plus_zero, one, counted, accumulated, mean, stats_of, no_value, lent, found_with, marker_stats, found_for}
use Rattle.statistics.specs.Statistics.{stats_from}

pub one_whole : (f : Format) → round f false 1 1 ≡ one
unfolding round
one_whole binary32 = refl
one_whole binary64 = refl

-- ---- a count of 1 or more stays so
pub at_most : (a b : ℕ) (x : Bool) → T (ltb b a || (eqb b a && x)) → b ≤ a
at_most a b x t = go (ltb b a) (eqb b a) x (ltb→lt b a) (eqb→eq b a) t
  where
    go : (p q y : Bool) → (T p → b < a) → (T q → b ≡ a) → T (p || (q && y)) → b ≤ a
    go true q y l e t = let h : b < a = l tt in omega arith
    go false true y l e t = let h : b ≡ a = e tt in omega arith
    go false false y l e t = absurd t

pub not_below : (e : ℤ) (m : ℕ) → T (eqb (1 * 1 * down e) (m * up e * 1) && (false || eqb (1 * 1 * down e) 0)) → ⊥
not_below e m t = go (eqb (1 * 1 * down e) (m * up e * 1)) (eqb (1 * 1 * down e) 0) (eqb→eq (1 * 1 * down e) 0) t
  where
    go : (p q : Bool) → (T q → 1 * 1 * down e ≡ 0) → T (p && (false || q)) → ⊥
    go true true z t = let d : 0 < down e = down_pos e in let k : 1 * 1 * down e ≡ 0 = z tt in omega arith
    go true false z t = t
    go false q z t = t

more_than_one : (f : Format) (c : Float) → T (le one c) → T (le one (add f c one))
unfolding le lt eq add
more_than_one f nan t = absurd t
more_than_one f (inf true) t = absurd t
more_than_one f (inf false) t = tt
more_than_one f (fin true m e) t = absurd (not_below e m t)
more_than_one f (fin false m e) t =
    subst (λ (x : Float). T (le x (round f false (m * up e * 1 + 1 * 1 * down e) (down e * 1)))) (one_whole f)
    (round_mono f 1 1 (m * up e * 1 + 1 * 1 * down e) (down e * 1) (omega arith) (let d : 0 < down e = down_pos e in omega arith) (omega arith))

not_few : (c : Float) → T (le one c) → lt c one ≡ false
unfolding le lt eq
not_few nan t = absurd t
not_few (inf true) t = absurd t
not_few (inf false) t = refl
not_few (fin true m e) t = absurd (not_below e m t)
not_few (fin false m e) t = le-ltb (m * up e * 1) (1 * 1 * down e) (at_most (m * up e * 1) (1 * 1 * down e) (true || eqb (1 * 1 * down e) 0) t)

-- a count, by whether no value was counted
abbrev pub Counts : Bool → Float → Type 0
Counts true c = c ≡ plus_zero
Counts false c = T (le one c)

first_one : (f : Format) → T (le one (add f plus_zero one))
unfolding le lt eq add
first_one binary32 = tt
first_one binary64 = tt

counts_more : (f : Format) (none missing : Bool) (a : Accumulator) (v : Float) → Counts none a.count
    → Counts (none && missing) (cond missing a (record { count = add f a.count one; sum = add f a.sum v; squares = add f a.squares (mul f v v) })).count
counts_more f true true a v h = h
counts_more f false true a v h = h
counts_more f true false a v h = subst (λ (c : Float). T (le one (add f c one))) (sym h) (first_one f)
counts_more f false false a v h = more_than_one f a.count h

pub counts : (f : Format) (column : ℕ → Float) (n : ℕ) → Counts (no_value column n) (accumulated f column n).count
unfolding no_value accumulated counted
counts f column zero = refl
counts f column (suc n) = counts_more f (no_value column n) (is_nan (column n)) (accumulated f column n) (column n) (counts f column n)

few : (none : Bool) (c : Float) → Counts none c → lt c one ≡ none
unfolding lt
few true c e = ap (λ (x : Float). lt x one) e
few false c t = not_few c t

-- what the code makes of an accumulator is what document 01 says of the marker
pub stats_from_law : (f : Format) (column : ℕ → Float) (n : ℕ) → stats_from f (accumulated f column n) ≡ marker_stats f n column
unfolding stats_from marker_stats
stats_from_law f column n =
    let a = accumulated f column n in
    ap (λ (b : Bool). cond b (Err NoIndividuals) (cond (is_nan (mean f a)) (Err IllegalSnpMean) (Ok (found_with (stats_of f a) a.count)))) (few (no_value column n) a.count (counts f column n))

-- what is found is not lent
abbrev observed_of : Result MarkerStats MarkerError → Option Float
observed_of (Ok found) = found.observed
observed_of (Err e) = None

pub found_not_lent : (f : Format) (n : ℕ) (column : ℕ → Float) (s : Stats) → marker_stats f n column ≡ Ok (lent s) → ⊥
unfolding marker_stats
found_not_lent f n column s = go (no_value column n) (is_nan (mean f (accumulated f column n)))
  where
    go : (p q : Bool) → cond p (Err NoIndividuals) (cond q (Err IllegalSnpMean) (Ok (found_with (stats_of f (accumulated f column n)) (accumulated f column n).count))) ≡ Ok (lent s) → ⊥
    go true q e = let z : ◌≡◌ {A = ℕ} 0 1 = cc in omega arith
    go false true e = let z : ◌≡◌ {A = ℕ} 0 1 = cc in omega arith
    go false false e = let o : Some (accumulated f column n).count ≡ None = ap observed_of e in let z : ◌≡◌ {A = ℕ} 0 1 = cc in omega arith

-- ---- only the values of the animals count
module _ (f : Format) (c d : ℕ → Float) where
  pub accumulated_ext : (n : ℕ) → ((i : ℕ) → i < n → c i ≡ d i) → accumulated f c n ≡ accumulated f d n
  unfolding accumulated
  accumulated_ext zero e = refl
  accumulated_ext (suc n) e =
      ap (counted f (accumulated f c n)) (e n (omega arith))
      ∙ ap (λ (a : Accumulator). counted f a (d n)) (accumulated_ext n (λ i h. e i (omega arith)))

  no_value_ext : (n : ℕ) → ((i : ℕ) → i < n → c i ≡ d i) → no_value c n ≡ no_value d n
  unfolding no_value
  no_value_ext zero e = refl
  no_value_ext (suc n) e =
      ap (λ (x : Float). no_value c n && is_nan x) (e n (omega arith)) ∙ ap (λ (b : Bool). b && is_nan (d n)) (no_value_ext n (λ i h. e i (omega arith)))

  pub marker_stats_ext : (n : ℕ) → ((i : ℕ) → i < n → c i ≡ d i) → marker_stats f n c ≡ marker_stats f n d
  marker_stats_ext n e = sym (stats_from_law f c n) ∙ ap (stats_from f) (accumulated_ext n e) ∙ stats_from_law f d n

  pub found_for_ext : (use_stats : Bool) (s : Stats) (n : ℕ) → ((i : ℕ) → i < n → c i ≡ d i) → found_for f use_stats s n c ≡ found_for f use_stats s n d
  unfolding found_for
  found_for_ext true s n e = refl
  found_for_ext false s n e = marker_stats_ext n e

-- one animal more
pub accumulated_more : (f : Format) (column : ℕ → Float) (n : ℕ) {a b : Accumulator} → b ≡ counted f a (column n) → a ≡ accumulated f column n → b ≡ accumulated f column (n + 1)
unfolding accumulated
accumulated_more f column n {a} {b} e g = e ∙ ap (λ (x : Accumulator). counted f x (column n)) g ∙ ap (accumulated f column) (sym (add-one n))

-- all animals
pub column_found : (f : Format) (column : ℕ → Float) (n i : ℕ) {a : Accumulator} {r : Result MarkerStats MarkerError} → r ≡ stats_from f a → a ≡ accumulated f column i → i ≤ n → n ≤ i
    → r ≡ marker_stats f n column
column_found f column n i e g h k =
    let z : i ≡ n = omega arith in e ∙ ap (stats_from f) (g ∙ ap (accumulated f column) z) ∙ stats_from_law f column n
