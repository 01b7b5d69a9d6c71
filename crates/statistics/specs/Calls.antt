-- Decoded calls, whole numbers as floats, the limit of their sums, and animals reordered: what the theorems of proofs/Exact and proofs/SumLimit speak of.
use Rattle.std.specs.Prelude.{◌≡◌, false, cond, ℕ, zero, suc, ◌+◌, ◌*◌, ◌^◌, ◌<◌, ◌≤◌, pos, Float}
use Rattle.std.specs.Float.{nan, inf, fin, Format}
use Rattle.std.specs.Float.Ieee.{prec, up, of_int, is_nan}
use Rattle.statistics.specs.Statistics.{plus_zero, one}

-- 2
abbrev pub two : Float
two = fin false 1 (pos 1)

-- a decoded call: +0, 1, 2 or NaN
pub data IsCall : Float → Type 0 where
  is_zero : IsCall plus_zero
  is_one : IsCall one
  is_two : IsCall two
  is_missing : IsCall nan

-- the whole number n as a float
unfoldable pub whole : Format → ℕ → Float
unfolding of_int
whole f n = of_int f (pos n)

-- 1 for a call that is not missing, and how many copies a call has: 0 if it is missing
unfoldable pub present : Float → ℕ
present v = cond (is_nan v) 0 1

unfoldable pub copy_count : Float → ℕ
copy_count nan = 0
copy_count (inf s) = 0
copy_count (fin s m e) = m * up e

-- the sum of h over the first n places
unfoldable pub total : (ℕ → ℕ) → ℕ → ℕ
total h zero = 0
total h (suc n) = total h n + h n

-- "observed count": how many of the first n values are no NaN
abbrev pub observed : (ℕ → Float) → ℕ → ℕ
observed column n = total (λ i. present (column i)) n

-- n animals few enough for every sum to be exact: 10^9 at f64, 4,194,304 at f32
abbrev pub FewEnough : Format → ℕ → Type 0
FewEnough f n = 4 * n ≤ 2 ^ prec f

-- 2^54 at f64, 2^25 at f32: "their sum in f64 never passes 2^54, however many animals are read" (02)
abbrev pub sum_limit : Format → Float
sum_limit f = fin false 1 (pos (prec f + 1))

-- each of the first n values is a call
abbrev pub Calls : (ℕ → Float) → ℕ → Type 0
Calls column n = (i : ℕ) → i < n → IsCall (column i)

-- two columns of n values of which each is the other reordered: every sum of natural numbers over the two agrees
abbrev pub SameSums : (ℕ → Float) → (ℕ → Float) → ℕ → Type 0
SameSums xs ys n = (h : Float → ℕ) → total (λ i. h (xs i)) n ≡ total (λ i. h (ys i)) n

-- every sum of natural numbers over the places that π names is the sum over the first n places. So it is if each of them is named exactly
-- once: `each_once` of proofs/Names
abbrev pub SumsAgree : (ℕ → ℕ) → ℕ → Type 0
SumsAgree π n = (h : ℕ → ℕ) → total (λ k. h (π k)) n ≡ total h n
