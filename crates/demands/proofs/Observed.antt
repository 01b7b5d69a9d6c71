-- "Advisers weigh a mean by the number of calls behind it.": the third number of a marker that the joined call reads is how many of the calls read are
-- not missing.
use mathlib.Core.Path.{◌≡◌, refl, sym, ap, ◌∙◌}
use mathlib.Core.Bool.{Bool, true, false, cond}
use mathlib.Core.List.{List}
use Rattle.std.specs.Prelude.{Option, Some}
use Prim.Native.Nat.{ℕ, zero, suc, ◌+◌, ◌*◌, ◌^◌, ◌<◌, ◌≤◌}
use native.Mathlib.Omega.{arith}
use lib.Dec.{eqb}
use borrow.Author.Tests.{ne_eqb}
use lib.IntN.{ℤ, pos}
use lib.ListN.{length, get_or}
use lib.Ieee.{Float, nan, Format, prec, is_nan}
use Rattle.answer.specs.Lists.{how_many}
use Rattle.entries.specs.Entry.{means}
use Rattle.codes.specs.Code.{copies}
use Rattle.codes.specs.Value.{float, values, value_of}
use Rattle.bed_read.specs.Reading.{read_code}
use Rattle.bed_read.proofs.BufferLaws.{read_below}
use Rattle.calls.specs.Calls.{call_code}
use Rattle.call_counts.specs.Counts.{same_copies, code_named, calls_with}
use Rattle.statistics.specs.Statistics.{stats_per_marker}
use Rattle.statistics.specs.Calls.{whole, present, total, observed}
use Rattle.statistics.proofs.Exact.{total_ext}
use Rattle.standardise.specs.Standardised.{value}
use Rattle.standardise.proofs.Observed.{third_of_calls}
use Rattle.read_standardised.specs.Joined.{read_nan, joined_stats}
use Rattle.read_standardised.proofs.CallsRead.{cell_read, call_read}
use Rattle.read_standardised.proofs.JoinLaws.{stats_are}
use Rattle.demands.specs.Demand.{IsAccepted, GoodList, meant, RightLengths}
use Rattle.demands.specs.Observed.{calls_observed}
use Rattle.demands.proofs.SideLaws.{is_read, right_17}

-- ---- the first three counts of `count_calls` add up to it
abbrev hit : Option ℕ → ℕ → ℕ
hit c code = cond (same_copies c (copies code)) 1 0

not_missing : (code : ℕ) → hit (Some 0) code + hit (Some 1) code + hit (Some 2) code ≡ cond (eqb code 1) 0 1
unfolding same_copies copies
not_missing zero = refl
not_missing (suc zero) = refl
not_missing (suc (suc zero)) = refl
not_missing (suc (suc (suc n))) = ap (λ (b : Bool). cond b 0 1) (sym (ne_eqb (suc (suc (suc n))) 1 (λ z. omega arith)))

abbrev many : Option ℕ → (ℕ → ℕ) → ℕ → ℕ
many c code n = how_many n (λ k. same_copies c (copies (code k)))

all_not_missing : (code : ℕ → ℕ) (n : ℕ) → many (Some 0) code n + many (Some 1) code n + many (Some 2) code n ≡ total (λ k. cond (eqb (code k) 1) 0 1) n
unfolding how_many total
all_not_missing code zero = refl
all_not_missing code (suc n) = let r = all_not_missing code n in let o = not_missing (code n) in omega arith

pub counts_observed : (file : List ℕ) (iids sids : ℕ) (il sl : List ℤ) (m : ℕ)
    → calls_with file iids sids il (meant sids sl m) (Some 0) + calls_with file iids sids il (meant sids sl m) (Some 1) + calls_with file iids sids il (meant sids sl m) (Some 2)
    ≡ calls_observed file iids sids il sl m
unfolding calls_with code_named calls_observed meant
counts_observed file iids sids il sl m = all_not_missing (λ k. call_code file iids sids (means iids (get_or il k (pos 0))) (means sids (get_or sl m (pos 0)))) (length il)

-- ---- the values read
-- a decoded value is a NaN exactly if its code is 1
decoded_present : (flag : Bool) (code : ℕ) → code < 4 → present (value_of float flag nan code) ≡ cond (eqb code 1) 0 1
unfolding present is_nan value_of values
decoded_present true zero h = refl
decoded_present true (suc zero) h = refl
decoded_present true (suc (suc zero)) h = refl
decoded_present true (suc (suc (suc zero))) h = refl
decoded_present true (suc (suc (suc (suc n)))) h = absurd (omega arith)
decoded_present false zero h = refl
decoded_present false (suc zero) h = refl
decoded_present false (suc (suc zero)) h = refl
decoded_present false (suc (suc (suc zero))) h = refl
decoded_present false (suc (suc (suc (suc n)))) h = absurd (omega arith)

module _ (f : Format) (file : List ℕ) (iids sids : ℕ) (flag : Bool) (il sl : List ℤ) (order : Bool) (val stats : List Float) where
  abbrev read : List Float
  read = read_nan f file iids sids flag il sl order val stats

  -- the values read that are no NaN are the calls that are not missing
  read_observed : (m : ℕ) → m < length sl → observed (λ k. value order (length il) (length sl) read k m) (length il) ≡ calls_observed file iids sids il sl m
  unfolding read_nan calls_observed read_code meant
  read_observed m h =
      total_ext (λ k. present (value order (length il) (length sl) read k m)) (λ k. cond (eqb (read_code file iids sids il sl k m) 1) 0 1) (length il)
      (λ k l. ap present (cell_read flag order file iids sids il sl (length il) (length sl) refl refl k m l h) ∙ decoded_present flag (read_code file iids sids il sl k m) (read_below file iids sids il sl k m))

  -- so it is after the joined call, of an accepted file, good lists and buffers of the right lengths, up to 2^53 entries of the animal list at f64. A
  -- marker of which no call was observed is refused, and keeps its third number
  pub joined_observed : IsAccepted file iids sids → GoodList iids il → GoodList sids sl → RightLengths il sl val stats → length il ≤ 2 ^ prec f → (m : ℕ) → m < length sl
      → get_or (joined_stats f file iids sids flag il sl order val stats) (m * stats_per_marker + 2) nan
      ≡ cond (eqb (calls_observed file iids sids il sl m) 0) (get_or stats (m * stats_per_marker + 2) nan) (whole f (calls_observed file iids sids il sl m))
  unfolding read_nan
  joined_observed acc gi gs len enough m h =
      ap (λ (x : List Float). get_or x (m * stats_per_marker + 2) nan)
      (stats_are f file iids sids flag il sl order val stats (right_17 f file iids sids flag il sl order val stats acc gi gs len) (is_read f file iids sids flag il sl order val stats acc gi gs len))
      ∙ third_of_calls f order (length il) (length sl) read stats m h (λ k l. call_read flag order file iids sids il sl (length il) (length sl) refl refl k m l h) enough
      ∙ ap (λ (n : ℕ). cond (eqb n 0) (get_or stats (m * stats_per_marker + 2) nan) (whole f n)) (read_observed m h)
