-- "A message that puzzles clients": values decoded from a file have a mean, so that the joined call never gives 14.
use mathlib.Core.Path.{◌≡◌, refl, sym, ap, subst, ◌∙◌}
use mathlib.Core.Bool.{Bool, true, false}
use mathlib.Core.List.{List}
use Prim.Native.Nat.{ℕ, ◌<◌}
use native.Mathlib.Omega.{arith}
use lib.IntN.{ℤ}
use lib.ListN.{length}
use lib.Ieee.{Float, nan, Format, le}
use Rattle.answer.specs.Answer.{Answer, is_done, GivesNo}
use Rattle.codes.specs.Value.{float}
use Rattle.bed_read.specs.Reading.{read_answer, read_buffer}
use Rattle.statistics.specs.Statistics.{accumulated}
use Rattle.statistics.specs.Calls.{IsCall, sum_limit}
use Rattle.statistics.proofs.SumLimit.{sum_within}
use Rattle.standardise.specs.Standardised.{value, standardise_answer}
use Rattle.standardise.proofs.Refused.{calls_lowest_never_14, calls_never_14}
use Rattle.read_standardised.specs.Joined.{read_nan, joined_answer}
use Rattle.read_standardised.specs.Ways.{as_read}
use Rattle.read_standardised.proofs.CallsRead.{call_read}
use Rattle.read_standardised.proofs.JoinLaws.{by_markers, as_read_is, left_as_read}

-- a call, whatever its file, counts, lists and buffers
module _ (f : Format) (file : List ℕ) (iids sids : ℕ) (flag : Bool) (il sl : List ℤ) (order : Bool) (val stats : List Float) where
  abbrev read : List Float
  read = read_nan f file iids sids flag il sl order val stats

  -- "Values decoded from a file are 0, 1, 2 or missing"
  pub read_calls : (k m : ℕ) → k < length il → m < length sl → IsCall (value order (length il) (length sl) read k m)
  unfolding read_nan
  read_calls k m hk hm = call_read flag order file iids sids il sl (length il) (length sl) refl refl k m hk hm

  -- "and their sum in f64 never passes 2^54, however many animals are read": the sum of every marker read
  pub read_sum_within : (m : ℕ) → m < length sl → le (accumulated f (λ k. value order (length il) (length sl) read k m) (length il)).sum (sum_limit f) ≡ true
  read_sum_within m hm = sum_within f (λ k. value order (length il) (length sl) read k m) (length il) (λ k hk. read_calls k m hk hm)

  -- "the joined call never gives 14"
  pub joined_never_14 : GivesNo 14 (joined_answer f file iids sids flag il sl order val stats)
  unfolding joined_answer
  joined_never_14 vs e =
      calls_lowest_never_14 f order (length il) (length sl) read stats read_calls false vs
      (by_markers file iids sids il sl (length val) (length stats) _ 14 vs (omega arith) (omega arith) e)

  -- nor does standardising what a reading left, unless the reading refused
  pub in_turn_never_14 : (use_stats : Bool) → is_done (read_answer file iids sids il sl (length val)) ≡ true
      → GivesNo 14 (standardise_answer f order (length il) (length sl) (as_read f file iids sids flag il sl order val stats) use_stats stats)
  in_turn_never_14 use_stats d =
      subst (λ (x : List Float). GivesNo 14 (standardise_answer f order (length il) (length sl) x use_stats stats)) (sym (as_read_is f file iids sids flag il sl order val stats d))
      (calls_never_14 f order (length il) (length sl) read stats read_calls use_stats)

  -- ---- as the code goes: the reading's answer and what it left, with a missing value that is NaN, then the standardiser's answer
  pub never_14_after :
      (rd : Answer) (v1 : List Float) (missing : Float) → missing ≡ nan → rd ≡ read_answer file iids sids il sl (length val)
      → v1 ≡ read_buffer float file iids sids flag il sl missing order val → (t : Bool) → t ≡ is_done rd → t ≡ true
      → (a : Answer) → a ≡ standardise_answer f order (length il) (length sl) v1 false stats → GivesNo 14 a
  never_14_after rd v1 missing n ra rv t td tt' a e =
      subst (GivesNo 14)
      (sym (e ∙ ap (λ (x : List Float). standardise_answer f order (length il) (length sl) x false stats) (left_as_read f file iids sids flag il sl order val stats v1 missing n rv)))
      (in_turn_never_14 false (sym (ap is_done ra) ∙ sym td ∙ tt'))
