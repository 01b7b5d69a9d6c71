-- "the joined call never gives 14" (02), of the exported call.
use mathlib.Core.Path.{◌≡◌, refl, sym, ap, ◌∙◌}
use mathlib.Core.Bool.{Bool, true}
use mathlib.Core.List.{List, [], ◌∷◌}
use Prim.Native.Nat.{ℕ, ◌<◌}
use native.Mathlib.Omega.{arith}
use lib.IntN.{ℤ, pos}
use lib.Ieee.{Float, nan, binary64}
use Rattle.answer.specs.Answer.{Answer, done, refused, GivesNo}
use Rattle.bed_answer.specs.declared.BedAnswer.{BedAnswer}
use Rattle.bed_answer.specs.Interface.{number_of, bed_answer}
use Rattle.read_standardised.specs.Joined.{joined_answer, joined_stats, joined_values}
use Rattle.read_standardised.proofs.Never14.{joined_never_14}
use Rattle.mungkelas.specs.Header.{BedReadStandardised}

other_number : (a : Answer) (n : ℕ) → 0 < n → GivesNo n a → number_of a ≡ n → ⊥
unfolding number_of
other_number (done vs) n p g e = omega arith
other_number (refused k vs) n p g e = g vs (ap (λ (x : ℕ). refused x vs) e)

-- whatever `bed_read_standardised_f64` is lent, its answer has another number
pub bed_never_14 :
    (file : List ℕ) (iids sids : ℕ) (flag : Bool) (il sl : List ℤ) (order : Bool) (r : BedAnswer) (val val_after stats stats_after : List Float)
    → BedReadStandardised file iids sids flag il sl order r val val_after stats stats_after → r.number ≡ 14 → ⊥
unfolding bed_answer
bed_never_14 file iids sids flag il sl order r val val_after stats stats_after b e =
    other_number (joined_answer binary64 file iids sids flag il sl order val stats) 14 (omega arith) (joined_never_14 binary64 file iids sids flag il sl order val stats)
    (sym (ap (λ (x : BedAnswer). x.number) b.0) ∙ e)

-- a file of one animal and one marker, whose call is missing
abbrev file : List ℕ
file = 0x6C ∷ 0x1B ∷ 1 ∷ 1 ∷ []

abbrev first : List ℤ
first = pos 0 ∷ []

pub missing_never_14 : (order : Bool) → (bed_answer (joined_answer binary64 file 1 1 true first first order (nan ∷ []) (nan ∷ nan ∷ nan ∷ []))).number ≡ 14 → ⊥
missing_never_14 order =
    bed_never_14 file 1 1 true first first order _ (nan ∷ []) (joined_values binary64 file 1 1 true first first order (nan ∷ []) (nan ∷ nan ∷ nan ∷ []))
    (nan ∷ nan ∷ nan ∷ []) (joined_stats binary64 file 1 1 true first first order (nan ∷ []) (nan ∷ nan ∷ nan ∷ [])) (refl, refl, refl)
