-- Words of the theorems on refused markers. Definitions only.
use Rattle.std.specs.Prelude.{◌≡◌, [], ◌∷◌, ◌⊎◌, ℕ, ◌<◌, pos, Result, Ok, Err}
use Rattle.answer.specs.Answer.{refused}
use Rattle.statistics.specs.declared.MarkerStats.{MarkerStats}
use Rattle.statistics.specs.declared.MarkerError.{MarkerError}
use Rattle.statistics.specs.declared.MarkerError.TheVariants.{NoIndividuals, IllegalSnpMean}
use Rattle.standardise.specs.Standardised.{marker_answer}

-- a marker that is refused, for 13 or for 14, and one that is not: its statistics are lent or found
abbrev pub IsRefused : Result MarkerStats MarkerError → Type 0
IsRefused x = (x ≡ Err NoIndividuals) ⊎ (x ≡ Err IllegalSnpMean)

abbrev pub NotRefused : Result MarkerStats MarkerError → Type 0
NotRefused x = (found : MarkerStats) × (x ≡ Ok found)

-- "lowest refused marker": of the markers below sids, m is refused with number k, and every lower one is not refused
pub record IsLowestRefused (found : ℕ → Result MarkerStats MarkerError) (sids k m : ℕ) : Type 0 where
  pub in_matrix : m < sids
  pub is_refused : marker_answer m (found m) ≡ refused k (pos m ∷ [])
  pub lower_not_refused : (j : ℕ) → j < m → NotRefused (found j)
