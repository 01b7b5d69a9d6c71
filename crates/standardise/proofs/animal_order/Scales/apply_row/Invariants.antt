-- `apply_row`: the values passed are standardised.
use Rattle.std.proofs.Common.{◌≡◌}
use lib.Ieee.{binary64}
use Rattle.standardise.specs.Private.{written, nth, scaled_at}
use Rattle.standardise.proofs.animal_order.Scales.apply_row.Given as goal

abbrev pub invariant-loop-j : goal.invariant-loop-j
invariant-loop-j l = l.row ≡ written l.initial.row (λ j. j) (λ j. scaled_at binary64 l.self j (nth l.initial.row j)) l.j
