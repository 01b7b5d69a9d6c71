-- `add_four`: the sums before place j have their products.
use mathlib.Core.Path.{◌≡◌}
use lib.Ieee.{binary64}
use Rattle.product.specs.Lent.{value_at, run_at}
use Rattle.product.proofs.InPlaceLaws.{filled}
use Rattle.product.proofs.RowLaws.{by_four}
use Rattle.product.proofs.lent.Runs.add_four.Given as goal

abbrev pub invariant-loop-j : goal.invariant-loop-j
invariant-loop-j l = l.sums ≡ filled (by_four binary64 (run_at l.self) (value_at l.line) l.initial.sums) l.j l.initial.sums
