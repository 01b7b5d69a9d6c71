-- `add_one`: the sums before place j have their product.
use mathlib.Core.Path.{◌≡◌}
use lib.Ieee.{binary64}
use Rattle.product.specs.Lent.{tile_at}
use Rattle.product.proofs.InPlaceLaws.{filled}
use Rattle.product.proofs.RowLaws.{with_term}
use Rattle.product.proofs.lent.Tile.add_one.Given as goal

abbrev pub invariant-loop-j : goal.invariant-loop-j
invariant-loop-j l = l.sums ≡ filled (with_term binary64 (λ j. tile_at l.self j l.i) l.y l.initial.sums) l.j l.initial.sums
