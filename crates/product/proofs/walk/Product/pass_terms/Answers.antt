use native.Mathlib.Nat.{div-mul-le_self}
use native.Mathlib.Omega.{arith}
use lib.Ieee.Nearest.{div_mono}
use Rattle.product.proofs.walk.Product.pass_terms.Goals as goal

pub returns-else-width-self : goal.returns-else-width-self
returns-else-width-self c =
    let rows = c.args.self.block_rows in (omega (arith, div_mono 1 1 1792 rows (omega arith) (omega arith) (omega arith)), div-mul-le_self 1792 rows)
