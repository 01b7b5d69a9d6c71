-- The literal is 2.
use Rattle.std.proofs.Common.{refl}
use lib.Ieee.{of_bits}
use Rattle.codes.proofs.values.F64BedVal.two.Goals as goal

pub returns : goal.returns
unfolding of_bits
returns c = refl
