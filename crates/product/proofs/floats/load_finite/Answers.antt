use native.Mathlib.Omega.{arith}
use lib.ListN.{length}
use Rattle.product.proofs.ByteLaws.{number_of}
use Rattle.product.proofs.floats.load_finite.Goals as goal

pub float_from_bits-dst : goal.float_from_bits-dst
float_from_bits-dst c =
    let a = c.args in
    number_of a.bytes.now a.at c.loop-i.i c.eight_at.result (length a.dst.now) c.eight_at.ensures.0 c.requires.1 (omega arith)
