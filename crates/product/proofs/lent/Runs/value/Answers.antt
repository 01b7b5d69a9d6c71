use Prim.Native.Nat.{◌+◌, ◌*◌}
use Rattle.product.proofs.ByteLaws.{number_of}
use Rattle.product.proofs.lent.Runs.value.Goals as goal

pub float_from_bits-result : goal.float_from_bits-result
float_from_bits-result c =
    let a = c.args in
    number_of a.self.bytes.now (a.self.at + 8 * (a.t * a.self.step)) a.j _ _ c.eight_at.ensures.0 (c.requires.2 a.t c.requires.0) c.requires.1
