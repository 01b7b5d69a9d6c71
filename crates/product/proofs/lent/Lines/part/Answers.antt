use Prim.Native.Nat.{◌+◌}
use native.Mathlib.Omega.{arith}
use Rattle.product.proofs.lent.Lines.part.Goals as goal

pub invariant_of-result : goal.invariant_of-result
invariant_of-result c =
    let a = c.args in
    record { inside = λ r i h h'. omega (arith, c.place.ensures, a.self.now.inside r (a.k + i) (omega arith) (omega arith)); some_terms = omega arith }
