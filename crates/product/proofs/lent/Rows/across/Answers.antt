use Prim.Native.Nat.{◌+◌}
use native.Mathlib.Omega.{arith}
use Rattle.product.proofs.lent.Rows.across.Goals as goal

pub invariant_of-result : goal.invariant_of-result
invariant_of-result c =
    let s = c.args.self.now in
    record { inside = λ i h. omega (arith, c.place.ensures, s.lines.now.inside (s.top + i) c.args.k (omega arith) (omega arith)) }
