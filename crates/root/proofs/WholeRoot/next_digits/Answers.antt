-- `root::WholeRoot::next_digits` meets its contract: where the root is one less, the rest fits a u64. Assumes nothing.
use native.Mathlib.Omega.{arith}
use Rattle.root.proofs.WholeLaws.{room, square_lt}
use Rattle.root.proofs.WholeRoot.next_digits.Goals as goal

pub overflow_sub-rest : goal.overflow_sub-rest
overflow_sub-rest c =
    let a = c.args in
    let p = c.requires in
    let w = room a.self.root a.self.rest a.high a.low a.base p in
    omega (arith, square_lt a.self.root a.self.rest a.high a.low a.base p.0 p.2 p.4 p.5 c.if-over-square.true)
