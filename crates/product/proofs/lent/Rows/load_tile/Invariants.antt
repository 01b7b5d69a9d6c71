-- `load_tile`: the first i rows of the tile are loaded.
use Prim.Native.Nat.{◌-◌}
use Rattle.product.specs.Private.{TileHas}
use Rattle.product.specs.Lent.{line_value}
use Rattle.product.proofs.lent.Rows.load_tile.Given as goal

abbrev pub invariant-loop-i : goal.invariant-loop-i
invariant-loop-i l = TileHas l.x l.g (line_value l.self.lines.now) l.self.top l.i (l.self.bottom - l.self.top)
