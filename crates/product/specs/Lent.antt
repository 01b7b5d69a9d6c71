-- The values that the structs of the code stand for.
use Rattle.std.specs.Prelude.{ℕ, Float}
use Rattle.product.specs.Private.{spaced_value, run_value, tile_value, value_of_line}
use Rattle.product.specs.declared.lent.Spaced.{Spaced}
use Rattle.product.specs.declared.lent.Runs.{Runs}
use Rattle.product.specs.declared.lent.Lines.{Lines}
use Rattle.product.specs.declared.lent.Tile.{Tile}

-- value i of some that stand a step apart
abbrev pub value_at : Spaced → ℕ → Float
value_at s = spaced_value s.bytes.now s.at s.step

-- value j of run t
abbrev pub run_at : Runs → ℕ → ℕ → Float
run_at r = run_value r.bytes.now r.at r.step

-- value i of line j of a tile
abbrev pub tile_at : Tile → ℕ → ℕ → Float
tile_at t = tile_value t.x.now t.g

-- value k of line r
abbrev pub line_value : Lines → ℕ → ℕ → Float
line_value l = value_of_line l.bytes.now l.base l.line l.step
