-- `count_tile`: four animals more, or one.
use Rattle.std.proofs.Common.{◌≡◌, ◌+◌, ◌*◌, ◌≤◌, ℕ, arith, subst}
use lib.Ieee.{binary64}
use Rattle.standardise.proofs.TileLaws.{TileCounted, tile_none, tile_more, rows_inside}
use Rattle.standardise.proofs.animal_order.Accumulators.count_tile.Goals as goal

pub loop-four-init : goal.loop-four-init
loop-four-init c = tile_none binary64 _ _ _ _ _ _ c.requires.3

pub count_rows-requires : goal.count_rows-requires
count_rows-requires c =
    let a = c.args in
    let e : c.loop-four.four * 4 + 4 ≤ a.iid_count = omega arith in
    (λ r h. omega (arith, c.requires.0, rows_inside a.iid_count a.sid_count a.base a.width (c.loop-four.four * 4) 4 e c.requires.1 r h), c.requires.2)

pub count_rows-requires-in-loop-i : goal.count_rows-requires-in-loop-i
count_rows-requires-in-loop-i c =
    let a = c.args in
    let e : c.loop-i.i + 1 ≤ a.iid_count = omega arith in
    (λ r h. omega (arith, c.requires.0, rows_inside a.iid_count a.sid_count a.base a.width c.loop-i.i 1 e c.requires.1 r h), c.requires.2)

pub loop-four-preserved : goal.loop-four-preserved
loop-four-preserved c =
    let a = c.args in
    let i = c.loop-four.four in
    let next : i * 4 + 4 ≡ (i + 1) * 4 = omega arith in
    subst (λ (n : ℕ). TileCounted binary64 a.iid_count a.sid_count a.base a.width a.val.now n c.count_rows.new.self) next
    (tile_more binary64 a.iid_count a.sid_count a.base a.width a.val.now (i * 4) 4 _ _ (omega arith) c.loop-four.invariant c.count_rows.ensures)

pub loop-i-preserved : goal.loop-i-preserved
loop-i-preserved c =
    let a = c.args in
    tile_more binary64 a.iid_count a.sid_count a.base a.width a.val.now _ 1 _ _ (omega arith) c.loop-i.invariant c.count_rows-in-loop-i.ensures
