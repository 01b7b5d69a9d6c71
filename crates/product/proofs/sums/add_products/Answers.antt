-- `add_products`: from the tile, or straight.
use native.Mathlib.Omega.{arith}
use Rattle.product.proofs.StraightLaws.{straight_term}
use Rattle.product.proofs.LineLaws.{from_tile, from_bytes}
use Rattle.product.proofs.sums.add_products.Goals as goal

pub returns-then-block-lines : goal.returns-then-block-lines
returns-then-block-lines c =
    let b = c.args.block.now in
    let l = b.rows.lines.now in
    let d = b.ready.else_straight c.if-block-lines.true in
    let e = c.runs.ensures in
    from_bytes l c.along-line.result b.rows.top c.args.c _ _ c.along-line.ensures c.runs.result d.1 (straight_term l c.runs.result b.rows.top d.0 e.1 e.2 e.3) c.add_four.ensures

pub returns-then-sums-le8 : goal.returns-then-sums-le8
returns-then-sums-le8 c =
    let b = c.args.block.now in
    from_tile b.rows.lines.now c.along-line.result b.rows.top c.args.c _ _ c.along-line.ensures b.tile b.loaded _ c.if-block-lines.false (omega arith) b.ready.tile_has c.add_eight.ensures

pub returns-else-sums-le8 : goal.returns-else-sums-le8
returns-else-sums-le8 c =
    let b = c.args.block.now in
    from_tile b.rows.lines.now c.along-line.result b.rows.top c.args.c _ _ c.along-line.ensures b.tile b.loaded _ c.if-block-lines.false (omega arith) b.ready.tile_has c.add_many.ensures
