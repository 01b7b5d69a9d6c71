use Prim.Native.Nat.{◌-◌, ◌*◌}
use native.Mathlib.Nat.{add-sub_cancel_left}
use native.Mathlib.Omega.{arith}
use Rattle.product.specs.Lent.{value_at, line_value}
use Rattle.product.proofs.GridLaws.{row_in}
use Rattle.product.proofs.TileLaws.{line_place, tile_more}
use Rattle.product.proofs.lent.Rows.load_tile.Goals as goal

pub loop-i-preserved : goal.loop-i-preserved
loop-i-preserved c =
    let a = c.args in
    let s = a.self.now in
    let l = s.lines.now in
    let m = s.bottom - s.top in
    let w = c.loop-i in
    let q = c.across.result in
    let e = c.across.ensures in
    tile_more (line_value l) s.top m a.g w.i _ w.x c.load.new.dst (value_at q)
    (λ j. line_place l.bytes.now q.bytes.now l.base l.line q.step l.step s.top w.i j q.at e.1 e.2 e.3)
    (add-sub_cancel_left (w.i * a.g) m) c.requires.0 (omega (arith, row_in a.n a.g w.i c.loop-i-test.true)) c.load.ensures w.invariant
