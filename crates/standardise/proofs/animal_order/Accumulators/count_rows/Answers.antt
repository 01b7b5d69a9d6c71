-- `count_rows`: an animal more, and a marker more.
use Rattle.std.proofs.Common.{◌≡◌, ◌+◌, ℕ, arith, sym, ap, subst, ◌∙◌}
use lib.Ieee.{binary64}
use Rattle.standardise.specs.declared.animal_order.Accumulators.{Accumulators}
use Rattle.standardise.specs.Private.{counted_rows, accumulator_at}
use Rattle.standardise.proofs.TileLaws.{RowCounted, row_none, row_more_law, counted_more}
use Rattle.standardise.proofs.animal_order.Accumulators.count_rows.Goals as goal

pub loop-j-init : goal.loop-j-init
loop-j-init g c = row_none (λ j. counted_rows binary64 c.args.val.now (c.args.start + j) c.args.stride g.row.ROWS) _

pub loop-r-init : goal.loop-r-init
unfolding counted_rows
loop-r-init g c = c.at-a.ensures.value

pub loop-r-preserved : goal.loop-r-preserved
loop-r-preserved g c = counted_more binary64 c.args.val.now (c.args.start + c.loop-j.j) c.args.stride c.loop-r.r _ c.add_value-a.ensures c.loop-r.invariant

pub loop-j-preserved : goal.loop-j-preserved
loop-j-preserved g c =
    let l = c.loop-j in
    let step = λ (j : ℕ). counted_rows binary64 c.args.val.now (c.args.start + j) c.args.stride g.row.ROWS in
    let all : c.loop-r.r ≡ g.row.ROWS = omega (arith, c.loop-r-test.false) in
    subst (λ (t : Accumulators). RowCounted step c.args.self.now (l.j + 1) t) (sym c.put.ensures)
    (row_more_law step c.args.self.now l.j l.self c.loop-r.a c.at-a.ensures.long (omega arith) l.invariant
    (c.loop-r.invariant ∙ ap (λ (k : ℕ). counted_rows binary64 c.args.val.now (c.args.start + l.j) c.args.stride k (accumulator_at l.self l.j)) all))
