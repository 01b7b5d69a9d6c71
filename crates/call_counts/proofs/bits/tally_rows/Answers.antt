use Rattle.std.proofs.Common.{◌≡◌, ℕ, subst, ◌*◌, arith, rules}
use Rattle.call_counts.specs.Private.{BitsCounted}
use Rattle.call_counts.proofs.BitLaws.{bits_none, bits_more, counted_most, counted_order, counted_tally}
use Rattle.call_counts.proofs.bits.tally_rows.Goals as goal

pub loop-triple-init : goal.loop-triple-init
loop-triple-init c = bits_none _ _

pub plus-bits-requires : goal.plus-bits-requires
plus-bits-requires c =
    let a = counted_most _ _ _ _ c.loop-triple.invariant in
    let b = counted_most _ _ _ _ c.count_rows.ensures in
    (omega arith, omega arith, omega arith)

pub loop-triple-preserved : goal.loop-triple-preserved
loop-triple-preserved c =
    bits_more _ _ (3 * c.loop-triple.triple) 3 _ _ _ _ _ _ c.plus-bits.ensures (omega arith) (omega arith) (omega arith) c.loop-triple.invariant c.count_rows.ensures

pub plus-bits-requires-in-loop-row : goal.plus-bits-requires-in-loop-row
plus-bits-requires-in-loop-row c =
    let a = counted_most _ _ _ _ c.loop-row.invariant in
    let b = counted_most _ _ _ _ c.count_rows-in-loop-row.ensures in
    (omega arith, omega arith, omega arith)

pub loop-row-preserved : goal.loop-row-preserved
loop-row-preserved c = bits_more _ _ c.loop-row.row 1 _ _ _ _ _ _ c.plus-bits-in-loop-row.ensures (omega arith) (omega arith) (omega arith) c.loop-row.invariant c.count_rows-in-loop-row.ensures

pub tally_of-requires : goal.tally_of-requires
tally_of-requires c =
    let e : c.loop-row.row ≡ c.args.rows = search rules in
    let o = counted_order _ _ _ _ c.loop-row.invariant in ((o.0, o.1, omega (arith, o.2, e)), c.requires.1)

pub returns : goal.returns
returns c =
    let e : c.loop-row.row ≡ c.args.rows = search rules in
    counted_tally _ _ _ _ (subst (λ (r : ℕ). BitsCounted c.args.file.now c.args.start (64 * r) c.loop-row.bits) e c.loop-row.invariant) _ c.tally_of.ensures
