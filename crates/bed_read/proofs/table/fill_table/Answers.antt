-- `fill_table`: place i of the table has the value of the code at place i mod 4 of byte i/4.
use Rattle.std.proofs.Common.{◌+◌, ◌*◌, ◌≤◌, refl, ◌∙◌, arith, rules}
use Rattle.codes.specs.Value.{value_of}
use Rattle.bed_read.proofs.TableLaws.{code_there, code_inside, code_valued, filled_same, filled_more, filled_table}
use Rattle.bed_read.proofs.table.fill_table.Goals as goal

pub loop-byte-init : goal.loop-byte-init
loop-byte-init g c = record { long = search rules; filled = λ t h. absurd (omega arith) }

pub listed : goal.listed
listed g c = (code_inside g.T.BedVal.width _ _ _ _ _ _ _ c.set_up_two_bits_to_value-of_code.ensures c.from.ensures c.code_of_item-code.ensures).0

pub bounds-of_code-from : goal.bounds-of_code-from
bounds-of_code-from g c = (code_inside g.T.BedVal.width _ _ _ _ _ _ _ c.set_up_two_bits_to_value-of_code.ensures c.from.ensures c.code_of_item-code.ensures).1

pub loop-place-init : goal.loop-place-init
loop-place-init g c = filled_same _ _ _ _ _ c.loop-byte.invariant (omega arith)

pub loop-place-preserved : goal.loop-place-preserved
loop-place-preserved g c =
    let b = c.loop-byte-test.true in
    let p = c.loop-place-test.true in
    filled_more _ (value_of g.T.BedVal.width c.args.coding.is_a1_counted c.args.coding.missing) _ (4 * c.loop-byte.byte + c.loop-place.place) _ _ _ c.loop-place.invariant refl
    (omega arith) (omega arith)
    (code_valued g.T.BedVal.width _ _ _ _ _ _ _ c.set_up_two_bits_to_value-of_code.ensures c.from.ensures
    (c.code_of_item-code.ensures ∙ code_there c.loop-byte.byte c.loop-place.place p) _)

pub loop-byte-preserved : goal.loop-byte-preserved
loop-byte-preserved g c =
    let p = c.loop-place-test.false in let q : c.loop-place.place ≤ 4 = search rules in filled_same _ _ _ _ _ c.loop-place.invariant (omega arith)

pub returns : goal.returns
returns g c = let b = c.loop-byte-test.false in filled_table _ _ _ _ c.loop-byte.invariant (omega arith)
