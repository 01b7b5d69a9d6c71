-- 4 everywhere, then missing, then 2, 1 and 0.
use Rattle.std.proofs.Common.{refl, ap, ◌∙◌, FitsSigned, rules}
use mir.Syntax.{w8}
use mir.Val.{of_z}
use mir.ValLaws.{to_z-of_z}
use Rattle.bed_write.proofs.ByteLaws.{table_made}
use Rattle.bed_write.proofs.value_codes.byte_table.ByteTable.new.Goals as goal

pub invariant_of-result : goal.invariant_of-result
invariant_of-result c =
    let fits : FitsSigned w8 c.args.coding.missing = search rules in
    record { is_table = table_made _ fits _ _ _ (c.index_of.ensures.0 ∙ ap (of_z w8) (to_z-of_z w8 _ fits)) c.code_of_two.ensures c.code_of_zero.ensures _ refl }
