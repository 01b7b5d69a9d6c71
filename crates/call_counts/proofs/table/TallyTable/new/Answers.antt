-- The table's rule, by one computed test over all of it.
use Rattle.std.proofs.Common.{refl}
use Rattle.answer.specs.Lists.{tabulate}
use Rattle.codes.specs.Code.{code_at}
use Rattle.call_counts.specs.Private.{in_byte, weight, byte_tallies}
use Rattle.call_counts.proofs.table.TallyTable.new.Goals as goal

pub invariant_of-result : goal.invariant_of-result
unfolding byte_tallies in_byte weight code_at tabulate
invariant_of-result c = record { are_tallies = refl; are_weights = c.weights.ensures }
