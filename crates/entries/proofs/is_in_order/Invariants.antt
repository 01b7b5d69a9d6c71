-- `is_in_order`: what is left of the list says what the whole list says.
use Rattle.std.proofs.Common.{◌≡◌, drop}
use Rattle.entries.specs.Entry.{in_order, in_order_from}
use Rattle.entries.proofs.is_in_order.Given as goal

abbrev pub invariant-loop-k : goal.invariant-loop-k
invariant-loop-k l = in_order_from l.count l.k (drop l.k l.list) ≡ in_order l.count l.list
