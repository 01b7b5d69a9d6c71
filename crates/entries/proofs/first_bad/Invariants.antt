-- `first_bad`: what is left of the list says what the whole list says.
use Rattle.std.proofs.Common.{◌≡◌, drop}
use Rattle.entries.specs.Entry.{first_bad}
use Rattle.entries.proofs.first_bad.Given as goal

abbrev pub invariant-loop-entry : goal.invariant-loop-entry
invariant-loop-entry l = first_bad l.count (drop l.entry-index l.list) ≡ first_bad l.count l.list
