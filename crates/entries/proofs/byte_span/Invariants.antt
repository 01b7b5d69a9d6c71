-- `byte_span`: 18, then one walk. The entries passed are good, and `sofar` is their span.
use Rattle.std.proofs.Common.{◌≡◌, drop}
use Rattle.entries.specs.Entry.{first_bad}
use Rattle.entries.proofs.SpanLaws.{Walked}
use Rattle.entries.proofs.byte_span.Given as goal

abbrev pub invariant-loop-next : goal.invariant-loop-next
invariant-loop-next l = Walked l.count l.list l.next-index l.sofar × (first_bad l.count (drop l.next-index l.list) ≡ first_bad l.count l.list)
