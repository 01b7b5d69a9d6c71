-- What is left of the text, from the beginning so far.
use Rattle.std.proofs.Common.{◌≡◌, drop}
use Rattle.std.specs.List.{fold}
use Rattle.stored_list.specs.Beginnings.{begun_after, beginning_of}
use Rattle.stored_list.proofs.beginning.Beginning.of.Given as goal

abbrev pub invariant-loop-byte : goal.invariant-loop-byte
invariant-loop-byte l = beginning_of l.fn.text ≡ fold begun_after l.beginning (drop l.byte-index l.fn.text)
