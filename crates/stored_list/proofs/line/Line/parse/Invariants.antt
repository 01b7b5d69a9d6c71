-- The sections that are left, and those so far.
use Rattle.std.proofs.Common.{◌≡◌, ◌+◌, ◌≤◌, length, map, take}
use Rattle.stored_list.specs.Lines.{each, words_of}
use Rattle.stored_list.specs.Readings.{listed, onto}
use Rattle.stored_list.proofs.TextLaws.{sections}
use Rattle.stored_list.proofs.ReadLaws.{sections_from}
use Rattle.stored_list.proofs.line.Line.parse.Given as goal

abbrev pub invariant-loop-section : goal.invariant-loop-section
invariant-loop-section l = (each words_of (sections l.fn.text) ≡ onto (map listed (take l.section-index l.section-items)) (each words_of (sections_from l.from l.fn.text)))
    × (length l.section-items ≡ 11)
    × (l.from ≤ length l.fn.text + 1)
