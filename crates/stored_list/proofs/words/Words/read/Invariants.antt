-- What is left of the section, after the words so far.
use Rattle.std.proofs.Common.{◌≡◌, ◌+◌, length, drop, []}
use Rattle.std.specs.Bool.{then_some}
use Rattle.std.specs.Option.{unwrap_or}
use Rattle.stored_list.specs.Readings.{listed, few, onto, words_left, until_bar}
use Rattle.stored_list.proofs.ReadLaws.{parted}
use Rattle.stored_list.proofs.words.Words.read.Given as goal

abbrev pub invariant-loop-i : goal.invariant-loop-i
invariant-loop-i l = (parted (until_bar l.fn.bytes) ≡ few (onto (listed l.self) (words_left (then_some l.is_word l.number) (drop l.i l.fn.bytes))))
    × (l.number ≡ unwrap_or (then_some l.is_word l.number) 0)
    × (length (until_bar l.fn.bytes) ≡ l.i + length (until_bar (drop l.i l.fn.bytes)))
    × (l.i ≡ 0 → listed l.self ≡ [])
