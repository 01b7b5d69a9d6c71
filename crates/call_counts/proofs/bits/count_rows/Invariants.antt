-- `count_rows`: the bits of the first j bytes of each row, and of the bytes j of the rows passed.
use Rattle.std.proofs.Common.{◌≡◌}
use Rattle.call_counts.specs.Private.{low_bit, high_bit, both_bits}
use Rattle.call_counts.proofs.BitLaws.{column, in_rows}
use Rattle.call_counts.proofs.bits.count_rows.Given as goal

abbrev pub invariant-loop-j : goal.invariant-loop-j
invariant-loop-j g l =
    (l.low ≡ in_rows low_bit l.file l.at g.row.ROWS l.j) × (l.high ≡ in_rows high_bit l.file l.at g.row.ROWS l.j)
    × (l.both ≡ in_rows both_bits l.file l.at g.row.ROWS l.j)

abbrev pub invariant-loop-r : goal.invariant-loop-r
invariant-loop-r g l = (l.lows ≡ column low_bit l.file l.at l.j l.r) × (l.highs ≡ column high_bit l.file l.at l.j l.r) × (l.boths ≡ column both_bits l.file l.at l.j l.r)
