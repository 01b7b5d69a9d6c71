use Rattle.std.proofs.Common.{◌+◌, arith, rules}
use Rattle.calls.proofs.ListLaws.{inner_entries}
use Rattle.bed_read.proofs.read.read_matrix.Goals as goal

pub read_tile-requires : goal.read_tile-requires
read_tile-requires g c =
    let m = c.args.lines.now in
    let more = c.loop-from-test.true in
    let least = c.min.ensures in
    let some = c.at_once-most.ensures in
    let until = c.loop-from.from + c.min.result in (
      inner_entries _ _ _ _ _ m.ready (search rules) g.I.Item.is_animal m.other c.loop-from.from until (omega arith) (omega arith) (omega arith) c.loop-from.parts c.resolve.new.self c.resolve.ensures,
      omega arith,
      omega arith,
      omega arith,
      c.loop-from.invariant,
    )
