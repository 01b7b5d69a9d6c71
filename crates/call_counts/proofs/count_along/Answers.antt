use Rattle.std.proofs.Common.{rules, arith, ◌+◌, ◌-◌, ◌*◌, ◌/◌, ◌<◌, ◌≤◌, ◌^◌, length}
use Rattle.call_counts.proofs.BlockLaws.{block_inside, block_tally}
use Rattle.call_counts.proofs.count_along.Goals as goal

pub count_run-requires : goal.count_run-requires
count_run-requires c =
    let s = c.args.lists.now in
    let i = c.loop-from.invariant in
    let min = c.min-n.ensures in
    let more = c.loop-from-test.true in
    let ends : c.loop-from.from-counter + c.min-n.result ≤ length s.iid_index.now = omega arith in
    let fits : length s.file.now < 2 ^ 64 = omega arith in
    let some : 0 < c.min-n.result = omega arith in (
      record {
        callable = λ m part h p.
            let inside : c.min-n.result ≤ 4 * (length s.file.now - (part.byte + c.loop-from.from-counter / 4)) =
            block_inside s.file.now s.shape s.iid_index.now s.sid_index.now s.ready c.requires.0 m _ _ part.byte h ends i.1 p.byte_is in
            let small : part.byte + c.loop-from.from-counter / 4 < 2 ^ 64 = omega arith in
            let n : c.min-n.result < 65536 = omega arith in
            search rules;
        tally_is = λ m part t h p e. block_tally s.file.now s.shape s.iid_index.now s.sid_index.now s.ready c.requires.0 m _ _ part.byte h ends i.1 p.byte_is t (search rules);
      },
      ends,
      omega arith,
      i.2,
    )
