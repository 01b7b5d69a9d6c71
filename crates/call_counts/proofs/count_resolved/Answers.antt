use Rattle.std.proofs.Common.{rules, arith, true, refl, ◌+◌, ◌<◌, ◌≤◌, ◌^◌, length}
use Rattle.calls.proofs.ListLaws.{inner_entries}
use Rattle.call_counts.proofs.PartLaws.{run_inside, run_tally}
use Rattle.call_counts.proofs.count_resolved.Goals as goal

pub count_run-requires : goal.count_run-requires
count_run-requires c =
    let s = c.args.lists.now in
    let i = c.loop-from.invariant in
    let min = c.min-n.ensures in
    let more = c.loop-from-test.true in
    let ends : c.loop-from.from + c.min-n.result ≤ length s.iid_index.now = omega arith in
    let most : c.min-n.result ≤ 2048 = omega arith in
    let fits : length s.file.now < 2 ^ 64 = omega arith in
    let parts = inner_entries _ _ _ _ _ s.ready fits true refl c.loop-from.from (c.loop-from.from + c.min-n.result) (omega arith) ends (omega arith) c.loop-from.parts c.resolve.new.self c.resolve.ensures in (
      record {
        callable = λ m part h p.
            let inside = run_inside s.file.now s.shape s.iid_index.now s.sid_index.now s.ready m _ _ h ends part p c.resolve.new.self parts most in
            search rules;
        tally_is = λ m part t h p e. run_tally s.file.now s.shape s.iid_index.now s.sid_index.now s.ready m _ _ h ends part p c.resolve.new.self parts t (search rules);
      },
      ends,
      omega arith,
      i.1,
    )
