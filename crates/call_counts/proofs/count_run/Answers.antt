use Rattle.std.proofs.Common.{rules, arith, ◌+◌, ◌*◌, ◌≤◌, length}
use Rattle.calls.specs.Lists.{entry_number}
use Rattle.calls.proofs.ListLaws.{outer_entry}
use Rattle.call_counts.specs.Private.{count_at}
use Rattle.call_counts.proofs.CountLaws.{run_more, count_more, count_room}
use Rattle.call_counts.proofs.count_run.Goals as goal

pub tally-packed-requires : goal.tally-packed-requires
tally-packed-requires g c =
    c.requires.0.callable _ _ c.loop-m-test.true (outer_entry _ _ _ _ _ c.args.lists.now.ready (search rules) _ c.loop-m-test.true (search rules) _ c.entry_part.ensures)

pub add_tally-requires : goal.add_tally-requires
unfolding entry_number
add_tally-requires g c =
    let lists = c.args.lists.now in
    let part = outer_entry _ _ _ _ _ lists.ready (search rules) _ c.loop-m-test.true (search rules) _ c.entry_part.ensures in
    let there : 4 * c.loop-m.m + 4 ≤ 4 * length lists.sid_index.now = let h = c.loop-m-test.true in omega arith in (
      (let r = c.loop-m.invariant.long in omega arith),
      count_room _ _ _ _ _ _ _ _ _ c.requires.2 (c.requires.0.tally_is _ _ _ c.loop-m-test.true part c.tally-packed.ensures) _ _ c.loop-m.invariant there (let h = c.requires.1 in omega arith),
    )

pub loop-m-preserved : goal.loop-m-preserved
unfolding entry_number
loop-m-preserved g c =
    let lists = c.args.lists.now in
    let part = outer_entry _ _ _ _ _ lists.ready (search rules) _ c.loop-m-test.true (search rules) _ c.entry_part.ensures in
    let there : 4 * c.loop-m.m + 4 ≤ 4 * length lists.sid_index.now = let h = c.loop-m-test.true in omega arith in
    run_more (count_at lists.file.now lists.shape.iids lists.shape.sids lists.iid_index.now lists.sid_index.now) _ _ _ _ _ _ _ c.loop-m.invariant there c.add_tally.ensures
    (count_more lists.file.now lists.shape.iids lists.shape.sids lists.iid_index.now lists.sid_index.now _ _ _ _ c.requires.2
    (c.requires.0.tally_is _ _ _ c.loop-m-test.true part c.tally-packed.ensures))
