-- `process_all_sids`: a marker more.
use Rattle.std.proofs.Common.{◌≡◌, ◌+◌, ◌-◌, ◌*◌, ◌∙◌, arith}
use lib.Ieee.{binary64}
use Rattle.standardise.proofs.ColumnLaws.{part_found, part_changed}
use Rattle.standardise.proofs.PassLaws.{refusal_of, passed_none, column_inside, passed_more, passed_all}
use Rattle.standardise.proofs.marker_order.process_all_sids.Goals as goal

pub loop-m-init : goal.loop-m-init
loop-m-init c =
    let a = c.args in
    passed_none binary64 a.iid_count a.sid_count a.val.now a.use_stats a.stats.now a.apply_in_place c.requires.0 c.requires.1

pub loop-m-preserved : goal.loop-m-preserved
loop-m-preserved c =
    let a = c.args in
    let e = c.process_sid-found.ensures in
    let at = c.loop-m.m * a.iid_count in
    let n : at + a.iid_count - at ≡ a.iid_count = omega arith in
    let h = column_inside binary64 a.iid_count a.sid_count a.val.now a.use_stats a.stats.now a.apply_in_place c.loop-m.invariant c.loop-m-test.true in
    passed_more binary64 a.iid_count a.sid_count a.val.now a.use_stats a.stats.now a.apply_in_place c.loop-m-test.true c.loop-m.invariant _
    (e.0 ∙ part_found c.loop-m.val at binary64 a.use_stats _ a.iid_count _ n h) _ _ _
    (refusal_of _ _ _ _ c.and-answer.ensures c.marker_answer.ensures) (part_changed c.loop-m.val at _ a.iid_count _ _ n h e.1) e.2

pub returns : goal.returns
returns c =
    let a = c.args in
    passed_all binary64 a.iid_count a.sid_count a.val.now a.use_stats a.stats.now a.apply_in_place c.requires.0 c.requires.1 c.loop-m.invariant c.loop-m-test.false
