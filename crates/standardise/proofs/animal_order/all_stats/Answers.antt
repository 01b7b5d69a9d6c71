-- `all_stats`: a tile more, marker by marker.
use Rattle.std.proofs.Common.{arith, rules, ◌∙◌}
use lib.Ieee.{binary64}
use mathlib.Core.Bool.{false, true}
use Rattle.standardise.specs.Standardised.{found, lowest_refused, new_stats}
use Rattle.standardise.specs.Says.{standardise_says}
use Rattle.standardise.proofs.PassLaws.{refusal_of, stats_passed_none, stats_passed_all}
use Rattle.standardise.proofs.TileLaws.{passed_from_more}
use Rattle.standardise.proofs.animal_order.all_stats.Goals as goal

pub loop-base-init : goal.loop-base-init
loop-base-init c = stats_passed_none _ (found binary64 true c.args.iid_count c.args.sid_count c.args.val.now false c.args.stats.now) _ c.requires.1

pub loop-j-preserved : goal.loop-j-preserved
loop-j-preserved c =
    let a = c.args in
    let o = c.loop-base in
    let l = c.loop-j in
    passed_from_more binary64 a.iid_count a.sid_count a.val.now o.base (standardise_says o.lowest) o.stats l.j (standardise_says l.lowest) l.stats l.invariant (omega arith) _ _
    c.find_stats-found.ensures (c.at.ensures.value ∙ c.count_tile.ensures l.j c.loop-j-test.true) _ _ (refusal_of _ _ _ _ c.and-lowest.ensures c.marker_answer.ensures)
    c.put_found.auto.stats c.put_found.ensures

pub returns : goal.returns
unfolding lowest_refused new_stats
returns c =
    stats_passed_all _ (found binary64 true c.args.iid_count c.args.sid_count c.args.val.now false c.args.stats.now) _ c.requires.1
    c.loop-base.invariant c.loop-base-test.false

pub returns-2 : goal.returns-2
unfolding lowest_refused new_stats
returns-2 c =
    stats_passed_all _ (found binary64 true c.args.iid_count c.args.sid_count c.args.val.now false c.args.stats.now) _ c.requires.1
    (c.loop-j.invariant.passed _ c.loop-base.invariant) (search rules)
