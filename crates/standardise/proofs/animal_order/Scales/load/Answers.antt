-- `load`: a marker more.
use Rattle.std.proofs.Common.{◌+◌, arith, ◌∙◌}
use lib.Ieee.{binary64}
use lib.ListN.{length-set}
use Rattle.statistics.specs.Statistics.{stats_at}
use Rattle.standardise.proofs.ApplyLaws.{loaded_more}
use Rattle.standardise.proofs.animal_order.Scales.load.Goals as goal

pub loop-j-preserved : goal.loop-j-preserved
loop-j-preserved c =
    let l = c.loop-j in
    let (a, b, d, loaded) = l.invariant in (
      length-set l.self.means _ _ ∙ a,
      length-set l.self.deviations _ _ ∙ b,
      length-set l.self.factors _ _ ∙ d,
      loaded_more binary64 (λ k. stats_at c.args.stats.now (c.args.base + k)) l.self l.j c.get_stats-s.result _ (omega arith) (omega arith) (omega arith)
          loaded c.get_stats-s.ensures c.scale.ensures.factor,
    )
