-- `apply_row`: a value more.
use Rattle.std.proofs.Common.{refl, ap, ◌∙◌}
use lib.Ieee.{nan, binary64}
use lib.ListN.{get_or}
use Rattle.statistics.specs.declared.Scale.{Scale}
use Rattle.statistics.specs.Statistics.{scaled_by}
use Rattle.standardise.specs.Private.{written, scaled_at}
use Rattle.standardise.proofs.StoreLaws.{row_changed_more}
use Rattle.standardise.proofs.animal_order.Scales.apply_row.Goals as goal

pub loop-j-init : goal.loop-j-init
unfolding written
loop-j-init c = refl

pub loop-j-preserved : goal.loop-j-preserved
unfolding scaled_at
loop-j-preserved c =
    row_changed_more c.args.row.now (scaled_at binary64 c.args.self.now) c.loop-j.j c.loop-j.row _ c.loop-j.invariant
    (c.scaled.ensures ∙ ap (λ (s : Scale). scaled_by binary64 s.mean s.factor s.infinite (get_or c.loop-j.row c.loop-j.j nan)) c.at.ensures)
