-- `apply_column`: a value more.
use Rattle.std.proofs.Common.{◌<◌, length, ap, ◌∙◌, get_or, arith}
use Rattle.std.proofs.lemmas.List.{get_or_default}
use Rattle.std.proofs.lemmas.List.Edits.{map_over_more}
use lib.Ieee.{Float, nan, binary64}
use lib.ListN.{set}
use Rattle.statistics.specs.Statistics.{standardised, scaled_by}
use Rattle.standardise.proofs.ChoiceLaws.{scaled_standardised}
use Rattle.standardise.proofs.marker_order.apply_column.Goals as goal

pub loop-v-preserved : goal.loop-v-preserved
loop-v-preserved c =
    let l = c.loop-v in
    let e = c.scale-scale.ensures in
    let v = get_or l.column l.v-index nan in
    let inside : l.v-index < length l.column = omega (arith, c.loop-v-test.true, l.auto.column) in
    ap (set l.column l.v-index)
    (c.scaled.ensures ∙ ap (λ (x : Float). scaled_by binary64 x c.scale-scale.result.factor c.scale-scale.result.infinite v) e.mean
    ∙ scaled_standardised binary64 c.args.s _ _ e.factor e.infinite v)
    ∙ map_over_more (standardised binary64 c.args.s) c.args.column.now l.column l.v-index v c.loop-v-test.true l.invariant (get_or_default l.column l.v-index nan v inside)
