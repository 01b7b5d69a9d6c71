-- `process_sid`: lent statistics or found ones, then the values, by the choice to apply and by what is found.
use Rattle.std.proofs.Common.{◌≡◌, length, refl, sym, ap, ◌∙◌}
use Rattle.std.specs.Prelude.{Result, Ok}
use lib.Ieee.{binary64}
use Rattle.statistics.specs.declared.Stats.{Stats}
use Rattle.statistics.specs.declared.MarkerStats.{MarkerStats}
use Rattle.statistics.specs.declared.MarkerError.{MarkerError}
use Rattle.statistics.specs.Statistics.{lent, found_for, stats_at}
use Rattle.standardise.specs.Private.{nth, stored_stats}
use Rattle.standardise.proofs.ChoiceLaws.{found_lent, found_worked_out, not_applied, applied_found, refused_kept}
use Rattle.standardise.proofs.marker_order.process_sid.Goals as goal
use Rattle.standardise.proofs.marker_order.process_sid.Goals.{Joined-use_stats, then-use_stats, else-use_stats}

found : (c : Joined-use_stats) → let a = c.args in c.if-use_stats.found ≡ found_for binary64 a.use_stats (stats_at a.stats.now a.m) (length a.column.now) (nth a.column.now)
found c = elim c.if-use_stats.branch [
  | then-use_stats w ↦ found_lent binary64 _ _ _ _ _ w.if-use_stats.true (w.found-is ∙ ap (λ (s : Stats). Ok (lent s)) w.get_stats.ensures)
  | else-use_stats w ↦ found_worked_out binary64 _ _ _ _ _ w.if-use_stats.false (w.found-is ∙ w.column_stats-found.ensures)
]

pub returns-in-Ok : goal.returns-in-Ok
returns-in-Ok c = (
  sym c.in-Ok.is ∙ found (goal.at.returns-in-Ok c).Joined-use_stats,
  c.apply_column.ensures ∙ applied_found binary64 _ _ _ _ c.if-apply_in_place.true refl,
  c.put_found.ensures ∙ ap (λ (r : Result MarkerStats MarkerError). stored_stats r c.args.m c.args.stats.now) c.in-Ok.is,
)

pub returns-in_default : goal.returns-in_default
returns-in_default c = (found (goal.at.returns-in_default c).Joined-use_stats, refused_kept binary64 _ _ _ _ c.in_default.is, c.put_found.ensures)

pub returns-else-apply_in_place : goal.returns-else-apply_in_place
returns-else-apply_in_place c =
    (found (goal.at.returns-else-apply_in_place c).Joined-use_stats, not_applied binary64 _ _ _ c.if-apply_in_place.false, c.put_found.ensures)
