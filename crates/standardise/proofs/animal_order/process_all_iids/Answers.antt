-- `process_all_iids`: the statistics, then the values.
use mathlib.Core.Path.{sym, ◌∙◌}
use mathlib.Core.Bool.{true}
use lib.Ieee.{binary64}
use Rattle.standardise.specs.Says.{standardise_says}
use Rattle.standardise.specs.Private.{FindsStats}
use Rattle.standardise.proofs.CallLaws.{lent_answer, lent_stats, as_not_lent, done_by, rows_values}
use Rattle.standardise.proofs.animal_order.process_all_iids.Goals as goal
use Rattle.standardise.proofs.animal_order.process_all_iids.Goals.{Joined-use_stats, then-use_stats, else-use_stats, else-apply_in_place-via-then-apply_in_place+else-is_ok, else-apply_in_place-via-else-apply_in_place}

-- the statistics, lent or found
found : (c : Joined-use_stats) → let a = c.args in FindsStats binary64 true a.iid_count a.sid_count a.val.now a.use_stats a.stats.now (standardise_says c.if-use_stats.answer) c.if-use_stats.stats
found c = elim c.if-use_stats.branch [
  | then-use_stats w ↦ rw (w.answer-is, w.stats-is) (lent_answer binary64 _ _ _ _ _ _ w.if-use_stats.true, lent_stats binary64 _ _ _ _ _ _ c.requires.1 w.if-use_stats.true)
  | else-use_stats w ↦ rw (w.answer-is, w.stats-is) (as_not_lent binary64 _ _ _ _ _ _ w.if-use_stats.false _ _ w.all_stats-answer.ensures)
]

pub returns-then-is_ok : goal.returns-then-is_ok
returns-then-is_ok c =
    let e = found (goal.at.returns-then-is_ok c).Joined-use_stats in
    let done = sym (done_by _) ∙ sym c.is_ok.ensures.value ∙ c.if-is_ok.true in
    (e.0, rows_values binary64 _ _ _ _ c.requires.1 _ _ _ _ _ e.0 e.1 (simp (c.if-apply_in_place.true, done, c.apply_all.ensures)), e.1)

pub returns-else-apply_in_place : goal.returns-else-apply_in_place
returns-else-apply_in_place c =
    let e = found (goal.at.returns-else-apply_in_place c).Joined-use_stats in (
      e.0,
      rows_values binary64 _ _ _ _ c.requires.1 _ _ _ _ _ e.0 e.1 (elim c.else-apply_in_place.branch [
        | else-apply_in_place-via-then-apply_in_place+else-is_ok w ↦ simp (w.if-apply_in_place.true, sym (done_by c.if-use_stats.answer) ∙ sym w.is_ok.ensures.value ∙ w.if-is_ok.false)
        | else-apply_in_place-via-else-apply_in_place w ↦ simp w.if-apply_in_place.false
      ]),
      e.1,
    )
