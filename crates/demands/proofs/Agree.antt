-- "files that agree now refuse bad lists alike in both modes": two files that are accepted for the same counts and whose calls agree, whatever
-- the lists and the lengths of the lent buffers. Read at any width, and read and standardised in either way, they are answered alike and leave
-- the same. Over the format.
use mathlib.Core.Path.{◌≡◌, sym, ap, ◌∙◌}
use mathlib.Core.Bool.{Bool, true, false}
use mathlib.Core.List.{List, [], ◌∷◌}
use Prim.Native.Nat.{ℕ, ◌*◌}
use lib.Dec.{eqb}
use lib.IntN.{ℤ}
use lib.ListN.{length}
use lib.Ieee.{Float, nan, Format}
use Rattle.answer.specs.Answer.{Answer, done, check, is_done, if_done}
use Rattle.codes.specs.Value.{Width, float}
use Rattle.answer.proofs.AnswerLaws.{check_done, same_if_done}
use Rattle.bed_read.specs.Reading.{check_lists, read_answer, values_read, read_buffer}
use Rattle.bed_read.proofs.ReadLaws.{readable, read_accepted, lists_done, lists_same}
use Rattle.statistics.specs.Statistics.{stats_per_marker}
use Rattle.standardise.specs.Standardised.{lowest_refused, new_stats, new_values, standardise_answer, later_stats, later_values}
use Rattle.read_standardised.specs.Joined.{joined_checks, read_nan, joined_answer, joined_stats, joined_values}
use Rattle.read_standardised.specs.Ways.{Way, in_turn, joined_call, as_read, answers_of, values_left, stats_left}
use Rattle.read_standardised.proofs.JoinLaws.{joined_accepted}
use Rattle.demands.specs.Demand.{IsAccepted, CallsAgree, GoodList}
use Rattle.demands.proofs.ReadLaws.{values_same}

module _ (file other : List ℕ) (iids sids : ℕ)
    -- "the two counts for which the files are accepted"
    (acc : IsAccepted file iids sids) (acc' : IsAccepted other iids sids)
    -- "two files' calls agree"
    (agree : CallsAgree file other iids sids)
    -- any lists
    (iid_list sid_list : List ℤ) where
  answer_same : (n : ℕ) → read_answer file iids sids iid_list sid_list n ≡ read_answer other iids sids iid_list sid_list n
  answer_same n = read_accepted file iids sids iid_list sid_list n (ap is_done acc) ∙ sym (read_accepted other iids sids iid_list sid_list n (ap is_done acc'))

  -- the reading of a matrix, at every width
  pub agree_read : {V : Type 0} (w : Width V) (flag : Bool) (missing : V) (order : Bool) (val : List V)
      → (read_answer file iids sids iid_list sid_list (length val) ≡ read_answer other iids sids iid_list sid_list (length val))
      × (read_buffer w file iids sids flag iid_list sid_list missing order val ≡ read_buffer w other iids sids flag iid_list sid_list missing order val)
  unfolding read_buffer
  agree_read w flag missing order val = (
    answer_same (length val),
    same_if_done (read_answer file iids sids iid_list sid_list (length val)) _ _ val
        (λ d. let r = readable file iids sids iid_list sid_list (length val) d in
        values_same file other iids sids iid_list sid_list r.iids_good r.sids_good agree w flag missing order)
        ∙ ap (λ (a : Answer). if_done a (values_read w flag missing order other iids sids iid_list sid_list) val) (answer_same (length val)),
  )

  module _ (f : Format) (flag order : Bool) (val stats : List Float) where
    as_read_same : as_read f file iids sids flag iid_list sid_list order val stats ≡ as_read f other iids sids flag iid_list sid_list order val stats
    unfolding as_read
    as_read_same = (agree_read float flag nan order val).1

    -- ---- the joined call
    abbrev checks : Answer → Answer
    checks later =
        check (eqb (length iid_list * length sid_list) (length val)) 15
        (check (eqb (stats_per_marker * length sid_list) (length stats)) 17 (check_lists iids sids iid_list sid_list later))

    checks_are : (later : Answer) → joined_checks file iids sids iid_list sid_list (length val) (length stats) later ≡ checks later
    checks_are = joined_accepted file iids sids iid_list sid_list (length val) (length stats) (ap is_done acc)

    checks_are' : (later : Answer) → joined_checks other iids sids iid_list sid_list (length val) (length stats) later ≡ checks later
    checks_are' = joined_accepted other iids sids iid_list sid_list (length val) (length stats) (ap is_done acc')

    read_same : GoodList iids iid_list → GoodList sids sid_list
        → read_nan f file iids sids flag iid_list sid_list order val stats ≡ read_nan f other iids sids flag iid_list sid_list order val stats
    unfolding read_nan
    read_same gi gs = values_same file other iids sids iid_list sid_list gi gs agree float flag nan order

    joined_answer_law : joined_answer f file iids sids flag iid_list sid_list order val stats ≡ joined_answer f other iids sids flag iid_list sid_list order val stats
    unfolding joined_answer
    joined_answer_law =
        checks_are _
        ∙ ap (λ (a : Answer). check (eqb (length iid_list * length sid_list) (length val)) 15 (check (eqb (stats_per_marker * length sid_list) (length stats)) 17 a))
        (lists_same iids sids iid_list sid_list _ _
        (λ gi gs. ap (λ (x : List Float). lowest_refused f order (length iid_list) (length sid_list) x false stats) (read_same gi gs)))
        ∙ sym (checks_are' _)

    -- what is left where the checks find nothing, by what was read
    left_same : (new : List Float → List Float) (old : List Float)
        → if_done (joined_checks file iids sids iid_list sid_list (length val) (length stats) (done [])) (new (read_nan f file iids sids flag iid_list sid_list order val stats)) old
        ≡ if_done (joined_checks other iids sids iid_list sid_list (length val) (length stats) (done [])) (new (read_nan f other iids sids flag iid_list sid_list order val stats)) old
    left_same new old =
        ap (λ (a : Answer). if_done a (new (read_nan f file iids sids flag iid_list sid_list order val stats)) old) (checks_are (done []))
        ∙ same_if_done (checks (done [])) _ _ old
        (λ d. let a = check_done (eqb (length iid_list * length sid_list) (length val)) 15 _ d in
        let b = check_done (eqb (stats_per_marker * length sid_list) (length stats)) 17 _ a.1 in
        let g = lists_done iids sids iid_list sid_list (done []) b.1 in
        ap new (read_same g.0 g.1))
        ∙ ap (λ (a : Answer). if_done a (new (read_nan f other iids sids flag iid_list sid_list order val stats)) old) (sym (checks_are' (done [])))

    -- ---- both ways: "the refusals are equal, with what they carry, or neither side refuses", and every place of both buffers is the same
    pub agree_answers : (way : Way) → answers_of f file iids sids flag iid_list sid_list order val stats way ≡ answers_of f other iids sids flag iid_list sid_list order val stats way
    unfolding answers_of
    agree_answers (in_turn use_stats apply) =
        λ i. answer_same (length val) i ∷ standardise_answer f order (length iid_list) (length sid_list) (as_read_same i) use_stats stats ∷ []
    agree_answers joined_call = ap (λ (a : Answer). a ∷ []) joined_answer_law

    pub agree_values : (way : Way) → values_left f file iids sids flag iid_list sid_list order val stats way ≡ values_left f other iids sids flag iid_list sid_list order val stats way
    unfolding values_left joined_values
    agree_values (in_turn use_stats apply) = ap (λ (x : List Float). later_values f order (length iid_list) (length sid_list) x use_stats stats apply) as_read_same
    agree_values joined_call = left_same (λ x. new_values f order (length iid_list) (length sid_list) x false stats true) val

    pub agree_stats : (way : Way) → stats_left f file iids sids flag iid_list sid_list order val stats way ≡ stats_left f other iids sids flag iid_list sid_list order val stats way
    unfolding stats_left joined_stats
    agree_stats (in_turn use_stats apply) = ap (λ (x : List Float). later_stats f order (length iid_list) (length sid_list) x use_stats stats) as_read_same
    agree_stats joined_call = left_same (λ x. new_stats f order (length iid_list) (length sid_list) x false stats) stats
