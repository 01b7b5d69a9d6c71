-- The joined call's checks in order, and that it is reading and standardising in turn. Over plain numbers and lists.
use mathlib.Core.Path.{◌≡◌, refl, sym, ap, ◌∙◌}
use mathlib.Core.Bool.{Bool, true, false}
use mathlib.Core.List.{List, [], ◌∷◌}
use Prim.Native.Nat.{ℕ, ◌*◌, ◌<◌, ◌≤◌}
use native.Mathlib.Omega.{arith}
use borrow.Author.Tests.{eq-eqb, le-leb}
use lib.Dec.{eqb}
use lib.IntN.{ℤ}
use lib.ListN.{length}
use lib.Ieee.{Float, nan, Format}
use Rattle.answer.specs.Answer.{Answer, done, refused, check, check_count, count_limit, counts_fit, is_done, if_done}
use Rattle.codes.specs.Value.{float}
use Rattle.answer.proofs.Tests.{by_test}
use Rattle.answer.proofs.AnswerLaws.{check_passes, check_refuses, count_passes, both_fit, counts_refuse, check_other, count_other, check_stage, count_stage, then_stage, Stage, lets, refuses, heard, new_if_done, old_if_not}
use Rattle.bed_file.specs.File.{check_file, accept_answer}
use Rattle.bed_read.specs.Reading.{check_lists, read_answer, read_buffer}
use Rattle.bed_file.proofs.FileLaws.{accepted, file_other, file_stage}
use Rattle.bed_read.proofs.ReadLaws.{lists_other, lists_stage}
use Rattle.bed_read.proofs.BufferLaws.{read_length, buffer_values, buffer_kept}
use Rattle.statistics.specs.Statistics.{stats_per_marker}
use Rattle.standardise.specs.Standardised.{buffer_checks, lowest_refused, new_stats, new_values, standardise_answer, later_stats, later_values}
use Rattle.standardise.proofs.CallLaws.{checks_pass}
use Rattle.read_standardised.specs.Joined.{joined_checks, read_nan, joined_answer, joined_stats, joined_values, Joins}
use Rattle.read_standardised.specs.Ways.{in_turn, as_read, answers_of, values_left, stats_left, GoesBy}

-- where a row of checks refuses, it does whatever comes later
pub unheard : {F : Answer → Answer} → Stage F → is_done (F (done [])) ≡ false → (later : Answer) → F later ≡ F (done [])
unheard (lets g) e later = absurd (let q : ◌≡◌ {A = Bool} true false = sym (ap is_done (g (done []))) ∙ e in let r : ◌≡◌ {A = ℕ} 0 1 = cc in omega arith)
unheard (refuses n vs g) e later = g later ∙ sym (g (done []))

-- ---- the checks
module _ (file : List ℕ) (iids sids : ℕ) (il sl : List ℤ) (val_length stats_length : ℕ) where
  -- those before 17, and those after it
  before17 : Answer → Answer
  before17 later = check_count iids (check_count sids (check (eqb (length il * length sl) val_length) 15 later))

  after17 : Answer → Answer
  after17 later = check_file file iids sids (check_lists iids sids il sl later)

  reading_stage : Stage (λ later. before17 (after17 later))
  unfolding before17 after17
  reading_stage =
      then_stage (then_stage (count_stage iids) (then_stage (count_stage sids) (check_stage (eqb (length il * length sl) val_length) 15)))
      (then_stage (file_stage file iids sids) (lists_stage iids sids il sl))

  pub counts_too_large : counts_fit iids sids ≡ false → (later : Answer) → joined_checks file iids sids il sl val_length stats_length later ≡ refused 18 []
  unfolding joined_checks
  counts_too_large e later = counts_refuse iids sids _ e

  module _ (fits : counts_fit iids sids ≡ true) where
    fit : (iids ≤ count_limit) × (sids ≤ count_limit)
    fit = both_fit iids sids fits

    pub values_mismatch :
        eqb (length il * length sl) val_length ≡ false → (later : Answer) → joined_checks file iids sids il sl val_length stats_length later ≡ refused 15 []
    unfolding joined_checks
    values_mismatch e later = count_passes iids _ fit.0 ∙ count_passes sids _ fit.1 ∙ check_refuses (eqb (length il * length sl) val_length) 15 _ e

    pub stats_mismatch :
        eqb (length il * length sl) val_length ≡ true → eqb (stats_per_marker * length sl) stats_length ≡ false
        → (later : Answer) → joined_checks file iids sids il sl val_length stats_length later ≡ refused 17 []
    unfolding joined_checks
    stats_mismatch e g later =
        count_passes iids _ fit.0 ∙ count_passes sids _ fit.1 ∙ check_passes (eqb (length il * length sl) val_length) 15 _ e
        ∙ check_refuses (eqb (stats_per_marker * length sl) stats_length) 17 _ g

  -- of an accepted file 15, 17 and the lists are left
  pub joined_accepted :
      is_done (accept_answer file iids sids) ≡ true → (later : Answer)
      → joined_checks file iids sids il sl val_length stats_length later
      ≡ check (eqb (length il * length sl) val_length) 15 (check (eqb (stats_per_marker * length sl) stats_length) 17 (check_lists iids sids il sl later))
  unfolding joined_checks
  joined_accepted d later =
      let a = accepted file iids sids d in
      count_passes iids _ a.iids_fit ∙ count_passes sids _ a.sids_fit
      ∙ ap (λ (x : Answer). check (eqb (length il * length sl) val_length) 15 (check (eqb (stats_per_marker * length sl) stats_length) 17 x))
      (a.heard_later (check_lists iids sids il sl later))

  -- a refusal by a number from 5 to 14 is the lists' or a later one's, and one by 7 to 14 a later one's
  module _ (later : Answer) (n : ℕ) (vs : List ℤ) (h : n < 15) where
    pub by_lists : 4 < n → joined_checks file iids sids il sl val_length stats_length later ≡ refused n vs → check_lists iids sids il sl later ≡ refused n vs
    unfolding joined_checks
    by_lists l e =
        file_other file iids sids (check_lists iids sids il sl later) n vs l
        (check_other (eqb (stats_per_marker * length sl) stats_length) 17 _ n vs (λ q. omega (arith, q))
        (check_other (eqb (length il * length sl) val_length) 15 _ n vs (λ q. omega (arith, q))
        (count_other sids _ n vs (λ q. omega (arith, q)) (count_other iids _ n vs (λ q. omega (arith, q)) e))))

    pub by_markers : 6 < n → joined_checks file iids sids il sl val_length stats_length later ≡ refused n vs → later ≡ refused n vs
    by_markers l e = lists_other iids sids il sl later n vs l (by_lists (omega arith) e)

  -- where 17 finds nothing the reading's are left
  module _ (e : eqb (stats_per_marker * length sl) stats_length ≡ true) where
    reading_left : (later : Answer) → joined_checks file iids sids il sl val_length stats_length later ≡ before17 (after17 later)
    unfolding joined_checks before17 after17
    reading_left later = ap before17 (check_passes (eqb (stats_per_marker * length sl) stats_length) 17 (after17 later) e)

    pub all_heard :
        is_done (read_answer file iids sids il sl val_length) ≡ true → (later : Answer) → joined_checks file iids sids il sl val_length stats_length later ≡ later
    unfolding read_answer before17 after17
    all_heard d later = reading_left later ∙ heard reading_stage [] d later

    pub reading_refuses :
        is_done (read_answer file iids sids il sl val_length) ≡ false
        → (later : Answer) → joined_checks file iids sids il sl val_length stats_length later ≡ read_answer file iids sids il sl val_length
    unfolding read_answer before17 after17
    reading_refuses d later = reading_left later ∙ unheard reading_stage d later

-- ---- a call
module _ (f : Format) (file : List ℕ) (iids sids : ℕ) (flag : Bool) (il sl : List ℤ) (order : Bool) (val stats : List Float) where
  checks : Answer → Answer
  checks later = joined_checks file iids sids il sl (length val) (length stats) later

  pub call_refused : (a : Answer) → is_done a ≡ false → ((later : Answer) → joined_checks file iids sids il sl (length val) (length stats) later ≡ a) → Joins f file iids sids flag il sl order val stats a val stats
  unfolding joined_answer joined_values joined_stats
  call_refused a n h = (
    sym (h (lowest_refused f order (length il) (length sl) (read_nan f file iids sids flag il sl order val stats) false stats)),
    sym (old_if_not (joined_checks file iids sids il sl (length val) (length stats) (done [])) _ val (ap is_done (h (done [])) ∙ n)),
    sym (old_if_not (joined_checks file iids sids il sl (length val) (length stats) (done [])) _ stats (ap is_done (h (done [])) ∙ n)),
  )

  module _ (d : is_done (read_answer file iids sids il sl (length val)) ≡ true) where
    pub as_read_is : as_read f file iids sids flag il sl order val stats ≡ read_nan f file iids sids flag il sl order val stats
    unfolding as_read read_nan
    as_read_is = buffer_values float file iids sids flag il sl nan order val d

  -- what a reading leaves whose missing value is NaN
  pub left_as_read : (v1 : List Float) (missing : Float) → missing ≡ nan → v1 ≡ read_buffer float file iids sids flag il sl missing order val → v1 ≡ as_read f file iids sids flag il sl order val stats
  unfolding as_read
  left_as_read v1 missing n rv = rv ∙ ap (λ (x : Float). read_buffer float file iids sids flag il sl x order val) n

  -- ---- the two calls in turn, as the code makes them
  pub in_turn_left :
      (use_stats apply : Bool) (rd : Answer) (v1 : List Float) (missing : Float) → missing ≡ nan
      → (rd ≡ read_answer file iids sids il sl (length val)) × (v1 ≡ read_buffer float file iids sids flag il sl missing order val)
      → (a : Answer) (v s : List Float)
      → (a ≡ standardise_answer f order (length il) (length sl) v1 use_stats stats) × (v ≡ later_values f order (length il) (length sl) v1 use_stats stats apply)
      × (s ≡ later_stats f order (length il) (length sl) v1 use_stats stats)
      → GoesBy f file iids sids flag il sl order val stats (in_turn use_stats apply) (rd ∷ a ∷ []) v s
  unfolding answers_of values_left stats_left
  in_turn_left use_stats apply rd v1 missing n (ra, rv) a v s (ea, ev, es) =
      let l = left_as_read v1 missing n rv in (
        λ i. ra i ∷ (ea ∙ ap (λ (x : List Float). standardise_answer f order (length il) (length sl) x use_stats stats) l) i ∷ [],
        ev ∙ ap (λ (x : List Float). later_values f order (length il) (length sl) x use_stats stats apply) l,
        es ∙ ap (λ (x : List Float). later_stats f order (length il) (length sl) x use_stats stats) l,
      )

  -- the standardiser's checks of what was read
  module _ (hi : length il ≤ count_limit) (hs : length sl ≤ count_limit) (e : eqb (stats_per_marker * length sl) (length stats) ≡ true) where
    module _ (d : is_done (read_answer file iids sids il sl (length val)) ≡ true) where
      abbrev read : List Float
      read = as_read f file iids sids flag il sl order val stats

      standardiser_hears : (later : Answer) → buffer_checks (length il) (length sl) read stats later ≡ later
      unfolding read_nan
      standardiser_hears later =
          checks_pass (length il) (length sl) read stats later (simp (le-leb (length il) count_limit hi, le-leb (length sl) count_limit hs))
          (eq-eqb (length il * length sl) (length read) (sym (ap length (as_read_is d) ∙ read_length float flag nan order file iids sids il sl (length il) (length sl) refl refl))) e

      -- the standardiser of what was read leaves what the joined call does
      pub call_made :
          (a : Answer) (v s : List Float)
          → (a ≡ standardise_answer f order (length il) (length sl) read false stats) × (v ≡ later_values f order (length il) (length sl) read false stats true)
          × (s ≡ later_stats f order (length il) (length sl) read false stats)
          → Joins f file iids sids flag il sl order val stats a v s
      unfolding joined_answer joined_values joined_stats standardise_answer later_values later_stats
      call_made a v s (ea, ev, es) = (
        ea ∙ standardiser_hears (lowest_refused f order (length il) (length sl) read false stats)
            ∙ ap (λ (x : List Float). lowest_refused f order (length il) (length sl) x false stats) (as_read_is d)
            ∙ sym (all_heard file iids sids il sl (length val) (length stats) e d (lowest_refused f order (length il) (length sl) (read_nan f file iids sids flag il sl order val stats) false stats)),
        ev ∙ ap (λ (x : Answer). if_done x (new_values f order (length il) (length sl) read false stats true) read) (standardiser_hears (done []))
            ∙ ap (λ (x : List Float). new_values f order (length il) (length sl) x false stats true) (as_read_is d)
            ∙ sym (ap (λ (x : Answer). if_done x (new_values f order (length il) (length sl) (read_nan f file iids sids flag il sl order val stats) false stats true) val) (all_heard file iids sids il sl (length val) (length stats) e d (done []))),
        es ∙ ap (λ (x : Answer). if_done x (new_stats f order (length il) (length sl) read false stats) stats) (standardiser_hears (done []))
            ∙ ap (λ (x : List Float). new_stats f order (length il) (length sl) x false stats) (as_read_is d)
            ∙ sym (ap (λ (x : Answer). if_done x (new_stats f order (length il) (length sl) (read_nan f file iids sids flag il sl order val stats) false stats) stats) (all_heard file iids sids il sl (length val) (length stats) e d (done []))),
      )

    -- ---- the joined call is the two in turn: reading, and standardising what was read unless the reading refused
    pub is_in_turn :
        (joined_answer f file iids sids flag il sl order val stats
        ≡ if_done (read_answer file iids sids il sl (length val))
        (standardise_answer f order (length il) (length sl) (as_read f file iids sids flag il sl order val stats) false stats)
        (read_answer file iids sids il sl (length val)))
        × (joined_values f file iids sids flag il sl order val stats
        ≡ if_done (read_answer file iids sids il sl (length val))
        (later_values f order (length il) (length sl) (as_read f file iids sids flag il sl order val stats) false stats true)
        (as_read f file iids sids flag il sl order val stats))
        × (joined_stats f file iids sids flag il sl order val stats
        ≡ if_done (read_answer file iids sids il sl (length val))
        (later_stats f order (length il) (length sl) (as_read f file iids sids flag il sl order val stats) false stats) stats)
    unfolding as_read read_buffer
    is_in_turn =
        by_test (is_done (read_answer file iids sids il sl (length val)))
        (λ d. let m = call_made d (if_done (read_answer file iids sids il sl (length val)) (standardise_answer f order (length il) (length sl) (as_read f file iids sids flag il sl order val stats) false stats) (read_answer file iids sids il sl (length val))) (if_done (read_answer file iids sids il sl (length val)) (later_values f order (length il) (length sl) (as_read f file iids sids flag il sl order val stats) false stats true) (as_read f file iids sids flag il sl order val stats)) (if_done (read_answer file iids sids il sl (length val)) (later_stats f order (length il) (length sl) (as_read f file iids sids flag il sl order val stats) false stats) stats)
        (new_if_done (read_answer file iids sids il sl (length val)) _ _ d, new_if_done (read_answer file iids sids il sl (length val)) _ _ d, new_if_done (read_answer file iids sids il sl (length val)) _ _ d) in (sym m.0, sym m.1, sym m.2))
        (λ d. let m = call_refused (read_answer file iids sids il sl (length val)) d (reading_refuses file iids sids il sl (length val) (length stats) e d) in (
          sym m.0 ∙ sym (old_if_not (read_answer file iids sids il sl (length val)) _ _ d),
          sym m.1 ∙ sym (old_if_not (read_answer file iids sids il sl (length val)) _ val d) ∙ sym (old_if_not (read_answer file iids sids il sl (length val)) _ _ d),
          sym m.2 ∙ sym (old_if_not (read_answer file iids sids il sl (length val)) _ _ d),
        ))

    -- ---- as the code goes: the reading's answer and what it left, with a missing value that is NaN
    module _ (rd : Answer) (v1 : List Float) (missing : Float) (n : missing ≡ nan) (ra : rd ≡ read_answer file iids sids il sl (length val))
        (rv : v1 ≡ read_buffer float file iids sids flag il sl missing order val) where
      left_is : v1 ≡ as_read f file iids sids flag il sl order val stats
      left_is = left_as_read v1 missing n rv

      pub standardised_after :
          (t : Bool) → t ≡ is_done rd → t ≡ true → (a b : Answer) (v s : List Float) → a ≡ b
          → (b ≡ standardise_answer f order (length il) (length sl) v1 false stats) × (v ≡ later_values f order (length il) (length sl) v1 false stats true)
          × (s ≡ later_stats f order (length il) (length sl) v1 false stats)
          → Joins f file iids sids flag il sl order val stats a v s
      standardised_after t td tt' a b v s ab (ea, ev, es) =
          call_made (sym (ap is_done ra) ∙ sym td ∙ tt') a v s (
            ab ∙ ea ∙ ap (λ (x : List Float). standardise_answer f order (length il) (length sl) x false stats) left_is,
            ev ∙ ap (λ (x : List Float). later_values f order (length il) (length sl) x false stats true) left_is,
            es ∙ ap (λ (x : List Float). later_stats f order (length il) (length sl) x false stats) left_is,
          )

      pub refused_after : (t : Bool) → t ≡ is_done rd → t ≡ false → Joins f file iids sids flag il sl order val stats rd v1 stats
      refused_after t td tf =
          let d : is_done rd ≡ false = sym td ∙ tf in
          let dr : is_done (read_answer file iids sids il sl (length val)) ≡ false = sym (ap is_done ra) ∙ d in
          let m = call_refused rd d (λ later. reading_refuses file iids sids il sl (length val) (length stats) e dr later ∙ sym ra) in
          (m.0, rv ∙ sym (buffer_kept float file iids sids flag il sl missing order val dr) ∙ m.1, m.2)

-- ---- the joined call whose checks find nothing
module _ (f : Format) (file : List ℕ) (iids sids : ℕ) (flag : Bool) (il sl : List ℤ) (order : Bool) (val stats : List Float)
    (e : eqb (stats_per_marker * length sl) (length stats) ≡ true) (d : is_done (read_answer file iids sids il sl (length val)) ≡ true) where
  hears : (later : Answer) → joined_checks file iids sids il sl (length val) (length stats) later ≡ later
  hears = all_heard file iids sids il sl (length val) (length stats) e d

  pub answer_is :
      joined_answer f file iids sids flag il sl order val stats
      ≡ lowest_refused f order (length il) (length sl) (read_nan f file iids sids flag il sl order val stats) false stats
  unfolding joined_answer
  answer_is = hears _

  pub values_are :
      joined_values f file iids sids flag il sl order val stats
      ≡ new_values f order (length il) (length sl) (read_nan f file iids sids flag il sl order val stats) false stats true
  unfolding joined_values
  values_are = ap (λ (x : Answer). if_done x (new_values f order (length il) (length sl) (read_nan f file iids sids flag il sl order val stats) false stats true) val) (hears (done []))

  pub stats_are :
      joined_stats f file iids sids flag il sl order val stats
      ≡ new_stats f order (length il) (length sl) (read_nan f file iids sids flag il sl order val stats) false stats
  unfolding joined_stats
  stats_are = ap (λ (x : Answer). if_done x (new_stats f order (length il) (length sl) (read_nan f file iids sids flag il sl order val stats) false stats) stats) (hears (done []))
