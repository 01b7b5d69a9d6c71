-- The report, record by record and marker by marker, and what ends it.
use mathlib.Core.Path.{◌≡◌, refl, sym, ap, subst, ◌∙◌}
use mathlib.Core.Bool.{Bool, cond}
use mathlib.Core.List.{List, [], ◌∷◌, ◌++◌, flat_map, append_assoc}
use Prim.Native.Nat.{ℕ, suc, ◌+◌, ◌-◌, ◌<◌, ◌≤◌}
use native.Mathlib.Nat.{zero-add, add-zero, suc-add}
use native.Mathlib.Omega.{arith}
use borrow.Author.Tests.{eq-eqb, ne_eqb}
use lib.IntN.{ℤ}
use lib.ListN.{length, length-append}
use Rattle.answer.specs.Answer.{Answer, done, refused, is_done}
use Rattle.answer.specs.Lists.{tabulate}
use Rattle.answer.proofs.AnswerLaws.{new_if_done, old_if_not}
use Rattle.answer.proofs.Tabulate.{tabulate_ext}
use Rattle.bed_file.specs.File.{accept_answer}
use Rattle.calls.specs.Calls.{call_code}
use Rattle.rates.specs.Input.{animals, markers, file_bytes, file_of, rest, check_record, InputRecord, record_at, goes_on, records, record_limit, run}
use Rattle.rates.specs.Report.{Counts, marker_counts, no_calls, plus, totals, printed_markers, record_counts, refused_line, all_line, marker_line, marker_lines, lines_by, record_lines, lines_from, report}
use Rattle.rates.specs.Words.{Whole, Sent, written, sent_record, report_on, report_from, report_from_marker}
use Rattle.rates.proofs.InputLaws.{heard_if_whole, header_cut, too_long, file_cut, bytes_stay, whole_stays, record_stays, rest_stays, records_nothing, records_whole, records_ended, records_sent, run_stops, run_sent}
use Rattle.rates.proofs.CountLaws.{none_plus, plus_none, plus_assoc, totals_append, agree_records}

-- ---- the report from a record on
pub report_from_law : (input : List ℕ) → report input ≡ report_from 0 no_calls 1000000 input
unfolding report report_from run
report_from_law input = ap (λ (c : Counts). lines_from 0 (records record_limit input) ++ all_line c) (sym (plus_none _))

-- no record may be read, or no byte is left
from_none : (file : ℕ) (sums : Counts) (rs : List InputRecord) → rs ≡ [] → report_on file sums rs ≡ all_line sums
unfolding lines_from flat_map totals
from_none file sums rs e = ap (report_on file sums) e ∙ ap all_line (none_plus sums)

-- a record that is turned away prints one line and has no counts
pub lines_refused : (file : ℕ) (r : InputRecord) (n : ℕ) (vs : List ℤ) → r.answer ≡ refused n vs → record_lines file r ≡ refused_line file n
unfolding record_lines lines_by
lines_refused file r n vs e = ap (λ (a : Answer). lines_by file a (record_counts r)) e

pub counts_refused : (r : InputRecord) (n : ℕ) (vs : List ℤ) → r.answer ≡ refused n vs → record_counts r ≡ []
unfolding record_counts
counts_refused r n vs e = old_if_not r.answer _ [] (ap is_done e)

module _ (file : ℕ) (sums : Counts) where
  -- the counts of a record are added, and those of the later records
  from_record :
      (r : InputRecord) (rs : List InputRecord)
      → report_on file sums (r ∷ rs) ≡ record_lines file r ++ report_on (suc file) (plus sums (totals (record_counts r))) rs
  unfolding lines_from flat_map
  from_record r rs =
      append_assoc (record_lines file r) (lines_from (suc file) rs) _
      ∙ ap (λ (c : Counts). record_lines file r ++ (lines_from (suc file) rs ++ all_line c))
      (ap (plus sums) (totals_append (record_counts r) (flat_map record_counts rs)) ∙ sym (plus_assoc sums (totals (record_counts r)) (totals (flat_map record_counts rs))))

  pub from_limit : (input : List ℕ) → report_from file sums 0 input ≡ all_line sums
  unfolding report_from records
  from_limit input = from_none file sums [] refl

  pub from_nothing : (left : ℕ) → report_from file sums left [] ≡ all_line sums
  unfolding report_from
  from_nothing left = from_none file sums (records left []) (records_nothing left)

  -- a whole record: its lines, and then the report of the rest, with the next number and its counts added
  pub from_whole :
      (left : ℕ) (input : List ℕ) → Whole input
      → report_from file sums (suc left) input
      ≡ record_lines file (record_at input) ++ report_from (suc file) (plus sums (totals (record_counts (record_at input)))) left (rest input)
  unfolding report_from
  from_whole left input w =
      ap (report_on file sums) (records_whole left input w)
      ∙ from_record (record_at input) (records left (rest input))

  -- the same lines with more behind it
  pub from_whole_more :
      (left : ℕ) (input more : List ℕ) → Whole input
      → report_from file sums (suc left) (input ++ more)
      ≡ record_lines file (record_at input) ++ report_from (suc file) (plus sums (totals (record_counts (record_at input)))) left (rest input ++ more)
  from_whole_more left input more w =
      from_whole left (input ++ more) (whole_stays input more w)
      ∙ (λ i. record_lines file (record_stays input more w i)
      ++ report_from (suc file) (plus sums (totals (record_counts (record_stays input more w i)))) left (rest_stays input more w i))

  -- ---- "either prints its refused line, then `all`, and ends the run"
  turned :
      (n left : ℕ) (input : List ℕ) → 0 < length input → ((later : Answer) → check_record input later ≡ refused n [])
      → report_from file sums (suc left) input ≡ refused_line file n ++ all_line sums
  unfolding report_from goes_on record_at totals
  turned n left input h e =
      let a : (record_at input).answer ≡ refused n [] = e _ in
      ap (report_on file sums) (records_ended left input h (ap is_done (e (done []))))
      ∙ from_record (record_at input) []
      ∙ ap (λ (l : List ℕ). record_lines file (record_at input) ++ l) (from_none (suc file) (plus sums (totals (record_counts (record_at input)))) [] refl)
      ∙ (λ i. lines_refused file (record_at input) n [] a i ++ all_line (plus sums (totals (counts_refused (record_at input) n [] a i))))
      ∙ ap (λ (c : Counts). refused_line file n ++ all_line c) (none_plus sums)

  module _ (left : ℕ) (input : List ℕ) where
    -- under 24 bytes, and some
    pub from_header_cut : 0 < length input → length input < 24 → report_from file sums (suc left) input ≡ refused_line file 22 ++ all_line sums
    from_header_cut p h = turned 22 left input p (header_cut input h)

    pub from_file_cut :
        24 ≤ length input → file_bytes input ≤ 65536 → length input < 24 + file_bytes input → report_from file sums (suc left) input ≡ refused_line file 22 ++ all_line sums
    from_file_cut h s c = turned 22 left input (omega arith) (file_cut input h s c)

    pub from_too_long : 24 ≤ length input → 65536 < file_bytes input → report_from file sums (suc left) input ≡ refused_line file 21 ++ all_line sums
    from_too_long h l = turned 21 left input (omega arith) (too_long input h l)

    -- whatever stands behind the header
    pub from_too_long_more :
        (more : List ℕ) → 24 ≤ length input → 65536 < file_bytes input → report_from file sums (suc left) (input ++ more) ≡ refused_line file 21 ++ all_line sums
    from_too_long_more more h l =
        let e = bytes_stay input more h in
        let n = length-append input more in
        turned 21 left (input ++ more) (omega arith) (too_long (input ++ more) (omega arith) (omega arith))

  -- a record as sent: its lines, and then the report of what stands behind it
  pub from_sent :
      (left : ℕ) (s : Sent) (more : List ℕ)
      → report_from file sums (suc left) (written s ++ more)
      ≡ record_lines file (sent_record s) ++ report_from (suc file) (plus sums (totals (record_counts (sent_record s)))) left more
  unfolding report_from
  from_sent left s more =
      ap (report_on file sums) (records_sent s left more)
      ∙ from_record (sent_record s) (records left more)

-- two inputs with the same report have it behind other records too
behind_sent :
    (left : ℕ) (x y : List ℕ) → ((file : ℕ) (sums : Counts) → report_from file sums left x ≡ report_from file sums left y)
    → (ss : List Sent) (file : ℕ) (sums : Counts)
    → report_from file sums (length ss + left) (flat_map written ss ++ x) ≡ report_from file sums (length ss + left) (flat_map written ss ++ y)
unfolding flat_map
behind_sent left x y e [] file sums = rw zero-add (e file sums)
behind_sent left x y e (s ∷ ss) file sums =
    rw suc-add
    (one x ∙ ap (λ (l : List ℕ). record_lines file (sent_record s) ++ l) (behind_sent left x y e ss (suc file) (plus sums (totals (record_counts (sent_record s))))) ∙ sym (one y))
  where
    one :
        (z : List ℕ)
        → report_from file sums (suc (length ss + left)) (written s ++ flat_map written ss ++ z)
        ≡ record_lines file (sent_record s) ++ report_from (suc file) (plus sums (totals (record_counts (sent_record s)))) (length ss + left) (flat_map written ss ++ z)
    one z = ap (report_from file sums (suc (length ss + left))) (append_assoc (written s) (flat_map written ss) z) ∙ from_sent file sums (length ss + left) s (flat_map written ss ++ z)

-- nothing after a 21 matters, whatever stood before it
pub after_21 :
    (ss : List Sent) (input more : List ℕ) → length ss < 1000000 → 24 ≤ length input → 65536 < file_bytes input
    → report (flat_map written ss ++ (input ++ more)) ≡ report (flat_map written ss ++ input)
after_21 ss input more n h l =
    let e : length ss + suc (999999 - length ss) ≡ 1000000 = omega arith in
    report_from_law (flat_map written ss ++ (input ++ more))
    ∙ subst (λ (k : ℕ). report_from 0 no_calls k (flat_map written ss ++ (input ++ more)) ≡ report_from 0 no_calls k (flat_map written ss ++ input)) e
    (behind_sent (suc (999999 - length ss)) (input ++ more) input
    (λ file sums. from_too_long_more file sums (999999 - length ss) input more h l ∙ sym (from_too_long file sums (999999 - length ss) input h l)) ss 0 no_calls)
    ∙ sym (report_from_law (flat_map written ss ++ input))

-- nothing after the 1,000,000th record matters
pub after_the_limit :
    (ss : List Sent) (more : List ℕ) → length ss ≡ 1000000 → report (flat_map written ss ++ more) ≡ report (flat_map written ss)
unfolding report
after_the_limit ss more e =
    ap (λ (rs : List InputRecord). lines_from 0 rs ++ all_line (totals (flat_map record_counts rs))) (run_stops ss more e ∙ sym (run_sent ss (omega arith)))

-- ---- the markers of an accepted file
-- "An accepted file of no animals prints nothing", and counts nothing
module _ (r : InputRecord) (vs : List ℤ) (e : r.answer ≡ done vs) where
  accepted_counts : record_counts r ≡ tabulate (printed_markers r.iids r.sids) (marker_counts r.file r.iids r.sids)
  unfolding record_counts
  accepted_counts = new_if_done r.answer _ [] (ap is_done e)

  pub accepted_lines : (file : ℕ) → record_lines file r ≡ marker_lines file 0 (record_counts r)
  unfolding record_lines lines_by
  accepted_lines file = ap (λ (a : Answer). lines_by file a (record_counts r)) e

  pub no_animals_no_counts : r.iids ≡ 0 → record_counts r ≡ []
  unfolding printed_markers tabulate
  no_animals_no_counts z =
      accepted_counts
      ∙ ap (λ (b : Bool). tabulate (cond b 0 r.sids) (marker_counts r.file r.iids r.sids)) (eq-eqb r.iids 0 z)

  pub no_animals_no_lines : r.iids ≡ 0 → (file : ℕ) → record_lines file r ≡ []
  unfolding marker_lines
  no_animals_no_lines z file = accepted_lines file ∙ ap (marker_lines file 0) (no_animals_no_counts z)

  -- with animals, every marker has its counts
  pub all_markers : 0 < r.iids → record_counts r ≡ tabulate r.sids (marker_counts r.file r.iids r.sids)
  unfolding printed_markers
  all_markers p =
      accepted_counts
      ∙ ap (λ (b : Bool). tabulate (cond b 0 r.sids) (marker_counts r.file r.iids r.sids)) (ne_eqb r.iids 0 (λ q. omega (arith, q)))

-- two accepted files whose calls agree print the same lines, whatever their modes and pads
pub agree_lines :
    (r s : InputRecord) (vs ws : List ℤ) → r.answer ≡ done vs → s.answer ≡ done ws → r.iids ≡ s.iids → r.sids ≡ s.sids
    → ((a m : ℕ) → a < s.iids → m < s.sids → call_code r.file s.iids s.sids a m ≡ call_code s.file s.iids s.sids a m)
    → (file : ℕ) → record_lines file r ≡ record_lines file s
agree_lines r s vs ws dr ds i j agree file =
    accepted_lines r vs dr file ∙ ap (marker_lines file 0) (agree_records r s vs ws dr ds i j agree) ∙ sym (accepted_lines s ws ds file)

-- ---- the report of a whole record, by what the file's own checks say, and marker by marker
module _ (file : ℕ) (sums : Counts) (left : ℕ) where
  module _ (input : List ℕ) (w : Whole input) where
    own_answer : (record_at input).answer ≡ accept_answer (file_of input) (animals input) (markers input)
    unfolding record_at
    own_answer = heard_if_whole input w _

    -- refused: its line, and the run goes on
    pub from_refused :
        (n : ℕ) (vs : List ℤ) → accept_answer (file_of input) (animals input) (markers input) ≡ refused n vs
        → report_from file sums (suc left) input ≡ refused_line file n ++ report_from (suc file) sums left (rest input)
    unfolding totals
    from_refused n vs e =
        let a = own_answer ∙ e in
        from_whole file sums left input w
        ∙ (λ i. lines_refused file (record_at input) n vs a i ++ report_from (suc file) (plus sums (totals (counts_refused (record_at input) n vs a i))) left (rest input))
        ∙ ap (λ (c : Counts). refused_line file n ++ report_from (suc file) c left (rest input)) (none_plus sums)

    module _ (vs : List ℤ) (e : accept_answer (file_of input) (animals input) (markers input) ≡ done vs) where
      -- no animals: nothing
      pub from_no_animals : animals input ≡ 0 → report_from file sums (suc left) input ≡ report_from (suc file) sums left (rest input)
      unfolding record_at totals
      from_no_animals z =
          let a = own_answer ∙ e in
          from_whole file sums left input w
          ∙ (λ i. no_animals_no_lines (record_at input) vs a z file i
          ++ report_from (suc file) (plus sums (totals (no_animals_no_counts (record_at input) vs a z i))) left (rest input))
          ∙ ap (λ (c : Counts). report_from (suc file) c left (rest input)) (none_plus sums)

      -- with animals: from marker 0 on
      pub from_accepted :
          0 < animals input
          → report_from file sums (suc left) input
          ≡ report_from_marker file sums left (marker_counts (file_of input) (animals input) (markers input)) 0 (markers input) (rest input)
      unfolding record_at report_from_marker
      from_accepted p =
          let a = own_answer ∙ e in
          let counts = marker_counts (file_of input) (animals input) (markers input) in
          let q : record_counts (record_at input) ≡ tabulate (markers input) (λ k. counts (0 + k)) =
          all_markers (record_at input) vs a p ∙ tabulate_ext (markers input) counts (λ k. counts (0 + k)) (λ k h. sym (ap counts (zero-add k))) in
          from_whole file sums left input w
          ∙ ap (λ (l : List ℕ). l ++ report_from (suc file) (plus sums (totals (record_counts (record_at input)))) left (rest input)) (accepted_lines (record_at input) vs a file)
          ∙ ap (λ (l : List Counts). marker_lines file 0 l ++ report_from (suc file) (plus sums (totals l)) left (rest input)) q

  module _ (counts : ℕ → Counts) (m : ℕ) (behind : List ℕ) where
    next_marker : (n : ℕ) → tabulate (suc n) (λ k. counts (m + k)) ≡ counts m ∷ tabulate n (λ k. counts (suc m + k))
    unfolding tabulate
    next_marker n =
        λ i. counts (add-zero m i)
        ∷ tabulate_ext n (λ k. counts (m + suc k)) (λ k. counts (suc m + k)) (λ k h. let e : m + suc k ≡ suc m + k = omega arith in ap counts e) i

    -- a marker: its line, and then from the next one on, with its counts added
    pub from_marker :
        (n : ℕ) → report_from_marker file sums left counts m (suc n) behind ≡ marker_line file m (counts m) ++ report_from_marker file (plus sums (counts m)) left counts (suc m) n behind
    unfolding report_from_marker marker_lines totals
    from_marker n =
        let later = tabulate n (λ k. counts (suc m + k)) in
        ap (λ (l : List Counts). marker_lines file m l ++ report_from (suc file) (plus sums (totals l)) left behind) (next_marker n)
        ∙ append_assoc (marker_line file m (counts m)) (marker_lines file (suc m) later) _
        ∙ ap (λ (c : Counts). marker_line file m (counts m) ++ (marker_lines file (suc m) later ++ report_from (suc file) c left behind)) (sym (plus_assoc sums (counts m) (totals later)))

    -- no marker is left: the next record
    pub from_last_marker : report_from_marker file sums left counts m 0 behind ≡ report_from (suc file) sums left behind
    unfolding report_from_marker marker_lines totals tabulate
    from_last_marker = ap (λ (c : Counts). report_from (suc file) c left behind) (none_plus sums)
