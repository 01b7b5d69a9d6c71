-- What is promised of the counts, over the definitions that the contract cites.
use mathlib.Core.Path.{◌≡◌, refl, sym, ap, ◌∙◌}
use mathlib.Core.Bool.{true}
use mathlib.Core.List.{List, []}
use Rattle.std.specs.Prelude.{Option, Some, None}
use Prim.Native.Nat.{ℕ, ◌+◌, ◌*◌, ◌/◌, ◌%◌, ◌<◌, ◌≤◌}
use native.Mathlib.Nat.{add-zero}
use native.Mathlib.Omega.{arith}
use lib.Dec.{eqb}
use lib.IntN.{ℤ, pos}
use lib.ListN.{length, get_or}
use Rattle.answer.specs.Lists.{how_many}
use Rattle.answer.specs.Answer.{Answer, done, refused, check, is_done, if_done}
use Rattle.answer.proofs.AnswerLaws.{count_passes, old_if_not, new_if_done, same_if_done}
use Rattle.answer.proofs.Tabulate.{length_tabulate, get_d_tabulate, tabulate_ext}
use Rattle.entries.specs.Entry.{first_bad, means}
use Rattle.entries.proofs.EntryLaws.{means_below, all_good}
use Rattle.codes.specs.Code.{copies}
use Rattle.bed_file.specs.File.{accept_answer}
use Rattle.bed_file.proofs.FileLaws.{accepted}
use Rattle.calls.specs.Calls.{call_code}
use Rattle.bed_read.specs.Reading.{check_lists, file_order, read_code}
use Rattle.call_counts.specs.Counts.{counts_answer, same_copies, code_named, calls_with, counted, new_counts, later_counts}
use Rattle.bed_read.proofs.ReadLaws.{checked}
use Rattle.answer.proofs.HowMany.{many_most, many_ext}
use Rattle.call_counts.proofs.TallyLaws.{four_add}

module _ (file : List ℕ) (iids sids : ℕ) (il : List ℤ) where
  -- the four counts of a marker add up to the length of the animal list
  pub marker_adds_up :
      (m : ℕ)
      → calls_with file iids sids il m (Some 0) + calls_with file iids sids il m (Some 1) + calls_with file iids sids il m (Some 2) + calls_with file iids sids il m None
      ≡ length il
  unfolding calls_with counted
  marker_adds_up m = four_add (code_named file iids sids il m) (length il)

  -- no count passes it: the counts fit 64 bits
  pub count_fits : (m : ℕ) (c : Option ℕ) → calls_with file iids sids il m c ≤ length il
  unfolding calls_with
  count_fits m c = many_most (length il) _

  module _ (sl : List ℤ) where
    pub counts_long : length (new_counts file iids sids il sl) ≡ 4 * length sl
    unfolding new_counts
    counts_long = length_tabulate (4 * length sl) _

    -- what stands at place 4m + j of the counts
    pub counts_at :
        (m j : ℕ) → m < length sl → j < 4
        → get_or (new_counts file iids sids il sl) (4 * m + j) 0 ≡ calls_with file iids sids il (means sids (get_or sl m (pos 0))) (counted j)
    unfolding new_counts
    counts_at m j h b =
        let q : (4 * m + j) / 4 ≡ m = omega arith in
        let r : (4 * m + j) % 4 ≡ j = omega arith in
        get_d_tabulate (4 * length sl) (λ p. calls_with file iids sids il (means sids (get_or sl (p / 4) (pos 0))) (counted (p % 4))) (4 * m + j) 0 (omega arith)
        ∙ ap (λ (x : ℕ). calls_with file iids sids il (means sids (get_or sl x (pos 0))) (counted ((4 * m + j) % 4))) q
        ∙ ap (λ (x : ℕ). calls_with file iids sids il (means sids (get_or sl m (pos 0))) (counted x)) r

    -- the four counts of the marker at place m of the list add up
    pub counts_add_up :
        (m : ℕ) → m < length sl
        → get_or (new_counts file iids sids il sl) (4 * m) 0
        + get_or (new_counts file iids sids il sl) (4 * m + 1) 0
        + get_or (new_counts file iids sids il sl) (4 * m + 2) 0
        + get_or (new_counts file iids sids il sl) (4 * m + 3) 0
        ≡ length il
    unfolding counted
    counts_add_up m h =
        let c0 = counts_at m 0 h (omega arith) in
        let z : get_or (new_counts file iids sids il sl) (4 * m + 0) 0 ≡ get_or (new_counts file iids sids il sl) (4 * m) 0 =
        ap (λ (p : ℕ). get_or (new_counts file iids sids il sl) p 0) (add-zero (4 * m)) in
        let c1 = counts_at m 1 h (omega arith) in
        let c2 = counts_at m 2 h (omega arith) in
        let c3 = counts_at m 3 h (omega arith) in
        let s = marker_adds_up (means sids (get_or sl m (pos 0))) in
        omega arith

    -- each call that is counted is one that reading reads
    pub counts_as_read :
        (m : ℕ) (c : Option ℕ)
        → calls_with file iids sids il (means sids (get_or sl m (pos 0))) c ≡ how_many (length il) (λ k. same_copies c (copies (read_code file iids sids il sl k m)))
    unfolding calls_with code_named read_code
    counts_as_read m c = refl

    -- at a refusal the counts buffer is unchanged
    pub refused_kept : (old : List ℕ) (n : ℕ) (vs : List ℤ) → counts_answer file iids sids il sl (length old) ≡ refused n vs → later_counts file iids sids il sl old ≡ old
    unfolding later_counts
    refused_kept old n vs e = old_if_not _ (new_counts file iids sids il sl) old (ap is_done e)

    -- where it is done the buffer holds the counts
    pub done_counted : (old : List ℕ) → counts_answer file iids sids il sl (length old) ≡ done [] → later_counts file iids sids il sl old ≡ new_counts file iids sids il sl
    unfolding later_counts
    done_counted old e = new_if_done _ (new_counts file iids sids il sl) old (ap is_done e)

-- in file order they add up to the animals
pub file_order_adds_up :
    (file : List ℕ) (iids sids m : ℕ)
    → calls_with file iids sids (file_order iids) m (Some 0)
    + calls_with file iids sids (file_order iids) m (Some 1)
    + calls_with file iids sids (file_order iids) m (Some 2)
    + calls_with file iids sids (file_order iids) m None
    ≡ iids
unfolding file_order
file_order_adds_up file iids sids m = marker_adds_up file iids sids (file_order iids) m ∙ length_tabulate iids pos

-- of an accepted file, 15 and the lists are left
counts_accepted :
    (file : List ℕ) (iids sids : ℕ) (il sl : List ℤ) (size : ℕ) → is_done (accept_answer file iids sids) ≡ true
    → counts_answer file iids sids il sl size ≡ check (eqb (4 * length sl) size) 15 (check_lists iids sids il sl (done []))
unfolding counts_answer
counts_accepted file iids sids il sl size d =
    let a = accepted file iids sids d in
    count_passes iids _ a.iids_fit
    ∙ count_passes sids _ a.sids_fit
    ∙ ap (check (eqb (4 * length sl) size) 15) (a.heard_later (check_lists iids sids il sl (done [])))

-- two accepted files whose calls agree give the same answer and the same counts, whatever their modes and pads
module _ (f g : List ℕ) (iids sids : ℕ) (df : is_done (accept_answer f iids sids) ≡ true) (dg : is_done (accept_answer g iids sids) ≡ true)
    (agree : (a m : ℕ) → a < iids → m < sids → call_code f iids sids a m ≡ call_code g iids sids a m) (il sl : List ℤ) where
  pub agree_answer : (size : ℕ) → counts_answer f iids sids il sl size ≡ counts_answer g iids sids il sl size
  agree_answer size = counts_accepted f iids sids il sl size df ∙ sym (counts_accepted g iids sids il sl size dg)

  same_counts : first_bad iids il ≡ None → first_bad sids sl ≡ None → new_counts f iids sids il sl ≡ new_counts g iids sids il sl
  unfolding new_counts calls_with code_named
  same_counts gi gs =
      tabulate_ext (4 * length sl) _ _
      (λ p b. many_ext (length il) _ _
      (λ k h. ap (λ (x : ℕ). same_copies (counted (p % 4)) (copies x))
      (agree _ _ (means_below iids (get_or il k (pos 0)) (all_good iids il k gi h)) (means_below sids (get_or sl (p / 4) (pos 0)) (all_good sids sl (p / 4) gs (omega arith))))))

  pub agree_counts : (old : List ℕ) → later_counts f iids sids il sl old ≡ later_counts g iids sids il sl old
  unfolding later_counts counts_answer
  agree_counts old =
      same_if_done (counts_answer f iids sids il sl (length old)) _ _ old
      (λ d. let c = checked 4 f iids sids il sl (length old) d in same_counts c.iids_good c.sids_good)
      ∙ ap (λ (a : Answer). if_done a (new_counts g iids sids il sl) old) (agree_answer (length old))
