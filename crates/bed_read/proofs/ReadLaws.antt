-- Laws of the lists' checks and of all of reading's, over plain numbers and lists.
use mathlib.Core.Path.{◌≡◌, refl, sym, ap, subst, ◌∙◌}
use mathlib.Core.Bool.{Bool, true, false}
use mathlib.Core.List.{List, [], ◌∷◌}
use Rattle.std.specs.Prelude.{Some, None, Result, Ok, Err, IsErrAnd}
use Prim.Native.Nat.{ℕ, ◌*◌, ◌^◌, ◌<◌, ◌≤◌}
use native.Mathlib.Omega.{arith}
use borrow.Author.Tests.{eq-eqb, eqb-true, le-leb}
use lib.Dec.{eqb}
use lib.IntN.{ℤ}
use lib.ListN.{length}
use lib.Signed.{mag}
use mir.Syntax.{w64}
use mir.Val.{of_z, to_z}
use mir.ValLaws.{to_z-of_z}
use Rattle.answer.specs.Answer.{Answer, done, refused, check, count_limit, counts_fit, is_done}
use Rattle.entries.specs.Entry.{first_bad}
use Rattle.answer.proofs.AnswerLaws.{check_passes, check_refuses, count_passes, both_fit, counts_refuse, entry_passes, entry_refuses, check_done, count_done, entry_done, entry_other, Stage, lets, refuses, entry_stage, then_stage, stays, before_later}
use Rattle.bed_file.specs.File.{check_file, accept_answer}
use Rattle.bed_file.specs.declared.FileError.{FileError}
use Rattle.bed_file.specs.Says.{file_number}
use Rattle.bed_read.specs.declared.checks.ReadError.{ReadError}
use Rattle.bed_read.specs.declared.checks.ReadError.TheVariants.{IndexMismatch, File, IidIndexTooBig, SidIndexTooBig}
use Rattle.bed_read.specs.Says.{read_says}
use Rattle.bed_read.specs.Reading.{check_lists, lists_answer, checks_answer, read_answer}
use Rattle.bed_file.proofs.FileLaws.{accepted, accept_file, file_stage}

fit_both : (a b : ℕ) → a ≤ count_limit → b ≤ count_limit → counts_fit a b ≡ true
fit_both a b h k = rw (le-leb a count_limit h) (le-leb b count_limit k)

-- ---- the lists' checks, in order
module _ (iids sids : ℕ) (il sl : List ℤ) where
  pub lists_too_large : counts_fit iids sids ≡ false → refused 18 [] ≡ lists_answer iids sids il sl
  unfolding lists_answer
  lists_too_large e = sym (counts_refuse iids sids _ e)

  module _ (fits : counts_fit iids sids ≡ true) where
    lists_counted : lists_answer iids sids il sl ≡ check_lists iids sids il sl (done [])
    unfolding lists_answer
    lists_counted = let h = both_fit iids sids fits in count_passes iids _ h.0 ∙ count_passes sids _ h.1

    -- an entry held in 64 bits is the entry
    pub lists_5 : (e : ℤ) → first_bad iids il ≡ Some e → mag e < 2 ^ 63 → refused 5 (to_z w64 (of_z w64 e) ∷ []) ≡ lists_answer iids sids il sl
    unfolding check_lists
    lists_5 e b f = ap (λ (x : ℤ). refused 5 (x ∷ [])) (to_z-of_z w64 e (record { sfits = f })) ∙ sym (lists_counted ∙ entry_refuses (first_bad iids il) 5 _ e b)

    module _ (g : first_bad iids il ≡ None) where
      pub lists_6 : (e : ℤ) → first_bad sids sl ≡ Some e → mag e < 2 ^ 63 → refused 6 (to_z w64 (of_z w64 e) ∷ []) ≡ lists_answer iids sids il sl
      unfolding check_lists
      lists_6 e b f =
          ap (λ (x : ℤ). refused 6 (x ∷ [])) (to_z-of_z w64 e (record { sfits = f }))
          ∙ sym (lists_counted ∙ entry_passes (first_bad iids il) 5 _ g ∙ entry_refuses (first_bad sids sl) 6 _ e b)

      pub lists_good : first_bad sids sl ≡ None → done [] ≡ lists_answer iids sids il sl
      unfolding check_lists
      lists_good b = sym (lists_counted ∙ entry_passes (first_bad iids il) 5 _ g ∙ entry_passes (first_bad sids sl) 6 _ b)

-- a refusal by a number above 6 is not the lists'
pub lists_other : (iids sids : ℕ) (il sl : List ℤ) (later : Answer) (n : ℕ) (vs : List ℤ) → 6 < n → check_lists iids sids il sl later ≡ refused n vs → later ≡ refused n vs
unfolding check_lists
lists_other iids sids il sl later n vs h e =
    (entry_other (first_bad sids sl) 6 later n vs (λ q. omega (arith, q)) (entry_other (first_bad iids il) 5 _ n vs (λ q. omega (arith, q)) e).1).1

-- ---- the checks of reading and of counting, in order: m values are wanted for each marker named
module _ (m : ℕ) (file : List ℕ) (iids sids : ℕ) (il sl : List ℤ) (val_length : ℕ) where
  abbrev lists : Answer
  lists = check_lists iids sids il sl (done [])

  pub read_too_large : counts_fit iids sids ≡ false → refused 18 [] ≡ checks_answer m file iids sids il sl val_length
  read_too_large e = sym (counts_refuse iids sids _ e)

  module _ (fits : counts_fit iids sids ≡ true) where
    after_counts : checks_answer m file iids sids il sl val_length ≡ check (eqb (m * length sl) val_length) 15 (check_file file iids sids lists)
    after_counts = let h = both_fit iids sids fits in count_passes iids _ h.0 ∙ count_passes sids _ h.1

    module _ (b : Bool) (e : b ≡ eqb (m * length sl) val_length) where
      pub read_mismatch : b ≡ false → refused 15 [] ≡ checks_answer m file iids sids il sl val_length
      read_mismatch f = sym (after_counts ∙ check_refuses (eqb (m * length sl) val_length) 15 (check_file file iids sids lists) (sym e ∙ f))

      module _ (t : b ≡ true) where
        after_product : checks_answer m file iids sids il sl val_length ≡ check_file file iids sids lists
        after_product = after_counts ∙ check_passes (eqb (m * length sl) val_length) 15 (check_file file iids sids lists) (sym e ∙ t)

        pub read_not_accepted : (n : ℕ) → refused n [] ≡ accept_answer file iids sids → refused n [] ≡ checks_answer m file iids sids il sl val_length
        read_not_accepted n a =
            sym (after_product ∙ stays (file_stage file iids sids) [] n [] (sym (a ∙ accept_file file iids sids fits)) lists)

        pub read_lists : (a : Answer) → done [] ≡ accept_answer file iids sids → a ≡ lists_answer iids sids il sl → a ≡ checks_answer m file iids sids il sl val_length
        read_lists a d l =
            l ∙ lists_counted iids sids il sl fits ∙ sym (after_product ∙ (accepted file iids sids (sym (ap is_done d))).heard_later lists)

-- reading's, by them
pub read_checks : (file : List ℕ) (iids sids : ℕ) (il sl : List ℤ) (val_length : ℕ) → read_answer file iids sids il sl val_length ≡ checks_answer (length il) file iids sids il sl val_length
unfolding read_answer
read_checks file iids sids il sl val_length = refl

-- of an accepted file, 15 and the lists are left
pub read_accepted :
    (file : List ℕ) (iids sids : ℕ) (il sl : List ℤ) (val_length : ℕ) → is_done (accept_answer file iids sids) ≡ true
    → read_answer file iids sids il sl val_length ≡ check (eqb (length il * length sl) val_length) 15 (check_lists iids sids il sl (done []))
read_accepted file iids sids il sl val_length d =
    let a = accepted file iids sids d in
    read_checks file iids sids il sl val_length
    ∙ after_counts (length il) file iids sids il sl val_length (fit_both iids sids a.iids_fit a.sids_fit)
    ∙ ap (check (eqb (length il * length sl) val_length) 15) (a.heard_later (check_lists iids sids il sl (done [])))

-- the lists' checks by their parts
module _ (iids sids : ℕ) (il sl : List ℤ) where
  pub lists_stage : Stage (λ later. check_lists iids sids il sl later)
  unfolding check_lists
  lists_stage = then_stage (entry_stage (first_bad iids il) 5) (entry_stage (first_bad sids sl) 6)

  pub lists_done : (later : Answer) → is_done (check_lists iids sids il sl later) ≡ true → (first_bad iids il ≡ None) × (first_bad sids sl ≡ None)
  unfolding check_lists
  lists_done later d = let a = entry_done (first_bad iids il) 5 _ d in let b = entry_done (first_bad sids sl) 6 later a.1 in (a.0, b.0)

  -- what comes later matters where both lists are good
  pub lists_same : (later later' : Answer) → (first_bad iids il ≡ None → first_bad sids sl ≡ None → later ≡ later') → check_lists iids sids il sl later ≡ check_lists iids sids il sl later'
  lists_same later later' e = by_stage lists_stage
    where
      by_stage : Stage (λ later. check_lists iids sids il sl later) → check_lists iids sids il sl later ≡ check_lists iids sids il sl later'
      by_stage (lets f) =
          let g = lists_done (done []) (ap is_done (f (done []))) in f later ∙ e g.0 g.1 ∙ sym (f later')
      by_stage (refuses n vs f) = f later ∙ sym (f later')

-- an accepted file is read with good lists into a buffer of the right length
pub read_good :
    (file : List ℕ) (iids sids : ℕ) (il sl : List ℤ) (val_length : ℕ) → is_done (accept_answer file iids sids) ≡ true
    → length il * length sl ≡ val_length → first_bad iids il ≡ None → first_bad sids sl ≡ None → read_answer file iids sids il sl val_length ≡ done []
unfolding check_lists
read_good file iids sids il sl val_length d e gi gs =
    read_accepted file iids sids il sl val_length d
    ∙ check_passes (eqb (length il * length sl) val_length) 15 _ (eq-eqb (length il * length sl) val_length e)
    ∙ entry_passes (first_bad iids il) 5 _ gi ∙ entry_passes (first_bad sids sl) 6 _ gs

-- ---- what is known where those checks find nothing
pub record Checked (m : ℕ) (file : List ℕ) (iids sids : ℕ) (il sl : List ℤ) (val_length : ℕ) : Type 0 where
  pub product : m * length sl ≡ val_length
  pub is_accepted : is_done (accept_answer file iids sids) ≡ true
  pub iids_good : first_bad iids il ≡ None
  pub sids_good : first_bad sids sl ≡ None

pub checked : (m : ℕ) (file : List ℕ) (iids sids : ℕ) (il sl : List ℤ) (val_length : ℕ) → is_done (checks_answer m file iids sids il sl val_length) ≡ true → Checked m file iids sids il sl val_length
checked m file iids sids il sl val_length d =
    let a = count_done iids _ d in
    let b = count_done sids _ a.1 in
    let c = check_done (eqb (m * length sl) val_length) 15 _ b.1 in
    let acc : is_done (accept_answer file iids sids) ≡ true = ap is_done (accept_file file iids sids (fit_both iids sids a.0 b.0)) ∙ before_later (file_stage file iids sids) _ c.1 in
    let l = lists_done iids sids il sl (done []) (subst (λ (x : Answer). is_done x ≡ true) ((accepted file iids sids acc).heard_later (check_lists iids sids il sl (done []))) c.1) in
    record {
      product = eqb-true (m * length sl) val_length c.0;
      is_accepted = acc;
      iids_good = l.0;
      sids_good = l.1;
    }

-- of reading, for which m is the length of the animal list
abbrev pub Readable : List ℕ → ℕ → ℕ → List ℤ → List ℤ → ℕ → Type 0
Readable file iids sids il sl val_length = Checked (length il) file iids sids il sl val_length

pub readable : (file : List ℕ) (iids sids : ℕ) (il sl : List ℤ) (val_length : ℕ) → is_done (read_answer file iids sids il sl val_length) ≡ true → Readable file iids sids il sl val_length
readable file iids sids il sl val_length d =
    checked (length il) file iids sids il sl val_length (ap is_done (sym (read_checks file iids sids il sl val_length)) ∙ d)

pub read_done : (file : List ℕ) (iids sids : ℕ) (il sl : List ℤ) (val_length : ℕ) → done [] ≡ checks_answer (length il) file iids sids il sl val_length → (done [] ≡ read_answer file iids sids il sl val_length) × Readable file iids sids il sl val_length
read_done file iids sids il sl val_length e =
    let d : done [] ≡ read_answer file iids sids il sl val_length = e ∙ sym (read_checks file iids sids il sl val_length) in
    (d, readable file iids sids il sl val_length (sym (ap is_done d)))

-- ---- what `?` makes of a refusal: the same of reading's own, and of a file's one of the same number
pub file_told : (r : Result Unit ReadError) (error : FileError) → IsErrAnd r (λ e. e ≡ File error) → read_says r ≡ refused (file_number error) []
file_told (Ok _) error h = absurd h
file_told (Err e) error h = ap (λ (x : ReadError). read_says (Err x)) h

pub error_told : (r : Result Unit ReadError) (error : ReadError) → IsErrAnd r (λ e. e ≡ error) → read_says r ≡ read_says (Err error)
error_told (Ok _) error h = absurd h
error_told (Err e) error h = ap (λ (x : ReadError). read_says (Err x)) h

-- no refusal is done
pub error_refuses : (error : ReadError) → is_done (read_says (Err error)) ≡ false
error_refuses IndexMismatch = refl
error_refuses (File error) = refl
error_refuses (IidIndexTooBig e) = refl
error_refuses (SidIndexTooBig e) = refl
