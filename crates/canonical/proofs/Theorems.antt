-- What document 01 promises of the canonical file, over the definitions that the contracts cite.
use mathlib.Core.Path.{◌≡◌, sym, ap, ◌∙◌}
use mathlib.Core.Bool.{true}
use mathlib.Core.List.{List, []}
use Prim.Native.Nat.{ℕ, ◌-◌, ◌^◌, ◌<◌, ◌≤◌}
use borrow.Author.Tests.{eq-eqb, le-leb}
use lib.Dec.{eqb, leb}
use lib.ListN.{length}
use Rattle.answer.specs.Answer.{done, is_done}
use Rattle.blocks.specs.Block.{file_length, check_size}
use Rattle.answer.proofs.AnswerLaws.{check_passes, count_passes, new_if_done}
use Rattle.bed_file.specs.File.{accept_answer}
use Rattle.bed_file.proofs.FileLaws.{accepted}
use Rattle.calls.specs.Calls.{call_code}
use Rattle.calls.proofs.CallLaws.{call_below}
use Rattle.bed_write.proofs.BedLaws.{bed_ext}
use Rattle.canonical.specs.Canonical.{canonical_answer, canonical_file, canonical_buffer}
use Rattle.canonical.proofs.WrittenLaws.{bed_call, bed_accepted, bed_canonical}

module _ (file : List ℕ) (iids sids : ℕ) (d : is_done (accept_answer file iids sids) ≡ true) (fits : file_length iids sids ≤ 2 ^ 64 - 1) where
  -- its canonical file is left in every buffer of the right length
  pub canonical_left :
      (old : List ℕ) → length old ≡ file_length iids sids
      → (canonical_answer file iids sids (length old) ≡ done []) × (canonical_buffer file iids sids old ≡ canonical_file file iids sids)
  unfolding canonical_answer canonical_buffer check_size
  canonical_left old l =
      let acc = accepted file iids sids d in
      let q : canonical_answer file iids sids (length old) ≡ done [] =
      count_passes iids _ acc.iids_fit
      ∙ count_passes sids _ acc.sids_fit
      ∙ acc.heard_later _
      ∙ check_passes (leb (file_length iids sids) (2 ^ 64 - 1)) 4 _ (le-leb (file_length iids sids) (2 ^ 64 - 1) fits)
      ∙ check_passes (eqb (length old) (file_length iids sids)) 16 (done []) (eq-eqb (length old) (file_length iids sids) l) in
      (q, new_if_done _ _ old (ap is_done q))

  pub canonical_call : (a m : ℕ) → a < iids → m < sids → call_code (canonical_file file iids sids) iids sids a m ≡ call_code file iids sids a m
  unfolding canonical_file
  canonical_call a m ha hm = bed_call iids sids (call_code file iids sids) (λ a m ha hm. call_below file iids sids a m) a m ha hm

  canonical_accepted : accept_answer (canonical_file file iids sids) iids sids ≡ done []
  unfolding canonical_file
  canonical_accepted =
      let acc = accepted file iids sids d in
      bed_accepted iids sids (call_code file iids sids) (λ a m ha hm. call_below file iids sids a m) acc.iids_fit acc.sids_fit fits

  canonical_same : canonical_file (canonical_file file iids sids) iids sids ≡ canonical_file file iids sids
  unfolding canonical_file
  canonical_same = bed_canonical iids sids (call_code file iids sids) (λ a m ha hm. call_below file iids sids a m)

-- 4. "that file is accepted for the same counts", and its canonical file is itself
pub canonical_again :
    (file : List ℕ) (iids sids : ℕ) → is_done (accept_answer file iids sids) ≡ true → file_length iids sids ≤ 2 ^ 64 - 1
    → (old again : List ℕ) → length old ≡ file_length iids sids → length again ≡ file_length iids sids
    → (accept_answer (canonical_buffer file iids sids old) iids sids ≡ done [])
    × (canonical_answer (canonical_buffer file iids sids old) iids sids (length again) ≡ done [])
    × (canonical_buffer (canonical_buffer file iids sids old) iids sids again ≡ canonical_buffer file iids sids old)
canonical_again file iids sids d fits old again l k =
    let e = (canonical_left file iids sids d fits old l).1 in
    let a = canonical_accepted file iids sids d fits in
    let n = canonical_left (canonical_file file iids sids) iids sids (ap is_done a) fits again k in (
      ap (λ x. accept_answer x iids sids) e ∙ a,
      ap (λ x. canonical_answer x iids sids (length again)) e ∙ n.0,
      ap (λ x. canonical_buffer x iids sids again) e ∙ n.1 ∙ canonical_same file iids sids d fits ∙ sym e,
    )

-- 3. demand 3: canonical files are equal exactly when every call's code is equal, whatever the modes and pads
pub canonical_equal :
    (f g : List ℕ) (iids sids : ℕ) → is_done (accept_answer f iids sids) ≡ true → is_done (accept_answer g iids sids) ≡ true
    → file_length iids sids ≤ 2 ^ 64 - 1 → (old other : List ℕ) → length old ≡ file_length iids sids → length other ≡ file_length iids sids
    → (canonical_buffer f iids sids old ≡ canonical_buffer g iids sids other → (a m : ℕ) → a < iids → m < sids → call_code f iids sids a m ≡ call_code g iids sids a m)
    × (((a m : ℕ) → a < iids → m < sids → call_code f iids sids a m ≡ call_code g iids sids a m) → canonical_buffer f iids sids old ≡ canonical_buffer g iids sids other)
unfolding canonical_file
canonical_equal f g iids sids df dg fits old other lf lg =
    let ef = (canonical_left f iids sids df fits old lf).1 in
    let eg = (canonical_left g iids sids dg fits other lg).1 in (
      (λ e a m ha hm.
          sym (canonical_call f iids sids df fits a m ha hm)
          ∙ ap (λ x. call_code x iids sids a m) (sym ef ∙ e ∙ eg)
          ∙ canonical_call g iids sids dg fits a m ha hm),
      (λ e. ef ∙ bed_ext iids sids (call_code f iids sids) (call_code g iids sids) e ∙ sym eg),
    )
