-- What is answered of a file: "Entries are checked as animal numbers after the file's own checks, lamb first."
use mathlib.Core.Path.{◌≡◌, ◌∙◌}
use mathlib.Core.Bool.{Bool, true, false}
use mathlib.Core.List.{List, [], ◌∷◌}
use Rattle.std.specs.Prelude.{Some, None}
use Prim.Native.Nat.{ℕ, ◌*◌, min}
use lib.IntN.{ℤ, pos}
use lib.ListN.{length, get_or}
use Rattle.answer.specs.Answer.{done, refused, check_count, is_done}
use Rattle.answer.proofs.AnswerLaws.{Stage, count_stage, then_stage, heard, stays, entry_passes, entry_refuses}
use Rattle.entries.specs.Entry.{is_good, means, first_bad}
use Rattle.codes.specs.Value.{Width, value_of}
use Rattle.codes.proofs.ValueLaws.{Numbers}
use Rattle.bed_file.specs.File.{check_file, accept_answer}
use Rattle.bed_file.proofs.FileLaws.{file_stage}
use Rattle.calls.specs.Calls.{call_code}
use Rattle.calls.proofs.CallLaws.{call_below}
use Rattle.sire.specs.Sire.{opposing_values, named, floor, opposes_in, named_numbers, check_sire, sire_numbers, sire_answer}
use Rattle.sire.proofs.Opposing.{NotTwo, opposing_by_values}
use Rattle.sire.proofs.Limit.{made_is}

module _ (file : List ℕ) (iids sids : ℕ) (offspring : ℤ) (candidates : List ℤ) where
  -- the calls that are compared, as they are read under either flag
  pub opposes_by_values :
      {V : Type 0} (w : Width V) → Numbers w → NotTwo w → (missing : V) → w.same missing w.zero ≡ false → w.same missing w.two ≡ false
      → (flag : Bool) (k m : ℕ)
      → opposing_values w (value_of w flag missing (call_code file iids sids (means iids offspring) m)) (value_of w flag missing (call_code file iids sids (means iids (get_or candidates k (pos 0))) m))
      ≡ opposes_in file iids sids offspring candidates k m
  unfolding opposes_in
  opposes_by_values w numbers not_two missing no_zero no_two flag k m =
      opposing_by_values w numbers not_two missing no_zero no_two flag
      (call_code file iids sids (means iids offspring) m) (call_code file iids sids (means iids (get_or candidates k (pos 0))) m)
      (call_below file iids sids (means iids offspring) m) (call_below file iids sids (means iids (get_or candidates k (pos 0))) m)

  module _ (limit : ℕ) where
    own_stage : Stage (λ later. check_count iids (check_count sids (check_file file iids sids later)))
    own_stage = then_stage (count_stage iids) (then_stage (count_stage sids) (file_stage file iids sids))

    -- "after the file's own checks"
    pub file_first : (n : ℕ) (vs : List ℤ) → accept_answer file iids sids ≡ refused n vs → sire_answer file iids sids offspring candidates limit ≡ refused n vs
    unfolding accept_answer sire_answer check_sire
    file_first n vs e = stays own_stage [] n vs e _

    module _ (accepted : is_done (accept_answer file iids sids) ≡ true) where
      -- "lamb first": whatever the candidates are
      pub offspring_bad : is_good iids offspring ≡ false → sire_answer file iids sids offspring candidates limit ≡ refused 5 (offspring ∷ [])
      unfolding accept_answer sire_answer check_sire first_bad
      offspring_bad b =
          let f : first_bad iids (offspring ∷ candidates) ≡ Some offspring = rw b in
          heard own_stage [] accepted _ ∙ entry_refuses (first_bad iids (offspring ∷ candidates)) 5 _ offspring f

      module _ (good : is_good iids offspring ≡ true) where
        pub candidate_bad : (e : ℤ) → first_bad iids candidates ≡ Some e → sire_answer file iids sids offspring candidates limit ≡ refused 5 (e ∷ [])
        unfolding accept_answer sire_answer check_sire first_bad
        candidate_bad e b =
            let f : first_bad iids (offspring ∷ candidates) ≡ Some e = rw good b in
            heard own_stage [] accepted _ ∙ entry_refuses (first_bad iids (offspring ∷ candidates)) 5 _ e f

        -- the comparisons made are those of 02, whatever the calls are, missing ones too
        pub numbers_answered :
            first_bad iids candidates ≡ None
            → sire_answer file iids sids offspring candidates limit
            ≡ done (
            pos (min limit (length candidates * sids))
            ∷ pos (floor limit sids (length candidates) (opposes_in file iids sids offspring candidates))
            ∷ named_numbers (named limit sids (length candidates) (opposes_in file iids sids offspring candidates)))
        unfolding accept_answer sire_answer check_sire sire_numbers first_bad
        numbers_answered b =
            let f : first_bad iids (offspring ∷ candidates) ≡ None = rw good b in
            rw (← made_is limit sids (length candidates)) (heard own_stage [] accepted _ ∙ entry_passes (first_bad iids (offspring ∷ candidates)) 5 _ f)
