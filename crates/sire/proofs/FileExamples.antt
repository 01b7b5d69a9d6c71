-- W-211 at document 01's file F in both modes: what is computed, then each theorem on answers taken once.
use mathlib.Core.Path.{◌≡◌, refl, sym, ap, ◌∙◌}
use mathlib.Core.Bool.{Bool, true, false}
use mathlib.Core.List.{List, [], ◌∷◌}
use Prim.Native.Nat.{ℕ, ◌^◌, ◌-◌}
use lib.IntN.{ℤ, pos, negsuc}
use Rattle.answer.specs.Answer.{Answer, done, refused, is_done, check, check_entry, check_count}
use Rattle.answer.specs.Lists.{how_many}
use Rattle.statistics.specs.Calls.{total}
use Rattle.blocks.specs.Block.{block_width, check_size}
use Rattle.entries.specs.Entry.{is_good, means, first_bad}
use Rattle.codes.specs.Code.{code_at, item_code}
use Rattle.codes.specs.Value.{i8, values, value_of, same_int}
use Rattle.codes.proofs.ValueLaws.{i8_numbers}
use Rattle.bed_file.specs.File.{is_mode1, items, blocks, check_file, check_open, check_mode, check_length, accept_answer}
use Rattle.calls.specs.Calls.{block, code_in, call_code}
use Rattle.sire.specs.Least.{lesser, least_of, count_or}
use Rattle.sire.specs.Sire.{opposing, opposing_values, compared, is_finished, comparisons_made, so_far, named, least_unfinished, floor, opposes_in, named_numbers, check_sire, sire_numbers, sire_answer}
use Rattle.sire.proofs.Opposing.{i8_not_two}
use Rattle.sire.proofs.Answers.{opposes_by_values, file_first, offspring_bad, candidate_bad, numbers_answered}
use Rattle.sire.proofs.Examples.{at}

-- "File F, 5 animals, 2 markers: 6C 1B 01 E4 00 2F 02.", and its calls in mode 0. First allele counted, animal 0 has 2 and 0, animal 1 missing and 0,
-- animal 2 has 1 and 1, animal 3 has 0 and 2, animal 4 has 2 and 1
abbrev file : Bool → List ℕ
file true = 0x6C ∷ 0x1B ∷ 1 ∷ 0xE4 ∷ 0x00 ∷ 0x2F ∷ 0x02 ∷ []
file false = 0x6C ∷ 0x1B ∷ 0 ∷ 0x0C ∷ 0x0D ∷ 0x0A ∷ 0x03 ∷ 0x08 ∷ []

-- they oppose animal 3 at 2, 1, 1 and 0 markers
abbrev four : List ℤ
four = pos 0 ∷ pos 1 ∷ negsuc 0 ∷ pos 2 ∷ []

-- the answers with offspring 3 by the list and the limit: comparisons, floor, and place and count of the named
abbrev answers : Bool → List ℤ → ℕ → Answer
answers mode1 candidates limit = sire_answer (file mode1) 5 2 (pos 3) candidates limit

pub record OfFile (mode1 : Bool) : Type 0 where
  pub whole : answers mode1 four (2 ^ 64 - 1) ≡ done (pos 8 ∷ pos 0 ∷ pos 3 ∷ pos 0 ∷ [])
  pub six : answers mode1 four 6 ≡ done (pos 6 ∷ pos 0 ∷ pos 1 ∷ pos 1 ∷ [])
  -- the third comparison is of the missing call
  pub three : answers mode1 four 3 ≡ done (pos 3 ∷ pos 0 ∷ pos 0 ∷ pos 2 ∷ [])
  pub one : answers mode1 four 1 ≡ done (pos 1 ∷ pos 0 ∷ [])
  -- animal 0 twice, the second time at one marker; and alone, not finished
  pub twice : answers mode1 (pos 0 ∷ negsuc 4 ∷ []) 3 ≡ done (pos 3 ∷ pos 1 ∷ pos 0 ∷ pos 2 ∷ [])
  pub alone : answers mode1 (pos 0 ∷ []) 1 ≡ done (pos 1 ∷ pos 1 ∷ [])
  -- the offspring itself, by another entry
  pub itself : answers mode1 (negsuc 1 ∷ []) 2 ≡ done (pos 2 ∷ pos 0 ∷ pos 0 ∷ pos 0 ∷ [])
  pub empty : answers mode1 [] 2 ≡ done (pos 0 ∷ pos 0 ∷ [])

pub of_file : (mode1 : Bool) → OfFile mode1
unfolding sire_answer check_sire sire_numbers check_count check check_file check_open check_mode check_length check_size check_entry first_bad is_good is_mode1 items blocks block_width
    opposes_in opposing means call_code code_in block item_code code_at
    comparisons_made compared is_finished so_far named least_unfinished floor least_of lesser count_or total how_many named_numbers
of_file true = record { whole = refl; six = refl; three = refl; one = refl; twice = refl; alone = refl; itself = refl; empty = refl }
of_file false = record { whole = refl; six = refl; three = refl; one = refl; twice = refl; alone = refl; itself = refl; empty = refl }

-- "after the file's own checks, lamb first": 18, 1, 2, 3, 4, 2 for the length, then 5 for the offspring, then for the first bad candidate
pub record OrderOfChecks : Type 0 where
  pub animals : sire_answer [] (2 ^ 63) (2 ^ 63) (pos 5) (pos 6 ∷ []) 1 ≡ refused 18 []
  pub markers : sire_answer [] 5 (2 ^ 63) (pos 5) (pos 6 ∷ []) 1 ≡ refused 18 []
  pub short : sire_answer [] 5 2 (pos 5) (pos 6 ∷ []) 1 ≡ refused 1 []
  pub start : sire_answer (0 ∷ 0 ∷ 7 ∷ []) 5 2 (pos 5) (pos 6 ∷ []) 1 ≡ refused 2 []
  pub mode : sire_answer (0x6C ∷ 0x1B ∷ 7 ∷ []) (2 ^ 63 - 1) 8 (pos 5) (pos 6 ∷ []) 1 ≡ refused 3 []
  pub size : sire_answer (0x6C ∷ 0x1B ∷ 1 ∷ []) (2 ^ 63 - 1) 8 (negsuc (2 ^ 63)) (pos 6 ∷ []) 1 ≡ refused 4 []
  pub long : sire_answer (0x6C ∷ 0x1B ∷ 1 ∷ []) 5 2 (pos 5) (pos 6 ∷ []) 1 ≡ refused 2 []
  pub offspring : (mode1 : Bool) → sire_answer (file mode1) 5 2 (pos 5) (pos 6 ∷ []) 1 ≡ refused 5 (pos 5 ∷ [])
  pub candidate : (mode1 : Bool) → sire_answer (file mode1) 5 2 (pos 4) (pos 4 ∷ negsuc 5 ∷ pos 6 ∷ []) 1 ≡ refused 5 (negsuc 5 ∷ [])
  -- five animals and no markers: every candidate is finished at once
  pub no_markers : sire_answer (0x6C ∷ 0x1B ∷ 1 ∷ []) 5 0 (pos 4) (pos 4 ∷ pos 2 ∷ []) 0 ≡ done (pos 0 ∷ pos 0 ∷ pos 0 ∷ pos 0 ∷ [])

offspring_first : (mode1 : Bool) → sire_answer (file mode1) 5 2 (pos 5) (pos 6 ∷ []) 1 ≡ refused 5 (pos 5 ∷ [])
unfolding sire_answer check_sire sire_numbers check_count check check_file check_open check_mode check_length check_size check_entry first_bad is_good is_mode1 items blocks block_width
offspring_first true = refl
offspring_first false = refl

candidate_next : (mode1 : Bool) → sire_answer (file mode1) 5 2 (pos 4) (pos 4 ∷ negsuc 5 ∷ pos 6 ∷ []) 1 ≡ refused 5 (negsuc 5 ∷ [])
unfolding sire_answer check_sire sire_numbers check_count check check_file check_open check_mode check_length check_size check_entry first_bad is_good is_mode1 items blocks block_width
candidate_next true = refl
candidate_next false = refl

pub order_of_checks : OrderOfChecks
unfolding sire_answer check_sire sire_numbers check_count check check_file check_open check_mode check_length check_size check_entry first_bad is_good is_mode1 items blocks block_width
    comparisons_made compared is_finished so_far named least_unfinished floor least_of lesser count_or total how_many named_numbers
order_of_checks =
    record {
      animals = refl;
      markers = refl;
      short = refl;
      start = refl;
      mode = refl;
      size = refl;
      long = refl;
      offspring = offspring_first;
      candidate = candidate_next;
      no_markers = refl;
    }

-- ---- by the theorems on answers
module _ (mode1 : Bool) where
  pub record AnswersSaid : Type 0 where
    pub of_six : answers mode1 four 6 ≡ done (pos 6 ∷ pos 0 ∷ pos 1 ∷ pos 1 ∷ [])
    pub of_bad_offspring : (candidates : List ℤ) (limit : ℕ) → sire_answer (file mode1) 5 2 (negsuc 5) candidates limit ≡ refused 5 (negsuc 5 ∷ [])
    pub of_bad_candidate : (limit : ℕ) → answers mode1 (pos 0 ∷ pos 5 ∷ negsuc 5 ∷ []) limit ≡ refused 5 (pos 5 ∷ [])
    pub of_bad_length : (offspring : ℤ) (candidates : List ℤ) (limit : ℕ) → sire_answer (file mode1) 5 6 offspring candidates limit ≡ refused 2 []
    pub opposes_as_read : opposes_in (file mode1) 5 2 (pos 3) four 2 0 ≡ true

accepted : (mode1 : Bool) → accept_answer (file mode1) 5 2 ≡ done []
unfolding accept_answer check_count check check_file check_open check_mode check_length check_size is_mode1 items blocks block_width
accepted true = refl
accepted false = refl

too_short : (mode1 : Bool) → accept_answer (file mode1) 5 6 ≡ refused 2 []
unfolding accept_answer check_count check check_file check_open check_mode check_length check_size is_mode1 items blocks block_width
too_short true = refl
too_short false = refl

-- computed for animal 3 and candidates 0, 1, 4, 2
six_numbers : (mode1 : Bool) → (floor 6 2 4 (opposes_in (file mode1) 5 2 (pos 3) four) ≡ 0) × (named 6 2 4 (opposes_in (file mode1) 5 2 (pos 3) four) ≡ at 1 1)
unfolding opposes_in opposing means call_code code_in block item_code code_at is_mode1 block_width compared is_finished so_far named least_unfinished floor least_of lesser count_or total how_many
six_numbers true = (refl, refl)
six_numbers false = (refl, refl)

-- animal 4 at marker 0 has 2, as animal 3 has 0
opposes_read : (mode1 : Bool) → opposes_in (file mode1) 5 2 (pos 3) four 2 0 ≡ true
unfolding opposes_in opposing_values value_of values same_int means call_code code_in block item_code code_at is_mode1 block_width
opposes_read true = sym (opposes_by_values (file true) 5 2 (pos 3) four i8 i8_numbers i8_not_two (negsuc 126) refl refl true 2 0)
opposes_read false = sym (opposes_by_values (file false) 5 2 (pos 3) four i8 i8_numbers i8_not_two (negsuc 126) refl refl false 2 0)

pub answers_said : (mode1 : Bool) → AnswersSaid mode1
unfolding first_bad is_good named_numbers
answers_said mode1 =
    record {
      of_six =
          numbers_answered (file mode1) 5 2 (pos 3) four 6 (ap is_done (accepted mode1)) refl refl
          ∙ rw ((six_numbers mode1).0, (six_numbers mode1).1);
      of_bad_offspring = λ candidates limit. offspring_bad (file mode1) 5 2 (negsuc 5) candidates limit (ap is_done (accepted mode1)) refl;
      of_bad_candidate = λ limit. candidate_bad (file mode1) 5 2 (pos 3) (pos 0 ∷ pos 5 ∷ negsuc 5 ∷ []) limit (ap is_done (accepted mode1)) refl (pos 5) refl;
      of_bad_length = λ offspring candidates limit. file_first (file mode1) 5 6 offspring candidates limit 2 [] (too_short mode1);
      opposes_as_read = opposes_read mode1;
    }
