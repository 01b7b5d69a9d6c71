-- Computed examples of document 01.
use mathlib.Core.Path.{◌≡◌, refl, ◌∙◌, ap}
use mathlib.Core.Bool.{Bool, true, false}
use mathlib.Core.List.{List, [], ◌∷◌}
use Prim.Native.Nat.{ℕ, ◌-◌, ◌^◌}
use native.Mathlib.Omega.{arith}
use borrow.Author.Tests.{eq-eqb, le-leb}
use lib.Dec.{leb, eqb}
use lib.ListN.{length, get_or}
use Rattle.answer.specs.Answer.{Answer, done, refused, check}
use Rattle.blocks.specs.Block.{block_width, file_length, check_size}
use Rattle.codes.specs.Code.{code_at, item_code, packed_byte, packed}
use Rattle.answer.specs.Lists.{tabulate}
use Rattle.answer.proofs.AnswerLaws.{count_passes, check_passes, check_refuses}
use Rattle.bed_file.specs.File.{is_mode1, items, blocks, check_file, check_mode, check_length}
use Rattle.bed_file.proofs.FileLaws.{open_good}
use Rattle.calls.specs.Calls.{block, code_in, call_code}
use Rattle.bed_write.specs.Writing.{joined, bed_file}
use Rattle.canonical.specs.Canonical.{canonical_answer, canonical_file}

-- "6C 1B 00 0C 0D 0A 03 08 has canonical file F"
pub canonical_of_mode_0 :
    canonical_file (0x6C ∷ 0x1B ∷ 0 ∷ 0x0C ∷ 0x0D ∷ 0x0A ∷ 0x03 ∷ 0x08 ∷ []) 5 2 ≡ 0x6C ∷ 0x1B ∷ 1 ∷ 0xE4 ∷ 0x00 ∷ 0x2F ∷ 0x02 ∷ []
unfolding canonical_file bed_file joined packed packed_byte tabulate block_width call_code code_in is_mode1 block item_code code_at
canonical_of_mode_0 = refl

-- "Last byte F2": the pads are zero in the canonical file
pub canonical_of_pads :
    canonical_file (0x6C ∷ 0x1B ∷ 1 ∷ 0xE4 ∷ 0x00 ∷ 0x2F ∷ 0xF2 ∷ []) 5 2 ≡ 0x6C ∷ 0x1B ∷ 1 ∷ 0xE4 ∷ 0x00 ∷ 0x2F ∷ 0x02 ∷ []
unfolding canonical_file bed_file joined packed packed_byte tabulate block_width call_code code_in is_mode1 block item_code code_at
canonical_of_pads = refl

read_fits : leb (file_length (2 ^ 63 - 1) 5) (2 ^ 64 - 1) ≡ true
unfolding block_width
read_fits = refl

written_does_not : leb (file_length 5 (2 ^ 63 - 1)) (2 ^ 64 - 1) ≡ false
unfolding block_width
written_does_not = refl

in_mode_0 : (file : List ℕ) → get_or file 2 0 ≡ 0 → is_mode1 file ≡ false
unfolding is_mode1
in_mode_0 file e = ap (λ (k : ℕ). eqb k 1) e

-- "A mode 0 file may meet that last 4, as with 5 animals and 2^63 − 1 markers."
pub last_4 :
    (file : List ℕ) (out_length : ℕ) → get_or file 0 0 ≡ 0x6C → get_or file 1 0 ≡ 0x1B → get_or file 2 0 ≡ 0 → length file ≡ file_length (2 ^ 63 - 1) 5
    → canonical_answer file 5 (2 ^ 63 - 1) out_length ≡ refused 4 []
unfolding canonical_answer check_file check_mode check_length check_size items blocks
last_4 file out_length e0 e1 e2 l =
    count_passes 5 _ (omega arith)
    ∙ count_passes (2 ^ 63 - 1) _ (omega arith)
    ∙ open_good file _ (omega arith) e0 e1
    ∙ check_passes (leb (get_or file 2 0) 1) 3 _ (le-leb (get_or file 2 0) 1 (omega arith))
    ∙ ap (λ (b : Bool). check_length (length file) (items b 5 (2 ^ 63 - 1)) (blocks b 5 (2 ^ 63 - 1)) written) (in_mode_0 file e2)
    ∙ check_passes (leb (file_length (2 ^ 63 - 1) 5) (2 ^ 64 - 1)) 4 _ read_fits
    ∙ check_passes (eqb (length file) (file_length (2 ^ 63 - 1) 5)) 2 _ (eq-eqb (length file) (file_length (2 ^ 63 - 1) 5) l)
    ∙ check_refuses (leb (file_length 5 (2 ^ 63 - 1)) (2 ^ 64 - 1)) 4 _ written_does_not
  where
    written : Answer
    written = check_size 5 (2 ^ 63 - 1) (check (eqb out_length (file_length 5 (2 ^ 63 - 1))) 16 (done []))
