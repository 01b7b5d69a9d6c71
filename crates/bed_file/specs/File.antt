-- Header and length.
use Rattle.std.specs.Prelude.{Bool, true, false, ◌&&◌, List, [], ◌∷◌, ℕ, leb, eqb, pos, length, get_or}
use Rattle.answer.specs.Answer.{Answer, done, check, check_count}
use Rattle.blocks.specs.Block.{file_length, check_size}

-- "1 (under 3 bytes), 2 (first two bytes)": byte 0 is 6C and byte 1 is 1B
unfoldable pub check_open : List ℕ → Answer → Answer
unfolding check
check_open file later = check (leb 3 (length file)) 1 (check (eqb (get_or file 0 0) 0x6C && eqb (get_or file 1 0) 0x1B) 2 later)

-- `open_and_check` answers byte 2
unfoldable pub open_answer : List ℕ → Answer
unfolding check_open
open_answer file = check_open file (done (pos (get_or file 2 0) ∷ []))

-- 3: "byte 2 is neither 0 nor 1"
unfoldable pub check_mode : List ℕ → Answer → Answer
unfolding check
check_mode file later = check (leb (get_or file 2 0) 1) 3 later

-- "Mode 1: a block is one marker. Mode 0: a block is one animal, and counts and lists trade places"
unfoldable pub is_mode1 : List ℕ → Bool
is_mode1 file = eqb (get_or file 2 0) 1

-- how many items a block has, and how many blocks there are
unfoldable pub items : Bool → ℕ → ℕ → ℕ
items true iids sids = iids
items false iids sids = sids

unfoldable pub blocks : Bool → ℕ → ℕ → ℕ
blocks true iids sids = sids
blocks false iids sids = iids

-- "4, 2 (length)", of a file of so many bytes
unfoldable pub check_length : ℕ → ℕ → ℕ → Answer → Answer
unfolding check_size check
check_length file_len items blocks later =
    check_size items blocks (check (eqb file_len (file_length items blocks)) 2 later)

-- the size's checks by themselves, after 18
unfoldable pub length_answer : ℕ → ℕ → ℕ → Answer
unfolding check_count check_length
length_answer file_len items blocks = check_count items (check_count blocks (check_length file_len items blocks (done [])))

-- the file's own checks, after 18: "1 (under 3 bytes), 2 (first two bytes), 3, 4, 2 (length)"
unfoldable pub check_file : List ℕ → ℕ → ℕ → Answer → Answer
unfolding check_open check_mode check_length
check_file file iids sids later =
    check_open file
    (check_mode file
    (check_length (length file) (items (is_mode1 file) iids sids) (blocks (is_mode1 file) iids sids) later))

-- "A file is accepted for two counts if the reading's checks without 15, 5 and 6 find nothing."
unfoldable pub accept_answer : List ℕ → ℕ → ℕ → Answer
unfolding check_count check_file
accept_answer file iids sids = check_count iids (check_count sids (check_file file iids sids (done [])))
