-- Reading.
use Rattle.std.specs.Prelude.{◌≡◌, Bool, List, [], map, ℕ, ◌*◌, eqb, ℤ, pos, length, get_or}
use Rattle.answer.specs.Answer.{Answer, done, check, check_count, check_entry, if_done}
use Rattle.entries.specs.Entry.{first_bad, means}
use Rattle.codes.specs.Value.{Width, value_of}
use Rattle.answer.specs.Lists.{tabulate}
use Rattle.answer.specs.Matrix.{matrix}
use Rattle.bed_file.specs.File.{check_file}
use Rattle.calls.specs.Calls.{call_code}

-- 5: first bad entry of the animal list; 6: of the marker list; each carries it. "5 always means the animal list and 6 the marker list, in
-- that order, in either mode"
unfoldable pub check_lists : ℕ → ℕ → List ℤ → List ℤ → Answer → Answer
unfolding check_entry
check_lists iids sids iid_list sid_list later = check_entry (first_bad iids iid_list) 5 (check_entry (first_bad sids sid_list) 6 later)

-- the lists' checks by themselves, after 18
unfoldable pub lists_answer : ℕ → ℕ → List ℤ → List ℤ → Answer
unfolding check_count check_lists
lists_answer iids sids iid_list sid_list = check_count iids (check_count sids (check_lists iids sids iid_list sid_list (done [])))

-- what reading checks, and counting: 18; 15 for a buffer that has not m values for each marker named; the file's own checks; 5 and 6
abbrev pub checks_answer : ℕ → List ℕ → ℕ → ℕ → List ℤ → List ℤ → ℕ → Answer
checks_answer m file iids sids iid_list sid_list val_length =
    check_count iids
    (check_count sids
    (check (eqb (m * length sid_list) val_length) 15
    (check_file file iids sids
    (check_lists iids sids iid_list sid_list (done [])))))

-- "Reading checks 18, 15, 1 (under 3 bytes), 2 (first two bytes), 3, 4, 2 (length), 5, 6."
-- 15: "value buffer is not the product of the two list lengths"
unfoldable pub read_answer : List ℕ → ℕ → ℕ → List ℤ → List ℤ → ℕ → Answer
unfolding check_count check check_file check_lists
read_answer file iids sids iid_list sid_list val_length = checks_answer (length iid_list) file iids sids iid_list sid_list val_length

-- "file order is the list 0, 1, 2 and so on": with it, reading reads everything
unfoldable pub file_order : ℕ → List ℤ
file_order count = tabulate count pos

-- the code read for place k of the animal list and place m of the marker list: that of the animal and the marker that the entries mean
unfoldable pub read_code : List ℕ → ℕ → ℕ → List ℤ → List ℤ → ℕ → ℕ → ℕ
read_code file iids sids iid_list sid_list k m =
    call_code file iids sids (means iids (get_or iid_list k (pos 0))) (means sids (get_or sid_list m (pos 0)))

-- the matrix of the codes read, in the order asked
unfoldable pub codes_read : Bool → List ℕ → ℕ → ℕ → List ℤ → List ℤ → List ℕ
codes_read animal_order file iids sids iid_list sid_list =
    matrix animal_order (length iid_list) (length sid_list) (read_code file iids sids iid_list sid_list)

-- the matrix read: the value of each code
unfoldable pub values_read : {V : Type 0} (w : Width V) → Bool → V → Bool → List ℕ → ℕ → ℕ → List ℤ → List ℤ → List V
values_read w flag missing animal_order file iids sids iid_list sid_list =
    map (value_of w flag missing) (codes_read animal_order file iids sids iid_list sid_list)

-- the later value buffer
unfoldable pub read_buffer :
    {V : Type 0} (w : Width V) → List ℕ → ℕ → ℕ → Bool → List ℤ → List ℤ → V → Bool → List V → List V
read_buffer w file iids sids flag iid_list sid_list missing animal_order old =
    if_done (read_answer file iids sids iid_list sid_list (length old))
    (values_read w flag missing animal_order file iids sids iid_list sid_list) old

-- reading into a lent buffer: what it answers, and the later values
abbrev pub Reads :
    {V : Type 0} (w : Width V) → List ℕ → ℕ → ℕ → Bool → List ℤ → List ℤ → V → Bool → Answer → List V → List V → Type 0
Reads w file iids sids flag iid_list sid_list missing animal_order said old new =
    (said ≡ read_answer file iids sids iid_list sid_list (length old))
    × (new ≡ read_buffer w file iids sids flag iid_list sid_list missing animal_order old)
