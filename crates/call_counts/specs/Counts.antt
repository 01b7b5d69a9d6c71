-- Counting the calls of the animals named, at each marker named.
use Rattle.std.specs.Prelude.{◌≡◌, Bool, true, false, List, [], ℕ, zero, suc, ◌*◌, ◌/◌, ◌%◌, eqb, ℤ, pos, length, get_or}
use Rattle.std.specs.Prelude.{Option, Some, None}
use Rattle.answer.specs.Answer.{Answer, done, check, check_count, if_done}
use Rattle.answer.specs.Lists.{tabulate, how_many}
use Rattle.entries.specs.Entry.{means}
use Rattle.codes.specs.Code.{copies}
use Rattle.bed_file.specs.File.{check_file}
use Rattle.calls.specs.Calls.{call_code}
use Rattle.bed_read.specs.Reading.{check_lists}

-- 18 for either count; 15: the counts buffer is not 4 × the marker list's length; then the file's own checks, 5 and 6, as reading has them
unfoldable pub counts_answer : List ℕ → ℕ → ℕ → List ℤ → List ℤ → ℕ → Answer
unfolding check_count check check_file check_lists
counts_answer file iids sids iid_list sid_list counts_length =
    check_count iids
    (check_count sids
    (check (eqb (4 * length sid_list) counts_length) 15
    (check_file file iids sids
    (check_lists iids sids iid_list sid_list (done [])))))

-- whether two calls have the same number of copies of the first allele, or are both missing
unfoldable pub same_copies : Option ℕ → Option ℕ → Bool
same_copies None None = true
same_copies None (Some n) = false
same_copies (Some m) None = false
same_copies (Some m) (Some n) = eqb m n

-- the code of the animal that entry k of the animal list means, at marker m
unfoldable pub code_named : List ℕ → ℕ → ℕ → List ℤ → ℕ → ℕ → ℕ
code_named file iids sids iid_list m k = call_code file iids sids (means iids (get_or iid_list k (pos 0))) m

-- how many calls at marker m are c, of the animals named: a repeated entry counts again
unfoldable pub calls_with : List ℕ → ℕ → ℕ → List ℤ → ℕ → Option ℕ → ℕ
calls_with file iids sids iid_list m c = how_many (length iid_list) (λ k. same_copies c (copies (code_named file iids sids iid_list m k)))

-- "how many calls are 0, 1, 2 and missing", first allele counted: what is counted at each of a marker's four places
unfoldable pub counted : ℕ → Option ℕ
counted zero = Some 0
counted (suc zero) = Some 1
counted (suc (suc zero)) = Some 2
counted (suc (suc (suc j))) = None

-- "for each marker named .. four u64 a marker at 4m to 4m + 3", m being its place in the list: a repeated entry has its own four places
unfoldable pub new_counts : List ℕ → ℕ → ℕ → List ℤ → List ℤ → List ℕ
new_counts file iids sids iid_list sid_list =
    tabulate (4 * length sid_list) (λ p. calls_with file iids sids iid_list (means sids (get_or sid_list (p / 4) (pos 0))) (counted (p % 4)))

-- the later counts buffer
unfoldable pub later_counts : List ℕ → ℕ → ℕ → List ℤ → List ℤ → List ℕ → List ℕ
later_counts file iids sids iid_list sid_list old =
    if_done (counts_answer file iids sids iid_list sid_list (length old)) (new_counts file iids sids iid_list sid_list) old

-- counting into a lent buffer: what it answers, and the later counts
abbrev pub CountsCalls : List ℕ → ℕ → ℕ → List ℤ → List ℤ → Answer → List ℕ → List ℕ → Type 0
CountsCalls file iids sids iid_list sid_list said old new =
    (said ≡ counts_answer file iids sids iid_list sid_list (length old)) × (new ≡ later_counts file iids sids iid_list sid_list old)
