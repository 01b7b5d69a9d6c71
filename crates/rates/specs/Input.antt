-- The records of a run, and what is turned away.
use Rattle.std.specs.Prelude.{Bool, cond, List, [], ◌∷◌, ℕ, zero, suc, ◌+◌, leb, length, take, drop}
use Rattle.answer.specs.Answer.{Answer, done, check, is_done}
use Rattle.bed_file.specs.File.{accept_answer}
use Rattle.product.specs.Values.{le_number}

-- "animals, markers and file length as 8-byte little-endian numbers, then the file": an input that begins with a record has these three numbers
unfoldable pub number_at : List ℕ → ℕ → ℕ
number_at input place = le_number (take 8 (drop place input))

abbrev pub animals : List ℕ → ℕ
animals input = number_at input 0

abbrev pub markers : List ℕ → ℕ
markers input = number_at input 8

abbrev pub file_bytes : List ℕ → ℕ
file_bytes input = number_at input 16

-- three numbers of 8 bytes
abbrev pub header_bytes : ℕ
header_bytes = 24

-- "then the file", and the input behind the record
abbrev pub file_of : List ℕ → List ℕ
file_of input = take (file_bytes input) (drop header_bytes input)

abbrev pub rest : List ℕ → List ℕ
rest input = drop (header_bytes + file_bytes input) input

-- "a length above 65,536"
abbrev pub file_limit : ℕ
file_limit = 65536

-- "21 for a length above 65,536, then 22 for a record that ends early": one that ends in its header says no length, and is 22
unfoldable pub check_record : List ℕ → Answer → Answer
check_record input later =
    check (leb header_bytes (length input)) 22
    (check (leb (file_bytes input) file_limit) 21 (check (leb (header_bytes + file_bytes input) (length input)) 22 later))

-- a record: its two counts, its file, and what its checks say
pub record InputRecord : Type 0 where
  pub iids : ℕ
  pub sids : ℕ
  pub file : List ℕ
  pub answer : Answer

-- "both before the file's own checks"
unfoldable pub record_at : List ℕ → InputRecord
record_at input =
    record {
      iids = animals input;
      sids = markers input;
      file = file_of input;
      answer = check_record input (accept_answer (file_of input) (animals input) (markers input));
    }

-- "either prints its refused line, then `all`, and ends the run": the run goes on if neither is met
unfoldable pub goes_on : List ℕ → Bool
goes_on input = is_done (check_record input (done []))

-- "Standard input holds records": the first of them, at most `left`. Where no byte is left there is no record
unfoldable pub records : ℕ → List ℕ → List InputRecord
records zero input = []
records (suc left) [] = []
records (suc left) (b ∷ bs) =
    let input = b ∷ bs in
    let later = records left (rest input) in
    record_at input ∷ cond (goes_on input) later []

-- "the run stops after 1,000,000 records"
abbrev pub record_limit : ℕ
record_limit = 1000000

-- the records of a run
unfoldable pub run : List ℕ → List InputRecord
run input = records record_limit input
