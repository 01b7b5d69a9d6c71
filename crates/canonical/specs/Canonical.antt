-- The canonical file, on codes.
use Rattle.std.specs.Prelude.{◌≡◌, List, [], ℕ, eqb, length}
use Rattle.answer.specs.Answer.{Answer, done, check, check_count, if_done}
use Rattle.blocks.specs.Block.{file_length, check_size}
use Rattle.bed_file.specs.File.{check_file}
use Rattle.calls.specs.Calls.{call_code}
use Rattle.bed_write.specs.Writing.{bed_file}

-- "It makes the reading's checks without 15, 5 and 6, then 4 for the length to be written, then 16."
unfoldable pub canonical_answer : List ℕ → ℕ → ℕ → ℕ → Answer
unfolding check_count check_size check
canonical_answer file iids sids out_length =
    check_count iids
    (check_count sids
    (check_file file iids sids
    (check_size iids sids
    (check (eqb out_length (file_length iids sids)) 16 (done [])))))

-- the file of mode 1 that has the call of every animal at every marker
unfoldable pub canonical_file : List ℕ → ℕ → ℕ → List ℕ
canonical_file file iids sids = bed_file iids sids (call_code file iids sids)

-- the later packed buffer of the canonical call
unfoldable pub canonical_buffer : List ℕ → ℕ → ℕ → List ℕ → List ℕ
canonical_buffer file iids sids old = if_done (canonical_answer file iids sids (length old)) (canonical_file file iids sids) old

-- the canonical call: what it answers, and the later packed buffer
abbrev pub MakesCanonical : List ℕ → ℕ → ℕ → Answer → List ℕ → List ℕ → Type 0
MakesCanonical file iids sids said old new =
    (said ≡ canonical_answer file iids sids (length old)) × (new ≡ canonical_buffer file iids sids old)
