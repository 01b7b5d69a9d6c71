-- "One marker's block travels as its bytes together with its animal count.": what its functions answer and leave. Throughout, `bytes` and
-- `iids` are a block's bytes and its animal count.
use Rattle.std.specs.Prelude.{◌≡◌, Bool, List, [], ◌∷◌, ℕ, eqb, pos, length}
use Rattle.std.specs.Prelude.{Option}
use Rattle.answer.specs.Answer.{Answer, done, check, check_count, check_entry, if_done}
use Rattle.blocks.specs.Block.{block_width}
use Rattle.codes.specs.Code.{item_code}
use Rattle.entries.specs.Entry.{first_bad}
use Rattle.answer.specs.Lists.{tabulate}
use Rattle.codes.specs.Value.{Width, value_of}
use Rattle.bed_write.specs.Packing.{place_code, packed_codes, first_bad_animal, check_animal}

-- 16: "packed buffer has the wrong length": a block has as many bytes as its animal count's block width
unfoldable pub check_bytes : ℕ → ℕ → Answer → Answer
unfolding check
check_bytes byte_count iids later = check (eqb byte_count (block_width iids)) 16 later

-- 18, then 15: a column has a value for each animal of the block
unfoldable pub check_column : ℕ → ℕ → Answer → Answer
unfolding check_count check
check_column iids val_length later = check_count iids (check (eqb val_length iids) 15 later)

-- the code of an animal: 18, 16, then 5 for a number that is none of the block's animals, which it carries
unfoldable pub code_answer : List ℕ → ℕ → ℕ → Answer
unfolding check_count check_bytes check_entry
code_answer bytes iids iid =
    check_count iids
    (check_bytes (length bytes) iids
    (check_entry (first_bad iids (pos iid ∷ [])) 5 (done (pos (item_code bytes iid) ∷ []))))

-- decoding: 18, 15, as reading checks them, then 16
unfoldable pub decode_answer : ℕ → ℕ → ℕ → Answer
unfolding check_column check_bytes
decode_answer byte_count iids val_length = check_column iids val_length (check_bytes byte_count iids (done []))

-- the column of a block: the value of each animal's code
unfoldable pub column_of : {V : Type 0} (w : Width V) → Bool → V → List ℕ → ℕ → List V
column_of w flag missing bytes iids = tabulate iids (λ a. value_of w flag missing (item_code bytes a))

-- the later column of decoding
unfoldable pub decode_buffer : {V : Type 0} (w : Width V) → Bool → V → List ℕ → ℕ → List V → List V
decode_buffer w flag missing bytes iids old =
    if_done (decode_answer (length bytes) iids (length old)) (column_of w flag missing bytes iids) old

-- packing: "`encode1` checks 16 first": 18 for the block's own count, 16, then 15 for the column, then 7
unfoldable pub pack_answer : ℕ → ℕ → (ℕ → Option ℕ) → ℕ → Answer
unfolding check_count check_bytes check check_animal
pack_answer iids val_length code byte_count =
    check_count iids (check_bytes byte_count iids (check (eqb val_length iids) 15 (check_animal (first_bad_animal iids code) (done []))))

-- the later bytes of packing, which every refusal leaves unchanged
unfoldable pub pack_buffer : ℕ → ℕ → (ℕ → Option ℕ) → List ℕ → List ℕ
pack_buffer iids val_length code old = if_done (pack_answer iids val_length code (length old)) (packed_codes iids code) old

-- decoding a block into a column: what it answers, and the later column
abbrev pub Decodes : {V : Type 0} (w : Width V) → Bool → V → List ℕ → ℕ → Answer → List V → List V → Type 0
Decodes w flag missing bytes iids said old new =
    (said ≡ decode_answer (length bytes) iids (length old)) × (new ≡ decode_buffer w flag missing bytes iids old)

-- packing a column into a block: what it answers, and the later bytes
abbrev pub Packs : {V : Type 0} (w : Width V) → Bool → V → List V → ℕ → Answer → List ℕ → List ℕ → Type 0
Packs w flag missing column iids said old new =
    (said ≡ pack_answer iids (length column) (place_code w flag missing column) (length old))
    × (new ≡ pack_buffer iids (length column) (place_code w flag missing column) old)
