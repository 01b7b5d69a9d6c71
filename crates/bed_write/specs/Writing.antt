-- Writing a whole file.
use Rattle.std.specs.Prelude.{◌≡◌, Bool, List, [], ◌∷◌, ◌++◌, ℕ, zero, suc, ◌*◌, eqb, pos, length}
use Rattle.std.specs.Prelude.{Option, Some, None}
use Rattle.answer.specs.Answer.{Answer, done, refused, check, check_count, if_done}
use Rattle.blocks.specs.Block.{file_length, check_size}
use Rattle.codes.specs.Code.{packed}
use Rattle.answer.specs.Lists.{tabulate}
use Rattle.answer.specs.Matrix.{matrix_place}
use Rattle.codes.specs.Value.{Width}
use Rattle.bed_write.specs.Packing.{place_code, or_zero, first_of, if_bad}

-- the code of the value of animal a at marker m of a matrix, in animal order (true) or marker order (false)
unfoldable pub value_code : {V : Type 0} (w : Width V) → Bool → V → Bool → ℕ → ℕ → List V → ℕ → ℕ → Option ℕ
unfolding place_code
value_code w flag missing animal_order iids sids val a m = place_code w flag missing val (matrix_place animal_order iids sids a m)

-- "the first marker, and in it the first animal, with a bad value": its animal and its marker
unfoldable pub first_bad_call : ℕ → ℕ → (ℕ → ℕ → Option ℕ) → Option (ℕ × ℕ)
first_bad_call iids sids code = first_of sids (λ m. first_of iids (λ a. if_bad (code a m) (a, m)))

-- 7: "carries the first one's animal, in the whole-file writer its marker too"
unfoldable pub check_call : Option (ℕ × ℕ) → Answer → Answer
check_call None later = later
check_call (Some (animal, marker)) later = refused 7 (pos animal ∷ pos marker ∷ [])

-- "18, 4, 15, 16", of counts and of how long the buffers are. 15: "value buffer is not the product of .. the two counts";
-- 16: "packed buffer has the wrong length"
unfoldable pub check_buffers : ℕ → ℕ → ℕ → ℕ → Answer → Answer
unfolding check_count check_size check
check_buffers iids sids val_length out_length later =
    check_count iids
    (check_count sids
    (check_size iids sids
    (check (eqb (iids * sids) val_length) 15
    (check (eqb out_length (file_length iids sids)) 16 later))))

-- "The whole-file writer checks 18, 4, 15, 16, 7"
unfoldable pub write_answer : ℕ → ℕ → (ℕ → ℕ → Option ℕ) → ℕ → ℕ → Answer
unfolding check_buffers check_call
write_answer iids sids code val_length out_length =
    check_buffers iids sids val_length out_length (check_call (first_bad_call iids sids code) (done []))

-- blocks 0 to n − 1, one after the other
unfoldable pub joined : ℕ → (ℕ → List ℕ) → List ℕ
joined zero block = []
joined (suc n) block = block 0 ++ joined n (λ m. block (suc m))

-- "writes mode 1": 6C 1B 01, then each marker's packed block, for the code of each animal at each marker
unfoldable pub bed_file : ℕ → ℕ → (ℕ → ℕ → ℕ) → List ℕ
bed_file iids sids code = 0x6C ∷ 0x1B ∷ 1 ∷ joined sids (λ m. packed (tabulate iids (λ a. code a m)))

-- the later packed buffer of the whole-file writer
unfoldable pub write_buffer : ℕ → ℕ → (ℕ → ℕ → Option ℕ) → ℕ → List ℕ → List ℕ
write_buffer iids sids code val_length old =
    if_done (write_answer iids sids code val_length (length old)) (bed_file iids sids (λ a m. or_zero (code a m))) old

-- the whole-file writer of a matrix of values: what it answers, and the later packed buffer
abbrev pub Writes : {V : Type 0} (w : Width V) → Bool → V → Bool → ℕ → ℕ → List V → Answer → List ℕ → List ℕ → Type 0
Writes w flag missing animal_order iids sids val said old new =
    (said ≡ write_answer iids sids (value_code w flag missing animal_order iids sids val) (length val) (length old))
    × (new ≡ write_buffer iids sids (value_code w flag missing animal_order iids sids val) (length val) old)
