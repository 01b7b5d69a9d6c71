-- Blocks: how wide one is, and what refusal 4 says of its width.
use Rattle.std.specs.Prelude.{cond, [], ◌∷◌, ℕ, ◌+◌, ◌-◌, ◌*◌, ◌/◌, ◌^◌, pos, leb, eqb}
use Rattle.answer.specs.Answer.{Answer, done, check, check_count}

-- "Block width is 0 for nothing in a block, else (count − 1) / 4 rounded down, plus 1."
unfoldable pub block_width : ℕ → ℕ
block_width count = cond (eqb count 0) 0 ((count - 1) / 4 + 1)

-- "Length is 3 + width × blocks."
abbrev pub file_length : ℕ → ℕ → ℕ
file_length items blocks = 3 + block_width items * blocks

-- 4: "block width times block count, plus 3, passes 2^64 − 1"
unfoldable pub check_size : ℕ → ℕ → Answer → Answer
unfolding check
check_size items blocks later = check (leb (file_length items blocks) (2 ^ 64 - 1)) 4 later

-- `try_div_4`: 18 for either count, then 4; it answers the block width
unfoldable pub div_answer : ℕ → ℕ → Answer
unfolding check_count check_size
div_answer items blocks = check_count items (check_count blocks (check_size items blocks (done (pos (block_width items) ∷ []))))

-- the same checks, for how many bytes the file has
unfoldable pub size_answer : ℕ → ℕ → Answer
unfolding check_count check_size
size_answer items blocks = check_count items (check_count blocks (check_size items blocks (done (pos (file_length items blocks) ∷ []))))
