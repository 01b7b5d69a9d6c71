-- Refusal 7 at small columns, by computation, and the theorems' hypotheses.
use mathlib.Core.Path.{◌≡◌, refl}
use mathlib.Core.Bool.{Bool, true, false}
use mathlib.Core.List.{List, [], ◌∷◌}
use Rattle.std.specs.Prelude.{Option, Some, None}
use Prim.Native.Nat.{ℕ, zero, suc, ◌<◌}
use native.Mathlib.Omega.{arith}
use lib.Dec.{lit≤}
use lib.IntN.{ℤ, pos, negsuc}
use lib.Ieee.{Float, nan, fin, eq}
use Rattle.answer.specs.Answer.{refused}
use Rattle.blocks.specs.Block.{block_width, check_size}
use Rattle.answer.specs.Matrix.{matrix_place}
use Rattle.codes.specs.Value.{i8, float, same_int, same_or_nan, code_of}
use Rattle.bed_write.specs.Packing.{place_code, or_else, first_of, if_bad, first_bad_animal, check_animal, encode_answer, encode_buffer}
use Rattle.bed_write.specs.First.{IsFoundFirst, IsFirstBad, IsFirstBadCall, animal_of}
use Rattle.bed_write.specs.Writing.{value_code, first_bad_call, check_call, check_buffers, write_answer}
use Rattle.bed_write.proofs.Theorems.{first_is_least, first_is_none, first_bad_animal_law, first_bad_call_law, refused_unchanged, one_marker_first_bad}

-- 3 is none of 0, 1, 2 and −127: animal 1, and as a matrix of two animals and two markers animal 1 at marker 0 or animal 0 at marker 1
abbrev pub with_three : List ℤ
with_three = pos 0 ∷ pos 3 ∷ pos 1 ∷ negsuc 126 ∷ []

pub three_is_bad : (flag : Bool) → encode_answer 4 (place_code i8 flag (negsuc 126) with_three) 1 ≡ refused 7 (pos 1 ∷ [])
unfolding encode_answer check_animal first_bad_animal first_of or_else if_bad place_code code_of same_or_nan same_int block_width
three_is_bad flag = refl

pub three_not_written : (flag : Bool) → write_answer 2 2 (value_code i8 flag (negsuc 126) false 2 2 with_three) 4 5 ≡ refused 7 (pos 1 ∷ pos 0 ∷ [])
unfolding write_answer check_buffers check_size check_call first_bad_call first_of or_else if_bad value_code place_code matrix_place code_of same_or_nan same_int block_width
three_not_written flag = refl

pub three_not_written_rows : (flag : Bool) → write_answer 2 2 (value_code i8 flag (negsuc 126) true 2 2 with_three) 4 5 ≡ refused 7 (pos 0 ∷ pos 1 ∷ [])
unfolding write_answer check_buffers check_size check_call first_bad_call first_of or_else if_bad value_code place_code matrix_place code_of same_or_nan same_int block_width
three_not_written_rows flag = refl

-- the first bad value, found and told
three_found : first_bad_animal 4 (place_code i8 true (negsuc 126) with_three) ≡ Some 1
unfolding first_bad_animal first_of or_else if_bad place_code code_of same_or_nan same_int
three_found = refl

pub three_is_first : IsFirstBad 4 (place_code i8 true (negsuc 126) with_three) 1
three_is_first = (first_bad_animal_law 4 (place_code i8 true (negsuc 126) with_three) 1).0 three_found

pub three_again : first_bad_animal 4 (place_code i8 true (negsuc 126) with_three) ≡ Some 1
three_again = (first_bad_animal_law 4 (place_code i8 true (negsuc 126) with_three) 1).1 three_is_first

three_called : first_bad_call 2 2 (value_code i8 true (negsuc 126) true 2 2 with_three) ≡ Some (0, 1)
unfolding first_bad_call first_of or_else if_bad value_code place_code matrix_place code_of same_or_nan same_int
three_called = refl

pub three_call_is_first : IsFirstBadCall 2 2 (value_code i8 true (negsuc 126) true 2 2 with_three) 0 1
three_call_is_first = (first_bad_call_law 2 2 (value_code i8 true (negsuc 126) true 2 2 with_three) 0 1).0 three_called

pub three_call_again : first_bad_call 2 2 (value_code i8 true (negsuc 126) true 2 2 with_three) ≡ Some (0, 1)
three_call_again = (first_bad_call_law 2 2 (value_code i8 true (negsuc 126) true 2 2 with_three) 0 1).1 three_call_is_first

-- "missing (any NaN if missing is NaN)": with missing −127 a NaN is bad
abbrev pub minus127 : Float
minus127 = fin true 127 (pos 0)

abbrev pub with_nan : List Float
with_nan = minus127 ∷ fin false 1 (pos 1) ∷ nan ∷ fin true 0 (pos 0) ∷ []

pub nan_is_bad : (flag : Bool) → encode_answer 4 (place_code float flag minus127 with_nan) 1 ≡ refused 7 (pos 2 ∷ [])
unfolding encode_answer check_animal first_bad_animal first_of or_else if_bad place_code code_of same_or_nan eq block_width
nan_is_bad true = refl
nan_is_bad false = refl

pub nan_not_written : (flag : Bool) → write_answer 2 2 (value_code float flag minus127 false 2 2 with_nan) 4 5 ≡ refused 7 (pos 0 ∷ pos 1 ∷ [])
unfolding write_answer check_buffers check_size check_call first_bad_call first_of or_else if_bad value_code place_code matrix_place code_of same_or_nan eq block_width
nan_not_written true = refl
nan_not_written false = refl

-- 3 stands in the second group of four: 7 with animal 5, and the first byte is the old one too
abbrev second_group : List ℤ
second_group = pos 0 ∷ pos 1 ∷ pos 2 ∷ pos 2 ∷ pos 0 ∷ pos 3 ∷ pos 1 ∷ []

second_refused : encode_answer 7 (place_code i8 true (negsuc 126) second_group) 2 ≡ refused 7 (pos 5 ∷ [])
unfolding encode_answer check_animal first_bad_animal first_of or_else if_bad place_code code_of same_or_nan same_int block_width
second_refused = refl

pub second_unchanged : encode_buffer 7 (place_code i8 true (negsuc 126) second_group) (0xAA ∷ 0xBB ∷ []) ≡ 0xAA ∷ 0xBB ∷ []
second_unchanged = refused_unchanged 7 (place_code i8 true (negsuc 126) second_group) (0xAA ∷ 0xBB ∷ []) 7 (pos 5 ∷ []) second_refused

-- the writer's search over one marker, in either order
pub second_searched : (order : Bool) → animal_of (first_bad_call 7 1 (value_code i8 true (negsuc 126) order 7 1 second_group)) ≡ Some 5
unfolding first_bad_animal first_of or_else if_bad place_code code_of same_or_nan same_int
second_searched order = one_marker_first_bad i8 true (negsuc 126) order 7 second_group

-- ---- what is found first, of places at which something is found from 1 on
abbrev from1 : ℕ → Option ℕ
from1 zero = None
from1 (suc k) = Some (suc k)

none_at_0 : (j : ℕ) → j < 1 → from1 j ≡ None
none_at_0 zero h = refl
none_at_0 (suc j) h = absurd (omega arith)

pub first_from_1 : first_of 3 from1 ≡ Some 1
first_from_1 = (first_is_least 3 from1 1).1 (record { place = 1; inside = lit≤ tt; found_there = refl; none_lower = none_at_0 })

pub found_from_1 : IsFoundFirst ℕ 3 from1 1
found_from_1 = (first_is_least 3 from1 1).0 first_from_1

pub none_from_1 : first_of 1 from1 ≡ None
none_from_1 = (first_is_none 1 from1).1 none_at_0

pub nothing_at_0 : from1 0 ≡ None
nothing_at_0 = (first_is_none 1 from1).0 none_from_1 0 (lit≤ tt)
