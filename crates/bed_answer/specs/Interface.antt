-- How an answer crosses the C interface.
use Rattle.std.specs.Prelude.{Bool, cond, ◌||◌, List, map, ℕ, eqb, leb, ℤ, pos, negsuc, get_or}
use Rattle.answer.specs.Answer.{Answer, done, refused, count_limit}
use Rattle.bed_answer.specs.declared.BedAnswer.{BedAnswer}

-- "number 0: done; else document 01's number"
unfoldable pub number_of : Answer → ℕ
number_of (done vs) = 0
number_of (refused n vs) = n

-- the numbers that a call answers, or what its refusal carries
unfoldable pub values_of : Answer → List ℤ
values_of (done vs) = vs
values_of (refused n vs) = vs

-- "with what it carries (else 0)"
unfoldable pub bed_answer : Answer → BedAnswer
unfolding number_of values_of
bed_answer answer =
    record { number = number_of answer; first = get_or (values_of answer) 0 (pos 0); second = get_or (values_of answer) 1 (pos 0) }

-- A signed number holds nothing above 2^63 − 1: for a greater one, which no answer of the core has (proofs/FitLaws), 2^63 − 1 is told.
unfoldable pub clipped : ℕ → ℕ
clipped n = cond (leb n count_limit) n count_limit

unfoldable pub clip : ℤ → ℤ
unfolding clipped
clip (pos n) = pos (clipped n)
clip (negsuc k) = negsuc k

-- 5 and 6 carry an entry of a list, which is a signed number already
unfoldable pub carries_entry : ℕ → Bool
carries_entry n = eqb n 5 || eqb n 6

-- an answer with its numbers so held
unfoldable pub clip_answer : Answer → Answer
unfolding clip carries_entry
clip_answer (done vs) = done (map clip vs)
clip_answer (refused n vs) = refused n (cond (carries_entry n) vs (map clip vs))
