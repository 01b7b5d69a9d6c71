-- Calls read have a mean: the file of Sides in both modes, whose marker 0 has the calls 0, 2 and missing; in T13 its marker 1 has no call.
use mathlib.Core.Path.{◌≡◌, refl}
use mathlib.Core.Bool.{Bool, true, false}
use lib.Dec.{lit≤}
use lib.IntN.{pos}
use lib.Ieee.{fin, binary64, add, mul, le, is_nan}
use Rattle.answer.specs.Answer.{GivesNo}
use Rattle.answer.specs.Lists.{tabulate}
use Rattle.answer.specs.Matrix.{matrix_place, matrix}
use Rattle.blocks.specs.Block.{block_width}
use Rattle.codes.specs.Code.{code_at, item_code}
use Rattle.codes.specs.Value.{values, value_of}
use Rattle.entries.specs.Entry.{means}
use Rattle.bed_file.specs.File.{is_mode1, items, blocks}
use Rattle.bed_read.specs.Reading.{read_code, codes_read, values_read}
use Rattle.calls.specs.Calls.{block, code_in, call_code}
use Rattle.statistics.specs.Statistics.{counted, accumulated}
use Rattle.statistics.specs.Calls.{sum_limit}
use Rattle.standardise.specs.Standardised.{value, standardise_answer}
use Rattle.read_standardised.specs.Joined.{read_nan, joined_answer}
use Rattle.read_standardised.specs.Ways.{as_read}
use Rattle.read_standardised.proofs.Never14.{read_sum_within, joined_never_14, in_turn_never_14}
use Rattle.demands.proofs.SideLaws.{is_read}
use Rattle.demands.proofs.Sides.{T, T13, val, stats, markers}
use Rattle.demands.proofs.ObservedExamples.{repeated, accepted_13, animals_good, markers_good, lengths}

-- 2, 2 and a missing call
pub four_read : (mode1 order : Bool) → (accumulated binary64 (λ k. value order 3 2 (read_nan binary64 (T mode1) 3 2 true repeated markers order val stats) k 0) 3).sum ≡ fin false 1 (pos 2)
unfolding accumulated counted add mul is_nan value matrix_place read_nan values_read codes_read matrix tabulate read_code means call_code code_in block item_code code_at is_mode1 items blocks block_width value_of values
four_read true true = refl
four_read true false = refl
four_read false true = refl
four_read false false = refl

pub four_within : (mode1 order : Bool) → le (accumulated binary64 (λ k. value order 3 2 (read_nan binary64 (T mode1) 3 2 true repeated markers order val stats) k 0) 3).sum (sum_limit binary64) ≡ true
four_within mode1 order = read_sum_within binary64 (T mode1) 3 2 true repeated markers order val stats 0 (lit≤ tt)

-- a marker without a call is refused by 13, and by 14 neither it nor any other
pub none_not_14 : (mode1 order : Bool) → GivesNo 14 (joined_answer binary64 (T13 mode1) 3 2 true repeated markers order val stats)
none_not_14 mode1 order = joined_never_14 binary64 (T13 mode1) 3 2 true repeated markers order val stats

pub in_turn_not_14 : (mode1 order use_stats : Bool)
    → GivesNo 14 (standardise_answer binary64 order 3 2 (as_read binary64 (T13 mode1) 3 2 true repeated markers order val stats) use_stats stats)
in_turn_not_14 mode1 order use_stats =
    in_turn_never_14 binary64 (T13 mode1) 3 2 true repeated markers order val stats use_stats
    (is_read binary64 (T13 mode1) 3 2 true repeated markers order val stats (accepted_13 mode1) animals_good markers_good lengths)
