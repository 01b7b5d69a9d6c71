-- The observed count of calls read: the file of Sides in both modes, whose marker 0 has the calls 0, 2 and missing, marker 1 three ones.
use mathlib.Core.Path.{◌≡◌, refl, sym}
use mathlib.Core.Bool.{Bool, true, false}
use mathlib.Core.List.{List, [], ◌∷◌}
use lib.Dec.{lit≤}
use lib.IntN.{ℤ, pos, negsuc}
use lib.ListN.{get_or}
use lib.Ieee.{nan, binary64, of_int}
use Rattle.answer.specs.Lists.{tabulate, how_many}
use Rattle.blocks.specs.Block.{block_width}
use Rattle.codes.specs.Code.{code_at, item_code, copies}
use Rattle.entries.specs.Entry.{first_bad, is_good, means}
use Rattle.bed_file.specs.File.{accept_answer, is_mode1, items, blocks}
use Rattle.calls.specs.Calls.{block, code_in, call_code}
use Rattle.call_counts.specs.Counts.{same_copies, code_named, calls_with, counted, new_counts}
use Rattle.statistics.specs.Calls.{two, whole, total}
use Rattle.read_standardised.specs.Joined.{joined_stats}
use Rattle.demands.specs.Demand.{IsAccepted, GoodList, meant, RightLengths}
use Rattle.demands.specs.Observed.{calls_observed}
use Rattle.demands.proofs.Observed.{joined_observed, counts_observed}
use Rattle.demands.proofs.Sides.{T, T13, val, stats, markers, three}

-- animal 1, animal 1 again, animal 2: its call at marker 0 is missing
abbrev pub repeated : List ℤ
repeated = pos 1 ∷ negsuc 1 ∷ pos 2 ∷ []

accepted : (mode1 : Bool) → IsAccepted (T mode1) 3 2
unfolding accept_answer is_mode1 items blocks block_width
accepted true = refl
accepted false = refl

pub accepted_13 : (mode1 : Bool) → IsAccepted (T13 mode1) 3 2
unfolding accept_answer is_mode1 items blocks block_width
accepted_13 true = refl
accepted_13 false = refl

pub animals_good : GoodList 3 repeated
unfolding first_bad is_good
animals_good = refl

pub markers_good : GoodList 2 markers
unfolding first_bad is_good
markers_good = refl

pub lengths : RightLengths repeated markers val stats
lengths = record { for_15 = refl; for_17 = refl }

-- an animal that is named again counts again
pub repeated_third : (mode1 order : Bool) → get_or (joined_stats binary64 (T mode1) 3 2 true repeated markers order val stats) 2 nan ≡ two
unfolding calls_observed total meant means call_code code_in block item_code code_at is_mode1 items blocks block_width whole of_int
repeated_third true order = joined_observed binary64 (T true) 3 2 true repeated markers order val stats (accepted true) animals_good markers_good lengths (lit≤ tt) 0 (lit≤ tt)
repeated_third false order = joined_observed binary64 (T false) 3 2 true repeated markers order val stats (accepted false) animals_good markers_good lengths (lit≤ tt) 0 (lit≤ tt)

pub all_three : (mode1 order : Bool) → get_or (joined_stats binary64 (T mode1) 3 2 true repeated markers order val stats) 5 nan ≡ three
unfolding calls_observed total meant means call_code code_in block item_code code_at is_mode1 items blocks block_width whole of_int
all_three true order = joined_observed binary64 (T true) 3 2 true repeated markers order val stats (accepted true) animals_good markers_good lengths (lit≤ tt) 1 (lit≤ tt)
all_three false order = joined_observed binary64 (T false) 3 2 true repeated markers order val stats (accepted false) animals_good markers_good lengths (lit≤ tt) 1 (lit≤ tt)

-- and where none was observed the old number, here 2, stays
pub none_kept : (mode1 order : Bool) → get_or (joined_stats binary64 (T13 mode1) 3 2 true repeated markers order val stats) 5 nan ≡ two
unfolding calls_observed total meant means call_code code_in block item_code code_at is_mode1 items blocks block_width
none_kept true order = joined_observed binary64 (T13 true) 3 2 true repeated markers order val stats (accepted_13 true) animals_good markers_good lengths (lit≤ tt) 1 (lit≤ tt)
none_kept false order = joined_observed binary64 (T13 false) 3 2 true repeated markers order val stats (accepted_13 false) animals_good markers_good lengths (lit≤ tt) 1 (lit≤ tt)

-- the calls counted: of each marker the first three add up to its third number above
pub repeated_counts : (mode1 : Bool) → new_counts (T mode1) 3 2 repeated markers ≡ 0 ∷ 0 ∷ 2 ∷ 1 ∷ 0 ∷ 3 ∷ 0 ∷ 0 ∷ []
unfolding new_counts calls_with code_named counted same_copies copies how_many tabulate means call_code code_in block item_code code_at is_mode1 items blocks block_width
repeated_counts true = refl
repeated_counts false = refl

pub repeated_adds_up : (mode1 : Bool) → calls_observed (T mode1) 3 2 repeated markers 0 ≡ 2
unfolding calls_with code_named same_copies copies how_many meant means call_code code_in block item_code code_at is_mode1 items blocks block_width
repeated_adds_up true = sym (counts_observed (T true) 3 2 repeated markers 0)
repeated_adds_up false = sym (counts_observed (T false) 3 2 repeated markers 0)
