-- What a caller's bounds mean.
use Rattle.std.specs.Prelude.{Bool, true, false, ℕ, ℤ, Option, Some, None}
use Rattle.index.specs.declared.range.RangeAny.{RangeAny}
use Rattle.index.specs.declared.slice.SliceInfo1.{SliceInfo1}

-- "An absent bound's number is not looked at."
abbrev pub bound_of : {N : Type 0} → Bool → N → Option N
bound_of true number = Some number
bound_of false number = None

-- a range and a slice, from what a caller gives
abbrev pub range_of : Bool → ℕ → Bool → ℕ → RangeAny
range_of has_start start has_end end = record { start = bound_of has_start start; end = bound_of has_end end }

abbrev pub slice_of : ℤ → Bool → ℤ → ℤ → SliceInfo1
slice_of start has_end end step = record { start = start; end = bound_of has_end end; step = step }
