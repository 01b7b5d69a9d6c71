-- The definition at a few values, by computation: the hypotheses of `Roots` can be met, and the definition says what it should. Assumes nothing.
use mathlib.Core.Path.{◌≡◌, sym}
use mathlib.Core.Bool.{false}
use lib.IntN.{pos, negsuc}
use native.Mathlib.Nat.{not-le_of_lt, le_of_lt}
use lib.Dec.{lit<}
use lib.Ieee.{fin, binary32, binary64, fits, of_bits, to_bits}
use Rattle.root.specs.Root.{count, IsRoot, root}
use Rattle.root.proofs.Roots.{root_only}

-- 2, and its root at 53 and at 24 binary digits
two_64 : IsRoot binary64 (fin false 1 (pos 1)) (fin false 6369051672525773 (negsuc 51))
unfolding count to_bits of_bits
two_64 = record { positive_finite = tt; above_lower = lit< tt; below_upper_law = lit< tt }

two_32 : IsRoot binary32 (fin false 1 (pos 1)) (fin false 11863283 (negsuc 22))
unfolding count to_bits of_bits
two_32 = record { positive_finite = tt; above_lower = lit< tt; below_upper_law = lit< tt }

-- the smallest value, 2 ^ -1074
smallest : IsRoot binary64 (fin false 1 (negsuc 1073)) (fin false 1 (negsuc 536))
unfolding count to_bits of_bits
smallest = record { positive_finite = tt; above_lower = lit< tt; below_upper_law = lit< tt }

-- the largest value, (2 ^ 53 - 1) * 2 ^ 971
largest : IsRoot binary64 (fin false 9007199254740991 (pos 971)) (fin false 9007199254740991 (pos 459))
unfolding count to_bits of_bits
largest = record { positive_finite = tt; above_lower = lit< tt; below_upper_law = lit< tt }

-- The value before 1 is its own root, and 1 is not its root: the gap below 1 is half the gap above. With two equal gaps both would be.
before_one : IsRoot binary64 (fin false 9007199254740991 (negsuc 52)) (fin false 9007199254740991 (negsuc 52))
unfolding count to_bits of_bits
before_one = record { positive_finite = tt; above_lower = lit< tt; below_upper_law = lit< tt }

not_one : IsRoot binary64 (fin false 9007199254740991 (negsuc 52)) (fin false 1 (pos 0)) → ⊥
unfolding count to_bits of_bits
not_one r = not-le_of_lt r.above_lower (le_of_lt (lit< tt))

-- so the function's value is known there too
pub root_two : root binary64 (fin false 1 (pos 1)) ≡ fin false 6369051672525773 (negsuc 51)
unfolding fits
root_two = sym (root_only binary64 (fin false 1 (pos 1)) (fin false 6369051672525773 (negsuc 51)) tt tt two_64)

pub root_smallest : root binary64 (fin false 1 (negsuc 1073)) ≡ fin false 1 (negsuc 536)
unfolding fits
root_smallest = sym (root_only binary64 (fin false 1 (negsuc 1073)) (fin false 1 (negsuc 536)) tt tt smallest)

pub root_largest : root binary64 (fin false 9007199254740991 (pos 971)) ≡ fin false 9007199254740991 (pos 459)
unfolding fits
root_largest = sym (root_only binary64 (fin false 9007199254740991 (pos 971)) (fin false 9007199254740991 (pos 459)) tt tt largest)
