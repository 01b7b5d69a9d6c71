-- Laws of the number that bytes make, and of the float that a number makes.
use mathlib.Core.Path.{◌≡◌, refl, sym, ap, ◌∙◌, subst}
use mathlib.Core.Bool.{Bool, not}
use mathlib.Core.List.{List}
use Prim.Native.Nat.{ℕ, suc, ◌+◌, ◌*◌, ◌%◌, ◌≤◌, ◌<◌}
use native.Mathlib.Numerals.{add-one}
use native.Mathlib.Omega.{arith}
use lib.ListN.{length, take, drop, get_or}
use lib.Seq.{drop-cons}
use lib.Dec.{T}
use lib.Ieee.{Format, ones, hid, top, nan_bits, of_bits, binary64}
use lib.Ieee.Bits.{nan_bits_above}
use borrow.Author.Tests.{le-ltb}
use Rattle.product.specs.Values.{le_number, float_at}
use Rattle.product.specs.Private.{NoNan}

-- the number of a byte and those after it
pub first_byte : (l : List ℕ) (at next n : ℕ) → at < length l → next ≡ at + 1 → le_number (take (suc n) (drop at l)) ≡ get_or l at 0 + 256 * le_number (take n (drop next l))
unfolding le_number
first_byte l at next n h e =
    ap (λ (k : List ℕ). le_number (take (suc n) k)) (drop-cons l at 0 h) ∙ ap (λ (k : ℕ). get_or l at 0 + 256 * le_number (take n (drop k l))) (sym (e ∙ add-one at))

-- the number of eight bytes
pub eight_bytes : (l : List ℕ) (at : ℕ) → at + 8 ≤ length l
    → le_number (take 8 (drop at l))
    ≡ get_or l at 0 + get_or l (at + 1) 0 * 256 + get_or l (at + 2) 0 * 65536 + get_or l (at + 3) 0 * 16777216 + get_or l (at + 4) 0 * 4294967296
    + get_or l (at + 5) 0 * 1099511627776 + get_or l (at + 6) 0 * 281474976710656 + get_or l (at + 7) 0 * 72057594037927936
unfolding le_number
eight_bytes l at h = omega (arith, first_byte l at (at + 1) 7 (omega arith) refl, first_byte l (at + 1) (at + 2) 6 (omega arith) (omega arith), first_byte l (at + 2) (at + 3) 5 (omega arith) (omega arith), first_byte l (at + 3) (at + 4) 4 (omega arith) (omega arith), first_byte l (at + 4) (at + 5) 3 (omega arith) (omega arith), first_byte l (at + 5) (at + 6) 2 (omega arith) (omega arith), first_byte l (at + 6) (at + 7) 1 (omega arith) (omega arith), first_byte l (at + 7) (at + 8) 0 (omega arith) (omega arith))

-- a number that is not above infinity's pattern, its sign left out, is no NaN's
pub pattern_number : (f : Format) (n : ℕ) → n % top f ≤ ones f * hid f → T (not (nan_bits f n))
pattern_number f n h = subst (λ (b : Bool). T (not b)) (sym (nan_bits_above f n ∙ le-ltb (ones f * hid f) (n % top f) h)) tt

pub number_of :
    (bytes : List ℕ) (at j bits n : ℕ) → bits ≡ le_number (take 8 (drop (at + 8 * j) bytes)) → NoNan bytes at n → j < n → T (not (nan_bits binary64 bits))
number_of bytes at j bits n e h b = pattern_number binary64 bits (subst (λ (x : ℕ). x % 9223372036854775808 ≤ 9218868437227405312) (sym e) (h j b))

pub float_of : (bytes : List ℕ) (at bits : ℕ) → bits ≡ le_number (take 8 (drop at bytes)) → of_bits binary64 bits ≡ float_at bytes at
unfolding float_at
float_of bytes at bits e = ap (of_bits binary64) e
