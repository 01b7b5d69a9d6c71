-- What only private functions speak in.
use Rattle.std.specs.Prelude.{◌≡◌, List, [], ◌∷◌, ℕ, zero, suc, ◌+◌, ◌*◌, ◌/◌, ◌%◌, ◌<◌, ◌≤◌, ℤ, pos, length, get_or}
use Rattle.answer.specs.Lists.{tabulate, how_many}
use Rattle.entries.specs.Entry.{means}
use Rattle.codes.specs.Code.{copies, code_at}
use Rattle.calls.specs.declared.Part.{Part}
use Rattle.calls.specs.declared.parts.Parts.{Parts}
use Rattle.call_counts.specs.declared.bits.BitCounts.{BitCounts}
use Rattle.call_counts.specs.Counts.{same_copies, code_named, counted}

-- ---- a number of each code, added up
-- the sum of h over n codes
unfoldable pub total : (ℕ → ℕ) → (ℕ → ℕ) → ℕ → ℕ
total h code zero = 0
total h code (suc n) = total h code n + h (code n)

-- over n items of the block that starts at a byte
abbrev pub total_items : (ℕ → ℕ) → List ℕ → ℕ → ℕ → ℕ
total_items h file start n = total h (λ i. code_at (get_or file (start + i / 4) 0) (i % 4)) n

-- over the four codes of a byte
unfoldable pub in_byte : (ℕ → ℕ) → ℕ → ℕ
in_byte h byte = h (code_at byte 0) + h (code_at byte 1) + h (code_at byte 2) + h (code_at byte 3)

-- the byte that has h of each code in the place of the code
abbrev pub placed : (ℕ → ℕ) → ℕ → ℕ
placed h byte = h (code_at byte 0) + 4 * h (code_at byte 1) + 16 * h (code_at byte 2) + 64 * h (code_at byte 3)

-- ---- tallies: the four counts of up to 65,535 codes in one number, 16 bits each, in the order of a marker's places
-- the weight of a code
unfoldable pub weight : ℕ → ℕ
weight zero = 4294967296
weight (suc zero) = 281474976710656
weight (suc (suc zero)) = 65536
weight (suc (suc (suc n))) = 1

-- the tally of n codes: the sum of their weights
abbrev pub tally : (ℕ → ℕ) → ℕ → ℕ
tally = total weight

-- the tally of n entries of the animal list, from `from` on, at marker m
abbrev pub tally_named : List ℕ → ℕ → ℕ → List ℤ → ℕ → ℕ → ℕ → ℕ
tally_named file iids sids iid_list m from n = tally (λ k. code_named file iids sids iid_list m (from + k)) n

-- the weights of the four codes
abbrev pub code_weights : List ℕ
code_weights = weight 0 ∷ weight 1 ∷ weight 2 ∷ weight 3 ∷ []

-- the tally of n resolved entries
abbrev pub tally_parts : List ℕ → Part → Parts → ℕ → ℕ
tally_parts file part parts n = tally (λ k. code_at (get_or file (part.byte + get_or parts.bytes k 0) 0) (part.place + get_or parts.places k 0)) n

-- the tally of n items of the block that starts at a byte
abbrev pub tally_items : List ℕ → ℕ → ℕ → ℕ
tally_items = total_items weight

-- the table of the tallies of every byte
unfoldable pub byte_tallies : List ℕ
byte_tallies = tabulate 256 (in_byte weight)

-- ---- the two bits of a code
-- the low one, the high one, and whether both are 1
unfoldable pub low_bit : ℕ → ℕ
low_bit zero = 0
low_bit (suc zero) = 1
low_bit (suc (suc zero)) = 0
low_bit (suc (suc (suc n))) = 1

unfoldable pub high_bit : ℕ → ℕ
high_bit zero = 0
high_bit (suc zero) = 0
high_bit (suc (suc n)) = 1

unfoldable pub both_bits : ℕ → ℕ
both_bits zero = 0
both_bits (suc zero) = 0
both_bits (suc (suc zero)) = 0
both_bits (suc (suc (suc n))) = 1

-- how many of n items of the block that starts at a byte have each
pub record BitsCounted (file : List ℕ) (start n : ℕ) (bits : BitCounts) : Type 0 where
  pub low_is : bits.low ≡ total_items low_bit file start n
  pub high_is : bits.high ≡ total_items high_bit file start n
  pub both_is : bits.both ≡ total_items both_bits file start n

-- of n codes those with both bits have each, and the others at most one
abbrev pub Ordered : ℕ → BitCounts → Type 0
Ordered n bits = (bits.both ≤ bits.low) × (bits.both ≤ bits.high) × (bits.low + bits.high ≤ n + bits.both)

-- the bits of two lists of codes
abbrev pub bits_sum : BitCounts → BitCounts → BitCounts
bits_sum a b = record { low = a.low + b.low; high = a.high + b.high; both = a.both + b.both }

-- t is the tally of n codes of which so many have each: code 1 has the low bit alone, code 2 the high one alone, code 3 both, code 0 neither
abbrev pub TallyOf : ℕ → BitCounts → ℕ → Type 0
TallyOf n bits t =
    t + weight 0 * (bits.low + bits.high) + (weight 1 + weight 2) * bits.both
    ≡ weight 0 * (n + bits.both) + weight 1 * bits.low + weight 2 * bits.high + weight 3 * bits.both

-- count j of a tally
unfoldable pub in_tally : ℕ → ℕ → ℕ
in_tally packed zero = packed % 65536
in_tally packed (suc zero) = packed / 65536 % 65536
in_tally packed (suc (suc zero)) = packed / 4294967296 % 65536
in_tally packed (suc (suc (suc j))) = packed / 281474976710656

-- a tally added to the four counts from place `at` on
pub record Added (old : List ℕ) (at packed : ℕ) (new : List ℕ) : Type 0 where
  pub long : length new ≡ length old
  pub before_same : (p : ℕ) → p < at → get_or new p 0 ≡ get_or old p 0
  pub there : (j : ℕ) → j < 4 → get_or new (at + j) 0 ≡ get_or old (at + j) 0 + in_tally packed j
  pub after_same : (p : ℕ) → at + 4 ≤ p → get_or new p 0 ≡ get_or old p 0

-- ---- the counts so far
-- what belongs at place p of the counts over the first n entries of the animal list
unfoldable pub count_at : List ℕ → ℕ → ℕ → List ℤ → List ℤ → ℕ → ℕ → ℕ
count_at file iids sids iid_list sid_list n p =
    how_many n (λ k. same_copies (counted (p % 4)) (copies (code_named file iids sids iid_list (means sids (get_or sid_list (p / 4) (pos 0))) k)))

-- the counts over the first n entries: g n p at place p
pub record CountedTo (g : ℕ → ℕ → ℕ) (size n : ℕ) (counts : List ℕ) : Type 0 where
  pub long : length counts ≡ size
  pub holds : (p : ℕ) → p < size → get_or counts p 0 ≡ g n p
