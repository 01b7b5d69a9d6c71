-- The .bed file of the PLINK 1.9 format reference, in its own terms: whole, by the place of every bit. The reference's words stand in
-- quotation marks; its genotypes and the bits of a list of bytes are those of genotype's Plink. Samples and variants count from 0.
use Rattle.std.specs.Prelude.{◌≡◌, Bool, true, false, List, [], ◌∷◌, ℕ, ◌+◌, ◌*◌, ◌<◌, ◌≤◌, length, take}
use Rattle.std.specs.Prelude.{Option, Some}
use Rattle.codes.specs.Plink.{Genotype, missing, genotype_of, block_bit, plink_width, copies_of_first, copies_of_second}
use Rattle.codes.specs.Value.{Width}

-- "The first three bytes should be 0x6c, 0x1b, and 0x01 in that order."
-- "The rest of the file is a sequence of V blocks of N/4 (rounded up) bytes each, where V is the number of variants and N is the number
-- of samples."
pub record IsPlinkFile (file : List ℕ) (samples variants : ℕ) : Type 0 where
  pub first_three : take 3 file ≡ 0x6C ∷ 0x1B ∷ 0x01 ∷ []
  pub the_rest : length file ≡ 3 + variants * plink_width samples

-- "The first block corresponds to the first marker in the .bim file, etc.": bit k of the block of variant v, by its place in the file
unfoldable pub variant_bit : List ℕ → ℕ → ℕ → ℕ → Bool
variant_bit file samples v k = block_bit file (8 * (3 + v * plink_width samples) + k)

-- "The low-order two bits of a block's first byte store the first sample's genotype code. The next two bits store the second sample's
-- genotype code, and so on": the genotype at variant v of sample i
unfoldable pub genotype_in : List ℕ → ℕ → ℕ → ℕ → Genotype
genotype_in file samples v i = genotype_of (variant_bit file samples v (2 * i + 1)) (variant_bit file samples v (2 * i))

-- "If N is not divisible by four, the extra high-order bits in the last byte of each block are always zero."
pub record ExtraBitsZero (file : List ℕ) (samples variants : ℕ) : Type 0 where
  pub is_zero : (v k : ℕ) → v < variants → 2 * samples ≤ k → k < 8 * plink_width samples → variant_bit file samples v k ≡ false

-- ---- genotypes and document 01's values
-- the copies that are counted: of the first allele with the flag `is_a1_counted`, of the second without
unfoldable pub copies_by : Bool → Genotype → Option ℕ
copies_by true g = copies_of_first g
copies_by false g = copies_of_second g

-- no value of a width is two of its numbers 0, 1, 2
pub record Apart {V : Type 0} (w : Width V) : Type 0 where
  pub one_zero : (v : V) → w.same v w.one ≡ true → w.same v w.zero ≡ false
  pub two_zero : (v : V) → w.same v w.two ≡ true → w.same v w.zero ≡ false
  pub two_one : (v : V) → w.same v w.two ≡ true → w.same v w.one ≡ false

-- a value stands in a genotype: as many copies as it is by number ("−0.0 is 0"), and missing if it is none of 0, 1, 2
pub record StandsIn {V : Type 0} (w : Width V) (flag : Bool) (value : V) (g : Genotype) : Type 0 where
  pub zero_copies : w.same value w.zero ≡ true → copies_by flag g ≡ Some 0
  pub one_copy : w.same value w.one ≡ true → copies_by flag g ≡ Some 1
  pub two_copies : w.same value w.two ≡ true → copies_by flag g ≡ Some 2
  pub is_missing_law : w.same value w.zero ≡ false → w.same value w.one ≡ false → w.same value w.two ≡ false → g ≡ missing
