-- The .bed block of the PLINK 1.9 format reference, in its own terms.
use Rattle.std.specs.Prelude.{Bool, true, false, List, ℕ, zero, suc, ◌+◌, ◌*◌, ◌/◌, ◌%◌, ◌^◌, eqb, get_or}
use Rattle.std.specs.Prelude.{Option, Some, None}
use Rattle.codes.specs.Value.{Width}

pub data Genotype : Type 0 where
  homozygous_first missing heterozygous homozygous_second : Genotype

-- 00 homozygous for the first allele, 01 missing, 10 heterozygous, 11 homozygous for the second: the high bit is written first
unfoldable pub genotype_of : Bool → Bool → Genotype
genotype_of false false = homozygous_first
genotype_of false true = missing
genotype_of true false = heterozygous
genotype_of true true = homozygous_second

-- bit k of a block, the low-order bits of its first byte first
unfoldable pub block_bit : List ℕ → ℕ → Bool
block_bit block k = eqb (get_or block (k / 8) 0 / 2 ^ (k % 8) % 2) 1

-- "The low-order two bits of a block's first byte store the first sample's genotype code. The next two bits store the second
-- sample's genotype code, and so on": the genotype of sample i, from 0
unfoldable pub genotype_at : List ℕ → ℕ → Genotype
genotype_at block i = genotype_of (block_bit block (2 * i + 1)) (block_bit block (2 * i))

-- a block for N samples has N/4 bytes, rounded up
unfoldable pub plink_width : ℕ → ℕ
plink_width samples = (samples + 3) / 4

-- how many copies of the first allele a genotype has, and of the second, if it is not missing
unfoldable pub copies_of_first : Genotype → Option ℕ
copies_of_first homozygous_first = Some 2
copies_of_first missing = None
copies_of_first heterozygous = Some 1
copies_of_first homozygous_second = Some 0

unfoldable pub copies_of_second : Genotype → Option ℕ
copies_of_second homozygous_first = Some 0
copies_of_second missing = None
copies_of_second heterozygous = Some 1
copies_of_second homozygous_second = Some 2

-- a number of copies as a value, and `missing` where there is none
unfoldable pub copies_value : {V : Type 0} (w : Width V) → V → Option ℕ → V
copies_value w absent None = absent
copies_value w absent (Some zero) = w.zero
copies_value w absent (Some (suc zero)) = w.one
copies_value w absent (Some (suc (suc n))) = w.two
