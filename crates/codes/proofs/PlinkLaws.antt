-- Document 01's decoding and packing equal the PLINK 1.9 format.
use mathlib.Core.Path.{◌≡◌, refl, sym, ap, ◌∙◌}
use mathlib.Core.Bool.{true, false}
use mathlib.Core.List.{List}
use Prim.Native.Nat.{ℕ, zero, suc, ◌+◌, ◌*◌, ◌/◌, ◌%◌, ◌^◌, ◌<◌, ◌≤◌}
use native.Mathlib.Omega.{arith}
use lib.Dec.{eqb}
use lib.ListN.{length, get_or, get_or-eq_default}
use Rattle.blocks.specs.Block.{block_width}
use Rattle.codes.specs.Code.{code_at, item_code, copies, packed}
use Rattle.codes.specs.Value.{Width, value_of}
use Rattle.codes.specs.Plink.{Genotype, genotype_of, block_bit, genotype_at, plink_width, copies_of_first, copies_of_second, copies_value}
use Rattle.codes.proofs.CodeLaws.{Codes, packed_code, packed_length, item_below}
use Rattle.blocks.proofs.Widths.{width_none, width_some}

-- the genotype that a code names
by_code : ℕ → Genotype
by_code c = genotype_of (eqb (c / 2 % 2) 1) (eqb (c % 2) 1)

-- the two bits of an item are those of its code
two_bits : (b p : ℕ) → p < 4 → genotype_of (eqb (b / 2 ^ (2 * p + 1) % 2) 1) (eqb (b / 2 ^ (2 * p) % 2) 1) ≡ by_code (code_at b p)
unfolding by_code code_at
two_bits b p h = ap (λ (k : ℕ). genotype_of (eqb k 1) (eqb (b / 2 ^ (2 * p) % 2) 1)) (high p h) ∙ ap (λ (k : ℕ). genotype_of (eqb (b / 2 ^ (2 * p) % 4 / 2 % 2) 1) (eqb k 1)) (low (b / 2 ^ (2 * p)))
  where
    low : (q : ℕ) → q % 2 ≡ q % 4 % 2
    low q = omega arith

    half : (q : ℕ) → q / 2 % 2 ≡ q % 4 / 2 % 2
    half q = omega arith

    high : (p : ℕ) → p < 4 → b / 2 ^ (2 * p + 1) % 2 ≡ b / 2 ^ (2 * p) % 4 / 2 % 2
    high zero g = let e : b / 2 ≡ b / 1 / 2 = omega arith in ap (λ (k : ℕ). k % 2) e ∙ half (b / 1)
    high (suc zero) g = let e : b / 8 ≡ b / 4 / 2 = omega arith in ap (λ (k : ℕ). k % 2) e ∙ half (b / 4)
    high (suc (suc zero)) g = let e : b / 32 ≡ b / 16 / 2 = omega arith in ap (λ (k : ℕ). k % 2) e ∙ half (b / 16)
    high (suc (suc (suc zero))) g = let e : b / 128 ≡ b / 64 / 2 = omega arith in ap (λ (k : ℕ). k % 2) e ∙ half (b / 64)
    high (suc (suc (suc (suc n)))) g = absurd (omega arith)

-- the genotype of a sample is the one that its code names
genotype_code : (block : List ℕ) (i : ℕ) → genotype_at block i ≡ by_code (item_code block i)
unfolding genotype_at block_bit item_code
genotype_code block i =
    let a : (2 * i + 1) / 8 ≡ i / 4 = omega arith in
    let b : (2 * i) / 8 ≡ i / 4 = omega arith in
    let c : (2 * i + 1) % 8 ≡ 2 * (i % 4) + 1 = omega arith in
    let d : (2 * i) % 8 ≡ 2 * (i % 4) = omega arith in
    rw (a, b, c, d) (two_bits (get_or block (i / 4) 0) (i % 4) (omega arith))

-- what each code names
first_by_code : (c : ℕ) → c < 4 → copies_of_first (by_code c) ≡ copies c
unfolding by_code copies_of_first genotype_of copies
first_by_code zero h = refl
first_by_code (suc zero) h = refl
first_by_code (suc (suc zero)) h = refl
first_by_code (suc (suc (suc zero))) h = refl
first_by_code (suc (suc (suc (suc c)))) h = absurd (omega arith)

-- Decoding: the copies of the first allele that document 01's code of an item says are those of PLINK's genotype of the sample.
pub decoding_is_plink : (block : List ℕ) (i : ℕ) → copies (item_code block i) ≡ copies_of_first (genotype_at block i)
decoding_is_plink block i = sym (first_by_code (item_code block i) (item_below block i)) ∙ ap copies_of_first (sym (genotype_code block i))

-- The values: copies of the first allele with the flag, and of the second without.
module _ {V : Type 0} (w : Width V) (missing : V) where
  counted_by_code : (c : ℕ) → c < 4 → value_of w true missing c ≡ copies_value w missing (copies_of_first (by_code c))
  unfolding value_of by_code copies_of_first genotype_of copies_value
  counted_by_code zero h = refl
  counted_by_code (suc zero) h = refl
  counted_by_code (suc (suc zero)) h = refl
  counted_by_code (suc (suc (suc zero))) h = refl
  counted_by_code (suc (suc (suc (suc c)))) h = absurd (omega arith)

  other_by_code : (c : ℕ) → c < 4 → value_of w false missing c ≡ copies_value w missing (copies_of_second (by_code c))
  unfolding value_of by_code copies_of_second genotype_of copies_value
  other_by_code zero h = refl
  other_by_code (suc zero) h = refl
  other_by_code (suc (suc zero)) h = refl
  other_by_code (suc (suc (suc zero))) h = refl
  other_by_code (suc (suc (suc (suc c)))) h = absurd (omega arith)

  module _ (block : List ℕ) (i : ℕ) where
    pub counted_is_plink : value_of w true missing (item_code block i) ≡ copies_value w missing (copies_of_first (genotype_at block i))
    counted_is_plink =
        counted_by_code (item_code block i) (item_below block i)
        ∙ ap (λ (g : Genotype). copies_value w missing (copies_of_first g)) (sym (genotype_code block i))

    pub other_is_plink : value_of w false missing (item_code block i) ≡ copies_value w missing (copies_of_second (genotype_at block i))
    other_is_plink =
        other_by_code (item_code block i) (item_below block i)
        ∙ ap (λ (g : Genotype). copies_value w missing (copies_of_second g)) (sym (genotype_code block i))

-- A block is as wide as PLINK's: N/4 bytes, rounded up.
pub width_is_plink : (n : ℕ) → block_width n ≡ plink_width n
unfolding plink_width
width_is_plink zero = width_none 0 refl
width_is_plink (suc n) = width_some (suc n) (λ e. omega arith) ∙ omega arith

-- Packing: PLINK reads each code back, and the block has PLINK's width.
pub packing_is_plink : (codes : List ℕ) → Codes codes → (i : ℕ) → copies_of_first (genotype_at (packed codes) i) ≡ copies (get_or codes i 0)
packing_is_plink codes all i = sym (decoding_is_plink (packed codes) i) ∙ ap copies (packed_code codes all i)

pub packed_is_wide : (codes : List ℕ) → length (packed codes) ≡ plink_width (length codes)
packed_is_wide codes = packed_length codes ∙ width_is_plink (length codes)

-- "the extra high-order bits in the last byte of each block are always zero": every bit past the last sample's two
no_bit : (b e : ℕ) → e < 8 → code_at b (e / 2) ≡ 0 → b / 2 ^ e % 2 ≡ 0
unfolding code_at
no_bit b zero h z = low (b / 1) z
  where
    low : (q : ℕ) → q % 4 ≡ 0 → q % 2 ≡ 0
    low q g = omega arith
no_bit b (suc zero) h z = let e : b / 2 ≡ b / 1 / 2 = omega arith in omega arith
no_bit b (suc (suc zero)) h z = omega arith
no_bit b (suc (suc (suc zero))) h z = let e : b / 8 ≡ b / 4 / 2 = omega arith in omega arith
no_bit b (suc (suc (suc (suc zero)))) h z = omega arith
no_bit b (suc (suc (suc (suc (suc zero))))) h z = let e : b / 32 ≡ b / 16 / 2 = omega arith in omega arith
no_bit b (suc (suc (suc (suc (suc (suc zero)))))) h z = omega arith
no_bit b (suc (suc (suc (suc (suc (suc (suc zero))))))) h z = let e : b / 128 ≡ b / 64 / 2 = omega arith in omega arith
no_bit b (suc (suc (suc (suc (suc (suc (suc (suc e)))))))) h z = absurd (omega arith)

pub pads_are_zero : (codes : List ℕ) → Codes codes → (k : ℕ) → 2 * length codes ≤ k → block_bit (packed codes) k ≡ false
unfolding block_bit item_code
pads_are_zero codes all k h =
    let i : k / 2 / 4 ≡ k / 8 = omega arith in
    let p : k / 2 % 4 ≡ k % 8 / 2 = omega arith in
    let code : item_code (packed codes) (k / 2) ≡ 0 = packed_code codes all (k / 2) ∙ get_or-eq_default codes 0 (omega arith) in
    let at : code_at (get_or (packed codes) (k / 8) 0) (k % 8 / 2) ≡ 0 =
    ap (code_at (get_or (packed codes) (k / 8) 0)) (sym p) ∙ ap (λ (n : ℕ). code_at (get_or (packed codes) n 0) (k / 2 % 4)) (sym i) ∙ code
    in
    ap (λ (n : ℕ). eqb n 1) (no_bit (get_or (packed codes) (k / 8) 0) (k % 8) (omega arith) at)
