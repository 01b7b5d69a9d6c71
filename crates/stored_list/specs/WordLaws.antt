-- The word of what a word stands for stands for the same.
use Rattle.std.proofs.Common.{◌≡◌, ℕ, ◌%◌, ◌^◌, ◌<◌, Bool, true, false, cond, eqb, refl, ap, ◌∙◌, arith, w8, w64, of_z, to_z}
use lib.Ieee.{binary64, of_bits, to_bits}
use lib.Ieee.Bits.{of_bits-to_bits, of_bits-fits}
use mir.ValLaws.{of_z-to_z}

pub bool_kept : (bits : ℕ) → eqb (cond (eqb bits 1) 1 0) 1 ≡ eqb bits 1
bool_kept bits = by_test (eqb bits 1)
  where
    by_test : (b : Bool) → eqb (cond b 1 0) 1 ≡ b
    by_test true = refl
    by_test false = refl

pub byte_kept : (bits : ℕ) → bits % 256 % 256 ≡ bits % 256
byte_kept bits = omega arith

pub i64_kept : (bits : ℕ) → bits < 2 ^ 64 → to_z w64 (of_z w64 (to_z w64 bits)) ≡ to_z w64 bits
i64_kept bits h = ap (to_z w64) (of_z-to_z w64 bits (record { fits = h }))

pub i8_kept : (bits : ℕ) → to_z w8 (of_z w8 (to_z w8 (bits % 256)) % 256) ≡ to_z w8 (bits % 256)
i8_kept bits = ap (to_z w8) (ap (λ (n : ℕ). n % 256) (of_z-to_z w8 (bits % 256) (record { fits = omega arith })) ∙ byte_kept bits)

pub f64_kept : (bits : ℕ) → of_bits binary64 (to_bits binary64 (of_bits binary64 bits)) ≡ of_bits binary64 bits
f64_kept bits = of_bits-to_bits binary64 (of_bits binary64 bits) (of_bits-fits binary64 bits)
