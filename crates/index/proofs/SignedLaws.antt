-- Signed numbers of 64 bits: laws over a number e and what the machine reads back from its bits, z.
use Rattle.std.proofs.Common.{◌≡◌, ℕ, ◌-◌, true, false, ℤ, pos, refl, arith, sym, ap, ◌∙◌}
use borrow.Author.Tests.{ltb-true}
use lib.IntN.{negsuc, nat_abs}
use lib.Signed.{lt_z}
use mir.Syntax.{w64}
use mir.Val.{SFits, to_z, of_z}
use mir.Facts.{to_z-of_z}
use Rattle.index.specs.Numbers.{from_count}

below : (e : ℤ) → lt_z e (pos 0) ≡ true → (count : ℕ) → count - nat_abs e ≡ from_count count e
unfolding from_count
below (negsuc k) t count = refl
below (pos n) t count = absurd (omega (arith, ltb-true n 0 t))

above : (e : ℤ) → lt_z e (pos 0) ≡ false → (count : ℕ) → nat_abs e ≡ from_count count e
unfolding from_count
above (pos n) t count = refl
above (negsuc k) t count = absurd (let g : ◌≡◌ {A = ℕ} 0 1 = cc in omega arith)

module _ {e : ℤ} (f : SFits w64 e) {n : ℕ} (q : n ≡ nat_abs (to_z w64 (of_z w64 e))) where
  -- what a callee says of the bits it says of the number
  pub of_bits : n ≡ nat_abs e
  of_bits = q ∙ ap nat_abs (to_z-of_z f)

  pub counts_back : (count : ℕ) → lt_z (to_z w64 (of_z w64 e)) (pos 0) ≡ true → count - n ≡ from_count count e
  counts_back count t = ap (λ (m : ℕ). count - m) of_bits ∙ below e (ap (λ (z : ℤ). lt_z z (pos 0)) (sym (to_z-of_z f)) ∙ t) count

  pub counts_on : (count : ℕ) → lt_z (to_z w64 (of_z w64 e)) (pos 0) ≡ false → n ≡ from_count count e
  counts_on count t = of_bits ∙ above e (ap (λ (z : ℤ). lt_z z (pos 0)) (sym (to_z-of_z f)) ∙ t) count
