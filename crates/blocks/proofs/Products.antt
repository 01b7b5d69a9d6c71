-- Exact tests of a product, by a quotient: laws over plain numbers.
use mathlib.Core.Path.{◌≡◌, sym, ap, ◌∙◌}
use mathlib.Core.Bool.{true, false}
use Prim.Native.Nat.{ℕ, ◌+◌, ◌*◌, ◌/◌, ◌%◌, ◌≤◌, ◌<◌}
use native.Mathlib.Nat.{zero-mul, mul_comm, pos_of_ne-zero, le-div_iff_mul-le, div-add-mod', mul-mod_right, mul-div_right}
use native.Mathlib.Omega.{arith}
use lib.Dec.{eqb, leb}
use borrow.Author.Tests.{ne_eqb, le-leb}
use Rattle.answer.proofs.Tests.{eqb_both, leb_both}

module _ (a b n : ℕ) where
  pub zero_is : a ≡ 0 → eqb n 0 ≡ eqb (a * b) n
  zero_is e = let z : a * b ≡ 0 = rw e (zero-mul b) in eqb_both n 0 (a * b) n (λ h. omega arith) (λ h. omega arith)

  pub zero_most : a ≡ 0 → true ≡ leb (a * b) n
  zero_most e = let z : a * b ≡ 0 = rw e (zero-mul b) in sym (le-leb (a * b) n (omega arith))

  module _ (p : a ≡ 0 → ⊥) where
    positive : 0 < a
    positive = pos_of_ne-zero p

    pub quotient_most : leb b (n / a) ≡ leb (a * b) n
    quotient_most =
        let c : a * b ≡ b * a = mul_comm a b in
        leb_both b (n / a) (a * b) n (λ h. let q : b * a ≤ n = (le-div_iff_mul-le positive).0 h in omega arith)
        (λ h. (le-div_iff_mul-le positive).1 (omega arith))

    pub uneven_not : (n % a ≡ 0 → ⊥) → false ≡ eqb (a * b) n
    uneven_not u = sym (ne_eqb (a * b) n (λ e. u (ap (λ (x : ℕ). x % a) (sym e) ∙ mul-mod_right a b)))

    pub even_is : n % a ≡ 0 → eqb (n / a) b ≡ eqb (a * b) n
    even_is z = eqb_both (n / a) b (a * b) n (λ e. mul_comm a b ∙ ap (λ (x : ℕ). x * a) (sym e) ∙ whole) (λ e. ap (λ (x : ℕ). x / a) (sym e) ∙ mul-div_right b positive)
      where
        whole : n / a * a ≡ n
        whole = let d : n / a * a + n % a ≡ n = div-add-mod' n a in omega arith
