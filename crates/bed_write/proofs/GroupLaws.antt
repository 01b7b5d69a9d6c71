-- Laws of a group of four codes that share a byte.
use mathlib.Core.Path.{◌≡◌, sym, ap, subst, ◌∙◌}
use mathlib.Core.List.{List}
use Rattle.std.specs.Prelude.{Option}
use Prim.Native.Nat.{ℕ, ◌+◌, ◌-◌, ◌*◌, ◌<◌, ◌≤◌}
use native.Mathlib.Nat.{add-zero}
use native.Mathlib.Omega.{arith}
use borrow.Author.Tests.{lt-ltb, le-ltb}
use lib.ListN.{get_or, get_or-eq_default}
use Rattle.codes.proofs.CodeLaws.{codes_byte}
use Rattle.codes.specs.Code.{group_byte, packed_byte}
use Rattle.answer.specs.Lists.{tabulate}
use Rattle.answer.proofs.Tests.{by_lt}
use Rattle.answer.proofs.Tabulate.{length_tabulate, get_d_tabulate}
use Rattle.bed_write.specs.Packing.{or_zero}
use Rattle.bed_write.specs.Groups.{or_four, in_group, Four}
use Rattle.bed_write.proofs.FirstLaws.{zero_four}

-- ---- what a group holds
pub held_there : (left : ℕ) (number : ℕ → ℕ) (k : ℕ) → k < left → number k ≡ in_group left number k
unfolding in_group
held_there left number k h = simp (lt-ltb k left h)

pub held_pad : (left : ℕ) (number : ℕ → ℕ) (k : ℕ) → left ≤ k → 0 ≡ in_group left number k
unfolding in_group
held_pad left number k h = simp (le-ltb k left h)

-- a group of four full places, whatever comes after it
pub full_group : (left : ℕ) (number : ℕ → ℕ) (c0 c1 c2 c3 : ℕ) → 4 ≤ left → Four (in_group 4 number) c0 c1 c2 c3 → Four (in_group left number) c0 c1 c2 c3
full_group left number c0 c1 c2 c3 h q =
    record { at_0 = q.at_0 ∙ same 0 (omega arith); at_1 = q.at_1 ∙ same 1 (omega arith); at_2 = q.at_2 ∙ same 2 (omega arith); at_3 = q.at_3 ∙ same 3 (omega arith) }
  where
    same : (k : ℕ) → k < 4 → in_group 4 number k ≡ in_group left number k
    same k g = sym (held_there 4 number k g) ∙ held_there left number k (omega arith)

-- the group of animals 4 × b and the next three of n: `code` has the code of each animal, `number` the number of the group's places
module _ (n : ℕ) (code : ℕ → Option ℕ) (b : ℕ) (number : ℕ → ℕ) (same : (k : ℕ) → k < 4 → k < n - 4 * b → number k ≡ or_four (code (4 * b + k))) where
  abbrev codes : List ℕ
  codes = tabulate n (λ a. or_zero (code a))

  packed_there : (k : ℕ) → k < 4 → in_group (n - 4 * b) number k < 4 → in_group (n - 4 * b) number k ≡ get_or codes (4 * b + k) 0
  packed_there k g h = by_lt k (n - 4 * b) inside outside
    where
      inside : k < n - 4 * b → in_group (n - 4 * b) number k ≡ get_or codes (4 * b + k) 0
      inside l =
          let e : in_group (n - 4 * b) number k ≡ or_four (code (4 * b + k)) = sym (held_there (n - 4 * b) number k l) ∙ same k g l in
          e
          ∙ zero_four (code (4 * b + k)) (subst (λ (x : ℕ). x < 4) e h)
          ∙ sym (get_d_tabulate n (λ a. or_zero (code a)) (4 * b + k) 0 (omega arith))

      outside : n - 4 * b ≤ k → in_group (n - 4 * b) number k ≡ get_or codes (4 * b + k) 0
      outside l =
          let s = length_tabulate n (λ a. or_zero (code a)) in
          sym (held_pad (n - 4 * b) number k l) ∙ sym (get_or-eq_default codes 0 (omega arith))

  module _ (c0 c1 c2 c3 : ℕ) (q : Four (in_group (n - 4 * b) number) c0 c1 c2 c3) where
    -- four codes make their byte of the packed block
    pub group_byte_law : (v : ℕ) → v ≡ group_byte c0 c1 c2 c3 → (c0 < 4) × (c1 < 4) × (c2 < 4) × (c3 < 4) → v ≡ packed_byte codes b
    unfolding packed_byte
    group_byte_law v e (h0, h1, h2, h3) =
        let eb = codes_byte c0 c1 c2 c3 (h0, h1, h2, h3) in
        let e0 : c0 ≡ get_or codes (4 * b) 0 = q.at_0 ∙ packed_there 0 (omega arith) (subst (λ (x : ℕ). x < 4) q.at_0 h0) ∙ ap (λ (k : ℕ). get_or codes k 0) (add-zero (4 * b)) in
        let e1 : c1 ≡ get_or codes (4 * b + 1) 0 = q.at_1 ∙ packed_there 1 (omega arith) (subst (λ (x : ℕ). x < 4) q.at_1 h1) in
        let e2 : c2 ≡ get_or codes (4 * b + 2) 0 = q.at_2 ∙ packed_there 2 (omega arith) (subst (λ (x : ℕ). x < 4) q.at_2 h2) in
        let e3 : c3 ≡ get_or codes (4 * b + 3) 0 = q.at_3 ∙ packed_there 3 (omega arith) (subst (λ (x : ℕ). x < 4) q.at_3 h3) in
        omega arith

    -- where every animal is good, the four are codes
    pub good_four : ((k : ℕ) → 4 * b + k < n → or_four (code (4 * b + k)) < 4) → (c0 < 4) × (c1 < 4) × (c2 < 4) × (c3 < 4)
    good_four g = (small 0 c0 (omega arith) q.at_0, small 1 c1 (omega arith) q.at_1, small 2 c2 (omega arith) q.at_2, small 3 c3 (omega arith) q.at_3)
      where
        small : (k c : ℕ) → k < 4 → c ≡ in_group (n - 4 * b) number k → c < 4
        small k c b4 e =
            by_lt k (n - 4 * b)
            (λ l. subst (λ (x : ℕ). x < 4) (sym (e ∙ sym (held_there (n - 4 * b) number k l) ∙ same k b4 l)) (g k (omega arith)))
            (λ l. let z = held_pad (n - 4 * b) number k l in omega arith)
