-- "A lamb and a ram oppose at a marker when one call is 0 and the other 2.": the same by codes, by copies of the first allele, and by values under either
-- flag.
use mathlib.Core.Path.{◌≡◌, refl, ◌∙◌}
use mathlib.Core.Bool.{Bool, true, false, ◌&&◌, cond, and_comm, or_comm}
use mathlib.Core.Logic.{◌↔◌, ◌⊎◌, inl, inr}
use Rattle.std.specs.Prelude.{Some, None}
use Prim.Native.Nat.{ℕ, zero, suc, ◌<◌}
use native.Mathlib.Omega.{arith}
use lib.Dec.{eqb}
use lib.Ieee.{eq}
use borrow.Author.Tests.{eqb-false}
use Rattle.codes.specs.Code.{copies}
use Rattle.codes.specs.Value.{Width, i8, float, values, value_of, same_int}
use Rattle.codes.proofs.ValueLaws.{Numbers}
use Rattle.sire.specs.Sire.{opposing, opposing_values}

-- one of four codes
data Code : ℕ → Type 0 where
  c0 : Code 0
  c1 : Code 1
  c2 : Code 2
  c3 : Code 3

code_of_law : (c : ℕ) → c < 4 → Code c
code_of_law zero h = c0
code_of_law (suc zero) h = c1
code_of_law (suc (suc zero)) h = c2
code_of_law (suc (suc (suc zero))) h = c3
code_of_law (suc (suc (suc (suc n)))) h = absurd (omega arith)

never : {A : Type 0} → false ≡ true → A
never e = absurd (let z : ◌≡◌ {A = ℕ} 0 1 = cc in omega arith)

other : {A : Type 0} {m n : ℕ} → eqb m n ≡ false → Some m ≡ Some n → A
other {m = m} {n = n} e q = absurd (eqb-false m n e (let r : m ≡ n = cc in r))

absent : {A : Type 0} {n : ℕ} → None ≡ Some n → A
absent e = absurd (let z : ◌≡◌ {A = ℕ} 0 1 = cc in omega arith)

-- ---- by copies
then_copies : {c d : ℕ} → Code c → Code d → opposing c d ≡ true → ((copies c ≡ Some 0) × (copies d ≡ Some 2)) ⊎ ((copies c ≡ Some 2) × (copies d ≡ Some 0))
unfolding opposing copies
then_copies c0 c0 e = never e
then_copies c0 c1 e = never e
then_copies c0 c2 e = never e
then_copies c0 c3 e = inr (refl, refl)
then_copies c1 d e = never e
then_copies c2 d e = never e
then_copies c3 c0 e = inl (refl, refl)
then_copies c3 c1 e = never e
then_copies c3 c2 e = never e
then_copies c3 c3 e = never e

no_copy : {c : ℕ} → Code c → copies c ≡ Some 0 → c ≡ 3
unfolding copies
no_copy c0 e = other refl e
no_copy c1 e = absent e
no_copy c2 e = other refl e
no_copy c3 e = refl

two_copies : {c : ℕ} → Code c → copies c ≡ Some 2 → c ≡ 0
unfolding copies
two_copies c0 e = refl
two_copies c1 e = absent e
two_copies c2 e = other refl e
two_copies c3 e = other refl e

if_copies : {c d : ℕ} → Code c → Code d → ((copies c ≡ Some 0) × (copies d ≡ Some 2)) ⊎ ((copies c ≡ Some 2) × (copies d ≡ Some 0)) → opposing c d ≡ true
unfolding opposing
if_copies a b (inl e) = rw (no_copy a e.0, two_copies b e.1)
if_copies a b (inr e) = rw (two_copies a e.0, no_copy b e.1)

pub opposing_by_copies :
    (c d : ℕ) → c < 4 → d < 4
    → (opposing c d ≡ true) ↔ (((copies c ≡ Some 0) × (copies d ≡ Some 2)) ⊎ ((copies c ≡ Some 2) × (copies d ≡ Some 0)))
opposing_by_copies c d h k = (then_copies (code_of_law c h) (code_of_law d k), if_copies (code_of_law c h) (code_of_law d k))

-- ---- by values
-- what `Numbers` does not say of 2
pub record NotTwo {V : Type 0} (w : Width V) : Type 0 where
  pub zero_two : w.same w.zero w.two ≡ false
  pub one_two : w.same w.one w.two ≡ false

module _ {V : Type 0} (w : Width V) (numbers : Numbers w) (not_two : NotTwo w) (missing : V)
    (no_zero : w.same missing w.zero ≡ false) (no_two : w.same missing w.two ≡ false) where
  zero_test : (flag : Bool) {c : ℕ} → Code c → w.same (value_of w flag missing c) w.zero ≡ eqb c (cond flag 3 0)
  unfolding value_of values
  zero_test true c0 = numbers.two_zero
  zero_test true c1 = no_zero
  zero_test true c2 = numbers.one_zero
  zero_test true c3 = numbers.zero_zero
  zero_test false c0 = numbers.zero_zero
  zero_test false c1 = no_zero
  zero_test false c2 = numbers.one_zero
  zero_test false c3 = numbers.two_zero

  two_test : (flag : Bool) {c : ℕ} → Code c → w.same (value_of w flag missing c) w.two ≡ eqb c (cond flag 0 3)
  unfolding value_of values
  two_test true c0 = numbers.two_two
  two_test true c1 = no_two
  two_test true c2 = not_two.one_two
  two_test true c3 = not_two.zero_two
  two_test false c0 = not_two.zero_two
  two_test false c1 = no_two
  two_test false c2 = not_two.one_two
  two_test false c3 = numbers.two_two

  by_values : (flag : Bool) {c d : ℕ} → Code c → Code d → opposing_values w (value_of w flag missing c) (value_of w flag missing d) ≡ opposing c d
  unfolding opposing_values opposing
  by_values true a b = rw (zero_test true a, zero_test true b, two_test true a, two_test true b)
  by_values false {c} {d} a b =
      rw (zero_test false a, zero_test false b, two_test false a, two_test false b) (or_comm (eqb c 0 && eqb d 3) (eqb c 3 && eqb d 0))

  pub opposing_by_values : (flag : Bool) (c d : ℕ) → c < 4 → d < 4 → opposing_values w (value_of w flag missing c) (value_of w flag missing d) ≡ opposing c d
  opposing_by_values flag c d h k = by_values flag (code_of_law c h) (code_of_law d k)

-- both widths of values
pub i8_not_two : NotTwo i8
unfolding same_int
i8_not_two = record { zero_two = refl; one_two = refl }

pub float_not_two : NotTwo float
unfolding eq
float_not_two = record { zero_two = refl; one_two = refl }

-- either of the two may be the offspring
pub opposing_either_way : (c d : ℕ) → opposing c d ≡ opposing d c
unfolding opposing
opposing_either_way c d = or_comm (eqb c 3 && eqb d 0) (eqb c 0 && eqb d 3) ∙ rw (and_comm (eqb c 0) (eqb d 3), and_comm (eqb c 3) (eqb d 0))
