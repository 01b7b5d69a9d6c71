-- Laws of values and codes, once over the width.
use mathlib.Core.Path.{◌≡◌, refl, sym, ap, subst, ◌∙◌}
use mathlib.Core.Bool.{Bool, true, false, not, ◌&&◌, ◌||◌, cond}
use mathlib.Core.List.{[], ◌∷◌}
use Rattle.std.specs.Prelude.{Option, Some, None}
use Rattle.std.specs.Ordering.{int_eq}
use Rattle.std.proofs.lemmas.Bool.Decides.{Decides-int_eq, same_from_decides}
use Prim.Native.Nat.{ℕ, zero, suc, ◌<◌}
use native.Mathlib.Omega.{arith}
use borrow.Author.Tests.{eqb-true, eq-eqb}
use lib.IntN.{ℤ, pos, negsuc}
use lib.Ieee.{eq}
use lib.ListN.{length}
use Rattle.codes.specs.Value.{Width, i8, float, same_int, values, value_of, code_of, same_or_nan}

-- ---- the values of the codes, by the flag
module _ {V : Type 0} (w : Width V) (flag : Bool) (missing : V) where
  pub values_counted : flag ≡ true → values w flag missing ≡ (w.two ∷ missing ∷ w.one ∷ w.zero ∷ [])
  unfolding values
  values_counted e = rw e

  pub values_other : flag ≡ false → values w flag missing ≡ (w.zero ∷ missing ∷ w.one ∷ w.two ∷ [])
  unfolding values
  values_other e = rw e

pub four_values : {V : Type 0} (w : Width V) (flag : Bool) (missing : V) → length (values w flag missing) ≡ 4
unfolding values
four_values w true missing = refl
four_values w false missing = refl

-- ---- the code of a value, by the tests in order
module _ {V : Type 0} (w : Width V) (flag : Bool) (missing v : V) where
  pub zero_code : (k : ℕ) → k ≡ cond flag 3 0 → w.same v w.zero ≡ true → Some k ≡ code_of w flag missing v
  unfolding code_of
  zero_code k e a = simp (a, e)

  module _ (a : w.same v w.zero ≡ false) where
    pub one_code_law : w.same v w.one ≡ true → Some 2 ≡ code_of w flag missing v
    unfolding code_of
    one_code_law b = simp (a, b)

    module _ (b : w.same v w.one ≡ false) where
      pub two_code : (k : ℕ) → k ≡ cond flag 0 3 → w.same v w.two ≡ true → Some k ≡ code_of w flag missing v
      unfolding code_of
      two_code k e c = simp (a, b, c, e)

      module _ (c : w.same v w.two ≡ false) where
        pub missing_code : w.same v missing ≡ true → Some 1 ≡ code_of w flag missing v
        unfolding code_of same_or_nan
        missing_code d = simp (a, b, c, d)

        pub number_bad : w.same v missing ≡ false → w.same v v ≡ true → None ≡ code_of w flag missing v
        unfolding code_of same_or_nan
        number_bad d e = simp (a, b, c, d, e)

-- ---- there and back
module _ {V : Type 0} (w : Width V) (missing v : V) where
  -- a value that is the same number as u, by a test that passed
  by_number : (u : V) → w.same v u ≡ true → same_or_nan w v u ≡ true
  unfolding same_or_nan
  by_number u e = simp e

  module _ (code : ℕ) where
    hit :
        (flag : Bool) (u : V) (k : ℕ) → value_of w flag missing k ≡ u → same_or_nan w v u ≡ true
        → ◌≡◌ {A = Option ℕ} (Some k) (Some code) → same_or_nan w v (value_of w flag missing code) ≡ true
    hit flag u k p q r =
        let n : k ≡ code = cc in subst (λ x. same_or_nan w v x ≡ true) (sym p ∙ ap (value_of w flag missing) n) q

    by_tests_law :
        (a b c d flag : Bool) → w.same v w.zero ≡ a → w.same v w.one ≡ b → w.same v w.two ≡ c → same_or_nan w v missing ≡ d
        → cond a (Some (cond flag 3 0)) (cond b (Some 2) (cond c (Some (cond flag 0 3)) (cond d (Some 1) None))) ≡ Some code
        → same_or_nan w v (value_of w flag missing code) ≡ true
    unfolding value_of
    by_tests_law true b c d true ea eb ec ed e = hit true w.zero 3 refl (by_number w.zero ea) e
    by_tests_law true b c d false ea eb ec ed e = hit false w.zero 0 refl (by_number w.zero ea) e
    by_tests_law false true c d true ea eb ec ed e = hit true w.one 2 refl (by_number w.one eb) e
    by_tests_law false true c d false ea eb ec ed e = hit false w.one 2 refl (by_number w.one eb) e
    by_tests_law false false true d true ea eb ec ed e = hit true w.two 0 refl (by_number w.two ec) e
    by_tests_law false false true d false ea eb ec ed e = hit false w.two 3 refl (by_number w.two ec) e
    by_tests_law false false false true true ea eb ec ed e = hit true missing 1 refl ed e
    by_tests_law false false false true false ea eb ec ed e = hit false missing 1 refl ed e
    by_tests_law false false false false flag ea eb ec ed e = absurd (let q : ◌≡◌ {A = ℕ} 0 1 = cc in omega arith)

-- "an accepted writing read back gives every value, equal by number or NaN for NaN": the value of a value's code
pub decode_encode :
    {V : Type 0} (w : Width V) (flag : Bool) (missing v : V) (code : ℕ) → code_of w flag missing v ≡ Some code
    → same_or_nan w v (value_of w flag missing code) ≡ true
unfolding code_of
decode_encode w flag missing v code e =
    by_tests_law w missing v code (w.same v w.zero) (w.same v w.one) (w.same v w.two) (same_or_nan w v missing) flag refl refl refl refl e

-- every value is itself, by number or as a NaN
pub self_same : {V : Type 0} (w : Width V) (v : V) → same_or_nan w v v ≡ true
unfolding same_or_nan
self_same w v = by_test (w.same v v)
  where
    by_test : (b : Bool) → (b || (not b && not b)) ≡ true
    by_test true = refl
    by_test false = refl

-- the three numbers of a width are three, by its `==`
pub record Numbers {V : Type 0} (w : Width V) : Type 0 where
  pub zero_zero : w.same w.zero w.zero ≡ true
  pub one_zero : w.same w.one w.zero ≡ false
  pub one_one_law : w.same w.one w.one ≡ true
  pub two_zero : w.same w.two w.zero ≡ false
  pub two_one : w.same w.two w.one ≡ false
  pub two_two : w.same w.two w.two ≡ true

pub i8_numbers : Numbers i8
unfolding same_int
i8_numbers =
    record { zero_zero = refl; one_zero = refl; one_one_law = refl; two_zero = refl; two_one = refl; two_two = refl }

pub float_numbers : Numbers float
unfolding eq
float_numbers =
    record { zero_zero = refl; one_zero = refl; one_one_law = refl; two_zero = refl; two_one = refl; two_two = refl }

-- the code of a code's value is the code, but for missing, whose value may be a number
pub number_back :
    {V : Type 0} (w : Width V) (n : Numbers w) (flag : Bool) (missing : V) (code : ℕ) → code < 4 → (code ≡ 1 → ⊥)
    → code_of w flag missing (value_of w flag missing code) ≡ Some code
unfolding code_of value_of
number_back w n true missing zero h o = simp (n.two_zero, n.two_one, n.two_two)
number_back w n true missing (suc (suc zero)) h o = simp (n.one_zero, n.one_one_law)
number_back w n true missing (suc (suc (suc zero))) h o = simp n.zero_zero
number_back w n false missing zero h o = simp n.zero_zero
number_back w n false missing (suc (suc zero)) h o = simp (n.one_zero, n.one_one_law)
number_back w n false missing (suc (suc (suc zero))) h o = simp (n.two_zero, n.two_one, n.two_two)
number_back w n flag missing (suc zero) h o = absurd (o refl)
number_back w n flag missing (suc (suc (suc (suc k)))) h o = absurd (omega arith)

-- "missing is none of 0, 1, 2 by number"
pub record NoNumber {V : Type 0} (w : Width V) (missing : V) : Type 0 where
  pub not_zero : w.same missing w.zero ≡ false
  pub not_one : w.same missing w.one ≡ false
  pub not_two : w.same missing w.two ≡ false

-- "Reading all and then writing gives every code back if missing is none of 0, 1, 2 by number.": the code of a code's value
pub encode_decode :
    {V : Type 0} (w : Width V) (n : Numbers w) (flag : Bool) (missing : V) → NoNumber w missing → (code : ℕ) → code < 4
    → code_of w flag missing (value_of w flag missing code) ≡ Some code
unfolding code_of value_of
encode_decode w n true missing m (suc zero) h = simp (m.not_zero, m.not_one, m.not_two, self_same w missing)
encode_decode w n false missing m (suc zero) h = simp (m.not_zero, m.not_one, m.not_two, self_same w missing)
encode_decode w n flag missing m zero h = number_back w n flag missing 0 h (λ e. omega (arith, e))
encode_decode w n flag missing m (suc (suc k)) h = number_back w n flag missing (suc (suc k)) h (λ e. omega (arith, e))

-- ---- two integers are the same number exactly if they are equal
pub same_int_refl : (a : ℤ) → same_int a a ≡ true
unfolding same_int
same_int_refl (pos n) = eq-eqb n n refl
same_int_refl (negsuc n) = eq-eqb n n refl

pub same_int_eq : (a b : ℤ) → same_int a b ≡ true → a ≡ b
unfolding same_int
same_int_eq (pos m) (pos n) h = ap pos (eqb-true m n h)
same_int_eq (pos m) (negsuc n) h = absurd (let q : ◌≡◌ {A = ℕ} 0 1 = cc in omega arith)
same_int_eq (negsuc m) (pos n) h = absurd (let q : ◌≡◌ {A = ℕ} 0 1 = cc in omega arith)
same_int_eq (negsuc m) (negsuc n) h = ap negsuc (eqb-true m n h)

-- it is the language's `==`
pub same_int_is : (a b : ℤ) → int_eq a b ≡ same_int a b
same_int_is a b = same_from_decides (int_eq a b) (same_int a b) (Decides-int_eq a b) (same_int_eq a b, λ e. subst (λ (x : ℤ). same_int a x ≡ true) e (same_int_refl a))
