-- Laws of the numbers below n that pass a test.
use mathlib.Core.Path.{◌≡◌}
use mathlib.Core.Bool.{Bool, true, false, cond}
use mathlib.Core.List.{[], ◌∷◌, ◌++◌, append-nil}
use Prim.Native.Nat.{ℕ, zero, suc, ◌+◌, ◌≤◌}
use native.Mathlib.Nat.{add-zero, add-suc}
use native.Mathlib.Omega.{arith}
use lib.ListN.{length, length-append}
use Rattle.index.specs.Numbers.{numbers_below}

module _ (test : ℕ → Bool) where
  pub below_more : (n : ℕ) → test n ≡ true → numbers_below (suc n) test ≡ numbers_below n test ++ (n ∷ [])
  unfolding numbers_below
  below_more n e = simp e

  pub below_same : (n : ℕ) → test n ≡ false → numbers_below (suc n) test ≡ numbers_below n test
  unfolding numbers_below
  below_same n e = simp (e, append-nil)

  pub below_grows : (n k : ℕ) → length (numbers_below n test) ≤ length (numbers_below (n + k) test)
  unfolding numbers_below
  below_grows n zero = rw add-zero (omega arith)
  below_grows n (suc k) = rw add-suc (omega (arith, below_grows n k, length-append (numbers_below (n + k) test) (cond (test (n + k)) ((n + k) ∷ []) [])))
