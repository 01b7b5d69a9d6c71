-- A group of four values, whose codes share a byte.
use Rattle.std.specs.Prelude.{◌≡◌, Bool, cond, ℕ, ◌<◌, ltb}
use Rattle.std.specs.Prelude.{Option, Some, None}
use Rattle.codes.specs.Value.{Width, code_of}

-- a code, and 4 where there is none
unfoldable pub or_four : Option ℕ → ℕ
or_four (Some code) = code
or_four None = 4

-- the code of a value, if it has one under the flag with this `missing`, and if it has one at all
abbrev pub CodesGood : {V : Type 0} (w : Width V) → Bool → V → V → ℕ → Type 0
CodesGood w flag missing v r = or_four (code_of w flag missing v) < 4 → r ≡ or_four (code_of w flag missing v)

abbrev pub GoodCode : {V : Type 0} (w : Width V) → Bool → V → ℕ → Type 0
GoodCode {V} w flag v r = (missing : V) → CodesGood w flag missing v r

-- what place k of a group of four holds that has `left` values: past them a pad
unfoldable pub in_group : ℕ → (ℕ → ℕ) → ℕ → ℕ
in_group left number k = cond (ltb k left) (number k) 0

-- four codes of a group
pub record Four (f : ℕ → ℕ) (c0 c1 c2 c3 : ℕ) : Type 0 where
  pub at_0 : c0 ≡ f 0
  pub at_1 : c1 ≡ f 1
  pub at_2 : c2 ≡ f 2
  pub at_3 : c3 ≡ f 3
