-- Values: what a code stands for at a width of values, and the code of a value.
use Rattle.std.specs.Prelude.{Bool, true, false, not, ◌&&◌, ◌||◌, cond, List, [], ◌∷◌, ℕ, ℤ, pos, negsuc, eqb, get_or, Float}
use Rattle.std.specs.Prelude.{Option, Some, None}
use Rattle.std.specs.Float.{fin}
use Rattle.std.specs.Float.Ieee.{eq}

-- A width of values: its numbers 0, 1 and 2, and the language's `==`.
pub record Width (V : Type 0) : Type 0 where
  pub zero : V
  pub one : V
  pub two : V
  pub same : V → V → Bool

-- two integers are the same number
unfoldable pub same_int : ℤ → ℤ → Bool
same_int (pos m) (pos n) = eqb m n
same_int (pos m) (negsuc n) = false
same_int (negsuc m) (pos n) = false
same_int (negsuc m) (negsuc n) = eqb m n

-- i8
abbrev pub i8 : Width ℤ
i8 = record { zero = pos 0; one = pos 1; two = pos 2; same = same_int }

-- f64, and f32: `fin false m e` is m × 2^e, and `eq` is IEEE 754's `==`, for which −0.0 is 0 and NaN is nothing, not even itself
abbrev pub float : Width Float
float = record { zero = fin false 0 (pos 0); one = fin false 1 (pos 0); two = fin false 1 (pos 1); same = eq }

-- "equal by number or NaN for NaN": a NaN is what is not equal to itself
unfoldable pub same_or_nan : {V : Type 0} (w : Width V) → V → V → Bool
same_or_nan w u v = w.same u v || (not (w.same u u) && not (w.same v v))

-- "With the flag `is_a1_counted` values are 2, missing, 1, 0; without, 0, missing, 1, 2.", in the order of the codes
unfoldable pub values : {V : Type 0} (w : Width V) → Bool → V → List V
values w true missing = w.two ∷ missing ∷ w.one ∷ w.zero ∷ []
values w false missing = w.zero ∷ missing ∷ w.one ∷ w.two ∷ []

-- the value of a code
unfoldable pub value_of : {V : Type 0} (w : Width V) → Bool → V → ℕ → V
unfolding values
value_of w flag missing code = get_or (values w flag missing) code missing

-- "A value is tested against 0, 1, 2, then missing (any NaN if missing is NaN), by number: −0.0 is 0.": its code, if it is one of them
unfoldable pub code_of : {V : Type 0} (w : Width V) → Bool → V → V → Option ℕ
unfolding same_or_nan
code_of w flag missing v =
    cond (w.same v w.zero) (Some (cond flag 3 0))
    (cond (w.same v w.one) (Some 2)
    (cond (w.same v w.two) (Some (cond flag 0 3))
    (cond (same_or_nan w v missing) (Some 1) None)))
