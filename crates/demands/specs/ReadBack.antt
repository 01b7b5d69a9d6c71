-- What reading back gives. The word of the theorem on f64. Definitions only.
use Rattle.std.specs.Prelude.{◌≡◌, true, ◌⊎◌, Float}
use Rattle.std.specs.Float.Ieee.{eq, is_nan}

-- "equal by number or NaN for NaN": `eq` is IEEE 754's ==
abbrev pub EqualOrBothNan : Float → Float → Type 0
EqualOrBothNan u v = (eq u v ≡ true) ⊎ ((is_nan u ≡ true) × (is_nan v ≡ true))
