-- Document 01's word alike. Over the format. Definitions only.
use Rattle.std.specs.Prelude.{◌≡◌, true, List, ◌⊎◌, ℕ, ◌<◌, T, length, get_or, Float}
use Rattle.std.specs.Float.{nan, Format}
use Rattle.std.specs.Float.Ieee.{fits, is_nan, to_bits}

-- "Two f64 are *alike* if their bits agree or both are not-a-number (NaN)."
abbrev pub Alike : Format → Float → Float → Type 0
Alike f x y = (to_bits f x ≡ to_bits f y) ⊎ ((is_nan x ≡ true) × (is_nan y ≡ true))

-- "buffers alike place by place"
pub record AlikeBuffers (f : Format) (xs ys : List Float) : Type 0 where
  pub equal_lengths : length xs ≡ length ys
  pub alike_at : (k : ℕ) → k < length xs → Alike f (get_or xs k nan) (get_or ys k nan)

-- every value of a lent buffer is one of the format's: so it is of every buffer of f64, whose values are bit patterns
abbrev pub OfFormat : Format → List Float → Type 0
OfFormat f xs = (k : ℕ) → k < length xs → T (fits f (get_or xs k nan))
