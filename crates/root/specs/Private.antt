-- What only private functions speak in: what the steps of the calculation promise each other.
use Rattle.std.specs.Prelude.{◌≡◌, ℕ, ◌+◌, ◌-◌, ◌*◌, ◌^◌, ◌≤◌, ◌<◌, Float}
use Rattle.std.specs.Float.{Format}
use Rattle.std.specs.Float.Ieee.{emax, hid}
use Rattle.root.specs.Root.{count}

-- root is the largest whole number whose square is at most n, and rest is what the square leaves of n
pub record IsWholeRoot (n root rest : ℕ) : Type 0 where
  pub sum : root * root + rest ≡ n
  pub small : rest ≤ 2 * root

-- v's count, times a fixed power of two, is digits * 2 ^ exponent, with as many digits as the format keeps
pub record IsScaled (f : Format) (v : Float) (digits exponent : ℕ) : Type 0 where
  pub same : digits * 2 ^ exponent ≡ count f v * 2 ^ (emax f - 1)
  pub full : hid f ≤ digits
  pub short : digits < 2 * hid f
  pub bound : exponent ≤ 3 * emax f
