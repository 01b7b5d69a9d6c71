-- Two values of a format are alike exactly if they are one: the logic's `Float` has one NaN and keeps the sign of zero.
use mathlib.Core.Path.{◌≡◌, refl, sym, ap, subst, ◌∙◌}
use mathlib.Core.Bool.{true, true≢false}
use mathlib.Core.List.{List}
use mathlib.Core.Logic.{inl, inr}
use Prim.Native.Nat.{ℕ, ◌<◌}
use lib.Dec.{T}
use lib.ListN.{length, get_or}
use lib.Seq.{ext_get_or}
use lib.Ieee.{Float, nan, inf, fin, Format, fits, is_nan, to_bits, of_bits}
use lib.Ieee.Bits.{of_bits-to_bits}
use Rattle.demands.specs.Alike.{Alike, AlikeBuffers, OfFormat}

is_nan_law : (x : Float) → is_nan x ≡ true → x ≡ nan
unfolding is_nan
is_nan_law nan e = refl
is_nan_law (inf s) e = absurd (true≢false (sym e))
is_nan_law (fin s m k) e = absurd (true≢false (sym e))

pub same_is_alike : (f : Format) (x y : Float) → x ≡ y → Alike f x y
same_is_alike f x y e = inl (ap (to_bits f) e)

pub alike_is_same : (f : Format) (x y : Float) → T (fits f x) → T (fits f y) → (Alike f x y → x ≡ y) × (x ≡ y → Alike f x y)
alike_is_same f x y fx fy = (go, same_is_alike f x y)
  where
    go : Alike f x y → x ≡ y
    go (inl e) = sym (of_bits-to_bits f x fx) ∙ ap (of_bits f) e ∙ of_bits-to_bits f y fy
    go (inr (a, b)) = is_nan_law x a ∙ sym (is_nan_law y b)

-- so are two buffers of values of a format
pub same_buffers_alike : (f : Format) (xs ys : List Float) → xs ≡ ys → AlikeBuffers f xs ys
same_buffers_alike f xs ys e = record { equal_lengths = ap length e; alike_at = λ k h. same_is_alike f (get_or xs k nan) (get_or ys k nan) (ap (λ (l : List Float). get_or l k nan) e) }

pub alike_buffers_same : (f : Format) (xs ys : List Float) → OfFormat f xs → OfFormat f ys → (AlikeBuffers f xs ys → xs ≡ ys) × (xs ≡ ys → AlikeBuffers f xs ys)
alike_buffers_same f xs ys fx fy = (
  λ a. ext_get_or nan xs ys a.equal_lengths
      (λ k h. (alike_is_same f (get_or xs k nan) (get_or ys k nan) (fx k h) (fy k (subst (λ (n : ℕ). k < n) a.equal_lengths h))).0 (a.alike_at k h)),
  same_buffers_alike f xs ys,
)
