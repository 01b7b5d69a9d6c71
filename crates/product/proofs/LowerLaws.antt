-- Laws of a piece with some terms of each sum on and below the diagonal.
use mathlib.Core.Path.{◌≡◌, refl, sym, ap, ◌∙◌}
use mathlib.Core.Bool.{cond}
use mathlib.Core.List.{List}
use mathlib.Core.Logic.{⊎_elim}
use Prim.Native.Nat.{ℕ, ◌+◌, ◌*◌, ◌/◌, ◌%◌, ◌≤◌, ◌<◌}
use native.Mathlib.Nat.{div-add-mod', mod-lt}
use native.Mathlib.Omega.{arith}
use lib.Dec.{leb}
use lib.ListN.{length, get_or}
use lib.Ieee.{Float, nan, Format}
use borrow.Author.Tests.{le-leb, lt-leb}
use Rattle.answer.specs.Lists.{tabulate}
use Rattle.answer.proofs.Tabulate.{length_tabulate, get_d_tabulate, tabulate_ext, is_tabulate}
use Rattle.product.specs.Values.{float_at}
use Rattle.product.specs.Dot.{plus_zero}
use Rattle.product.specs.Private.{sum_more, value_of_line, block_more, lower_piece}
use Rattle.product.proofs.PartLaws.{below_or}
use Rattle.product.proofs.GridLaws.{row_below}
use Rattle.product.proofs.BlockLaws.{inside_or, block_in, block_out, length_block}

-- the values of a line from term k on
pub line_from : (bytes bytes' : List ℕ) (base line line' step step' k at : ℕ) → bytes' ≡ bytes → line' ≡ line → step' ≡ step → at ≡ base + 8 * (0 * line + k * step) → (r t : ℕ) → value_of_line bytes' at line' step' r t ≡ value_of_line bytes base line step r (k + t)
unfolding value_of_line
line_from bytes bytes' base line line' step step' k at b l s e r t =
    ap (λ (z : List ℕ). float_at z (at + 8 * (r * line' + t * step'))) b
    ∙ ap (float_at bytes)
    (let z : r * line' ≡ r * line = ap (λ (x : ℕ). r * x) l in
    let z' : t * step' ≡ t * step = ap (λ (x : ℕ). t * x) s in
    let u : at + 8 * (r * line' + t * step') ≡ base + 8 * (r * line + (k + t) * step) = omega arith in u)

module _ (f : Format) (h w : ℕ) (v : ℕ → ℕ → Float) where
  entry : ℕ → ℕ → Float
  entry n p = cond (leb (p % w) (p / w)) (sum_more f plus_zero (v (p / w)) (v (p % w)) n) plus_zero

  is_lower : (n : ℕ) → lower_piece f h w v n ≡ tabulate (h * w) (entry n)
  unfolding lower_piece entry
  is_lower n = refl

  below : (n p : ℕ) → p % w ≤ p / w → entry n p ≡ sum_more f plus_zero (v (p / w)) (v (p % w)) n
  unfolding entry
  below n p b = simp (le-leb (p % w) (p / w) b)

  above : (n p : ℕ) → p / w < p % w → entry n p ≡ plus_zero
  unfolding entry
  above n p b = simp (lt-leb (p % w) (p / w) b)

  pub length_lower : (n : ℕ) → length (lower_piece f h w v n) ≡ h * w
  length_lower n = ap length (is_lower n) ∙ length_tabulate (h * w) (entry n)

  -- every place +0
  pub lower_none : (n : ℕ) (l : List Float) → n ≡ h * w → l ≡ tabulate n (λ p. plus_zero) → l ≡ lower_piece f h w v 0
  unfolding sum_more
  lower_none n l s e =
      e
      ∙ ap (λ (k : ℕ). tabulate k (λ p. plus_zero)) s
      ∙ tabulate_ext (h * w) (λ p. plus_zero) (entry 0) (λ p b. ⊎_elim (λ a. sym (above 0 p a)) (λ a. sym (below 0 p a)) (below_or (p / w) (p % w)))
      ∙ sym (is_lower 0)

  -- without columns there are no places
  pub lower_empty : (n k : ℕ) → w ≡ 0 → lower_piece f h w v k ≡ lower_piece f h w v n
  lower_empty n k z =
      is_lower k
      ∙ tabulate_ext (h * w) (entry k) (entry n) (λ p b. let u : h * w ≡ h * 0 = ap (λ (x : ℕ). h * x) z in absurd (let u' : ⊥ = omega arith in u'))
      ∙ sym (is_lower n)

  -- n terms in all rows
  pub lower_all : (n : ℕ) (l l' : List Float) → 0 < w → l ≡ lower_piece f h w v 0 → l' ≡ block_more f w v n 0 h 0 w l → l' ≡ lower_piece f h w v n
  unfolding sum_more
  lower_all n l l' pos e e' =
      is_tabulate l' (h * w) (entry n) nan (ap length e' ∙ length_block f w v n 0 h 0 w l ∙ size)
      (λ p b.
      let z : p / w * w + p % w ≡ p = div-add-mod' p w in
      ⊎_elim
      (λ a. ⊎_elim (λ i. absurd (let u : ⊥ = omega (arith, i.0) in u)) (λ i. block_out f w v n 0 h 0 w l l' e' p (omega (arith, size)) i.1) (inside_or 0 h 0 w (p / w) (p % w)) ∙ at p b ∙ above 0 p a ∙ sym (above n p a))
      (λ a.
      block_in f w v n 0 h 0 w l l' e' p (omega (arith, size)) (a, omega arith, row_below h w (p / w) (p % w) h (omega arith) (omega arith), omega arith, mod-lt p pos)
      ∙ ap (λ (s : Float). sum_more f s (v (p / w)) (v (p % w)) n) (at p b ∙ below 0 p a)
      ∙ sym (below n p a))
      (below_or (p / w) (p % w)))
      ∙ sym (is_lower n)
    where
      size : length l ≡ h * w
      size = ap length e ∙ length_lower 0

      at : (p : ℕ) → p < h * w → get_or l p nan ≡ entry 0 p
      at p b = ap (λ (z : List Float). get_or z p nan) (e ∙ is_lower 0) ∙ get_d_tabulate (h * w) (entry 0) p nan b
