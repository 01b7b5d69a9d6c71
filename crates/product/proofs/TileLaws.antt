-- A tile of values: value i of line r + j at place i × g + j.
use mathlib.Core.Path.{◌≡◌, sym, ap, ◌∙◌}
use mathlib.Core.List.{List}
use mathlib.Core.Logic.{⊎_elim}
use Prim.Native.Nat.{ℕ, ◌+◌, ◌*◌, ◌≤◌}
use native.Mathlib.Omega.{arith}
use lib.ListN.{length, take, drop, get_or}
use lib.Ieee.{Float, nan}
use borrow.Rule.Slice.PartMut.{put_mid}
use Rattle.answer.specs.Lists.{tabulate}
use Rattle.answer.proofs.Tabulate.{length_tabulate, get_d_tabulate}
use Rattle.product.specs.Values.{float_at}
use Rattle.product.specs.Private.{spaced_value, value_of_line, TileHas}
use Rattle.product.proofs.PartLaws.{below_or, length_part, put_in, put_out}
use Rattle.product.proofs.GridLaws.{row_in}

-- neighbouring values are those of neighbouring lines
pub across_place : (at line j : ℕ) → line ≡ 1 → at + 8 * j ≡ at + 8 * (j * line)
across_place at line j h = let e : j * line ≡ j * 1 = ap (λ (x : ℕ). j * x) h in omega arith

-- value i of line r + j, from the place of value i of line r
pub line_place : (bytes bytes' : List ℕ) (base line line' step r i j at : ℕ) → bytes' ≡ bytes → line' ≡ line → at ≡ base + 8 * (r * line + i * step) → spaced_value bytes' at line' j ≡ value_of_line bytes base line step (r + j) i
unfolding value_of_line
line_place bytes bytes' base line line' step r i j at b l q =
    ap (λ (z : List ℕ). float_at z (at + 8 * (j * line'))) b
    ∙ ap (float_at bytes) (let z : j * line' ≡ j * line = ap (λ (x : ℕ). j * x) l in let e : at + 8 * (j * line') ≡ base + 8 * ((r + j) * line + i * step) = omega arith in e)

-- value i of line c, from the place of its first one
pub line_term : (bytes bytes' : List ℕ) (base line step step' c i at : ℕ) → bytes' ≡ bytes → step' ≡ step → at ≡ base + 8 * (c * line + 0 * step) → spaced_value bytes' at step' i ≡ value_of_line bytes base line step c i
unfolding value_of_line
line_term bytes bytes' base line step step' c i at b l q =
    ap (λ (z : List ℕ). float_at z (at + 8 * (i * step'))) b
    ∙ ap (float_at bytes) (let z : i * step' ≡ i * step = ap (λ (x : ℕ). i * x) l in let e : at + 8 * (i * step') ≡ base + 8 * (c * line + i * step) = omega arith in e)

module _ (v : ℕ → ℕ → Float) (r m g : ℕ) where
  -- one more row of the tile
  pub tile_more : (i size : ℕ) (x part : List Float) (value : ℕ → Float) → ((j : ℕ) → value j ≡ v (r + j) i) → size ≡ m → m ≤ g → i * g + m ≤ length x
      → part ≡ tabulate (length (take size (drop (i * g) x))) value
      → TileHas x g v r i m → TileHas (put_mid (i * g) size x part) g v r (i + 1) m
  tile_more i size x part value a s h b e old i' j l l' =
      let n : length (take size (drop (i * g) x)) ≡ m = length_part (i * g) size x (omega arith) ∙ s in
      let z : length part ≡ m = ap length e ∙ length_tabulate (length (take size (drop (i * g) x))) value ∙ n in
      ⊎_elim
      (λ b'. let u : i' * g + g ≤ i * g = row_in i g i' b' in put_out (i * g) size x part nan (i' * g + j) (omega arith) (omega arith) (λ p p'. omega arith) ∙ old i' j b' l')
      (λ b'.
      let q : i' ≡ i = omega arith in
      ap (λ (t : ℕ). get_or (put_mid (i * g) size x part) (t * g + j) nan) q
      ∙ put_in (i * g) size x part nan j (omega arith) (omega arith)
      ∙ ap (λ (t : List Float). get_or t j nan) e
      ∙ get_d_tabulate (length (take size (drop (i * g) x))) value j nan (omega arith)
      ∙ a j
      ∙ ap (λ (t : ℕ). v (r + j) t) (sym q))
      (below_or i' i)
