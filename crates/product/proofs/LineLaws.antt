-- The sums of lines r, r + 1 and so on with line c, from a tile or straight from the bytes.
use mathlib.Core.Path.{◌≡◌, sym, subst}
use mathlib.Core.List.{List}
use Prim.Native.Nat.{ℕ, ◌+◌, ◌*◌, ◌<◌}
use native.Mathlib.Omega.{arith}
use lib.ListN.{length}
use lib.Ieee.{Float, binary64}
use Rattle.product.specs.Private.{TileHas, row_more, lines_more}
use Rattle.product.specs.Lent.{value_at, run_at, tile_at, line_value}
use Rattle.product.specs.declared.lent.Spaced.{Spaced}
use Rattle.product.specs.declared.lent.Runs.{Runs}
use Rattle.product.specs.declared.lent.Tile.{Tile}
use Rattle.product.specs.declared.lent.Lines.{Lines}
use Rattle.product.proofs.RowLaws.{row_ext}
use Rattle.product.proofs.TileLaws.{line_term}

module _ (l : Lines) (q : Spaced) (r c : ℕ) (sums out : List Float)
    (e : (q.count ≡ l.terms) × (q.bytes.now ≡ l.bytes.now) × (q.step ≡ l.step) × (q.at ≡ l.base + 8 * (c * l.line + 0 * l.step))) where
  -- from values that are those of the lines
  by_values : (x : ℕ → ℕ → Float) (n : ℕ) → n ≡ l.terms → ((i j : ℕ) → i < l.terms → j < length sums → x j i ≡ line_value l (r + j) i)
      → out ≡ row_more binary64 x (value_at q) n sums → out ≡ lines_more binary64 (line_value l) l.terms r c sums
  by_values x n s has p =
      row_ext binary64 x (value_at q) (λ j t. line_value l (r + j) t) (λ t. line_value l c t) l.terms sums out has
      (λ i h. line_term l.bytes.now q.bytes.now l.base l.line l.step q.step c i q.at e.1 e.2 e.3)
      (subst (λ (z : ℕ). out ≡ row_more binary64 x (value_at q) z sums) s p)

  pub from_tile : (t : Tile) (loaded m : ℕ) → loaded ≡ l.terms → length sums ≡ m → TileHas t.x.now t.g (line_value l) r loaded m
      → out ≡ row_more binary64 (tile_at t) (value_at q) q.count sums → out ≡ lines_more binary64 (line_value l) l.terms r c sums
  from_tile t loaded m s s' has = by_values (tile_at t) q.count e.0 (λ i j h h'. has i j (omega arith) (omega arith))

  pub from_bytes : (runs : Runs) → l.terms ≡ 4 → ((u j : ℕ) → run_at runs j u ≡ line_value l (r + j) u)
      → out ≡ row_more binary64 (run_at runs) (value_at q) 4 sums → out ≡ lines_more binary64 (line_value l) l.terms r c sums
  from_bytes runs s has = by_values (run_at runs) 4 (sym s) (λ i j h h'. has i j)
