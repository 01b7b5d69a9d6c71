-- Products that can be formed straight from the bytes.
use mathlib.Core.Path.{◌≡◌, sym, ap, subst, ◌∙◌}
use mathlib.Core.List.{List}
use Prim.Native.Nat.{ℕ, ◌+◌, ◌*◌, ◌%◌, ◌≤◌}
use native.Mathlib.Omega.{arith}
use lib.ListN.{take, drop}
use Rattle.product.specs.Values.{le_number, float_at}
use Rattle.product.specs.Private.{run_value, RunsNoNan, value_of_line}
use Rattle.product.specs.Lent.{run_at, line_value}
use Rattle.product.specs.declared.lent.Runs.{Runs}
use Rattle.product.specs.declared.lent.Lines.{Lines}
use Rattle.product.proofs.TileLaws.{across_place}

-- the runs of lines r, r + 1 and so on, which are neighbours
module _ (l : Lines) (q : Runs) (r : ℕ) (h : l.line ≡ 1) (same : q.bytes.now ≡ l.bytes.now) (stepped : q.step ≡ l.step) (first : q.at ≡ l.base + 8 * (r * l.line + 0 * l.step)) where
  steps : (u : ℕ) → u * q.step ≡ u * l.step
  steps u = ap (λ (x : ℕ). u * x) stepped

  -- the place of value u of line r + j
  place : (u j : ℕ) → q.at + 8 * (u * q.step) + 8 * j ≡ l.base + 8 * ((r + j) * l.line + u * l.step)
  place u j = let e : q.at + 8 * j ≡ q.at + 8 * (j * l.line) = across_place q.at l.line j h in omega (arith, steps u)

  pub straight_term : (u j : ℕ) → run_at q j u ≡ line_value l (r + j) u
  unfolding value_of_line
  straight_term u j = ap (λ (b : List ℕ). run_value b q.at q.step j u) same ∙ ap (float_at l.bytes.now) (place u j)

  pub straight_runs : (n : ℕ) → RunsNoNan l.bytes.now (l.base + 8 * r) l.step n → q.count ≡ n → RunsNoNan q.bytes.now q.at q.step q.count
  straight_runs n f e t b i b' =
      let e' : r * l.line ≡ r * 1 = ap (λ (x : ℕ). r * x) h in
      let p : l.base + 8 * r + 8 * (t * l.step) + 8 * i ≡ q.at + 8 * (t * q.step) + 8 * i = omega (arith, steps t) in
      subst (λ (s : List ℕ). le_number (take 8 (drop (q.at + 8 * (t * q.step) + 8 * i) s)) % 9223372036854775808 ≤ 9218868437227405312) (sym same)
      (subst (λ (z : ℕ). le_number (take 8 (drop z l.bytes.now)) % 9223372036854775808 ≤ 9218868437227405312) p (f t b i (omega arith)))
