-- Lists laid out by rows of a width: entry (r, c) at r × width + c.
use mathlib.Core.Path.{◌≡◌, ap, ◌∙◌}
use mathlib.Core.List.{List}
use mathlib.Core.Logic.{⊎_elim}
use Prim.Native.Nat.{ℕ, suc, ◌+◌, ◌*◌, ◌/◌, ◌%◌, ◌≤◌, ◌<◌}
use native.Mathlib.Nat.{div-add-mod', mod-lt, mul-le-mul_right}
use native.Mathlib.Omega.{arith}
use lib.ListN.{get_or}
use lib.Arith.{digits_div, digits_mod}
use Rattle.answer.specs.Lists.{tabulate}
use Rattle.answer.proofs.Tabulate.{get_d_tabulate, tabulate_ext}
use Rattle.product.proofs.PartLaws.{below_or}

-- rows below h end within h × w
pub row_in : (h w r : ℕ) → r < h → r * w + w ≤ h * w
row_in h w r b = let e : suc r * w ≤ h * w = mul-le-mul_right w b in omega arith

-- a place within h rows is in a row below h
pub row_below : (h w r c n : ℕ) → r * w + c < h * w → h ≤ n → r < n
row_below h w r c n b g = ⊎_elim (λ a. a) (λ a. let e : n * w ≤ r * w = mul-le-mul_right w a in let e' : h * w ≤ n * w = mul-le-mul_right w g in absurd (let z : ⊥ = omega arith in z)) (below_or r n)

module _ {A : Type 0} where
  abbrev pub grid : ℕ → ℕ → (ℕ → ℕ → A) → List A
  grid n w g = tabulate n (λ p. g (p / w) (p % w))

  module _ (n w : ℕ) (g : ℕ → ℕ → A) where
    pub grid_at : (r c : ℕ) (d : A) → c < w → r * w + c < n → get_or (grid n w g) (r * w + c) d ≡ g r c
    grid_at r c d b h =
        get_d_tabulate n (λ p. g (p / w) (p % w)) (r * w + c) d h
        ∙ ap (λ (q : ℕ). g q ((r * w + c) % w)) (digits_div r b)
        ∙ ap (g r) (digits_mod r b)

  -- lists of one width above 0 that agree at every entry are the same
  pub grid_same : (n w : ℕ) (g g' : ℕ → ℕ → A) → 0 < w → ((r c : ℕ) → r * w + c < n → c < w → g r c ≡ g' r c) → grid n w g ≡ grid n w g'
  grid_same n w g g' p e =
      tabulate_ext n (λ q. g (q / w) (q % w)) (λ q. g' (q / w) (q % w))
      (λ q b. let s : q / w * w + q % w ≡ q = div-add-mod' q w in e (q / w) (q % w) (omega arith) (mod-lt q p))

  -- pieces that agree at every entry are the same
  pub grid_ext : (h w : ℕ) (g g' : ℕ → ℕ → A) → ((r c : ℕ) → r * w + c < h * w → c < w → g r c ≡ g' r c) → grid (h * w) w g ≡ grid (h * w) w g'
  grid_ext h w g g' e =
      ⊎_elim (λ p. grid_same (h * w) w g g' p e)
      (λ p.
      tabulate_ext (h * w) (λ q. g (q / w) (q % w)) (λ q. g' (q / w) (q % w))
      (λ q b. let z : h * w ≡ h * 0 = ap (λ (x : ℕ). h * x) (let u : w ≡ 0 = omega arith in u) in absurd (let z' : ⊥ = omega arith in z')))
      (below_or 0 w)
