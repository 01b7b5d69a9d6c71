-- Filling a matrix tile by tile, over any type of values: g o t is what belongs at place o × inner + t.
use mathlib.Core.Path.{◌≡◌, sym, ap, subst, ◌∙◌}
use mathlib.Core.Bool.{Bool, true, false}
use mathlib.Core.List.{List, map}
use Prim.Native.Nat.{ℕ, zero, suc, ◌+◌, ◌-◌, ◌*◌, ◌/◌, ◌%◌, ◌<◌, ◌≤◌}
use native.Mathlib.Nat.{mul_comm, mul-zero, add-zero, add-mul, mul-le-mul_right, div-lt_iff_lt-mul, mod-lt, div-add-mod', div-eq_of_lt, mod-eq_of_lt, mul-add-div_right, mul-add-mod_self_right}
use native.Mathlib.Omega.{arith}
use lib.IntN.{ℤ}
use lib.ListN.{length, get_or}
use Rattle.answer.specs.Lists.{tabulate}
use Rattle.answer.specs.Matrix.{matrix}
use Rattle.answer.proofs.Tests.{by_lt}
use Rattle.answer.proofs.Tabulate.{is_tabulate, map_tabulate}
use Rattle.calls.specs.declared.Shape.{Shape}
use Rattle.bed_read.specs.Reading.{read_code, codes_read}
use Rattle.bed_read.specs.Private.{line_value, lines_read, Drawn, Rows}

-- lines end where the matrix does, or before
pub lines_end : (o lines outer inner size : ℕ) → o + lines ≤ outer → size ≡ outer * inner → o * inner + lines * inner ≤ size
lines_end o lines outer inner size h l =
    let m : (o + lines) * inner ≤ outer * inner = mul-le-mul_right inner h in let s : (o + lines) * inner ≡ o * inner + lines * inner = add-mul o lines inner in omega arith

some_inner : (outer inner p : ℕ) → p < outer * inner → 0 < inner
some_inner outer zero p h = absurd (let z : outer * 0 ≡ 0 = mul-zero outer in omega arith)
some_inner outer (suc n) p h = omega arith

module _ {A : Type 0} (g : ℕ → ℕ → A) (d : A) (outer inner : ℕ) where
  -- every line is filled up to place `from`, and the lines before the line k up to `until`
  pub record Tiled (val : List A) (from until k : ℕ) : Type 0 where
    pub rows : Rows g d outer inner val from
    pub lines : k ≤ outer
    pub tiled : (o t : ℕ) → o < k → from ≤ t → t < until → get_or val (o * inner + t) d ≡ g o t

  pub rows_none : (val : List A) → length val ≡ outer * inner → Rows g d outer inner val 0
  rows_none val e = record { long = e; bound = omega arith; filled = λ o t h f. absurd (omega arith) }

  pub tile_none : (val : List A) (from until : ℕ) → Rows g d outer inner val from → Tiled val from until 0
  tile_none val from until r = record { rows = r; lines = omega arith; tiled = λ o t h f u. absurd (omega arith) }

  -- the matrix by place
  abbrev G : ℕ → A
  G p = g (p / inner) (p % inner)

  flat : (o t : ℕ) → t < inner → G (o * inner + t) ≡ g o t
  flat o t h =
      let d : (o * inner + t) / inner ≡ o = mul-add-div_right (omega arith) o t ∙ ap (λ (x : ℕ). o + x) (div-eq_of_lt h) ∙ add-zero o in
      let m : (o * inner + t) % inner ≡ t = mul-add-mod_self_right o inner t ∙ mod-eq_of_lt h in
      ap (λ (x : ℕ). g x ((o * inner + t) % inner)) d ∙ ap (g o) m

  -- some lines more
  module _ (val new : List A) (from until k lines m : ℕ) (place : ℕ → ℕ → ℕ) (value : ℕ → ℕ → A) (em : m ≡ until - from) (tile : Tiled val from until k)
      (r : Drawn d lines m place value val m new) (hk : k + lines ≤ outer) (hu : until ≤ inner)
      (places : (j t : ℕ) → j < lines → t < m → place j t ≡ (k + j) * inner + (from + t))
      (values : (j t : ℕ) → j < lines → t < m → value j t ≡ g (k + j) (from + t)) where
    agrees : (j t : ℕ) → j < lines → t < m → value j t ≡ G (place j t)
    agrees j t h b = values j t h b ∙ sym (flat (k + j) (from + t) (omega arith)) ∙ ap G (sym (places j t h b))

    stays : (o t : ℕ) → t < inner → get_or val (o * inner + t) d ≡ g o t → get_or new (o * inner + t) d ≡ g o t
    stays o t h e = (r.draws G agrees).0 (o * inner + t) (e ∙ sym (flat o t h)) ∙ flat o t h

    comes : (o t : ℕ) → k ≤ o → o < k + lines → from ≤ t → t < until → get_or new (o * inner + t) d ≡ g o t
    comes o t a h f u =
        let b : o - k < lines = omega arith in
        let c : t - from < m = omega arith in
        let x : k + (o - k) ≡ o = omega arith in
        let y : from + (t - from) ≡ t = omega arith in
        let p : place (o - k) (t - from) ≡ o * inner + t = places (o - k) (t - from) b c ∙ ap (λ (q : ℕ). q * inner + (from + (t - from))) x ∙ ap (λ (q : ℕ). o * inner + q) y in
        subst (λ (q : ℕ). get_or new q d ≡ G q) p ((r.draws G agrees).1 (o - k) (t - from) b c) ∙ flat o t (omega arith)

    pub tile_more : Tiled new from until (k + lines)
    tile_more =
        record {
          rows = record {
            long = r.long ∙ tile.rows.long;
            bound = tile.rows.bound;
            filled = λ o t h f. stays o t (let b = tile.rows.bound in omega arith) (tile.rows.filled o t h f);
          };
          lines = hk;
          tiled = λ o t h f u. by_lt o k (λ b. stays o t (omega arith) (tile.tiled o t b f u)) (λ b. comes o t b h f u);
        }

  pub tile_to : (val : List A) (from until k j : ℕ) → Tiled val from until k → k ≡ j → Tiled val from until j
  tile_to val from until k j tile e = subst (λ (x : ℕ). Tiled val from until x) e tile

  pub tile_all : (val : List A) (from until k : ℕ) → Tiled val from until k → outer ≤ k → until ≤ inner → Rows g d outer inner val until
  tile_all val from until k tile h u =
      record {
        long = tile.rows.long;
        bound = u;
        filled = λ o t b c. by_lt t from (λ f. tile.rows.filled o t b f) (λ f. tile.tiled o t (omega arith) f c);
      }

  -- at the end the list is the matrix by place
  pub rows_all : (val : List A) (from : ℕ) → Rows g d outer inner val from → inner ≤ from → val ≡ tabulate (outer * inner) (λ p. g (p / inner) (p % inner))
  rows_all val from r h =
      is_tabulate val (outer * inner) (λ p. g (p / inner) (p % inner)) d r.long
      (λ p b.
      ap (λ (k : ℕ). get_or val k d) (sym (div-add-mod' p inner))
      ∙ r.filled (p / inner) (p % inner) (line_of p b) (place_of p b))
    where
      line_of : (p : ℕ) → p < outer * inner → p / inner < outer
      line_of p b = (div-lt_iff_lt-mul (some_inner outer inner p b)).1 b

      place_of : (p : ℕ) → p < outer * inner → p % inner < from
      place_of p b = let m : p % inner < inner = mod-lt p (some_inner outer inner p b) in omega arith

-- ---- the matrix that is read, by its lines
module _ {A : Type 0} (v : ℕ → A) (file : List ℕ) (shape : Shape) (outer inner : List ℤ) where
  pub all_read :
      (animals : Bool) (val : List A)
      → val ≡ tabulate (length outer * length inner) (λ p. line_value animals v file shape outer inner (p / length inner) (p % length inner))
      → val ≡ map v (lines_read animals file shape outer inner)
  unfolding line_value codes_read matrix
  all_read true val e = e ∙ sym (map_tabulate v (length outer * length inner) (λ p. read_code file shape.iids shape.sids outer inner (p / length inner) (p % length inner)))
  all_read false val e =
      e
      ∙ ap (λ (n : ℕ). tabulate n (λ p. v (read_code file shape.iids shape.sids inner outer (p % length inner) (p / length inner)))) (mul_comm (length outer) (length inner))
      ∙ sym (map_tabulate v (length inner * length outer) (λ p. read_code file shape.iids shape.sids inner outer (p % length inner) (p / length inner)))
