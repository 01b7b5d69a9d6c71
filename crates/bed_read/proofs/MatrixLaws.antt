-- Reading line by line into the tiles of a matrix, over any type of values.
use mathlib.Core.Path.{◌≡◌, refl, sym, ap, ◌∙◌}
use mathlib.Core.Bool.{Bool, true, not}
use mathlib.Core.List.{List, map}
use Prim.Native.Nat.{ℕ, zero, suc, ◌+◌, ◌-◌, ◌*◌, ◌/◌, ◌%◌, ◌<◌, ◌≤◌}
use native.Mathlib.Nat.{add-mul}
use native.Mathlib.Omega.{arith}
use lib.IntN.{ℤ}
use lib.ListN.{length, get_or}
use Rattle.calls.specs.declared.Shape.{Shape}
use Rattle.calls.specs.Places.{is_block}
use Rattle.calls.specs.declared.parts.Parts.{Parts}
use Rattle.calls.specs.Lists.{Ready, entry_byte, entry_place, is_along_block, EntryParts, Inside}
use Rattle.calls.proofs.ListLaws.{block_place, parts_inside}
use Rattle.bed_read.specs.Private.{value_in, place_value, line_value, lines_read, Drawn, ReadTo}
use Rattle.bed_read.proofs.PartLaws.{parts_value, along_value}
use Rattle.bed_read.proofs.TileLaws.{Tiled, tile_more, rows_all, all_read}

-- the matrix that is read: every line up to `from`, and the lines before line o up to `until`
abbrev pub ReadTile : {A : Type 0} → Bool → List A → A → List ℕ → Shape → List ℤ → List ℤ → List A → ℕ → ℕ → ℕ → Type 0
ReadTile animals table d file shape outer inner = Tiled (line_value animals (value_in table d) file shape outer inner) d (length outer) (length inner)

-- place t of line o + j, where lines are n places long
placed : (o j t from n : ℕ) → o * n + from + j * n + t ≡ (o + j) * n + (from + t)
placed o j t from n = let s : (o + j) * n ≡ o * n + j * n = add-mul o j n in omega arith

module _ {A : Type 0} (table : List A) (d : A) (file : List ℕ) (shape : Shape) (animals : Bool) (outer inner : List ℤ) (r : Ready file shape animals outer inner)
    (val new : List A) (o : ℕ) where
  -- a line whose places are items in animals
  pub block_read :
      is_along_block shape (not animals) inner ≡ true → (byte : ℕ) → byte ≡ entry_byte shape animals outer o → o < length outer
      → Drawn d 1 (length inner) (λ _ k. o * length inner + k) (λ _ k. place_value (value_in table d) file (byte + k / 4) (k % 4)) val (length inner) new
      → ReadTile animals table d file shape outer inner val 0 (length inner) o
      → ReadTile animals table d file shape outer inner new 0 (length inner) (o + 1)
  block_read i byte eb h f t =
      tile_more _ d _ _ val new 0 (length inner) o 1 (length inner) _ _ (omega arith) t f (omega arith) (omega arith)
      (λ j k b c. let e = placed o j k 0 (length inner) in let z : j * length inner ≡ 0 = first j b in omega arith)
      (λ j k b c.
      along_value (value_in table d) file shape animals outer inner r i o byte h eb k (omega arith)
      ∙ ap (λ (x : ℕ). line_value animals (value_in table d) file shape outer inner x k) (let z = only j b in omega arith)
      ∙ ap (line_value animals (value_in table d) file shape outer inner (o + j)) (omega arith))
    where
      only : (j : ℕ) → j < 1 → j ≡ 0
      only j b = omega arith

      first : (j : ℕ) → j < 1 → j * length inner ≡ 0
      first zero b = omega arith
      first (suc j) b = absurd (omega arith)

  module _ (from until : ℕ) (parts : Parts) (u : until ≤ length inner) (s : EntryParts shape (not animals) inner from until parts)
      (t : ReadTile animals table d file shape outer inner val from until o) where
    -- a line with a resolved tile
    pub line_read :
        (byte place : ℕ) → byte ≡ entry_byte shape animals outer o → place ≡ entry_place shape animals outer o → o < length outer
        → Drawn d 1 (until - from) (λ _ k. o * length inner + from + k) (λ _ k. place_value (value_in table d) file (byte + get_or parts.bytes k 0) (place + get_or parts.places k 0)) val (until - from) new
        → ReadTile animals table d file shape outer inner new from until (o + 1)
    line_read byte place eb ep h f =
        tile_more _ d _ _ val new from until o 1 (until - from) _ _ refl t f (omega arith) u
        (λ j k b c. let e = placed o j k from (length inner) in let z : j * length inner ≡ 0 = first j b in omega arith)
        (λ j k b c.
        parts_value (value_in table d) file shape animals outer inner r from until parts s u o byte place h eb ep k c
        ∙ ap (λ (x : ℕ). line_value animals (value_in table d) file shape outer inner x (from + k)) (let z = only j b in omega arith))
      where
        only : (j : ℕ) → j < 1 → j ≡ 0
        only j b = omega arith

        first : (j : ℕ) → j < 1 → j * length inner ≡ 0
        first zero b = omega arith
        first (suc j) b = absurd (omega arith)

    -- four lines that are blocks
    module _ (starts : List ℕ) (es : (j : ℕ) → j < 4 → get_or starts j 0 ≡ entry_byte shape animals outer (o + j)) (blocks : is_block shape.mode1 animals ≡ true)
        (h : o + 4 ≤ length outer) where
      pub four_inside : until - from ≤ 2048 → (j : ℕ) → j < 4 → Inside file (get_or starts j 0) 0 parts (until - from)
      four_inside m j b =
          parts_inside file shape animals outer inner r from until parts s u (o + j) (get_or starts j 0) 0 (omega arith) (es j b)
          (sym (block_place shape animals outer (o + j) blocks)) m

      pub four_read :
          Drawn d 4 (until - from) (λ j k. o * length inner + from + j * length inner + k) (λ j k. place_value (value_in table d) file (get_or starts j 0 + get_or parts.bytes k 0) (get_or parts.places k 0)) val (until - from) new
          → ReadTile animals table d file shape outer inner new from until (o + 4)
      four_read f =
          tile_more _ d _ _ val new from until o 4 (until - from) _ _ refl t f h u (λ j k b c. placed o j k from (length inner))
          (λ j k b c.
          ap (place_value (value_in table d) file (get_or starts j 0 + get_or parts.bytes k 0)) (omega arith)
          ∙ parts_value (value_in table d) file shape animals outer inner r from until parts s u (o + j) (get_or starts j 0) 0 (omega arith) (es j b)
          (sym (block_place shape animals outer (o + j) blocks)) k c)

-- ---- the whole matrix
module _ {A : Type 0} (table : List A) (d : A) (file : List ℕ) (shape : Shape) (animals : Bool) (outer inner : List ℤ) (val : List A) where
  pub read_all : (from : ℕ) → ReadTo animals table d file shape outer inner val from → length inner ≤ from → val ≡ map (value_in table d) (lines_read animals file shape outer inner)
  read_all from r h = all_read (value_in table d) file shape outer inner animals val (rows_all _ d _ _ val from r h)
