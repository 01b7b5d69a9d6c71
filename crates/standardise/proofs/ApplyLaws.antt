-- Applying in animal order: neighbouring markers, animal by animal.
use mathlib.Core.Path.{◌≡◌, refl, sym, ap, ◌∙◌}
use mathlib.Core.Bool.{Bool, true, false, ◌&&◌, cond}
use mathlib.Core.List.{List}
use Prim.Native.Nat.{ℕ, suc, ◌+◌, ◌-◌, ◌*◌, ◌<◌, ◌≤◌}
use native.Mathlib.Nat.{add_assoc}
use native.Mathlib.Omega.{arith}
use lib.Dec.{ltb, leb, eqb}
use lib.ListN.{length, get_or, set}
use lib.Seq.{get_or-set_same, get_or-set_other}
use lib.Ieee.{Float, nan, Format, div}
use borrow.Author.Tests.{eqb-true, eqb-false, lt-ltb, le-ltb, le-leb, lt-leb}
use Rattle.answer.specs.Matrix.{matrix_place, matrix}
use Rattle.answer.proofs.Tests.{by_test, by_lt, leb_both}
use Rattle.answer.proofs.MatrixLaws.{length_matrix, get_d_matrix, matrix_ext}
use Rattle.statistics.specs.declared.Stats.{Stats}
use Rattle.statistics.specs.declared.Scale.{Scale}
use Rattle.standardise.specs.declared.animal_order.Scales.{Scales}
use Rattle.statistics.specs.Statistics.{one, is_infinite, standardised, stats_at}
use Rattle.standardise.specs.Standardised.{value}
use Rattle.standardise.specs.Private.{scale_at, scale_of, scaled_at, written, from, markers_applied, all_applied}
use Rattle.statistics.specs.Statistics.{scaled_by}
use Rattle.standardise.proofs.StoreLaws.{written_places}
use Rattle.standardise.proofs.CellLaws.{own_cells, written_cells, up_to, up_to_below, up_to_above, none_new, all_new}
use Rattle.standardise.proofs.ChoiceLaws.{scaled_standardised}

-- ---- what is loaded
-- a tile after a store
abbrev pub scales_set : Scales → ℕ → Stats → Float → Scales
scales_set t j s d = record { means = set t.means j s.mean; deviations = set t.deviations j s.deviation; factors = set t.factors j d }

scale : Float → Float → Bool → Scale
scale x y b = record { mean = x; factor = y; infinite = b }

pub loaded_more : (f : Format) (st : ℕ → Stats) (t : Scales) (j : ℕ) (s : Stats) (d : Float)
    → j < length t.means → j < length t.deviations → j < length t.factors
    → ((k : ℕ) → k < j → scale_at t k ≡ scale_of f (st k)) → s ≡ st j → d ≡ div f one s.deviation
    → (k : ℕ) → k < j + 1 → scale_at (scales_set t j s d) k ≡ scale_of f (st k)
unfolding scale
loaded_more f st t j s d a b c p e g k h = by_test (eqb k j) (λ q. same (eqb-true k j q)) (λ q. other (eqb-false k j q))
  where
    same : k ≡ j → scale_at (scales_set t j s d) k ≡ scale_of f (st k)
    same q =
        ap (scale_at (scales_set t j s d)) q
        ∙ (λ i. scale (get_or-set_same t.means j s.mean nan a i) (get_or-set_same t.factors j d nan c i) (is_infinite (get_or-set_same t.deviations j s.deviation nan b i)))
        ∙ ap (λ (x : Float). scale s.mean x (is_infinite s.deviation)) g
        ∙ ap (scale_of f) (e ∙ ap st (sym q))

    other : (k ≡ j → ⊥) → scale_at (scales_set t j s d) k ≡ scale_of f (st k)
    other n =
        (λ i. scale (get_or-set_other t.means j k s.mean nan n i) (get_or-set_other t.factors j k d nan n i) (is_infinite (get_or-set_other t.deviations j k s.deviation nan n i)))
        ∙ p k (omega arith)

-- what is loaded standardises
pub loaded_scales : (f : Format) (s : Stats) (t : Scales) (j : ℕ) (v : Float) → scale_at t j ≡ scale_of f s → scaled_at f t j v ≡ standardised f s v
unfolding scaled_at
loaded_scales f s t j v p =
    ap (λ (x : Scale). scaled_by f x.mean x.factor x.infinite v) p
    ∙ scaled_standardised f s (div f one s.deviation) (is_infinite s.deviation) refl refl v

-- ---- the animals below r have the markers of the tile changed
module _ (iids sids base width : ℕ) (new old : ℕ → ℕ → Float) where
  unfoldable pub in_tile : ℕ → Bool
  in_tile m = leb base m && ltb m (base + width)

  inside : (m : ℕ) → base ≤ m → m < base + width → in_tile m ≡ true
  unfolding in_tile
  inside m a b = simp (le-leb base m a, lt-ltb m (base + width) b)

  unfoldable pub tile_to : ℕ → ℕ → ℕ → Float
  unfolding in_tile
  tile_to r i m = cond (in_tile m) (cond (ltb i r) (new i m) (old i m)) (old i m)

  tile_old : (r i m : ℕ) → r ≤ i → tile_to r i m ≡ old i m
  unfolding tile_to
  tile_old r i m h = ap (λ (b : Bool). cond (in_tile m) (cond b (new i m) (old i m)) (old i m)) (le-ltb i r h) ∙ both (in_tile m)
    where
      both : (b : Bool) → cond b (old i m) (old i m) ≡ old i m
      both true = refl
      both false = refl

  tile_new : (r i m : ℕ) → i < r → base ≤ m → m < base + width → tile_to r i m ≡ new i m
  unfolding tile_to
  tile_new r i m h a b = ap (λ (t : Bool). cond t (cond (ltb i r) (new i m) (old i m)) (old i m)) (inside m a b) ∙ ap (λ (t : Bool). cond t (new i m) (old i m)) (lt-ltb i r h)

  tile_outside : (r q i m : ℕ) → (base ≤ m → m < base + width → ⊥) → tile_to r i m ≡ tile_to q i m
  unfolding tile_to in_tile
  tile_outside r q i m n = by_lt m base (λ l. go (lt-leb base m l)) (λ l. by_lt m (base + width) (λ k. absurd (n l k)) (λ k. go2 (le-leb base m l) (le-ltb m (base + width) k)))
    where
      go : leb base m ≡ false → cond (leb base m && ltb m (base + width)) (cond (ltb i r) (new i m) (old i m)) (old i m) ≡ cond (leb base m && ltb m (base + width)) (cond (ltb i q) (new i m) (old i m)) (old i m)
      go e = rw e

      go2 : leb base m ≡ true → ltb m (base + width) ≡ false
          → cond (leb base m && ltb m (base + width)) (cond (ltb i r) (new i m) (old i m)) (old i m) ≡ cond (leb base m && ltb m (base + width)) (cond (ltb i q) (new i m) (old i m)) (old i m)
      go2 e g = rw (e, g)

  tile_other : (r i m : ℕ) → (i ≡ r → ⊥) → tile_to r i m ≡ tile_to (r + 1) i m
  unfolding tile_to
  tile_other r i m n = ap (λ (t : Bool). cond (in_tile m) (cond t (new i m) (old i m)) (old i m)) (leb_both (suc i) r (suc i) (r + 1) (λ l. omega arith) (λ l. omega arith))

  pub tile_start : matrix true iids sids old ≡ matrix true iids sids (tile_to 0)
  tile_start = matrix_ext true iids sids old (tile_to 0) (λ i m a b. sym (tile_old 0 i m (omega arith)))

  pub tile_row : (r : ℕ) → r < iids → base + width ≤ sids → (v : ℕ → Float) → ((j : ℕ) → j < width → v j ≡ new r (base + j))
      → written (matrix true iids sids (tile_to r)) (λ j. r * sids + base + j) v width ≡ matrix true iids sids (tile_to (r + 1))
  unfolding matrix_place
  tile_row r h k v e =
      written_places (matrix true iids sids (tile_to r)) (λ j. r * sids + base + j) (λ j. r * sids + (base + j)) v width (λ j. add_assoc (r * sids) base j)
      ∙ written_cells true iids sids (tile_to r) (tile_to (r + 1)) (λ j. r) (λ j. base + j) v width (λ j l. h) (λ j l. omega arith)
      (λ j l. e j l ∙ sym (tile_new (r + 1) r (base + j) (omega arith) (omega arith) (omega arith)))
      (λ i m hi hm none. by_test (eqb i r) (λ t. row_other i m none (eqb-true i r t)) (λ t. tile_other r i m (eqb-false i r t)))
    where
      row_other : (i m : ℕ) → ((j : ℕ) → j < width → r ≡ i → base + j ≡ m → ⊥) → i ≡ r → tile_to r i m ≡ tile_to (r + 1) i m
      row_other i m none q = tile_outside r (r + 1) i m (λ a b. none (m - base) (omega arith) (sym q) (omega arith))

  -- what the row holds before it is changed
  pub tile_row_old : (r j : ℕ) → r < iids → base + width ≤ sids → j < width → get_or (matrix true iids sids (tile_to r)) (r * sids + base + j) nan ≡ old r (base + j)
  unfolding matrix_place
  tile_row_old r j h k l =
      ap (λ (x : ℕ). get_or (matrix true iids sids (tile_to r)) x nan) (add_assoc (r * sids) base j)
      ∙ get_d_matrix iids sids r (base + j) h (omega arith) true (tile_to r) nan
      ∙ tile_old r r (base + j) (omega arith)

  pub tile_end : (r : ℕ) → iids ≤ r → matrix true iids sids (tile_to r) ≡ matrix true iids sids (λ i m. cond (in_tile m) (new i m) (old i m))
  unfolding tile_to
  tile_end r h =
      matrix_ext true iids sids (tile_to r) (λ i m. cond (in_tile m) (new i m) (old i m))
      (λ i m a b. ap (λ (t : Bool). cond (in_tile m) (cond t (new i m) (old i m)) (old i m)) (lt-ltb i r (omega arith)))

  -- a tile more
  pub tile_passed : (i m : ℕ) → (x : Float) → x ≡ up_to base new old i m → (change : Float → Float) → change (old i m) ≡ new i m
      → cond (in_tile m) (change x) x ≡ up_to (base + width) new old i m
  unfolding in_tile
  tile_passed i m x e change g = by_lt m base (λ l. low l (lt-leb base m l)) (λ l. by_lt m (base + width) (λ k. mid l k (le-leb base m l) (lt-ltb m (base + width) k)) (λ k. high k (le-leb base m l) (le-ltb m (base + width) k)))
    where
      low : m < base → leb base m ≡ false → cond (leb base m && ltb m (base + width)) (change x) x ≡ up_to (base + width) new old i m
      low l t = ap (λ (b : Bool). cond (b && ltb m (base + width)) (change x) x) t ∙ e ∙ up_to_below new old base i m l ∙ sym (up_to_below new old (base + width) i m (omega arith))

      mid : base ≤ m → m < base + width → leb base m ≡ true → ltb m (base + width) ≡ true → cond (leb base m && ltb m (base + width)) (change x) x ≡ up_to (base + width) new old i m
      mid l k t u =
          ap (λ (b : Bool). cond (b && ltb m (base + width)) (change x) x) t
          ∙ ap (λ (b : Bool). cond b (change x) x) u
          ∙ ap change (e ∙ up_to_above new old base i m l)
          ∙ g
          ∙ sym (up_to_below new old (base + width) i m k)

      high : base + width ≤ m → leb base m ≡ true → ltb m (base + width) ≡ false → cond (leb base m && ltb m (base + width)) (change x) x ≡ up_to (base + width) new old i m
      high k t u =
          ap (λ (b : Bool). cond (b && ltb m (base + width)) (change x) x) t
          ∙ ap (λ (b : Bool). cond b (change x) x) u
          ∙ e
          ∙ up_to_above new old base i m (omega arith)
          ∙ sym (up_to_above new old (base + width) i m k)

pub row_applied : (xs : List Float) (start n i : ℕ) (v : ℕ → Float) (ys : List Float) → ys ≡ written xs (λ k. start + k) v i → i ≤ n → n ≤ i → ys ≡ written xs (λ k. start + k) v n
row_applied xs start n i v ys e h k = let z : i ≡ n = omega arith in e ∙ ap (written xs (λ k. start + k) v) z

-- ---- a tile's rows, and the tiles
module _ (f : Format) (iids sids : ℕ) (stats val : List Float) where
  abbrev old_cell : ℕ → ℕ → Float
  old_cell i m = value true iids sids val i m

  abbrev new_cell : ℕ → ℕ → Float
  new_cell i m = standardised f (stats_at stats m) (value true iids sids val i m)

  own : iids * sids ≡ length val → val ≡ matrix true iids sids old_cell
  unfolding value
  own l = own_cells true iids sids val (sym l)

  module _ (base width : ℕ) where
    abbrev pub RowsPassed : ℕ → List Float → Type 0
    RowsPassed r now = now ≡ matrix true iids sids (tile_to iids sids base width new_cell old_cell r)

    pub rows_none : iids * sids ≡ length val → RowsPassed 0 val
    rows_none l = own l ∙ tile_start iids sids base width new_cell old_cell

    pub rows_length : (r : ℕ) (now : List Float) → RowsPassed r now → length now ≡ iids * sids
    rows_length r now e = ap length e ∙ length_matrix true iids sids (tile_to iids sids base width new_cell old_cell r)

    pub rows_more_law : (r : ℕ) (now later : List Float) (t : Scales) → r < iids → base + width ≤ sids → RowsPassed r now
        → ((j : ℕ) → j < width → scale_at t j ≡ scale_of f (stats_at stats (base + j)))
        → later ≡ written now (λ j. r * sids + base + j) (λ j. scaled_at f t j (from now (r * sids + base) j)) width
        → RowsPassed (r + 1) later
    rows_more_law r now later t h k e g w =
        w
        ∙ ap (λ (x : List Float). written x (λ j. r * sids + base + j) (λ j. scaled_at f t j (from now (r * sids + base) j)) width) e
        ∙ tile_row iids sids base width new_cell old_cell r h k (λ j. scaled_at f t j (from now (r * sids + base) j))
        (λ j l.
        loaded_scales f (stats_at stats (base + j)) t j (from now (r * sids + base) j) (g j l)
        ∙ ap (standardised f (stats_at stats (base + j)))
        (ap (λ (x : List Float). get_or x (r * sids + base + j) nan) e ∙ tile_row_old iids sids base width new_cell old_cell r j h k l))

    pub rows_all : (r : ℕ) (now : List Float) → RowsPassed r now → iids ≤ r → now ≡ markers_applied f iids sids stats base width val
    unfolding markers_applied in_tile
    rows_all r now e h = e ∙ tile_end iids sids base width new_cell old_cell r h

  abbrev pub TilesPassed : ℕ → List Float → Type 0
  TilesPassed m now = now ≡ matrix true iids sids (up_to m new_cell old_cell)

  pub tiles_none : iids * sids ≡ length val → TilesPassed 0 val
  tiles_none l = own l ∙ none_new true iids sids new_cell old_cell

  pub tiles_length : (m : ℕ) (now : List Float) → TilesPassed m now → length now ≡ iids * sids
  tiles_length m now e = ap length e ∙ length_matrix true iids sids (up_to m new_cell old_cell)

  pub tiles_more : (base width : ℕ) (now later : List Float) → TilesPassed base now → later ≡ markers_applied f iids sids stats base width now → TilesPassed (base + width) later
  unfolding markers_applied value in_tile
  tiles_more base width now later e w =
      w
      ∙ matrix_ext true iids sids
      (λ i m. cond (leb base m && ltb m (base + width)) (standardised f (stats_at stats m) (get_or now (matrix_place true iids sids i m) nan)) (get_or now (matrix_place true iids sids i m) nan))
      (up_to (base + width) new_cell old_cell)
      (λ i m a b.
      tile_passed iids sids base width new_cell old_cell i m (get_or now (matrix_place true iids sids i m) nan)
      (ap (λ (x : List Float). get_or x (matrix_place true iids sids i m) nan) e ∙ get_d_matrix iids sids i m a b true (up_to base new_cell old_cell) nan)
      (standardised f (stats_at stats m)) refl)

  pub tiles_all : (m : ℕ) (now : List Float) → TilesPassed m now → sids ≤ m → now ≡ all_applied f iids sids stats val
  unfolding all_applied
  tiles_all m now e h = e ∙ all_new true iids sids new_cell old_cell m h
