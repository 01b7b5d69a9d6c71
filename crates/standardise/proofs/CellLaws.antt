-- Matrices that are changed cell by cell.
use mathlib.Core.Path.{◌≡◌, refl, sym, ap, ◌∙◌}
use mathlib.Core.Bool.{Bool, true, false, cond}
use mathlib.Core.List.{List}
use Prim.Native.Nat.{ℕ, suc, ◌+◌, ◌*◌, ◌/◌, ◌%◌, ◌<◌, ◌≤◌}
use native.Mathlib.Nat.{mul_comm, div-add-mod', div-lt_iff_lt-mul, mod-lt, zero-mul, pos_of_ne-zero, mul-zero}
use native.Mathlib.Omega.{arith}
use lib.Dec.{ltb}
use lib.ListN.{length, get_or}
use lib.Seq.{ext_get_or}
use lib.Ieee.{Float, nan}
use borrow.Author.Tests.{lt-ltb, le-ltb}
use Rattle.answer.specs.Matrix.{matrix_place, matrix}
use Rattle.answer.proofs.Tests.{leb_both}
use Rattle.answer.proofs.MatrixLaws.{length_matrix, place_below, get_d_matrix, matrix_ext}
use Rattle.standardise.specs.Private.{written}
use Rattle.standardise.proofs.StoreLaws.{length_written, get_d_written}

-- each place inside is that of a row and a column
place_of : (order : Bool) (rows cols p : ℕ) → p < rows * cols → (i : ℕ) × (m : ℕ) × (i < rows) × (m < cols) × (matrix_place order rows cols i m ≡ p)
unfolding matrix_place
place_of true rows cols p h =
    let c : 0 < cols = pos_of_ne-zero (λ e. let z : rows * cols ≡ 0 = ap (λ (x : ℕ). rows * x) e ∙ mul-zero rows in omega arith) in
    (p / cols, p % cols, (div-lt_iff_lt-mul c).1 h, mod-lt p c, div-add-mod' p cols)
place_of false rows cols p h =
    let r : 0 < rows = pos_of_ne-zero (λ e. let z : rows * cols ≡ 0 = ap (λ (x : ℕ). x * cols) e ∙ zero-mul cols in omega arith) in
    let s : p < cols * rows = (let c : rows * cols ≡ cols * rows = mul_comm rows cols in omega arith) in
    (p % rows, p / rows, mod-lt p r, (div-lt_iff_lt-mul r).1 s, div-add-mod' p rows)

module _ (order : Bool) (rows cols : ℕ) where
  -- a list is a matrix if it has its cells
  pub is_matrix : (xs : List Float) (h : ℕ → ℕ → Float) → length xs ≡ rows * cols
      → ((i m : ℕ) → i < rows → m < cols → get_or xs (matrix_place order rows cols i m) nan ≡ h i m) → xs ≡ matrix order rows cols h
  is_matrix xs h l e = ext_get_or nan xs (matrix order rows cols h) (l ∙ sym (length_matrix order rows cols h)) (λ p b. at_place p (place_of order rows cols p (omega arith)))
    where
      at_place : (p : ℕ) → (i : ℕ) × (m : ℕ) × (i < rows) × (m < cols) × (matrix_place order rows cols i m ≡ p) → get_or xs p nan ≡ get_or (matrix order rows cols h) p nan
      at_place p (i, m, a, b, q) =
          ap (λ (x : ℕ). get_or xs x nan) (sym q)
          ∙ e i m a b
          ∙ sym (get_d_matrix rows cols i m rows_ok cols_ok order h nan)
          ∙ ap (λ (x : ℕ). get_or (matrix order rows cols h) x nan) q
        where
          rows_ok : i < rows
          rows_ok = a

          cols_ok : m < cols
          cols_ok = b

  -- a matrix of its own cells
  pub own_cells : (xs : List Float) → length xs ≡ rows * cols → xs ≡ matrix order rows cols (λ i m. get_or xs (matrix_place order rows cols i m) nan)
  own_cells xs l = is_matrix xs (λ i m. get_or xs (matrix_place order rows cols i m) nan) l (λ i m a b. refl)

  -- stores in cells: the cells that were met have the new value, the others the old one
  pub written_cells : (g h : ℕ → ℕ → Float) (a b : ℕ → ℕ) (v : ℕ → Float) (k : ℕ)
      → ((j : ℕ) → j < k → a j < rows) → ((j : ℕ) → j < k → b j < cols)
      → ((j : ℕ) → j < k → v j ≡ h (a j) (b j))
      → ((i m : ℕ) → i < rows → m < cols → ((j : ℕ) → j < k → a j ≡ i → b j ≡ m → ⊥) → g i m ≡ h i m)
      → written (matrix order rows cols g) (λ j. matrix_place order rows cols (a j) (b j)) v k ≡ matrix order rows cols h
  written_cells g h a b v k A B new old =
      is_matrix (written xs place v k) h (length_written xs place v k ∙ length_matrix order rows cols g) (λ i m hi hm. cell i m hi hm)
    where
      xs : List Float
      xs = matrix order rows cols g

      place : ℕ → ℕ
      place j = matrix_place order rows cols (a j) (b j)

      target : List Float
      target = matrix order rows cols h

      cell : (i m : ℕ) → i < rows → m < cols → get_or (written xs place v k) (matrix_place order rows cols i m) nan ≡ h i m
      cell i m hi hm =
          get_d_written xs place v k (matrix_place order rows cols i m) (h i m)
          (λ j l. let z : length xs ≡ rows * cols = length_matrix order rows cols g in let y : place j < rows * cols = place_below rows cols (a j) (b j) (A j l) (B j l) order in omega arith)
          (λ j l e.
          new j l
          ∙ sym (get_d_matrix rows cols (a j) (b j) (A j l) (B j l) order h nan)
          ∙ ap (λ (x : ℕ). get_or target x nan) e
          ∙ get_d_matrix rows cols i m hi hm order h nan)
          (λ none. get_d_matrix rows cols i m hi hm order g nan ∙ old i m hi hm (λ j l p q. none j l (ap (λ (x : ℕ). matrix_place order rows cols x (b j)) p ∙ ap (matrix_place order rows cols i) q)))

-- the columns below n are new, the others old
unfoldable pub up_to : ℕ → (ℕ → ℕ → Float) → (ℕ → ℕ → Float) → ℕ → ℕ → Float
up_to n new old i m = cond (ltb m n) (new i m) (old i m)

module _ (new old : ℕ → ℕ → Float) where
  pub up_to_below : (n i m : ℕ) → m < n → up_to n new old i m ≡ new i m
  unfolding up_to
  up_to_below n i m h = rw (lt-ltb m n h)

  pub up_to_above : (n i m : ℕ) → n ≤ m → up_to n new old i m ≡ old i m
  unfolding up_to
  up_to_above n i m h = rw (le-ltb m n h)

  pub up_to_other : (n k i m : ℕ) → (m < n → m < k) → (m < k → m < n) → up_to n new old i m ≡ up_to k new old i m
  unfolding up_to
  up_to_other n k i m a b = ap (λ (t : Bool). cond t (new i m) (old i m)) (leb_both (suc m) n (suc m) k a b)

-- columns in marker order, one after the other
module _ (rows cols : ℕ) (new old : ℕ → ℕ → Float) where
  pub column_more : (m : ℕ) → m < cols → (v : ℕ → Float) → ((i : ℕ) → i < rows → v i ≡ new i m)
      → written (matrix false rows cols (up_to m new old)) (λ i. m * rows + i) v rows ≡ matrix false rows cols (up_to (m + 1) new old)
  unfolding matrix_place
  column_more m h v e =
      written_cells false rows cols (up_to m new old) (up_to (m + 1) new old) (λ j. j) (λ j. m) v rows (λ j l. l) (λ j l. h)
      (λ j l. e j l ∙ sym (up_to_below new old (m + 1) j m (omega arith)))
      (λ i k hi hk none. let d : m ≡ k → ⊥ = none i hi refl in up_to_other new old m (m + 1) i k (λ l. omega arith) (λ l. omega arith))

  -- what a column holds that was not reached
  pub column_old : (m i : ℕ) → m < cols → i < rows → get_or (matrix false rows cols (up_to m new old)) (m * rows + i) nan ≡ old i m
  unfolding matrix_place
  column_old m i hm hi = get_d_matrix rows cols i m hi hm false (up_to m new old) nan ∙ up_to_above new old m i m (omega arith)

module _ (order : Bool) (rows cols : ℕ) (new old : ℕ → ℕ → Float) where
  pub none_new : matrix order rows cols old ≡ matrix order rows cols (up_to 0 new old)
  none_new = matrix_ext order rows cols old (up_to 0 new old) (λ i m a b. sym (up_to_above new old 0 i m (omega arith)))

  pub all_new : (n : ℕ) → cols ≤ n → matrix order rows cols (up_to n new old) ≡ matrix order rows cols new
  all_new n l = matrix_ext order rows cols (up_to n new old) new (λ i m a b. up_to_below new old n i m (omega arith))
