-- Laws of a piece with n products more in each entry of a block.
use mathlib.Core.Path.{◌≡◌, refl, sym, ap, ◌∙◌}
use mathlib.Core.Bool.{Bool, true, false, cond}
use mathlib.Core.List.{List}
use mathlib.Core.Logic.{◌⊎◌, inl, inr, ⊎_elim}
use Prim.Native.Nat.{ℕ, ◌+◌, ◌-◌, ◌*◌, ◌/◌, ◌%◌, ◌≤◌, ◌<◌, min}
use native.Mathlib.Nat.{div-add-mod', mod-lt, min-eq_left, min-eq_right}
use native.Mathlib.Omega.{arith}
use lib.ListN.{length, get_or, take, drop}
use lib.Seq.{get_or-take, get_or-drop}
use lib.Arith.{digits_div, digits_mod}
use lib.Ieee.{Float, nan, Format}
use borrow.Author.Tests.{le-leb, lt-leb, lt-ltb, le-ltb}
use Rattle.answer.specs.Lists.{tabulate}
use Rattle.answer.proofs.Tabulate.{length_tabulate, get_d_tabulate, is_tabulate}
use Rattle.product.specs.Private.{sum_more, row_more, in_block, block_more, Put}
use Rattle.product.proofs.PartLaws.{below_or, length_part}
use Rattle.product.proofs.GridLaws.{row_in}
use Rattle.product.proofs.SumLaws.{sum_add, sum_ext}
use Rattle.product.proofs.RowLaws.{length_row, taken_grown}

module _ (top bottom left right : ℕ) where
  -- entry (r, c) is in the block
  abbrev pub Inside : ℕ → ℕ → Type 0
  Inside r c = (c ≤ r) × (top ≤ r) × (r < bottom) × (left ≤ c) × (c < right)

  inside : (r c : ℕ) → Inside r c → in_block top bottom left right r c ≡ true
  inside r c h = simp (le-leb c r h.0, le-leb top r h.1, lt-ltb r bottom h.2, le-leb left c h.3, lt-ltb c right h.4)

  pub inside_or : (r c : ℕ) → Inside r c ⊎ ((Inside r c → ⊥) × (in_block top bottom left right r c ≡ false))
  inside_or r c =
      ⊎_elim (λ a. inr (λ h. omega arith, simp (lt-leb c r a)))
      (λ a. ⊎_elim (λ b. inr (λ h. omega arith, simp (le-leb c r a, lt-leb top r b)))
      (λ b. ⊎_elim (λ d. ⊎_elim (λ e. inr (λ h. omega arith, simp (le-leb c r a, le-leb top r b, lt-ltb r bottom d, lt-leb left c e)))
      (λ e. ⊎_elim (λ g. inl (a, b, d, e, g)) (λ g. inr (λ h. omega arith, simp (le-leb c r a, le-leb top r b, lt-ltb r bottom d, le-leb left c e, le-ltb c right g))) (below_or c right))
      (below_or c left))
      (λ d. inr (λ h. omega arith, simp (le-leb c r a, le-leb top r b, le-ltb r bottom d)))
      (below_or r bottom))
      (below_or r top))
      (below_or r c)

-- how many rows from row r on are above the diagonal in column c
module _ (r c above : ℕ) (e : above ≡ c - r) where
  pub from_diagonal : (c ≤ r + above) × ((x : ℕ) → c ≤ x → r ≤ x → r + above ≤ x)
  from_diagonal = (omega arith, λ x h h'. omega arith)

  pub some_below : (m : ℕ) → 0 < m → c < r + m → above < m
  some_below m h h' = omega (arith, from_diagonal.1 (r + m - 1) (omega arith) (omega arith))

  -- the places of the others
  pub below_places : (m b w len : ℕ) → r + m ≡ b → 0 < m → c < w → c < b → b * w ≤ len → (above * w ≤ len) × (r * w + c + above * w < len) × ((i : ℕ) → i < m - above → r * w + c + above * w + i * w < len)
  below_places m b w len q h h' h'' l =
      let z : (r + above) * w + w ≤ b * w = row_in b w (r + above) (omega (arith, some_below m h (omega arith))) in
      (omega arith, omega arith, λ i g. let z' : (r + (above + i)) * w + w ≤ b * w = row_in b w (r + (above + i)) (omega arith) in omega arith)

module _ (f : Format) (w : ℕ) (v : ℕ → ℕ → Float) (n : ℕ) where
  -- the entry at place p with its products
  abbrev pub more : List Float → ℕ → Float
  more l p = sum_more f (get_or l p nan) (v (p / w)) (v (p % w)) n

  entry : ℕ → ℕ → ℕ → ℕ → List Float → ℕ → Float
  entry t b l r old p = cond (in_block t b l r (p / w) (p % w)) (more old p) (get_or old p nan)

  pub length_block : (t b l r : ℕ) (old : List Float) → length (block_more f w v n t b l r old) ≡ length old
  unfolding block_more entry
  length_block t b l r old = length_tabulate (length old) (entry t b l r old)

  module _ (t b l r : ℕ) (old new : List Float) (e : new ≡ block_more f w v n t b l r old) (p : ℕ) (h : p < length old) where
    at : get_or new p nan ≡ entry t b l r old p
    unfolding block_more entry
    at = ap (λ (z : List Float). get_or z p nan) e ∙ get_d_tabulate (length old) (entry t b l r old) p nan h

    pub block_in : Inside t b l r (p / w) (p % w) → get_or new p nan ≡ more old p
    unfolding entry
    block_in i = at ∙ ap (λ (z : Bool). cond z (more old p) (get_or old p nan)) (inside t b l r (p / w) (p % w) i)

    pub block_out : in_block t b l r (p / w) (p % w) ≡ false → get_or new p nan ≡ get_or old p nan
    unfolding entry
    block_out i = at ∙ ap (λ (z : Bool). cond z (more old p) (get_or old p nan)) i

  -- a list is such a piece, by its entries
  pub is_block_law : (t b l r : ℕ) (old new : List Float) → length new ≡ length old
      → ((p : ℕ) → p < length old → Inside t b l r (p / w) (p % w) → get_or new p nan ≡ more old p)
      → ((p : ℕ) → p < length old → (Inside t b l r (p / w) (p % w) → ⊥) → get_or new p nan ≡ get_or old p nan)
      → new ≡ block_more f w v n t b l r old
  unfolding block_more entry
  is_block_law t b l r old new s got kept =
      is_tabulate new (length old) (entry t b l r old) nan s
      (λ p h.
      ⊎_elim (λ i. got p h i ∙ sym (ap (λ (z : Bool). cond z (more old p) (get_or old p nan)) (inside t b l r (p / w) (p % w) i)))
      (λ i. kept p h i.0 ∙ sym (ap (λ (z : Bool). cond z (more old p) (get_or old p nan)) i.1))
      (inside_or t b l r (p / w) (p % w)))

  -- an empty block
  pub block_none : (t b l r : ℕ) (old : List Float) → ((x y : ℕ) → Inside t b l r x y → ⊥) → old ≡ block_more f w v n t b l r old
  block_none t b l r old empty = is_block_law t b l r old old refl (λ p h i. absurd (empty (p / w) (p % w) i)) (λ p h i. refl)

  -- a block without products
  pub block_zero : n ≡ 0 → (t b l r : ℕ) (old : List Float) → old ≡ block_more f w v n t b l r old
  unfolding sum_more
  block_zero z t b l r old = is_block_law t b l r old old refl (λ p h i. sym (ap (sum_more f (get_or old p nan) (v (p / w)) (v (p % w))) z)) (λ p h i. refl)

  -- a block, and then another apart from it, are a third
  module _ (t b l r t' b' l' r' t'' b'' l'' r'' : ℕ) (old mid new : List Float) (e : mid ≡ block_more f w v n t b l r old) (e' : new ≡ block_more f w v n t' b' l' r' mid)
      (apart : (x y : ℕ) → Inside t b l r x y → Inside t' b' l' r' x y → ⊥)
      (either : (x y : ℕ) → y < w → Inside t'' b'' l'' r'' x y → Inside t b l r x y ⊎ Inside t' b' l' r' x y)
      (first : (x y : ℕ) → Inside t b l r x y → Inside t'' b'' l'' r'' x y)
      (second : (x y : ℕ) → Inside t' b' l' r' x y → Inside t'' b'' l'' r'' x y) where
    size : length mid ≡ length old
    size = ap length e ∙ length_block t b l r old

    pub two_blocks : 0 < w → new ≡ block_more f w v n t'' b'' l'' r'' old
    two_blocks pos =
        is_block_law t'' b'' l'' r'' old new (ap length e' ∙ length_block t' b' l' r' mid ∙ size)
        (λ p h i. ⊎_elim (λ a. in_first p h a) (λ a. in_second p h a) (either (p / w) (p % w) (mod-lt p pos) i))
        (λ p h i. out_second p h (λ a. i (second (p / w) (p % w) a)) ∙ out_first p h (λ a. i (first (p / w) (p % w) a)))
      where
        out_first : (p : ℕ) → p < length old → (Inside t b l r (p / w) (p % w) → ⊥) → get_or mid p nan ≡ get_or old p nan
        out_first p h i = ⊎_elim (λ a. absurd (i a)) (λ a. block_out t b l r old mid e p h a.1) (inside_or t b l r (p / w) (p % w))

        out_second : (p : ℕ) → p < length old → (Inside t' b' l' r' (p / w) (p % w) → ⊥) → get_or new p nan ≡ get_or mid p nan
        out_second p h i = ⊎_elim (λ a. absurd (i a)) (λ a. block_out t' b' l' r' mid new e' p (omega (arith, size)) a.1) (inside_or t' b' l' r' (p / w) (p % w))

        in_first : (p : ℕ) → p < length old → Inside t b l r (p / w) (p % w) → get_or new p nan ≡ more old p
        in_first p h i = out_second p h (apart (p / w) (p % w) i) ∙ block_in t b l r old mid e p h i

        in_second : (p : ℕ) → p < length old → Inside t' b' l' r' (p / w) (p % w) → get_or new p nan ≡ more old p
        in_second p h i =
            block_in t' b' l' r' mid new e' p (omega (arith, size)) i
            ∙ ap (λ (z : Float). sum_more f z (v (p / w)) (v (p % w)) n) (out_first p h (λ a. apart (p / w) (p % w) a i))

  -- one column more of some rows
  pub column_more : (r b c : ℕ) (old mid new : List Float) → 0 < w → mid ≡ block_more f w v n r b 0 c old → new ≡ block_more f w v n r b c (c + 1) mid → new ≡ block_more f w v n r b 0 (c + 1) old
  column_more r b c old mid new pos e e' =
      two_blocks r b 0 c r b c (c + 1) r b 0 (c + 1) old mid new e e' (λ x y i i'. omega arith)
      (λ x y h i. ⊎_elim (λ a. inl (i.0, i.1, i.2, i.3, a)) (λ a. inr (i.0, i.1, i.2, a, i.4)) (below_or y c))
      (λ x y i. (i.0, i.1, i.2, i.3, omega arith))
      (λ x y i. (i.0, i.1, i.2, omega arith, i.4))
      pos

  -- the columns up to the diagonal are all
  pub columns_all : (r b c : ℕ) (old new : List Float) → 0 < w → c ≡ min w b → new ≡ block_more f w v n r b 0 c old → new ≡ block_more f w v n r b 0 w old
  columns_all r b c old new pos q e =
      two_blocks r b 0 c r b w w r b 0 w old new new e (block_none r b w w new (λ x y i. omega arith)) (λ x y i i'. omega arith)
      (λ x y h i. inl (i.0, i.1, i.2, i.3, ⊎_elim (λ a. let z : min w b ≡ w = min-eq_left (let u : w ≤ b = omega arith in u) in omega arith) (λ a. let z : min w b ≡ b = min-eq_right a in omega arith) (below_or w b)))
      (λ x y i. (i.0, i.1, i.2, i.3, ⊎_elim (λ a. let z : min w b ≡ w = min-eq_left (let u : w ≤ b = omega arith in u) in omega arith) (λ a. let z : min w b ≡ b = min-eq_right a in omega arith) (below_or w b)))
      (λ x y i. absurd (let z : ⊥ = omega arith in z))
      pos

  -- some rows more
  pub rows_more_law : (t r b b' : ℕ) (old mid new : List Float) → 0 < w → t ≤ r → r ≤ b → b ≡ b' → mid ≡ block_more f w v n t r 0 w old → new ≡ block_more f w v n r b 0 w mid → new ≡ block_more f w v n t b' 0 w old
  rows_more_law t r b b' old mid new pos h' h q e e' =
      two_blocks t r 0 w r b 0 w t b 0 w old mid new e e' (λ x y i i'. omega arith)
      (λ x y h i. ⊎_elim (λ a. inl (i.0, i.1, a, i.3, i.4)) (λ a. inr (i.0, a, i.2, i.3, i.4)) (below_or x r))
      (λ x y i. (i.0, i.1, omega arith, i.3, i.4))
      (λ x y i. (i.0, omega arith, i.2, i.3, i.4))
      pos
      ∙ ap (λ (z : ℕ). block_more f w v n t z 0 w old) q

  -- a column's sums in m rows, taken out, grown, and put back from the diagonal on
  pub column_block : (r m b c above : ℕ) (old room part new : List Float) → r + m ≡ b → c < w → c < b → above ≡ c - r → b * w ≤ length old → length new ≡ length old
      → ((j : ℕ) → j < m → get_or room j nan ≡ sum_more f (get_or old (r * w + c + j * w) nan) (v (r + j)) (v c) n)
      → length part ≡ m - above
      → ((j : ℕ) → j < m - above → get_or part j nan ≡ get_or room (above + j) nan)
      → Put part (r * w + c + above * w) w old new
      → new ≡ block_more f w v n r b c (c + 1) old
  column_block r m b c above old room part new q hc hd ha hl s grown size rest put =
      is_block_law r b c (c + 1) old new s
      (λ p h i.
      let j : ℕ = p / w - r in
      let y : p % w ≡ c = omega (arith, i.3, i.4) in
      let x : p / w ≡ r + j = omega (arith, i.1) in
      let z : p / w * w + p % w ≡ p = div-add-mod' p w in
      let z' : p / w * w ≡ (r + j) * w = ap (λ (k : ℕ). k * w) x in
      let a : above ≤ j = omega (arith, (from_diagonal r c above ha).1 (p / w) (omega arith) i.1) in
      let t : (above + (j - above)) * w ≡ j * w = ap (λ (k : ℕ). k * w) (let u : above + (j - above) ≡ j = omega arith in u) in
      ap (λ (k : ℕ). get_or new k nan) (let u : p ≡ r * w + c + above * w + (j - above) * w = omega arith in u)
      ∙ put.0 (j - above) (omega arith)
      ∙ rest (j - above) (omega arith)
      ∙ ap (λ (k : ℕ). get_or room k nan) (let u : above + (j - above) ≡ j = omega arith in u)
      ∙ grown j (omega arith)
      ∙ ap (λ (k : ℕ). sum_more f (get_or old k nan) (v (r + j)) (v c) n) (let u : r * w + c + j * w ≡ p = omega arith in u)
      ∙ ap (λ (k : ℕ). sum_more f (get_or old p nan) (v k) (v c) n) (sym x)
      ∙ ap (λ (k : ℕ). sum_more f (get_or old p nan) (v (p / w)) (v k) n) (sym y))
      (λ p h i.
      put.1 p
      (λ j h' g.
      let q' : p ≡ (r + above + j) * w + c = omega arith in
      let d : p / w ≡ r + above + j = ap (λ (k : ℕ). k / w) q' ∙ digits_div (r + above + j) hc in
      let d' : p % w ≡ c = ap (λ (k : ℕ). k % w) q' ∙ digits_mod (r + above + j) hc in
      i (omega (arith, (from_diagonal r c above ha).0), omega arith, omega arith, omega arith, omega arith)))

  -- one column's turn
  pub column_turn : (r m b c above : ℕ) (old piece room taken grown new : List Float) → r + m ≡ b → 0 < m → c < w → c < b → above ≡ c - r → b * w ≤ length piece → length room ≡ m
      → taken ≡ tabulate (length room) (λ i. get_or piece (r * w + c + i * w) nan)
      → grown ≡ row_more f (λ j t. v (r + j) t) (λ t. v c t) n taken
      → length new ≡ length piece
      → Put (take (length grown - above) (drop above grown)) (r * w + c + above * w) w piece new
      → piece ≡ block_more f w v n r b 0 c old
      → new ≡ block_more f w v n r b 0 (c + 1) old
  column_turn r m b c above old piece room taken grown new q pos hc hd hl hs hm e g s put inv =
      column_more r b c old piece new (omega arith) inv
      (column_block r m b c above piece grown (take (length grown - above) (drop above grown)) new q hc hd hl hs s
      (λ j h. taken_grown f (λ j t. v (r + j) t) (λ t. v c t) n piece room taken grown (r * w + c) w j e g (omega arith))
      (omega (arith, part_size))
      (λ j h. get_or-take (length grown - above) (drop above grown) j nan (omega (arith, size)) ∙ get_or-drop above grown j nan)
      put)
    where
      size : length grown ≡ m
      size = length_row f (λ j t. v (r + j) t) (λ t. v c t) n taken grown g ∙ ap length e ∙ length_tabulate (length room) (λ i. get_or piece (r * w + c + i * w) nan) ∙ hm

      part_size : length (take (length grown - above) (drop above grown)) ≡ m - above
      part_size = length_part above (length grown - above) grown (omega (arith, size, some_below r c above hl m pos (omega arith))) ∙ ap (λ (z : ℕ). z - above) size

-- k products more, and then n more by the values from k on
pub block_terms : (f : Format) (w : ℕ) (v v' : ℕ → ℕ → Float) (k n m t b l r : ℕ) (old mid new : List Float) → k + n ≡ m → ((x i : ℕ) → v' x i ≡ v x (k + i))
    → mid ≡ block_more f w v k t b l r old → new ≡ block_more f w v' n t b l r mid → new ≡ block_more f w v m t b l r old
block_terms f w v v' k n m t b l r old mid new q same e e' =
    is_block_law f w v (k + n) t b l r old new (ap length e' ∙ length_block f w v' n t b l r mid ∙ size)
    (λ p h i.
    block_in f w v' n t b l r mid new e' p (omega (arith, size)) i
    ∙ ap (λ (z : Float). sum_more f z (v' (p / w)) (v' (p % w)) n) (block_in f w v k t b l r old mid e p h i)
    ∙ sum_ext f (more f w v k old p) (v' (p / w)) (v' (p % w)) (λ i. v (p / w) (k + i)) (λ i. v (p % w) (k + i)) n (λ i g. same (p / w) i) (λ i g. same (p % w) i)
    ∙ sum_add f (get_or old p nan) (v (p / w)) (v (p % w)) k n)
    (λ p h i. ⊎_elim (λ a. absurd (i a)) (λ a. block_out f w v' n t b l r mid new e' p (omega (arith, size)) a.1 ∙ block_out f w v k t b l r old mid e p h a.1) (inside_or t b l r (p / w) (p % w)))
    ∙ ap (λ (z : ℕ). block_more f w v z t b l r old) q
  where
    size : length mid ≡ length old
    size = ap length e ∙ length_block f w v k t b l r old
