-- Laws of a byte of a file of mode 1: with its pads cleared it is the packed byte of its calls.
use mathlib.Core.Path.{◌≡◌, refl, sym, ap, subst, ◌∙◌}
use mathlib.Core.Bool.{Bool, true, false}
use mathlib.Core.List.{List}
use Prim.Native.Nat.{ℕ, zero, suc, ◌+◌, ◌-◌, ◌*◌, ◌/◌, ◌%◌, ◌^◌, ◌<◌, ◌≤◌}
use native.Mathlib.Nat.{add-zero}
use native.Mathlib.Omega.{arith}
use lib.ListN.{length, get_or, get_or-eq_default}
use Rattle.blocks.specs.Block.{block_width, file_length}
use Rattle.codes.specs.Code.{code_at, packed_byte}
use Rattle.answer.specs.Lists.{tabulate}
use Rattle.answer.proofs.Tabulate.{length_tabulate, get_d_tabulate}
use Rattle.bed_file.specs.File.{items, blocks}
use Rattle.codes.proofs.CodeLaws.{quarters}
use Rattle.calls.specs.declared.Shape.{Shape}
use Rattle.calls.specs.Calls.{code_in, call_code}
use Rattle.calls.specs.Places.{Shaped, is_block, part_byte, in_word}
use Rattle.calls.proofs.CallLaws.{byte_inside, code_in_byte}
use Rattle.calls.proofs.PlaceLaws.{sid_byte_law}
use Rattle.canonical.specs.Private.{kept_byte}

-- a byte by its four codes
four_codes : (x : ℕ) → x < 256 → x ≡ x % 4 + 4 * (x / 4 % 4) + 16 * (x / 16 % 4) + 64 * (x / 64 % 4)
four_codes x h = quarters x (x / 4) (x / 16) (x / 64) refl (omega arith) (omega arith) (omega arith)

three_codes : (x : ℕ) → x % 64 ≡ x % 4 + 4 * (x / 4 % 4) + 16 * (x / 16 % 4) + 64 * 0
three_codes x =
    let a : x / 4 / 4 ≡ x / 16 = omega arith in
    let b : x / 16 / 4 ≡ x / 64 = omega arith in
    omega arith

put :
    (v x0 x1 x2 x3 g0 g1 g2 g3 : ℕ) → v ≡ x0 + 4 * x1 + 16 * x2 + 64 * x3 → g0 ≡ x0 → g1 ≡ x1 → g2 ≡ x2 → g3 ≡ x3
    → v ≡ g0 + 4 * g1 + 16 * g2 + 64 * g3
put v x0 x1 x2 x3 g0 g1 g2 g3 e e0 e1 e2 e3 = omega arith

low : (x : ℕ) → code_at x 0 ≡ x % 4
unfolding code_at
low x = omega arith

two_codes : (x : ℕ) → x % 16 ≡ x % 4 + 4 * (x / 4 % 4) + 16 * 0 + 64 * 0
two_codes x = let a : x / 4 / 4 ≡ x / 16 = omega arith in omega arith

-- a byte whose four items are there is kept
pub whole_kept : (left x : ℕ) → 3 < left → x ≡ kept_byte left x
unfolding kept_byte
whole_kept zero x h = absurd (omega (arith, h))
whole_kept (suc zero) x h = absurd (omega (arith, h))
whole_kept (suc (suc zero)) x h = absurd (omega (arith, h))
whole_kept (suc (suc (suc zero))) x h = absurd (omega (arith, h))
whole_kept (suc (suc (suc (suc left)))) x h = refl

-- byte b of the block of marker m
module _ (file : List ℕ) (shape : Shape) (sh : Shaped file shape) (e : shape.mode1 ≡ true) (m b : ℕ) (hm : m < shape.sids) (hb : 4 * b < shape.iids) where
  abbrev iids : ℕ
  iids = shape.iids

  abbrev sids : ℕ
  sids = shape.sids

  abbrev w : ℕ
  w = shape.width

  abbrev byte : ℕ
  byte = get_or file (3 + m * w + b) 0

  abbrev codes : List ℕ
  codes = tabulate iids (λ a. call_code file iids sids a m)

  long : length file ≡ file_length iids sids
  unfolding items blocks
  long = sh.length_is ∙ ap (λ (x : Bool). file_length (items x iids sids) (blocks x iids sids)) e

  wide : w ≡ block_width iids
  unfolding items
  wide = sh.width_is ∙ ap (λ (x : Bool). block_width (items x iids sids)) e

  -- the byte is inside the file
  pub kept_inside : 3 + m * w + b < length file
  kept_inside =
      let q : 4 * b / 4 ≡ b = omega arith in
      subst (λ (x : ℕ). 3 + m * w + x < length file) q
      (subst (λ (x : ℕ). 3 + m * x + 4 * b / 4 < length file) (sym wide) (byte_inside file iids sids m (4 * b) long hm hb))

  code_at_law : (k : ℕ) → k < 4 → 4 * b + k < iids → call_code file iids sids (4 * b + k) m ≡ code_at byte k
  unfolding call_code code_in
  code_at_law k h g =
      let q : (4 * b + k) / 4 ≡ b = omega arith in
      let r : (4 * b + k) % 4 ≡ k = omega arith in
      ap (λ (x : Bool). code_in x file iids sids (4 * b + k) m) (sym sh.mode_is ∙ e)
      ∙ code_in_byte file iids m (4 * b + k) g
      ∙ ap (λ (x : ℕ). code_at (get_or file (3 + m * x + (4 * b + k) / 4) 0) ((4 * b + k) % 4)) (sym wide)
      ∙ ap (λ (x : ℕ). code_at (get_or file (3 + m * w + x) 0) ((4 * b + k) % 4)) q
      ∙ ap (code_at byte) r

  there : (k : ℕ) → k < 4 → 4 * b + k < iids → get_or codes (4 * b + k) 0 ≡ code_at byte k
  there k h g = get_d_tabulate iids (λ a. call_code file iids sids a m) (4 * b + k) 0 g ∙ code_at_law k h g

  first : get_or codes (4 * b) 0 ≡ byte % 4
  first = ap (λ (x : ℕ). get_or codes x 0) (sym (add-zero (4 * b))) ∙ there 0 (omega arith) (omega arith) ∙ low byte

  past : (k : ℕ) → iids ≤ 4 * b + k → get_or codes (4 * b + k) 0 ≡ 0
  past k h = let l = length_tabulate iids (λ a. call_code file iids sids a m) in get_or-eq_default codes 0 (omega arith)

  -- with its pads cleared it is the byte of the packed block
  pub kept_is : byte < 256 → kept_byte (iids - 4 * b) byte ≡ packed_byte codes b
  unfolding kept_byte packed_byte code_at
  kept_is f = by_left (iids - 4 * b) refl
    where
      by_left : (left : ℕ) → left ≡ iids - 4 * b → kept_byte left byte ≡ packed_byte codes b
      by_left zero h = absurd (omega arith)
      by_left (suc zero) h =
          put (byte % 4) (byte % 4) 0 0 0 _ _ _ _ (omega arith) first (past 1 (omega arith)) (past 2 (omega arith)) (past 3 (omega arith))
      by_left (suc (suc zero)) h = put (byte % 16) _ _ _ _ _ _ _ _ (two_codes byte) first (there 1 (omega arith) (omega arith)) (past 2 (omega arith)) (past 3 (omega arith))
      by_left (suc (suc (suc zero))) h =
          put (byte % 64) _ _ _ _ _ _ _ _ (three_codes byte) first (there 1 (omega arith) (omega arith)) (there 2 (omega arith) (omega arith)) (past 3 (omega arith))
      by_left (suc (suc (suc (suc left)))) h =
          put byte _ _ _ _ _ _ _ _ (four_codes byte f) first (there 1 (omega arith) (omega arith)) (there 2 (omega arith) (omega arith)) (there 3 (omega arith) (omega arith))

  -- where the marker's part says that its block starts
  module _ (start : ℕ) (l : length file < 2 ^ 64) (f : m < 2 ^ 64) (p : start ≡ in_word (part_byte (is_block shape.mode1 false) w m)) where
    start_is : start ≡ 3 + m * w
    unfolding part_byte
    start_is = p ∙ sid_byte_law file shape sh l m hm f ∙ ap (λ (x : Bool). part_byte (is_block x false) w m) e

    pub found_inside : start + b < length file
    found_inside = subst (λ (x : ℕ). x + b < length file) (sym start_is) kept_inside

    pub found_is : (v : ℕ) → get_or file (start + b) 0 < 256 → v ≡ kept_byte (iids - 4 * b) (get_or file (start + b) 0) → v ≡ packed_byte codes b
    found_is v f q =
        let g : get_or file (start + b) 0 ≡ byte = ap (λ (x : ℕ). get_or file (x + b) 0) start_is in
        q ∙ ap (kept_byte (iids - 4 * b)) g ∙ kept_is (subst (λ (x : ℕ). x < 256) g f)
