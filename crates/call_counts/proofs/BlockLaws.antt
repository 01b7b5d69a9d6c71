-- Laws of a marker's block: its tally by bytes, and where its items stand.
use mathlib.Core.Path.{◌≡◌, sym, ap, ◌∙◌}
use mathlib.Core.Bool.{true, false}
use mathlib.Core.List.{List}
use Prim.Native.Nat.{ℕ, suc, ◌+◌, ◌-◌, ◌*◌, ◌/◌, ◌%◌, ◌^◌, ◌<◌, ◌≤◌}
use native.Mathlib.Omega.{arith}
use lib.IntN.{ℤ}
use lib.ListN.{length, get_or}
use Rattle.answer.proofs.Tabulate.{get_d_tabulate}
use Rattle.codes.specs.Code.{code_at}
use Rattle.calls.specs.declared.Shape.{Shape}
use Rattle.calls.specs.Lists.{entry_number, entry_byte, is_along_block, Ready}
use Rattle.calls.proofs.ListLaws.{along_inside, along_code}
use Rattle.call_counts.specs.Counts.{code_named}
use Rattle.call_counts.specs.Private.{total, total_items, in_byte, weight, byte_tallies, tally_items, tally_named}
use Rattle.call_counts.proofs.TallyLaws.{tally_most, total_ext}

-- ---- the tally of a byte, by the table
pub byte_there : (table : List ℕ) (x byte : ℕ) → table ≡ byte_tallies → x ≡ byte → byte < 256 → get_or table x 0 ≡ in_byte weight byte
unfolding byte_tallies
byte_there table x byte t e h = ap (λ (k : ℕ). get_or table k 0) e ∙ ap (λ (l : List ℕ). get_or l byte 0) t ∙ get_d_tabulate 256 (in_byte weight) byte 0 h

-- ---- four items at a time
four_more :
    (h code : ℕ → ℕ) (n : ℕ)
    → total h code (4 * (n + 1)) ≡ total h code (4 * n) + h (code (4 * n)) + h (code (4 * n + 1)) + h (code (4 * n + 2)) + h (code (4 * n + 3))
unfolding total
four_more h code n =
    let e : 4 * (n + 1) ≡ suc (suc (suc (suc (4 * n)))) = omega arith in
    let b : suc (4 * n) ≡ 4 * n + 1 = omega arith in
    let c : suc (suc (4 * n)) ≡ 4 * n + 2 = omega arith in
    let d : suc (suc (suc (4 * n))) ≡ 4 * n + 3 = omega arith in
    let u = ap (λ (k : ℕ). h (code k)) b in
    let v = ap (λ (k : ℕ). h (code k)) c in
    let w = ap (λ (k : ℕ). h (code k)) d in
    ap (total h code) e ∙ omega (arith, u, v, w)

module _ (file : List ℕ) (start : ℕ) where
  -- item 4b + p stands at place p of byte b
  item_at : (b p k : ℕ) → p < 4 → k ≡ 4 * b + p → code_at (get_or file (start + k / 4) 0) (k % 4) ≡ code_at (get_or file (start + b) 0) p
  item_at b p k h e =
      let x : k / 4 ≡ b = omega arith in
      let y : k % 4 ≡ p = omega arith in
      ap (λ (z : ℕ). code_at (get_or file (start + z) 0) (k % 4)) x ∙ ap (code_at (get_or file (start + b) 0)) y

  -- byte b
  pub byte_more : (h : ℕ → ℕ) (b byte : ℕ) → byte ≡ get_or file (start + b) 0 → total_items h file start (4 * (b + 1)) ≡ total_items h file start (4 * b) + in_byte h byte
  unfolding in_byte
  byte_more h b byte e =
      let w0 = ap h (item_at b 0 (4 * b) (omega arith) (omega arith) ∙ ap (λ (x : ℕ). code_at x 0) (sym e)) in
      let w1 = ap h (item_at b 1 (4 * b + 1) (omega arith) (omega arith) ∙ ap (λ (x : ℕ). code_at x 1) (sym e)) in
      let w2 = ap h (item_at b 2 (4 * b + 2) (omega arith) (omega arith) ∙ ap (λ (x : ℕ). code_at x 2) (sym e)) in
      let w3 = ap h (item_at b 3 (4 * b + 3) (omega arith) (omega arith) ∙ ap (λ (x : ℕ). code_at x 3) (sym e)) in
      let f = four_more h (λ i. code_at (get_or file (start + i / 4) 0) (i % 4)) b in
      omega (arith, f, w0, w1, w2, w3)

  -- by its tally
  module _ (b byte sum more : ℕ) (eb : byte ≡ get_or file (start + b) 0) (em : more ≡ in_byte weight byte) (e : sum ≡ tally_items file start (4 * b)) where
    pub block_more_law : sum + more ≡ tally_items file start (4 * (b + 1))
    block_more_law = omega (arith, e, em, byte_more weight b byte eb)

    pub block_room : 4 * b + 4 < 65536 → sum + more < 2 ^ 64
    block_room l =
        let m = tally_most (λ i. code_at (get_or file (start + i / 4) 0) (i % 4)) (4 * (b + 1)) in
        let g = block_more_law in
        omega (arith, m, g)

-- ---- n entries from `from` on that are items of a marker's block, in order
module _ (file : List ℕ) (shape : Shape) (il sl : List ℤ) (r : Ready file shape false sl il) (along : is_along_block shape true il ≡ true)
    (m from n start : ℕ) (hm : m < length sl) (l : from + n ≤ length il) (whole : from % 4 ≡ 0) (em : start ≡ entry_byte shape false sl m) where
  named_item :
      (i : ℕ) → i < n
      → code_named file shape.iids shape.sids il (entry_number shape false sl m) (from + i) ≡ code_at (get_or file (start + from / 4 + i / 4) 0) (i % 4)
  unfolding code_named entry_number
  named_item i h =
      let p : start + (from + i) / 4 ≡ start + from / 4 + i / 4 = omega arith in
      let q : (from + i) % 4 ≡ i % 4 = omega arith in
      sym (along_code file shape false sl il r along m start hm em (from + i) (omega arith))
      ∙ ap (λ (x : ℕ). code_at (get_or file x 0) ((from + i) % 4)) p
      ∙ ap (code_at (get_or file (start + from / 4 + i / 4) 0)) q

  pub block_tally : (t : ℕ) → t ≡ tally_items file (start + from / 4) n → t ≡ tally_named file shape.iids shape.sids il (entry_number shape false sl m) from n
  block_tally t e = e ∙ sym (total_ext weight _ _ n named_item)

  -- and stand in the file
  pub block_inside : n ≤ 4 * (length file - (start + from / 4))
  block_inside = let i = along_inside file shape false sl il r along m start hm em in omega arith
