-- Laws of codes and of packed blocks, over plain numbers and lists.
use mathlib.Core.Path.{◌≡◌, refl, sym, ap, subst, ◌∙◌}
use mathlib.Core.List.{List}
use Prim.Native.Nat.{ℕ, zero, suc, ◌+◌, ◌-◌, ◌*◌, ◌/◌, ◌%◌, ◌^◌, ◌<◌, ◌≤◌}
use native.Mathlib.Nat.{zero-div, add-zero}
use native.Mathlib.Omega.{arith}
use lib.ListN.{length, get_or, get_or-eq_default}
use lib.Seq.{ext_get_or}
use Rattle.answer.specs.Lists.{tabulate}
use Rattle.blocks.specs.Block.{block_width}
use Rattle.codes.specs.Code.{code_at, item_code, code_table, group_byte, packed_byte, packed}
use Rattle.answer.proofs.Tests.{by_lt}
use Rattle.answer.proofs.Tabulate.{length_tabulate, get_d_tabulate}
use Rattle.blocks.proofs.Widths.{width_none, width_some}

-- "A table of 1,024 entries gives the code for every byte and place."
pub table_at : (table : List ℕ) (byte b item : ℕ) → table ≡ code_table → b ≡ byte → byte < 256 → get_or table (b * 4 + item % 4) 0 ≡ code_at byte (item % 4)
unfolding code_table
table_at table byte b item t e h =
    let p : item % 4 < 4 = omega arith in
    let q : (byte * 4 + item % 4) / 4 ≡ byte = omega arith in
    let r : (byte * 4 + item % 4) % 4 ≡ item % 4 = omega arith in
    ap (λ (l : List ℕ). get_or l (b * 4 + item % 4) 0) t
    ∙ ap (λ (k : ℕ). get_or code_table (k * 4 + item % 4) 0) e
    ∙ get_d_tabulate 1024 (λ k. code_at (k / 4) (k % 4)) (byte * 4 + item % 4) 0 (omega arith)
    ∙ ap (λ (k : ℕ). code_at k ((byte * 4 + item % 4) % 4)) q
    ∙ ap (code_at byte) r

-- ---- a byte and its four codes
pub code_below : (byte place : ℕ) → code_at byte place < 4
unfolding code_at
code_below byte place = let r : byte / 2 ^ (2 * place) % 4 < 4 = omega arith in r

pub item_below : (block : List ℕ) (i : ℕ) → item_code block i < 4
unfolding item_code
item_below block i = code_below (get_or block (i / 4) 0) (i % 4)

-- the code at a place of four codes put together
pub place_code_law :
    (c0 c1 c2 c3 : ℕ) → c0 < 4 → c1 < 4 → c2 < 4 → c3 < 4
    → (code_at (c0 + 4 * c1 + 16 * c2 + 64 * c3) 0 ≡ c0)
    × (code_at (c0 + 4 * c1 + 16 * c2 + 64 * c3) 1 ≡ c1)
    × (code_at (c0 + 4 * c1 + 16 * c2 + 64 * c3) 2 ≡ c2)
    × (code_at (c0 + 4 * c1 + 16 * c2 + 64 * c3) 3 ≡ c3)
unfolding code_at
place_code_law c0 c1 c2 c3 h0 h1 h2 h3 = (omega arith, omega arith, omega arith, omega arith)

-- a byte is its four codes put together
pub quarters :
    (b p q r : ℕ) → p ≡ b / 4 → q ≡ p / 4 → r ≡ q / 4 → r < 4 → b ≡ b % 4 + 4 * (p % 4) + 16 * (q % 4) + 64 * (r % 4)
quarters b p q r ep eq er h =
    let x : r % 4 ≡ r = omega arith in
    let y : q ≡ 4 * r + q % 4 = omega arith in
    let z : p ≡ 4 * q + p % 4 = omega arith in
    omega arith

byte_codes : (b : ℕ) → b < 256 → b ≡ code_at b 0 + 4 * code_at b 1 + 16 * code_at b 2 + 64 * code_at b 3
unfolding code_at
byte_codes b h =
    ap (λ (k : ℕ). k) (quarters b (b / 4) (b / 16) (b / 64) refl (omega arith) (omega arith) (omega arith))
    ∙ ap (λ (k : ℕ). k % 4 + 4 * (b / 4 % 4) + 16 * (b / 16 % 4) + 64 * (b / 64 % 4)) (omega arith)

-- ---- a packed block holds every code, has zero pads and the right length
-- every number of the list is a code
abbrev pub Codes : List ℕ → Type 0
Codes codes = (k : ℕ) → get_or codes k 0 < 4

pub packed_length : (codes : List ℕ) → length (packed codes) ≡ block_width (length codes)
unfolding packed
packed_length codes = length_tabulate (block_width (length codes)) (packed_byte codes)

-- n items have room in their block, with less than a byte to spare
pub width_room : (n : ℕ) → (n ≤ 4 * block_width n) × (4 * block_width n < n + 4)
width_room zero = let w : block_width 0 ≡ 0 = width_none 0 refl in (omega arith, omega arith)
width_room (suc n) =
    let w : block_width (suc n) ≡ (suc n - 1) / 4 + 1 = width_some (suc n) (λ e. omega arith) in (omega arith, omega arith)

no_code : (place : ℕ) → code_at 0 place ≡ 0
unfolding code_at
no_code place = ap (λ (k : ℕ). k % 4) (zero-div (2 ^ (2 * place)))

module _ (codes : List ℕ) (all : Codes codes) where
  four :
      (b : ℕ)
      → (code_at (packed_byte codes b) 0 ≡ get_or codes (4 * b) 0)
      × (code_at (packed_byte codes b) 1 ≡ get_or codes (4 * b + 1) 0)
      × (code_at (packed_byte codes b) 2 ≡ get_or codes (4 * b + 2) 0)
      × (code_at (packed_byte codes b) 3 ≡ get_or codes (4 * b + 3) 0)
  unfolding packed_byte
  four b =
      place_code_law (get_or codes (4 * b) 0) (get_or codes (4 * b + 1) 0) (get_or codes (4 * b + 2) 0) (get_or codes (4 * b + 3) 0)
      (all (4 * b)) (all (4 * b + 1)) (all (4 * b + 2)) (all (4 * b + 3))

  packed_place : (b p : ℕ) → p < 4 → code_at (packed_byte codes b) p ≡ get_or codes (4 * b + p) 0
  packed_place b zero h = (four b).0 ∙ ap (λ (k : ℕ). get_or codes k 0) (sym (add-zero (4 * b)))
  packed_place b (suc zero) h = (four b).1
  packed_place b (suc (suc zero)) h = (four b).2
  packed_place b (suc (suc (suc zero))) h = (four b).3
  packed_place b (suc (suc (suc (suc p)))) h = absurd (omega arith)

  -- every code, and 0 past them: "Pads are zero"
  pub packed_code : (i : ℕ) → item_code (packed codes) i ≡ get_or codes i 0
  unfolding item_code packed
  packed_code i = by_lt (i / 4) width inside outside
    where
      width : ℕ
      width = block_width (length codes)

      inside : i / 4 < width → code_at (get_or (tabulate width (packed_byte codes)) (i / 4) 0) (i % 4) ≡ get_or codes i 0
      inside h =
          let back : 4 * (i / 4) + i % 4 ≡ i = omega arith in
          ap (λ (b : ℕ). code_at b (i % 4)) (get_d_tabulate width (packed_byte codes) (i / 4) 0 h)
          ∙ packed_place (i / 4) (i % 4) (omega arith)
          ∙ ap (λ (k : ℕ). get_or codes k 0) back

      outside : width ≤ i / 4 → code_at (get_or (tabulate width (packed_byte codes)) (i / 4) 0) (i % 4) ≡ get_or codes i 0
      outside h =
          let l : length (tabulate width (packed_byte codes)) ≡ width = length_tabulate width (packed_byte codes) in
          let room : length codes ≤ 4 * width = (width_room (length codes)).0 in
          ap (λ (b : ℕ). code_at b (i % 4)) (get_or-eq_default (tabulate width (packed_byte codes)) 0 (omega arith))
          ∙ no_code (i % 4)
          ∙ sym (get_or-eq_default codes 0 (omega arith))

-- ---- two blocks of bytes are equal exactly when all their codes are
abbrev pub Bytes : List ℕ → Type 0
Bytes block = (k : ℕ) → get_or block k 0 < 256

-- the code of item 4 × k + p is that at place p of byte k
item_place : (block : List ℕ) (k p : ℕ) → p < 4 → item_code block (4 * k + p) ≡ code_at (get_or block k 0) p
unfolding item_code
item_place block k p h =
    let q : (4 * k + p) / 4 ≡ k = omega arith in
    let r : (4 * k + p) % 4 ≡ p = omega arith in
    ap (λ (n : ℕ). code_at (get_or block n 0) ((4 * k + p) % 4)) q ∙ ap (code_at (get_or block k 0)) r

pub blocks_equal :
    (x y : List ℕ) → Bytes x → Bytes y → length x ≡ length y → ((i : ℕ) → i < 4 * length x → item_code x i ≡ item_code y i) → x ≡ y
blocks_equal x y bx by e same = ext_get_or 0 x y e by_byte
  where
    at : (k p : ℕ) → k < length x → p < 4 → code_at (get_or x k 0) p ≡ code_at (get_or y k 0) p
    at k p h g = sym (item_place x k p g) ∙ same (4 * k + p) (omega arith) ∙ item_place y k p g

    by_byte : (k : ℕ) → k < length x → get_or x k 0 ≡ get_or y k 0
    by_byte k h =
        let a = byte_codes (get_or x k 0) (bx k) in
        let b = byte_codes (get_or y k 0) (by k) in
        let c0 = at k 0 h (omega arith) in
        let c1 = at k 1 h (omega arith) in
        let c2 = at k 2 h (omega arith) in
        let c3 = at k 3 h (omega arith) in
        omega arith

-- a block for n items that has the right length and zero pads
pub record Padded (n : ℕ) (block : List ℕ) : Type 0 where
  pub bytes : Bytes block
  pub right_length : length block ≡ block_width n
  pub pads : (i : ℕ) → n ≤ i → i < 4 * block_width n → item_code block i ≡ 0

-- two such blocks are equal exactly when all their codes are
pub padded_equal : (n : ℕ) (x y : List ℕ) → Padded n x → Padded n y → ((i : ℕ) → i < n → item_code x i ≡ item_code y i) → x ≡ y
padded_equal n x y px py same =
    blocks_equal x y px.bytes py.bytes (px.right_length ∙ sym py.right_length)
    (λ i h.
    by_lt i n (same i)
    (λ g. px.pads i g (subst (λ (k : ℕ). i < 4 * k) px.right_length h) ∙ sym (py.pads i g (subst (λ (k : ℕ). i < 4 * k) px.right_length h))))

packed_byte_below : (codes : List ℕ) → Codes codes → (k : ℕ) → k < block_width (length codes) → get_or (packed codes) k 0 < 256
unfolding packed packed_byte
packed_byte_below codes all k h =
    let a = all (4 * k) in
    let b = all (4 * k + 1) in
    let c = all (4 * k + 2) in
    let d = all (4 * k + 3) in
    subst (λ (n : ℕ). n < 256) (sym (get_d_tabulate (block_width (length codes)) (packed_byte codes) k 0 h)) (omega arith)

-- the codes of n items are codes
pub items_codes : (n : ℕ) (x : List ℕ) → Codes (tabulate n (item_code x))
items_codes n x k =
    by_lt k n (λ h. subst (λ (c : ℕ). c < 4) (sym (get_d_tabulate n (item_code x) k 0 h)) (item_below x k))
    (λ h. let l : length (tabulate n (item_code x)) ≡ n = length_tabulate n (item_code x) in
    let e : get_or (tabulate n (item_code x)) k 0 ≡ 0 = get_or-eq_default (tabulate n (item_code x)) 0 (omega arith) in
    omega arith)

-- a packed block is such a block
pub packed_padded : (codes : List ℕ) → Codes codes → Padded (length codes) (packed codes)
packed_padded codes all =
    record {
      bytes = λ k. by_lt k (block_width (length codes)) (inside k) (outside k);
      right_length = packed_length codes;
      pads = λ i g h. packed_code codes all i ∙ get_or-eq_default codes 0 g;
    }
  where
    inside : (k : ℕ) → k < block_width (length codes) → get_or (packed codes) k 0 < 256
    inside k h = packed_byte_below codes all k h

    outside : (k : ℕ) → block_width (length codes) ≤ k → get_or (packed codes) k 0 < 256
    outside k h =
        let l : length (packed codes) ≡ block_width (length codes) = packed_length codes in
        let e : get_or (packed codes) k 0 ≡ 0 = get_or-eq_default (packed codes) 0 (omega arith) in
        omega arith

-- and such a block is the packed block of its codes
pub padded_packed : (n : ℕ) (x : List ℕ) → Padded n x → packed (tabulate n (item_code x)) ≡ x
padded_packed n x p =
    padded_equal n (packed codes) x (subst (λ (k : ℕ). Padded k (packed codes)) (length_tabulate n (item_code x)) (packed_padded codes all)) p
    (λ i h. packed_code codes all i ∙ get_d_tabulate n (item_code x) i 0 h)
  where
    codes : List ℕ
    codes = tabulate n (item_code x)

    all : Codes codes
    all k = items_codes n x k

-- ---- the byte of four numbers that are codes
pub codes_byte : (c0 c1 c2 c3 : ℕ) → (c0 < 4) × (c1 < 4) × (c2 < 4) × (c3 < 4) → group_byte c0 c1 c2 c3 ≡ c0 + 4 * c1 + 16 * c2 + 64 * c3
codes_byte c0 c1 c2 c3 (h0, h1, h2, h3) =
    let x0 : c0 % 4 ≡ c0 = omega arith in
    let x1 : c1 % 4 ≡ c1 = omega arith in
    let x2 : c2 % 4 ≡ c2 = omega arith in
    let x3 : c3 % 4 ≡ c3 = omega arith in
    omega arith
