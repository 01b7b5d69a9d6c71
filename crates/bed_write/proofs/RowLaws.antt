-- Writing a file byte by byte, in any order of its blocks: each byte that was written is the file's.
use Rattle.std.proofs.Common.{◌≡◌, sym, ap, subst, ◌∙◌, List, [], ◌∷◌, ◌++◌, drop, ℕ, zero, suc, ◌+◌, ◌-◌, ◌*◌, ◌/◌, ◌%◌, ◌<◌, ◌≤◌, arith, length, get_or, length-set, length-append, length-drop}
use lib.Arith.{digits_lt}
use native.Mathlib.Nat.{mul_comm, mul-le-mul_right, zero-mul, le_refl, le_of_lt, div-add-mod', mod-lt, div-lt_iff_lt-mul}
use borrow.Author.Tests.{eqb-true, eqb-false}
use lib.Dec.{eqb}
use lib.ListN.{set}
use lib.Seq.{get_or-set_same, get_or-set_other, ext_get_or}
use Rattle.blocks.specs.Block.{block_width}
use Rattle.codes.specs.Code.{packed_byte}
use Rattle.answer.specs.Lists.{tabulate}
use Rattle.codes.proofs.CodeLaws.{width_room}
use Rattle.answer.proofs.Tests.{by_test, by_lt}
use Rattle.bed_write.specs.Writing.{bed_file}
use Rattle.bed_write.proofs.BedLaws.{bed_length, bed_byte}

-- two buffers have the same byte at a place
abbrev pub Same : List ℕ → List ℕ → ℕ → Type 0
Same whole out p = get_or out p 0 ≡ get_or whole p 0

-- of the file of a matrix of codes, in blocks of w bytes: the header is written; every block before `from`; the first b bytes of every block before `until`; byte b of every block before m
pub record Rows (iids sids : ℕ) (code : ℕ → ℕ → ℕ) (w : ℕ) (out : List ℕ) (from until b m : ℕ) : Type 0 where
  pub width_is : w ≡ block_width iids
  pub long : length out ≡ length (bed_file iids sids code)
  pub until_in : until ≤ sids
  pub head : (p : ℕ) → p < 3 → Same (bed_file iids sids code) out p
  pub tiles : (j i : ℕ) → j < from → i < w → Same (bed_file iids sids code) out (3 + j * w + i)
  pub rows : (j i : ℕ) → j < until → i < b → Same (bed_file iids sids code) out (3 + j * w + i)
  pub here : (j : ℕ) → j < m → Same (bed_file iids sids code) out (3 + j * w + b)

pub whole_size : (iids sids : ℕ) (code : ℕ → ℕ → ℕ) (w : ℕ) → w ≡ block_width iids → length (bed_file iids sids code) ≡ 3 + w * sids
whole_size iids sids code w e = bed_length iids sids code ∙ ap (λ (x : ℕ). 3 + x * sids) (sym e)

-- the first animal of byte b is there
pub first_in : (iids w b : ℕ) → w ≡ block_width iids → b < w → 4 * b < iids
first_in iids w b e h = let r = (width_room iids).1 in omega arith

kept : (whole out : List ℕ) (p q v : ℕ) → p < length out → v ≡ get_or whole p 0 → Same whole out q → Same whole (set out p v) q
kept whole out p q v h e s =
    by_test (eqb q p)
    (λ t. let k = eqb-true q p t in
    ap (λ (x : ℕ). get_or (set out p v) x 0) k ∙ get_or-set_same out p v 0 h ∙ e ∙ ap (λ (x : ℕ). get_or whole x 0) (sym k))
    (λ t. get_or-set_other out p q v 0 (eqb-false q p t) ∙ s)

module _ {iids sids : ℕ} {code : ℕ → ℕ → ℕ} {w : ℕ} {out : List ℕ} {from until b m : ℕ} (r : Rows iids sids code w out from until b m) where
  abbrev whole : List ℕ
  whole = bed_file iids sids code

  size : length whole ≡ 3 + w * sids
  size = whole_size iids sids code w r.width_is

  -- block j begins in the buffer, and its byte i stands there
  pub block_in : (j : ℕ) → j < sids → 3 + j * w ≤ length out
  block_in j h = omega (arith, r.long, size, mul_comm w sids, mul-le-mul_right w (le_of_lt h))

  pub byte_in : (j i : ℕ) → j < sids → i < w → 3 + j * w + i < length out
  byte_in j i h g =
      let d : j * w + i < sids * w = digits_lt h g in
      omega (arith, r.long, size, mul_comm w sids)

  pub stored : m < sids → b < w → (v : ℕ) → v ≡ packed_byte (tabulate iids (λ a. code a m)) b → Rows iids sids code w (set out (3 + m * w + b) v) from until b (m + 1)
  stored h g v is =
      let p = byte_in m b h g in
      let e : v ≡ get_or whole (3 + m * w + b) 0 =
      is ∙ sym (bed_byte iids sids code m b h (subst (λ (x : ℕ). b < x) r.width_is g)) ∙ ap (λ (x : ℕ). get_or whole (3 + m * x + b) 0) (sym r.width_is) in
      record {
        width_is = r.width_is;
        long = length-set out (3 + m * w + b) v ∙ r.long;
        until_in = r.until_in;
        head = λ q k. kept whole out (3 + m * w + b) q v p e (r.head q k);
        tiles = λ j i k l. kept whole out (3 + m * w + b) (3 + j * w + i) v p e (r.tiles j i k l);
        rows = λ j i k l. kept whole out (3 + m * w + b) (3 + j * w + i) v p e (r.rows j i k l);
        here = λ j k.
            by_lt j m (λ l. kept whole out (3 + m * w + b) (3 + j * w + b) v p e (r.here j l))
            (λ l. let q : m ≡ j = omega arith in
            subst (λ (x : ℕ). Same whole (set out (3 + m * w + b) v) (3 + x * w + b)) q (get_or-set_same out (3 + m * w + b) v 0 p ∙ e));
      }

  -- byte b of every block before `until` is written: to the next byte
  pub row_done : until ≤ m → Rows iids sids code w out from until (b + 1) 0
  row_done h =
      record {
        width_is = r.width_is;
        long = r.long;
        until_in = r.until_in;
        head = r.head;
        tiles = r.tiles;
        rows = λ j i k l.
            by_lt i b (λ g. r.rows j i k g) (λ g. let q : b ≡ i = omega arith in subst (λ (x : ℕ). Same whole out (3 + j * w + x)) q (r.here j (omega arith)));
        here = λ j k. absurd (omega arith);
      }

  -- every byte of every block before `until` is written: to the next blocks
  pub tile_done : w ≤ b → Rows iids sids code w out until until 0 0
  tile_done h =
      record {
        width_is = r.width_is;
        long = r.long;
        until_in = r.until_in;
        head = r.head;
        tiles = λ j i k l. r.rows j i k (omega arith);
        rows = λ j i k l. absurd (omega arith);
        here = λ j k. absurd (omega arith);
      }

  pub tile_starts : (next : ℕ) → next ≤ sids → Rows iids sids code w out from next 0 0
  tile_starts next h =
      record { width_is = r.width_is; long = r.long; until_in = h; head = r.head; tiles = r.tiles; rows = λ j i k l. absurd (omega arith); here = λ j k. absurd (omega arith) }

  pub row_starts : b < w → Rows iids sids code w out from until b from
  row_starts h =
      record { width_is = r.width_is; long = r.long; until_in = r.until_in; head = r.head; tiles = r.tiles; rows = r.rows; here = λ j k. r.tiles j b k h }

  -- every block is written
  pub all_done : sids ≤ from → out ≡ whole
  all_done h = ext_get_or 0 out whole r.long at
    where
      at : (p : ℕ) → p < length out → Same whole out p
      at p k = by_lt p 3 (r.head p) past
        where
          past : 3 ≤ p → Same whole out p
          past g =
              let l = r.long in
              let s = size in
              let c = mul_comm w sids in
              let pw : 0 < w = by_lt 0 w (λ q. q) (λ q. let z : w ≡ 0 = omega arith in let y : w * sids ≡ 0 = ap (λ (x : ℕ). x * sids) z ∙ zero-mul sids in absurd (omega arith)) in
              let i : (p - 3) % w < w = mod-lt (p - 3) pw in
              let j : (p - 3) / w < sids = (div-lt_iff_lt-mul pw).1 (omega arith) in
              let e : 3 + (p - 3) / w * w + (p - 3) % w ≡ p = omega (arith, div-add-mod' (p - 3) w) in
              subst (Same whole out) e (r.tiles ((p - 3) / w) ((p - 3) % w) (omega arith) i)

-- a block by itself: its next byte
pub block_stored :
    {iids sids : ℕ} {code : ℕ → ℕ → ℕ} {w : ℕ} {out : List ℕ} {b m : ℕ} → Rows iids sids code w out m (m + 1) b 0 → m < sids → b < w
    → (v : ℕ) → v ≡ packed_byte (tabulate iids (λ a. code a m)) b → Rows iids sids code w (set out (3 + m * w + b) v) m (m + 1) (b + 1) 0
block_stored r hm hb v e = row_done (stored (row_starts r hb) hm hb v e) (omega arith)

-- ---- the header
-- nothing else is written
pub header_done :
    (iids sids : ℕ) (code : ℕ → ℕ → ℕ) (w : ℕ) (out : List ℕ) → w ≡ block_width iids → length out ≡ length (bed_file iids sids code)
    → ((p : ℕ) → p < 3 → Same (bed_file iids sids code) out p) → Rows iids sids code w out 0 0 0 0
header_done iids sids code w out ew l h =
    record {
      width_is = ew;
      long = l;
      until_in = omega arith;
      head = h;
      tiles = λ j i k g. absurd (omega arith);
      rows = λ j i k g. absurd (omega arith);
      here = λ j k. absurd (omega arith);
    }

-- a buffer into whose first bytes the header was copied
module _ (iids sids : ℕ) (code : ℕ → ℕ → ℕ) (w : ℕ) (ew : w ≡ block_width iids) (old : List ℕ) (l : length old ≡ 3 + w * sids) (header : List ℕ) (eh : header ≡ 0x6C ∷ 0x1B ∷ 1 ∷ []) where
  abbrev headed : List ℕ
  headed = header ++ drop 3 old

  header_at : (p : ℕ) → p < 3 → Same (bed_file iids sids code) headed p
  unfolding bed_file
  header_at zero h = ap (λ (x : List ℕ). get_or (x ++ drop 3 old) 0 0) eh
  header_at (suc zero) h = ap (λ (x : List ℕ). get_or (x ++ drop 3 old) 1 0) eh
  header_at (suc (suc zero)) h = ap (λ (x : List ℕ). get_or (x ++ drop 3 old) 2 0) eh
  header_at (suc (suc (suc p))) h = absurd (omega arith)

  pub headed_rows : Rows iids sids code w headed 0 0 0 0
  headed_rows =
      let e : length header ≡ 3 = ap length eh in
      header_done iids sids code w headed ew (let s = whole_size iids sids code w ew in omega (arith, length-append header (drop 3 old), length-drop 3 old)) header_at

  -- a file without bytes in its blocks
  pub headed_done : w ≡ 0 → headed ≡ bed_file iids sids code
  headed_done z =
      let r = headed_rows in
      all_done {from = sids} {until = sids} {b = 0} {m = 0}
      (record {
        width_is = ew;
        long = r.long;
        until_in = le_refl sids;
        head = r.head;
        tiles = λ j i h g. absurd (omega arith);
        rows = λ j i h g. absurd (omega arith);
        here = λ j h. absurd (omega arith);
      })
      (le_refl sids)
