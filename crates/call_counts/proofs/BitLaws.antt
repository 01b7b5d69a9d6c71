-- Laws of the two bits of codes, over plain numbers and lists.
use mathlib.Core.Path.{◌≡◌, refl, sym, ap, subst, ◌∙◌}
use mathlib.Core.List.{List}
use Prim.Native.Nat.{ℕ, zero, suc, ◌+◌, ◌-◌, ◌*◌, ◌/◌, ◌%◌, ◌<◌, ◌≤◌}
use native.Mathlib.Nat.{add-zero, add-suc}
use native.Mathlib.Omega.{arith}
use lib.Bits.{bit_and}
use lib.ListN.{get_or}
use Rattle.answer.specs.Lists.{tabulate}
use Rattle.answer.proofs.Tabulate.{get_d_tabulate}
use Rattle.codes.specs.Code.{code_at}
use Rattle.codes.proofs.CodeLaws.{place_code_law}
use Rattle.call_counts.specs.declared.bits.BitCounts.{BitCounts}
use Rattle.call_counts.specs.Private.{total, total_items, in_byte, placed, weight, tally, tally_items, low_bit, high_bit, both_bits, BitsCounted, Ordered, bits_sum, TallyOf}
use Rattle.call_counts.proofs.TallyLaws.{total_ext}
use Rattle.call_counts.proofs.BlockLaws.{byte_more}

-- ---- a byte, by one computed test over all of them
same_below : (n : ℕ) (f g : ℕ → ℕ) → tabulate n f ≡ tabulate n g → (x : ℕ) → x < n → f x ≡ g x
same_below n f g e x h = sym (get_d_tabulate n f x 0 h) ∙ ap (λ (l : List ℕ). get_or l x 0) e ∙ get_d_tabulate n g x 0 h

abbrev pairs : ℕ → ℕ
pairs x = bit_and x 51 + bit_and (x / 4) 51

pub codes_sum : (x : ℕ) → x < 256 → bit_and (pairs x) 15 + pairs x / 16 ≡ in_byte (λ code. code) x
unfolding in_byte code_at tabulate
codes_sum = same_below 256 (λ x. bit_and (pairs x) 15 + pairs x / 16) (in_byte (λ code. code)) refl

pub low_placed : (x : ℕ) → x < 256 → bit_and x 85 ≡ placed low_bit x
unfolding low_bit code_at tabulate
low_placed = same_below 256 (λ x. bit_and x 85) (placed low_bit) refl

pub high_low : (x : ℕ) → x < 256 → placed low_bit (x / 2) ≡ placed high_bit x
unfolding low_bit high_bit code_at tabulate
high_low = same_below 256 (λ x. placed low_bit (x / 2)) (placed high_bit) refl

pub both_low : (x : ℕ) → x < 256 → placed low_bit (bit_and x (x / 2)) ≡ placed both_bits x
unfolding low_bit both_bits code_at tabulate
both_low = same_below 256 (λ x. placed low_bit (bit_and x (x / 2))) (placed both_bits) refl

-- ---- each is 0 or 1
abbrev pub Bit : (ℕ → ℕ) → Type 0
Bit h = (code : ℕ) → h code ≤ 1

pub low_most : Bit low_bit
unfolding low_bit
low_most zero = omega arith
low_most (suc zero) = omega arith
low_most (suc (suc zero)) = omega arith
low_most (suc (suc (suc n))) = omega arith

pub high_most : Bit high_bit
unfolding high_bit
high_most zero = omega arith
high_most (suc zero) = omega arith
high_most (suc (suc n)) = omega arith

pub both_most : Bit both_bits
unfolding both_bits
both_most zero = omega arith
both_most (suc zero) = omega arith
both_most (suc (suc zero)) = omega arith
both_most (suc (suc (suc n))) = omega arith

-- ---- sums over codes
total_most : (h code : ℕ → ℕ) → Bit h → (n : ℕ) → total h code n ≤ n
unfolding total
total_most h code m zero = omega arith
total_most h code m (suc n) = omega (arith, total_most h code m n, m (code n))

total_add : (h code : ℕ → ℕ) (a b : ℕ) → total h code (a + b) ≡ total h code a + total h (λ k. code (a + k)) b
unfolding total
total_add h code a zero = ap (total h code) (add-zero a) ∙ omega arith
total_add h code a (suc b) = ap (total h code) (add-suc a b) ∙ omega (arith, total_add h code a b)

module _ (h : ℕ → ℕ) (file : List ℕ) where
  item_on : (start w k : ℕ) → code_at (get_or file (start + (4 * w + k) / 4) 0) ((4 * w + k) % 4) ≡ code_at (get_or file (start + w + k / 4) 0) (k % 4)
  item_on start w k =
      let a : start + (4 * w + k) / 4 ≡ start + w + k / 4 = omega arith in
      let b : (4 * w + k) % 4 ≡ k % 4 = omega arith in
      ap (λ (x : ℕ). code_at (get_or file x 0) ((4 * w + k) % 4)) a ∙ ap (code_at (get_or file (start + w + k / 4) 0)) b

  -- w bytes, and n items more
  items_add : (start w n : ℕ) → total_items h file start (4 * w + n) ≡ total_items h file start (4 * w) + total_items h file (start + w) n
  items_add start w n =
      total_add h (λ i. code_at (get_or file (start + i / 4) 0) (i % 4)) (4 * w) n
      ∙ ap (λ (x : ℕ). total_items h file start (4 * w) + x) (total_ext h _ _ n (λ k l. item_on start w k))

  items_most : Bit h → (start n : ℕ) → total_items h file start n ≤ n
  items_most m start n = total_most h (λ i. code_at (get_or file (start + i / 4) 0) (i % 4)) m n

-- ---- so many rows of 16 bytes
-- the sum of four codes put together
module _ (a b c d : ℕ) (ha : a < 4) (hb : b < 4) (hc : c < 4) (hd : d < 4) where
  abbrev four_put : ℕ
  four_put = a + 4 * b + 16 * c + 64 * d

  four_codes : in_byte (λ code. code) four_put ≡ a + b + c + d
  unfolding in_byte
  four_codes = let p = place_code_law a b c d ha hb hc hd in cc (p.0, p.1, p.2, p.3)

module _ (h : ℕ → ℕ) (file : List ℕ) (at : ℕ) where
  -- byte j of row r
  abbrev byte_of : ℕ → ℕ → ℕ
  byte_of j r = get_or file (at + 16 * r + j) 0

  -- the sum of the bytes j of r rows, each with h of each code in the code's place
  abbrev pub column : ℕ → ℕ → ℕ
  column j r = total (placed h) (byte_of j) r

  -- the sum of h over the codes at place p of those bytes
  abbrev lane : ℕ → ℕ → ℕ → ℕ
  lane j p r = total h (λ k. code_at (byte_of j k) p) r

  lanes : (j r : ℕ) → column j r ≡ lane j 0 r + 4 * lane j 1 r + 16 * lane j 2 r + 64 * lane j 3 r
  unfolding total
  lanes j zero = omega arith
  lanes j (suc r) = omega (arith, lanes j r)

  lane_most : Bit h → (j p r : ℕ) → lane j p r ≤ r
  lane_most m j p r = total_most h (λ k. code_at (byte_of j k) p) m r

  column_codes : Bit h → (j r : ℕ) → r ≤ 3 → in_byte (λ code. code) (column j r) ≡ lane j 0 r + lane j 1 r + lane j 2 r + lane j 3 r
  column_codes m j r l =
      let a : (p : ℕ) → lane j p r < 4 = λ p. omega (arith, lane_most m j p r) in
      ap (in_byte (λ code. code)) (lanes j r) ∙ four_codes (lane j 0 r) (lane j 1 r) (lane j 2 r) (lane j 3 r) (a 0) (a 1) (a 2) (a 3)

  pub column_none : (j : ℕ) → 0 ≡ column j 0
  unfolding total
  column_none j = refl

  -- the byte of one row more
  module _ (m : Bit h) (j r sum more x : ℕ) (e : sum ≡ column j r) (f : more ≡ placed h x) (ex : x ≡ byte_of j r) where
    pub column_more : sum + more ≡ column j (r + 1)
    unfolding total
    column_more =
        let n : r + 1 ≡ suc r = omega arith in
        let s = ap (column j) n in
        let g = ap (placed h) ex in
        omega (arith, e, f, g, s)

    pub column_room : (rows : ℕ) → r < rows → rows ≤ 3 → sum + more < 256
    column_room rows l b =
        omega (arith, column_more, lanes j (r + 1), lane_most m j 0 (r + 1), lane_most m j 1 (r + 1), lane_most m j 2 (r + 1), lane_most m j 3 (r + 1))

  -- the first j bytes of each of so many rows
  abbrev pub in_rows : ℕ → ℕ → ℕ
  in_rows rows j = total (λ r. total_items h file (at + 16 * r) (4 * j)) (λ r. r) rows

  pub rows_none : (rows : ℕ) → 0 ≡ in_rows rows 0
  unfolding total
  rows_none zero = refl
  rows_none (suc rows) = omega (arith, rows_none rows)

  lanes_more : (rows j : ℕ) → in_rows rows (j + 1) ≡ in_rows rows j + (lane j 0 rows + lane j 1 rows + lane j 2 rows + lane j 3 rows)
  unfolding total in_byte
  lanes_more zero j = omega arith
  lanes_more (suc rows) j = omega (arith, lanes_more rows j, byte_more file (at + 16 * rows) h j (byte_of j rows) refl)

  rows_most : Bit h → (rows j : ℕ) → j ≤ 16 → in_rows rows j ≤ 64 * rows
  unfolding total
  rows_most m zero j l = omega arith
  rows_most m (suc rows) j l = omega (arith, rows_most m rows j l, items_most h file m (at + 16 * rows) (4 * j))

  -- one byte more of each
  module _ (m : Bit h) (rows r j sum bits more : ℕ) (e : sum ≡ in_rows rows j) (f : bits ≡ column j r) (g : more ≡ in_byte (λ code. code) bits)
      (er : r ≡ rows) (l : rows ≤ 3) where
    pub rows_more_law : sum + more ≡ in_rows rows (j + 1)
    rows_more_law =
        let c = ap (in_byte (λ code. code)) (f ∙ ap (column j) er) ∙ column_codes m j rows l in
        omega (arith, e, g, c, lanes_more rows j)

    pub rows_room : j < 16 → sum + more < 256
    rows_room b = omega (arith, rows_more_law, rows_most m rows (j + 1) (omega arith))

  all_rows : (rows : ℕ) → in_rows rows 16 ≡ total_items h file at (64 * rows)
  unfolding total
  all_rows zero = refl
  all_rows (suc rows) =
      let p = items_add h file at (16 * rows) 64 in
      let a : 64 * suc rows ≡ 4 * (16 * rows) + 64 = omega arith in
      let b : 4 * (16 * rows) ≡ 64 * rows = omega arith in
      let s = ap (total_items h file at) a in
      let t = ap (total_items h file at) b in
      omega (arith, p, s, t, all_rows rows)

  pub rows_all : (rows j sum : ℕ) → sum ≡ in_rows rows j → j ≡ 16 → sum ≡ total_items h file at (64 * rows)
  rows_all rows j sum e f = e ∙ ap (in_rows rows) f ∙ all_rows rows

-- ---- rows so far
module _ (file : List ℕ) (start : ℕ) where
  pub bits_none : BitsCounted file start 0 (record { low = 0; high = 0; both = 0 })
  unfolding total
  bits_none = record { low_is = refl; high_is = refl; both_is = refl }

  add_rows :
      (h : ℕ → ℕ) (r k x y : ℕ) → x ≡ total_items h file start (64 * r) → y ≡ total_items h file (start + 16 * r) (64 * k)
      → x + y ≡ total_items h file start (64 * (r + k))
  add_rows h r k x y e f =
      let p = items_add h file start (16 * r) (64 * k) in
      let a : 4 * (16 * r) ≡ 64 * r = omega arith in
      let b : 4 * (16 * r) + 64 * k ≡ 64 * (r + k) = omega arith in
      let s = ap (total_items h file start) a in
      let t = ap (total_items h file start) b in
      omega (arith, e, f, p, s, t)

  -- k rows more: n codes after r rows make m
  pub bits_more :
      (r k n m at : ℕ) (bits more sum : BitCounts) → sum ≡ bits_sum bits more → at ≡ start + 16 * r → n ≡ 64 * r → m ≡ 64 * (r + k)
      → BitsCounted file start n bits → BitsCounted file at (64 * k) more → BitsCounted file start m sum
  bits_more r k n m at bits more sum e a en em b c =
      let b' = subst (λ (x : ℕ). BitsCounted file start x bits) en b in
      let c' = subst (λ (x : ℕ). BitsCounted file x (64 * k) more) a c in
      subst (BitsCounted file start m) (sym e)
      (subst (λ (x : ℕ). BitsCounted file start x (bits_sum bits more)) (sym em)
      (record {
        low_is = add_rows low_bit r k bits.low more.low b'.low_is c'.low_is;
        high_is = add_rows high_bit r k bits.high more.high b'.high_is c'.high_is;
        both_is = add_rows both_bits r k bits.both more.both b'.both_is c'.both_is;
      }))

-- ---- the tally by the bits
module _ (z o t b : ℕ) where
  -- the tally of z codes 0, o codes 1, t codes 2 and b codes 3
  abbrev four : ℕ
  four = z * 4294967296 + o * 281474976710656 + t * 65536 + b

  four_tally : (n : ℕ) (bits : BitCounts) → bits.low ≡ o + b → bits.high ≡ t + b → bits.both ≡ b → n ≡ z + (bits.low + t) → TallyOf n bits four
  unfolding weight
  four_tally n bits el eh eb en = omega arith

module _ (n : ℕ) (bits : BitCounts) (o : Ordered n bits) where
  pub tally_is : TallyOf n bits (four (n - (bits.low + (bits.high - bits.both))) (bits.low - bits.both) (bits.high - bits.both) bits.both)
  tally_is = four_tally (n - (bits.low + (bits.high - bits.both))) (bits.low - bits.both) (bits.high - bits.both) bits.both n bits (omega arith) (omega arith) refl (omega arith)

-- one code
abbrev one_code : ℕ → BitCounts
one_code x = record { low = low_bit x; high = high_bit x; both = both_bits x }

code_order : (x : ℕ) → Ordered 1 (one_code x)
unfolding low_bit high_bit both_bits
code_order zero = (omega arith, omega arith, omega arith)
code_order (suc zero) = (omega arith, omega arith, omega arith)
code_order (suc (suc zero)) = (omega arith, omega arith, omega arith)
code_order (suc (suc (suc n))) = (omega arith, omega arith, omega arith)

code_tally : (x : ℕ) → TallyOf 1 (one_code x) (weight x)
unfolding low_bit high_bit both_bits weight
code_tally zero = refl
code_tally (suc zero) = refl
code_tally (suc (suc zero)) = refl
code_tally (suc (suc (suc n))) = refl

-- n codes
module _ (code : ℕ → ℕ) where
  abbrev bits_of : ℕ → BitCounts
  bits_of n = record { low = total low_bit code n; high = total high_bit code n; both = total both_bits code n }

  bits_order : (n : ℕ) → Ordered n (bits_of n)
  unfolding total
  bits_order zero = (omega arith, omega arith, omega arith)
  bits_order (suc n) = let r = bits_order n in let o = code_order (code n) in (omega arith, omega arith, omega arith)

  bits_tally : (n : ℕ) → TallyOf n (bits_of n) (tally code n)
  unfolding total weight
  bits_tally zero = refl
  bits_tally (suc n) = let r = bits_tally n in let o = code_tally (code n) in omega arith

module _ (file : List ℕ) (start n : ℕ) (bits : BitCounts) (r : BitsCounted file start n bits) where
  pub counted_most : (bits.low ≤ n) × (bits.high ≤ n) × (bits.both ≤ n)
  counted_most =
      let a = items_most low_bit file low_most start n in
      let b = items_most high_bit file high_most start n in
      let c = items_most both_bits file both_most start n in
      (omega (arith, r.low_is), omega (arith, r.high_is), omega (arith, r.both_is))

  pub counted_order : Ordered n bits
  counted_order =
      let o = bits_order (λ i. code_at (get_or file (start + i / 4) 0) (i % 4)) n in
      let a = r.low_is in
      let b = r.high_is in
      let c = r.both_is in
      (omega arith, omega arith, omega arith)

  pub counted_tally : (t : ℕ) → TallyOf n bits t → t ≡ tally_items file start n
  unfolding weight
  counted_tally t e =
      let o = bits_tally (λ i. code_at (get_or file (start + i / 4) 0) (i % 4)) n in
      let a = r.low_is in
      let b = r.high_is in
      let c = r.both_is in
      omega arith
