-- Laws of where a call stands: the mode and the width of a file, and what animals and markers add.
use mathlib.Core.Path.{◌≡◌, refl, sym, ap, subst, ◌∙◌}
use mathlib.Core.Bool.{Bool, true, false, cond}
use mathlib.Core.List.{List}
use Prim.Native.Nat.{ℕ, ◌+◌, ◌-◌, ◌*◌, ◌/◌, ◌%◌, ◌^◌, ◌<◌, ◌≤◌}
use native.Mathlib.Nat.{mul_comm, mul-le-mul_right}
use native.Mathlib.Omega.{arith}
use borrow.Author.Tests.{le-leb, lt-leb, leb-true, leb-false}
use lib.Dec.{eqb, leb}
use lib.ListN.{length, get_or, take, drop, get_or-eq_default}
use Rattle.blocks.specs.Block.{block_width, file_length}
use Rattle.codes.specs.Code.{code_at, item_code}
use Rattle.answer.proofs.Tests.{by_lt}
use Rattle.bed_file.specs.File.{is_mode1, items, blocks}
use Rattle.calls.specs.Calls.{call_code}
use Rattle.calls.specs.declared.Part.{Part}
use Rattle.calls.specs.declared.Shape.{Shape}
use Rattle.calls.specs.Places.{IsShape, Shaped, is_block, part_byte, part_place, in_word, IsPart}
use Rattle.calls.proofs.CallLaws.{code_in_part, no_code_in_part, call_inside, call_at}

-- ---- the mode and the width
pub mode_short : (file : List ℕ) → length file < 3 → false ≡ is_mode1 file
unfolding is_mode1
mode_short file h = ap (λ (x : ℕ). eqb x 1) (sym (get_or-eq_default file 0 (omega arith)))

-- the shape of a file that is as long as an accepted one
pub shape_read :
    (file : List ℕ) (iids sids : ℕ) (shape : Shape) → IsShape file iids sids shape
    → length file ≡ file_length (items (is_mode1 file) iids sids) (blocks (is_mode1 file) iids sids) → Shaped file shape
shape_read file iids sids shape e l =
    record {
      mode_is = e.mode_is;
      width_is = e.width_is ∙ sym (ap block_width (counted items));
      length_is = l ∙ sym (ap (λ (n : ℕ). file_length n (blocks shape.mode1 shape.iids shape.sids)) (counted items) ∙ ap (file_length (items (is_mode1 file) iids sids)) (counted blocks));
    }
  where
    counted : (f : Bool → ℕ → ℕ → ℕ) → f shape.mode1 shape.iids shape.sids ≡ f (is_mode1 file) iids sids
    counted f =
        ap (λ (m : Bool). f m shape.iids shape.sids) e.mode_is
        ∙ ap (λ (n : ℕ). f (is_mode1 file) n shape.sids) e.iids_are
        ∙ ap (f (is_mode1 file) iids) e.sids_are

-- ---- in 64 bits
pub in_word_law : (n : ℕ) → n < 2 ^ 64 → in_word n ≡ n
unfolding in_word
in_word_law n h = ap (λ (b : Bool). cond b n (2 ^ 64 - 1)) (le-leb n (2 ^ 64 - 1) (omega arith))

past_word : (n : ℕ) → 2 ^ 64 - 1 < n → in_word n ≡ 2 ^ 64 - 1
unfolding in_word
past_word n h = ap (λ (b : Bool). cond b n (2 ^ 64 - 1)) (lt-leb n (2 ^ 64 - 1) h)

-- a byte of a file is named by the number itself
pub word_inside : (n size : ℕ) → size < 2 ^ 64 → in_word n < size → in_word n ≡ n
word_inside n size l h = by_lt n (2 ^ 64) (in_word_law n) (λ k. absurd (let e = past_word n (omega arith) in omega arith))

pub word_outside : (n size : ℕ) → size < 2 ^ 64 → size ≤ in_word n → size ≤ n
word_outside n size l h = by_lt n (2 ^ 64) (λ k. let e = in_word_law n k in omega arith) (λ k. omega arith)

-- ---- what a number adds
pub item_adds : (w n : ℕ) (part : Part) → n < 2 ^ 64 → part.byte ≡ n / 4 → part.place ≡ n % 4 → IsPart false w n part
unfolding part_byte part_place
item_adds w n part h b p = record { byte_is = b ∙ sym (in_word_law (n / 4) (omega arith)); place_is = p }

module _ (w n : ℕ) (b : Bool) (e : b ≡ leb (w * n) 18446744073709551612) where
  pub block_fits : b ≡ true → 3 + n * w < 2 ^ 64
  block_fits t = let h = leb-true (w * n) 18446744073709551612 (sym e ∙ t) in let c = mul_comm n w in omega arith

  pub block_adds : b ≡ true → IsPart true w n (record { byte = 3 + n * w; place = 0 })
  unfolding part_byte part_place
  block_adds t = record { byte_is = sym (in_word_law (3 + n * w) (block_fits t)); place_is = refl }

  pub block_past : b ≡ false → IsPart true w n (record { byte = 18446744073709551615; place = 0 })
  unfolding part_byte part_place
  block_past t =
      let h = leb-false (w * n) 18446744073709551612 (sym e ∙ t) in
      let c = mul_comm n w in
      record { byte_is = sym (past_word (3 + n * w) (omega arith)); place_is = refl }

pub part_of : (b c : Bool) (w n : ℕ) (part : Part) → b ≡ c → IsPart b w n part → IsPart c w n part
part_of b c w n part e p = subst (λ (x : Bool). IsPart x w n part) e p

-- ---- item i of block b, by the block's first byte
module _ (file : List ℕ) (l : length file < 2 ^ 64) (w b i start : ℕ) (e : start ≡ in_word (part_byte true w b)) where
  pub item_found : i / 4 < w → start < length file → code_at (get_or file (start + i / 4) 0) (i % 4) ≡ item_code (take w (drop (3 + b * w) file)) i
  unfolding part_byte
  item_found h k =
      let f : start ≡ 3 + b * w = e ∙ word_inside (3 + b * w) (length file) l (subst (λ (x : ℕ). x < length file) e k) in
      ap (λ (x : ℕ). code_at (get_or file (x + i / 4) 0) (i % 4)) f ∙ sym (code_in_part file w (3 + b * w) i h)

  pub item_none : (i / 4 < w → start < length file → length file ≤ start + i / 4) → 0 ≡ item_code (take w (drop (3 + b * w) file)) i
  unfolding part_byte
  item_none h =
      no_code_in_part file w (3 + b * w) i
      (λ k. by_lt start (length file)
      (λ g. let f : start ≡ 3 + b * w = e ∙ word_inside (3 + b * w) (length file) l (subst (λ (x : ℕ). x < length file) e g) in let n = h k g in omega arith)
      (λ g. let f = word_outside (3 + b * w) (length file) l (subst (λ (x : ℕ). length file ≤ x) e g) in omega arith))

-- a place is one of four
pub part_below : (b : Bool) (n : ℕ) → part_place b n < 4
unfolding part_place
part_below true n = omega arith
part_below false n = omega arith

pub place_below : (b : Bool) (w n : ℕ) (part : Part) → IsPart b w n part → part.place < 4
place_below b w n part p = let q = p.place_is in let r = part_below b n in omega arith

-- ---- what a number below its count adds, in an accepted file, fits a word
start_fits : (n count w size : ℕ) → n < count → size ≡ 3 + w * count → size < 2 ^ 64 → 3 + n * w < 2 ^ 64
start_fits n count w size h e l =
    let m : n * w ≤ count * w = mul-le-mul_right w (omega arith) in let c : count * w ≡ w * count = mul_comm count w in omega arith

file_size : (size w n k : ℕ) → w ≡ block_width n → size ≡ file_length n k → size ≡ 3 + w * k
file_size size w n k e f = f ∙ ap (λ (x : ℕ). 3 + x * k) (sym e)

module _ (size w iids sids : ℕ) (l : size < 2 ^ 64) where
  iid_fits :
      (m : Bool) → w ≡ block_width (items m iids sids) → size ≡ file_length (items m iids sids) (blocks m iids sids) → (a : ℕ) → a < iids → a < 2 ^ 64
      → part_byte (is_block m true) w a < 2 ^ 64
  unfolding part_byte items blocks
  iid_fits true ew el a h f = omega arith
  iid_fits false ew el a h f = start_fits a iids w size h (file_size size w sids iids ew el) l

  sid_fits :
      (m : Bool) → w ≡ block_width (items m iids sids) → size ≡ file_length (items m iids sids) (blocks m iids sids) → (s : ℕ) → s < sids → s < 2 ^ 64
      → part_byte (is_block m false) w s < 2 ^ 64
  unfolding part_byte items blocks
  sid_fits true ew el s h f = start_fits s sids w size h (file_size size w iids sids ew el) l
  sid_fits false ew el s h f = omega arith

module _ (file : List ℕ) (shape : Shape) (sh : Shaped file shape) (l : length file < 2 ^ 64) where
  pub iid_byte_law : (a : ℕ) → a < shape.iids → a < 2 ^ 64 → in_word (part_byte (is_block shape.mode1 true) shape.width a) ≡ part_byte (is_block shape.mode1 true) shape.width a
  iid_byte_law a h f = in_word_law _ (iid_fits (length file) shape.width shape.iids shape.sids l shape.mode1 sh.width_is sh.length_is a h f)

  pub sid_byte_law : (s : ℕ) → s < shape.sids → s < 2 ^ 64 → in_word (part_byte (is_block shape.mode1 false) shape.width s) ≡ part_byte (is_block shape.mode1 false) shape.width s
  sid_byte_law s h f = in_word_law _ (sid_fits (length file) shape.width shape.iids shape.sids l shape.mode1 sh.width_is sh.length_is s h f)

-- ---- an animal a and a marker s: their bytes and places make those of the call
pair_byte_law : (m : Bool) (w a s : ℕ) → part_byte (is_block m true) w a + part_byte (is_block m false) w s ≡ 3 + cond m s a * w + cond m a s / 4
unfolding part_byte
pair_byte_law true w a s = omega arith
pair_byte_law false w a s = refl

pair_place_law : (m : Bool) (a s : ℕ) → part_place (is_block m true) a + part_place (is_block m false) s ≡ cond m a s % 4
unfolding part_place
pair_place_law true a s = omega arith
pair_place_law false a s = omega arith

module _ (file : List ℕ) (shape : Shape) (sh : Shaped file shape) (a s : ℕ) (ha : a < shape.iids) (hs : s < shape.sids) where
  abbrev m : Bool
  m = shape.mode1

  abbrev width : ℕ
  width = block_width (items m shape.iids shape.sids)

  -- the byte and the place of the call
  abbrev pub pair_byte : ℕ
  pair_byte = part_byte (is_block shape.mode1 true) shape.width a + part_byte (is_block shape.mode1 false) shape.width s

  abbrev pub pair_place : ℕ
  pair_place = part_place (is_block shape.mode1 true) a + part_place (is_block shape.mode1 false) s

  stands : pair_byte ≡ 3 + cond m s a * width + cond m a s / 4
  stands = pair_byte_law m shape.width a s ∙ ap (λ (x : ℕ). 3 + cond m s a * x + cond m a s / 4) sh.width_is

  pub pair_inside : pair_byte < length file
  pair_inside = subst (λ (x : ℕ). x < length file) (sym stands) (call_inside file shape.iids shape.sids a s m sh.length_is ha hs)

  pub pair_code : code_at (get_or file pair_byte 0) pair_place ≡ call_code file shape.iids shape.sids a s
  pair_code =
      ap (λ (x : ℕ). code_at (get_or file x 0) pair_place) stands
      ∙ ap (code_at (get_or file (3 + cond m s a * width + cond m a s / 4) 0)) (pair_place_law m a s)
      ∙ sym (call_at file shape.iids shape.sids a s m sh.mode_is ha hs)
