-- Laws of calls: where the code of a call stands in the file, over plain numbers and lists.
use mathlib.Core.Path.{◌≡◌, sym, ap, ◌∙◌}
use mathlib.Core.Bool.{Bool, true, false, cond}
use mathlib.Core.List.{List}
use Prim.Native.Nat.{ℕ, ◌+◌, ◌*◌, ◌/◌, ◌%◌, ◌^◌, ◌<◌, ◌≤◌}
use native.Mathlib.Nat.{mul_comm, min-le_left, zero-div}
use native.Mathlib.Omega.{arith}
use lib.Arith.{digits_lt}
use lib.ListN.{length, get_or, take, drop, length-take, get_or-eq_default}
use lib.Seq.{get_or-take, get_or-drop}
use Rattle.blocks.specs.Block.{block_width, file_length}
use Rattle.codes.specs.Code.{code_at, item_code}
use Rattle.codes.proofs.CodeLaws.{item_below, width_room}
use Rattle.answer.proofs.Tests.{by_lt}
use Rattle.bed_file.specs.File.{is_mode1, items, blocks}
use Rattle.calls.specs.Calls.{block, code_in, call_code}

-- every code of a call is a code
pub call_below : (file : List ℕ) (iids sids a m : ℕ) → call_code file iids sids a m < 4
unfolding call_code
call_below file iids sids a m = by_mode (is_mode1 file)
  where
    by_mode : (b : Bool) → code_in b file iids sids a m < 4
    by_mode true = item_below _ _
    by_mode false = item_below _ _

-- ---- item i of the w bytes from a start on
no_code : (place : ℕ) → code_at 0 place ≡ 0
unfolding code_at
no_code place = ap (λ (k : ℕ). k % 4) (zero-div (2 ^ (2 * place)))

module _ (file : List ℕ) (w start i : ℕ) where
  -- its byte is one of them
  pub code_in_part : i / 4 < w → item_code (take w (drop start file)) i ≡ code_at (get_or file (start + i / 4) 0) (i % 4)
  unfolding item_code
  code_in_part h = ap (λ (x : ℕ). code_at x (i % 4)) (get_or-take w (drop start file) (i / 4) 0 h ∙ get_or-drop start file (i / 4) 0)

  past : w ≤ i / 4 → item_code (take w (drop start file)) i ≡ 0
  unfolding item_code
  past b =
      let l = length-take w (drop start file) in
      let m = min-le_left w (length (drop start file)) in
      ap (λ (x : ℕ). code_at x (i % 4)) (get_or-eq_default (take w (drop start file)) 0 (omega arith)) ∙ no_code (i % 4)

  -- its byte is not one of them, or past the end of the file
  pub no_code_in_part : (i / 4 < w → length file ≤ start + i / 4) → 0 ≡ item_code (take w (drop start file)) i
  no_code_in_part h =
      by_lt (i / 4) w (λ b. sym (code_in_part b ∙ ap (λ (x : ℕ). code_at x (i % 4)) (get_or-eq_default file 0 (h b)) ∙ no_code (i % 4)))
      (λ b. sym (past b))

-- ---- item i of block b, in a file of blocks for n items
byte_of_item : (n i : ℕ) → i < n → i / 4 < block_width n
byte_of_item n i h = let r = (width_room n).0 in omega arith

-- its byte is inside the file
pub byte_inside : (file : List ℕ) (n k b i : ℕ) → length file ≡ file_length n k → b < k → i < n → 3 + b * block_width n + i / 4 < length file
byte_inside file n k b i l hb hi =
    let d : b * block_width n + i / 4 < k * block_width n = digits_lt hb (byte_of_item n i hi) in
    let c : k * block_width n ≡ block_width n * k = mul_comm k (block_width n) in
    omega arith

-- and holds its code
pub code_in_byte : (file : List ℕ) (n b i : ℕ) → i < n → item_code (block file n b) i ≡ code_at (get_or file (3 + b * block_width n + i / 4) 0) (i % 4)
unfolding block
code_in_byte file n b i hi = code_in_part file (block_width n) (3 + b * block_width n) i (byte_of_item n i hi)

-- ---- the call of animal a at marker s
module _ (file : List ℕ) (iids sids a s : ℕ) where
  pub call_is : (m : Bool) → m ≡ is_mode1 file → call_code file iids sids a s ≡ item_code (block file (items m iids sids) (cond m s a)) (cond m a s)
  unfolding call_code items
  call_is true e = ap (λ (x : Bool). code_in x file iids sids a s) (sym e)
  call_is false e = ap (λ (x : Bool). code_in x file iids sids a s) (sym e)

  item_in : (m : Bool) → a < iids → s < sids → cond m a s < items m iids sids
  unfolding items
  item_in true ha hs = ha
  item_in false ha hs = hs

  block_in : (m : Bool) → a < iids → s < sids → cond m s a < blocks m iids sids
  unfolding blocks
  block_in true ha hs = hs
  block_in false ha hs = ha

  -- "for an accepted file and numbers below the counts, every byte position that the definition of a call names is below the file's length"
  pub call_inside :
      (m : Bool) → length file ≡ file_length (items m iids sids) (blocks m iids sids) → a < iids → s < sids
      → 3 + cond m s a * block_width (items m iids sids) + cond m a s / 4 < length file
  call_inside m l ha hs =
      byte_inside file (items m iids sids) (blocks m iids sids) (cond m s a) (cond m a s) l (block_in m ha hs) (item_in m ha hs)

  pub call_at :
      (m : Bool) → m ≡ is_mode1 file → a < iids → s < sids
      → call_code file iids sids a s ≡ code_at (get_or file (3 + cond m s a * block_width (items m iids sids) + cond m a s / 4) 0) (cond m a s % 4)
  call_at m e ha hs = call_is m e ∙ code_in_byte file (items m iids sids) (cond m s a) (cond m a s) (item_in m ha hs)

-- by the mode and the width as they were found
pub call_found :
    (file : List ℕ) (iids sids a s : ℕ) (mode1 b : Bool) (w r : ℕ) → mode1 ≡ is_mode1 file → w ≡ block_width (items (is_mode1 file) iids sids) → mode1 ≡ b
    → r ≡ item_code (take w (drop (3 + cond b s a * w) file)) (cond b a s) → r ≡ call_code file iids sids a s
unfolding block
call_found file iids sids a s mode1 b w r em ew e f =
    let m : b ≡ is_mode1 file = sym e ∙ em in
    let k : w ≡ block_width (items b iids sids) = ew ∙ ap (λ (x : Bool). block_width (items x iids sids)) (sym m) in
    f ∙ ap (λ (x : ℕ). item_code (take x (drop (3 + cond b s a * x) file)) (cond b a s)) k ∙ sym (call_is file iids sids a s b m)
