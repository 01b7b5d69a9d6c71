-- Laws of the file that is written, by its bytes.
use mathlib.Core.Path.{◌≡◌, refl, sym, ap, subst, ◌∙◌}
use mathlib.Core.List.{List, ◌∷◌, ◌++◌}
use Prim.Native.Nat.{ℕ, zero, suc, ◌+◌, ◌*◌, ◌<◌}
use native.Mathlib.Nat.{mul_comm, zero-mul}
use native.Mathlib.Omega.{arith}
use lib.ListN.{length, get_or, length-append, get_or-append}
use lib.Seq.{get_or-append-add}
use Rattle.blocks.specs.Block.{block_width, file_length}
use Rattle.codes.specs.Code.{packed_byte, packed}
use Rattle.answer.specs.Lists.{tabulate}
use Rattle.codes.proofs.CodeLaws.{packed_length}
use Rattle.answer.proofs.Tabulate.{length_tabulate, get_d_tabulate, tabulate_ext}
use Rattle.bed_write.specs.Writing.{joined, bed_file}

-- ---- blocks of one width, one after the other
module _ (w : ℕ) where
  pub joined_length : (n : ℕ) (block : ℕ → List ℕ) → ((m : ℕ) → length (block m) ≡ w) → length (joined n block) ≡ w * n
  unfolding joined
  joined_length zero block l = sym (mul_comm w 0 ∙ zero-mul w)
  joined_length (suc n) block l =
      length-append (block 0) (joined n (λ m. block (suc m)))
      ∙ let e = l 0 in let r = joined_length n (λ m. block (suc m)) (λ m. l (suc m)) in omega arith

  pub joined_byte : (n : ℕ) (block : ℕ → List ℕ) → ((m : ℕ) → length (block m) ≡ w) → (m b : ℕ) → m < n → b < w → get_or (joined n block) (m * w + b) 0 ≡ get_or (block m) b 0
  unfolding joined
  joined_byte zero block l m b h g = absurd (omega arith)
  joined_byte (suc n) block l zero b h g =
      let e : 0 * w + b ≡ b = omega arith in
      ap (λ (k : ℕ). get_or (block 0 ++ joined n (λ m. block (suc m))) k 0) e
      ∙ get_or-append (block 0) (joined n (λ m. block (suc m))) 0 b (let q = l 0 in omega arith)
  joined_byte (suc n) block l (suc m) b h g =
      let q = l 0 in
      let e : suc m * w + b ≡ length (block 0) + (m * w + b) = omega arith in
      ap (λ (k : ℕ). get_or (block 0 ++ joined n (λ m. block (suc m))) k 0) e
      ∙ get_or-append-add (block 0) (joined n (λ m. block (suc m))) (m * w + b) 0
      ∙ joined_byte n (λ m. block (suc m)) (λ m. l (suc m)) m b (omega arith) g

pub joined_ext : (n : ℕ) (x y : ℕ → List ℕ) → ((m : ℕ) → m < n → x m ≡ y m) → joined n x ≡ joined n y
unfolding joined
joined_ext zero x y e = refl
joined_ext (suc n) x y e =
    ap (λ (l : List ℕ). l ++ joined n (λ m. x (suc m))) (e 0 (omega arith))
    ∙ ap (λ (l : List ℕ). y 0 ++ l) (joined_ext n (λ m. x (suc m)) (λ m. y (suc m)) (λ m h. e (suc m) (omega arith)))

-- ---- the file
module _ (iids sids : ℕ) (code : ℕ → ℕ → ℕ) where
  abbrev column : ℕ → List ℕ
  column m = tabulate iids (λ a. code a m)

  pub column_length : (m : ℕ) → length (packed (column m)) ≡ block_width iids
  column_length m = packed_length (column m) ∙ ap block_width (length_tabulate iids (λ a. code a m))

  pub bed_length : length (bed_file iids sids code) ≡ file_length iids sids
  unfolding bed_file
  bed_length = let l = joined_length (block_width iids) sids (λ m. packed (column m)) column_length in omega arith

  -- byte b of block m
  pub bed_byte : (m b : ℕ) → m < sids → b < block_width iids → get_or (bed_file iids sids code) (3 + m * block_width iids + b) 0 ≡ packed_byte (column m) b
  unfolding bed_file packed
  bed_byte m b h g =
      let e : 3 + m * block_width iids + b ≡ suc (suc (suc (m * block_width iids + b))) = omega arith in
      ap (λ (k : ℕ). get_or (bed_file iids sids code) k 0) e
      ∙ joined_byte (block_width iids) sids (λ m. packed (column m)) column_length m b h g
      ∙ get_d_tabulate (block_width (length (column m))) (packed_byte (column m)) b 0
      (subst (λ (x : ℕ). b < block_width x) (sym (length_tabulate iids (λ a. code a m))) g)

-- equal codes make equal files
pub bed_ext :
    (iids sids : ℕ) (c d : ℕ → ℕ → ℕ) → ((a m : ℕ) → a < iids → m < sids → c a m ≡ d a m) → bed_file iids sids c ≡ bed_file iids sids d
unfolding bed_file
bed_ext iids sids c d e =
    ap (λ (l : List ℕ). 0x6C ∷ 0x1B ∷ 1 ∷ l)
    (joined_ext sids (λ m. packed (tabulate iids (λ a. c a m))) (λ m. packed (tabulate iids (λ a. d a m)))
    (λ m h. ap packed (tabulate_ext iids (λ a. c a m) (λ a. d a m) (λ a g. e a m g h))))
