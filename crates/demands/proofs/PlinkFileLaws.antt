-- Laws for PLINK's file, over plain lists, numbers and values.
use mathlib.Core.Path.{◌≡◌, refl, sym, ap, subst, ◌∙◌}
use mathlib.Core.Bool.{Bool, true, false, cond}
use mathlib.Core.List.{List, [], ◌∷◌}
use Rattle.std.specs.Prelude.{Option, Some, None}
use Prim.Native.Nat.{ℕ, zero, suc, ◌+◌, ◌*◌, ◌/◌, ◌%◌, ◌^◌, ◌<◌, ◌≤◌}
use native.Mathlib.Nat.{mul-div_cancel}
use native.Mathlib.Omega.{arith}
use borrow.Author.Tests.{eqb-true, ne_eqb}
use lib.Dec.{eqb}
use lib.IntN.{ℤ, pos, negsuc}
use lib.Ieee.{Float, nan, inf, fin, up, down, level, eq}
use lib.ListN.{length, get_or, take, drop, get_or-eq_default}
use lib.Seq.{get_or-take, get_or-drop}
use Rattle.codes.specs.Code.{item_code, copies}
use Rattle.answer.specs.Lists.{tabulate}
use Rattle.codes.specs.Plink.{Genotype, homozygous_first, missing, heterozygous, homozygous_second, genotype_of, block_bit, genotype_at, copies_of_first, copies_of_second, copies_value}
use Rattle.codes.specs.Value.{Width, i8, float, same_int, value_of, code_of, same_or_nan}
use Rattle.codes.proofs.CodeLaws.{Codes}
use Rattle.codes.proofs.PlinkLaws.{decoding_is_plink}
use Rattle.answer.proofs.Tabulate.{length_tabulate, get_d_tabulate}
use Rattle.answer.proofs.Tests.{both_true, by_lt}
use Rattle.codes.proofs.ValueLaws.{zero_code, one_code_law, two_code}
use Rattle.demands.specs.PlinkFile.{copies_by, Apart, StandsIn}

-- ---- a part of a list of bytes
pub three_bytes :
    (file : List ℕ) (a b c : ℕ) → 3 ≤ length file → get_or file 0 0 ≡ a → get_or file 1 0 ≡ b → get_or file 2 0 ≡ c
    → take 3 file ≡ a ∷ b ∷ c ∷ []
three_bytes [] a b c h ea eb ec = absurd (omega arith)
three_bytes (x ∷ []) a b c h ea eb ec = absurd (omega arith)
three_bytes (x ∷ y ∷ []) a b c h ea eb ec = absurd (omega arith)
three_bytes (x ∷ y ∷ z ∷ rest) a b c h ea eb ec = cc

-- bit k of a list is a bit of another that has the same bytes from byte `start` on
pub same_bit : (x y : List ℕ) (k at start : ℕ) → at ≡ 8 * start + k → get_or x (start + k / 8) 0 ≡ get_or y (k / 8) 0 → block_bit x at ≡ block_bit y k
unfolding block_bit
same_bit x y k at start e f =
    let q : at / 8 ≡ start + k / 8 = omega arith in
    let r : at % 8 ≡ k % 8 = omega arith in
    ap (λ (n : ℕ). eqb (n / 2 ^ (at % 8) % 2) 1) (ap (λ (n : ℕ). get_or x n 0) q ∙ f) ∙ ap (λ (n : ℕ). eqb (get_or y (k / 8) 0 / 2 ^ n % 2) 1) r

module _ (file : List ℕ) (start width : ℕ) where
  abbrev part : List ℕ
  part = take width (drop start file)

  part_bit : (k at : ℕ) → k < 8 * width → at ≡ 8 * start + k → block_bit file at ≡ block_bit part k
  part_bit k at h e = same_bit file part k at start e (sym (get_or-take width (drop start file) (k / 8) 0 (omega arith) ∙ get_or-drop start file (k / 8) 0))

  -- the copies of an item of the part are those of the genotype of its two bits
  pub part_copies :
      (i high low : ℕ) → i < 4 * width → high ≡ 8 * start + (2 * i + 1) → low ≡ 8 * start + 2 * i
      → copies (item_code part i) ≡ copies_of_first (genotype_of (block_bit file high) (block_bit file low))
  unfolding genotype_at
  part_copies i high low h eh el =
      decoding_is_plink part i
      ∙ ap (λ (b : Bool). copies_of_first (genotype_of b (block_bit part (2 * i)))) (sym (part_bit (2 * i + 1) high (omega arith) eh))
      ∙ ap (λ (b : Bool). copies_of_first (genotype_of (block_bit file high) b)) (sym (part_bit (2 * i) low (omega arith) el))

-- ---- codes, copies and values
pub tabulated_codes : (n : ℕ) (code : ℕ → ℕ) → ((k : ℕ) → k < n → code k < 4) → Codes (tabulate n code)
tabulated_codes n code small k =
    by_lt k n (λ h. subst (λ (c : ℕ). c < 4) (sym (get_d_tabulate n code k 0 h)) (small k h))
    (λ h. let l = length_tabulate n code in let e : get_or (tabulate n code) k 0 ≡ 0 = get_or-eq_default (tabulate n code) 0 (omega arith) in omega arith)

-- the genotype that has so many copies of the first allele
by_copies : Option ℕ → Genotype
by_copies None = missing
by_copies (Some zero) = homozygous_second
by_copies (Some (suc zero)) = heterozygous
by_copies (Some (suc (suc k))) = homozygous_first

by_copies_law : (g : Genotype) → by_copies (copies_of_first g) ≡ g
unfolding by_copies copies_of_first
by_copies_law homozygous_first = refl
by_copies_law missing = refl
by_copies_law heterozygous = refl
by_copies_law homozygous_second = refl

pub same_genotype : (g h : Genotype) → copies_of_first g ≡ copies_of_first h → g ≡ h
same_genotype g h e = sym (by_copies_law g) ∙ ap by_copies e ∙ by_copies_law h

-- that of a code
named : (c : ℕ) (g : Genotype) → copies c ≡ copies_of_first g → by_copies (copies c) ≡ g
named c g e = ap by_copies e ∙ by_copies_law g

module _ {V : Type 0} (w : Width V) (absent : V) (flag : Bool) where
  value_named : (b : Bool) (c : ℕ) → c < 4 → value_of w b absent c ≡ copies_value w absent (copies_by b (by_copies (copies c)))
  unfolding value_of copies_value copies_by copies_of_first copies_of_second by_copies copies
  value_named true zero h = refl
  value_named true (suc zero) h = refl
  value_named true (suc (suc zero)) h = refl
  value_named true (suc (suc (suc zero))) h = refl
  value_named false zero h = refl
  value_named false (suc zero) h = refl
  value_named false (suc (suc zero)) h = refl
  value_named false (suc (suc (suc zero))) h = refl
  value_named b (suc (suc (suc (suc c)))) h = absurd (omega arith)

  -- the value of a code is that of a genotype with the code's copies
  pub value_copies : (c : ℕ) (g : Genotype) → c < 4 → copies c ≡ copies_of_first g → value_of w flag absent c ≡ copies_value w absent (copies_by flag g)
  value_copies c g h e = value_named flag c h ∙ ap (λ (x : Genotype). copies_value w absent (copies_by flag x)) (named c g e)

  -- and a value that has a code stands in a genotype with the code's copies
  module _ (apart : Apart w) (v : V) (c : ℕ) (g : Genotype) (coded : code_of w flag absent v ≡ Some c) (same : copies c ≡ copies_of_first g) where
    by_code_law : (k : ℕ) → Some k ≡ code_of w flag absent v → g ≡ by_copies (copies k)
    by_code_law k e =
        let q : ◌≡◌ {A = Option ℕ} (Some k) (Some c) = e ∙ coded in
        let n : c ≡ k = cc in
        sym (named c g same) ∙ ap (λ (x : ℕ). by_copies (copies x)) n

    pub stands_by_code : StandsIn w flag v g
    unfolding code_of copies_by copies_of_first copies_of_second by_copies copies
    stands_by_code =
        record {
          zero_copies = λ e. ap (copies_by flag) (by_code_law (cond flag 3 0) (zero_code w flag absent v (cond flag 3 0) refl e)) ∙ zero_said flag;
          one_copy = λ e. ap (copies_by flag) (by_code_law 2 (one_code_law w flag absent v (apart.one_zero v e) e)) ∙ one_said flag;
          two_copies = λ e. ap (copies_by flag) (by_code_law (cond flag 0 3) (two_code w flag absent v (apart.two_zero v e) (apart.two_one v e) (cond flag 0 3) refl e)) ∙ two_said flag;
          is_missing_law = λ e0 e1 e2. by_code_law 1 (only (same_or_nan w v absent) (simp (e0, e1, e2) at coded) ∙ sym coded);
        }
      where
        zero_said : (b : Bool) → copies_by b (by_copies (copies (cond b 3 0))) ≡ Some 0
        zero_said true = refl
        zero_said false = refl

        one_said : (b : Bool) → copies_by b (by_copies (copies 2)) ≡ Some 1
        one_said true = refl
        one_said false = refl

        two_said : (b : Bool) → copies_by b (by_copies (copies (cond b 0 3))) ≡ Some 2
        two_said true = refl
        two_said false = refl

        only : (b : Bool) → cond b (Some 1) None ≡ Some c → Some 1 ≡ Some c
        only true e = e
        only false e = absurd (let q : ◌≡◌ {A = ℕ} 0 1 = cc in omega arith)

-- ---- no value is two of 0, 1, 2
other_int : (v : ℤ) (m n : ℕ) → (m ≡ n → ⊥) → same_int v (pos m) ≡ true → same_int v (pos n) ≡ false
unfolding same_int
other_int (pos k) m n h e = let q = eqb-true k m e in ne_eqb k n (λ r. h (sym q ∙ r))
other_int (negsuc k) m n h e = refl

pub i8_apart : Apart i8
i8_apart = record { one_zero = λ v. other_int v 1 0 (λ e. omega arith); two_zero = λ v. other_int v 2 0 (λ e. omega arith); two_one = λ v. other_int v 2 1 (λ e. omega arith) }

other_level : (s t u : Bool) (a b c : ℕ) → (b ≡ c → ⊥) → level s a t b ≡ true → level s a u c ≡ false
other_level s t u a b c h e = let q = eqb-true a b (both_true (eqb a b) _ e).0 in simp (ne_eqb a c (λ r. h (sym q ∙ r)))

down_above : (e : ℤ) → 0 < down e
down_above (pos k) = omega arith
down_above (negsuc k) = above (suc k)
  where
    above : (k : ℕ) → 0 < 2 ^ k
    above zero = omega arith
    above (suc k) = let h = above k in omega arith

-- m × 2^d and n × 2^e
other_float : (v : Float) (m n d e : ℕ) → (m * 2 ^ d ≡ n * 2 ^ e → ⊥) → eq v (fin false m (pos d)) ≡ true → eq v (fin false n (pos e)) ≡ false
unfolding eq
other_float nan m n d e h q = refl
other_float (inf s) m n d e h q = refl
other_float (fin s k f) m n d e h q =
    other_level s false false (k * up f * 1) (m * 2 ^ d * down f) (n * 2 ^ e * down f) (λ r. h (cancelled (down f) (down_above f) r)) q
  where
    cancelled : (w : ℕ) → 0 < w → m * 2 ^ d * w ≡ n * 2 ^ e * w → m * 2 ^ d ≡ n * 2 ^ e
    cancelled w p r = sym (mul-div_cancel (m * 2 ^ d) p) ∙ ap (λ (x : ℕ). x / w) r ∙ mul-div_cancel (n * 2 ^ e) p

pub float_apart : Apart float
float_apart =
    record {
      one_zero = λ v. other_float v 1 0 0 0 (λ e. omega arith);
      two_zero = λ v. other_float v 1 0 1 0 (λ e. omega arith);
      two_one = λ v. other_float v 1 1 1 0 (λ e. omega arith);
    }
