-- Laws of an i8 and of the table that has the code of each.
use Rattle.std.proofs.Common.{◌≡◌, sym, ap, subst, ◌∙◌, Bool, true, false, cond, List, ℕ, ◌<◌, arith, ℤ, pos, length, get_or, length-set}
use Rattle.std.specs.Bool.{Decides}
use Rattle.std.proofs.lemmas.Bool.Decides.{same_from_decides}
use Rattle.std.proofs.Math.Facts.{Fits-of_z}
use borrow.Author.Tests.{eq-eqb, eqb-true}
use lib.Dec.{eqb}
use lib.ListN.{set, replicate, get_or-replicate, length-replicate}
use lib.Seq.{get_or-set_same, get_or-set_other}
use mir.Syntax.{w8}
use mir.Val.{SFits, of_z, to_z}
use mir.ValLaws.{to_z-of_z}
use Rattle.codes.specs.Value.{i8, same_int, code_of}
use Rattle.codes.specs.declared.values.Coding.{Coding}
use Rattle.codes.proofs.ValueLaws.{same_int_refl, same_int_eq, zero_code, one_code_law, two_code, missing_code, number_bad}
use Rattle.answer.proofs.Tests.{by_test}
use Rattle.bed_write.specs.Groups.{or_four}
use Rattle.bed_write.specs.Private.{CodesOfBytes}
use Rattle.bed_write.proofs.FirstLaws.{code_found, code_lacking}

-- ---- two i8 are the same number exactly if their bytes are
same_decides : (a b : ℤ) → Decides (same_int a b) (a ≡ b)
same_decides a b = (same_int_eq a b, λ e. subst (λ (x : ℤ). same_int a x ≡ true) e (same_int_refl a))

same_bytes : (a b : ℤ) → SFits w8 a → SFits w8 b → same_int a b ≡ eqb (of_z w8 a) (of_z w8 b)
same_bytes a b f g =
    same_from_decides (same_int a b) (eqb (of_z w8 a) (of_z w8 b)) (same_decides a b)
    (λ t. sym (to_z-of_z w8 a f) ∙ ap (to_z w8) (eqb-true (of_z w8 a) (of_z w8 b) t) ∙ to_z-of_z w8 b g, λ e. eq-eqb (of_z w8 a) (of_z w8 b) (ap (of_z w8) e))

byte_below : (z : ℤ) → SFits w8 z → of_z w8 z < 256
byte_below z f = (Fits-of_z f).fits

-- ---- the table: 4 everywhere, then missing, then 2, 1 and 0
module _ (k : Coding ℤ) (hm : SFits w8 k.missing) (at two zer : ℕ) (ea : at ≡ of_z w8 k.missing) (e2 : two ≡ cond k.is_a1_counted 0 3) (e0 : zer ≡ cond k.is_a1_counted 3 0) where
  abbrev t4 : List ℕ
  t4 = replicate 256 4

  abbrev t3 : List ℕ
  t3 = set t4 at 1

  abbrev t2 : List ℕ
  t2 = set t3 2 two

  abbrev t1 : List ℕ
  t1 = set t2 1 2

  abbrev t0 : List ℕ
  t0 = set t1 0 zer

  module _ (v : ℤ) (hv : SFits w8 v) where
    test : (u : ℤ) → SFits w8 u → (b : Bool) → eqb (of_z w8 v) (of_z w8 u) ≡ b → same_int v u ≡ b
    test u hu b e = same_bytes v u hv hu ∙ e

    at_place : (l : List ℕ) (i x : ℕ) → of_z w8 v ≡ i → i < length l → get_or (set l i x) (of_z w8 v) 0 ≡ x
    at_place l i x e h = ap (λ (p : ℕ). get_or (set l i x) p 0) e ∙ get_or-set_same l i x 0 h

    elsewhere : (l : List ℕ) (i x : ℕ) → eqb (of_z w8 v) i ≡ false → get_or (set l i x) (of_z w8 v) 0 ≡ get_or l (of_z w8 v) 0
    elsewhere l i x e = get_or-set_other l i (of_z w8 v) x 0 (λ q. let z : ◌≡◌ {A = Bool} false true = sym e ∙ eq-eqb (of_z w8 v) i q in let y : ◌≡◌ {A = ℕ} 0 1 = cc in omega arith)

    l4 : length t4 ≡ 256
    l4 = length-replicate {A = ℕ} 256 4

    small : (n : ℕ) → n < 128 → SFits w8 (pos n)
    small n h = record { sfits = h }

    found : get_or t0 (of_z w8 v) 0 ≡ or_four (code_of i8 k.is_a1_counted k.missing v)
    found =
        by_test (eqb (of_z w8 v) 0)
        (λ b0. at_place t1 0 zer (eqb-true (of_z w8 v) 0 b0) (simp length-set (omega (arith, l4)))
        ∙ code_found (code_of i8 k.is_a1_counted k.missing v) zer (zero_code i8 k.is_a1_counted k.missing v zer e0 (test (pos 0) (small 0 (omega arith)) true b0)))
        (λ b0. elsewhere t1 0 zer b0
        ∙ by_test (eqb (of_z w8 v) 1)
        (λ b1. at_place t2 1 2 (eqb-true (of_z w8 v) 1 b1) (simp length-set (omega (arith, l4)))
        ∙ code_found (code_of i8 k.is_a1_counted k.missing v) 2 (one_code_law i8 k.is_a1_counted k.missing v (test (pos 0) (small 0 (omega arith)) false b0) (test (pos 1) (small 1 (omega arith)) true b1)))
        (λ b1. elsewhere t2 1 2 b1
        ∙ by_test (eqb (of_z w8 v) 2)
        (λ b2. at_place t3 2 two (eqb-true (of_z w8 v) 2 b2) (simp length-set (omega (arith, l4)))
        ∙ code_found (code_of i8 k.is_a1_counted k.missing v) two (two_code i8 k.is_a1_counted k.missing v (test (pos 0) (small 0 (omega arith)) false b0) (test (pos 1) (small 1 (omega arith)) false b1) two e2 (test (pos 2) (small 2 (omega arith)) true b2)))
        (λ b2. elsewhere t3 2 two b2
        ∙ by_test (eqb (of_z w8 v) (of_z w8 k.missing))
        (λ b3. at_place t4 at 1 (eqb-true (of_z w8 v) (of_z w8 k.missing) b3 ∙ sym ea) (let x = byte_below k.missing hm in omega (arith, l4))
        ∙ code_found (code_of i8 k.is_a1_counted k.missing v) 1 (missing_code i8 k.is_a1_counted k.missing v (test (pos 0) (small 0 (omega arith)) false b0) (test (pos 1) (small 1 (omega arith)) false b1) (test (pos 2) (small 2 (omega arith)) false b2) (test k.missing hm true b3)))
        (λ b3. elsewhere t4 at 1 (ap (eqb (of_z w8 v)) ea ∙ b3)
        ∙ get_or-replicate 256 (of_z w8 v) 4 0 (byte_below v hv)
        ∙ code_lacking (code_of i8 k.is_a1_counted k.missing v) (number_bad i8 k.is_a1_counted k.missing v (test (pos 0) (small 0 (omega arith)) false b0) (test (pos 1) (small 1 (omega arith)) false b1) (test (pos 2) (small 2 (omega arith)) false b2) (test k.missing hm false b3) (same_int_refl v))))))

  pub table_made : (base : List ℕ) → base ≡ replicate 256 4 → CodesOfBytes k (set (set (set (set base at 1) 2 two) 1 2) 0 zer)
  table_made base e =
      subst (λ (l : List ℕ). CodesOfBytes k (set (set (set (set l at 1) 2 two) 1 2) 0 zer)) (sym e)
      (record { code_of_law = λ v h. found v h })
