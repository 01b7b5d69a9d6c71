-- Laws of block widths, over plain numbers.
use mathlib.Core.Path.{◌≡◌, sym, ap, subst, ◌∙◌}
use mathlib.Core.Bool.{true, false}
use Prim.Native.Nat.{ℕ, ◌+◌, ◌-◌, ◌*◌, ◌/◌, ◌^◌, ◌≤◌, ◌<◌}
use native.Mathlib.Nat.{zero-mul, le-div_iff_mul-le, div-lt_iff_lt-mul}
use native.Mathlib.Omega.{arith}
use borrow.Author.Tests.{ne_eqb, eq-eqb, le-leb, lt-leb, leb-true}
use lib.Dec.{leb}
use lib.IntN.{pos}
use mathlib.Core.List.{[], ◌∷◌}
use Rattle.answer.specs.Answer.{Answer, done, refused, count_limit, counts_fit, is_done, check_count}
use Rattle.blocks.specs.Block.{block_width, file_length, div_answer, size_answer, check_size}
use Rattle.answer.proofs.AnswerLaws.{both_fit, counts_refuse, check_done, count_done, Stage, check_stage, count_stage, then_stage, heard, stays}

-- "Block width is 0 for nothing in a block"
pub width_none : (n : ℕ) → n ≡ 0 → block_width n ≡ 0
unfolding block_width
width_none n h = simp (eq-eqb n 0 h)

-- "else (count − 1) / 4 rounded down, plus 1"
pub width_some : (n : ℕ) → (n ≡ 0 → ⊥) → block_width n ≡ (n - 1) / 4 + 1
unfolding block_width
width_some n h = simp (ne_eqb n 0 h)

-- "With nothing in a block the length is 3 for any block count."
pub nothing_in_a_block : (blocks : ℕ) → file_length 0 blocks ≡ 3
unfolding block_width
nothing_in_a_block blocks = ap (λ (n : ℕ). 3 + n) (zero-mul blocks)

-- the answer of `try_div_4`, by its tests
module _ (i s : ℕ) where
  pub too_large : counts_fit i s ≡ false → div_answer i s ≡ refused 18 []
  unfolding div_answer
  too_large e = counts_refuse i s _ e

  module _ (hi : i ≤ count_limit) (hs : s ≤ count_limit) where
    pub too_big : 2 ^ 64 - 1 < file_length i s → div_answer i s ≡ refused 4 []
    unfolding div_answer
    too_big h = simp (le-leb i count_limit hi, le-leb s count_limit hs, lt-leb (file_length i s) (2 ^ 64 - 1) h)

    pub has_width : file_length i s ≤ 2 ^ 64 - 1 → div_answer i s ≡ done (pos (block_width i) ∷ [])
    unfolding div_answer
    has_width h = simp (le-leb i count_limit hi, le-leb s count_limit hs, le-leb (file_length i s) (2 ^ 64 - 1) h)

-- 4 as the code tests it, by a quotient
quotient_passes : (w s : ℕ) → 0 < w → 18446744073709551612 / w < s → 2 ^ 64 - 1 < 3 + w * s
quotient_passes w s p h = let q : 18446744073709551612 < s * w = (div-lt_iff_lt-mul p).0 h in omega arith

quotient_keeps : (w s : ℕ) → 0 < w → s ≤ 18446744073709551612 / w → 3 + w * s ≤ 2 ^ 64 - 1
quotient_keeps w s p h = let q : s * w ≤ 18446744073709551612 = (le-div_iff_mul-le p).0 h in omega arith

module _ (i s : ℕ) (fits : counts_fit i s ≡ true) (w : ℕ) (e : w ≡ block_width i) where
  hi : i ≤ count_limit
  hi = (both_fit i s fits).0

  hs : s ≤ count_limit
  hs = (both_fit i s fits).1

  pub no_width : w ≡ 0 → div_answer i s ≡ done (pos 0 ∷ [])
  no_width z =
      let k : block_width i ≡ 0 = sym e ∙ z in
      let p : block_width i * s ≡ 0 = rw k (zero-mul s) in
      has_width i s hi hs (omega arith) ∙ ap (λ (n : ℕ). done (pos n ∷ [])) k

  module _ (p : 0 < w) where
    pub quotient_below : 18446744073709551612 / w < s → div_answer i s ≡ refused 4 []
    quotient_below h = too_big i s hi hs (subst (λ (k : ℕ). 2 ^ 64 - 1 < 3 + k * s) e (quotient_passes w s p h))

    pub quotient_enough : s ≤ 18446744073709551612 / w → div_answer i s ≡ done (pos w ∷ [])
    quotient_enough h =
        has_width i s hi hs (subst (λ (k : ℕ). 3 + k * s ≤ 2 ^ 64 - 1) e (quotient_keeps w s p h))
        ∙ ap (λ (k : ℕ). done (pos k ∷ [])) (sym e)

-- what is known where `try_div_4` answers a width
pub record Sized (i s w : ℕ) : Type 0 where
  pub first_fits : i ≤ count_limit
  pub second_fits : s ≤ count_limit
  pub length_fits : file_length i s ≤ 2 ^ 64 - 1
  pub width_is : w ≡ block_width i

pub width_given : (i s w : ℕ) → done (pos w ∷ []) ≡ div_answer i s → Sized i s w
unfolding div_answer
width_given i s w e =
    let d0 = count_done i _ (sym (ap is_done e)) in
    let d1 = count_done s _ d0.1 in
    let d2 = check_done (leb (file_length i s) (2 ^ 64 - 1)) 4 (done (pos (block_width i) ∷ [])) d1.1 in
    let l = leb-true (file_length i s) (2 ^ 64 - 1) d2.0 in
    let g : done (pos w ∷ []) ≡ done (pos (block_width i) ∷ []) = e ∙ has_width i s d0.0 d1.0 l in
    record { first_fits = d0.0; second_fits = d1.0; length_fits = l; width_is = cc }

-- the counts and the size, as checks in a row
pub size_stage : (items blocks : ℕ) → Stage (λ later. check_count items (check_count blocks (check_size items blocks later)))
unfolding check_size
size_stage items blocks = then_stage (count_stage items) (then_stage (count_stage blocks) (check_stage (leb (file_length items blocks) (2 ^ 64 - 1)) 4))

-- ---- the length of a file, by what `try_div_4` says
module _ (i s : ℕ) where
  pub length_refused : (k : ℕ) → refused k [] ≡ div_answer i s → refused k [] ≡ size_answer i s
  unfolding size_answer div_answer
  length_refused k e = sym (stays (size_stage i s) _ k [] (sym e) _)

  module _ (w : ℕ) (e : done (pos w ∷ []) ≡ div_answer i s) where
    whole : w * s + 3 ≡ file_length i s
    whole = let k : w * s ≡ block_width i * s = ap (λ (x : ℕ). x * s) (width_given i s w e).width_is in omega arith

    pub length_fits : w * s + 3 < 2 ^ 64
    length_fits = let k = (width_given i s w e).length_fits in let h = whole in omega arith

    pub length_told : done (pos (w * s + 3) ∷ []) ≡ size_answer i s
    unfolding size_answer div_answer
    length_told = ap (λ (n : ℕ). done (pos n ∷ [])) whole ∙ sym (heard (size_stage i s) _ (sym (ap is_done e)) _)

-- what that answer says of the same checks before others
module _ (i s : ℕ) (later : Answer) where
  pub size_refuses : (k : ℕ) → refused k [] ≡ size_answer i s → check_count i (check_count s (check_size i s later)) ≡ refused k []
  unfolding size_answer
  size_refuses k e = stays (size_stage i s) _ k [] (sym e) later

  pub size_passes : (n : ℕ) → done (pos n ∷ []) ≡ size_answer i s → check_count i (check_count s (check_size i s later)) ≡ later
  unfolding size_answer
  size_passes n e = heard (size_stage i s) _ (sym (ap is_done e)) later

pub size_is : (i s n : ℕ) → done (pos n ∷ []) ≡ size_answer i s → n ≡ file_length i s
unfolding size_answer
size_is i s n e = let q : done (pos n ∷ []) ≡ done (pos (file_length i s) ∷ []) = e ∙ size_passes i s _ n e in cc
