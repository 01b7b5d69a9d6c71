-- Laws of the header's and the length's checks, over plain numbers and lists.
use mathlib.Core.Path.{◌≡◌, refl, sym, ap, subst, ◌∙◌}
use mathlib.Core.Bool.{Bool, true, false, ◌&&◌}
use mathlib.Core.List.{List, [], ◌∷◌}
use Prim.Native.Nat.{ℕ, zero, suc, ◌-◌, ◌^◌, ◌≤◌, ◌<◌}
use native.Mathlib.Omega.{arith}
use borrow.Author.Tests.{eq-eqb, ne_eqb, le-leb, lt-leb, eqb-true, leb-true}
use lib.Dec.{leb, eqb}
use lib.IntN.{ℤ, pos}
use lib.ListN.{length, get_or}
use Rattle.answer.specs.Answer.{Answer, done, refused, check, check_count, count_limit, counts_fit, is_done}
use Rattle.blocks.specs.Block.{file_length, check_size, size_answer}
use Rattle.answer.proofs.AnswerLaws.{check_passes, check_refuses, count_passes, both_fit, counts_refuse, check_done, count_done, check_other, Stage, check_stage, then_stage, heard, stays}
use Rattle.blocks.proofs.Widths.{size_refuses, size_passes, size_is}
use Rattle.bed_file.specs.File.{check_open, open_answer, check_mode, is_mode1, items, blocks, check_length, length_answer, check_file, accept_answer}

-- ---- 1 and 2, by the tests in order
module _ (file : List ℕ) (later : Answer) where
  pub open_short : length file < 3 → check_open file later ≡ refused 1 []
  unfolding check_open
  open_short h = simp (lt-leb 3 (length file) h)

  module _ (h : 3 ≤ length file) where
    pub open_first : (get_or file 0 0 ≡ 0x6C → ⊥) → check_open file later ≡ refused 2 []
    unfolding check_open
    open_first n = simp (le-leb 3 (length file) h, ne_eqb (get_or file 0 0) 0x6C n)

    module _ (e : get_or file 0 0 ≡ 0x6C) where
      pub open_second : (get_or file 1 0 ≡ 0x1B → ⊥) → check_open file later ≡ refused 2 []
      unfolding check_open
      open_second n = simp (le-leb 3 (length file) h, eq-eqb (get_or file 0 0) 0x6C e, ne_eqb (get_or file 1 0) 0x1B n)

      pub open_good : get_or file 1 0 ≡ 0x1B → check_open file later ≡ later
      unfolding check_open
      open_good d = simp (le-leb 3 (length file) h, eq-eqb (get_or file 0 0) 0x6C e, eq-eqb (get_or file 1 0) 0x1B d)

-- `open_and_check`, by the same tests
module _ (file : List ℕ) where
  abbrev byte2 : Answer
  byte2 = done (pos (get_or file 2 0) ∷ [])

  pub opens_short : length file < 3 → refused 1 [] ≡ open_answer file
  unfolding open_answer
  opens_short h = sym (open_short file byte2 h)

  pub opens_first : 3 ≤ length file → (get_or file 0 0 ≡ 0x6C → ⊥) → refused 2 [] ≡ open_answer file
  unfolding open_answer
  opens_first h n = sym (open_first file byte2 h n)

  pub opens_second : 3 ≤ length file → get_or file 0 0 ≡ 0x6C → (get_or file 1 0 ≡ 0x1B → ⊥) → refused 2 [] ≡ open_answer file
  unfolding open_answer
  opens_second h e n = sym (open_second file byte2 h e n)

  pub opens_good : 3 ≤ length file → get_or file 0 0 ≡ 0x6C → get_or file 1 0 ≡ 0x1B → done (pos (get_or file 2 0) ∷ []) ≡ open_answer file
  unfolding open_answer
  opens_good h e d = sym (open_good file byte2 h e d)

-- ---- each of the file's checks lets the later ones speak, or refuses whatever they say
pub open_stage : (file : List ℕ) → Stage (λ later. check_open file later)
unfolding check_open
open_stage file =
    then_stage (check_stage (leb 3 (length file)) 1) (check_stage (eqb (get_or file 0 0) 0x6C && eqb (get_or file 1 0) 0x1B) 2)

pub mode_stage : (file : List ℕ) → Stage (λ later. check_mode file later)
unfolding check_mode
mode_stage file = check_stage (leb (get_or file 2 0) 1) 3

pub length_stage : (file_len n b : ℕ) → Stage (λ later. check_length file_len n b later)
unfolding check_length check_size
length_stage file_len n b =
    then_stage (check_stage (leb (file_length n b) (2 ^ 64 - 1)) 4) (check_stage (eqb file_len (file_length n b)) 2)

pub file_stage : (file : List ℕ) (iids sids : ℕ) → Stage (λ later. check_file file iids sids later)
unfolding check_file
file_stage file iids sids =
    then_stage (open_stage file)
    (then_stage (mode_stage file) (length_stage (length file) (items (is_mode1 file) iids sids) (blocks (is_mode1 file) iids sids)))

-- a refusal by a number above 4 is none of the file's own
pub file_other : (file : List ℕ) (iids sids : ℕ) (later : Answer) (m : ℕ) (vs : List ℤ) → 4 < m → check_file file iids sids later ≡ refused m vs → later ≡ refused m vs
unfolding check_file check_open check_mode check_length check_size
file_other file iids sids later m vs h e =
    let n = file_length (items (is_mode1 file) iids sids) (blocks (is_mode1 file) iids sids) in
    check_other (eqb (length file) n) 2 later m vs (λ q. omega (arith, q))
    (check_other (leb n (2 ^ 64 - 1)) 4 _ m vs (λ q. omega (arith, q))
    (check_other (leb (get_or file 2 0) 1) 3 _ m vs (λ q. omega (arith, q))
    (check_other (eqb (get_or file 0 0) 0x6C && eqb (get_or file 1 0) 0x1B) 2 _ m vs (λ q. omega (arith, q))
    (check_other (leb 3 (length file)) 1 _ m vs (λ q. omega (arith, q)) e))))

-- ---- the length's checks, by the answer of `try_file_length`
module _ (file_len items blocks : ℕ) where
  pub length_refused : (k : ℕ) → refused k [] ≡ size_answer items blocks → refused k [] ≡ length_answer file_len items blocks
  unfolding length_answer check_length
  length_refused k e = sym (size_refuses items blocks _ k e)

  module _ (n : ℕ) (e : done (pos n ∷ []) ≡ size_answer items blocks) where
    length_left : length_answer file_len items blocks ≡ check (eqb file_len n) 2 (done [])
    unfolding length_answer check_length
    length_left = size_passes items blocks _ n e ∙ ap (λ (k : ℕ). check (eqb file_len k) 2 (done [])) (sym (size_is items blocks n e))

    pub length_right : file_len ≡ n → done [] ≡ length_answer file_len items blocks
    length_right h = sym (length_left ∙ check_passes (eqb file_len n) 2 (done []) (eq-eqb file_len n h))

    pub length_wrong : (file_len ≡ n → ⊥) → refused 2 [] ≡ length_answer file_len items blocks
    length_wrong h = sym (length_left ∙ check_refuses (eqb file_len n) 2 (done []) (ne_eqb file_len n h))

-- ---- acceptance, by the tests in order
module _ (file : List ℕ) (iids sids : ℕ) where
  pub accept_too_large : counts_fit iids sids ≡ false → refused 18 [] ≡ accept_answer file iids sids
  unfolding accept_answer
  accept_too_large e = sym (counts_refuse iids sids (check_file file iids sids (done [])) e)

  module _ (fits : counts_fit iids sids ≡ true) where
    hi : iids ≤ count_limit
    hi = (both_fit iids sids fits).0

    hs : sids ≤ count_limit
    hs = (both_fit iids sids fits).1

    -- with both counts small enough, the file's own checks are left
    pub accept_file : accept_answer file iids sids ≡ check_file file iids sids (done [])
    unfolding accept_answer
    accept_file =
        count_passes iids (check_count sids (check_file file iids sids (done []))) hi ∙ count_passes sids (check_file file iids sids (done [])) hs

    pub accept_not_open : (k : ℕ) → refused k [] ≡ open_answer file → refused k [] ≡ accept_answer file iids sids
    unfolding open_answer check_file
    accept_not_open k e =
        sym (accept_file ∙ stays (open_stage file) _ k [] (sym e) (check_mode file (check_length (length file) (items (is_mode1 file) iids sids) (blocks (is_mode1 file) iids sids) (done []))))

    module _ (b : ℕ) (e : done (pos b ∷ []) ≡ open_answer file) where
      opened : (later : Answer) → check_open file later ≡ later
      unfolding open_answer
      opened = heard (open_stage file) _ (sym (ap is_done e))

      byte_is : b ≡ get_or file 2 0
      unfolding open_answer
      byte_is = let q : done (pos b ∷ []) ≡ done (pos (get_or file 2 0) ∷ []) = e ∙ opened (done (pos (get_or file 2 0) ∷ [])) in cc

      pub accept_bad_mode : (b ≡ 1 → ⊥) → (b ≡ 0 → ⊥) → refused 3 [] ≡ accept_answer file iids sids
      unfolding check_file check_mode
      accept_bad_mode n1 n0 =
          let big : 1 < b = above_one b n0 n1 in
          sym (accept_file ∙ opened _ ∙ check_refuses (leb (get_or file 2 0) 1) 3 _ (lt-leb (get_or file 2 0) 1 (subst (λ (k : ℕ). 1 < k) byte_is big)))
        where
          above_one : (b : ℕ) → (b ≡ 0 → ⊥) → (b ≡ 1 → ⊥) → 1 < b
          above_one zero x y = absurd (x refl)
          above_one (suc zero) x y = absurd (y refl)
          above_one (suc (suc b)) x y = omega arith

      -- in a mode that is one, the length's checks are left, over that mode's items and blocks
      mode_left :
          (m : Bool) → is_mode1 file ≡ m → b ≤ 1 → items m iids sids ≤ count_limit → blocks m iids sids ≤ count_limit
          → length_answer (length file) (items m iids sids) (blocks m iids sids) ≡ accept_answer file iids sids
      unfolding check_file check_mode length_answer
      mode_left m q h ci cb =
          let low : get_or file 2 0 ≤ 1 = subst (λ (k : ℕ). k ≤ 1) byte_is h in
          (count_passes (items m iids sids) _ ci ∙ count_passes (blocks m iids sids) _ cb
          ∙ ap (λ (x : Bool). check_length (length file) (items x iids sids) (blocks x iids sids) (done [])) (sym q))
          ∙ sym (accept_file ∙ opened _ ∙ check_passes (leb (get_or file 2 0) 1) 3 _ (le-leb (get_or file 2 0) 1 low))

      pub accept_mode_1 : (a : Answer) → b ≡ 1 → a ≡ length_answer (length file) iids sids → a ≡ accept_answer file iids sids
      unfolding items blocks is_mode1
      accept_mode_1 a m l = l ∙ mode_left true (eq-eqb (get_or file 2 0) 1 (sym byte_is ∙ m)) (omega arith) hi hs

      pub accept_mode_0 : (a : Answer) → b ≡ 0 → a ≡ length_answer (length file) sids iids → a ≡ accept_answer file iids sids
      unfolding items blocks is_mode1
      accept_mode_0 a m l = l ∙ mode_left false (ap (λ (k : ℕ). eqb k 1) (sym byte_is ∙ m)) (omega arith) hs hi

-- ---- what is known of an accepted file
pub record Accepted (file : List ℕ) (iids sids : ℕ) : Type 0 where
  pub iids_fit : iids ≤ count_limit
  pub sids_fit : sids ≤ count_limit
  pub long : 3 ≤ length file
  pub mode_fits : get_or file 2 0 ≤ 1
  pub length_is : length file ≡ file_length (items (is_mode1 file) iids sids) (blocks (is_mode1 file) iids sids)
  pub heard_later : (later : Answer) → check_file file iids sids later ≡ later

-- the file's own checks, where they find nothing
module _ (file : List ℕ) (iids sids : ℕ) (vs : List ℤ) (d : is_done (check_file file iids sids (done vs)) ≡ true) where
  n : ℕ
  n = items (is_mode1 file) iids sids

  k : ℕ
  k = blocks (is_mode1 file) iids sids

  open_parts : (leb 3 (length file) ≡ true) × (is_done (check_mode file (check_length (length file) n k (done vs))) ≡ true)
  unfolding check_file n k
  open_parts =
      let a = check_done (leb 3 (length file)) 1 _ d in
      let b = check_done (eqb (get_or file 0 0) 0x6C && eqb (get_or file 1 0) 0x1B) 2 _ a.1 in
      (a.0, b.1)

  length_parts : (leb (get_or file 2 0) 1 ≡ true) × (eqb (length file) (file_length n k) ≡ true)
  unfolding check_mode check_length check_size
  length_parts =
      let a = check_done (leb (get_or file 2 0) 1) 3 _ open_parts.1 in
      let b = check_done (leb (file_length n k) (2 ^ 64 - 1)) 4 _ a.1 in
      let c = check_done (eqb (length file) (file_length n k)) 2 _ b.1 in
      (a.0, c.0)

  pub file_long : 3 ≤ length file
  file_long = leb-true 3 (length file) open_parts.0

  pub file_mode : get_or file 2 0 ≤ 1
  file_mode = leb-true (get_or file 2 0) 1 length_parts.0

  pub file_length_law : length file ≡ file_length (items (is_mode1 file) iids sids) (blocks (is_mode1 file) iids sids)
  unfolding n k
  file_length_law = eqb-true (length file) (file_length n k) length_parts.1

pub accepted : (file : List ℕ) (iids sids : ℕ) → is_done (accept_answer file iids sids) ≡ true → Accepted file iids sids
unfolding accept_answer
accepted file iids sids d =
    let a = count_done iids (check_count sids (check_file file iids sids (done []))) d in
    let b = count_done sids (check_file file iids sids (done [])) a.1 in
    record {
      iids_fit = a.0;
      sids_fit = b.0;
      long = file_long file iids sids [] b.1;
      mode_fits = file_mode file iids sids [] b.1;
      length_is = file_length_law file iids sids [] b.1;
      heard_later = heard (file_stage file iids sids) [] b.1;
    }
