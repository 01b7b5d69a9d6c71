-- Laws of counts and of tallies, over plain numbers and lists.
use mathlib.Core.Path.{◌≡◌, refl, sym, ap, subst, ◌∙◌}
use mathlib.Core.Bool.{cond}
use mathlib.Core.List.{List}
use Prim.Native.Nat.{ℕ, zero, suc, ◌+◌, ◌*◌, ◌/◌, ◌%◌, ◌^◌, ◌<◌, ◌≤◌}
use native.Mathlib.Nat.{add-zero}
use native.Mathlib.Numerals.{add-one}
use native.Mathlib.Omega.{arith}
use lib.ListN.{length, get_or, set, length-set}
use lib.Seq.{get_or-set_same, get_or-set_other}
use Rattle.answer.specs.Lists.{how_many}
use Rattle.codes.specs.Code.{copies, code_at}
use Rattle.call_counts.specs.Counts.{same_copies, counted}
use Rattle.call_counts.specs.Private.{total, weight, code_weights, tally, in_tally, Added}

-- ---- the weight of the code at a place of a byte, as the code tells it
four_weights : (code : ℕ) → code < 4 → get_or code_weights code 0 ≡ weight code
four_weights zero h = refl
four_weights (suc zero) h = refl
four_weights (suc (suc zero)) h = refl
four_weights (suc (suc (suc zero))) h = refl
four_weights (suc (suc (suc (suc n)))) h = absurd (omega arith)

pub weight_there :
    (weights : List ℕ) (x byte place : ℕ) → weights ≡ code_weights → x ≡ byte / 2 ^ (2 * place) → get_or weights (x % 4) 0 ≡ weight (code_at byte place)
unfolding code_at
weight_there weights x byte place e f =
    ap (λ (l : List ℕ). get_or l (x % 4) 0) e ∙ four_weights (x % 4) (omega arith) ∙ ap (λ (y : ℕ). weight (y % 4)) f

-- ---- how many codes are counted where
-- how many of n codes are counted at place j
abbrev pub valued : (ℕ → ℕ) → ℕ → ℕ → ℕ
valued code j n = how_many n (λ k. same_copies (counted j) (copies (code k)))

-- each code is counted at one of the four places
abbrev hit : ℕ → ℕ → ℕ
hit j code = cond (same_copies (counted j) (copies code)) 1 0

one_of_four : (code : ℕ) → hit 0 code + hit 1 code + hit 2 code + hit 3 code ≡ 1
unfolding same_copies counted copies
one_of_four zero = refl
one_of_four (suc zero) = refl
one_of_four (suc (suc zero)) = refl
one_of_four (suc (suc (suc n))) = refl

pub four_add : (code : ℕ → ℕ) (n : ℕ) → valued code 0 n + valued code 1 n + valued code 2 n + valued code 3 n ≡ n
unfolding how_many
four_add code zero = refl
four_add code (suc n) = let r = four_add code n in let o = one_of_four (code n) in omega arith

-- ---- the counts of a tally
weight_hits : (code : ℕ) → weight code ≡ hit 0 code + 65536 * hit 1 code + 4294967296 * hit 2 code + 281474976710656 * hit 3 code
unfolding weight same_copies counted copies
weight_hits zero = refl
weight_hits (suc zero) = refl
weight_hits (suc (suc zero)) = refl
weight_hits (suc (suc (suc n))) = refl

tally_counts :
    (code : ℕ → ℕ) (n : ℕ)
    → tally code n ≡ valued code 0 n + 65536 * valued code 1 n + 4294967296 * valued code 2 n + 281474976710656 * valued code 3 n
unfolding total how_many
tally_counts code zero = refl
tally_counts code (suc n) = let r = tally_counts code n in let w = weight_hits (code n) in omega arith

-- a number by its digits
low : (x a b : ℕ) → x ≡ a + 65536 * b → a < 65536 → x % 65536 ≡ a
low x a b e h = omega arith

above_16 : (x a b : ℕ) → x ≡ a + 65536 * b → a < 65536 → x / 65536 ≡ b
above_16 x a b e h = omega arith

above_32 : (x a b : ℕ) → x ≡ a + 4294967296 * b → a < 4294967296 → x / 4294967296 ≡ b
above_32 x a b e h = omega arith

above_48 : (x a b : ℕ) → x ≡ a + 281474976710656 * b → a < 281474976710656 → x / 281474976710656 ≡ b
above_48 x a b e h = omega arith

module _ (t a b c d : ℕ) (e : t ≡ a + 65536 * b + 4294967296 * c + 281474976710656 * d) (h : a + b + c + d < 65536) where
  digit_0 : t % 65536 ≡ a
  digit_0 = low t a (b + 65536 * c + 4294967296 * d) (e ∙ omega arith) (omega arith)

  digit_1 : t / 65536 % 65536 ≡ b
  digit_1 = low (t / 65536) b (c + 65536 * d) (above_16 t a (b + 65536 * c + 4294967296 * d) (e ∙ omega arith) (omega arith) ∙ omega arith) (omega arith)

  digit_2 : t / 4294967296 % 65536 ≡ c
  digit_2 = low (t / 4294967296) c d (above_32 t (a + 65536 * b) (c + 65536 * d) (e ∙ omega arith) (omega arith)) (omega arith)

  digit_3 : t / 281474976710656 ≡ d
  digit_3 = above_48 t (a + 65536 * b + 4294967296 * c) d e (omega arith)

pub in_tally_law : (code : ℕ → ℕ) (n j : ℕ) → n < 65536 → j < 4 → in_tally (tally code n) j ≡ valued code j n
unfolding in_tally
in_tally_law code n j h b = by_place j b
  where
    few : valued code 0 n + valued code 1 n + valued code 2 n + valued code 3 n < 65536
    few = let f = four_add code n in omega arith

    by_place : (j : ℕ) → j < 4 → in_tally (tally code n) j ≡ valued code j n
    by_place zero b = digit_0 _ _ _ _ _ (tally_counts code n) few
    by_place (suc zero) b = digit_1 _ _ _ _ _ (tally_counts code n) few
    by_place (suc (suc zero)) b = digit_2 _ _ _ _ _ (tally_counts code n) few
    by_place (suc (suc (suc zero))) b = digit_3 _ _ _ _ _ (tally_counts code n) few
    by_place (suc (suc (suc (suc j)))) b = absurd (omega arith)

-- a tally of fewer than 65,536 codes has room for one weight more
pub weight_most : (code : ℕ) → weight code ≤ 281474976710656
unfolding weight
weight_most zero = omega arith
weight_most (suc zero) = omega arith
weight_most (suc (suc zero)) = omega arith
weight_most (suc (suc (suc n))) = omega arith

pub tally_most : (code : ℕ → ℕ) (n : ℕ) → tally code n ≤ n * 281474976710656
unfolding total
tally_most code zero = omega arith
tally_most code (suc n) = let r = tally_most code n in let w = weight_most (code n) in omega arith

pub tally_room : (code : ℕ → ℕ) (n sum w x : ℕ) → n < 65535 → sum ≡ tally code n → w ≡ weight x → sum + w < 2 ^ 64
tally_room code n sum w x h e f = let r = tally_most code n in let m = weight_most x in omega arith

pub total_ext : (h f g : ℕ → ℕ) (n : ℕ) → ((k : ℕ) → k < n → f k ≡ g k) → total h f n ≡ total h g n
unfolding total
total_ext h f g zero e = refl
total_ext h f g (suc n) e = ap (λ (x : ℕ). x + h (f n)) (total_ext h f g n (λ k l. e k (omega arith))) ∙ ap (λ (x : ℕ). total h g n + h x) (e n (omega arith))

pub tally_none : (code : ℕ → ℕ) → 0 ≡ tally code 0
unfolding total
tally_none code = refl

pub tally_more : (code : ℕ → ℕ) (n sum w x : ℕ) → sum ≡ tally code n → w ≡ weight x → x ≡ code n → sum + w ≡ tally code (n + 1)
unfolding total
tally_more code n sum w x e f g =
    ap (λ (s : ℕ). s + w) e ∙ ap (λ (v : ℕ). tally code n + v) (f ∙ ap weight g) ∙ sym (ap (tally code) (add-one n))

-- ---- a tally added to four counts
-- each sum fits
module _ (old : List ℕ) (at packed : ℕ) (f : (j : ℕ) → j < 4 → get_or old (at + j) 0 + in_tally packed j < 2 ^ 64) where
  pub room_0 : get_or old at 0 + packed % 65536 < 2 ^ 64
  unfolding in_tally
  room_0 = subst (λ (p : ℕ). get_or old p 0 + packed % 65536 < 2 ^ 64) (add-zero at) (f 0 (omega arith))

  pub room_1 : get_or old (at + 1) 0 + packed / 65536 % 65536 < 2 ^ 64
  unfolding in_tally
  room_1 = f 1 (omega arith)

  pub room_2 : get_or old (at + 2) 0 + packed / 4294967296 % 65536 < 2 ^ 64
  unfolding in_tally
  room_2 = f 2 (omega arith)

  pub room_3 : get_or old (at + 3) 0 + packed / 281474976710656 < 2 ^ 64
  unfolding in_tally
  room_3 = f 3 (omega arith)

-- four neighbouring places set
module _ (old : List ℕ) (at v0 v1 v2 v3 : ℕ) (h : at + 4 ≤ length old) where
  abbrev one : List ℕ
  one = set old at v0

  abbrev two : List ℕ
  two = set one (at + 1) v1

  abbrev three : List ℕ
  three = set two (at + 2) v2

  abbrev four : List ℕ
  four = set three (at + 3) v3

  one_long : length one ≡ length old
  one_long = length-set old at v0

  two_long : length two ≡ length old
  two_long = length-set one (at + 1) v1 ∙ one_long

  three_long : length three ≡ length old
  three_long = length-set two (at + 2) v2 ∙ two_long

  four_long : length four ≡ length old
  four_long = length-set three (at + 3) v3 ∙ three_long

  others : (p : ℕ) → (p ≡ at → ⊥) → (p ≡ at + 1 → ⊥) → (p ≡ at + 2 → ⊥) → (p ≡ at + 3 → ⊥) → get_or four p 0 ≡ get_or old p 0
  others p a b c d =
      get_or-set_other three (at + 3) p v3 0 d ∙ get_or-set_other two (at + 2) p v2 0 c ∙ get_or-set_other one (at + 1) p v1 0 b ∙ get_or-set_other old at p v0 0 a

  at_0 : get_or four at 0 ≡ v0
  at_0 =
      get_or-set_other three (at + 3) at v3 0 (λ x. omega arith)
      ∙ get_or-set_other two (at + 2) at v2 0 (λ x. omega arith)
      ∙ get_or-set_other one (at + 1) at v1 0 (λ x. omega arith)
      ∙ get_or-set_same old at v0 0 (omega arith)

  at_1 : get_or four (at + 1) 0 ≡ v1
  at_1 =
      get_or-set_other three (at + 3) (at + 1) v3 0 (λ x. omega arith)
      ∙ get_or-set_other two (at + 2) (at + 1) v2 0 (λ x. omega arith)
      ∙ get_or-set_same one (at + 1) v1 0 (omega (arith, one_long))

  at_2 : get_or four (at + 2) 0 ≡ v2
  at_2 = get_or-set_other three (at + 3) (at + 2) v3 0 (λ x. omega arith) ∙ get_or-set_same two (at + 2) v2 0 (omega (arith, two_long))

  at_3 : get_or four (at + 3) 0 ≡ v3
  at_3 = get_or-set_same three (at + 3) v3 0 (omega (arith, three_long))

  -- each set to its sum
  module _ (packed : ℕ) (e0 : v0 ≡ get_or old at 0 + packed % 65536) (e1 : v1 ≡ get_or old (at + 1) 0 + packed / 65536 % 65536)
      (e2 : v2 ≡ get_or old (at + 2) 0 + packed / 4294967296 % 65536) (e3 : v3 ≡ get_or old (at + 3) 0 + packed / 281474976710656) where
    summed : (j : ℕ) → j < 4 → get_or four (at + j) 0 ≡ get_or old (at + j) 0 + in_tally packed j
    unfolding in_tally
    summed zero b = subst (λ (p : ℕ). get_or four p 0 ≡ get_or old p 0 + packed % 65536) (sym (add-zero at)) (at_0 ∙ e0)
    summed (suc zero) b = at_1 ∙ e1
    summed (suc (suc zero)) b = at_2 ∙ e2
    summed (suc (suc (suc zero))) b = at_3 ∙ e3
    summed (suc (suc (suc (suc j)))) b = absurd (omega arith)

    pub added : Added old at packed (set (set (set (set old at v0) (at + 1) v1) (at + 2) v2) (at + 3) v3)
    added =
        record {
          long = four_long;
          before_same = λ p b. others p (λ x. omega arith) (λ x. omega arith) (λ x. omega arith) (λ x. omega arith);
          there = summed;
          after_same = λ p b. others p (λ x. omega arith) (λ x. omega arith) (λ x. omega arith) (λ x. omega arith);
        }
