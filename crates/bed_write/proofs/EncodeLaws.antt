-- Laws of `encode1`: its checks, and the bytes of one marker, which are written from the front.
use mathlib.Core.Path.{◌≡◌, refl, sym, ap, subst, ◌∙◌}
use mathlib.Core.Bool.{Bool}
use mathlib.Core.List.{List, [], ◌∷◌, ◌++◌, append-nil, append_assoc}
use Rattle.std.specs.Prelude.{Option, Some, None}
use Prim.Native.Nat.{ℕ, suc, ◌+◌, ◌-◌, ◌*◌, ◌/◌, ◌<◌, ◌≤◌}
use native.Mathlib.Nat.{mul-one}
use native.Mathlib.Numerals.{add-one}
use native.Mathlib.Omega.{arith}
use borrow.Author.Tests.{eq-eqb, ne_eqb}
use lib.IntN.{pos}
use lib.ListN.{length, get_or, take, drop, set, length-take, length-drop, length-append, drop_of_length-le}
use lib.Seq.{take-suc, drop-cons, set_at, length-take-le, take_all}
use Rattle.answer.specs.Answer.{done, refused, if_done}
use Rattle.blocks.specs.Block.{block_width}
use Rattle.codes.specs.Code.{group_byte, packed_byte, packed}
use Rattle.answer.specs.Lists.{tabulate}
use Rattle.codes.specs.Value.{Width}
use Rattle.codes.proofs.CodeLaws.{packed_length, width_room}
use Rattle.answer.proofs.Tabulate.{length_tabulate, get_d_tabulate}
use Rattle.bed_write.specs.Packing.{place_code, or_zero, packed_codes, if_bad, first_bad_animal, check_animal, encode_answer, encode_buffer}
use Rattle.bed_write.specs.Groups.{or_four, in_group, Four}
use Rattle.bed_write.proofs.FirstLaws.{first_all, code_known, place_coded}
use Rattle.bed_write.proofs.GroupLaws.{full_group, group_byte_law, good_four}

-- ---- a list whose first b places are new, and whose others are old
pub record Front (new old out : List ℕ) (b : ℕ) : Type 0 where
  pub bound : b ≤ length new
  pub long : length old ≡ length new
  pub front : out ≡ take b new ++ drop b old

pub front_none : (new old : List ℕ) → length old ≡ length new → Front new old old 0
front_none new old e = record { bound = omega arith; long = e; front = refl }

module _ (new old out : List ℕ) (b : ℕ) (p : Front new old out b) where
  pub front_length : length out ≡ length old
  front_length = let x = p.bound in let y = p.long in ap length p.front ∙ simp (length-append, length-take, length-drop) (omega arith)

  pub front_more : b < length new → (v : ℕ) → v ≡ get_or new b 0 → Front new old (set out b v) (b + 1)
  front_more h v e =
      let y = p.long in
      record {
        bound = omega arith;
        long = p.long;
        front =
            ap (λ (x : ℕ). set out b x) e
            ∙ ap (λ (l : List ℕ). set l b (get_or new b 0)) (p.front ∙ ap (λ (l : List ℕ). take b new ++ l) (drop-cons old b 0 (omega arith)))
            ∙ set_at (take b new) (get_or old b 0) (drop (suc b) old) (get_or new b 0) b (length-take-le b new (omega arith))
            ∙ sym (rw (add-one, take-suc new b 0, append_assoc));
      }

  pub front_all : length new ≤ b → out ≡ new
  front_all h =
      let y = p.long in
      p.front
      ∙ ap (λ (x : List ℕ). x ++ drop b old) (take_all b new (omega arith))
      ∙ ap (λ (x : List ℕ). new ++ x) (drop_of_length-le old {i = b} (omega arith))
      ∙ append-nil new

-- ---- a packed block by its bytes
module _ (n : ℕ) (code : ℕ → Option ℕ) where
  abbrev codes : List ℕ
  codes = tabulate n (λ a. or_zero (code a))

  pub block_length : length (packed_codes n code) ≡ block_width n
  unfolding packed_codes
  block_length = packed_length codes ∙ ap block_width (length_tabulate n (λ a. or_zero (code a)))

  block_byte_law : (b : ℕ) → b < block_width n → get_or (packed_codes n code) b 0 ≡ packed_byte codes b
  unfolding packed_codes packed
  block_byte_law b h =
      let l : length codes ≡ n = length_tabulate n (λ a. or_zero (code a)) in
      get_d_tabulate (block_width (length codes)) (packed_byte codes) b 0 (subst (λ (x : ℕ). b < block_width x) (sym l) h)

-- ---- a column without bad values, a group at a time
module _ {V : Type 0} (w : Width V) (flag : Bool) (missing : V) (vals : List V) (good : first_bad_animal (length vals) (place_code w flag missing vals) ≡ None) where
  pub value_good : (k : ℕ) → k < length vals → or_four (place_code w flag missing vals k) < 4
  unfolding first_bad_animal
  value_good k h =
      code_known (place_code w flag missing vals k) k (place_coded w flag missing vals k)
      (first_all (length vals) (λ a. if_bad (place_code w flag missing vals a) a) good k h)

  module _ (b c0 c1 c2 c3 : ℕ) (q : Four (in_group (length vals - 4 * b) (λ j. or_four (place_code w flag missing vals (4 * b + j * 1)))) c0 c1 c2 c3) where
    same : (k : ℕ) → k < 4 → k < length vals - 4 * b → or_four (place_code w flag missing vals (4 * b + k * 1)) ≡ or_four (place_code w flag missing vals (4 * b + k))
    same k h g = ap (λ (x : ℕ). or_four (place_code w flag missing vals (4 * b + x))) (mul-one k)

    pub column_codes : (c0 < 4) × (c1 < 4) × (c2 < 4) × (c3 < 4)
    column_codes =
        good_four (length vals) (place_code w flag missing vals) b (λ j. or_four (place_code w flag missing vals (4 * b + j * 1))) same c0 c1 c2 c3 q
        (λ k h. value_good (4 * b + k) h)

    pub column_byte : b < block_width (length vals) → (v : ℕ) → v ≡ group_byte c0 c1 c2 c3 → v ≡ get_or (packed_codes (length vals) (place_code w flag missing vals)) b 0
    column_byte h v e =
        group_byte_law (length vals) (place_code w flag missing vals) b (λ j. or_four (place_code w flag missing vals (4 * b + j * 1))) same c0 c1 c2 c3 q v e column_codes
        ∙ sym (block_byte_law (length vals) (place_code w flag missing vals) b h)

  -- the front of the block is written: the next byte is a full group's, or the last one's
  abbrev number : ℕ → ℕ → ℕ
  number b j = or_four (place_code w flag missing vals (4 * b + j * 1))

  abbrev new : List ℕ
  new = packed_codes (length vals) (place_code w flag missing vals)

  module _ (old out : List ℕ) (b : ℕ) (lo : length old ≡ block_width (length vals)) (p : Front new old out b) where
    pub out_long : length out ≡ block_width (length vals)
    out_long = front_length new old out b p ∙ lo

    module _ (h : b < length vals / 4) where
      pub full_there : b < length out
      full_there = let l = out_long in let r = (width_room (length vals)).0 in omega arith

      module _ (c0 c1 c2 c3 : ℕ) (g : ((k : ℕ) → k < 4 → k < 4 → number b k < 4) → Four (in_group 4 (number b)) c0 c1 c2 c3) where
        full_four : Four (in_group (length vals - 4 * b) (number b)) c0 c1 c2 c3
        full_four = full_group (length vals - 4 * b) (number b) c0 c1 c2 c3 (omega arith) (g (λ k x y. value_good (4 * b + k * 1) (omega arith)))

        pub full_more : (v : ℕ) → v ≡ group_byte c0 c1 c2 c3 → Front new old (set out b v) (b + 1)
        full_more v e =
            let l = block_length (length vals) (place_code w flag missing vals) in
            let i = full_there in
            let o = out_long in
            front_more new old out b p (omega arith) v (column_byte b c0 c1 c2 c3 full_four (omega arith) v e)

    module _ (h : b < length out) where
      module _ (c0 c1 c2 c3 : ℕ)
          (g : ((k : ℕ) → k < length vals - 4 * b → k < 4 → number b k < 4) → Four (in_group (length vals - 4 * b) (number b)) c0 c1 c2 c3) where
        last_four : Four (in_group (length vals - 4 * b) (number b)) c0 c1 c2 c3
        last_four = g (λ k x y. value_good (4 * b + k * 1) (omega arith))

        pub last_done : length vals / 4 ≤ b → (v : ℕ) → v ≡ group_byte c0 c1 c2 c3 → set out b v ≡ new
        last_done f v e =
            let l = block_length (length vals) (place_code w flag missing vals) in
            let o = out_long in
            let r = (width_room (length vals)).1 in
            front_all new old (set out b v) (b + 1) (front_more new old out b p (omega arith) v (column_byte b c0 c1 c2 c3 last_four (omega arith) v e)) (omega arith)

    pub none_left : length out ≤ b → out ≡ new
    none_left h =
        let l = block_length (length vals) (place_code w flag missing vals) in
        let o = out_long in
        front_all new old out b p (omega arith)

-- ---- `encode1`, by its checks
module _ (n : ℕ) (code : ℕ → Option ℕ) (old : List ℕ) where
  pub encode_length : (length old ≡ block_width n → ⊥) → (refused 16 [] ≡ encode_answer n code (length old)) × (old ≡ encode_buffer n code old)
  unfolding encode_answer encode_buffer if_done
  encode_length h = (simp (ne_eqb (length old) (block_width n) h), simp (ne_eqb (length old) (block_width n) h))

  module _ (l : length old ≡ block_width n) where
    pub encode_bad : (a : ℕ) → Some a ≡ first_bad_animal n code → (refused 7 (pos a ∷ []) ≡ encode_answer n code (length old)) × (old ≡ encode_buffer n code old)
    unfolding encode_answer encode_buffer check_animal if_done
    encode_bad a e = (simp (eq-eqb (length old) (block_width n) l, sym e), simp (eq-eqb (length old) (block_width n) l, sym e))

    pub encode_done : None ≡ first_bad_animal n code → (out : List ℕ) → out ≡ packed_codes n code → (done [] ≡ encode_answer n code (length old)) × (out ≡ encode_buffer n code old)
    unfolding encode_answer encode_buffer check_animal if_done
    encode_done e out o = (simp (eq-eqb (length old) (block_width n) l, sym e), o ∙ simp (eq-eqb (length old) (block_width n) l, sym e))
