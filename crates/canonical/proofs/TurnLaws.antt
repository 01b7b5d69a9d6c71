-- Laws of a group of four animals of a file of mode 0: the codes of their items make the byte of the packed block.
use mathlib.Core.Path.{◌≡◌, refl, sym, ap, subst, ◌∙◌}
use mathlib.Core.Bool.{Bool, true, false}
use mathlib.Core.List.{List}
use Rattle.std.specs.Prelude.{Option, Some}
use Prim.Native.Nat.{ℕ, ◌+◌, ◌-◌, ◌*◌, ◌^◌, ◌<◌}
use native.Mathlib.Omega.{arith}
use lib.ListN.{length, get_or}
use Rattle.codes.specs.Code.{group_byte, code_at, packed_byte}
use Rattle.answer.specs.Lists.{tabulate}
use Rattle.codes.proofs.CodeLaws.{code_below}
use Rattle.answer.proofs.Tests.{by_lt}
use Rattle.calls.specs.declared.Part.{Part}
use Rattle.calls.specs.declared.Shape.{Shape}
use Rattle.calls.specs.Calls.{call_code}
use Rattle.calls.specs.Places.{Shaped, is_block, part_byte, part_place, IsPart}
use Rattle.calls.proofs.PlaceLaws.{part_below, in_word_law, pair_inside, pair_code}
use Rattle.bed_write.specs.Groups.{or_four, in_group}
use Rattle.bed_write.specs.Packing.{or_zero}
use Rattle.bed_write.proofs.GroupLaws.{held_there, held_pad, group_byte_law}
use Rattle.canonical.specs.Private.{Starts, group_code, GroupInside, four_byte}

-- what a group holds are codes
held_below : (file starts : List ℕ) (item : Part) (left k c : ℕ) → c ≡ in_group left (group_code file starts item) k → c < 4
unfolding group_code
held_below file starts item left k c e =
    by_lt k left
    (λ h. subst (λ (x : ℕ). x < 4) (sym (e ∙ sym (held_there left (group_code file starts item) k h))) (code_below (get_or file (get_or starts k 0 + item.byte) 0) item.place))
    (λ h. let z = held_pad left (group_code file starts item) k h in omega arith)

-- four codes by what each is
pub four_same :
    (c0 c1 c2 c3 d0 d1 d2 d3 : ℕ) → c0 ≡ d0 → c1 ≡ d1 → c2 ≡ d2 → c3 ≡ d3 → group_byte c0 c1 c2 c3 ≡ group_byte d0 d1 d2 d3
four_same c0 c1 c2 c3 d0 d1 d2 d3 e0 e1 e2 e3 = λ i. group_byte (e0 i) (e1 i) (e2 i) (e3 i)

-- of four animals that are there
pub four_held :
    (left : ℕ) (number : ℕ → ℕ) (c0 c1 c2 c3 : ℕ) → 3 < left → c0 ≡ number 0 → c1 ≡ number 1 → c2 ≡ number 2 → c3 ≡ number 3
    → group_byte c0 c1 c2 c3 ≡ four_byte (in_group left number)
four_held left number c0 c1 c2 c3 h e0 e1 e2 e3 =
    four_same c0 c1 c2 c3 _ _ _ _ (e0 ∙ held_there left number 0 (omega arith)) (e1 ∙ held_there left number 1 (omega arith))
    (e2 ∙ held_there left number 2 (omega arith)) (e3 ∙ held_there left number 3 (omega arith))

-- the group of byte b at marker m
module _ (file : List ℕ) (shape : Shape) (sh : Shaped file shape) (l : length file < 2 ^ 64) (e : shape.mode1 ≡ false)
    (b m : ℕ) (hm : m < shape.sids) (starts : List ℕ) (s : Starts shape (4 * b) starts) (item : Part) (p : IsPart (is_block shape.mode1 false) shape.width m item) where
  abbrev left : ℕ
  left = shape.iids - 4 * b

  module _ (j : ℕ) (h4 : j < 4) (h : j < left) where
    there : 4 * b + j < shape.iids
    there = omega arith

    abbrev iid_byte : ℕ
    iid_byte = part_byte (is_block shape.mode1 true) shape.width (4 * b + j)

    abbrev sid_byte : ℕ
    sid_byte = part_byte (is_block shape.mode1 false) shape.width m

    stands : get_or starts j 0 + item.byte ≡ iid_byte + sid_byte
    stands =
        let i = pair_inside file shape sh (4 * b + j) m there hm in
        ap (λ (x : ℕ). x + item.byte) (s.start_is j h4 ∙ in_word_law iid_byte (omega arith))
        ∙ ap (λ (x : ℕ). iid_byte + x) (p.byte_is ∙ in_word_law sid_byte (omega arith))

    in_place : item.place ≡ part_place (is_block shape.mode1 true) (4 * b + j) + part_place (is_block shape.mode1 false) m
    unfolding part_place
    in_place =
        let z : part_place (is_block shape.mode1 true) (4 * b + j) ≡ 0 = ap (λ (x : Bool). part_place (is_block x true) (4 * b + j)) e in
        omega (arith, p.place_is)

    inside : get_or starts j 0 + item.byte < length file
    inside = subst (λ (x : ℕ). x < length file) (sym stands) (pair_inside file shape sh (4 * b + j) m there hm)

    code_there_law : group_code file starts item j ≡ call_code file shape.iids shape.sids (4 * b + j) m
    unfolding group_code
    code_there_law =
        ap (λ (x : ℕ). code_at (get_or file x 0) item.place) stands
        ∙ ap (code_at (get_or file (iid_byte + sid_byte) 0)) in_place
        ∙ pair_code file shape sh (4 * b + j) m there hm

  pub group_inside : GroupInside file starts left item
  group_inside = record { byte_in = inside; place_in = subst (λ (x : ℕ). x < 4) (sym p.place_is) (part_below _ _) }

  abbrev code : ℕ → Option ℕ
  code a = Some (call_code file shape.iids shape.sids a m)

  same : (k : ℕ) → k < 4 → k < left → group_code file starts item k ≡ or_four (code (4 * b + k))
  unfolding or_four
  same k h g = code_there_law k h g

  pub turned_is : (v : ℕ) → v ≡ four_byte (in_group left (group_code file starts item)) → v ≡ packed_byte (tabulate shape.iids (λ a. call_code file shape.iids shape.sids a m)) b
  unfolding or_zero
  turned_is v q =
      group_byte_law shape.iids code b (group_code file starts item) same _ _ _ _ (record { at_0 = refl; at_1 = refl; at_2 = refl; at_3 = refl }) v q
      (below 0, below 1, below 2, below 3)
    where
      below : (k : ℕ) → in_group left (group_code file starts item) k < 4
      below k = held_below file starts item left k _ refl
