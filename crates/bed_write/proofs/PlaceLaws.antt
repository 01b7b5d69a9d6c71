-- Laws of the places of a matrix: that they fit, the value at one, and the groups of four along them.
use mathlib.Core.Path.{◌≡◌, ap, ◌∙◌}
use mathlib.Core.Bool.{Bool, true, false, cond}
use mathlib.Core.List.{List}
use Rattle.std.specs.Prelude.{Option, None}
use Prim.Native.Nat.{ℕ, ◌+◌, ◌-◌, ◌*◌, ◌<◌}
use native.Mathlib.Omega.{arith}
use lib.ListN.{length, get_or}
use Rattle.codes.specs.Value.{Width, code_of}
use Rattle.codes.specs.Code.{group_byte, packed_byte}
use Rattle.answer.specs.Lists.{tabulate}
use Rattle.answer.specs.Matrix.{matrix_place}
use Rattle.answer.proofs.MatrixLaws.{place_below}
use Rattle.codes.specs.declared.values.Coding.{Coding}
use Rattle.bed_write.specs.Packing.{place_code}
use Rattle.bed_write.specs.Writing.{value_code}
use Rattle.bed_write.specs.Groups.{or_four}
use Rattle.bed_write.specs.Private.{by_tests, strided, GoodFour, Finds, matrix_code}
use Rattle.bed_write.proofs.FirstLaws.{value_read, value_coded}
use Rattle.bed_write.proofs.GroupLaws.{good_four, group_byte_law}
use Rattle.bed_write.proofs.SearchLaws.{call_good}

-- ---- places of a matrix, by strides
module _ (order : Bool) (iids sids i m a b : ℕ) (ea : a ≡ cond order sids 1) (eb : b ≡ cond order 1 iids) where
  pub place_strided : i * a + m * b ≡ matrix_place order iids sids i m
  unfolding matrix_place
  place_strided = ap (λ (x : ℕ). i * x + m * b) ea ∙ ap (λ (x : ℕ). i * cond order sids 1 + m * x) eb ∙ by_order order
    where
      by_order : (o : Bool) → i * cond o sids 1 + m * cond o 1 iids ≡ matrix_place o iids sids i m
      by_order true = omega arith
      by_order false = omega arith

-- the number of the value that was read at the place of an animal and a marker
module _ {V : Type 0} (w : Width V) (flag : Bool) (missing : V) (order : Bool) (iids sids : ℕ) (val : List V) (long : iids * sids ≡ length val) (a m at : ℕ) (ha : a < iids) (hm : m < sids) (e : at ≡ matrix_place order iids sids a m) where
  pub read_inside : at < length val
  read_inside = let p : matrix_place order iids sids a m < iids * sids = place_below iids sids a m ha hm order in omega arith

  module _ (v d : V) (q : v ≡ get_or val at d) where
    read_code : code_of w flag missing v ≡ value_code w flag missing order iids sids val a m
    unfolding value_code
    read_code = value_read w flag missing val at v d read_inside q ∙ ap (place_code w flag missing val) e

    pub read_number : (r : ℕ) → r ≡ or_four (code_of w flag missing v) → r ≡ or_four (value_code w flag missing order iids sids val a m)
    read_number r n = n ∙ ap or_four read_code

-- ---- the groups of four along a matrix
module _ {V : Type 0} (w : Width V) (k : Coding V) (order : Bool) (iids sids : ℕ) (val : List V) (m b stride start : ℕ)
    (hm : m < sids) (hb : 4 * b < iids) (es : stride ≡ cond order sids 1) (st : start ≡ matrix_place order iids sids (4 * b) m) where
  -- animal 4 × b + j stands j strides after the start
  walk : (j : ℕ) → start + j * stride ≡ matrix_place order iids sids (4 * b + j) m
  unfolding matrix_place
  walk j = ap (λ (x : ℕ). x + j * stride) st ∙ ap (λ (x : ℕ). matrix_place order iids sids (4 * b) m + j * x) es ∙ by_order order
    where
      by_order : (o : Bool) → matrix_place o iids sids (4 * b) m + j * cond o sids 1 ≡ matrix_place o iids sids (4 * b + j) m
      by_order true = omega arith
      by_order false = omega arith

  pub walk_inside : iids * sids ≡ length val → (j : ℕ) → j < iids - 4 * b → start + j * stride < length val
  walk_inside e j h =
      let p : matrix_place order iids sids (4 * b + j) m < iids * sids = place_below iids sids (4 * b + j) m (omega arith) hm order in
      let q = walk j in omega arith

  abbrev code : ℕ → Option ℕ
  code a = value_code w k.is_a1_counted k.missing order iids sids val a m

  abbrev number : ℕ → ℕ
  number = strided (by_tests w k val) start stride

  same : (j : ℕ) → number j ≡ or_four (code (4 * b + j))
  unfolding value_code
  same j = ap (by_tests w k val) (walk j)

  -- the byte of a group, where no value is bad
  pub matrix_byte :
      Finds w k order iids sids val None → (c0 c1 c2 c3 : ℕ) → GoodFour w k val start stride (iids - 4 * b) c0 c1 c2 c3
      → (v : ℕ) → v ≡ group_byte c0 c1 c2 c3 → v ≡ packed_byte (tabulate iids (λ a. matrix_code w k order iids sids val a m)) b
  matrix_byte good c0 c1 c2 c3 four v e =
      let q = four (λ j h l. let s = same j in let g = there (4 * b + j) (omega arith) in omega arith) in
      group_byte_law iids code b number (λ j g l. same j) c0 c1 c2 c3 q v e (good_four iids code b number (λ j g l. same j) c0 c1 c2 c3 q (λ j h. there (4 * b + j) h))
    where
      there : (a : ℕ) → a < iids → or_four (code a) < 4
      there a h = call_good iids sids (value_code w k.is_a1_counted k.missing order iids sids val) (value_coded w k.is_a1_counted k.missing order iids sids val) good a m h hm
