-- Laws of a table of the values of all codes, over any type of values.
use mathlib.Core.Path.{◌≡◌, refl, sym, ap, ◌∙◌}
use mathlib.Core.Bool.{Bool}
use mathlib.Core.List.{List, map}
use Prim.Native.Nat.{ℕ, ◌+◌, ◌*◌, ◌/◌, ◌%◌, ◌<◌, ◌≤◌}
use native.Mathlib.Omega.{arith}
use lib.ListN.{length, get_or, set, length-set, length-map, get_or-map}
use Rattle.codes.specs.Code.{code_at, code_table}
use Rattle.codes.specs.Value.{Width, values, value_of}
use Rattle.codes.proofs.CodeLaws.{table_at, code_below}
use Rattle.codes.proofs.ValueLaws.{four_values}
use Rattle.answer.proofs.Tabulate.{length_tabulate, tabulate_ext, is_tabulate, stored_more, map_tabulate, get_d_inside}
use Rattle.bed_read.specs.Private.{value_in, ByCode}

table_length : length code_table ≡ 1024
unfolding code_table
table_length = length_tabulate 1024 (λ k. code_at (k / 4) (k % 4))

-- the code for place 4 × byte + place
pub code_there : (byte place : ℕ) → place < 4 → code_at byte (place % 4) ≡ code_at ((4 * byte + place) / 4) ((4 * byte + place) % 4)
code_there byte place h =
    let b : byte ≡ (4 * byte + place) / 4 = omega arith in
    let p : place % 4 ≡ (4 * byte + place) % 4 = omega arith in
    ap (λ (x : ℕ). code_at x (place % 4)) b ∙ ap (code_at ((4 * byte + place) / 4)) p

-- the value that is found for the code at a place of a byte
module _ {V : Type 0} (w : Width V) (flag : Bool) (missing : V) (byte place code n : ℕ) (of_code : List V) (e : of_code ≡ values w flag missing) (m : n ≡ code) (c : code ≡ code_at byte place) where
  pub code_inside : (n < length of_code) × (n < 4)
  code_inside = let l : length of_code ≡ 4 = ap length e ∙ four_values w flag missing in let b = code_below byte place in (omega arith, omega arith)

  pub code_valued : (d : V) → get_or of_code n d ≡ value_of w flag missing (code_at byte place)
  unfolding value_of
  code_valued d =
      get_d_inside of_code n d missing code_inside.0
      ∙ ap (λ (l : List V). get_or l n missing) e ∙ ap (λ (k : ℕ). get_or (values w flag missing) k missing) (m ∙ c)

-- a table that has its value for each code at the places below n
pub record FilledTo {A : Type 0} (d : A) (f : ℕ → A) (table : List A) (n : ℕ) : Type 0 where
  pub long : length table ≡ 1024
  pub filled : (t : ℕ) → t < n → get_or table t d ≡ f (code_at (t / 4) (t % 4))

module _ {A : Type 0} (d : A) (f : ℕ → A) where
  pub filled_same : (table : List A) (n m : ℕ) → FilledTo d f table n → m ≤ n → FilledTo d f table m
  filled_same table n m r h = record { long = r.long; filled = λ t i. r.filled t (omega arith) }

  pub filled_more : (table : List A) (n p m : ℕ) (v : A) → FilledTo d f table n → p ≡ n → m ≡ n + 1 → n < 1024 → v ≡ f (code_at (n / 4) (n % 4)) → FilledTo d f (set table p v) m
  filled_more table n p m v r e k h g =
      record {
        long = length-set table p v ∙ r.long;
        filled =
            λ t i. ap (λ (x : ℕ). get_or (set table x v) t d) e
            ∙ stored_more d (λ t. f (code_at (t / 4) (t % 4))) table n v r.filled (omega (arith, r.long)) g t (omega arith);
      }

  -- in all places
  pub filled_table : (table : List A) (n : ℕ) → FilledTo d f table n → 1024 ≤ n → table ≡ map f code_table
  unfolding code_table
  filled_table table n r h =
      is_tabulate table 1024 (λ t. f (code_at (t / 4) (t % 4))) d r.long (λ t i. r.filled t (omega arith)) ∙ sym (map_tabulate f 1024 (λ k. code_at (k / 4) (k % 4)))

  -- a table made of a value for each code
  module _ (table : List A) (e : table ≡ map f code_table) where
    made_at : (x p : ℕ) → x < 256 → p < 4 → get_or table (x * 4 + p) d ≡ f (code_at x p)
    made_at x p h k =
        let m : p % 4 ≡ p = omega arith in
        let l : length (map f code_table) ≡ 1024 = length-map code_table f ∙ table_length in
        ap (λ (t : List A). get_or t (x * 4 + p) d) e
        ∙ get_d_inside (map f code_table) (x * 4 + p) d (f 0) (omega arith)
        ∙ get_or-map f code_table (x * 4 + p) 0
        ∙ ap f (ap (λ (q : ℕ). get_or code_table (x * 4 + q) 0) (sym m) ∙ table_at code_table x x p refl refl h ∙ ap (code_at x) m)

    -- holds that value for it
    pub made_value : (c : ℕ) → c < 4 → value_in table d c ≡ f c
    unfolding value_in code_at
    made_value c h =
        let z : c / 1 % 4 ≡ c = omega arith in
        ap (λ (q : ℕ). get_or table q d) (omega arith) ∙ made_at c 0 (omega arith) (omega arith) ∙ ap f z

    pub made_by_code : ByCode table d
    unfolding code_table
    made_by_code =
        record {
          by_code_law =
              e
              ∙ map_tabulate f 1024 (λ k. code_at (k / 4) (k % 4))
              ∙ tabulate_ext 1024 (λ k. f (code_at (k / 4) (k % 4))) (λ k. value_in table d (code_at (k / 4) (k % 4)))
              (λ k h. sym (made_value (code_at (k / 4) (k % 4)) (code_below (k / 4) (k % 4))))
              ∙ sym (map_tabulate (value_in table d) 1024 (λ k. code_at (k / 4) (k % 4)));
        }

pub by_code_long : {A : Type 0} (d : A) (table : List A) → ByCode table d → length table ≡ 1024
by_code_long d table b = ap length b.by_code_law ∙ length-map code_table (value_in table d) ∙ table_length

-- the value at a place of a byte
pub value_there :
    {A : Type 0} (d : A) (table : List A) → ByCode table d → (byte place x : ℕ) → x ≡ byte → x < 256 → place < 4
    → (d' : A) → get_or table (x * 4 + place) d' ≡ value_in table d (code_at byte place)
value_there d table b byte place x e h k d' =
    get_d_inside table (x * 4 + place) d' d (let l = by_code_long d table b in omega arith)
    ∙ made_at d (value_in table d) table b.by_code_law x place h k
    ∙ ap (λ (y : ℕ). value_in table d (code_at y place)) e
