-- Laws of what is found first, and of codes that a value may lack.
use mathlib.Core.Path.{◌≡◌, refl, ap, ◌∙◌}
use mathlib.Core.Bool.{Bool, true, false, cond}
use mathlib.Core.List.{List}
use Rattle.std.specs.Prelude.{Option, Some, None}
use Prim.Native.Nat.{ℕ, zero, suc, ◌<◌}
use native.Mathlib.Omega.{arith}
use lib.ListN.{length, get_or}
use Rattle.codes.specs.Value.{Width, code_of, same_or_nan}
use Rattle.answer.specs.Matrix.{matrix_place}
use Rattle.bed_write.specs.Packing.{place_code, or_zero, or_else, first_of, if_bad}
use Rattle.bed_write.specs.Writing.{value_code}
use Rattle.bed_write.specs.Groups.{or_four, CodesGood}
use Rattle.answer.proofs.Tabulate.{get_d_inside}

pub first_none : {A : Type 0} (n : ℕ) (f : ℕ → Option A) → ((k : ℕ) → k < n → f k ≡ None) → first_of n f ≡ None
unfolding first_of
first_none zero f h = refl
first_none (suc n) f h = ap (λ o. or_else o (first_of n (λ k. f (suc k)))) (h 0 (omega arith)) ∙ first_none n (λ k. f (suc k)) (λ k b. h (suc k) (omega arith))

pub first_some : {A : Type 0} (n : ℕ) (f : ℕ → Option A) (i : ℕ) (x : A) → i < n → ((k : ℕ) → k < i → f k ≡ None) → f i ≡ Some x → first_of n f ≡ Some x
unfolding first_of
first_some zero f i x b h e = absurd (omega arith)
first_some (suc n) f zero x b h e = ap (λ o. or_else o (first_of n (λ k. f (suc k)))) e
first_some (suc n) f (suc i) x b h e =
    ap (λ o. or_else o (first_of n (λ k. f (suc k)))) (h 0 (omega arith))
    ∙ first_some n (λ k. f (suc k)) i x (omega arith) (λ k c. h (suc k) (omega arith)) e

pub first_ext : {A : Type 0} (n : ℕ) (f g : ℕ → Option A) → ((k : ℕ) → k < n → f k ≡ g k) → first_of n f ≡ first_of n g
unfolding first_of
first_ext zero f g e = refl
first_ext (suc n) f g e =
    ap (λ o. or_else o (first_of n (λ k. f (suc k)))) (e 0 (omega arith))
    ∙ ap (or_else (g 0)) (first_ext n (λ k. f (suc k)) (λ k. g (suc k)) (λ k h. e (suc k) (omega arith)))

-- where nothing is found, there is nothing at any place
pub first_all : {A : Type 0} (n : ℕ) (f : ℕ → Option A) → first_of n f ≡ None → (k : ℕ) → k < n → f k ≡ None
unfolding first_of
first_all zero f e k b = absurd (omega arith)
first_all (suc n) f e zero b = at_first (f 0) (first_of n (λ k. f (suc k))) e
  where
    at_first : {A : Type 0} (o later : Option A) → or_else o later ≡ None → o ≡ None
    at_first None later e = refl
    at_first (Some x) later e = e
first_all (suc n) f e (suc k) b = first_all n (λ k. f (suc k)) (at_later (f 0) (first_of n (λ k. f (suc k))) e) k (omega arith)
  where
    at_later : {A : Type 0} (o later : Option A) → or_else o later ≡ None → later ≡ None
    at_later None later e = e
    at_later (Some x) later e = absurd (let q : ◌≡◌ {A = ℕ} 0 1 = cc in omega arith)

-- ---- a code that may be lacking
pub code_found : (o : Option ℕ) (c : ℕ) → Some c ≡ o → c ≡ or_four o
unfolding or_four
code_found o c e = ap or_four e

pub code_lacking : (o : Option ℕ) → None ≡ o → 4 ≡ or_four o
unfolding or_four
code_lacking o e = ap or_four e

pub bad_none : {A : Type 0} (o : Option ℕ) (x : A) → or_four o < 4 → if_bad o x ≡ None
unfolding or_four if_bad
bad_none (Some c) x h = refl
bad_none None x h = absurd (omega arith)

pub bad_some : {A : Type 0} (o : Option ℕ) (x : A) → ((c : ℕ) → o ≡ Some c → c < 4) → 3 < or_four o → if_bad o x ≡ Some x
unfolding or_four if_bad
bad_some (Some c) x h b = absurd (let l = h c refl in omega arith)
bad_some None x h b = refl

pub not_bad : {A : Type 0} (o : Option ℕ) (x : A) → if_bad o x ≡ None → o ≡ Some (or_zero o)
unfolding if_bad or_zero
not_bad (Some c) x e = refl
not_bad None x e = absurd (let q : ◌≡◌ {A = ℕ} 0 1 = cc in omega arith)

-- a value that is not bad has a code
pub code_known : {A : Type 0} (o : Option ℕ) (x : A) → ((c : ℕ) → o ≡ Some c → c < 4) → if_bad o x ≡ None → or_four o < 4
unfolding if_bad or_four
code_known (Some c) x h e = h c refl
code_known None x h e = absurd (let q : ◌≡◌ {A = ℕ} 0 1 = cc in omega arith)

pub zero_four : (o : Option ℕ) → or_four o < 4 → or_four o ≡ or_zero o
unfolding or_four or_zero
zero_four (Some c) h = refl
zero_four None h = absurd (omega arith)

pub zero_below : (o : Option ℕ) → ((c : ℕ) → o ≡ Some c → c < 4) → or_zero o < 4
unfolding or_zero
zero_below (Some c) h = h c refl
zero_below None h = omega arith

-- ---- the code of a value is a code
abbrev pub Coded : (ℕ → Option ℕ) → Type 0
Coded code = (k c : ℕ) → code k ≡ Some c → c < 4

some_below : (k c : ℕ) → k < 4 → ◌≡◌ {A = Option ℕ} (Some k) (Some c) → c < 4
some_below k c h e = let q : k ≡ c = cc in omega arith

pub code_small : {V : Type 0} (w : Width V) (flag : Bool) (missing v : V) (c : ℕ) → code_of w flag missing v ≡ Some c → c < 4
unfolding code_of
code_small w flag missing v c e = by_tests_law flag (w.same v w.zero) (w.same v w.one) (w.same v w.two) (same_or_nan w v missing) c e
  where
    by_tests_law :
        (flag a b d f : Bool) (c : ℕ)
        → cond a (Some (cond flag 3 0)) (cond b (Some 2) (cond d (Some (cond flag 0 3)) (cond f (Some 1) None))) ≡ Some c → c < 4
    by_tests_law true true b d f c e = some_below 3 c (omega arith) e
    by_tests_law false true b d f c e = some_below 0 c (omega arith) e
    by_tests_law flag false true d f c e = some_below 2 c (omega arith) e
    by_tests_law true false false true f c e = some_below 0 c (omega arith) e
    by_tests_law false false false true f c e = some_below 3 c (omega arith) e
    by_tests_law flag false false false true c e = some_below 1 c (omega arith) e
    by_tests_law flag false false false false c e = absurd (let q : ◌≡◌ {A = ℕ} 0 1 = cc in omega arith)

pub place_coded : {V : Type 0} (w : Width V) (flag : Bool) (missing : V) (vals : List V) → Coded (place_code w flag missing vals)
unfolding place_code
place_coded w flag missing vals k c e = code_small w flag missing (get_or vals k missing) c e

pub value_coded :
    {V : Type 0} (w : Width V) (flag : Bool) (missing : V) (order : Bool) (iids sids : ℕ) (val : List V) (a m c : ℕ)
    → value_code w flag missing order iids sids val a m ≡ Some c → c < 4
unfolding value_code
value_coded w flag missing order iids sids val a m c e = place_coded w flag missing val (matrix_place order iids sids a m) c e

-- a value that is read: its code, and the number of it
module _ {V : Type 0} (w : Width V) (flag : Bool) (missing : V) (vals : List V) (k : ℕ) (v d : V) (h : k < length vals) (e : v ≡ get_or vals k d) where
  pub value_read : code_of w flag missing v ≡ place_code w flag missing vals k
  unfolding place_code
  value_read = ap (code_of w flag missing) (e ∙ get_d_inside vals k d missing h)

  pub good_read : (r : ℕ) → CodesGood w flag missing v r → or_four (place_code w flag missing vals k) < 4 → r ≡ or_four (place_code w flag missing vals k)
  good_read r g b = let s = ap or_four value_read in g (omega arith) ∙ s

  pub number_read : (r : ℕ) → r ≡ or_four (code_of w flag missing v) → r ≡ or_four (place_code w flag missing vals k)
  number_read r s = s ∙ ap or_four value_read
