-- Laws of the values at the places of lines.
use mathlib.Core.Path.{◌≡◌, refl, ap, ◌∙◌}
use mathlib.Core.Bool.{Bool, true, false, not, cond}
use mathlib.Core.List.{List}
use Prim.Native.Nat.{ℕ, ◌+◌, ◌-◌, ◌*◌, ◌/◌, ◌%◌, ◌<◌, ◌≤◌}
use native.Mathlib.Omega.{arith}
use lib.IntN.{ℤ}
use lib.ListN.{length, get_or}
use Rattle.calls.specs.Calls.{call_code}
use Rattle.calls.specs.declared.Shape.{Shape}
use Rattle.calls.specs.declared.parts.Parts.{Parts}
use Rattle.calls.specs.Lists.{Ready, entry_number, entry_byte, entry_place, is_along_block, EntryParts}
use Rattle.calls.proofs.ListLaws.{parts_code, along_code}
use Rattle.bed_read.specs.Reading.{read_code}
use Rattle.bed_read.specs.Private.{place_value, line_value}

-- item k, which is at place p of byte b of its block
pub byte_item :
    {A : Type 0} (v : ℕ → A) (file : List ℕ) (start b p k : ℕ) → p < 4 → 4 * b + p ≡ k
    → place_value v file (start + b) p ≡ place_value v file (start + k / 4) (k % 4)
byte_item v file start b p k h e =
    let q : start + b ≡ start + k / 4 = omega arith in
    let r : p ≡ k % 4 = omega arith in
    ap (λ (x : ℕ). place_value v file x p) q ∙ ap (place_value v file (start + k / 4)) r

-- a place that is the same number
pub same_place : {A : Type 0} (v : ℕ → A) (file : List ℕ) (byte p q : ℕ) (r : A) → p ≡ q → r ≡ place_value v file byte p → r ≡ place_value v file byte q
same_place v file byte p q r e h = h ∙ ap (place_value v file byte) e

-- ---- place t of line o
module _ {A : Type 0} (v : ℕ → A) (file : List ℕ) (shape : Shape) where
  by_kind :
      (b : Bool) (outer inner : List ℤ) (o t : ℕ)
      → v (call_code file shape.iids shape.sids (cond b (entry_number shape b outer o) (entry_number shape (not b) inner t)) (cond b (entry_number shape (not b) inner t) (entry_number shape b outer o)))
      ≡ line_value b v file shape outer inner o t
  unfolding line_value read_code entry_number
  by_kind true outer inner o t = refl
  by_kind false outer inner o t = refl

  module _ (animals : Bool) (outer inner : List ℤ) (r : Ready file shape animals outer inner) where
    -- by resolved entries
    pub parts_value :
        (from until : ℕ) (parts : Parts) → EntryParts shape (not animals) inner from until parts → until ≤ length inner
        → (o byte place : ℕ) → o < length outer → byte ≡ entry_byte shape animals outer o → place ≡ entry_place shape animals outer o → (k : ℕ) → k < until - from
        → place_value v file (byte + get_or parts.bytes k 0) (place + get_or parts.places k 0) ≡ line_value animals v file shape outer inner o (from + k)
    unfolding place_value
    parts_value from until parts t u o byte place ho eb ep k h =
        ap v (parts_code file shape animals outer inner r from until parts t u o byte place ho eb ep k h) ∙ by_kind animals outer inner o (from + k)

    -- in a line whose places are the items of a block, in order
    pub along_value :
        is_along_block shape (not animals) inner ≡ true → (o byte : ℕ) → o < length outer → byte ≡ entry_byte shape animals outer o → (k : ℕ) → k < length inner
        → place_value v file (byte + k / 4) (k % 4) ≡ line_value animals v file shape outer inner o k
    unfolding place_value
    along_value i o byte ho eb k h = ap v (along_code file shape animals outer inner r i o byte ho eb k h) ∙ by_kind animals outer inner o k
