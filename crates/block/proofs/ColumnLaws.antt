-- Filling a lent column animal by animal, over any type of values; and the later column of decoding, once over the width.
use mathlib.Core.Path.{◌≡◌, refl, sym, ap, ◌∙◌}
use mathlib.Core.Bool.{Bool}
use mathlib.Core.List.{List}
use Prim.Native.Nat.{ℕ, ◌+◌, ◌/◌, ◌%◌, ◌<◌}
use native.Mathlib.Omega.{arith}
use lib.ListN.{length, get_or, set}
use Rattle.std.specs.Prelude.{[]}
use Rattle.answer.specs.Answer.{done, refused, is_done}
use Rattle.codes.specs.Code.{code_at, item_code}
use Rattle.codes.specs.Value.{Width, value_of}
use Rattle.answer.proofs.AnswerLaws.{new_if_done, old_if_not}
use Rattle.answer.proofs.Tabulate.{is_tabulate, stored_more}
use Rattle.block.specs.Blocks.{decode_answer, column_of, decode_buffer}
use Rattle.block.proofs.CheckLaws.{decodable}

module _ {V : Type 0} (w : Width V) (flag : Bool) (missing : V) (bytes : List ℕ) where
  -- ---- a column that is filled animal by animal: places 0 to k − 1 have their values
  unfoldable pub Filled : List V → ℕ → Type 0
  Filled out k = (j : ℕ) → j < k → get_or out j missing ≡ value_of w flag missing (item_code bytes j)

  pub filled_none : (out : List V) → Filled out 0
  unfolding Filled
  filled_none out j h = absurd (omega (arith, h))

  pub filled_more : (out : List V) (k : ℕ) → Filled out k → k < length out
      → (v : V) → v ≡ value_of w flag missing (code_at (get_or bytes (k / 4) 0) (k % 4)) → Filled (set out k v) (k + 1)
  unfolding Filled item_code
  filled_more out k p h v g = stored_more missing _ out k v p h g

  pub column_by_values : (out : List V) → Filled out (length out) → column_of w flag missing bytes (length out) ≡ out
  unfolding Filled column_of
  column_by_values out p = sym (is_tabulate out (length out) (λ a. value_of w flag missing (item_code bytes a)) missing refl p)

  -- ---- the later column
  module _ (iids : ℕ) (old : List V) where
    pub column_new : done [] ≡ decode_answer (length bytes) iids (length old) → decode_buffer w flag missing bytes iids old ≡ column_of w flag missing bytes (length old)
    unfolding decode_buffer
    column_new t =
        let d = sym (ap is_done t) in
        new_if_done (decode_answer (length bytes) iids (length old)) (column_of w flag missing bytes iids) old d
        ∙ ap (column_of w flag missing bytes) (sym (decodable (length bytes) iids (length old) d).0)

    pub column_kept : (k : ℕ) → refused k [] ≡ decode_answer (length bytes) iids (length old) → decode_buffer w flag missing bytes iids old ≡ old
    unfolding decode_buffer
    column_kept k t = old_if_not (decode_answer (length bytes) iids (length old)) (column_of w flag missing bytes iids) old (sym (ap is_done t))
