-- The value buffer keeps its length, so every place that demand 3 names is inside it.
use mathlib.Core.Path.{◌≡◌, refl, sym, ap, ◌∙◌}
use mathlib.Core.Bool.{Bool, true, false, ◌&&◌, cond}
use mathlib.Core.List.{List}
use Prim.Native.Nat.{ℕ, ◌*◌}
use lib.IntN.{ℤ}
use lib.ListN.{length}
use lib.Ieee.{Float, nan, Format}
use Rattle.answer.specs.Matrix.{matrix}
use Rattle.answer.proofs.MatrixLaws.{length_matrix}
use Rattle.codes.specs.Value.{float}
use Rattle.bed_read.proofs.BufferLaws.{read_length}
use Rattle.standardise.specs.Standardised.{applied, value, found, may_change, new_values}
use Rattle.standardise.proofs.Theorems.{same_length}
use Rattle.read_standardised.specs.Joined.{read_nan}
use Rattle.read_standardised.specs.Ways.{Way, in_turn, joined_call, as_read, values_left}
use Rattle.demands.specs.Demand.{IsAccepted, GoodList, RightLengths}
use Rattle.read_standardised.proofs.JoinLaws.{values_are}
use Rattle.demands.proofs.SideLaws.{left_by_reading, right_17, is_read}

module _ (f : Format) (order : Bool) (n s : ℕ) (xs : List Float) (use_stats : Bool) (stats : List Float) (apply : Bool) (l : length xs ≡ n * s) where
  new_length : length (new_values f order n s xs use_stats stats apply) ≡ length xs
  unfolding new_values
  new_length = go (apply && may_change f order n s xs use_stats stats)
    where
      new : ℕ → ℕ → Float
      new i m = applied f (found f order n s xs use_stats stats m) (value order n s xs i m)

      go : (t : Bool) → length (cond t (matrix order n s new) xs) ≡ length xs
      go true = length_matrix order n s new ∙ sym l
      go false = refl

module _ (f : Format) (file : List ℕ) (iids sids : ℕ) (flag : Bool) (il sl : List ℤ) (order : Bool) (val stats : List Float)
    (acc : IsAccepted file iids sids) (gi : GoodList iids il) (gs : GoodList sids sl) (len : RightLengths il sl val stats) where
  pub values_length : (way : Way) → length (values_left f file iids sids flag il sl order val stats way) ≡ length il * length sl
  unfolding values_left read_nan
  values_length (in_turn use_stats apply) =
      let l : length (as_read f file iids sids flag il sl order val stats) ≡ length il * length sl =
      ap length (left_by_reading f file iids sids flag il sl order val stats acc gi gs len) ∙ read_length float flag nan order file iids sids il sl (length il) (length sl) refl refl in
      same_length f order (length il) (length sl) (as_read f file iids sids flag il sl order val stats) use_stats stats apply ∙ l
  values_length joined_call =
      let l : length (read_nan f file iids sids flag il sl order val stats) ≡ length il * length sl = read_length float flag nan order file iids sids il sl (length il) (length sl) refl refl in
      ap length (values_are f file iids sids flag il sl order val stats (right_17 f file iids sids flag il sl order val stats acc gi gs len) (is_read f file iids sids flag il sl order val stats acc gi gs len))
      ∙ new_length f order (length il) (length sl) (read_nan f file iids sids flag il sl order val stats) false stats true l ∙ l
