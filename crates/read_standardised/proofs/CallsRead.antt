-- What reading with missing NaN leaves, cell by cell: every value is a decoded call.
use mathlib.Core.Path.{◌≡◌, sym, subst}
use mathlib.Core.Bool.{Bool}
use mathlib.Core.List.{List}
use Prim.Native.Nat.{ℕ, ◌<◌}
use lib.IntN.{ℤ}
use lib.ListN.{length}
use lib.Ieee.{Float, nan}
use Rattle.codes.specs.Value.{float, value_of}
use Rattle.bed_read.specs.Reading.{read_code, values_read}
use Rattle.bed_read.proofs.BufferLaws.{read_cell}
use Rattle.statistics.specs.Calls.{IsCall}
use Rattle.standardise.specs.Standardised.{value}
use Rattle.standardise.proofs.Theorems.{decoded_call}

-- by lists of n and s entries
module _ (flag order : Bool) (file : List ℕ) (iids sids : ℕ) (il sl : List ℤ) (n s : ℕ) (li : length il ≡ n) (ls : length sl ≡ s) (k m : ℕ) (hk : k < n) (hm : m < s) where
  abbrev read : List Float
  read = values_read float flag nan order file iids sids il sl

  pub cell_read : value order n s read k m ≡ value_of float flag nan (read_code file iids sids il sl k m)
  unfolding value
  cell_read = read_cell float flag nan order file iids sids il sl n s li ls nan k m hk hm

  pub call_read : IsCall (value order n s read k m)
  call_read = subst IsCall (sym cell_read) (decoded_call flag (read_code file iids sids il sl k m))
