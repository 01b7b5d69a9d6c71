-- Laws of resolved entries: their tally at a marker.
use mathlib.Core.Path.{◌≡◌, sym, subst, ◌∙◌}
use mathlib.Core.Bool.{true, false}
use mathlib.Core.List.{List}
use Prim.Native.Nat.{ℕ, ◌+◌, ◌<◌, ◌≤◌}
use native.Mathlib.Omega.{arith}
use lib.IntN.{ℤ}
use lib.ListN.{length, get_or}
use Rattle.codes.specs.Code.{code_at}
use Rattle.calls.specs.declared.Part.{Part}
use Rattle.calls.specs.declared.Shape.{Shape}
use Rattle.calls.specs.declared.parts.Parts.{Parts}
use Rattle.calls.specs.Lists.{entry_number, Ready, IsEntryPart, EntryParts, Inside}
use Rattle.calls.proofs.ListLaws.{parts_inside, parts_code}
use Rattle.call_counts.specs.Counts.{code_named}
use Rattle.call_counts.specs.Private.{weight, tally_parts, tally_named}
use Rattle.call_counts.proofs.TallyLaws.{total_ext}

-- n resolved entries at entry m of the marker list
module _ (file : List ℕ) (shape : Shape) (il sl : List ℤ) (r : Ready file shape false sl il) (m from n : ℕ) (hm : m < length sl) (l : from + n ≤ length il)
    (part : Part) (pm : IsEntryPart shape false sl m part) (parts : Parts) (e : EntryParts shape true il from (from + n) parts) where
  pub run_inside : n ≤ 2048 → Inside file part.byte part.place parts n
  run_inside h =
      subst (Inside file part.byte part.place parts) (omega arith)
      (parts_inside file shape false sl il r from (from + n) parts e l m part.byte part.place hm pm.byte_is pm.place_is (omega arith))

  run_code :
      (k : ℕ) → k < n
      → code_named file shape.iids shape.sids il (entry_number shape false sl m) (from + k)
      ≡ code_at (get_or file (part.byte + get_or parts.bytes k 0) 0) (part.place + get_or parts.places k 0)
  unfolding code_named entry_number
  run_code k h = sym (parts_code file shape false sl il r from (from + n) parts e l m part.byte part.place hm pm.byte_is pm.place_is k (omega arith))

  pub run_tally : (t : ℕ) → t ≡ tally_parts file part parts n → t ≡ tally_named file shape.iids shape.sids il (entry_number shape false sl m) from n
  run_tally t e = e ∙ sym (total_ext weight _ _ n run_code)
