-- The canonical file of an accepted file, byte by byte: how far it is written.
use Rattle.std.proofs.Common.{◌≡◌, List, [], ◌∷◌, ◌++◌, drop, ℕ, ◌+◌, ◌*◌, ◌≤◌, length}
use Rattle.blocks.specs.Block.{block_width}
use Rattle.calls.specs.declared.Shape.{Shape}
use Rattle.calls.specs.Calls.{call_code}
use Rattle.bed_write.proofs.RowLaws.{Rows, header_done, all_done, headed_rows, headed_done}
use Rattle.canonical.specs.Canonical.{canonical_file}
use Rattle.canonical.specs.Private.{Begun}

-- every block before `from` is written, the first b bytes of every block before `until`, and byte b of every block before m
abbrev pub Written : List ℕ → Shape → ℕ → List ℕ → ℕ → ℕ → ℕ → ℕ → Type 0
Written file shape w out from until b m = Rows shape.iids shape.sids (call_code file shape.iids shape.sids) w out from until b m

module _ (file : List ℕ) (shape : Shape) (w : ℕ) (ew : w ≡ block_width shape.iids) where
  pub starts : (out : List ℕ) → Begun file shape out → Written file shape w out 0 0 0 0
  unfolding canonical_file
  starts out g = header_done shape.iids shape.sids (call_code file shape.iids shape.sids) w out ew g.long g.head

  -- the header
  module _ (old : List ℕ) (l : length old ≡ 3 + w * shape.sids) (header : List ℕ) (eh : header ≡ 0x6C ∷ 0x1B ∷ 1 ∷ []) where
    pub only_header : w ≡ 0 → header ++ drop 3 old ≡ canonical_file file shape.iids shape.sids
    unfolding canonical_file
    only_header e = headed_done shape.iids shape.sids (call_code file shape.iids shape.sids) w ew old l header eh e

    pub begun : Begun file shape (header ++ drop 3 old)
    unfolding canonical_file
    begun = let r = headed_rows shape.iids shape.sids (call_code file shape.iids shape.sids) w ew old l header eh in record { long = r.long; head = r.head }

pub whole_written :
    (file : List ℕ) (shape : Shape) {w : ℕ} {out : List ℕ} {from until b m : ℕ} → Written file shape w out from until b m → shape.sids ≤ from → out ≡ canonical_file file shape.iids shape.sids
unfolding canonical_file
whole_written file shape r h = all_done r h
