-- Laws of a block's checks, over plain numbers.
use mathlib.Core.Path.{◌≡◌, sym, ap, ◌∙◌}
use mathlib.Core.Bool.{true}
use mathlib.Core.List.{List, [], ◌∷◌}
use Prim.Native.Nat.{ℕ, ◌/◌, ◌%◌, ◌≤◌, ◌<◌}
use native.Mathlib.Omega.{arith}
use borrow.Author.Tests.{eq-eqb, ne_eqb, eqb-true, lt-ltb, le-ltb}
use lib.Dec.{eqb}
use lib.IntN.{pos}
use lib.ListN.{length, get_or}
use Rattle.answer.specs.Answer.{Answer, done, refused, is_done, count_limit}
use Rattle.blocks.specs.Block.{block_width}
use Rattle.codes.specs.Code.{code_at, item_code}
use Rattle.entries.specs.Entry.{is_good, first_bad}
use Rattle.answer.proofs.AnswerLaws.{check_passes, check_refuses, check_done, entry_passes, entry_refuses, count_passes, count_refuses, count_done}
use Rattle.codes.proofs.CodeLaws.{width_room}
use Rattle.block.specs.Blocks.{check_bytes, check_column, code_answer, decode_answer}

-- ---- 16
module _ (byte_count iids : ℕ) (later : Answer) where
  pub bytes_refuse : (byte_count ≡ block_width iids → ⊥) → check_bytes byte_count iids later ≡ refused 16 []
  unfolding check_bytes
  bytes_refuse n = check_refuses (eqb byte_count (block_width iids)) 16 later (ne_eqb byte_count (block_width iids) n)

  pub bytes_pass : byte_count ≡ block_width iids → check_bytes byte_count iids later ≡ later
  unfolding check_bytes
  bytes_pass e = check_passes (eqb byte_count (block_width iids)) 16 later (eq-eqb byte_count (block_width iids) e)

  pub bytes_done : is_done (check_bytes byte_count iids later) ≡ true → byte_count ≡ block_width iids
  unfolding check_bytes
  bytes_done d = eqb-true byte_count (block_width iids) (check_done (eqb byte_count (block_width iids)) 16 later d).0

-- ---- decoding: 18, 15, 16
module _ (byte_count iids val_length : ℕ) where
  pub decode_too_large : count_limit < iids → decode_answer byte_count iids val_length ≡ refused 18 []
  unfolding decode_answer check_column
  decode_too_large h = count_refuses iids _ h

  module _ (h : iids ≤ count_limit) where
    pub decode_mismatch : (val_length ≡ iids → ⊥) → decode_answer byte_count iids val_length ≡ refused 15 []
    unfolding decode_answer check_column
    decode_mismatch n = count_passes iids _ h ∙ check_refuses (eqb val_length iids) 15 _ (ne_eqb val_length iids n)

    module _ (e : val_length ≡ iids) where
      after_15 : decode_answer byte_count iids val_length ≡ check_bytes byte_count iids (done [])
      unfolding decode_answer check_column
      after_15 = count_passes iids _ h ∙ check_passes (eqb val_length iids) 15 _ (eq-eqb val_length iids e)

      pub decode_length : (byte_count ≡ block_width iids → ⊥) → decode_answer byte_count iids val_length ≡ refused 16 []
      decode_length n = after_15 ∙ bytes_refuse byte_count iids _ n

      pub decode_done : byte_count ≡ block_width iids → decode_answer byte_count iids val_length ≡ done []
      decode_done g = after_15 ∙ bytes_pass byte_count iids _ g

  -- what is known where nothing was refused
  pub decodable : is_done (decode_answer byte_count iids val_length) ≡ true → (val_length ≡ iids) × (byte_count ≡ block_width iids)
  unfolding decode_answer check_column
  decodable d =
      let p = check_done (eqb val_length iids) 15 _ (count_done iids _ d).1 in
      (eqb-true val_length iids p.0, bytes_done byte_count iids _ p.1)

  pub decodable_width : done [] ≡ decode_answer byte_count iids val_length → byte_count ≡ block_width val_length
  decodable_width t = let p = decodable (sym (ap is_done t)) in p.1 ∙ ap block_width (sym p.0)

-- ---- an animal's byte
pub byte_below : (iids iid : ℕ) → iid < iids → iid / 4 < block_width iids
byte_below iids iid h = let r = (width_room iids).0 in omega arith

-- ---- the code of an animal
module _ (bytes : List ℕ) (iids iid : ℕ) where
  pub code_too_large : count_limit < iids → code_answer bytes iids iid ≡ refused 18 []
  unfolding code_answer
  code_too_large h = count_refuses iids _ h

  module _ (h : iids ≤ count_limit) where
    pub code_length : (length bytes ≡ block_width iids → ⊥) → code_answer bytes iids iid ≡ refused 16 []
    unfolding code_answer
    code_length n = count_passes iids _ h ∙ bytes_refuse (length bytes) iids _ n

    module _ (e : length bytes ≡ block_width iids) where
      pub code_found : iid < iids → code_answer bytes iids iid ≡ done (pos (code_at (get_or bytes (iid / 4) 0) (iid % 4)) ∷ [])
      unfolding code_answer first_bad is_good item_code
      code_found b =
          count_passes iids _ h
          ∙ bytes_pass (length bytes) iids _ e
          ∙ entry_passes (first_bad iids (pos iid ∷ [])) 5 (done (pos (item_code bytes iid) ∷ [])) (rw (lt-ltb iid iids b))

      pub code_bad : iids ≤ iid → code_answer bytes iids iid ≡ refused 5 (pos iid ∷ [])
      unfolding code_answer first_bad is_good
      code_bad b =
          count_passes iids _ h
          ∙ bytes_pass (length bytes) iids _ e
          ∙ entry_refuses (first_bad iids (pos iid ∷ [])) 5 (done (pos (item_code bytes iid) ∷ [])) (pos iid) (rw (le-ltb iid iids b))
