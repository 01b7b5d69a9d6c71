-- Laws of packing a block: 18, 16 and 15, then what `encode1` says.
use mathlib.Core.Path.{◌≡◌, sym, ap, ◌∙◌}
use mathlib.Core.List.{List, []}
use Rattle.std.specs.Prelude.{Option}
use Prim.Native.Nat.{ℕ, ◌≤◌, ◌<◌}
use borrow.Author.Tests.{eq-eqb, ne_eqb}
use lib.Dec.{eqb}
use lib.ListN.{length}
use Rattle.answer.specs.Answer.{done, refused, check, count_limit}
use Rattle.blocks.specs.Block.{block_width}
use Rattle.answer.proofs.AnswerLaws.{check_passes, check_refuses, count_passes, count_refuses}
use Rattle.bed_write.specs.Packing.{first_bad_animal, check_animal, encode_answer}
use Rattle.block.specs.Blocks.{pack_answer}
use Rattle.block.proofs.CheckLaws.{bytes_refuse, bytes_pass}

module _ (iids val_length : ℕ) (code : ℕ → Option ℕ) (old : List ℕ) where
  pub pack_too_large : count_limit < iids → pack_answer iids val_length code (length old) ≡ refused 18 []
  unfolding pack_answer
  pack_too_large h = count_refuses iids _ h

  module _ (h : iids ≤ count_limit) where
    pub pack_length : (length old ≡ block_width iids → ⊥) → pack_answer iids val_length code (length old) ≡ refused 16 []
    unfolding pack_answer
    pack_length n = count_passes iids _ h ∙ bytes_refuse (length old) iids _ n

    module _ (l : length old ≡ block_width iids) where
      after_16 : pack_answer iids val_length code (length old) ≡ check (eqb val_length iids) 15 (check_animal (first_bad_animal iids code) (done []))
      unfolding pack_answer
      after_16 = count_passes iids _ h ∙ bytes_pass (length old) iids _ l

      pub pack_mismatch : (val_length ≡ iids → ⊥) → pack_answer iids val_length code (length old) ≡ refused 15 []
      pack_mismatch n = after_16 ∙ check_refuses (eqb val_length iids) 15 _ (ne_eqb val_length iids n)

      -- `encode1` counts the values that it is lent, which are as many as the animals
      module _ (e : val_length ≡ iids) where
        pub same_answer : pack_answer iids val_length code (length old) ≡ encode_answer val_length code (length old)
        unfolding encode_answer
        same_answer =
            after_16
            ∙ check_passes (eqb val_length iids) 15 _ (eq-eqb val_length iids e)
            ∙ sym (check_passes (eqb (length old) (block_width iids)) 16 _ (eq-eqb (length old) (block_width iids) l))
            ∙ ap (λ (n : ℕ). encode_answer n code (length old)) (sym e)
