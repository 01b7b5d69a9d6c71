-- Laws of a file that was written: its calls, that it is accepted, and that it is its own canonical file.
use mathlib.Core.Path.{◌≡◌, refl, sym, ap, subst, ◌∙◌}
use mathlib.Core.Bool.{Bool, true}
use mathlib.Core.List.{List, []}
use Prim.Native.Nat.{ℕ, ◌-◌, ◌/◌, ◌%◌, ◌^◌, ◌<◌, ◌≤◌}
use native.Mathlib.Omega.{arith}
use borrow.Author.Tests.{eq-eqb, le-leb}
use lib.Dec.{eqb, leb}
use lib.ListN.{length, get_or, get_or-eq_default}
use Rattle.answer.specs.Answer.{done, count_limit}
use Rattle.blocks.specs.Block.{block_width, file_length, check_size}
use Rattle.codes.specs.Code.{code_at, item_code, packed_byte, packed}
use Rattle.answer.specs.Lists.{tabulate}
use Rattle.answer.proofs.AnswerLaws.{check_passes, count_passes}
use Rattle.codes.proofs.CodeLaws.{packed_code, Codes, width_room}
use Rattle.answer.proofs.Tabulate.{length_tabulate, get_d_tabulate}
use Rattle.answer.proofs.Tests.{by_lt}
use Rattle.bed_file.specs.File.{is_mode1, items, blocks, check_mode, check_length, check_file, accept_answer}
use Rattle.bed_file.proofs.FileLaws.{open_good}
use Rattle.calls.specs.Calls.{code_in, call_code}
use Rattle.calls.proofs.CallLaws.{code_in_byte}
use Rattle.bed_write.specs.Writing.{bed_file}
use Rattle.bed_write.proofs.BedLaws.{bed_length, bed_byte, bed_ext}
use Rattle.canonical.specs.Canonical.{canonical_file}

module _ (iids sids : ℕ) (code : ℕ → ℕ → ℕ) (small : (a m : ℕ) → a < iids → m < sids → code a m < 4) where
  abbrev file : List ℕ
  file = bed_file iids sids code

  column : ℕ → List ℕ
  column m = tabulate iids (λ a. code a m)

  column_codes : (m : ℕ) → m < sids → Codes (column m)
  unfolding column
  column_codes m hm k =
      by_lt k iids (λ h. subst (λ (x : ℕ). x < 4) (sym (get_d_tabulate iids (λ a. code a m) k 0 h)) (small k m h hm))
      (λ h. let l : length (column m) ≡ iids = length_tabulate iids (λ a. code a m) in
      let e : get_or (column m) k 0 ≡ 0 = get_or-eq_default (column m) 0 (omega arith) in omega arith)

  pub bed_mode : is_mode1 file ≡ true
  unfolding bed_file is_mode1
  bed_mode = refl

  bed_head : (get_or file 0 0 ≡ 0x6C) × (get_or file 1 0 ≡ 0x1B) × (get_or file 2 0 ≡ 1)
  unfolding bed_file
  bed_head = (refl, refl, refl)

  pub bed_call : (a m : ℕ) → a < iids → m < sids → call_code file iids sids a m ≡ code a m
  unfolding call_code code_in column packed item_code
  bed_call a m ha hm =
      let r = (width_room iids).0 in
      let hb : a / 4 < block_width iids = omega arith in
      let hc : a / 4 < block_width (length (column m)) = subst (λ (n : ℕ). a / 4 < block_width n) (sym (length_tabulate iids (λ a. code a m))) hb in
      ap (λ (b : Bool). code_in b file iids sids a m) bed_mode
      ∙ code_in_byte file iids m a ha
      ∙ ap (λ (x : ℕ). code_at x (a % 4)) (bed_byte iids sids code m (a / 4) hm hb ∙ sym (get_d_tabulate (block_width (length (column m))) (packed_byte (column m)) (a / 4) 0 hc))
      ∙ packed_code (column m) (column_codes m hm) a
      ∙ get_d_tabulate iids (λ a. code a m) a 0 ha

  -- it is accepted for its counts
  pub bed_accepted : iids ≤ count_limit → sids ≤ count_limit → file_length iids sids ≤ 2 ^ 64 - 1 → accept_answer file iids sids ≡ done []
  unfolding accept_answer check_file check_mode check_length check_size items blocks
  bed_accepted hi hs hl =
      let l = bed_length iids sids code in
      count_passes iids _ hi
      ∙ count_passes sids _ hs
      ∙ open_good file _ (omega arith) bed_head.0 bed_head.1
      ∙ check_passes (leb (get_or file 2 0) 1) 3 _ (le-leb (get_or file 2 0) 1 (let h = bed_head.2 in omega arith))
      ∙ ap (λ (b : Bool). check_length (length file) (items b iids sids) (blocks b iids sids) (done [])) bed_mode
      ∙ check_passes (leb (file_length iids sids) (2 ^ 64 - 1)) 4 _ (le-leb (file_length iids sids) (2 ^ 64 - 1) hl)
      ∙ check_passes (eqb (length file) (file_length iids sids)) 2 (done []) (eq-eqb (length file) (file_length iids sids) l)

  -- and its canonical file is itself
  pub bed_canonical : canonical_file file iids sids ≡ file
  unfolding canonical_file
  bed_canonical = bed_ext iids sids (call_code file iids sids) code bed_call
