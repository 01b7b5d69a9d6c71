-- No run reads so many calls that 64 bits do not hold their number.
use mathlib.Core.Path.{◌≡◌, refl, sym, ap, ◌∙◌}
use mathlib.Core.Bool.{Bool, true, false}
use mathlib.Core.List.{List, flat_map}
use Prim.Native.Nat.{ℕ, ◌+◌, ◌*◌, ◌^◌, ◌<◌, ◌≤◌}
use native.Mathlib.Nat.{mul-le-mul_right, mul_comm}
use native.Mathlib.Omega.{arith}
use lib.ListN.{length, drop, length-take}
use Rattle.answer.specs.Answer.{is_done, if_done}
use Rattle.answer.proofs.AnswerLaws.{new_if_done, old_if_not, before_later}
use Rattle.answer.proofs.Tests.{by_test}
use Rattle.blocks.specs.Block.{block_width}
use Rattle.codes.proofs.CodeLaws.{width_room}
use Rattle.bed_file.specs.File.{is_mode1, items, blocks, accept_answer}
use Rattle.bed_file.proofs.FileLaws.{accepted}
use Rattle.rates.specs.Input.{animals, markers, file_bytes, header_bytes, file_of, record_at, goes_on, records, record_limit, run}
use Rattle.rates.specs.Report.{totals, record_counts}
use Rattle.rates.specs.Words.{calls_in, calls_read}
use Rattle.rates.proofs.InputLaws.{records_bound, record_stage, whole_if_goes, heard_if_whole}
use Rattle.rates.proofs.CountLaws.{totals_add_up}

-- ---- four calls a byte
by_mode : (mode : Bool) (iids sids : ℕ) → items mode iids sids * blocks mode iids sids ≡ iids * sids
unfolding items blocks
by_mode true iids sids = refl
by_mode false iids sids = mul_comm sids iids

pub calls_of_accepted : (file : List ℕ) (iids sids : ℕ) → is_done (accept_answer file iids sids) ≡ true → iids * sids + 12 ≤ 4 * length file
calls_of_accepted file iids sids d =
    let n = items (is_mode1 file) iids sids in
    let b = blocks (is_mode1 file) iids sids in
    let l = (accepted file iids sids d).length_is in
    let m : n * b ≤ 4 * block_width n * b = mul-le-mul_right b (width_room n).0 in
    let e : n * b ≡ iids * sids = by_mode (is_mode1 file) iids sids in
    omega arith

-- ---- of a record, at most 4 × 65,533
record_most : (input : List ℕ) → if_done (record_at input).answer ((record_at input).iids * (record_at input).sids) 0 ≤ 262132
unfolding record_at goes_on
record_most input =
    by_test (is_done (record_at input).answer)
    (λ t.
    let w = whole_if_goes input (before_later (record_stage input) _ t) in
    let d : is_done (accept_answer (file_of input) (animals input) (markers input)) ≡ true = sym (ap is_done (heard_if_whole input w _)) ∙ t in
    let c = calls_of_accepted (file_of input) (animals input) (markers input) d in
    let l = length-take (file_bytes input) (drop header_bytes input) in
    let e = new_if_done (record_at input).answer ((record_at input).iids * (record_at input).sids) 0 t in
    omega arith)
    (λ t. let e = old_if_not (record_at input).answer ((record_at input).iids * (record_at input).sids) 0 t in omega arith)

-- ---- of a run
pub totals_fit : (input : List ℕ) → calls_in (totals (flat_map record_counts (run input))) < 2 ^ 64
unfolding run calls_read
totals_fit input =
    let e = totals_add_up (records record_limit input) in
    let f = records_bound calls_read 262132 refl (λ bytes rs. let r = record_most bytes in omega arith) record_limit input in
    omega arith
