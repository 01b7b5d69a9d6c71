-- Writing what was read, by any lists, under the same flag and a missing value that is none of 0, 1, 2: every code is back. Over the width.
use mathlib.Core.Path.{◌≡◌, sym, ap, ◌∙◌}
use mathlib.Core.Bool.{Bool, true}
use mathlib.Core.List.{List, []}
use Rattle.std.specs.Prelude.{Some}
use Prim.Native.Nat.{ℕ, ◌-◌, ◌^◌, ◌<◌, ◌≤◌}
use lib.IntN.{ℤ}
use lib.ListN.{length, get_or}
use Rattle.answer.specs.Answer.{done, is_done, count_limit}
use Rattle.blocks.specs.Block.{file_length}
use Rattle.answer.specs.Matrix.{matrix_place}
use Rattle.codes.specs.Value.{Width, code_of}
use Rattle.codes.proofs.ValueLaws.{encode_decode, Numbers, NoNumber}
use Rattle.bed_read.specs.Reading.{read_answer, read_code, values_read, read_buffer}
use Rattle.bed_read.proofs.BufferLaws.{read_below, read_length, read_cell, buffer_values}
use Rattle.bed_write.specs.Packing.{place_code}
use Rattle.bed_write.specs.Writing.{value_code, write_answer, bed_file, write_buffer}
use Rattle.demands.proofs.WriteLaws.{codes_written}

module _ {V : Type 0} (w : Width V) (numbers : Numbers w) (flag : Bool) (missing : V) (other : NoNumber w missing) (order : Bool)
    (file : List ℕ) (iids sids : ℕ) (il sl : List ℤ) (val : List V) (d : is_done (read_answer file iids sids il sl (length val)) ≡ true)
    -- lists of n and s entries
    (n s : ℕ) (li : length il ≡ n) (ls : length sl ≡ s) where
  abbrev read : List V
  read = read_buffer w file iids sids flag il sl missing order val

  is_read : read ≡ values_read w flag missing order file iids sids il sl
  is_read = buffer_values w file iids sids flag il sl missing order val d

  code_back : (k m : ℕ) → k < n → m < s → value_code w flag missing order n s read k m ≡ Some (read_code file iids sids il sl k m)
  unfolding value_code place_code
  code_back k m hk hm =
      ap (λ (l : List V). code_of w flag missing (get_or l (matrix_place order n s k m) missing)) is_read
      ∙ ap (code_of w flag missing) (read_cell w flag missing order file iids sids il sl n s li ls missing k m hk hm)
      ∙ encode_decode w numbers flag missing other (read_code file iids sids il sl k m) (read_below file iids sids il sl k m)

  -- the writing is not refused where the counts and the length fit and the buffer is of the right length, and leaves the file of the codes read
  pub read_is_written : n ≤ count_limit → s ≤ count_limit → file_length n s ≤ 2 ^ 64 - 1 → (out : List ℕ) → length out ≡ file_length n s
      → (write_answer n s (value_code w flag missing order n s read) (length read) (length out) ≡ done [])
      × (write_buffer n s (value_code w flag missing order n s read) (length read) out ≡ bed_file n s (read_code file iids sids il sl))
  read_is_written hn hs fits out l =
      codes_written n s (value_code w flag missing order n s read) (length read) out (read_code file iids sids il sl) code_back hn hs fits
      (sym (ap length is_read ∙ read_length w flag missing order file iids sids il sl n s li ls)) l
