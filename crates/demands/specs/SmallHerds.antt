-- The worked examples that document 01 marks P, about the definitions that the contracts cite.
use Rattle.std.specs.Prelude.{◌≡◌, true, false, List, [], ◌∷◌, ℕ, ◌-◌, ◌^◌, pos, negsuc, Some}
use Rattle.answer.specs.Answer.{done, refused}
use Rattle.blocks.specs.Block.{div_answer}
use Rattle.entries.specs.Entry.{entry_answer}
use Rattle.codes.specs.Value.{Width, i8}
use Rattle.index.specs.declared.Index.TheVariants as Index
use Rattle.index.specs.Checks.{index_buffer}
use Rattle.bed_file.specs.File.{accept_answer}
use Rattle.bed_read.specs.Reading.{file_order, read_buffer}
use Rattle.canonical.specs.Canonical.{canonical_answer, canonical_buffer}
use Rattle.bed_write.specs.Packing.{place_code, encode_buffer}
use Rattle.demands.specs.Demand.{IsAccepted}

-- "File F, 5 animals, 2 markers: 6C 1B 01 E4 00 2F 02."
abbrev pub F : List ℕ
F = 0x6C ∷ 0x1B ∷ 0x01 ∷ 0xE4 ∷ 0x00 ∷ 0x2F ∷ 0x02 ∷ []

-- "Last byte F2"
abbrev pub last_byte_f2 : List ℕ
last_byte_f2 = 0x6C ∷ 0x1B ∷ 0x01 ∷ 0xE4 ∷ 0x00 ∷ 0x2F ∷ 0xF2 ∷ []

-- "6C 1B 00 0C 0D 0A 03 08"
abbrev pub in_mode0 : List ℕ
in_mode0 = 0x6C ∷ 0x1B ∷ 0x00 ∷ 0x0C ∷ 0x0D ∷ 0x0A ∷ 0x03 ∷ 0x08 ∷ []

-- ten values
abbrev pub ten : {A : Type 0} → A → List A
ten v = v ∷ v ∷ v ∷ v ∷ v ∷ v ∷ v ∷ v ∷ v ∷ v ∷ []

-- "2, missing, 1, 0, 2 and 0, 0, 1, 2, 1", marker by marker
abbrev pub values_of_f : {V : Type 0} (w : Width V) → V → List V
values_of_f w missing =
    w.two ∷ missing ∷ w.one ∷ w.zero ∷ w.two
    ∷ w.zero ∷ w.zero ∷ w.one ∷ w.two ∷ w.one ∷ []

pub record SmallHerds : Type 1 where
  -- "F counted: 2, missing, 1, 0, 2 and 0, 0, 1, 2, 1.", at every width and whatever stands for missing; "Last byte F2: same."
  pub read_F : {V : Type 0} (w : Width V) (missing : V)
      → read_buffer w F 5 2 true (file_order 5) (file_order 2) missing false (ten w.zero) ≡ values_of_f w missing
  pub read_F2 : {V : Type 0} (w : Width V) (missing : V)
      → read_buffer w last_byte_f2 5 2 true (file_order 5) (file_order 2) missing false (ten w.zero) ≡ values_of_f w missing
  -- "6C 1B 00 0C 0D 0A 03 08 has canonical file F."
  pub mode_0_canonical : canonical_buffer in_mode0 5 2 (0 ∷ 0 ∷ 0 ∷ 0 ∷ 0 ∷ 0 ∷ 0 ∷ []) ≡ F
  -- "A mode 0 file may meet that last 4, as with 5 animals and 2^63 − 1 markers.": its own length passes, the one to be written does not
  pub mode_0_passes : div_answer (2 ^ 63 - 1) 5 ≡ done (pos (2 ^ 61) ∷ [])
  pub last_4 : (file : List ℕ) (out_length : ℕ) → IsAccepted file 5 (2 ^ 63 - 1) → canonical_answer file 5 (2 ^ 63 - 1) out_length ≡ refused 4 []
  -- "6C 1B 01 with 0 animals, 9 markers: accepted." "One byte more: 2."
  pub nothing_in_a_block : accept_answer (0x6C ∷ 0x1B ∷ 0x01 ∷ []) 0 9 ≡ done []
  pub one_byte_more : accept_answer (0x6C ∷ 0x1B ∷ 0x01 ∷ 0x00 ∷ []) 0 9 ≡ refused 2 []
  -- "Count 5: −5 is 0, 4 is 4"; "−6 and 5 bad": −(k + 1) is `negsuc k`. Of animals, whose number is 5
  pub minus_5 : entry_answer 5 5 (negsuc 4) ≡ done (pos 0 ∷ [])
  pub plus_4 : entry_answer 5 5 (pos 4) ≡ done (pos 4 ∷ [])
  pub minus_6 : entry_answer 5 5 (negsuc 5) ≡ refused 5 (negsuc 5 ∷ [])
  pub plus_5 : entry_answer 5 5 (pos 5) ≡ refused 5 (pos 5 ∷ [])
  -- "2^63 − 1 animals, 8 markers: 4." "7 markers: not 4.": the width is 2^61
  pub eight_markers : div_answer (2 ^ 63 - 1) 8 ≡ refused 4 []
  pub seven_markers : div_answer (2 ^ 63 - 1) 7 ≡ done (pos (2 ^ 61) ∷ [])
  -- "Count 6, slice 1 to 6 step −2: 5, 3, 1."
  pub slice_down :
      index_buffer (Index.NDSliceInfo (record { start = pos 1; end = Some (pos 6); step = negsuc 1 })) 6 (pos 0 ∷ pos 0 ∷ pos 0 ∷ [])
      ≡ pos 5 ∷ pos 3 ∷ pos 1 ∷ []
  -- "i8 column 0, −127, 1, 2, 2, counted, missing −127: 27 00."
  pub column_packed :
      encode_buffer 5 (place_code i8 true (negsuc 126) (pos 0 ∷ negsuc 126 ∷ pos 1 ∷ pos 2 ∷ pos 2 ∷ [])) (0xFF ∷ 0xFF ∷ []) ≡ 0x27 ∷ 0x00 ∷ []
