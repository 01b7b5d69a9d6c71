-- Document 01's decoding and packing equal the PLINK 1.9 format, of whole files: what is read, written and made canonical is PLINK's file,
-- over the definitions that the contracts cite.
use mathlib.Core.Path.{◌≡◌, refl, sym, ap, subst, ◌∙◌}
use mathlib.Core.Bool.{Bool, true, false, ◌&&◌}
use mathlib.Core.List.{List, [], ◌∷◌}
use Prim.Native.Nat.{ℕ, ◌+◌, ◌-◌, ◌*◌, ◌/◌, ◌^◌, ◌<◌, ◌≤◌}
use native.Mathlib.Nat.{mul_comm}
use native.Mathlib.Omega.{arith}
use borrow.Author.Tests.{eqb-true, eq-eqb, le-leb}
use lib.Dec.{eqb, leb}
use lib.IntN.{ℤ}
use lib.ListN.{length, get_or}
use lib.Seq.{get_or-take}
use Rattle.answer.specs.Answer.{done, count_limit, is_done}
use Rattle.blocks.specs.Block.{block_width, file_length, check_size}
use Rattle.codes.specs.Code.{item_code, copies, packed_byte, packed}
use Rattle.answer.specs.Lists.{tabulate}
use Rattle.answer.specs.Matrix.{matrix_place, matrix}
use Rattle.codes.specs.Plink.{plink_width, copies_of_first, copies_value}
use Rattle.codes.specs.Value.{Width}
use Rattle.answer.proofs.AnswerLaws.{check_passes, count_passes, check_done, count_done, new_if_done}
use Rattle.codes.proofs.CodeLaws.{width_room}
use Rattle.answer.proofs.MatrixLaws.{matrix_ext}
use Rattle.entries.proofs.EntryLaws.{means_below, all_good}
use Rattle.codes.proofs.PlinkLaws.{width_is_plink, pads_are_zero}
use Rattle.answer.proofs.Tabulate.{length_tabulate, get_d_tabulate}
use Rattle.answer.proofs.Tests.{both_true}
use Rattle.bed_file.specs.File.{is_mode1, items, blocks, check_open, check_mode, check_length, check_file, accept_answer}
use Rattle.bed_file.proofs.FileLaws.{open_good, accepted}
use Rattle.calls.specs.Calls.{block, code_in, call_code}
use Rattle.bed_read.specs.Reading.{read_answer, read_code, read_buffer}
use Rattle.bed_read.proofs.BufferLaws.{read_matrix, buffer_values}
use Rattle.calls.proofs.CallLaws.{call_below}
use Rattle.bed_write.specs.Packing.{place_code, or_zero}
use Rattle.bed_write.specs.Writing.{value_code, write_answer, bed_file, write_buffer}
use Rattle.bed_write.proofs.BedLaws.{bed_byte}
use Rattle.canonical.specs.Canonical.{canonical_answer, canonical_file, canonical_buffer}
use Rattle.canonical.proofs.WrittenLaws.{bed_mode, bed_call, bed_accepted}
use Rattle.canonical.proofs.CanonicalLaws.{writable}
use Rattle.demands.proofs.WriteLaws.{writing_passed, has_code, wrote, written_small}
use Rattle.demands.specs.Demand.{IsAccepted, GoodList, meant}
use Rattle.demands.proofs.ReadLaws.{read_done}
use Rattle.demands.specs.PlinkFile.{IsPlinkFile, variant_bit, genotype_in, ExtraBitsZero, copies_by, Apart, StandsIn}
use Rattle.demands.proofs.PlinkFileLaws.{three_bytes, same_bit, part_copies, tabulated_codes, value_copies, same_genotype, stands_by_code}

-- ---- calls
-- "Its blocks stand in order from byte 3.": the code of item i of block v says the copies of PLINK's genotype
pub block_is_plink : (file : List ℕ) (n v i : ℕ) → i < n → copies (item_code (block file n v) i) ≡ copies_of_first (genotype_in file n v i)
unfolding block genotype_in variant_bit
block_is_plink file n v i h =
    let r = (width_room n).0 in
    let e : v * block_width n ≡ v * plink_width n = ap (λ (x : ℕ). v * x) (width_is_plink n) in
    part_copies file (3 + v * block_width n) (block_width n) i _ _ (omega arith) (omega arith) (omega arith)

module _ (file : List ℕ) (iids sids a m : ℕ) where
  -- in mode 1 the code of a call says the copies of the genotype at variant m of sample a
  pub call_is_plink : is_mode1 file ≡ true → a < iids → copies (call_code file iids sids a m) ≡ copies_of_first (genotype_in file iids m a)
  unfolding call_code code_in
  call_is_plink e h = ap (λ (b : Bool). copies (code_in b file iids sids a m)) e ∙ block_is_plink file iids m a h

  -- in mode 0 the two trade places
  pub call_in_mode_0 : is_mode1 file ≡ false → m < sids → copies (call_code file iids sids a m) ≡ copies_of_first (genotype_in file sids a m)
  unfolding call_code code_in
  call_in_mode_0 e h = ap (λ (b : Bool). copies (code_in b file iids sids a m)) e ∙ block_is_plink file sids a m h

-- ---- reading: a file of mode 1 that is accepted
module _ (file : List ℕ) (iids sids : ℕ) (acc : IsAccepted file iids sids) (one : is_mode1 file ≡ true) where
  first_bytes_law : (get_or file 0 0 ≡ 0x6C) × (get_or file 1 0 ≡ 0x1B)
  unfolding accept_answer check_file check_open
  first_bytes_law =
      let a = count_done iids _ (ap is_done acc) in
      let b = count_done sids _ a.1 in
      let c = check_done (leb 3 (length file)) 1 _ b.1 in
      let d = check_done (eqb (get_or file 0 0) 0x6C && eqb (get_or file 1 0) 0x1B) 2 _ c.1 in
      let e = both_true (eqb (get_or file 0 0) 0x6C) (eqb (get_or file 1 0) 0x1B) d.0 in
      (eqb-true (get_or file 0 0) 0x6C e.0, eqb-true (get_or file 1 0) 0x1B e.1)

  -- is PLINK's file, its animals the samples and its markers the variants
  pub accepted_is_plink : IsPlinkFile file iids sids
  unfolding is_mode1 items blocks
  accepted_is_plink =
      let a = accepted file iids sids (ap is_done acc) in
      let l : length file ≡ file_length iids sids = a.length_is ∙ ap (λ (m : Bool). file_length (items m iids sids) (blocks m iids sids)) one in
      record {
        first_three = three_bytes file 0x6C 0x1B 0x01 a.long first_bytes_law.0 first_bytes_law.1 (eqb-true (get_or file 2 0) 1 one);
        the_rest = l ∙ ap (λ (n : ℕ). 3 + n) (mul_comm (block_width iids) sids ∙ ap (λ (n : ℕ). sids * n) (width_is_plink iids));
      }

  -- and with good lists and a buffer of the right length reading leaves, at every width, under either flag and in either order, for place k
  -- of the animal list and place m of the marker list the copies that the genotype of that animal at that marker has
  module _ {V : Type 0} (w : Width V) (flag : Bool) (missing : V) (order : Bool) (iid_list sid_list : List ℤ) (gi : GoodList iids iid_list) (gs : GoodList sids sid_list)
      (val : List V) (for_15 : length iid_list * length sid_list ≡ length val) where
    pub reading_is_plink :
        (read_answer file iids sids iid_list sid_list (length val) ≡ done [])
        × (read_buffer w file iids sids flag iid_list sid_list missing order val
        ≡ matrix order (length iid_list) (length sid_list) (λ k m. copies_value w missing (copies_by flag (genotype_in file iids (meant sids sid_list m) (meant iids iid_list k)))))
    unfolding read_code meant
    reading_is_plink =
        let d = read_done file iids sids iid_list sid_list acc gi gs (length val) for_15 in (
          d,
          buffer_values w file iids sids flag iid_list sid_list missing order val (ap is_done d)
              ∙ read_matrix w flag missing order file iids sids iid_list sid_list (length iid_list) (length sid_list) refl refl
              ∙ matrix_ext order (length iid_list) (length sid_list) _ _
              (λ k m hk hm.
              let a = meant iids iid_list k in
              let s = meant sids sid_list m in
              value_copies w missing flag (call_code file iids sids a s) (genotype_in file iids s a) (call_below file iids sids a s)
              (call_is_plink file iids sids a s one (means_below iids _ (all_good iids iid_list k gi hk)))),
        )

-- and every file of PLINK's is accepted, in mode 1, for counts that meet neither 18 nor 4
pub plink_is_accepted :
    (file : List ℕ) (samples variants : ℕ) → IsPlinkFile file samples variants → samples ≤ count_limit → variants ≤ count_limit → length file ≤ 2 ^ 64 - 1
    → IsAccepted file samples variants × (is_mode1 file ≡ true)
unfolding accept_answer check_file check_mode check_length check_size is_mode1 items blocks
plink_is_accepted file n s p hn hs hl = (
  count_passes n _ hn
      ∙ count_passes s _ hs
      ∙ open_good file _ (omega arith) (byte 0 (omega arith)) (byte 1 (omega arith))
      ∙ check_passes (leb (get_or file 2 0) 1) 3 _ (le-leb (get_or file 2 0) 1 (let e = byte 2 (omega arith) in omega arith))
      ∙ ap (λ (b : Bool). check_length (length file) (items b n s) (blocks b n s) (done [])) mode
      ∙ check_passes (leb (file_length n s) (2 ^ 64 - 1)) 4 _ (le-leb (file_length n s) (2 ^ 64 - 1) (subst (λ (k : ℕ). k ≤ 2 ^ 64 - 1) long hl))
      ∙ check_passes (eqb (length file) (file_length n s)) 2 (done []) (eq-eqb (length file) (file_length n s) long),
  mode,
)
  where
    byte : (k : ℕ) → k < 3 → get_or file k 0 ≡ get_or (0x6C ∷ 0x1B ∷ 0x01 ∷ []) k 0
    byte k h = sym (get_or-take 3 file k 0 h) ∙ ap (λ (l : List ℕ). get_or l k 0) p.first_three

    mode : eqb (get_or file 2 0) 1 ≡ true
    mode = eq-eqb (get_or file 2 0) 1 (byte 2 (omega arith))

    long : length file ≡ file_length n s
    long = p.the_rest ∙ ap (λ (k : ℕ). 3 + k) (ap (λ (k : ℕ). s * k) (sym (width_is_plink n)) ∙ mul_comm s (block_width n))

-- ---- a file of codes, one block after the other
module _ (iids sids : ℕ) (code : ℕ → ℕ → ℕ) (small : (a m : ℕ) → a < iids → m < sids → code a m < 4) where
  abbrev bed : List ℕ
  bed = bed_file iids sids code

  bed_extra : ExtraBitsZero bed iids sids
  unfolding variant_bit packed
  bed_extra =
      record {
        is_zero = λ v k hv hs hw.
            let column = tabulate iids (λ a. code a v) in
            let l : length column ≡ iids = length_tabulate iids (λ a. code a v) in
            let e : v * plink_width iids ≡ v * block_width iids = ap (λ (n : ℕ). v * n) (sym (width_is_plink iids)) in
            let b : k / 8 < block_width iids = subst (λ (n : ℕ). k / 8 < n) (sym (width_is_plink iids)) (omega arith) in
            same_bit bed (packed column) k _ (3 + v * block_width iids) (omega arith)
            (bed_byte iids sids code v (k / 8) hv b
            ∙ sym (get_d_tabulate (block_width (length column)) (packed_byte column) (k / 8) 0 (subst (λ (n : ℕ). k / 8 < block_width n) (sym l) b)))
            ∙ pads_are_zero column (tabulated_codes iids (λ a. code a v) (λ a ha. small a v ha hv)) k (omega arith);
      }

  bed_plink : iids ≤ count_limit → sids ≤ count_limit → file_length iids sids ≤ 2 ^ 64 - 1 → IsPlinkFile bed iids sids
  bed_plink hi hs fits = accepted_is_plink bed iids sids (bed_accepted iids sids code small hi hs fits) (bed_mode iids sids code small)

  bed_copies : (a m : ℕ) → a < iids → m < sids → copies (code a m) ≡ copies_of_first (genotype_in bed iids m a)
  bed_copies a m ha hm = ap copies (sym (bed_call iids sids code small a m ha hm)) ∙ call_is_plink bed iids sids a m (bed_mode iids sids code small) ha

-- ---- writing: one that is done
module _ {V : Type 0} (w : Width V) (apart : Apart w) (flag : Bool) (missing : V) (order : Bool) (iids sids : ℕ) (val : List V) (old : List ℕ)
    (accept : write_answer iids sids (value_code w flag missing order iids sids val) (length val) (length old) ≡ done []) where
  code : ℕ → ℕ → ℕ
  code a m = or_zero (value_code w flag missing order iids sids val a m)

  is_done_law : is_done (write_answer iids sids (value_code w flag missing order iids sids val) (length val) (length old)) ≡ true
  is_done_law = ap is_done accept

  left : write_buffer iids sids (value_code w flag missing order iids sids val) (length val) old ≡ bed_file iids sids code
  unfolding code
  left = wrote iids sids (value_code w flag missing order iids sids val) (length val) old is_done_law

  small : (a m : ℕ) → a < iids → m < sids → code a m < 4
  unfolding code
  small = written_small w flag missing order iids sids val old is_done_law

  -- leaves PLINK's file
  pub written_is_plink : IsPlinkFile (write_buffer iids sids (value_code w flag missing order iids sids val) (length val) old) iids sids
  written_is_plink =
      let p = writing_passed iids sids (value_code w flag missing order iids sids val) (length val) old is_done_law in
      subst (λ (x : List ℕ). IsPlinkFile x iids sids) (sym left) (bed_plink iids sids code small p.iids_fit p.sids_fit p.file_fits)

  pub written_extra_zero : ExtraBitsZero (write_buffer iids sids (value_code w flag missing order iids sids val) (length val) old) iids sids
  written_extra_zero = subst (λ (x : List ℕ). ExtraBitsZero x iids sids) (sym left) (bed_extra iids sids code small)

  -- in which the value of each animal at each marker stands
  pub written_stands :
      (a m : ℕ) → a < iids → m < sids
      → StandsIn w flag (get_or val (matrix_place order iids sids a m) missing) (genotype_in (write_buffer iids sids (value_code w flag missing order iids sids val) (length val) old) iids m a)
  unfolding value_code place_code code
  written_stands a m ha hm =
      subst (λ (x : List ℕ). StandsIn w flag (get_or val (matrix_place order iids sids a m) missing) (genotype_in x iids m a)) (sym left)
      (stands_by_code w missing flag apart (get_or val (matrix_place order iids sids a m) missing) (code a m) (genotype_in (bed_file iids sids code) iids m a)
      (has_code iids sids (value_code w flag missing order iids sids val) (length val) old is_done_law a m ha hm)
      (bed_copies iids sids code small a m ha hm))

-- ---- the canonical file, of a file of either mode
module _ (file : List ℕ) (iids sids : ℕ) (old : List ℕ) (accept : canonical_answer file iids sids (length old) ≡ done []) where
  canonical_done : is_done (canonical_answer file iids sids (length old)) ≡ true
  canonical_done = ap is_done accept

  canonical_left : canonical_buffer file iids sids old ≡ bed_file iids sids (call_code file iids sids)
  unfolding canonical_buffer canonical_file
  canonical_left = new_if_done _ _ old canonical_done

  below : (a m : ℕ) → a < iids → m < sids → call_code file iids sids a m < 4
  below a m ha hm = call_below file iids sids a m

  -- is PLINK's file
  pub canonical_is_plink : IsPlinkFile (canonical_buffer file iids sids old) iids sids
  canonical_is_plink =
      let p = writable file iids sids (length old) canonical_done in
      subst (λ (x : List ℕ). IsPlinkFile x iids sids) (sym canonical_left)
      (bed_plink iids sids (call_code file iids sids) below p.accepts.iids_fit p.accepts.sids_fit p.fits)

  pub canonical_extra_zero : ExtraBitsZero (canonical_buffer file iids sids old) iids sids
  canonical_extra_zero = subst (λ (x : List ℕ). ExtraBitsZero x iids sids) (sym canonical_left) (bed_extra iids sids (call_code file iids sids) below)

  -- whose genotypes have the copies of the calls of the file that it was made of
  pub canonical_keeps_copies :
      (a m : ℕ) → a < iids → m < sids → copies_of_first (genotype_in (canonical_buffer file iids sids old) iids m a) ≡ copies (call_code file iids sids a m)
  canonical_keeps_copies a m ha hm =
      ap (λ (x : List ℕ). copies_of_first (genotype_in x iids m a)) canonical_left ∙ sym (bed_copies iids sids (call_code file iids sids) below a m ha hm)

  -- from mode 1 every genotype is kept, and from mode 0 samples and variants trade places
  module _ (a m : ℕ) (ha : a < iids) (hm : m < sids) where
    pub canonical_keeps : is_mode1 file ≡ true → genotype_in (canonical_buffer file iids sids old) iids m a ≡ genotype_in file iids m a
    canonical_keeps e = same_genotype _ _ (canonical_keeps_copies a m ha hm ∙ call_is_plink file iids sids a m e ha)

    pub canonical_trades : is_mode1 file ≡ false → genotype_in (canonical_buffer file iids sids old) iids m a ≡ genotype_in file sids a m
    canonical_trades e = same_genotype _ _ (canonical_keeps_copies a m ha hm ∙ call_in_mode_0 file iids sids a m e hm)
