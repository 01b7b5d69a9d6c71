-- Laws of cuts: the file that a cut leaves, when a cut is not refused, and a cut of a cut by any lists whose entries name its calls in the first
-- file. Each cut has a width of its own.
use mathlib.Core.Path.{◌≡◌, refl, sym, ap, subst, ◌∙◌}
use mathlib.Core.Bool.{true}
use mathlib.Core.List.{List, [], map}
use Rattle.std.specs.Prelude.{Option}
use Prim.Native.Nat.{ℕ, ◌-◌, ◌^◌, ◌<◌, ◌≤◌}
use lib.IntN.{ℤ, pos}
use lib.ListN.{length, get_or, length-map}
use Rattle.answer.specs.Answer.{done, is_done, count_limit}
use Rattle.blocks.specs.Block.{file_length}
use Rattle.entries.specs.Entry.{is_good, means}
use Rattle.entries.proofs.EntryLaws.{means_below, all_good}
use Rattle.codes.proofs.ValueLaws.{Numbers}
use Rattle.bed_file.specs.File.{accept_answer}
use Rattle.calls.specs.Calls.{call_code}
use Rattle.bed_read.specs.Reading.{read_answer, read_code, read_buffer}
use Rattle.bed_read.proofs.ReadLaws.{Readable, readable, read_good}
use Rattle.bed_read.proofs.BufferLaws.{read_below}
use Rattle.bed_write.specs.Writing.{value_code, check_buffers, bed_file, write_buffer}
use Rattle.bed_write.proofs.BedLaws.{bed_ext}
use Rattle.bed_write.proofs.WriteLaws.{Passed}
use Rattle.canonical.proofs.WrittenLaws.{bed_call}
use Rattle.demands.specs.Demand.{GoodList}
use Rattle.demands.specs.Cut.{Cut, Leaves, RightBuffers}
use Rattle.demands.proofs.WriteLaws.{writing_passed}
use Rattle.demands.proofs.CutCodes.{code_again, again_below, read_is_written}
use Rattle.demands.proofs.CutLists.{map_at, map_good}

-- the code that a cut leaves of a code
abbrev pub code_left : Cut → ℕ → ℕ
code_left c = code_again c.width c.flag c.missing

module _ (file : List ℕ) (iids sids : ℕ) (il sl : List ℤ) (c : Cut) where
  abbrev codes_left : ℕ → ℕ → ℕ
  codes_left k m = code_left c (read_code file iids sids il sl k m)

  abbrev code : List c.Value → ℕ → ℕ → Option ℕ
  code = value_code c.width c.flag c.missing c.order (length il) (length sl)

  -- ---- a cut that is not refused
  module _ (bytes : List ℕ) (l : Leaves file iids sids il sl c bytes) where
    read_done : is_done (read_answer file iids sids il sl (length c.val)) ≡ true
    read_done = ap is_done (sym l.is_read.0)

    -- the file is accepted and the lists are good
    pub cut_readable : Readable file iids sids il sl (length c.val)
    cut_readable = readable file iids sids il sl (length c.val) read_done

    -- the lengths of the lists fit, and so does that of the file that is written
    cut_passed : Passed (length il) (length sl) (length l.values) (length c.out) (check_buffers (length il) (length sl) (length l.values) (length c.out) (done []))
    cut_passed = writing_passed (length il) (length sl) (code l.values) (length l.values) c.out (ap is_done (sym l.is_written.0))

    -- it is the file of what is left of each code
    left_codes : Numbers c.width → bytes ≡ bed_file (length il) (length sl) codes_left
    left_codes n =
        let p = cut_passed in
        l.is_written.1
        ∙ ap (λ (v : List c.Value). write_buffer (length il) (length sl) (code v) (length v) c.out) l.is_read.1
        ∙ (read_is_written c.width n c.flag c.missing c.order file iids sids il sl c.val read_done (length il) (length sl) refl refl
        p.iids_fit p.sids_fit p.file_fits c.out p.out_long).1

  -- ---- a cut of an accepted file by good lists, whose lengths fit, with buffers of the right lengths
  leaves : Numbers c.width → is_done (accept_answer file iids sids) ≡ true → GoodList iids il → GoodList sids sl
      → length il ≤ count_limit → length sl ≤ count_limit → file_length (length il) (length sl) ≤ 2 ^ 64 - 1 → RightBuffers il sl c
      → Leaves file iids sids il sl c (bed_file (length il) (length sl) codes_left)
  leaves n acc gi gs hi hs fits b =
      let r = read_good file iids sids il sl (length c.val) acc (sym b.for_15) gi gs in
      let w = read_is_written c.width n c.flag c.missing c.order file iids sids il sl c.val (ap is_done r) (length il) (length sl) refl refl hi hs fits c.out b.for_16 in
      record {
        values = read_buffer c.width file iids sids c.flag il sl c.missing c.order c.val;
        is_read = (sym r, refl);
        is_written = (sym w.0, sym w.1);
      }

-- ---- a cut of a cut, and one cut
module _ (file : List ℕ) (iids sids : ℕ) (il sl jl kl : List ℤ) (first second one : Cut)
    (n₁ : Numbers first.width) (n₂ : Numbers second.width) (n₃ : Numbers one.width)
    -- the one cut leaves of each code what the two leave
    (same_codes : (code : ℕ) → code < 4 → code_left second (code_left first code) ≡ code_left one code)
    -- f and g take the second lists' entries to entries that are good for the first file and name the same calls there
    (f g : ℤ → ℤ)
    (f_good : (e : ℤ) → is_good (length il) e ≡ true → is_good iids (f e) ≡ true)
    (g_good : (e : ℤ) → is_good (length sl) e ≡ true → is_good sids (g e) ≡ true)
    (same_calls : (d e : ℤ) → call_code file iids sids (means iids (f d)) (means sids (g e)) ≡ read_code file iids sids il sl (means (length il) d) (means (length sl) e))
    (between bytes : List ℕ) (l₁ : Leaves file iids sids il sl first between) (l₂ : Leaves between (length il) (length sl) jl kl second bytes) where
  r₂ : Readable between (length il) (length sl) jl kl (length second.val)
  r₂ = cut_readable between (length il) (length sl) jl kl second bytes l₂

  abbrev codes : ℕ → ℕ → ℕ
  codes = codes_left file iids sids (map f jl) (map g kl) one

  codes_same : (k m : ℕ) → k < length jl → m < length kl → code_left second (read_code between (length il) (length sl) jl kl k m) ≡ codes k m
  unfolding read_code
  codes_same k m hk hm =
      let j = get_or jl k (pos 0) in
      let l = get_or kl m (pos 0) in
      let a = means (length il) j in
      let b = means (length sl) l in
      ap (λ (x : List ℕ). code_left second (call_code x (length il) (length sl) a b)) (left_codes file iids sids il sl first between l₁ n₁)
      ∙ ap (code_left second)
      (bed_call (length il) (length sl) (codes_left file iids sids il sl first)
      (λ k m _ _. again_below first.width n₁ first.flag first.missing (read_code file iids sids il sl k m)) a b
      (means_below (length il) j (all_good (length il) jl k r₂.iids_good hk)) (means_below (length sl) l (all_good (length sl) kl m r₂.sids_good hm)))
      ∙ same_codes (read_code file iids sids il sl a b) (read_below file iids sids il sl a b)
      ∙ ap (code_left one)
      (sym (same_calls j l)
      ∙ ap (λ (e : ℤ). call_code file iids sids (means iids e) (means sids (g l))) (sym (map_at f jl k hk))
      ∙ ap (λ (e : ℤ). call_code file iids sids (means iids (get_or (map f jl) k (pos 0))) (means sids e)) (sym (map_at g kl m hm)))

  bytes_are : bed_file (length (map f jl)) (length (map g kl)) codes ≡ bytes
  bytes_are =
      ap (λ (x : ℕ). bed_file x (length (map g kl)) codes) (length-map jl f)
      ∙ ap (λ (x : ℕ). bed_file (length jl) x codes) (length-map kl g)
      ∙ sym (left_codes between (length il) (length sl) jl kl second bytes l₂ n₂ ∙ bed_ext (length jl) (length kl) (codes_left between (length il) (length sl) jl kl second) codes codes_same)

  pub one_cut : RightBuffers (map f jl) (map g kl) one → Leaves file iids sids (map f jl) (map g kl) one bytes
  one_cut b =
      let p = cut_passed between (length il) (length sl) jl kl second bytes l₂ in
      let lj = sym (length-map jl f) in
      let lk = sym (length-map kl g) in
      subst (Leaves file iids sids (map f jl) (map g kl) one) bytes_are
      (leaves file iids sids (map f jl) (map g kl) one n₃ (cut_readable file iids sids il sl first between l₁).is_accepted
      (map_good (length il) iids f f_good jl r₂.iids_good) (map_good (length sl) sids g g_good kl r₂.sids_good)
      (subst (λ (x : ℕ). x ≤ count_limit) lj p.iids_fit) (subst (λ (x : ℕ). x ≤ count_limit) lk p.sids_fit)
      (subst (λ (x : ℕ). file_length x (length (map g kl)) ≤ 2 ^ 64 - 1) lj (subst (λ (x : ℕ). file_length (length jl) x ≤ 2 ^ 64 - 1) lk p.file_fits))
      b)
