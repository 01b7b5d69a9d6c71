-- The numbers of every answer of the core fit in a signed number.
use mathlib.Core.Path.{◌≡◌, refl, sym, ◌∙◌}
use mathlib.Core.Bool.{Bool, true, false, ◌&&◌}
use mathlib.Core.List.{List, [], ◌∷◌, map}
use Rattle.std.specs.Prelude.{Option, Some, None}
use Prim.Native.Nat.{ℕ, zero, suc, ◌+◌, ◌-◌, ◌*◌, ◌/◌, ◌^◌, ◌≤◌, ◌<◌}
use native.Mathlib.Omega.{arith}
use borrow.Author.Tests.{leb-true}
use lib.Dec.{leb, eqb}
use lib.Ieee.{Format, Float}
use lib.IntN.{ℤ, pos, negsuc}
use lib.ListN.{length, get_or}
use Rattle.answer.specs.Answer.{Answer, done, refused, check, check_entry, check_count, count_limit, if_done}
use Rattle.blocks.specs.Block.{block_width, check_size, file_length, div_answer}
use Rattle.entries.specs.Entry.{is_good, first_bad, least, byte_of, span, span_answer}
use Rattle.entries.proofs.EntryLaws.{pair_good}
use Rattle.entries.proofs.SpanLaws.{byte_below, greatest_below}
use Rattle.blocks.proofs.Widths.{width_none, width_some}
use Rattle.index.specs.declared.range.RangeAny.{RangeAny}
use Rattle.index.specs.declared.Index.{Index}
use Rattle.index.specs.Numbers.{bound_or, index_list}
use Rattle.index.specs.Checks.{check_bound, check_range, check_end, check_slice, check_index, list_answer, index_answer, range_answer}
use Rattle.bed_file.specs.File.{is_mode1, items, blocks, check_open, check_mode, check_length, check_file}
use Rattle.bed_read.specs.Reading.{check_lists}
use Rattle.bed_write.specs.Packing.{first_of, or_else, if_bad, first_bad_animal, check_animal, encode_answer}
use Rattle.bed_write.specs.Writing.{first_bad_call, check_call, check_buffers, write_answer}
use Rattle.statistics.specs.declared.MarkerStats.{MarkerStats}
use Rattle.statistics.specs.declared.MarkerError.{MarkerError}
use Rattle.statistics.specs.declared.MarkerError.TheVariants.{NoIndividuals, IllegalSnpMean}
use Rattle.std.specs.Prelude.{Result, Ok, Err}
use Rattle.statistics.specs.Statistics.{stats_per_marker}
use Rattle.standardise.specs.Standardised.{marker_answer, markers_answer, buffer_checks, found, lowest_refused, standardise_answer}
use Rattle.read_standardised.specs.Joined.{joined_checks, read_nan, joined_answer}
use Rattle.bed_answer.specs.Interface.{carries_entry}

-- numbers that are not negative are below 2^63
unfoldable pub AllBelow : List ℤ → Type 0
AllBelow [] = Unit
AllBelow (pos n ∷ zs) = (n < 2 ^ 63) × AllBelow zs
AllBelow (negsuc k ∷ zs) = AllBelow zs

-- the numbers of an answer fit in a signed number
unfoldable pub Fits : Answer → Type 0
unfolding AllBelow carries_entry
Fits (done vs) = AllBelow vs
Fits (refused n vs) = carries_entry n ≡ false → AllBelow vs

-- ---- through the checks
if_fits : (b : Bool) (n : ℕ) (later : Answer) → (b ≡ true → Fits later) → Fits (check b n later)
unfolding check Fits AllBelow
if_fits true n later f = f refl
if_fits false n later f = λ _. tt

check_fits : (b : Bool) (n : ℕ) (later : Answer) → Fits later → Fits (check b n later)
check_fits b n later f = if_fits b n later (λ _. f)

count_fits : (n : ℕ) (later : Answer) → (n ≤ count_limit → Fits later) → Fits (check_count n later)
unfolding check_count
count_fits n later f = if_fits (leb n count_limit) 18 later (λ e. f (leb-true n count_limit e))

entry_fits : (o : Option ℤ) (n : ℕ) (later : Answer) → carries_entry n ≡ true → (o ≡ None → Fits later) → Fits (check_entry o n later)
unfolding check_entry Fits
entry_fits None n later e f = f refl
entry_fits (Some z) n later e f = λ q. absurd (let p : ◌≡◌ {A = Bool} true false = sym e ∙ q in let q2 : ◌≡◌ {A = ℕ} 0 1 = cc in omega arith)

-- ---- block widths
width_below : (n : ℕ) → n ≤ count_limit → block_width n < 2 ^ 63
width_below zero h = let e = width_none 0 refl in omega arith
width_below (suc n) h = let e : block_width (suc n) ≡ (suc n - 1) / 4 + 1 = width_some (suc n) (λ z. omega arith) in omega arith

pub div_fits : (iids sids : ℕ) → Fits (div_answer iids sids)
unfolding div_answer check_size Fits AllBelow
div_fits iids sids =
    count_fits iids _ (λ h. count_fits sids _ (λ _. check_fits (leb (file_length iids sids) (2 ^ 64 - 1)) 4 _ (width_below iids h, tt)))

-- ---- spans
module _ (count : ℕ) where
  least_below : (n : ℕ) (ms : List ℕ) → n < count → least n ms < count
  unfolding least
  least_below n [] h = h
  least_below n (m ∷ ms) h = omega arith

  spans_fit : (list : List ℤ) → count ≤ count_limit → first_bad count list ≡ None → Fits (done (span count list))
  unfolding Fits AllBelow span first_bad
  spans_fit [] h f = (omega arith, (omega arith, tt))
  spans_fit (e ∷ es) h f =
      let p = pair_good (is_good count e) (first_bad count es) e f in
      let b = byte_below count e p.0 in
      let l = least_below (byte_of count e) (map (byte_of count) es) b in
      let g = greatest_below count (byte_of count e) es b p.1 in
      (omega arith, (omega arith, tt))

pub span_fits : (count : ℕ) (list : List ℤ) → Fits (span_answer count list)
unfolding span_answer carries_entry
span_fits count list = count_fits count _ (λ h. entry_fits (first_bad count list) 5 _ refl (λ f. spans_fit count list h f))

-- ---- ranges and lists
bound_fits : (b : Option ℕ) (absent : ℕ) (later : Answer) → absent ≤ count_limit → (bound_or absent b ≤ count_limit → Fits later) → Fits (check_bound b later)
unfolding check_bound
bound_fits None absent later h f = f h
bound_fits (Some n) absent later h f = count_fits n later f

range_checked : (r : RangeAny) (count : ℕ) (later : Answer) → count ≤ count_limit → (bound_or 0 r.start ≤ count_limit → bound_or count r.end ≤ count_limit → Fits later) → Fits (check_range r count later)
unfolding check_range
range_checked r count later h f =
    bound_fits r.start 0 _ (omega arith)
    (λ s. bound_fits r.end count _ h (λ e. check_fits (leb (bound_or 0 r.start) (bound_or count r.end)) 12 later (f s e)))

pub range_fits : (r : RangeAny) (count : ℕ) → Fits (range_answer r count)
unfolding range_answer Fits AllBelow
range_fits r count = count_fits count _ (λ h. range_checked r count _ h (λ s e. (omega arith, (omega arith, tt))))

end_fits_law : (e : Option ℤ) (count : ℕ) (later : Answer) → Fits later → Fits (check_end e count later)
unfolding check_end
end_fits_law None count later f = f
end_fits_law (Some e) count later f = check_fits _ 11 later f

index_checked : (index : Index) (count : ℕ) (later : Answer) → count ≤ count_limit → Fits later → Fits (check_index index count later)
unfolding check_index check_slice
index_checked Index.All count later h f = f
index_checked (Index.One one) count later h f = f
index_checked (Index.Vec vec) count later h f = f
index_checked (Index.VecBool marks) count later h f = check_fits (eqb (length marks.now) count) 8 later f
index_checked (Index.RangeAny r) count later h f = range_checked r count later h (λ _ _. f)
index_checked (Index.NDSliceInfo s) count later h f = check_fits _ 9 _ (check_fits _ 10 _ (end_fits_law s.end count later f))

pub list_fits : (index : Index) (count : ℕ) (room : ℕ) → room < 2 ^ 63 → Fits (index_answer index count room)
unfolding index_answer list_answer Fits AllBelow
list_fits index count room l =
    count_fits count _
    (λ h. index_checked index count _ h
    (if_fits (leb (length (index_list index count)) room) 19 _
    (λ e. (let b = leb-true (length (index_list index count)) room e in omega arith, tt))))

-- ---- the first bad value
-- what is found has a property
unfoldable Holds : {A : Type 0} → (A → Type 0) → Option A → Type 0
Holds P None = Unit
Holds P (Some x) = P x

or_holds : {A : Type 0} (P : A → Type 0) (o later : Option A) → Holds P o → Holds P later → Holds P (or_else o later)
unfolding Holds or_else
or_holds P None later h k = k
or_holds P (Some x) later h k = h

first_holds : {A : Type 0} (P : A → Type 0) (n : ℕ) (f : ℕ → Option A) → ((k : ℕ) → k < n → Holds P (f k)) → Holds P (first_of n f)
unfolding Holds first_of
first_holds P zero f h = tt
first_holds P (suc n) f h =
    or_holds P (f 0) (first_of n (λ k. f (suc k))) (h 0 (omega arith)) (first_holds P n (λ k. f (suc k)) (λ k b. h (suc k) (omega arith)))

bad_holds : {A : Type 0} (P : A → Type 0) (o : Option ℕ) (x : A) → P x → Holds P (if_bad o x)
unfolding Holds if_bad
bad_holds P (Some c) x p = tt
bad_holds P None x p = p

animal_fits : (o : Option ℕ) → Holds (λ a. a < 2 ^ 63) o → Fits (check_animal o (done []))
unfolding check_animal Holds Fits AllBelow
animal_fits None h = tt
animal_fits (Some a) h = λ _. (h, tt)

pub encode_fits : (n : ℕ) (code : ℕ → Option ℕ) (out_length : ℕ) → n < 2 ^ 63 → Fits (encode_answer n code out_length)
unfolding encode_answer first_bad_animal
encode_fits n code out_length l =
    check_fits (eqb out_length (block_width n)) 16 _
    (animal_fits (first_bad_animal n code) (first_holds (λ a. a < 2 ^ 63) n _ (λ a h. bad_holds (λ a. a < 2 ^ 63) (code a) a (omega arith))))

call_fits : (o : Option (ℕ × ℕ)) → Holds (λ (p : ℕ × ℕ). (p.0 < 2 ^ 63) × (p.1 < 2 ^ 63)) o → Fits (check_call o (done []))
unfolding check_call Holds Fits AllBelow
call_fits None h = tt
call_fits (Some (a, m)) h = λ _. (h.0, (h.1, tt))

pub write_fits : (iids sids : ℕ) (code : ℕ → ℕ → Option ℕ) (val_length out_length : ℕ) → Fits (write_answer iids sids code val_length out_length)
unfolding write_answer check_buffers check_size first_bad_call
write_fits iids sids code val_length out_length =
    count_fits iids _
    (λ hi. count_fits sids _
    (λ hs. check_fits (leb (file_length iids sids) (2 ^ 64 - 1)) 4 _
    (check_fits (eqb (iids * sids) val_length) 15 _
    (check_fits (eqb out_length (file_length iids sids)) 16 _
    (call_fits (first_bad_call iids sids code)
    (first_holds _ sids _ (λ m k. first_holds _ iids _ (λ a h. bad_holds (λ (p : ℕ × ℕ). (p.0 < 2 ^ 63) × (p.1 < 2 ^ 63)) (code a m) (a, m) (omega arith, omega arith)))))))))

-- ---- markers
cond_fits : (answer new old : Answer) → Fits new → Fits old → Fits (if_done answer new old)
unfolding if_done
cond_fits (done vs) new old f g = f
cond_fits (refused n vs) new old f g = g

marker_fits : (m : ℕ) (s : Result MarkerStats MarkerError) → m < 2 ^ 63 → Fits (marker_answer m s)
unfolding marker_answer Fits AllBelow
marker_fits m (Ok s) h = tt
marker_fits m (Err NoIndividuals) h = λ _. (h, tt)
marker_fits m (Err IllegalSnpMean) h = λ _. (h, tt)

markers_fit : (found : ℕ → Result MarkerStats MarkerError) (n : ℕ) → n < 2 ^ 63 → Fits (markers_answer found n)
unfolding markers_answer Fits AllBelow
markers_fit found zero h = tt
markers_fit found (suc n) h =
    cond_fits (markers_answer found n) _ _ (marker_fits n (found n) (omega arith)) (markers_fit found n (omega arith))

module _ (f : Format) (order : Bool) (iids sids : ℕ) (val : List Float) (use_stats : Bool) (stats : List Float) where
  pub lowest_fits : sids < 2 ^ 63 → Fits (lowest_refused f order iids sids val use_stats stats)
  unfolding lowest_refused
  lowest_fits h = markers_fit (found f order iids sids val use_stats stats) sids h

  pub standardise_fits : Fits (standardise_answer f order iids sids val use_stats stats)
  unfolding standardise_answer buffer_checks
  standardise_fits = count_fits iids _ (λ _. count_fits sids _ (λ h. check_fits (eqb (iids * sids) (length val)) 15 _ (check_fits (eqb (stats_per_marker * sids) (length stats)) 17 _ (lowest_fits (omega arith)))))

-- ---- the joined call
lists_fit : (iids sids : ℕ) (iid_list sid_list : List ℤ) (later : Answer) → Fits later → Fits (check_lists iids sids iid_list sid_list later)
unfolding check_lists carries_entry
lists_fit iids sids iid_list sid_list later f = entry_fits (first_bad iids iid_list) 5 _ refl (λ _. entry_fits (first_bad sids sid_list) 6 later refl (λ _. f))

file_fits : (file : List ℕ) (iids sids : ℕ) (later : Answer) → Fits later → Fits (check_file file iids sids later)
unfolding check_file check_open check_mode check_length check_size
file_fits file iids sids later f =
    check_fits (leb 3 (length file)) 1 _
    (check_fits (eqb (get_or file 0 0) 0x6C && eqb (get_or file 1 0) 0x1B) 2 _
    (check_fits (leb (get_or file 2 0) 1) 3 _
    (check_fits (leb (file_length (items (is_mode1 file) iids sids) (blocks (is_mode1 file) iids sids)) (2 ^ 64 - 1)) 4 _
    (check_fits (eqb (length file) (file_length (items (is_mode1 file) iids sids) (blocks (is_mode1 file) iids sids))) 2 later f))))

pub joined_fits :
    (f : Format) (file : List ℕ) (iids sids : ℕ) (flag : Bool) (iid_list sid_list : List ℤ) (order : Bool) (val stats : List Float) →
    length sid_list < 2 ^ 63 → Fits (joined_answer f file iids sids flag iid_list sid_list order val stats)
unfolding joined_answer joined_checks
joined_fits f file iids sids flag iid_list sid_list order val stats h =
    count_fits iids _
    (λ _. count_fits sids _
    (λ _. check_fits (eqb (length iid_list * length sid_list) (length val)) 15 _
    (check_fits (eqb (stats_per_marker * length sid_list) (length stats)) 17 _
    (file_fits file iids sids _
    (lists_fit iids sids iid_list sid_list _ (lowest_fits f order (length iid_list) (length sid_list) (read_nan f file iids sids flag iid_list sid_list order val stats) false stats h))))))
