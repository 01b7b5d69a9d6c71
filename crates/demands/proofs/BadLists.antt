-- "5 always means the animal list and 6 the marker list, in that order, in either mode": whichever refusal a reading or a joined call gives, and
-- which one it gives where a list is bad.
use mathlib.Core.Path.{◌≡◌, refl, sym, ap, subst, ◌∙◌}
use mathlib.Core.Bool.{Bool, true, false, cond}
use mathlib.Core.List.{List, [], ◌∷◌}
use Rattle.std.specs.Prelude.{Option, Some, None}
use Prim.Native.Nat.{ℕ, zero, suc, ◌*◌, ◌<◌, ◌≤◌}
use native.Mathlib.Omega.{arith}
use borrow.Author.Tests.{eq-eqb}
use lib.Dec.{eqb}
use lib.IntN.{ℤ, pos}
use lib.ListN.{length, get_or}
use lib.Ieee.{Float, Format}
use Rattle.answer.specs.Answer.{Answer, done, refused, check_entry, is_done, if_done}
use Rattle.entries.specs.Entry.{is_good, first_bad}
use Rattle.answer.proofs.AnswerLaws.{check_passes, entry_passes, entry_refuses, number, check_other, count_other, entry_other}
use Rattle.bed_read.specs.Reading.{check_lists, read_answer}
use Rattle.bed_file.proofs.FileLaws.{file_other}
use Rattle.bed_read.proofs.ReadLaws.{read_accepted}
use Rattle.statistics.specs.declared.MarkerStats.{MarkerStats}
use Rattle.statistics.specs.declared.MarkerError.{MarkerError}
use Rattle.statistics.specs.declared.MarkerError.TheVariants.{NoIndividuals, IllegalSnpMean}
use Rattle.std.specs.Prelude.{Result, Ok, Err}
use Rattle.statistics.specs.Statistics.{stats_per_marker}
use Rattle.standardise.specs.Standardised.{marker_answer, markers_answer, found, lowest_refused}
use Rattle.read_standardised.specs.Joined.{joined_checks, read_nan, joined_answer}
use Rattle.read_standardised.proofs.JoinLaws.{joined_accepted, by_lists}
use Rattle.demands.specs.Demand.{IsAccepted, GoodList, RightLengths, CarriesFirstBad}

-- ---- the first bad entry, by its place
good_from : (count : ℕ) (e : ℤ) (es : List ℤ) (n : ℕ) → is_good count e ≡ true
    → ((k : ℕ) → k < n → is_good count (get_or es k (pos 0)) ≡ true) → (k : ℕ) → k < suc n → is_good count (get_or (e ∷ es) k (pos 0)) ≡ true
good_from count e es n g h zero l = g
good_from count e es n g h (suc k) l = h k (omega arith)

-- what is in an option that holds something
held : ℤ → Option ℤ → ℤ
held d None = d
held d (Some e) = e

first_bad_at : (count : ℕ) (list : List ℤ) (e : ℤ) → first_bad count list ≡ Some e → CarriesFirstBad count list (e ∷ [])
unfolding first_bad held
first_bad_at count [] e q = absurd (let r : ◌≡◌ {A = ℕ} 0 1 = cc in omega arith)
first_bad_at count (x ∷ xs) e q = go (is_good count x) refl (first_bad_at count xs e) q
  where
    go : (b : Bool) → is_good count x ≡ b → (first_bad count xs ≡ Some e → CarriesFirstBad count xs (e ∷ [])) → cond b (first_bad count xs) (Some x) ≡ Some e
        → CarriesFirstBad count (x ∷ xs) (e ∷ [])
    go true g rest q =
        let r = rest q in
        record {
          place = suc r.place;
          in_list = let h = r.in_list in omega arith;
          is_bad = r.is_bad;
          good_before = good_from count x xs r.place g r.good_before;
          is_carried = r.is_carried;
        }
    go false g rest q =
        record {
          place = 0;
          in_list = omega arith;
          is_bad = g;
          good_before = λ k h. absurd (omega arith);
          is_carried = ap (λ (o : Option ℤ). held e o ∷ []) (sym q);
        }

carried : Answer → List ℤ
carried (done vs) = vs
carried (refused n vs) = vs

-- an entry's check that refuses by its own number
entry_own : (count : ℕ) (list : List ℤ) (n : ℕ) (later : Answer) (vs : List ℤ)
    → (later ≡ refused n vs → ⊥) → check_entry (first_bad count list) n later ≡ refused n vs → CarriesFirstBad count list vs
unfolding check_entry carried
entry_own count list n later vs o e = go (first_bad count list) refl e
  where
    go : (b : Option ℤ) → first_bad count list ≡ b → check_entry b n later ≡ refused n vs → CarriesFirstBad count list vs
    go None q e = absurd (o e)
    go (Some z) q e = subst (CarriesFirstBad count list) (ap carried e) (first_bad_at count list z q)

-- refused by 13 or more, if at all
abbrev High : Answer → Type 0
High a = (n : ℕ) (vs : List ℤ) → a ≡ refused n vs → 13 ≤ n

done_high : High (done [])
done_high n vs e = absurd (let q : ◌≡◌ {A = ℕ} 0 1 = cc in omega arith)

-- ---- the lists' checks
module _ (iids sids : ℕ) (il sl : List ℤ) (later : Answer) (high : High later) (vs : List ℤ) where
  lists_by_5 : check_lists iids sids il sl later ≡ refused 5 vs → CarriesFirstBad iids il vs
  unfolding check_lists
  lists_by_5 e =
      entry_own iids il 5 (check_entry (first_bad sids sl) 6 later) vs
      (λ q. let l = entry_other (first_bad sids sl) 6 later 5 vs (λ r. omega (arith, r)) q in let h = high 5 vs l.1 in omega arith) e

  lists_by_6 : check_lists iids sids il sl later ≡ refused 6 vs → (GoodList iids il) × (CarriesFirstBad sids sl vs)
  unfolding check_lists
  lists_by_6 e =
      let a = entry_other (first_bad iids il) 5 (check_entry (first_bad sids sl) 6 later) 6 vs (λ r. omega (arith, r)) e in
      (a.0, entry_own sids sl 6 later vs (λ q. let h = high 6 vs q in omega arith) a.1)

-- ---- "5 always means the animal list and 6 the marker list": reading, whatever the file, the counts and the buffer's length
module _ (file : List ℕ) (iids sids : ℕ) (iid_list sid_list : List ℤ) (val_length : ℕ) (vs : List ℤ) where
  read_by_lists : (m : ℕ) → 4 < m → m < 15 → read_answer file iids sids iid_list sid_list val_length ≡ refused m vs → check_lists iids sids iid_list sid_list (done []) ≡ refused m vs
  unfolding read_answer
  read_by_lists m l h e =
      file_other file iids sids (check_lists iids sids iid_list sid_list (done [])) m vs l
      (check_other (eqb (length iid_list * length sid_list) val_length) 15 _ m vs (λ q. omega (arith, q))
      (count_other sids _ m vs (λ q. omega (arith, q)) (count_other iids _ m vs (λ q. omega (arith, q)) e)))

  pub read_by_5 : read_answer file iids sids iid_list sid_list val_length ≡ refused 5 vs → CarriesFirstBad iids iid_list vs
  read_by_5 e = lists_by_5 iids sids iid_list sid_list (done []) done_high vs (read_by_lists 5 (omega arith) (omega arith) e)

  -- "in that order": no animal entry is bad
  pub read_by_6 : read_answer file iids sids iid_list sid_list val_length ≡ refused 6 vs → (GoodList iids iid_list) × (CarriesFirstBad sids sid_list vs)
  read_by_6 e = lists_by_6 iids sids iid_list sid_list (done []) done_high vs (read_by_lists 6 (omega arith) (omega arith) e)

-- a marker is refused by 13 or 14
if_high : (a b : Answer) → High a → High b → High (if_done a b a)
unfolding if_done
if_high (done vs) b ha hb = hb
if_high (refused n vs) b ha hb = ha

marker_high : (m : ℕ) (x : Result MarkerStats MarkerError) → High (marker_answer m x)
unfolding marker_answer number
marker_high m (Ok s) n vs e = done_high n vs e
marker_high m (Err NoIndividuals) n vs e = let q : 13 ≡ n = ap number e in omega arith
marker_high m (Err IllegalSnpMean) n vs e = let q : 14 ≡ n = ap number e in omega arith

markers_high : (stats : ℕ → Result MarkerStats MarkerError) (n : ℕ) → High (markers_answer stats n)
unfolding markers_answer
markers_high stats zero = done_high
markers_high stats (suc n) = if_high (markers_answer stats n) (marker_answer n (stats n)) (markers_high stats n) (marker_high n (stats n))

-- the joined call
module _ (f : Format) (file : List ℕ) (iids sids : ℕ) (flag : Bool) (iid_list sid_list : List ℤ) (order : Bool) (val stats : List Float) (vs : List ℤ) where
  abbrev lowest : Answer
  lowest = lowest_refused f order (length iid_list) (length sid_list) (read_nan f file iids sids flag iid_list sid_list order val stats) false stats

  lowest_high : High lowest
  unfolding lowest_refused
  lowest_high = markers_high (found f order (length iid_list) (length sid_list) (read_nan f file iids sids flag iid_list sid_list order val stats) false stats) (length sid_list)

  joined_by_lists : (m : ℕ) → 4 < m → m < 15 → joined_answer f file iids sids flag iid_list sid_list order val stats ≡ refused m vs → check_lists iids sids iid_list sid_list lowest ≡ refused m vs
  unfolding joined_answer
  joined_by_lists m l h = by_lists file iids sids iid_list sid_list (length val) (length stats) lowest m vs h l

  pub joined_by_5 : joined_answer f file iids sids flag iid_list sid_list order val stats ≡ refused 5 vs → CarriesFirstBad iids iid_list vs
  joined_by_5 e = lists_by_5 iids sids iid_list sid_list lowest lowest_high vs (joined_by_lists 5 (omega arith) (omega arith) e)

  pub joined_by_6 : joined_answer f file iids sids flag iid_list sid_list order val stats ≡ refused 6 vs → (GoodList iids iid_list) × (CarriesFirstBad sids sid_list vs)
  joined_by_6 e = lists_by_6 iids sids iid_list sid_list lowest lowest_high vs (joined_by_lists 6 (omega arith) (omega arith) e)

-- ---- and where a list is bad: an accepted file, in either mode
module _ (file : List ℕ) (iids sids : ℕ) (acc : IsAccepted file iids sids) (iid_list sid_list : List ℤ) (e : ℤ) where
  -- into a value buffer of the length that 15 wants
  module _ (val_length : ℕ) (for_15 : length iid_list * length sid_list ≡ val_length) where
    read_left : read_answer file iids sids iid_list sid_list val_length ≡ check_lists iids sids iid_list sid_list (done [])
    read_left =
        read_accepted file iids sids iid_list sid_list val_length (ap is_done acc)
        ∙ check_passes (eqb (length iid_list * length sid_list) val_length) 15 _ (eq-eqb (length iid_list * length sid_list) val_length for_15)

    pub bad_animal : first_bad iids iid_list ≡ Some e → read_answer file iids sids iid_list sid_list val_length ≡ refused 5 (e ∷ [])
    unfolding check_lists
    bad_animal b = read_left ∙ entry_refuses (first_bad iids iid_list) 5 _ e b

    pub bad_marker : GoodList iids iid_list → first_bad sids sid_list ≡ Some e → read_answer file iids sids iid_list sid_list val_length ≡ refused 6 (e ∷ [])
    unfolding check_lists
    bad_marker g b = read_left ∙ entry_passes (first_bad iids iid_list) 5 _ g ∙ entry_refuses (first_bad sids sid_list) 6 _ e b

  -- the joined call, with buffers of the lengths that 15 and 17 want
  module _ (f : Format) (flag order : Bool) (val stats : List Float) (len : RightLengths iid_list sid_list val stats) where
    joined_left : (later : Answer) → joined_checks file iids sids iid_list sid_list (length val) (length stats) later ≡ check_lists iids sids iid_list sid_list later
    joined_left later =
        joined_accepted file iids sids iid_list sid_list (length val) (length stats) (ap is_done acc) later
        ∙ check_passes (eqb (length iid_list * length sid_list) (length val)) 15 _ (eq-eqb (length iid_list * length sid_list) (length val) len.for_15)
        ∙ check_passes (eqb (stats_per_marker * length sid_list) (length stats)) 17 _ (eq-eqb (stats_per_marker * length sid_list) (length stats) len.for_17)

    pub joined_bad_animal : first_bad iids iid_list ≡ Some e → joined_answer f file iids sids flag iid_list sid_list order val stats ≡ refused 5 (e ∷ [])
    unfolding joined_answer check_lists
    joined_bad_animal b = joined_left _ ∙ entry_refuses (first_bad iids iid_list) 5 _ e b

    pub joined_bad_marker : GoodList iids iid_list → first_bad sids sid_list ≡ Some e → joined_answer f file iids sids flag iid_list sid_list order val stats ≡ refused 6 (e ∷ [])
    unfolding joined_answer check_lists
    joined_bad_marker g b = joined_left _ ∙ entry_passes (first_bad iids iid_list) 5 _ g ∙ entry_refuses (first_bad sids sid_list) 6 _ e b
