-- Two sides that differ only in the animal list. Over the format.
use mathlib.Core.Path.{◌≡◌, refl, sym, ap, subst, ◌∙◌}
use mathlib.Core.Bool.{Bool, true, false}
use mathlib.Core.List.{List, [], ◌∷◌}
use mathlib.Core.Logic.{inr}
use Prim.Native.Nat.{ℕ, ◌*◌, ◌<◌}
use borrow.Author.Tests.{eq-eqb}
use lib.Dec.{eqb}
use lib.IntN.{ℤ, pos}
use lib.ListN.{length, get_or}
use lib.Ieee.{Float, nan, Format}
use Rattle.answer.specs.Answer.{Answer, done, is_done}
use Rattle.entries.specs.Entry.{means}
use Rattle.codes.specs.Value.{float, value_of}
use Rattle.bed_read.specs.Reading.{file_order, read_answer, read_code, values_read}
use Rattle.bed_read.proofs.BufferLaws.{read_length}
use Rattle.calls.specs.Calls.{call_code}
use Rattle.statistics.specs.Statistics.{stats_per_marker}
use Rattle.statistics.specs.Calls.{IsCall, FewEnough}
use Rattle.standardise.specs.Standardised.{value, lowest_refused, new_stats, new_values, standardise_answer, later_stats, later_values}
use Rattle.standardise.proofs.Theorems.{reordered_lowest, reordered_new_stats, reordered_new_values, reordered_same_answer, reordered_same_stats, reordered_moved_values}
use Rattle.read_standardised.specs.Joined.{read_nan}
use Rattle.read_standardised.specs.Ways.{Way, in_turn, joined_call, as_read, answers_of, values_left, stats_left}
use Rattle.demands.specs.Demand.{IsAccepted, GoodList, meant, NamesEachOnce, RightLengths}
use Rattle.demands.proofs.ReadBackLaws.{order_length, order_good, order_means}
use Rattle.read_standardised.proofs.JoinLaws.{as_read_is, answer_is, values_are, stats_are}
use Rattle.demands.proofs.SumLaws.{same_sums, names_length, meant_below}
use Rattle.read_standardised.proofs.CallsRead.{cell_read, call_read}
use Rattle.demands.proofs.ReadLaws.{read_done}

-- ---- a side whose file is accepted, whose lists are good, and whose buffers have the right lengths
module _ (f : Format) (file : List ℕ) (iids sids : ℕ) (flag : Bool) (il sl : List ℤ) (order : Bool) (val stats : List Float)
    (acc : IsAccepted file iids sids) (gi : GoodList iids il) (gs : GoodList sids sl) (len : RightLengths il sl val stats) where
  pub reads : read_answer file iids sids il sl (length val) ≡ done []
  reads = read_done file iids sids il sl acc gi gs (length val) len.for_15

  pub is_read : is_done (read_answer file iids sids il sl (length val)) ≡ true
  is_read = ap is_done reads

  pub right_17 : eqb (stats_per_marker * length sl) (length stats) ≡ true
  right_17 = eq-eqb (stats_per_marker * length sl) (length stats) len.for_17

  pub left_by_reading : as_read f file iids sids flag il sl order val stats ≡ values_read float flag nan order file iids sids il sl
  unfolding read_nan
  left_by_reading = as_read_is f file iids sids flag il sl order val stats is_read

-- ---- the animal lists differ: one names each animal once, the other is file order
module _ (f : Format) (file : List ℕ) (iids sids : ℕ) (flag : Bool) (il sl : List ℤ) (order : Bool) (val stats : List Float)
    (acc : IsAccepted file iids sids) (names : NamesEachOnce iids il) (gs : GoodList sids sl) (len : RightLengths il sl val stats)
    (few : FewEnough f iids) where
  il_long : length il ≡ iids
  il_long = names_length iids il names

  fo : List ℤ
  fo = file_order iids

  fo_long : length fo ≡ iids
  unfolding fo
  fo_long = order_length iids

  fo_good : GoodList iids fo
  unfolding fo
  fo_good = order_good iids

  fo_len : RightLengths fo sl val stats
  fo_len = record { for_15 = ap (λ (n : ℕ). n * length sl) (fo_long ∙ sym il_long) ∙ len.for_15; for_17 = len.for_17 }

  -- what each side reads
  here : List Float
  here = values_read float flag nan order file iids sids il sl

  there : List Float
  there = values_read float flag nan order file iids sids fo sl

  here_is : as_read f file iids sids flag il sl order val stats ≡ here
  unfolding here
  here_is = left_by_reading f file iids sids flag il sl order val stats acc names.good_list gs len

  there_is : as_read f file iids sids flag fo sl order val stats ≡ there
  unfolding there
  there_is = left_by_reading f file iids sids flag fo sl order val stats acc fo_good gs fo_len

  here_cell : (k m : ℕ) → k < iids → m < length sl
      → value order iids (length sl) here k m ≡ value_of float flag nan (call_code file iids sids (meant iids il k) (means sids (get_or sl m (pos 0))))
  unfolding here read_code meant
  here_cell k m hk hm = cell_read flag order file iids sids il sl iids (length sl) il_long refl k m hk hm

  there_cell : (i m : ℕ) → i < iids → m < length sl
      → value order iids (length sl) there i m ≡ value_of float flag nan (call_code file iids sids i (means sids (get_or sl m (pos 0))))
  unfolding there read_code meant fo
  there_cell i m hi hm =
      cell_read flag order file iids sids fo sl iids (length sl) fo_long refl i m hi hm
      ∙ ap (λ (a : ℕ). value_of float flag nan (call_code file iids sids a (means sids (get_or sl m (pos 0))))) (order_means iids i hi)

  there_call : (i m : ℕ) → i < iids → m < length sl → IsCall (value order iids (length sl) there i m)
  unfolding there
  there_call i m hi hm = call_read flag order file iids sids fo sl iids (length sl) fo_long refl i m hi hm

  below : (k : ℕ) → k < iids → meant iids il k < iids
  below k h = meant_below iids il names k (subst (λ (n : ℕ). k < n) (sym il_long) h)

  moved : (k m : ℕ) → k < iids → m < length sl → value order iids (length sl) here k m ≡ value order iids (length sl) there (meant iids il k) m
  moved k m hk hm = here_cell k m hk hm ∙ sym (there_cell (meant iids il k) m (below k hk) hm)

  same_length : length here ≡ length there
  unfolding here there
  same_length = read_length float flag nan order file iids sids il sl iids (length sl) il_long refl ∙ sym (read_length float flag nan order file iids sids fo sl iids (length sl) fo_long refl)

  -- ---- reading and then standardising
  module _ (use_stats : Bool) where
    answer_moved : standardise_answer f order (length il) (length sl) (as_read f file iids sids flag il sl order val stats) use_stats stats
        ≡ standardise_answer f order (length fo) (length sl) (as_read f file iids sids flag fo sl order val stats) use_stats stats
    answer_moved =
        ap (λ (n : ℕ). standardise_answer f order n (length sl) (as_read f file iids sids flag il sl order val stats) use_stats stats) il_long
        ∙ ap (λ (x : List Float). standardise_answer f order iids (length sl) x use_stats stats) here_is
        ∙ reordered_same_answer f order iids (length sl) there here use_stats stats (meant iids il) (same_sums iids il names) same_length moved (inr (few, there_call))
        ∙ ap (λ (x : List Float). standardise_answer f order iids (length sl) x use_stats stats) (sym there_is)
        ∙ ap (λ (n : ℕ). standardise_answer f order n (length sl) (as_read f file iids sids flag fo sl order val stats) use_stats stats) (sym fo_long)

    stats_moved : later_stats f order (length il) (length sl) (as_read f file iids sids flag il sl order val stats) use_stats stats
        ≡ later_stats f order (length fo) (length sl) (as_read f file iids sids flag fo sl order val stats) use_stats stats
    stats_moved =
        ap (λ (n : ℕ). later_stats f order n (length sl) (as_read f file iids sids flag il sl order val stats) use_stats stats) il_long
        ∙ ap (λ (x : List Float). later_stats f order iids (length sl) x use_stats stats) here_is
        ∙ reordered_same_stats f order iids (length sl) there here use_stats stats (meant iids il) (same_sums iids il names) same_length moved (inr (few, there_call))
        ∙ ap (λ (x : List Float). later_stats f order iids (length sl) x use_stats stats) (sym there_is)
        ∙ ap (λ (n : ℕ). later_stats f order n (length sl) (as_read f file iids sids flag fo sl order val stats) use_stats stats) (sym fo_long)

    value_moved : (apply : Bool) (k m : ℕ) → k < length il → m < length sl
        → value order (length il) (length sl) (later_values f order (length il) (length sl) (as_read f file iids sids flag il sl order val stats) use_stats stats apply) k m
        ≡ value order (length fo) (length sl) (later_values f order (length fo) (length sl) (as_read f file iids sids flag fo sl order val stats) use_stats stats apply) (meant iids il k) m
    value_moved apply k m hk hm =
        ap (λ (n : ℕ). value order n (length sl) (later_values f order n (length sl) (as_read f file iids sids flag il sl order val stats) use_stats stats apply) k m) il_long
        ∙ ap (λ (x : List Float). value order iids (length sl) (later_values f order iids (length sl) x use_stats stats apply) k m) here_is
        ∙ reordered_moved_values f order iids (length sl) there here use_stats stats (meant iids il) (same_sums iids il names) same_length moved (inr (few, there_call)) apply k m (subst (λ (n : ℕ). k < n) il_long hk) hm
        ∙ ap (λ (x : List Float). value order iids (length sl) (later_values f order iids (length sl) x use_stats stats apply) (meant iids il k) m) (sym there_is)
        ∙ ap (λ (n : ℕ). value order n (length sl) (later_values f order n (length sl) (as_read f file iids sids flag fo sl order val stats) use_stats stats apply) (meant iids il k) m) (sym fo_long)

  -- ---- the joined call, which checks no list's length for 18
  here_17 : eqb (stats_per_marker * length sl) (length stats) ≡ true
  here_17 = right_17 f file iids sids flag il sl order val stats acc names.good_list gs len

  here_read : is_done (read_answer file iids sids il sl (length val)) ≡ true
  here_read = is_read f file iids sids flag il sl order val stats acc names.good_list gs len

  there_read : is_done (read_answer file iids sids fo sl (length val)) ≡ true
  there_read = is_read f file iids sids flag fo sl order val stats acc fo_good gs fo_len

  -- ---- both ways
  pub lists_answers : (way : Way) → answers_of f file iids sids flag il sl order val stats way ≡ answers_of f file iids sids flag (file_order iids) sl order val stats way
  unfolding answers_of fo here there read_nan
  lists_answers (in_turn use_stats apply) =
      ap (λ (x : Answer). x ∷ standardise_answer f order (length il) (length sl) (as_read f file iids sids flag il sl order val stats) use_stats stats ∷ [])
      (reads f file iids sids flag il sl order val stats acc names.good_list gs len ∙ sym (reads f file iids sids flag fo sl order val stats acc fo_good gs fo_len))
      ∙ ap (λ (x : Answer). read_answer file iids sids fo sl (length val) ∷ x ∷ []) (answer_moved use_stats)
  lists_answers joined_call =
      ap (λ (x : Answer). x ∷ [])
      (answer_is f file iids sids flag il sl order val stats here_17 here_read
      ∙ ap (λ (n : ℕ). lowest_refused f order n (length sl) here false stats) il_long
      ∙ reordered_lowest f order iids (length sl) there here false stats (meant iids il) (same_sums iids il names) same_length moved (inr (few, there_call))
      ∙ ap (λ (n : ℕ). lowest_refused f order n (length sl) there false stats) (sym fo_long)
      ∙ sym (answer_is f file iids sids flag fo sl order val stats here_17 there_read))

  pub lists_stats : (way : Way) → stats_left f file iids sids flag il sl order val stats way ≡ stats_left f file iids sids flag (file_order iids) sl order val stats way
  unfolding stats_left fo here there read_nan
  lists_stats (in_turn use_stats apply) = stats_moved use_stats
  lists_stats joined_call =
      stats_are f file iids sids flag il sl order val stats here_17 here_read
      ∙ ap (λ (n : ℕ). new_stats f order n (length sl) here false stats) il_long
      ∙ reordered_new_stats f order iids (length sl) there here false stats (meant iids il) (same_sums iids il names) same_length moved (inr (few, there_call))
      ∙ ap (λ (n : ℕ). new_stats f order n (length sl) there false stats) (sym fo_long)
      ∙ sym (stats_are f file iids sids flag fo sl order val stats here_17 there_read)

  pub lists_values : (way : Way) (k m : ℕ) → k < length il → m < length sl
      → value order (length il) (length sl) (values_left f file iids sids flag il sl order val stats way) k m
      ≡ value order (length (file_order iids)) (length sl) (values_left f file iids sids flag (file_order iids) sl order val stats way) (meant iids il k) m
  unfolding values_left fo here there read_nan
  lists_values (in_turn use_stats apply) k m hk hm = value_moved use_stats apply k m hk hm
  lists_values joined_call k m hk hm =
      ap (λ (x : List Float). value order (length il) (length sl) x k m) (values_are f file iids sids flag il sl order val stats here_17 here_read)
      ∙ ap (λ (n : ℕ). value order n (length sl) (new_values f order n (length sl) here false stats true) k m) il_long
      ∙ reordered_new_values f order iids (length sl) there here false stats (meant iids il) (same_sums iids il names) same_length moved (inr (few, there_call)) true k m (subst (λ (n : ℕ). k < n) il_long hk) hm
      ∙ ap (λ (n : ℕ). value order n (length sl) (new_values f order n (length sl) there false stats true) (meant iids il k) m) (sym fo_long)
      ∙ ap (λ (x : List Float). value order (length fo) (length sl) x (meant iids il k) m) (sym (values_are f file iids sids flag fo sl order val stats here_17 there_read))
