-- Demand 3. The comments quote document 01, "Words of demand 3". f64 is binary64. For values of a format "alike" is ≡, by `alike_is_same` and
-- `alike_buffers_same` of Alike: 2 and 3 say it so, with one `val` and one `stats` for both sides, and 4 says it in 01's word.
use mathlib.Core.Path.{◌≡◌, sym, ap, subst, ◌∙◌}
use mathlib.Core.Bool.{Bool, true}
use mathlib.Core.List.{List, []}
use Prim.Native.Nat.{ℕ, ◌-◌, ◌*◌, ◌^◌, ◌<◌, ◌≤◌}
use native.Mathlib.Omega.{arith}
use lib.IntN.{ℤ}
use lib.ListN.{length}
use lib.Ieee.{Float, binary64}
use Rattle.answer.specs.Answer.{done, is_done}
use Rattle.blocks.specs.Block.{file_length}
use Rattle.bed_file.specs.File.{accept_answer}
use Rattle.bed_read.specs.Reading.{file_order, read_answer}
use Rattle.canonical.specs.Canonical.{canonical_answer, canonical_buffer}
use Rattle.statistics.specs.Calls.{FewEnough}
use Rattle.standardise.specs.Standardised.{value}
use Rattle.read_standardised.specs.Ways.{Way, answers_of, values_left, stats_left}
use Rattle.demands.specs.Demand.{IsAccepted, CallsAgree, GoodList, meant, NamesEachOnce, RightLengths}
use Rattle.demands.specs.Alike.{Alike, AlikeBuffers, OfFormat}
use Rattle.demands.proofs.ReadBackLaws.{order_length, order_good}
use Rattle.canonical.proofs.Theorems.{canonical_left, canonical_again, canonical_equal}
use Rattle.demands.proofs.Alike.{same_is_alike, same_buffers_alike, alike_buffers_same}
use Rattle.demands.proofs.SumLaws.{names_length, meant_below}
use Rattle.demands.proofs.LengthLaws.{values_length}
use Rattle.demands.proofs.Agree.{agree_answers, agree_values, agree_stats}
use Rattle.demands.proofs.SideLaws.{reads, lists_answers, lists_values, lists_stats}

-- ---- 1. canonical files. "Its canonical file is the bytes that the canonical call leaves in a packed buffer of the right length"
module _ (file : List ℕ) (iids sids : ℕ)
    -- "the two counts for which the files are accepted"
    (acc : IsAccepted file iids sids)
    -- 4 for the length to be written finds nothing: "A mode 0 file may meet that last 4"
    (fits : file_length iids sids ≤ 2 ^ 64 - 1)
    -- packed buffers "of the right length"
    (out : List ℕ) (l : length out ≡ file_length iids sids) where
  d : is_done (accept_answer file iids sids) ≡ true
  d = ap is_done acc

  -- the canonical call refuses nothing
  pub canonical_is_done : canonical_answer file iids sids (length out) ≡ done []
  canonical_is_done = (canonical_left file iids sids d fits out l).0

  module _ (out' : List ℕ) (l' : length out' ≡ file_length iids sids) where
    -- "that file is accepted for the same counts"
    pub canonical_is_accepted : IsAccepted (canonical_buffer file iids sids out) iids sids
    canonical_is_accepted = (canonical_again file iids sids d fits out out' l l').0

    -- made canonical again it is itself
    pub canonical_is_itself : canonical_buffer (canonical_buffer file iids sids out) iids sids out' ≡ canonical_buffer file iids sids out
    canonical_is_itself = (canonical_again file iids sids d fits out out' l l').2

    module _ (other : List ℕ) (acc' : IsAccepted other iids sids) where
      d' : is_done (accept_answer other iids sids) ≡ true
      d' = ap is_done acc'

      -- "two files' calls agree if these codes are equal": then the canonical files are equal
      pub calls_to_canonical : CallsAgree file other iids sids → canonical_buffer file iids sids out ≡ canonical_buffer other iids sids out'
      calls_to_canonical = (canonical_equal file other iids sids d d' fits out out' l l').1

      -- and only then
      pub canonical_to_calls : canonical_buffer file iids sids out ≡ canonical_buffer other iids sids out' → CallsAgree file other iids sids
      canonical_to_calls = (canonical_equal file other iids sids d d' fits out out' l l').0

-- ---- 2. "two sides that differ only in the file"
module _ (file other : List ℕ) (iids sids : ℕ)
    -- "the two counts for which the files are accepted"
    (acc : IsAccepted file iids sids) (acc' : IsAccepted other iids sids)
    -- equal canonical files: what the canonical call leaves in packed buffers of the right length
    (fits : file_length iids sids ≤ 2 ^ 64 - 1) (out out' : List ℕ) (l : length out ≡ file_length iids sids) (l' : length out' ≡ file_length iids sids)
    (same : canonical_buffer file iids sids out ≡ canonical_buffer other iids sids out')
    -- both flags; good lists; "with the same matrix order"; "buffers .. of the lengths that 15 and 17 want"; both ways, each with its choices
    (flag : Bool) (iid_list sid_list : List ℤ) (gi : GoodList iids iid_list) (gs : GoodList sids sid_list) (order : Bool)
    (val stats : List Float) (len : RightLengths iid_list sid_list val stats) (way : Way) where
  agree : CallsAgree file other iids sids
  agree = canonical_to_calls file iids sids acc fits out l out' l' other acc' same

  -- "Afterwards every place of the statistics buffer is alike"
  pub files_same_stats : stats_left binary64 file iids sids flag iid_list sid_list order val stats way ≡ stats_left binary64 other iids sids flag iid_list sid_list order val stats way
  files_same_stats = agree_stats file other iids sids acc acc' agree iid_list sid_list binary64 flag order val stats way

  -- "and the refusals are equal, with what they carry, or neither side refuses"
  pub files_same_answers : answers_of binary64 file iids sids flag iid_list sid_list order val stats way ≡ answers_of binary64 other iids sids flag iid_list sid_list order val stats way
  files_same_answers = agree_answers file other iids sids acc acc' agree iid_list sid_list binary64 flag order val stats way

  -- "Where the files differ every value is alike."
  pub files_same_values : values_left binary64 file iids sids flag iid_list sid_list order val stats way ≡ values_left binary64 other iids sids flag iid_list sid_list order val stats way
  files_same_values = agree_values file other iids sids acc acc' agree iid_list sid_list binary64 flag order val stats way

  -- the reading itself is done
  pub files_read : read_answer file iids sids iid_list sid_list (length val) ≡ done []
  files_read = reads binary64 file iids sids flag iid_list sid_list order val stats acc gi gs len

-- ---- 3. "or only in the animal list, one of them then reading in file order"
module _ (file : List ℕ) (iids sids : ℕ)
    (acc : IsAccepted file iids sids)
    -- at most 1,000,000,000 animals
    (few : iids ≤ 1000000000)
    (flag : Bool) (iid_list sid_list : List ℤ)
    -- "A good list names each animal once"
    (names : NamesEachOnce iids iid_list) (gs : GoodList sids sid_list) (order : Bool)
    (val stats : List Float) (len : RightLengths iid_list sid_list val stats) (way : Way) where
  enough : FewEnough binary64 iids
  enough = omega arith

  -- "Afterwards every place of the statistics buffer is alike"
  pub lists_same_stats : stats_left binary64 file iids sids flag iid_list sid_list order val stats way ≡ stats_left binary64 file iids sids flag (file_order iids) sid_list order val stats way
  lists_same_stats = lists_stats binary64 file iids sids flag iid_list sid_list order val stats acc names gs len enough way

  -- "and the refusals are equal, with what they carry, or neither side refuses"
  pub lists_same_answers : answers_of binary64 file iids sids flag iid_list sid_list order val stats way ≡ answers_of binary64 file iids sids flag (file_order iids) sid_list order val stats way
  lists_same_answers = lists_answers binary64 file iids sids flag iid_list sid_list order val stats acc names gs len enough way

  -- "the value at place k of the animal list and place m of the marker list is alike to the one that file order gives, at the same m, for the
  -- animal that entry k means"; "All this holds at 13 too.": nothing is asked of the answers
  pub lists_moved_values : (k m : ℕ) → k < length iid_list → m < length sid_list
      → value order (length iid_list) (length sid_list) (values_left binary64 file iids sids flag iid_list sid_list order val stats way) k m
      ≡ value order (length (file_order iids)) (length sid_list) (values_left binary64 file iids sids flag (file_order iids) sid_list order val stats way)
      (meant iids iid_list k) m
  lists_moved_values = lists_values binary64 file iids sids flag iid_list sid_list order val stats acc names gs len enough way

  -- the reading itself is done
  pub lists_read : read_answer file iids sids iid_list sid_list (length val) ≡ done []
  lists_read = reads binary64 file iids sids flag iid_list sid_list order val stats acc names.good_list gs len

  -- every place named is inside its buffer
  pub lists_inside : (k : ℕ) → k < length iid_list
      → (length (values_left binary64 file iids sids flag iid_list sid_list order val stats way) ≡ length iid_list * length sid_list)
      × (length (values_left binary64 file iids sids flag (file_order iids) sid_list order val stats way) ≡ length (file_order iids) * length sid_list)
      × (meant iids iid_list k < length (file_order iids))
  lists_inside k h = (
    values_length binary64 file iids sids flag iid_list sid_list order val stats acc names.good_list gs len way,
    values_length binary64 file iids sids flag (file_order iids) sid_list order val stats acc (order_good iids) gs in_file_order way,
    subst (λ (n : ℕ). meant iids iid_list k < n) (sym (order_length iids)) (meant_below iids iid_list names k h),
  )
    where
      in_file_order : RightLengths (file_order iids) sid_list val stats
      in_file_order = record {
        for_15 = ap (λ (n : ℕ). n * length sid_list) (order_length iids ∙ sym (names_length iids iid_list names)) ∙ len.for_15;
        for_17 = len.for_17;
      }

-- ---- 4. alike. "They start from lent buffers alike place by place": each side has its own
module _ (val val' stats stats' : List Float)
    (fv : OfFormat binary64 val) (fv' : OfFormat binary64 val') (fs : OfFormat binary64 stats) (fs' : OfFormat binary64 stats')
    (av : AlikeBuffers binary64 val val') (as' : AlikeBuffers binary64 stats stats') where
  val_same : val ≡ val'
  val_same = (alike_buffers_same binary64 val val' fv fv').0 av

  stats_same : stats ≡ stats'
  stats_same = (alike_buffers_same binary64 stats stats' fs fs').0 as'

  -- "two sides that differ only in the file"
  module _ (file other : List ℕ) (iids sids : ℕ) (acc : IsAccepted file iids sids) (acc' : IsAccepted other iids sids)
      (fits : file_length iids sids ≤ 2 ^ 64 - 1) (out out' : List ℕ) (l : length out ≡ file_length iids sids) (l' : length out' ≡ file_length iids sids)
      (same : canonical_buffer file iids sids out ≡ canonical_buffer other iids sids out')
      (flag : Bool) (iid_list sid_list : List ℤ) (gi : GoodList iids iid_list) (gs : GoodList sids sid_list) (order : Bool)
      (len : RightLengths iid_list sid_list val stats) (way : Way) where
    -- "Afterwards every place of the statistics buffer is alike"
    pub files_alike_stats : AlikeBuffers binary64 (stats_left binary64 file iids sids flag iid_list sid_list order val stats way) (stats_left binary64 other iids sids flag iid_list sid_list order val' stats' way)
    files_alike_stats =
        same_buffers_alike binary64 _ _
        (files_same_stats file other iids sids acc acc' fits out out' l l' same flag iid_list sid_list gi gs order val stats len way
        ∙ (λ i. stats_left binary64 other iids sids flag iid_list sid_list order (val_same i) (stats_same i) way))

    -- "and the refusals are equal, with what they carry, or neither side refuses"
    pub files_equal_answers : answers_of binary64 file iids sids flag iid_list sid_list order val stats way ≡ answers_of binary64 other iids sids flag iid_list sid_list order val' stats' way
    files_equal_answers =
        files_same_answers file other iids sids acc acc' fits out out' l l' same flag iid_list sid_list gi gs order val stats len way
        ∙ (λ i. answers_of binary64 other iids sids flag iid_list sid_list order (val_same i) (stats_same i) way)

    -- "Where the files differ every value is alike."
    pub files_alike_values : AlikeBuffers binary64 (values_left binary64 file iids sids flag iid_list sid_list order val stats way) (values_left binary64 other iids sids flag iid_list sid_list order val' stats' way)
    files_alike_values =
        same_buffers_alike binary64 _ _
        (files_same_values file other iids sids acc acc' fits out out' l l' same flag iid_list sid_list gi gs order val stats len way
        ∙ (λ i. values_left binary64 other iids sids flag iid_list sid_list order (val_same i) (stats_same i) way))

  -- "or only in the animal list, one of them then reading in file order"
  module _ (file : List ℕ) (iids sids : ℕ) (acc : IsAccepted file iids sids) (few : iids ≤ 1000000000)
      (flag : Bool) (iid_list sid_list : List ℤ) (names : NamesEachOnce iids iid_list) (gs : GoodList sids sid_list) (order : Bool)
      (len : RightLengths iid_list sid_list val stats) (way : Way) where
    pub lists_alike_stats : AlikeBuffers binary64 (stats_left binary64 file iids sids flag iid_list sid_list order val stats way) (stats_left binary64 file iids sids flag (file_order iids) sid_list order val' stats' way)
    lists_alike_stats =
        same_buffers_alike binary64 _ _
        (lists_same_stats file iids sids acc few flag iid_list sid_list names gs order val stats len way
        ∙ (λ i. stats_left binary64 file iids sids flag (file_order iids) sid_list order (val_same i) (stats_same i) way))

    pub lists_equal_answers : answers_of binary64 file iids sids flag iid_list sid_list order val stats way ≡ answers_of binary64 file iids sids flag (file_order iids) sid_list order val' stats' way
    lists_equal_answers =
        lists_same_answers file iids sids acc few flag iid_list sid_list names gs order val stats len way
        ∙ (λ i. answers_of binary64 file iids sids flag (file_order iids) sid_list order (val_same i) (stats_same i) way)

    -- "the value at place k of the animal list and place m of the marker list is alike to the one that file order gives, at the same m, for the
    -- animal that entry k means"
    pub lists_alike_values : (k m : ℕ) → k < length iid_list → m < length sid_list
        → Alike binary64 (value order (length iid_list) (length sid_list) (values_left binary64 file iids sids flag iid_list sid_list order val stats way) k m)
        (value order (length (file_order iids)) (length sid_list) (values_left binary64 file iids sids flag (file_order iids) sid_list order val' stats' way) (meant iids iid_list k) m)
    lists_alike_values k m hk hm =
        same_is_alike binary64 _ _
        (lists_moved_values file iids sids acc few flag iid_list sid_list names gs order val stats len way k m hk hm
        ∙ (λ i. value order (length (file_order iids)) (length sid_list) (values_left binary64 file iids sids flag (file_order iids) sid_list order (val_same i) (stats_same i) way) (meant iids iid_list k) m))
