-- Counts: sums of them, that they add up, and that they are those of every animal's call.
use mathlib.Core.Path.{◌≡◌, refl, sym, ap, subst, ◌∙◌}
use mathlib.Core.Bool.{Bool, cond}
use mathlib.Core.List.{List, [], ◌∷◌, ◌++◌, flat_map}
use Rattle.std.specs.Prelude.{Option, Some, None}
use Prim.Native.Nat.{ℕ, zero, suc, ◌+◌, ◌*◌, ◌<◌}
use native.Mathlib.Nat.{add_assoc, zero-add, add-zero, zero-mul}
use native.Mathlib.Omega.{arith}
use borrow.Author.Tests.{eqb-true}
use lib.Dec.{eqb}
use lib.IntN.{ℤ, pos}
use lib.ListN.{get_or}
use Rattle.answer.specs.Answer.{Answer, done, refused, is_done, if_done}
use Rattle.answer.specs.Lists.{tabulate, how_many}
use Rattle.answer.proofs.AnswerLaws.{new_if_done}
use Rattle.answer.proofs.HowMany.{many_ext}
use Rattle.answer.proofs.Tabulate.{length_tabulate, get_d_tabulate, tabulate_ext}
use Rattle.answer.proofs.Tests.{by_test}
use Rattle.entries.specs.Entry.{means}
use Rattle.codes.specs.Code.{copies}
use Rattle.calls.specs.Calls.{call_code}
use Rattle.bed_read.specs.Reading.{file_order}
use Rattle.call_counts.specs.Counts.{same_copies, code_named, calls_with}
use Rattle.call_counts.proofs.Theorems.{file_order_adds_up}
use Rattle.rates.specs.Input.{InputRecord}
use Rattle.rates.specs.Report.{Counts, marker_counts, no_calls, plus, totals, printed_markers, record_counts}
use Rattle.rates.specs.Words.{calls_in, calls_read}

-- ---- sums of counts
pub plus_none : (c : Counts) → plus no_calls c ≡ c
unfolding plus
plus_none c = λ i. record { zero = zero-add c.zero i; one = zero-add c.one i; two = zero-add c.two i; missing = zero-add c.missing i }

pub none_plus : (c : Counts) → plus c no_calls ≡ c
unfolding plus
none_plus c = λ i. record { zero = add-zero c.zero i; one = add-zero c.one i; two = add-zero c.two i; missing = add-zero c.missing i }

pub plus_assoc : (a b c : Counts) → plus (plus a b) c ≡ plus a (plus b c)
unfolding plus
plus_assoc a b c =
    λ i. record {
      zero = add_assoc a.zero b.zero c.zero i;
      one = add_assoc a.one b.one c.one i;
      two = add_assoc a.two b.two c.two i;
      missing = add_assoc a.missing b.missing c.missing i;
    }

pub totals_append : (xs ys : List Counts) → totals (xs ++ ys) ≡ plus (totals xs) (totals ys)
unfolding totals
totals_append [] ys = sym (plus_none (totals ys))
totals_append (x ∷ xs) ys = ap (plus x) (totals_append xs ys) ∙ sym (plus_assoc x (totals xs) (totals ys))

-- ---- "The four counts of a marker add up to its animals"
pub marker_adds_up : (file : List ℕ) (iids sids m : ℕ) → calls_in (marker_counts file iids sids m) ≡ iids
unfolding marker_counts
marker_adds_up = file_order_adds_up

-- ---- "and the totals to all calls read"
plus_calls : (a b : Counts) → calls_in (plus a b) ≡ calls_in a + calls_in b
unfolding plus
plus_calls a b = omega arith

tabulated_calls : (n iids : ℕ) (f : ℕ → Counts) → ((m : ℕ) → calls_in (f m) ≡ iids) → calls_in (totals (tabulate n f)) ≡ n * iids
unfolding totals tabulate
tabulated_calls zero iids f e = omega arith
tabulated_calls (suc n) iids f e =
    plus_calls (f 0) (totals (tabulate n (λ m. f (suc m))))
    ∙ (let r = tabulated_calls n iids (λ m. f (suc m)) (λ m. e (suc m)) in let h = e 0 in omega arith)

printed_calls : (iids sids : ℕ) → printed_markers iids sids * iids ≡ iids * sids
unfolding printed_markers
printed_calls iids sids =
    by_test (eqb iids 0)
    (λ t. let z = eqb-true iids 0 t in ap (λ (b : Bool). cond b 0 sids * iids) t ∙ zero-mul iids ∙ sym (ap (λ (x : ℕ). x * sids) z ∙ zero-mul sids))
    (λ t. ap (λ (b : Bool). cond b 0 sids * iids) t ∙ omega arith)

record_calls :
    (file : List ℕ) (iids sids : ℕ) (a : Answer)
    → calls_in (totals (if_done a (tabulate (printed_markers iids sids) (marker_counts file iids sids)) [])) ≡ if_done a (iids * sids) 0
unfolding if_done totals
record_calls file iids sids (done vs) = tabulated_calls (printed_markers iids sids) iids _ (marker_adds_up file iids sids) ∙ printed_calls iids sids
record_calls file iids sids (refused n vs) = refl

pub totals_add_up : (rs : List InputRecord) → calls_in (totals (flat_map record_counts rs)) ≡ calls_read rs
unfolding flat_map calls_read record_counts totals
totals_add_up [] = refl
totals_add_up (r ∷ rs) =
    ap calls_in (totals_append (record_counts r) (flat_map record_counts rs))
    ∙ plus_calls (totals (record_counts r)) (totals (flat_map record_counts rs))
    ∙ (let a = record_calls r.file r.iids r.sids r.answer in let b = totals_add_up rs in omega arith)

-- ---- every animal's call is counted once
pub each_animal :
    (file : List ℕ) (iids sids m : ℕ) (c : Option ℕ)
    → calls_with file iids sids (file_order iids) m c ≡ how_many iids (λ a. same_copies c (copies (call_code file iids sids a m)))
unfolding calls_with code_named file_order means
each_animal file iids sids m c =
    ap (λ (n : ℕ). how_many n (λ k. same_copies c (copies (call_code file iids sids (means iids (get_or (tabulate iids pos) k (pos 0))) m)))) (length_tabulate iids pos)
    ∙ many_ext iids _ _ (λ a h. ap (λ (e : ℤ). same_copies c (copies (call_code file iids sids (means iids e) m))) (get_d_tabulate iids pos a (pos 0) h))

-- so two files whose calls agree at a marker have its counts alike, whatever their modes and pads
module _ (f g : List ℕ) (iids sids m : ℕ) (agree : (a : ℕ) → a < iids → call_code f iids sids a m ≡ call_code g iids sids a m) where
  same : (c : Option ℕ) → calls_with f iids sids (file_order iids) m c ≡ calls_with g iids sids (file_order iids) m c
  same c =
      each_animal f iids sids m c
      ∙ many_ext iids _ _ (λ a h. ap (λ (x : ℕ). same_copies c (copies x)) (agree a h))
      ∙ sym (each_animal g iids sids m c)

  pub agree_counts : marker_counts f iids sids m ≡ marker_counts g iids sids m
  unfolding marker_counts
  agree_counts = λ i. record { zero = same (Some 0) i; one = same (Some 1) i; two = same (Some 2) i; missing = same None i }

-- and so has every record of two accepted files whose calls agree
printed_below : (iids sids m : ℕ) → m < printed_markers iids sids → m < sids
unfolding printed_markers
printed_below iids sids m =
    by_test (eqb iids 0)
    (λ t. subst (λ (b : Bool). m < cond b 0 sids → m < sids) (sym t) (λ h. omega arith))
    (λ t. subst (λ (b : Bool). m < cond b 0 sids → m < sids) (sym t) (λ h. h))

module _ (r s : InputRecord) (vs ws : List ℤ) (dr : r.answer ≡ done vs) (ds : s.answer ≡ done ws) (i : r.iids ≡ s.iids) (j : r.sids ≡ s.sids)
    (agree : (a m : ℕ) → a < s.iids → m < s.sids → call_code r.file s.iids s.sids a m ≡ call_code s.file s.iids s.sids a m) where
  pub agree_records : record_counts r ≡ record_counts s
  unfolding record_counts
  agree_records =
      new_if_done r.answer _ [] (ap is_done dr)
      ∙ (λ k. tabulate (printed_markers (i k) (j k)) (marker_counts r.file (i k) (j k)))
      ∙ tabulate_ext (printed_markers s.iids s.sids) (marker_counts r.file s.iids s.sids) (marker_counts s.file s.iids s.sids)
      (λ m h. agree_counts r.file s.file s.iids s.sids m (λ a b. agree a m b (printed_below s.iids s.sids m h)))
      ∙ sym (new_if_done s.answer _ [] (ap is_done ds))
