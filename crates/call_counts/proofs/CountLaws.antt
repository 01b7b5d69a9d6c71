-- Laws of the counts so far, over plain numbers and lists.
use mathlib.Core.Path.{◌≡◌, sym, ap, subst, ◌∙◌}
use mathlib.Core.Bool.{true, false}
use mathlib.Core.List.{List}
use Prim.Native.Nat.{ℕ, ◌+◌, ◌-◌, ◌*◌, ◌/◌, ◌%◌, ◌^◌, ◌<◌, ◌≤◌}
use native.Mathlib.Omega.{arith}
use lib.IntN.{ℤ, pos}
use lib.ListN.{length, get_or}
use Rattle.answer.specs.Lists.{how_many}
use Rattle.answer.specs.Answer.{is_done}
use Rattle.answer.proofs.AnswerLaws.{new_if_done, old_if_not}
use Rattle.answer.proofs.Tabulate.{is_tabulate}
use Rattle.answer.proofs.Tests.{by_lt}
use Rattle.entries.specs.Entry.{means}
use Rattle.codes.specs.Code.{copies}
use Rattle.calls.specs.Calls.{call_code}
use Rattle.call_counts.specs.Counts.{same_copies, code_named, calls_with, counted, counts_answer, new_counts, later_counts}
use Rattle.call_counts.specs.Private.{tally_named, in_tally, Added, count_at, CountedTo}
use Rattle.answer.proofs.HowMany.{many_most, many_add}
use Rattle.call_counts.proofs.TallyLaws.{in_tally_law}

-- ---- the counts buffer, marker by marker, over any counts g n p of n entries at place p
-- the first m markers are counted up to the entry `until`, and the others up to `from`
pub record RunTo (g : ℕ → ℕ → ℕ) (size from until m : ℕ) (counts : List ℕ) : Type 0 where
  pub long : length counts ≡ size
  pub counted_to : (p : ℕ) → p < 4 * m → get_or counts p 0 ≡ g until p
  pub waiting : (p : ℕ) → 4 * m ≤ p → p < size → get_or counts p 0 ≡ g from p

module _ (g : ℕ → ℕ → ℕ) (size from until : ℕ) where
  pub run_more :
      (m packed : ℕ) (old new : List ℕ) → RunTo g size from until m old → 4 * m + 4 ≤ size → Added old (4 * m) packed new
      → ((j : ℕ) → j < 4 → g until (4 * m + j) ≡ g from (4 * m + j) + in_tally packed j) → RunTo g size from until (m + 1) new
  run_more m packed old new r h a f =
      record {
        long = a.long ∙ r.long;
        counted_to = λ p b. by_lt p (4 * m) (λ c. a.before_same p c ∙ r.counted_to p c) (here p b);
        waiting = λ p b c. a.after_same p (omega arith) ∙ r.waiting p (omega arith) c;
      }
    where
      place : (j : ℕ) → j < 4 → get_or new (4 * m + j) 0 ≡ g until (4 * m + j)
      place j b =
          let w = r.waiting (4 * m + j) (omega arith) (omega arith) in
          let t = a.there j b in
          let u = f j b in
          omega arith

      here : (p : ℕ) → p < 4 * (m + 1) → 4 * m ≤ p → get_or new p 0 ≡ g until p
      here p b c =
          let q : 4 * m + (p - 4 * m) ≡ p = omega arith in
          subst (λ (x : ℕ). get_or new x 0 ≡ g until x) q (place (p - 4 * m) (omega arith))

-- ---- what belongs there
module _ (file : List ℕ) (iids sids : ℕ) (il sl : List ℤ) where
  pub named : (a k m x : ℕ) → a ≡ means iids (get_or il k (pos 0)) → x ≡ call_code file iids sids a m → x ≡ code_named file iids sids il m k
  unfolding code_named
  named a k m x e f = f ∙ ap (λ (y : ℕ). call_code file iids sids y m) e

  pub count_most : (n p : ℕ) → count_at file iids sids il sl n p ≤ n
  unfolding count_at
  count_most n p = many_most n _

  pub counted_none : (counts : List ℕ) (size : ℕ) → length counts ≡ size → ((p : ℕ) → p < length counts → get_or counts p 0 ≡ 0) → CountedTo (count_at file iids sids il sl) size 0 counts
  unfolding count_at how_many
  counted_none counts size l z = record { long = l; holds = λ p h. z p (omega arith) }

  -- n entries more, by the tally at the marker that entry k means
  module _ (from n k packed : ℕ) (h : n < 65536) (t : packed ≡ tally_named file iids sids il (means sids (get_or sl k (pos 0))) from n) where
    pub count_more : (j : ℕ) → j < 4 → count_at file iids sids il sl (from + n) (4 * k + j) ≡ count_at file iids sids il sl from (4 * k + j) + in_tally packed j
    unfolding count_at
    count_more j b =
        let q : (4 * k + j) / 4 ≡ k = omega arith in
        let r : (4 * k + j) % 4 ≡ j = omega arith in
        at ((4 * k + j) / 4) ((4 * k + j) % 4) q r
      where
        at :
            (x y : ℕ) → x ≡ k → y ≡ j
            → how_many (from + n) (λ i. same_copies (counted y) (copies (code_named file iids sids il (means sids (get_or sl x (pos 0))) i)))
            ≡ how_many from (λ i. same_copies (counted y) (copies (code_named file iids sids il (means sids (get_or sl x (pos 0))) i))) + in_tally packed j
        at x y q r =
            let s : packed ≡ tally_named file iids sids il (means sids (get_or sl x (pos 0))) from n = t ∙ ap (λ (z : ℕ). tally_named file iids sids il (means sids (get_or sl z (pos 0))) from n) (sym q) in
            many_add from n (λ i. same_copies (counted y) (copies (code_named file iids sids il (means sids (get_or sl x (pos 0))) i)))
            ∙ ap (λ (z : ℕ). how_many from (λ i. same_copies (counted y) (copies (code_named file iids sids il (means sids (get_or sl x (pos 0))) i))) + z)
            (sym (in_tally_law (λ i. code_named file iids sids il (means sids (get_or sl x (pos 0))) (from + i)) n y h (omega arith))
            ∙ ap (λ (z : ℕ). in_tally z y) (sym s)
            ∙ ap (in_tally packed) r)

    -- no count passes 64 bits, since none passes the length of the animal list
    pub count_room :
        (size : ℕ) (counts : List ℕ) → RunTo (count_at file iids sids il sl) size from (from + n) k counts → 4 * k + 4 ≤ size → from + n < 2 ^ 64
        → (j : ℕ) → j < 4 → get_or counts (4 * k + j) 0 + in_tally packed j < 2 ^ 64
    count_room size counts r b f j c =
        let w = r.waiting (4 * k + j) (omega arith) (omega arith) in
        let u = count_more j c in
        let v = count_most (from + n) (4 * k + j) in
        omega arith

  -- ---- the later buffer
  all_counted : (new : List ℕ) → CountedTo (count_at file iids sids il sl) (4 * length sl) (length il) new → new ≡ new_counts file iids sids il sl
  unfolding new_counts calls_with count_at
  all_counted new t = is_tabulate new (4 * length sl) _ 0 t.long t.holds

  pub counts_new :
      (old new : List ℕ) (x y : ℕ) → x ≡ iids → y ≡ sids → is_done (counts_answer file iids sids il sl (length old)) ≡ true
      → CountedTo (count_at file x y il sl) (4 * length sl) (length il) new → new ≡ later_counts file iids sids il sl old
  unfolding later_counts
  counts_new old new x y ex ey d t =
      all_counted new
      (subst (λ (z : ℕ). CountedTo (count_at file iids z il sl) (4 * length sl) (length il) new) ey
      (subst (λ (z : ℕ). CountedTo (count_at file z y il sl) (4 * length sl) (length il) new) ex t))
      ∙ sym (new_if_done (counts_answer file iids sids il sl (length old)) (new_counts file iids sids il sl) old d)

  pub counts_kept : (old : List ℕ) → is_done (counts_answer file iids sids il sl (length old)) ≡ false → old ≡ later_counts file iids sids il sl old
  unfolding later_counts
  counts_kept old d = sym (old_if_not (counts_answer file iids sids il sl (length old)) (new_counts file iids sids il sl) old d)
