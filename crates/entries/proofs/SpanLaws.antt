-- Laws of the byte span, over plain numbers and lists.
use Rattle.std.proofs.Common.{◌≡◌, ℕ, ◌+◌, ◌-◌, ◌/◌, ◌^◌, ◌<◌, ◌≤◌, min, max, true, List, [], ◌∷◌, ◌++◌, map, length, get_or, take, ℤ, pos, sym, refl, ap, ◌∙◌, add-one, arith, take_all, take-suc, w64, to_z, of_z, le-leb, subst, ltb, ltb-true, lt-ltb}
use Rattle.std.specs.Prelude.{Option, Some, None}
use borrow.Author.Tests.{lt-leb}
use lib.Signed.{mag}
use mir.ValLaws.{to_z-of_z}
use Rattle.answer.specs.Answer.{done, refused, count_limit}
use Rattle.entries.specs.Entry.{is_good, means, first_bad, least, greatest, byte_of, span, span_answer}
use Rattle.entries.specs.Private.{IsSpan, bytes_of}
use Rattle.entries.proofs.EntryLaws.{means_below, pair_good}

-- ---- the span of a list with one entry more
least_last : (n : ℕ) (ms : List ℕ) (k : ℕ) → least n (ms ++ (k ∷ [])) ≡ min (least n ms) k
unfolding least
least_last n [] k = refl
least_last n (m ∷ ms) k = let h : least m (ms ++ (k ∷ [])) ≡ min (least m ms) k = least_last m ms k in omega arith

greatest_last : (n : ℕ) (ms : List ℕ) (k : ℕ) → greatest n (ms ++ (k ∷ [])) ≡ max (greatest n ms) k
unfolding greatest
greatest_last n [] k = refl
greatest_last n (m ∷ ms) k = let h : greatest m (ms ++ (k ∷ [])) ≡ max (greatest m ms) k = greatest_last m ms k in omega arith

least_most : (n : ℕ) (ms : List ℕ) → least n ms ≤ greatest n ms
unfolding least greatest
least_most n [] = omega arith
least_most n (m ∷ ms) = let h = least_most m ms in omega arith

module _ (count : ℕ) where
  bytes_last : (es : List ℤ) (e : ℤ) → map (byte_of count) (es ++ (e ∷ [])) ≡ map (byte_of count) es ++ (byte_of count e ∷ [])
  bytes_last [] e = refl
  bytes_last (x ∷ xs) e = ap (λ (l : List ℕ). byte_of count x ∷ l) (bytes_last xs e)

  -- one entry more, of which the code knows the number n
  module _ (e : ℤ) (n : ℕ) (q : n ≡ means count e) where
    pub span_first : (es : List ℤ) → IsSpan count es None → IsSpan count (es ++ (e ∷ [])) (Some (n / 4, n / 4))
    unfolding span least greatest byte_of
    span_first [] s =
        ap (λ (k : ℕ). pos (k / 4) ∷ pos (k / 4 + 1 - k / 4) ∷ []) q
        ∙ ap (λ (k : ℕ). pos (means count e / 4) ∷ pos k ∷ []) (let b = means count e / 4 in let one : b + 1 - b ≡ b - b + 1 = omega arith in one)
    span_first (x ∷ xs) s = absurd (let long : 0 ≡ greatest (byte_of count x) (map (byte_of count) xs) - least (byte_of count x) (map (byte_of count) xs) + 1 = cc in omega arith)

    pub span_next :
        (es : List ℤ) (lowest highest lowest' highest' : ℕ) → lowest' ≡ min lowest (n / 4) → highest' ≡ max highest (n / 4)
        → IsSpan count es (Some (lowest, highest)) → IsSpan count (es ++ (e ∷ [])) (Some (lowest', highest'))
    unfolding span byte_of
    span_next [] lowest highest lowest' highest' a b s = absurd (let long : highest + 1 - lowest ≡ 0 = cc in let z : lowest ≡ 0 = cc in omega arith)
    span_next (x ∷ xs) lowest highest lowest' highest' a b s =
        let first = means count x / 4 in
        let bytes = map (byte_of count) xs in
        let next = map (byte_of count) (xs ++ (e ∷ [])) in
        let low : lowest ≡ least first bytes = cc in
        let long : highest + 1 - lowest ≡ greatest first bytes - least first bytes + 1 = cc in
        let high : highest ≡ greatest first bytes = let o = least_most first bytes in omega (arith, low, long, o) in
        let more : next ≡ bytes ++ (n / 4 ∷ []) = bytes_last xs e ∙ ap (λ (m : ℕ). bytes ++ (m / 4 ∷ [])) (sym q) in
        let low' : lowest' ≡ least first next = a ∙ ap (λ (m : ℕ). min m (n / 4)) low ∙ sym (ap (least first) more ∙ least_last first bytes (n / 4)) in
        let high' : highest' ≡ greatest first next = b ∙ ap (λ (m : ℕ). max m (n / 4)) high ∙ sym (ap (greatest first) more ∙ greatest_last first bytes (n / 4)) in
        let long' : greatest first next + 1 - least first next ≡ greatest first next - least first next + 1 = let o = least_most first next in omega (arith, o) in
        (λ i. pos (low' i) ∷ pos (high' i + 1 - low' i) ∷ []) ∙ ap (λ (k : ℕ). pos (least first next) ∷ pos k ∷ []) long'

  -- of a list without bad entries: the highest byte is below the count
  pub byte_below : (e : ℤ) → is_good count e ≡ true → byte_of count e < count
  unfolding byte_of
  byte_below e g = let b = means_below count e g in omega arith

  pub greatest_below : (n : ℕ) (es : List ℤ) → n < count → first_bad count es ≡ None → greatest n (map (byte_of count) es) < count
  unfolding greatest first_bad
  greatest_below n [] h f = h
  greatest_below n (e ∷ es) h f =
      let p = pair_good (is_good count e) (first_bad count es) e f in
      let r = greatest_below (byte_of count e) es (byte_below e p.0) p.1 in
      omega arith

  pub bytes_ordered : (es : List ℤ) (lowest highest : ℕ) → first_bad count es ≡ None → IsSpan count es (Some (lowest, highest)) → (lowest ≤ highest) × (highest < count)
  unfolding span first_bad
  bytes_ordered [] lowest highest f s = absurd (let long : highest + 1 - lowest ≡ 0 = cc in let z : lowest ≡ 0 = cc in omega arith)
  bytes_ordered (x ∷ xs) lowest highest f s =
      let bytes = map (byte_of count) xs in
      let first = byte_of count x in
      let p = pair_good (is_good count x) (first_bad count xs) x f in
      let below = greatest_below first xs (byte_below x p.0) p.1 in
      let low : lowest ≡ least first bytes = cc in
      let long : highest + 1 - lowest ≡ greatest first bytes - least first bytes + 1 = cc in
      let o = least_most first bytes in
      (omega (arith, low, long, o), omega (arith, low, long, o, below))

-- ---- the step, over items, whose bytes are the span's
min_bytes : (a b : ℕ) → min a b / 4 ≡ min (a / 4) (b / 4)
min_bytes a b = omega arith

max_bytes : (a b : ℕ) → max a b / 4 ≡ max (a / 4) (b / 4)
max_bytes a b = omega arith

pub item_next :
    (count : ℕ) (es : List ℤ) (e : ℤ) (item lowest highest lowest' highest' : ℕ) → lowest' ≡ min lowest item → highest' ≡ max highest item → item ≡ means count e
    → IsSpan count es (bytes_of (Some (lowest, highest))) → IsSpan count (es ++ (e ∷ [])) (bytes_of (Some (lowest', highest')))
item_next count es e item lowest highest lowest' highest' a b q s =
    span_next count e item q es _ _ _ _ (ap (λ (n : ℕ). n / 4) a ∙ min_bytes lowest item) (ap (λ (n : ℕ). n / 4) b ∙ max_bytes highest item) s

-- ---- the walk: after i entries `sofar` is the span of the list that far
module _ (count : ℕ) (list : List ℤ) where
  pub record Walked (i : ℕ) (sofar : Option (ℕ × ℕ)) : Type 0 where
    pub bound : i ≤ length list
    pub far : IsSpan count (take i list) (bytes_of sofar)

  pub walked_none : Walked 0 None
  unfolding span
  walked_none = record { bound = omega arith; far = refl }

  -- one step, known by its promise alone
  pub walked_more :
      (i : ℕ) (sofar sofar' : Option (ℕ × ℕ)) → Walked i sofar → i < length list
      → ((before : List ℤ) → IsSpan count before (bytes_of sofar) → IsSpan count (before ++ (get_or list i (pos 0) ∷ [])) (bytes_of sofar'))
      → Walked (i + 1) sofar'
  walked_more i sofar sofar' w h step =
      record {
        bound = omega arith;
        far = step (take i list) w.far ∙ ap (span count) (sym (rw add-one (take-suc list i (pos 0) h)));
      }

  pub walked_all : (i : ℕ) (sofar : Option (ℕ × ℕ)) → Walked i sofar → length list ≤ i → IsSpan count list (bytes_of sofar)
  walked_all i sofar w h = w.far ∙ ap (span count) (take_all i list h)

-- ---- the answer of `byte_span`, by its tests
module _ (count : ℕ) (list : List ℤ) where
  pub span_too_large : count_limit < count → span_answer count list ≡ refused 18 []
  unfolding span_answer
  span_too_large h = simp (lt-leb count count_limit h)

  module _ (hc : count ≤ count_limit) where
    pub span_bad : (e : ℤ) → first_bad count list ≡ Some e → refused 5 (e ∷ []) ≡ span_answer count list
    unfolding span_answer
    span_bad e b = simp (le-leb count count_limit hc, b)

    pub span_good : first_bad count list ≡ None → (vs : List ℤ) → vs ≡ span count list → done vs ≡ span_answer count list
    unfolding span_answer
    span_good g vs e = simp (le-leb count count_limit hc, g, e)
