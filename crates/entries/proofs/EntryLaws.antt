-- Laws of entries, over plain numbers and lists.
use Rattle.std.proofs.Common.{◌≡◌, eqb, ne_eqb, eq-eqb, eqb-true, ◌&&◌, ℕ, zero, suc, ◌+◌, ◌-◌, ◌%◌, ◌^◌, ◌<◌, ◌≤◌, Bool, true, false, cond, ltb, List, [], ◌∷◌, length, get_or, drop, ℤ, pos, negsuc, sym, refl, ap, ◌∙◌, subst, add-one, arith, drop_of_length-le, drop-cons, w64, SFits, to_z, of_z, ltb-false, ltb-true, le-ltb, lt-ltb, nat_abs}
use Rattle.std.specs.Prelude.{Option, Some, None}
use lib.Signed.{mag, lt_z}
use mir.ValLaws.{to_z-of_z}
use Rattle.answer.specs.Answer.{done, refused, check_entry}
use Rattle.answer.proofs.Tests.{both_true}
use Rattle.entries.specs.Entry.{is_good, means, first_bad, in_order_from, in_order, entry_answer}

-- ---- one entry
-- an entry z ≥ 0 means itself
from_front : (count : ℕ) (z : ℤ) → lt_z z (pos 0) ≡ false → (ltb (nat_abs z) count ≡ is_good count z) × (nat_abs z ≡ means count z)
unfolding is_good means
from_front count (pos i) h = (refl, refl)
from_front count (negsuc k) h = absurd (let q : ◌≡◌ {A = ℕ} 0 1 = cc in omega arith)

-- the entry k before the last, with p the machine's sum of it and the count
wrapped : (count k p : ℕ) → count < 2 ^ 64 → k < 2 ^ 63 → p ≡ (count + (2 ^ 64 - suc k)) % 2 ^ 64 → (ltb p count ≡ ltb k count) × (ltb k count ≡ true → p ≡ count - suc k)
wrapped count k p hc hk e = by_test (ltb k count) refl
  where
    by_test : (b : Bool) → ltb k count ≡ b → (ltb p count ≡ b) × (b ≡ true → p ≡ count - suc k)
    by_test true t = let h : k < count = ltb-true k count t in (lt-ltb p count (omega arith), λ _. omega arith)
    by_test false t = let h : count ≤ k = ltb-false k count t in (le-ltb p count (omega arith), λ b. absurd (let q : ◌≡◌ {A = ℕ} 0 1 = cc in omega arith))

from_back :
    (count : ℕ) (z : ℤ) (p : ℕ) → count < 2 ^ 64 → lt_z z (pos 0) ≡ true → mag z < 2 ^ 63 → p ≡ (count + of_z w64 z) % 2 ^ 64
    → (ltb p count ≡ is_good count z) × (is_good count z ≡ true → p ≡ means count z)
unfolding is_good means
from_back count (pos i) p hc h f e = absurd (let b : i < 0 = ltb-true i 0 h in omega arith)
from_back count (negsuc k) p hc h f e = wrapped count k p hc f e

-- a bad entry from the back
past_front : (count : ℕ) (z : ℤ) → lt_z z (pos 0) ≡ true → is_good count z ≡ false → 0 ≡ means count z
unfolding is_good means
past_front count (pos i) h b = absurd (let c : i < 0 = ltb-true i 0 h in omega arith)
past_front count (negsuc k) h b = let c : count ≤ k = ltb-false k count b in omega arith

-- a good entry means a number below the count
pub means_below : (count : ℕ) (z : ℤ) → is_good count z ≡ true → means count z < count
unfolding means is_good
means_below count (pos i) g = ltb-true i count g
means_below count (negsuc k) g = let b : k < count = ltb-true k count g in omega arith

-- as the machine holds the entry z
module _ (count : ℕ) (z : ℤ) (f : SFits w64 z) where
  back : to_z w64 (of_z w64 z) ≡ z
  back = to_z-of_z w64 z f

  negative : lt_z (to_z w64 (of_z w64 z)) (pos 0) ≡ true → lt_z z (pos 0) ≡ true
  negative = subst (λ (y : ℤ). lt_z y (pos 0) ≡ true) back

  front : lt_z (to_z w64 (of_z w64 z)) (pos 0) ≡ false → lt_z z (pos 0) ≡ false
  front = subst (λ (y : ℤ). lt_z y (pos 0) ≡ false) back

  pub place_back :
      (p : ℕ) → p ≡ (count + of_z w64 (to_z w64 (of_z w64 z))) % 2 ^ 64 → count < 2 ^ 64 → lt_z (to_z w64 (of_z w64 z)) (pos 0) ≡ true
      → (ltb p count ≡ is_good count z) × (is_good count z ≡ true → p ≡ means count z)
  place_back p e hc h = from_back count z p hc (negative h) f.sfits (e ∙ ap (λ (y : ℤ). (count + of_z w64 y) % 2 ^ 64) back)

  pub place_front :
      lt_z (to_z w64 (of_z w64 z)) (pos 0) ≡ false
      → (ltb (nat_abs (to_z w64 (of_z w64 z))) count ≡ is_good count z) × (is_good count z ≡ true → nat_abs (to_z w64 (of_z w64 z)) ≡ means count z)
  place_front h = let r = from_front count z (front h) in (ap (λ (y : ℤ). ltb (nat_abs y) count) back ∙ r.0, λ _. ap nat_abs back ∙ r.1)

  -- `number` of a bad entry from the front, its magnitude m
  pub number_front : (m : ℕ) → m ≡ nat_abs (to_z w64 (of_z w64 z)) → lt_z (to_z w64 (of_z w64 z)) (pos 0) ≡ false → m ≡ means count z
  number_front m e h = e ∙ ap nat_abs back ∙ (from_front count z (front h)).1

  -- `is_good`, `number` and the step, from the place p
  module _ (p : ℕ) (t : (ltb p count ≡ is_good count (to_z w64 (of_z w64 z))) × (is_good count (to_z w64 (of_z w64 z)) ≡ true → p ≡ means count (to_z w64 (of_z w64 z)))) where
    pub placed : (ltb p count ≡ is_good count z) × (is_good count z ≡ true → p ≡ means count z)
    placed = subst (λ (y : ℤ). (ltb p count ≡ is_good count y) × (is_good count y ≡ true → p ≡ means count y)) back t

    pub tests_good : ltb p count ≡ is_good count z
    tests_good = placed.0

    pub number_good : p < count → p ≡ means count z
    number_good h = placed.1 (sym placed.0 ∙ lt-ltb p count h)

    pub number_none : count ≤ p → lt_z (to_z w64 (of_z w64 z)) (pos 0) ≡ true → 0 ≡ means count z
    number_none g h = past_front count z (negative h) (sym placed.0 ∙ le-ltb p count g)

  pub still_good : (b : Bool) → b ≡ is_good count (to_z w64 (of_z w64 z)) → b ≡ is_good count z
  still_good b e = e ∙ ap (is_good count) back

  pub means_back : (n : ℕ) → n ≡ means count (to_z w64 (of_z w64 z)) → n ≡ means count z
  means_back n h = h ∙ ap (means count) back

  -- the entry by itself, from the test and the number; n is its list's number
  pub entry_good : (n : ℕ) (b : Bool) (m : ℕ) → b ≡ is_good count (to_z w64 (of_z w64 z)) → b ≡ true → m ≡ means count (to_z w64 (of_z w64 z)) → done (pos m ∷ []) ≡ entry_answer n count z
  unfolding entry_answer first_bad check_entry
  entry_good n b m e t h = simp (sym (still_good b e) ∙ t) (ap (λ (k : ℕ). done (pos k ∷ [])) (means_back m h))

  pub entry_bad : (n : ℕ) (b : Bool) → b ≡ is_good count (to_z w64 (of_z w64 z)) → b ≡ false → refused n (to_z w64 (of_z w64 z) ∷ []) ≡ entry_answer n count z
  unfolding entry_answer first_bad check_entry
  entry_bad n b e t = simp (sym (still_good b e) ∙ t, back)

-- ---- the first bad entry: what is left to look at says what the whole list says
module _ (count : ℕ) (list : List ℤ) (i : ℕ) (h : i < length list) (f : mag (get_or list i (pos 0)) < 2 ^ 63)
    (b : Bool) (e : b ≡ is_good count (to_z w64 (of_z w64 (get_or list i (pos 0)))))
    (sofar : first_bad count (drop i list) ≡ first_bad count list) where
  tested : b ≡ is_good count (get_or list i (pos 0))
  tested = still_good count (get_or list i (pos 0)) (record { sfits = f }) b e

  pub bad_here : b ≡ false → Some (to_z w64 (of_z w64 (get_or list i (pos 0)))) ≡ first_bad count list
  unfolding first_bad
  bad_here t =
      ap Some (back count (get_or list i (pos 0)) (record { sfits = f }))
      ∙ sym (rw (drop-cons list i (pos 0) h) (simp (sym tested ∙ t)))
      ∙ sofar

  pub bad_later : b ≡ true → first_bad count (drop (i + 1) list) ≡ first_bad count list
  unfolding first_bad
  bad_later t = sym (rw (drop-cons list i (pos 0) h, add-one) (simp (sym tested ∙ t))) ∙ sofar

pub bad_none : (count : ℕ) (list : List ℤ) (i : ℕ) → length list ≤ i → first_bad count (drop i list) ≡ first_bad count list → None ≡ first_bad count list
unfolding first_bad
bad_none count list i h sofar = sym (ap (first_bad count) (drop_of_length-le list h)) ∙ sofar

-- ---- a list with no bad entry
-- its first is good, and the others have no bad one
pub pair_good : (b : Bool) (later : Option ℤ) (e : ℤ) → cond b later (Some e) ≡ None → (b ≡ true) × (later ≡ None)
pair_good true later e n = (refl, n)
pair_good false later e n = absurd (let q : ◌≡◌ {A = ℕ} 0 1 = cc in omega arith)

-- so every entry is good
pub all_good : (count : ℕ) (list : List ℤ) (i : ℕ) → first_bad count list ≡ None → i < length list → is_good count (get_or list i (pos 0)) ≡ true
unfolding first_bad
all_good count [] i n h = absurd (omega arith)
all_good count (e ∷ es) zero n h = (pair_good (is_good count e) (first_bad count es) e n).0
all_good count (e ∷ es) (suc i) n h = all_good count es i (pair_good (is_good count e) (first_bad count es) e n).1 (omega arith)

-- and a list all of whose entries are good has no bad one
pub none_bad : (count : ℕ) (list : List ℤ) → ((i : ℕ) → i < length list → is_good count (get_or list i (pos 0)) ≡ true) → first_bad count list ≡ None
unfolding first_bad
none_bad count [] g = refl
none_bad count (e ∷ es) g = rw (g 0 (omega arith)) (none_bad count es (λ i h. g (suc i) (omega arith)))

-- ---- a list in order: what is left to look at says what the whole list says
module _ (count : ℕ) (list : List ℤ) (k n : ℕ) (h : k < length list) (f : mag (get_or list k (pos 0)) < 2 ^ 63)
    (e : n ≡ means count (to_z w64 (of_z w64 (get_or list k (pos 0)))))
    (sofar : in_order_from count k (drop k list) ≡ in_order count list) where
  tests : (b : Bool) → eqb n k ≡ b → b && in_order_from count (suc k) (drop (suc k) list) ≡ in_order count list
  unfolding in_order_from
  tests b t =
      ap (λ (x : Bool). x && in_order_from count (suc k) (drop (suc k) list)) (sym t ∙ ap (λ (m : ℕ). eqb m k) (means_back count (get_or list k (pos 0)) (record { sfits = f }) n e))
      ∙ sym (ap (in_order_from count k) (drop-cons list k (pos 0) h)) ∙ sofar

  pub not_in_order : (n ≡ k → ⊥) → false ≡ in_order count list
  not_in_order d = tests false (ne_eqb n k d)

  pub in_order_so_far : n ≡ k → in_order_from count (k + 1) (drop (k + 1) list) ≡ in_order count list
  in_order_so_far d = rw add-one (tests true (eq-eqb n k d))

pub all_in_order : (count : ℕ) (list : List ℤ) (k : ℕ) → length list ≤ k → in_order_from count k (drop k list) ≡ in_order count list → true ≡ in_order count list
unfolding in_order_from
all_in_order count list k h sofar = sym (ap (in_order_from count k) (drop_of_length-le list h)) ∙ sofar

-- entry i of a list in order from k on means k + i
from_there : (count k : ℕ) (list : List ℤ) (i : ℕ) → in_order_from count k list ≡ true → i < length list → means count (get_or list i (pos 0)) ≡ k + i
unfolding in_order_from
from_there count k [] i t h = absurd (omega arith)
from_there count k (e ∷ es) zero t h = eqb-true _ _ (both_true _ _ t).0 ∙ omega arith
from_there count k (e ∷ es) (suc i) t h = from_there count (suc k) es i (both_true _ _ t).1 (omega arith) ∙ omega arith

pub order_means : (count : ℕ) (list : List ℤ) (i : ℕ) → in_order count list ≡ true → i < length list → means count (get_or list i (pos 0)) ≡ i
order_means count list i t h = from_there count 0 list i t h ∙ omega arith
