-- Lists composed are good where both lists are.
use mathlib.Core.Path.{◌≡◌, refl, ap, subst, ◌∙◌}
use mathlib.Core.Bool.{true}
use mathlib.Core.List.{List, map}
use Prim.Native.Nat.{ℕ, ◌<◌}
use native.Mathlib.Omega.{arith}
use borrow.Author.Tests.{lt-ltb}
use lib.IntN.{ℤ, pos, negsuc}
use lib.ListN.{length, get_or, length-map, get_or-map}
use Rattle.answer.proofs.Tabulate.{get_d_inside}
use Rattle.entries.specs.Entry.{is_good, means}
use Rattle.entries.proofs.EntryLaws.{means_below, all_good, none_bad}
use Rattle.codes.specs.Value.{i8, same_int}
use Rattle.codes.proofs.ValueLaws.{NoNumber}
use Rattle.demands.specs.Demand.{GoodList}
use Rattle.demands.specs.Composed.{resolved_through}

-- ---- a list of which each entry is mapped
pub map_at : (f : ℤ → ℤ) (l : List ℤ) (k : ℕ) → k < length l → get_or (map f l) k (pos 0) ≡ f (get_or l k (pos 0))
map_at f l k h = get_d_inside (map f l) k (pos 0) (f (pos 0)) (let e = length-map l f in omega arith) ∙ get_or-map f l k (pos 0)

-- good for another count, if f takes good entries to good ones
pub map_good :
    (n count : ℕ) (f : ℤ → ℤ) → ((e : ℤ) → is_good n e ≡ true → is_good count (f e) ≡ true) → (l : List ℤ) → GoodList n l → GoodList count (map f l)
map_good n count f keeps l g =
    none_bad count (map f l)
    (λ k h. let b : k < length l = subst (λ (x : ℕ). k < x) (length-map l f) h in
    ap (is_good count) (map_at f l k b) ∙ keeps (get_or l k (pos 0)) (all_good n l k g b))

-- ---- the entry of a good list that a good entry names is good, as it stands and resolved
module _ (count : ℕ) (first : List ℤ) (g : GoodList count first) (e : ℤ) (h : is_good (length first) e ≡ true) where
  pub given_good : is_good count (get_or first (means (length first) e) (pos 0)) ≡ true
  given_good = all_good count first (means (length first) e) g (means_below (length first) e h)

  pub resolved_good : is_good count (resolved_through count first e) ≡ true
  unfolding resolved_through is_good
  resolved_good =
      lt-ltb (means count (get_or first (means (length first) e) (pos 0))) count (means_below count (get_or first (means (length first) e) (pos 0)) given_good)

-- −127 is none of 0, 1, 2
pub minus_127_no_number : NoNumber i8 (negsuc 126)
unfolding same_int
minus_127_no_number = record { not_zero = refl; not_one = refl; not_two = refl }
