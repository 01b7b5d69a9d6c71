-- Sums over the places of a list that names each number once.
use mathlib.Core.Path.{◌≡◌}
use mathlib.Core.List.{List}
use Prim.Native.Nat.{ℕ, ◌<◌}
use lib.IntN.{ℤ, pos}
use lib.ListN.{length, get_or}
use Rattle.entries.proofs.EntryLaws.{means_below, all_good}
use Rattle.statistics.specs.Calls.{SumsAgree}
use Rattle.statistics.proofs.Names.{as_long, each_once}
use Rattle.demands.specs.Demand.{meant, NamesEachOnce}

module _ (count : ℕ) (list : List ℤ) (names : NamesEachOnce count list) where
  pub meant_below : (k : ℕ) → k < length list → meant count list k < count
  unfolding meant
  meant_below k h = means_below count (get_or list k (pos 0)) (all_good count list k names.good_list h)

  once : (a : ℕ) → a < count → (k : ℕ) × (k < length list) × (meant count list k ≡ a) × ((i : ℕ) → i < length list → meant count list i ≡ a → i ≡ k)
  once a l = let o = names.meant_once a l in (o.place, o.in_list, o.means_it, o.no_other)

  -- its length is the count
  pub names_length : length list ≡ count
  names_length = as_long (meant count list) (length list) count meant_below once

  -- every sum of natural numbers over what the places mean is the sum over all numbers below the count
  pub same_sums : SumsAgree (meant count list) count
  same_sums = each_once (meant count list) (length list) count meant_below once
