-- What is found, stored and changed, by what there is for a marker.
use mathlib.Core.Path.{◌≡◌, refl, sym, ap, ◌∙◌}
use mathlib.Core.Bool.{Bool, true, false, cond}
use mathlib.Core.List.{List, map}
use Prim.Native.Nat.{ℕ, ◌+◌, ◌*◌}
use native.Mathlib.Nat.{add-zero}
use lib.ListN.{get_or, set}
use Rattle.std.proofs.lemmas.List.{map-id}
use lib.Ieee.{Float, nan, Format, div}
use Rattle.statistics.specs.declared.Stats.{Stats}
use Rattle.std.specs.Prelude.{Option, Some, None, Result, Ok, Err}
use Rattle.statistics.specs.declared.MarkerStats.{MarkerStats}
use Rattle.statistics.specs.declared.MarkerError.{MarkerError}
use Rattle.statistics.specs.declared.MarkerError.TheVariants.{NoIndividuals, IllegalSnpMean}
use Rattle.statistics.specs.Statistics.{lent, one, is_infinite, standardised, in_places, stats_per_marker, marker_stats, found_for}
use Rattle.standardise.specs.Standardised.{lent_or_new, kept_or_new, applied}
use Rattle.standardise.specs.Private.{later_value, written, stored_stats}
use Rattle.statistics.specs.Statistics.{scaled_by}
use Rattle.standardise.proofs.StoreLaws.{written_ext, written_same}

-- ---- the reciprocal, worked out once, gives the standardised value
module _ (f : Format) (s : Stats) (factor : Float) (infinite : Bool) (p : factor ≡ div f one s.deviation) (q : infinite ≡ is_infinite s.deviation) where
  pub scaled_standardised : (v : Float) → scaled_by f s.mean factor infinite v ≡ standardised f s v
  unfolding scaled_by standardised
  scaled_standardised v = simp (p, q)

-- ---- values by the choice to apply and by what is found
module _ (f : Format) (xs : List Float) where
  unchanged : (g : Float → Float) → ((v : Float) → v ≡ g v) → xs ≡ map g xs
  unchanged g e = sym (map-id xs) ∙ (λ i. map (λ v. e v i) xs)

  pub not_applied : (apply : Bool) (found : Result MarkerStats MarkerError) → apply ≡ false → xs ≡ map (later_value f apply found) xs
  unfolding later_value
  not_applied apply found e = unchanged (later_value f apply found) (λ v. sym (ap (λ (b : Bool). cond b (applied f found v) v) e))

  pub applied_found : (apply : Bool) (found : Result MarkerStats MarkerError) (x : MarkerStats) → apply ≡ true → found ≡ Ok x
      → map (standardised f x.stats) xs ≡ map (later_value f apply found) xs
  unfolding later_value applied
  applied_found apply found x e g =
      sym (ap (λ (b : Bool). map (later_value f b found) xs) e ∙ ap (λ (y : Result MarkerStats MarkerError). map (later_value f true y) xs) g)

  pub refused_kept : (apply : Bool) (found : Result MarkerStats MarkerError) (e : MarkerError) → found ≡ Err e → xs ≡ map (later_value f apply found) xs
  unfolding later_value applied
  refused_kept apply found e g = unchanged (later_value f apply found) (λ v. sym (ap (λ (x : Result MarkerStats MarkerError). later_value f apply x v) g ∙ kept apply e v))
    where
      kept : (b : Bool) (e : MarkerError) (v : Float) → later_value f b (Err e) v ≡ v
      kept true NoIndividuals v = refl
      kept true IllegalSnpMean v = refl
      kept false e v = refl

-- ---- statistics by what is found
module _ (xs : List Float) (m : ℕ) where
  place : ℕ → ℕ
  place c = m * stats_per_marker + c

  pub stored : (s : Stats) (observed : Float)
      → set (set (set xs (m * stats_per_marker) s.mean) (m * stats_per_marker + 1) s.deviation) (m * stats_per_marker + 2) observed
      ≡ written xs (λ c. m * stats_per_marker + c) (λ c. get_or (in_places s observed) c nan) stats_per_marker
  unfolding written in_places
  stored s observed = ap (λ (x : ℕ). set (set (set xs x s.mean) (m * stats_per_marker + 1) s.deviation) (m * stats_per_marker + 2) observed) (sym (add-zero (m * stats_per_marker)))

  kept : (g : ℕ → Float) → ((c : ℕ) → get_or xs (m * stats_per_marker + c) nan ≡ g c) → xs ≡ written xs (λ c. m * stats_per_marker + c) g stats_per_marker
  kept g e = sym (written_same xs (λ c. m * stats_per_marker + c) stats_per_marker) ∙ written_ext xs (λ c. m * stats_per_marker + c) (λ c. get_or xs (m * stats_per_marker + c) nan) g stats_per_marker (λ c h. e c)

  pub found_stored : (found : Result MarkerStats MarkerError) (x : MarkerStats) (observed : Float) → found ≡ Ok x → x.observed ≡ Some observed
      → written xs (λ c. m * stats_per_marker + c) (λ c. get_or (in_places x.stats observed) c nan) stats_per_marker ≡ stored_stats found m xs
  unfolding kept_or_new lent_or_new
  found_stored found x observed g e =
      written_ext xs (λ c. m * stats_per_marker + c) (λ c. get_or (in_places x.stats observed) c nan) (λ c. kept_or_new found c (get_or xs (m * stats_per_marker + c) nan)) stats_per_marker
      (λ c h. sym (ap (λ (y : Result MarkerStats MarkerError). kept_or_new y c (get_or xs (m * stats_per_marker + c) nan)) g
      ∙ ap (λ (o : Option Float). lent_or_new x.stats o c (get_or xs (m * stats_per_marker + c) nan)) e))

  stats_kept : (found x : Result MarkerStats MarkerError) → found ≡ x → ((c : ℕ) (v : Float) → v ≡ kept_or_new x c v) → xs ≡ stored_stats found m xs
  stats_kept found x g e =
      kept (λ c. kept_or_new found c (get_or xs (m * stats_per_marker + c) nan))
      (λ c. e c (get_or xs (m * stats_per_marker + c) nan) ∙ sym (ap (λ (y : Result MarkerStats MarkerError). kept_or_new y c (get_or xs (m * stats_per_marker + c) nan)) g))

  pub lent_kept : (found : Result MarkerStats MarkerError) (x : MarkerStats) → found ≡ Ok x → x.observed ≡ None → xs ≡ stored_stats found m xs
  unfolding kept_or_new lent_or_new
  lent_kept found x g e = stats_kept found (Ok x) g (λ c v. sym (ap (λ (o : Option Float). lent_or_new x.stats o c v) e))

  pub refused_stays : (found : Result MarkerStats MarkerError) (e : MarkerError) → found ≡ Err e → xs ≡ stored_stats found m xs
  unfolding kept_or_new
  refused_stays found NoIndividuals g = stats_kept found (Err NoIndividuals) g (λ c v. refl)
  refused_stays found IllegalSnpMean g = stats_kept found (Err IllegalSnpMean) g (λ c v. refl)

-- ---- what is found
module _ (f : Format) (use_stats : Bool) (s : Stats) (n : ℕ) (column : ℕ → Float) (r : Result MarkerStats MarkerError) where
  pub found_lent : use_stats ≡ true → r ≡ Ok (lent s) → r ≡ found_for f use_stats s n column
  unfolding found_for
  found_lent e g = g ∙ ap (λ (b : Bool). found_for f b s n column) (sym e)

  pub found_worked_out : use_stats ≡ false → r ≡ marker_stats f n column → r ≡ found_for f use_stats s n column
  unfolding found_for
  found_worked_out e g = g ∙ ap (λ (b : Bool). found_for f b s n column) (sym e)
