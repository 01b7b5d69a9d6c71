-- The tests of the code on floats, and what each step promises: laws over the format.
use mathlib.Core.Path.{◌≡◌, refl, sym, ap, ◌∙◌}
use mathlib.Core.Bool.{Bool, true, false, ◌||◌, cond}
use lib.Ieee.{Float, nan, inf, fin, Format, add, sub, mul, div, lt, le, eq, is_nan}
use Rattle.std.specs.Prelude.{Ok, Err}
use Rattle.root.specs.Root.{root}
use Rattle.statistics.specs.declared.Accumulator.{Accumulator}
use Rattle.statistics.specs.declared.MarkerError.TheVariants.{NoIndividuals, IllegalSnpMean}
use Rattle.statistics.specs.Statistics.{plus_zero, one, counted, mean, variance, deviation, stats_of, found_with, is_infinite}
use Rattle.statistics.specs.Statistics.{stats_from, scaled_by}

module _ (f : Format) (a : Accumulator) (v : Float) where
  pub nan_counted : is_nan v ≡ true → a ≡ counted f a v
  unfolding counted
  nan_counted e = rw e

  pub number_counted : is_nan v ≡ false → record { count = add f a.count one; sum = add f a.sum v; squares = add f a.squares (mul f v v) } ≡ counted f a v
  unfolding counted
  number_counted e = rw e

-- what an accumulator says, test by test
module _ (f : Format) (a : Accumulator) where
  pub few_none : lt a.count one ≡ true → Err NoIndividuals ≡ stats_from f a
  unfolding stats_from
  few_none e = rw e

  module _ (e : lt a.count one ≡ false) where
    pub mean_nan : is_nan (div f a.sum a.count) ≡ true → Err IllegalSnpMean ≡ stats_from f a
    unfolding stats_from mean
    mean_nan g = simp (e, g)

    -- the deviation d is the root r, or +infinity
    pub stats_found :
        (r d : Float) → is_nan (div f a.sum a.count) ≡ false
        → r ≡ root f (sub f (div f a.squares a.count) (mul f (div f a.sum a.count) (div f a.sum a.count)))
        → d ≡ cond (is_nan r || le r plus_zero) (inf false) r
        → Ok (found_with (record { mean = div f a.sum a.count; deviation = d }) a.count) ≡ stats_from f a
    unfolding stats_from mean stats_of deviation variance
    stats_found r d g h k = simp (e, g, k, h)

pub infinity_above : (x : Float) → eq x (inf false) ≡ true → true ≡ is_infinite x
unfolding eq is_infinite
infinity_above nan e = sym e
infinity_above (inf s) e = refl
infinity_above (fin s m k) e = sym e

pub infinity_below : (x : Float) → eq x (inf false) ≡ false → eq x (inf true) ≡ is_infinite x
unfolding eq is_infinite
infinity_below nan e = refl
infinity_below (inf true) e = refl
infinity_below (inf false) e = sym e
infinity_below (fin s m k) e = refl

-- a value standardised, test by test
module _ (f : Format) (mean factor : Float) (infinite : Bool) (v : Float) where
  pub scaled_infinite : infinite ≡ true → plus_zero ≡ scaled_by f mean factor infinite v
  unfolding scaled_by
  scaled_infinite e = sym (ap (λ (b : Bool). cond (is_nan v || b) plus_zero (mul f (sub f v mean) factor)) e ∙ ap (λ (b : Bool). cond b plus_zero (mul f (sub f v mean) factor)) (either (is_nan v)))
    where
      either : (b : Bool) → b || true ≡ true
      either true = refl
      either false = refl

  pub scaled_nan : is_nan v ≡ true → plus_zero ≡ scaled_by f mean factor infinite v
  unfolding scaled_by
  scaled_nan e = simp e

  pub scaled_number : infinite ≡ false → is_nan v ≡ false → mul f (sub f v mean) factor ≡ scaled_by f mean factor infinite v
  unfolding scaled_by
  scaled_number i e = simp (i, e)
