-- "the number of calls behind it": the words of the observed count of a marker that is read. Definitions only.
use Rattle.std.specs.Prelude.{cond, List, ℕ, ℤ, eqb, length}
use Rattle.calls.specs.Calls.{call_code}
use Rattle.statistics.specs.Calls.{total}
use Rattle.demands.specs.Demand.{meant}

-- how many of the calls that a list of animals names at place m of a list of markers are not missing, "1 missing" being their code; an animal that
-- is named again counts again
unfoldable pub calls_observed : List ℕ → ℕ → ℕ → List ℤ → List ℤ → ℕ → ℕ
unfolding total
calls_observed file iids sids iid_list sid_list m =
    total (λ k. cond (eqb (call_code file iids sids (meant iids iid_list k) (meant sids sid_list m)) 1) 0 1) (length iid_list)
