-- Lists by place, and counting places.
use Rattle.std.specs.Prelude.{Bool, cond, List, [], ◌∷◌, ℕ, zero, suc, ◌+◌}

-- the list of n elements that has f k at place k
unfoldable pub tabulate : {A : Type 0} → ℕ → (ℕ → A) → List A
tabulate zero f = []
tabulate (suc n) f = f 0 ∷ tabulate n (λ k. f (suc k))

-- how many of the places 0 to n − 1 pass a test
unfoldable pub how_many : ℕ → (ℕ → Bool) → ℕ
how_many zero test = 0
how_many (suc n) test = how_many n test + cond (test n) 1 0
