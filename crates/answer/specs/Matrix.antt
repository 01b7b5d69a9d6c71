-- Matrices: "a lent slice of animals times markers, in marker order (a marker's values adjacent) or animal order".
use Rattle.std.specs.Prelude.{Bool, true, false, List, ℕ, ◌+◌, ◌*◌, ◌/◌, ◌%◌}
use Rattle.answer.specs.Lists.{tabulate}

-- the place of animal i and marker m, in animal order (true) or marker order (false)
unfoldable pub matrix_place : Bool → ℕ → ℕ → ℕ → ℕ → ℕ
matrix_place true iids sids i m = i * sids + m
matrix_place false iids sids i m = m * iids + i

-- the matrix that has f i m at animal i and marker m
unfoldable pub matrix : {A : Type 0} → Bool → ℕ → ℕ → (ℕ → ℕ → A) → List A
matrix true iids sids f = tabulate (iids * sids) (λ p. f (p / sids) (p % sids))
matrix false iids sids f = tabulate (iids * sids) (λ p. f (p % iids) (p / iids))
