-- Two lists composed, of which the second names places of the first: the words of W-213 of document 02 on lists. Definitions only.
use Rattle.std.specs.Prelude.{List, map, ℕ, ℤ, pos, length, get_or}
use Rattle.entries.specs.Entry.{means}

-- "negative entries resolved against the count of the file they cut": entry e of the second list cuts the file that the first left, whose count is the
-- first list's length, and so names a place of the first list; the entry there cuts the first file, whose count is `count`
unfoldable pub resolved_through : ℕ → List ℤ → ℤ → ℤ
resolved_through count first e = pos (means count (get_or first (means (length first) e) (pos 0)))

-- "the lists composed"
unfoldable pub composed : ℕ → List ℤ → List ℤ → List ℤ
unfolding resolved_through
composed count first second = map (resolved_through count first) second

-- the same with the first list's entries as they stand there
unfoldable pub composed_as_given : List ℤ → List ℤ → List ℤ
composed_as_given first second = map (λ e. get_or first (means (length first) e) (pos 0)) second
