-- Lines: one line feed each, single spaces between words; a report is whole lines, of which the last is `all`.
use mathlib.Core.Path.{◌≡◌, refl, sym, ap, subst, ◌∙◌}
use mathlib.Core.Bool.{Bool, cond}
use mathlib.Core.List.{List, [], ◌∷◌, ◌++◌, map, flat_map, append-nil}
use Prim.Native.Nat.{ℕ, suc, ◌+◌, ◌%◌, ◌^◌, ◌<◌, ◌≤◌}
use native.Mathlib.Nat.{zero-add}
use native.Mathlib.Omega.{arith}
use borrow.Author.Tests.{ne_eqb}
use lib.ListN.{length, get_or, length-append}
use lib.Seq.{get_or-append-add}
use Rattle.answer.specs.Answer.{Answer, done, refused}
use Rattle.rates.specs.Text.{ascii, digit, decimal}
use Rattle.rates.specs.Input.{InputRecord, run}
use Rattle.rates.specs.Report.{Counts, totals, record_counts, space, line_feed, in_order, line, marker_line, refused_line, all_line, marker_lines, lines_by, record_lines, lines_from, report}
use Rattle.rates.specs.Words.{occurrences, WholeLines, calls_in}
use Rattle.rates.proofs.Decimals.{by_digits, at_most_20}

-- ---- how often a byte stands in a line
occurrences_append : (b : ℕ) (xs ys : List ℕ) → occurrences b (xs ++ ys) ≡ occurrences b xs + occurrences b ys
unfolding occurrences
occurrences_append b [] ys = sym (zero-add (occurrences b ys))
occurrences_append b (x ∷ xs) ys = let r = occurrences_append b xs ys in omega arith

-- no number has a byte below that of the digit 0
pub not_in_decimal : (b : ℕ) → b < digit 0 → (n : ℕ) → occurrences b (decimal n) ≡ 0
unfolding occurrences
not_in_decimal b h =
    by_digits (λ n text. occurrences b text ≡ 0) (λ n l. one n)
    (λ n ds l e. occurrences_append b ds (digit (n % 10) ∷ []) ∙ (let o = one (n % 10) in omega arith))
  where
    one : (d : ℕ) → occurrences b (digit d ∷ []) ≡ 0
    one d = ap (λ (t : Bool). cond t 1 0 + 0) (ne_eqb (digit d) b (λ q. omega (arith, q)))

-- in the words of a line
in_words : ℕ → List (List ℕ) → ℕ
in_words b [] = 0
in_words b (w ∷ ws) = occurrences b w + in_words b ws

line_feeds : (ws : List (List ℕ)) → occurrences line_feed (line ws) ≡ 1 + in_words line_feed ws
unfolding line in_words occurrences
line_feeds [] = refl
line_feeds (w ∷ []) = occurrences_append line_feed w (line_feed ∷ []) ∙ omega arith
line_feeds (w ∷ v ∷ ws) = occurrences_append line_feed w (space ∷ line (v ∷ ws)) ∙ (let r = line_feeds (v ∷ ws) in omega arith)

line_spaces : (w : List ℕ) (ws : List (List ℕ)) → occurrences space (line (w ∷ ws)) ≡ length ws + in_words space (w ∷ ws)
unfolding line in_words occurrences
line_spaces w [] = occurrences_append space w (line_feed ∷ []) ∙ omega arith
line_spaces w (v ∷ ws) = occurrences_append space w (space ∷ line (v ∷ ws)) ∙ (let r = line_spaces v ws in omega arith)

numbers_none : (b : ℕ) → b < digit 0 → (ns : List ℕ) → in_words b (map decimal ns) ≡ 0
unfolding in_words
numbers_none b h [] = refl
numbers_none b h (n ∷ ns) = let d = not_in_decimal b h n in let r = numbers_none b h ns in omega arith

-- "single spaces, line feed"
pub marker_line_law : (file m : ℕ) (c : Counts) → (occurrences line_feed (marker_line file m c) ≡ 1) × (occurrences space (marker_line file m c) ≡ 5)
unfolding marker_line
marker_line_law file m c =
    let f = numbers_none line_feed (omega arith) (file ∷ m ∷ in_order c) in
    let s = numbers_none space (omega arith) (file ∷ m ∷ in_order c) in
    (line_feeds (map decimal (file ∷ m ∷ in_order c)) ∙ omega arith, line_spaces (decimal file) (map decimal (m ∷ in_order c)) ∙ omega arith)

pub refused_line_law : (file n : ℕ) → (occurrences line_feed (refused_line file n) ≡ 1) × (occurrences space (refused_line file n) ≡ 2)
unfolding refused_line in_words ascii occurrences
refused_line_law file n = (
  line_feeds _ ∙ omega (arith, not_in_decimal line_feed (omega arith) file, not_in_decimal line_feed (omega arith) n),
  line_spaces _ _ ∙ omega (arith, not_in_decimal space (omega arith) file, not_in_decimal space (omega arith) n),
)

pub all_line_law : (c : Counts) → (occurrences line_feed (all_line c) ≡ 1) × (occurrences space (all_line c) ≡ 4)
unfolding all_line in_words ascii occurrences
all_line_law c =
    let f = numbers_none line_feed (omega arith) (in_order c) in
    let s = numbers_none space (omega arith) (in_order c) in
    (line_feeds (ascii "all" ∷ map decimal (in_order c)) ∙ omega arith, line_spaces (ascii "all") (map decimal (in_order c)) ∙ omega arith)

-- "one line a marker"
pub lines_of_markers : (file m : ℕ) (cs : List Counts) → occurrences line_feed (marker_lines file m cs) ≡ length cs
unfolding marker_lines occurrences
lines_of_markers file m [] = refl
lines_of_markers file m (c ∷ cs) =
    occurrences_append line_feed (marker_line file m c) (marker_lines file (suc m) cs)
    ∙ (let a = (marker_line_law file m c).0 in let r = lines_of_markers file (suc m) cs in omega arith)

-- ---- how long a line is
lengths : List (List ℕ) → ℕ
lengths [] = 0
lengths (w ∷ ws) = length w + lengths ws

line_long : (w : List ℕ) (ws : List (List ℕ)) → length (line (w ∷ ws)) ≡ lengths (w ∷ ws) + suc (length ws)
unfolding line lengths
line_long w [] = length-append w (line_feed ∷ []) ∙ omega arith
line_long w (v ∷ ws) = length-append w (space ∷ line (v ∷ ws)) ∙ (let r = line_long v ws in omega arith)

-- four counts that 64 bits hold take up to 80 bytes
counts_short : (c : Counts) → calls_in c < 2 ^ 64 → lengths (map decimal (in_order c)) ≤ 80
unfolding lengths
counts_short c h =
    omega (
      arith,
      at_most_20 c.zero (omega arith),
      at_most_20 c.one (omega arith),
      at_most_20 c.two (omega arith),
      at_most_20 c.missing (omega arith),
    )

pub marker_line_short : (file m : ℕ) (c : Counts) → file < 2 ^ 64 → m < 2 ^ 64 → calls_in c < 2 ^ 64 → length (marker_line file m c) ≤ 126
unfolding marker_line lengths
marker_line_short file m c f g h =
    let e = line_long (decimal file) (map decimal (m ∷ in_order c)) in
    omega (arith, e, at_most_20 file f, at_most_20 m g, counts_short c h)

pub refused_line_short : (file n : ℕ) → file < 2 ^ 64 → n < 2 ^ 64 → length (refused_line file n) ≤ 50
unfolding refused_line lengths ascii
refused_line_short file n f g =
    let e = line_long (decimal file) (ascii "refused" ∷ decimal n ∷ []) in
    omega (arith, e, at_most_20 file f, at_most_20 n g)

pub all_line_short : (c : Counts) → calls_in c < 2 ^ 64 → length (all_line c) ≤ 88
unfolding all_line lengths ascii
all_line_short c h =
    let e = line_long (ascii "all") (map decimal (in_order c)) in
    omega (arith, e, counts_short c h)

-- ---- whole lines
line_there : (ws : List (List ℕ)) → 0 < length (line ws)
unfolding line
line_there [] = omega arith
line_there (w ∷ []) = omega (arith, length-append w (line_feed ∷ []))
line_there (w ∷ v ∷ ws) = omega (arith, length-append w (space ∷ line (v ∷ ws)))

behind : (xs ys : List ℕ) → 0 < length ys → WholeLines ys → WholeLines (xs ++ ys)
behind xs [] h e = absurd (omega arith)
behind xs (y ∷ ys) h e =
    let n : length (xs ++ y ∷ ys) ≡ length (line_feed ∷ xs) + length ys = length-append xs (y ∷ ys) ∙ omega arith in
    ap (λ (k : ℕ). get_or (line_feed ∷ xs ++ y ∷ ys) k 0) n ∙ get_or-append-add (line_feed ∷ xs) (y ∷ ys) (length ys) 0 ∙ e

whole_line : (ws : List (List ℕ)) → WholeLines (line ws)
unfolding line
whole_line [] = refl
whole_line (w ∷ []) = behind w (line_feed ∷ []) (omega arith) refl
whole_line (w ∷ v ∷ ws) = behind w (space ∷ line (v ∷ ws)) (omega arith) (behind (space ∷ []) (line (v ∷ ws)) (line_there (v ∷ ws)) (whole_line (v ∷ ws)))

both : (xs ys : List ℕ) → WholeLines xs → WholeLines ys → WholeLines (xs ++ ys)
both xs [] d e = subst WholeLines (sym (append-nil xs)) d
both xs (y ∷ ys) d e = behind xs (y ∷ ys) (omega arith) e

whole_markers : (file m : ℕ) (cs : List Counts) → WholeLines (marker_lines file m cs)
unfolding marker_lines marker_line
whole_markers file m [] = refl
whole_markers file m (c ∷ cs) = both (marker_line file m c) (marker_lines file (suc m) cs) (whole_line _) (whole_markers file (suc m) cs)

whole_by : (file : ℕ) (a : Answer) (cs : List Counts) → WholeLines (lines_by file a cs)
unfolding lines_by refused_line
whole_by file (done vs) cs = whole_markers file 0 cs
whole_by file (refused n vs) cs = whole_line _

pub whole_lines : (file : ℕ) (rs : List InputRecord) → WholeLines (lines_from file rs)
unfolding lines_from record_lines
whole_lines file [] = refl
whole_lines file (r ∷ rs) = both (record_lines file r) (lines_from (suc file) rs) (whole_by file r.answer (record_counts r)) (whole_lines (suc file) rs)

-- "The last line is `all` and the four totals": before it whole lines stand, and it is one line (`all_line_law`)
pub last_line :
    (input : List ℕ) → (before : List ℕ) × (report input ≡ before ++ all_line (totals (flat_map record_counts (run input)))) × WholeLines before
unfolding report
last_line input = (lines_from 0 (run input), refl, whole_lines 0 (run input))
