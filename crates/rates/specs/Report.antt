-- What is printed: counts, lines and the whole report.
use Rattle.std.specs.Prelude.{cond, ℕ, suc, ◌+◌, eqb}
use mathlib.Core.List.{List, [], ◌∷◌, ◌++◌, map, flat_map}
use Rattle.std.specs.Prelude.{Some, None}
use Rattle.answer.specs.Answer.{Answer, done, refused, if_done}
use Rattle.answer.specs.Lists.{tabulate}
use Rattle.bed_read.specs.Reading.{file_order}
use Rattle.call_counts.specs.Counts.{calls_with}
use Rattle.rates.specs.Text.{ascii, decimal}
use Rattle.rates.specs.Input.{InputRecord, run}

-- ---- counts
-- "how many calls are 0, 1, 2 and missing"
pub record Counts : Type 0 where
  pub zero : ℕ
  pub one : ℕ
  pub two : ℕ
  pub missing : ℕ

-- of marker m, "first allele counted": over all animals, in file order
unfoldable pub marker_counts : List ℕ → ℕ → ℕ → ℕ → Counts
marker_counts file iids sids m =
    record {
      zero = calls_with file iids sids (file_order iids) m (Some 0);
      one = calls_with file iids sids (file_order iids) m (Some 1);
      two = calls_with file iids sids (file_order iids) m (Some 2);
      missing = calls_with file iids sids (file_order iids) m None;
    }

-- no calls, and those of two counts together
abbrev pub no_calls : Counts
no_calls = record { zero = 0; one = 0; two = 0; missing = 0 }

unfoldable pub plus : Counts → Counts → Counts
plus a b = record { zero = a.zero + b.zero; one = a.one + b.one; two = a.two + b.two; missing = a.missing + b.missing }

-- "the four totals" of a list of counts
unfoldable pub totals : List Counts → Counts
totals [] = no_calls
totals (c ∷ cs) = plus c (totals cs)

-- "An accepted file of no animals prints nothing", however many markers it has
unfoldable pub printed_markers : ℕ → ℕ → ℕ
printed_markers iids sids = cond (eqb iids 0) 0 sids

-- the counts of a record's markers, from marker 0 on; a refused file has none
unfoldable pub record_counts : InputRecord → List Counts
record_counts r = if_done r.answer (tabulate (printed_markers r.iids r.sids) (marker_counts r.file r.iids r.sids)) []

-- ---- lines, in ASCII
-- "single spaces, line feed"
abbrev pub space : ℕ
space = 32

abbrev pub line_feed : ℕ
line_feed = 10

-- a line of words
unfoldable pub line : List (List ℕ) → List ℕ
line [] = line_feed ∷ []
line (w ∷ []) = w ++ (line_feed ∷ [])
line (w ∷ v ∷ ws) = w ++ (space ∷ line (v ∷ ws))

-- "0, 1, 2 and missing", in this order
abbrev pub in_order : Counts → List ℕ
in_order c = c.zero ∷ c.one ∷ c.two ∷ c.missing ∷ []

-- "file, marker, then how many calls are 0, 1, 2 and missing"
unfoldable pub marker_line : ℕ → ℕ → Counts → List ℕ
marker_line file m c = line (map decimal (file ∷ m ∷ in_order c))

-- "A refused file prints its number, `refused` and the refusal's number."
unfoldable pub refused_line : ℕ → ℕ → List ℕ
refused_line file n = line (decimal file ∷ ascii "refused" ∷ decimal n ∷ [])

-- "The last line is `all` and the four totals."
unfoldable pub all_line : Counts → List ℕ
all_line c = line (ascii "all" ∷ map decimal (in_order c))

-- "one line a marker": the lines of the counts of markers m, m + 1 and so on
unfoldable pub marker_lines : ℕ → ℕ → List Counts → List ℕ
marker_lines file m [] = []
marker_lines file m (c ∷ cs) = marker_line file m c ++ marker_lines file (suc m) cs

-- ---- the report
-- what a record prints, by what its checks say. Markers count from 0
unfoldable pub lines_by : ℕ → Answer → List Counts → List ℕ
lines_by file (done vs) cs = marker_lines file 0 cs
lines_by file (refused n vs) cs = refused_line file n

unfoldable pub record_lines : ℕ → InputRecord → List ℕ
record_lines file r = lines_by file r.answer (record_counts r)

-- the lines of records, numbered from `file` on, refused ones too
unfoldable pub lines_from : ℕ → List InputRecord → List ℕ
lines_from file [] = []
lines_from file (r ∷ rs) = record_lines file r ++ lines_from (suc file) rs

-- "Files and markers count from 0"; the last line has the totals of all markers of all records
unfoldable pub report : List ℕ → List ℕ
report input = lines_from 0 (run input) ++ all_line (totals (flat_map record_counts (run input)))
