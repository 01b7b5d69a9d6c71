-- Words that only theorems speak in.
use Rattle.std.specs.Prelude.{◌≡◌, cond, ℕ, zero, suc, ◌+◌, ◌-◌, ◌*◌, ◌/◌, ◌%◌, ◌^◌, ◌<◌, ◌≤◌, eqb, length, get_or}
use mathlib.Core.List.{List, [], ◌∷◌, ◌++◌, flat_map}
use Rattle.answer.specs.Answer.{if_done}
use Rattle.answer.specs.Lists.{tabulate}
use Rattle.bed_file.specs.File.{accept_answer}
use Rattle.rates.specs.Text.{digit}
use Rattle.rates.specs.Input.{file_bytes, InputRecord, records}
use Rattle.rates.specs.Report.{Counts, plus, totals, record_counts, line_feed, all_line, marker_lines, lines_from}

-- ---- texts
-- the number of a text of digits, after the number so far
unfoldable pub read_from : ℕ → List ℕ → ℕ
read_from n [] = n
read_from n (b ∷ bs) = read_from (10 * n + (b - digit 0)) bs

unfoldable pub read_decimal : List ℕ → ℕ
read_decimal text = read_from 0 text

-- how often a byte stands in a text
unfoldable pub occurrences : ℕ → List ℕ → ℕ
occurrences b [] = 0
occurrences b (x ∷ xs) = cond (eqb x b) 1 0 + occurrences b xs

-- nothing, or a text whose last byte is a line feed
abbrev pub WholeLines : List ℕ → Type 0
WholeLines text = get_or (line_feed ∷ text) (length text) 0 ≡ line_feed

-- ---- records
-- neither too long nor cut short
pub record Whole (input : List ℕ) : Type 0 where
  pub header : 24 ≤ length input
  pub short : file_bytes input ≤ 65536
  pub body : 24 + file_bytes input ≤ length input

-- a number in so many bytes, "little-endian"
unfoldable pub le_bytes : ℕ → ℕ → List ℕ
le_bytes zero n = []
le_bytes (suc k) n = n % 256 ∷ le_bytes k (n / 256)

-- what a sender puts into a record: numbers that 8 bytes hold, and a file that is not too long
pub record Sent : Type 0 where
  pub iids : ℕ
  pub sids : ℕ
  pub file : List ℕ
  pub iids_fit : iids < 2 ^ 64
  pub sids_fit : sids < 2 ^ 64
  pub file_fits : length file ≤ 65536

-- the record in bytes
unfoldable pub written : Sent → List ℕ
written s = le_bytes 8 s.iids ++ (le_bytes 8 s.sids ++ (le_bytes 8 (length s.file) ++ s.file))

-- and as a run is to find it
unfoldable pub sent_record : Sent → InputRecord
sent_record s = record { iids = s.iids; sids = s.sids; file = s.file; answer = accept_answer s.file s.iids s.sids }

-- ---- counts
-- how many calls four counts are of
abbrev pub calls_in : Counts → ℕ
calls_in c = c.zero + c.one + c.two + c.missing

-- "all calls read": those of the accepted files, animals times markers each
unfoldable pub calls_read : List InputRecord → ℕ
calls_read [] = 0
calls_read (r ∷ rs) = if_done r.answer (r.iids * r.sids) 0 + calls_read rs

-- ---- the report from somewhere on
-- of some records: the number of the first, and the totals so far
abbrev pub report_on : ℕ → Counts → List InputRecord → List ℕ
report_on file sums rs = lines_from file rs ++ all_line (plus sums (totals (flat_map record_counts rs)))

-- of an input: how many records may still be read
unfoldable pub report_from : ℕ → Counts → ℕ → List ℕ → List ℕ
report_from file sums left input = report_on file sums (records left input)

-- from marker m of an accepted file on, of which n markers are left: the counts of its markers, and the input behind its record
unfoldable pub report_from_marker : ℕ → Counts → ℕ → (ℕ → Counts) → ℕ → ℕ → List ℕ → List ℕ
report_from_marker file sums left counts m n behind =
    marker_lines file m (tabulate n (λ k. counts (m + k)))
    ++ report_from (suc file) (plus sums (totals (tabulate n (λ k. counts (m + k))))) left behind
