-- Records: what is found of a whole one, of one that is turned away, and behind it.
use mathlib.Core.Path.{◌≡◌, refl, sym, ap, ◌∙◌}
use mathlib.Core.Bool.{Bool, true, false, cond}
use mathlib.Core.List.{List, [], ◌∷◌, ◌++◌, map, flat_map, append_assoc, append-nil}
use Prim.Native.Nat.{ℕ, zero, suc, ◌+◌, ◌-◌, ◌*◌, ◌/◌, ◌^◌, ◌<◌, ◌≤◌}
use native.Mathlib.Nat.{pow-suc}
use native.Mathlib.Omega.{arith}
use borrow.Author.Tests.{leb-true, le-leb, lt-leb}
use lib.Dec.{leb}
use lib.ListN.{length, take, drop, length-append, length-drop, drop_of_length-le}
use lib.Seq.{take-append-le, drop-append-le, take_all}
use Rattle.answer.specs.Answer.{Answer, done, refused, is_done}
use Rattle.answer.proofs.AnswerLaws.{check_passes, check_refuses, check_done, Stage, check_stage, then_stage}
use Rattle.bed_file.specs.File.{accept_answer}
use Rattle.product.specs.Values.{le_number}
use Rattle.rates.specs.Input.{number_at, animals, markers, file_bytes, header_bytes, file_of, rest, file_limit, check_record, InputRecord, record_at, goes_on, records, record_limit, run}
use Rattle.rates.specs.Words.{Whole, le_bytes, Sent, written, sent_record}

-- ---- the checks of a record
-- 21 and 22 let the file's own checks speak, or refuse whatever they say
pub record_stage : (input : List ℕ) → Stage (λ later. check_record input later)
unfolding check_record
record_stage input =
    then_stage (check_stage (leb header_bytes (length input)) 22)
    (then_stage (check_stage (leb (file_bytes input) file_limit) 21) (check_stage (leb (header_bytes + file_bytes input) (length input)) 22))

module _ (input : List ℕ) where
  pub heard_if_whole : Whole input → (later : Answer) → check_record input later ≡ later
  unfolding check_record
  heard_if_whole w later =
      check_passes _ 22 _ (le-leb header_bytes (length input) w.header)
      ∙ check_passes _ 21 _ (le-leb (file_bytes input) file_limit w.short)
      ∙ check_passes _ 22 later (le-leb (header_bytes + file_bytes input) (length input) w.body)

  pub goes_if_whole : Whole input → goes_on input ≡ true
  unfolding goes_on
  goes_if_whole w = ap is_done (heard_if_whole w (done []))

  pub whole_if_goes : goes_on input ≡ true → Whole input
  unfolding goes_on check_record
  whole_if_goes e =
      let a = check_done _ 22 _ e in
      let b = check_done _ 21 _ a.1 in
      let c = check_done _ 22 _ b.1 in
      record { header = leb-true _ _ a.0; short = leb-true _ _ b.0; body = leb-true _ _ c.0 }

  -- ---- turned away, whatever the file's own checks would say
  -- a header of fewer than 24 bytes, whatever stands in it
  pub header_cut : length input < 24 → (later : Answer) → check_record input later ≡ refused 22 []
  unfolding check_record
  header_cut h later = check_refuses _ 22 _ (lt-leb header_bytes (length input) h)

  -- the length stands in the header and is too large, whether its bytes are there or not
  pub too_long : 24 ≤ length input → 65536 < file_bytes input → (later : Answer) → check_record input later ≡ refused 21 []
  unfolding check_record
  too_long h l later = check_passes _ 22 _ (le-leb header_bytes (length input) h) ∙ check_refuses _ 21 _ (lt-leb (file_bytes input) file_limit l)

  pub file_cut : 24 ≤ length input → file_bytes input ≤ 65536 → length input < 24 + file_bytes input → (later : Answer) → check_record input later ≡ refused 22 []
  unfolding check_record
  file_cut h s c later =
      check_passes _ 22 _ (le-leb header_bytes (length input) h)
      ∙ check_passes _ 21 _ (le-leb (file_bytes input) file_limit s)
      ∙ check_refuses _ 22 later (lt-leb (header_bytes + file_bytes input) (length input) c)

  -- behind a record that ends early nothing stands
  pub nothing_behind_22 : length input < 24 + file_bytes input → rest input ≡ []
  nothing_behind_22 h = drop_of_length-le input {i = header_bytes + file_bytes input} (omega arith)

-- ---- with more behind
module _ (input more : List ℕ) where
  pub number_stays : (place : ℕ) → place + 8 ≤ length input → number_at (input ++ more) place ≡ number_at input place
  unfolding number_at
  number_stays place h =
      ap (λ (l : List ℕ). le_number (take 8 l)) (drop-append-le place input more (omega arith))
      ∙ ap le_number (take-append-le 8 (drop place input) more (omega (arith, length-drop place input)))

  module _ (h : 24 ≤ length input) where
    pub bytes_stay : file_bytes (input ++ more) ≡ file_bytes input
    bytes_stay = number_stays 16 (omega arith)

  module _ (w : Whole input) where
    same : file_bytes (input ++ more) ≡ file_bytes input
    same = bytes_stay w.header

    pub whole_stays : Whole (input ++ more)
    whole_stays =
        let e = same in
        let l = length-append input more in
        record { header = omega (arith, w.header); short = omega (arith, w.short); body = omega (arith, w.body) }

    pub file_stays : file_of (input ++ more) ≡ file_of input
    file_stays =
        ap (λ (n : ℕ). take n (drop header_bytes (input ++ more))) same
        ∙ ap (take (file_bytes input)) (drop-append-le header_bytes input more w.header)
        ∙ take-append-le (file_bytes input) (drop header_bytes input) more (omega (arith, length-drop header_bytes input, w.body))

    pub rest_stays : rest (input ++ more) ≡ rest input ++ more
    rest_stays = ap (λ (n : ℕ). drop (header_bytes + n) (input ++ more)) same ∙ drop-append-le (header_bytes + file_bytes input) input more w.body

    -- the record stays what it was
    pub record_stays : record_at (input ++ more) ≡ record_at input
    unfolding record_at
    record_stays =
        λ i. record { iids = a i; sids = m i; file = file_stays i; answer = b i }
      where
        a : animals (input ++ more) ≡ animals input
        a = number_stays 0 (omega (arith, w.header))

        m : markers (input ++ more) ≡ markers input
        m = number_stays 8 (omega (arith, w.header))

        b : check_record (input ++ more) (accept_answer (file_of (input ++ more)) (animals (input ++ more)) (markers (input ++ more)))
            ≡ check_record input (accept_answer (file_of input) (animals input) (markers input))
        b = heard_if_whole (input ++ more) whole_stays _ ∙ (λ i. accept_answer (file_stays i) (a i) (m i)) ∙ sym (heard_if_whole input w _)

-- ---- the records of a run, one at a time
pub records_nothing : (left : ℕ) → records left [] ≡ []
unfolding records
records_nothing zero = refl
records_nothing (suc left) = refl

pub records_whole : (left : ℕ) (input : List ℕ) → Whole input → records (suc left) input ≡ record_at input ∷ records left (rest input)
unfolding records
records_whole left [] w = absurd (omega (arith, w.header))
records_whole left (b ∷ bs) w = ap (λ (t : Bool). record_at (b ∷ bs) ∷ cond t (records left (rest (b ∷ bs))) []) (goes_if_whole (b ∷ bs) w)

pub records_ended : (left : ℕ) (input : List ℕ) → 0 < length input → goes_on input ≡ false → records (suc left) input ≡ record_at input ∷ []
unfolding records
records_ended left [] h e = absurd (omega arith)
records_ended left (b ∷ bs) h e = ap (λ (t : Bool). record_at (b ∷ bs) ∷ cond t (records left (rest (b ∷ bs))) []) e

-- a number of records that is 0 of none, and that each record raises by `each` at most
pub records_bound :
    (f : List InputRecord → ℕ) (each : ℕ) → f [] ≡ 0 → ((input : List ℕ) (rs : List InputRecord) → f (record_at input ∷ rs) ≤ each + f rs)
    → (left : ℕ) (input : List ℕ) → f (records left input) ≤ left * each
unfolding records
records_bound f each z h zero input = omega arith
records_bound f each z h (suc left) [] = omega arith
records_bound f each z h (suc left) (b ∷ bs) =
    let a = h (b ∷ bs) (cond (goes_on (b ∷ bs)) (records left (rest (b ∷ bs))) []) in
    let l = later (goes_on (b ∷ bs)) (records left (rest (b ∷ bs))) (records_bound f each z h left (rest (b ∷ bs))) in
    omega arith
  where
    later : (t : Bool) (rs : List InputRecord) → f rs ≤ left * each → f (cond t rs []) ≤ left * each
    later true rs l = l
    later false rs l = omega arith

-- no more records than 1,000,000
pub run_most : (input : List ℕ) → length (run input) ≤ 1000000
unfolding run
run_most input = let h = records_bound length 1 refl (λ bytes rs. omega arith) record_limit input in omega arith

-- ---- what a sender writes is what a run finds
pub number_back : (k n : ℕ) → n < 256 ^ k → le_number (le_bytes k n) ≡ n
unfolding le_number le_bytes
number_back zero n h = omega arith
number_back (suc k) n h =
    let p = pow-suc 256 k in
    let r = number_back k (n / 256) (omega arith) in
    omega arith

module _ (s : Sent) where
  bytes_written : file_bytes (written s) ≡ length s.file
  unfolding number_at written le_bytes
  bytes_written = number_back 8 (length s.file) (omega (arith, s.file_fits))

  pub written_whole : Whole (written s)
  unfolding written le_bytes
  written_whole =
      let e = bytes_written in
      record { header = omega arith; short = omega (arith, s.file_fits); body = omega arith }

  file_written : file_of (written s) ≡ s.file
  unfolding written le_bytes
  file_written = take_all (file_bytes (written s)) s.file (omega (arith, bytes_written))

  pub nothing_behind : rest (written s) ≡ []
  unfolding written le_bytes
  nothing_behind = drop_of_length-le (written s) {i = header_bytes + file_bytes (written s)} (let e = bytes_written in omega arith)

  animals_written : animals (written s) ≡ s.iids
  unfolding number_at written le_bytes
  animals_written = number_back 8 s.iids s.iids_fit

  markers_written : markers (written s) ≡ s.sids
  unfolding number_at written le_bytes
  markers_written = number_back 8 s.sids s.sids_fit

  answer_written :
      check_record (written s) (accept_answer (file_of (written s)) (animals (written s)) (markers (written s))) ≡ accept_answer s.file s.iids s.sids
  answer_written = heard_if_whole (written s) written_whole _ ∙ (λ i. accept_answer (file_written i) (animals_written i) (markers_written i))

  pub record_written : record_at (written s) ≡ sent_record s
  unfolding record_at sent_record
  record_written = λ i. record { iids = animals_written i; sids = markers_written i; file = file_written i; answer = answer_written i }

  -- a record as sent, and more
  pub records_sent : (left : ℕ) (more : List ℕ) → records (suc left) (written s ++ more) ≡ sent_record s ∷ records left more
  records_sent left more =
      records_whole left (written s ++ more) (whole_stays (written s) more written_whole)
      ∙ (λ i. (record_stays (written s) more written_whole ∙ record_written) i
      ∷ records left ((rest_stays (written s) more written_whole ∙ ap (λ (l : List ℕ). l ++ more) nothing_behind) i))

-- a run of as many records as may be read, and whatever stands behind them
pub records_all_sent :
    (left : ℕ) (ss : List Sent) (more : List ℕ) → length ss ≤ left
    → records left (flat_map written ss ++ more) ≡ map sent_record ss ++ records (left - length ss) more
unfolding flat_map
records_all_sent left [] more h = let e : left ≡ left - 0 = omega arith in ap (λ (n : ℕ). records n more) e
records_all_sent zero (s ∷ ss) more h = absurd (omega arith)
records_all_sent (suc left) (s ∷ ss) more h =
    let e : left - length ss ≡ suc left - suc (length ss) = omega arith in
    ap (records (suc left)) (append_assoc (written s) (flat_map written ss) more)
    ∙ records_sent s left (flat_map written ss ++ more)
    ∙ ap (λ (rs : List InputRecord). sent_record s ∷ rs) (records_all_sent left ss more (omega arith) ∙ ap (λ (n : ℕ). map sent_record ss ++ records n more) e)

-- a run finds every record that is sent, if they are no more than 1,000,000
pub run_sent : (ss : List Sent) → length ss ≤ 1000000 → run (flat_map written ss) ≡ map sent_record ss
unfolding run
run_sent ss h =
    ap (records record_limit) (sym (append-nil (flat_map written ss)))
    ∙ records_all_sent record_limit ss [] h
    ∙ ap (λ (rs : List InputRecord). map sent_record ss ++ rs) (records_nothing (record_limit - length ss))
    ∙ append-nil (map sent_record ss)

-- and nothing after the 1,000,000th, whatever it is
pub run_stops : (ss : List Sent) (more : List ℕ) → length ss ≡ 1000000 → run (flat_map written ss ++ more) ≡ map sent_record ss
unfolding run records
run_stops ss more e =
    let z : record_limit - length ss ≡ 0 = omega arith in
    records_all_sent record_limit ss more (omega arith)
    ∙ ap (λ (n : ℕ). map sent_record ss ++ records n more) z
    ∙ append-nil (map sent_record ss)
