-- `read`, byte by byte.
use Rattle.std.proofs.Common.{refl, [], arith, ◌≡◌, ◌+◌, ◌*◌, ◌^◌, ◌<◌, ◌≤◌, None, Some, sym, ap, ◌∙◌, drop, get_or, length, true}
use Rattle.std.specs.Bool.{then_some}
use Rattle.std.specs.Option.{unwrap_or}
use Rattle.stored_list.specs.Lines.{words_of, is_digit}
use Rattle.stored_list.specs.Readings.{listed, few, onto, before, words_left, until_bar}
use Rattle.stored_list.proofs.ReadLaws.{section_begun, parted, at_space, at_digit, at_other, at_long, at_close, at_end, longer, closed, ended, some_words, digit_not_bar, section_closed, err_only}
use Rattle.stored_list.proofs.words.Words.read.Goals as goal
use Rattle.stored_list.proofs.words.Words.read.Goals.{then-is_digit+else-number, else-is_digit+then-byte-eq32+in_ok-push}

pub loop-i-init : goal.loop-i-init
loop-i-init c = (section_begun c.args.bytes.now, refl, omega arith, λ _. refl)

pub returns-then-number : goal.returns-then-number
returns-then-number c =
    let bytes = c.args.bytes.now in
    let i = c.loop-i.i in
    let low = c.loop-i-test.true in
    let w = then_some c.loop-i.is_word c.loop-i.number in
    let d : is_digit (get_or bytes i 0) ≡ true = sym c.is_digit.ensures ∙ c.if-is_digit.true in
    let many : 2 ^ 60 ≤ unwrap_or w 0 = omega (arith, c.if-number.true, c.loop-i.invariant.1) in
    some_words bytes i low c.loop-i.invariant.2 (digit_not_bar (get_or bytes i 0) d) None
    (at_long bytes (listed c.loop-i.self) w i low (parted (until_bar bytes)) c.loop-i.invariant.0 d many)

pub returns-in_err-push : goal.returns-in_err-push
returns-in_err-push c =
    let bytes = c.args.bytes.now in
    let i = c.loop-i.i in
    let low = c.loop-i-test.true in
    let w = then_some c.loop-i.is_word c.loop-i.number in
    let left = drop (i + 1) bytes in
    let e = at_space bytes (listed c.loop-i.self) w i low (parted (until_bar bytes)) c.loop-i.invariant.0 (sym c.is_digit.ensures ∙ c.if-is_digit.false) c.if-byte-eq32.true in
    err_only c.from_residual.result (λ n. (n ≡ length (until_bar bytes)) × (words_of (until_bar bytes) ≡ Some (listed c.push.new.self))) (words_of (until_bar bytes) ≡ None) c.from_residual.ensures.0
    (some_words bytes i low c.loop-i.invariant.2 (λ b. omega (arith, b, c.if-byte-eq32.true)) None
    (e ∙ ap (λ o. few (onto (listed c.loop-i.self) (before o (words_left None left)))) (sym c.then_some.ensures) ∙ c.in_err-push.ensures (words_left None left)))

pub returns-then-byte-eq124 : goal.returns-then-byte-eq124
returns-then-byte-eq124 c =
    let bytes = c.args.bytes.now in
    let i = c.loop-i.i in
    let low = c.loop-i-test.true in
    let w = then_some c.loop-i.is_word c.loop-i.number in
    let e = at_close bytes (listed c.loop-i.self) w i low (parted (until_bar bytes)) c.loop-i.invariant.0 (sym c.is_digit.ensures ∙ c.if-is_digit.false) c.if-byte-eq32.false c.if-byte-eq124.true in
    section_closed c.close.result bytes c.then_some-then-byte-eq124.result i c.loop-i.self c.close.new.self (closed bytes [] w i low c.loop-i.invariant.2 c.if-byte-eq124.true)
    (e ∙ ap (λ o. few (onto (listed c.loop-i.self) (before o (Some [])))) (sym c.then_some-then-byte-eq124.ensures)) c.loop-i.invariant.3 c.close.ensures

pub returns-else-byte-eq124 : goal.returns-else-byte-eq124
returns-else-byte-eq124 c =
    let bytes = c.args.bytes.now in
    let i = c.loop-i.i in
    let low = c.loop-i-test.true in
    let w = then_some c.loop-i.is_word c.loop-i.number in
    some_words bytes i low c.loop-i.invariant.2 c.if-byte-eq124.false None
    (at_other bytes (listed c.loop-i.self) w i low (parted (until_bar bytes)) c.loop-i.invariant.0 (sym c.is_digit.ensures ∙ c.if-is_digit.false) c.if-byte-eq32.false c.if-byte-eq124.false)

pub loop-i-preserved : goal.loop-i-preserved
loop-i-preserved c =
    let bytes = c.args.bytes.now in
    let i = c.loop-i.i in
    let low = c.loop-i-test.true in
    let s = c.loop-i.self in
    let w = then_some c.loop-i.is_word c.loop-i.number in
    let left = drop (i + 1) bytes in
    let X = parted (until_bar bytes) in
    elim c.if-is_digit.branch [
      | then-is_digit+else-number k ↦
          let d : is_digit (get_or bytes i 0) ≡ true = sym c.is_digit.ensures ∙ k.if-is_digit.true in
          let room : unwrap_or w 0 < 2 ^ 60 = omega (arith, k.if-number.false, c.loop-i.invariant.1) in (
            at_digit bytes (listed s) w i low X c.loop-i.invariant.0 d room
                ∙ (λ j. few (onto (listed (sym k.self-is j)) (words_left (Some (16 * sym c.loop-i.invariant.1 j + sym k.digit.ensures j)) left)))
                ∙ (λ j. few (onto (listed c.if-is_digit.self) (words_left (then_some (sym k.is_word-is j) (sym k.number-is j)) left))),
            k.number-is ∙ (λ j. unwrap_or (then_some (sym k.is_word-is j) (sym k.number-is j)) 0),
            longer bytes [] w i low c.loop-i.invariant.2 (digit_not_bar (get_or bytes i 0) d),
            λ z. absurd (omega (arith, z)),
          )
      | else-is_digit+then-byte-eq32+in_ok-push k ↦ (
        at_space bytes (listed s) w i low X c.loop-i.invariant.0 (sym c.is_digit.ensures ∙ k.if-is_digit.false) k.if-byte-eq32.true
            ∙ ap (λ o. few (onto (listed s) (before o (words_left None left)))) (sym k.then_some.ensures)
            ∙ k.in_ok-push.ensures (words_left None left)
            ∙ (λ j. few (onto (listed (sym k.self-is j)) (words_left (then_some (sym k.is_word-is j) (sym k.number-is j)) left))),
        k.number-is ∙ (λ j. unwrap_or (then_some (sym k.is_word-is j) (sym k.number-is j)) 0),
        longer bytes [] w i low c.loop-i.invariant.2 (λ b. omega (arith, b, k.if-byte-eq32.true)),
        λ z. absurd (omega (arith, z)),
      )
    ]

pub returns : goal.returns
returns c =
    let bytes = c.args.bytes.now in
    let i = c.loop-i.i in
    let w = then_some c.loop-i.is_word c.loop-i.number in
    let n = length bytes in
    let e = at_end bytes (listed c.loop-i.self) w i c.loop-i-test.false (parted (until_bar bytes)) c.loop-i.invariant.0 in
    let l : length (until_bar bytes) ≡ i = ended bytes i c.loop-i-test.false c.loop-i.invariant.2 in
    let same : i ≡ n = omega (arith, c.loop-i-test.false, c.loop-i.auto.i-end) in
    section_closed c.close-2.result bytes c.then_some-2.result n c.loop-i.self c.close-2.new.self (l ∙ same)
    (e ∙ ap (λ o. few (onto (listed c.loop-i.self) (before o (Some [])))) (sym c.then_some-2.ensures)) (λ z. c.loop-i.invariant.3 (same ∙ z)) c.close-2.ensures
