-- `parse`, section by section.
use Rattle.std.proofs.Common.{refl, length-set, ◌∙◌, ◌+◌, ◌-◌, length, take, drop, sym, ap, arith}
use Rattle.stored_list.specs.Lines.{each, words_of, line_of}
use Rattle.stored_list.specs.Readings.{until_bar}
use Rattle.stored_list.specs.Words.{sections_in}
use Rattle.stored_list.proofs.ReadLaws.{all_sections, sections_from, section_at, section_ends, no_section, section_wrong, section_taken, too_few, too_many, just_enough, nothing_made}
use Rattle.stored_list.proofs.line.Line.parse.Goals as goal

pub loop-section-init : goal.loop-section-init
loop-section-init c = (all_sections c.args.text.now, refl, omega arith)

pub returns-then-from-bytes : goal.returns-then-from-bytes
returns-then-from-bytes c =
    let text = c.args.text.now in
    let from = c.loop-section.from in
    sym (too_few text c.loop-section.section-items c.loop-section.section-index (sections_from from text) c.loop-section.invariant.0 c.loop-section-test.true (no_section from text (omega (arith, c.if-from-bytes.true, ap length c.as_bytes-bytes.ensures.value))))

pub returns-in_err-from : goal.returns-in_err-from
returns-in_err-from c =
    let text = c.args.text.now in
    let bytes = c.as_bytes-bytes.result.now in
    let from = c.loop-section.from in
    let section = until_bar (take (length bytes - from) (drop from bytes)) in
    let n = length section in
    let left = section_at text bytes c.as_bytes-bytes.ensures.value from n c.if-from-bytes.false refl in
    nothing_made sections_in c.from_residual.result (line_of text) c.from_residual.ensures.0
    (section_wrong text c.loop-section.section-items c.loop-section.section-index (sections_from from text) c.loop-section.invariant.0 (words_of section) (each words_of (sections_from (from + (n + 1)) text)) left c.in_err-from.ensures)

pub overflow_add-from : goal.overflow_add-from
overflow_add-from c =
    let ends = section_ends c.args.text.now c.as_bytes-bytes.result.now c.as_bytes-bytes.ensures.value c.loop-section.from c.in_ok-from.field-0 c.if-from-bytes.false c.in_ok-from.ensures.0 in
    omega (arith, ends)

pub overflow_add-from-in-loop-section : goal.overflow_add-from-in-loop-section
overflow_add-from-in-loop-section c =
    let ends = section_ends c.args.text.now c.as_bytes-bytes.result.now c.as_bytes-bytes.ensures.value c.loop-section.from c.in_ok-from.field-0 c.if-from-bytes.false c.in_ok-from.ensures.0 in
    omega (arith, ends)

pub loop-section-preserved : goal.loop-section-preserved
loop-section-preserved c =
    let text = c.args.text.now in
    let bytes = c.as_bytes-bytes.result.now in
    let from = c.loop-section.from in
    let n = c.in_ok-from.field-0 in
    let i = c.loop-section.section-index in
    let section = until_bar (take (length bytes - from) (drop from bytes)) in
    let left = section_at text bytes c.as_bytes-bytes.ensures.value from n c.if-from-bytes.false c.in_ok-from.ensures.0 in
    let fits = section_ends text bytes c.as_bytes-bytes.ensures.value from n c.if-from-bytes.false c.in_ok-from.ensures.0 in (
      section_taken text c.loop-section.section-items i (sections_from from text) c.loop-section.invariant.0 (words_of section) (each words_of (sections_from (from + (n + 1)) text)) c.read.new.self
          (omega (arith, c.loop-section-test.true, c.loop-section.invariant.1)) left c.in_ok-from.ensures.1,
      length-set c.loop-section.section-items i c.read.new.self ∙ c.loop-section.invariant.1,
      omega (arith, fits),
    )

pub returns-then-from-bytes-2 : goal.returns-then-from-bytes-2
returns-then-from-bytes-2 c =
    let text = c.args.text.now in
    let bytes = c.as_bytes-bytes.result.now in
    let from = c.loop-section.from in
    let section = until_bar (take (length bytes - from) (drop from bytes)) in
    let n = length section in
    let left = section_at text bytes c.as_bytes-bytes.ensures.value from n c.if-from-bytes-2.true refl in
    sym (too_many text c.loop-section.section-items c.loop-section.section-index (sections_from from text) c.loop-section.invariant.0 (omega (arith, c.loop-section-test.false, c.loop-section-test.array_long)) c.loop-section-test.array_long
    (words_of section) (each words_of (sections_from (from + (n + 1)) text)) left)

pub invariant_of-result : goal.invariant_of-result
invariant_of-result c =
    let text = c.args.text.now in
    let from = c.loop-section.from in
    record {
      has_form = just_enough text c.loop-section.section-items c.loop-section.section-index (sections_from from text) c.loop-section.invariant.0 (omega (arith, c.loop-section-test.false, c.loop-section-test.array_long)) c.loop-section-test.array_long
          (no_section from text (omega (arith, c.if-from-bytes-2.false, ap length c.as_bytes-bytes.ensures.value)));
    }
