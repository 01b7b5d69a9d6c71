-- `buffer_at`, place by place.
use Rattle.std.proofs.Common.{arith, ◌∷◌, [], ◌++◌, sym, ap, ◌∙◌}
use Rattle.std.proofs.lemmas.List.{take_more_set}
use Rattle.std.proofs.lemmas.List.FromFn.{map-range_with_len_more}
use Rattle.stored_list.specs.Words.{word_at}
use Rattle.stored_list.proofs.line.Line.buffer_at.Goals as goal

pub loop-i-preserved : goal.loop-i-preserved
loop-i-preserved g c =
    let value = g.T.Stored.value in
    let i = c.loop-i.i in
    take_more_set c.loop-i.buffer i c.from_word.result (omega (arith, c.loop-i-test.true, c.loop-i.auto.buffer))
    ∙ ((λ k. c.loop-i.invariant k ++ ((c.from_word.ensures ∙ ap value c.word.ensures) k ∷ []))
    ∙ sym (map-range_with_len_more (λ i. value (word_at c.args.self.now c.args.section i)) 0 i i (omega arith)))
