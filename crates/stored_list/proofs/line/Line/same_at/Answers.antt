-- `same_at`, pair by pair.
use Rattle.std.proofs.Common.{rules, tests, sym, ap, ◌∙◌, eqb}
use Rattle.std.proofs.lemmas.Iterator.{YieldsList-from_slice, YieldsList-from_zip}
use Rattle.std.proofs.lemmas.Iterator.Search.{all_from_yields_List}
use Rattle.stored_list.specs.Words.{words_at}
use Rattle.stored_list.proofs.ListLaws.{same_lengths, same_pairs}
use Rattle.stored_list.proofs.line.Line.same_at.Goals as goal

pub returns-then-got-len : goal.returns-then-got-len
returns-then-got-len g c =
    same_lengths g.T.Stored.word g.T.Stored.read c.args.got.now (words_at c.args.self.now c.args.section) (λ e. c.if-got-len.true (e ∙ sym c.len.ensures.0))

pub returns : goal.returns
returns g c =
    let word = g.T.Stored.word in
    let read = g.T.Stored.read in
    let ws = words_at c.args.self.now c.args.section in
    let elements = YieldsList-from_slice c.args.got.now (ap (λ it. it.rest.now) c.zip-pairs.ensures.first ∙ c.iter.ensures.rest) in
    let words = YieldsList-from_slice ws (ap (λ it. it.rest.now) c.zip-pairs.ensures.second ∙ c.iter-2.ensures.rest ∙ c.section.ensures.0) in
    let all = all_from_yields_List (λ p. eqb (word p.0) (read p.1)) c.all.new.self _ c.all.result c.all.ensures.ran (YieldsList-from_zip elements words) (λ x b q k. search (rules, tests)) in
    all ∙ same_pairs word read c.args.got.now ws (c.if-got-len.false ∙ c.len.ensures.0)
