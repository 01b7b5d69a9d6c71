-- `word`, by its digits.
use Rattle.std.proofs.Common.{rules, tests, sym, ◌∙◌}
use Rattle.std.proofs.lemmas.Iterator.Adapters.{YieldsList-from_bytes}
use Rattle.std.proofs.lemmas.Iterator.Search.{all_from_yields_List}
use Rattle.stored_list.specs.Lines.{is_digit}
use Rattle.stored_list.proofs.TextLaws.{word_read, no_word}
use Rattle.stored_list.proofs.text.word.Goals as goal

pub returns-then-all : goal.returns-then-all
returns-then-all c =
    let all = all_from_yields_List is_digit _ _ c.all.result c.all.ensures.ran (YieldsList-from_bytes c.args.text.now c.bytes.ensures.rest) (λ x b q k. search (rules, tests)) in
    c.ok.ensures.value ∙ word_read c.args.text.now c.from_str_radix.result (sym all ∙ c.if-all.true) c.from_str_radix.ensures.value

pub returns-else-all : goal.returns-else-all
returns-else-all c =
    let all = all_from_yields_List is_digit _ _ c.all.result c.all.ensures.ran (YieldsList-from_bytes c.args.text.now c.bytes.ensures.rest) (λ x b q k. search (rules, tests)) in
    no_word c.args.text.now (sym all ∙ c.if-all.false)
