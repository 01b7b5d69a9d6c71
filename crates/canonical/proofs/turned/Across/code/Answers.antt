-- `code`: the table has the code at the item's byte and place.
use Rattle.std.proofs.Common.{◌∙◌, ap, arith}
use Rattle.codes.specs.Code.{code_at}
use Rattle.canonical.specs.Private.{group_code}
use Rattle.canonical.proofs.turned.Across.code.Goals as goal

pub returns : goal.returns
unfolding group_code
returns c = c.code_of_item.ensures ∙ ap (code_at _) (omega (arith, c.args.self.now.inside.place_in))
