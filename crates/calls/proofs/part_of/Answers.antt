-- `part_of`: a block's number, else an item's.
use Rattle.std.proofs.Common.{sym, ◌∙◌, rules}
use Rattle.calls.proofs.PlaceLaws.{item_adds, part_of}
use Rattle.calls.proofs.part_of.Goals as goal

pub returns : goal.returns
returns g c =
    part_of _ _ _ _ _ (sym c.if-are_blocks.false ∙ c.are_blocks.ensures) (item_adds _ _ _ (search rules) (search rules) (search rules))
