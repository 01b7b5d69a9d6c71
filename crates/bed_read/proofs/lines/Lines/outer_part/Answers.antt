-- What the item adds that the entry means.
use Rattle.std.proofs.Common.{rules}
use Rattle.calls.proofs.ListLaws.{outer_entry}
use Rattle.bed_read.proofs.lines.Lines.outer_part.Goals as goal

pub returns : goal.returns
returns g c = outer_entry _ _ _ _ _ c.args.self.now.ready (search rules) _ c.requires (search rules) _ c.entry_part.ensures
