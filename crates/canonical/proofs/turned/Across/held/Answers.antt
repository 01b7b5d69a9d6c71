-- `held`: the code in a block that is there, else a pad.
use Rattle.std.proofs.Common.{◌∙◌}
use Rattle.canonical.specs.Private.{group_code}
use Rattle.bed_write.proofs.GroupLaws.{held_there, held_pad}
use Rattle.canonical.proofs.turned.Across.held.Goals as goal

pub returns-then-k-self : goal.returns-then-k-self
returns-then-k-self c = let s = c.args.self.now in c.code.ensures ∙ held_there s.left (group_code s.file.now s.starts.now s.item) c.args.k c.if-k-self.true

pub returns-else-k-self : goal.returns-else-k-self
returns-else-k-self c = held_pad _ _ _ c.if-k-self.false
