-- `byte`: four codes, or what is left of them, make a byte.
use Rattle.std.proofs.Common.{◌∙◌}
use Rattle.bed_write.specs.Groups.{in_group}
use Rattle.bed_write.proofs.GroupLaws.{held_pad}
use Rattle.canonical.specs.Private.{group_code}
use Rattle.canonical.proofs.TurnLaws.{four_same, four_held}
use Rattle.canonical.proofs.turned.Across.byte.Goals as goal

pub returns-then-self-gt3 : goal.returns-then-self-gt3
returns-then-self-gt3 c =
    let s = c.args.self.now in
    c.byte_of.ensures
    ∙ four_held s.left (group_code s.file.now s.starts.now s.item) _ _ _ _ c.if-self-gt3.true
    c.code.ensures c.code-then-self-gt3.ensures c.code-then-self-gt3-2.ensures c.code-then-self-gt3-3.ensures

pub returns : goal.returns
unfolding in_group
returns c =
    let s = c.args.self.now in
    c.byte_of-2.ensures
    ∙ four_same _ _ _ _ _ _ _ _ c.held.ensures c.held-2.ensures c.held-3.ensures (held_pad s.left (group_code s.file.now s.starts.now s.item) 3 c.if-self-gt3.false)
