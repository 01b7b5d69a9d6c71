-- `write`: the header, then the blocks by the mode.
use Rattle.std.proofs.Common.{arith}
use Rattle.canonical.proofs.WholeLaws.{only_header, begun}
use Rattle.canonical.proofs.accepted.Accepted.write.Goals as goal

pub returns-then-self-eq0 : goal.returns-then-self-eq0
returns-then-self-eq0 c = let a = c.args.self.now in only_header a.file.now a.shape a.out_width a.width_is c.args.out.now c.requires _ c.copy_from_slice.ensures.after c.if-self-eq0.true

pub keep_blocks-requires : goal.keep_blocks-requires
keep_blocks-requires c = let a = c.args.self.now in (begun a.file.now a.shape a.out_width a.width_is c.args.out.now c.requires _ c.copy_from_slice.ensures.after, c.if-self.true, let h = c.if-self-eq0.false in omega arith)

pub turn_blocks-requires : goal.turn_blocks-requires
turn_blocks-requires c = let a = c.args.self.now in (begun a.file.now a.shape a.out_width a.width_is c.args.out.now c.requires _ c.copy_from_slice.ensures.after, c.if-self.false)
