-- `keep_blocks`: the blocks so far are written, and of the next one the bytes so far.
use Rattle.std.proofs.Common.{◌+◌}
use Rattle.canonical.proofs.WholeLaws.{Written}
use Rattle.canonical.proofs.kept.keep_blocks.Given as goal

abbrev pub invariant-loop-b : goal.invariant-loop-b
invariant-loop-b l = Written l.fn.accepted.file.now l.shape l.width l.out l.m (l.m + 1) l.b 0

abbrev pub invariant-loop-m : goal.invariant-loop-m
invariant-loop-m l = Written l.fn.accepted.file.now l.shape l.width l.out l.m l.m 0 0
