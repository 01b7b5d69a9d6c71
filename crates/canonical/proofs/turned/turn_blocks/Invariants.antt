-- `turn_blocks`: tile by tile, every byte is the canonical file's.
use Rattle.std.proofs.Common.{◌-◌}
use Rattle.canonical.proofs.WholeLaws.{Written}
use Rattle.canonical.proofs.turned.turn_blocks.Given as goal

abbrev pub invariant-loop-m : goal.invariant-loop-m
invariant-loop-m l = Written l.fn.accepted.file.now l.shape l.width l.out l.from l.until l.b l.m

abbrev pub invariant-loop-b : goal.invariant-loop-b
invariant-loop-b l = Written l.fn.accepted.file.now l.shape l.width l.out l.from l.until l.b 0

abbrev pub invariant-loop-from : goal.invariant-loop-from
invariant-loop-from l = Written l.fn.accepted.file.now l.shape l.width l.out l.from l.from 0 0

abbrev pub decreases-loop-from : goal.decreases-loop-from
decreases-loop-from l = l.shape.sids - l.from
