-- `short_root`: the root so far is that of the number without its last `left` pairs of binary digits.
use Rattle.std.proofs.Common.{◌*◌, ◌/◌}
use Prim.Native.Nat.{◌^◌}
use Rattle.root.specs.Private.{IsWholeRoot}
use Rattle.root.proofs.short_root.Given as goal

abbrev pub invariant-loop-left : goal.invariant-loop-left
invariant-loop-left l = IsWholeRoot (l.n / 2 ^ (l.left * 2)) l.found.root l.found.rest
