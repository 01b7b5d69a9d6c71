use mathlib.Core.Path.{◌≡◌}
use Prim.Native.Nat.{◌+◌, ◌*◌}
use lib.ListN.{length}
use Rattle.product.proofs.MirrorLaws.{mirrored}
use Rattle.product.proofs.walk.mirror.Given as goal

abbrev pub invariant-loop-c : goal.invariant-loop-c
invariant-loop-c l =
    (length l.piece ≡ length l.initial.piece) × (mirrored l.width (l.r * l.width + l.c) l.piece ≡ mirrored l.width (l.r * l.width + l.initial.c) l.initial.piece)

abbrev pub invariant-loop-r : goal.invariant-loop-r
invariant-loop-r l = (length l.piece ≡ length l.initial.piece) × (mirrored l.width (l.r * l.width) l.piece ≡ mirrored l.width 0 l.initial.piece)
