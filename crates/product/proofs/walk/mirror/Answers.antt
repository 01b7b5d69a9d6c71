use mathlib.Core.Path.{◌≡◌, sym, ap, ◌∙◌}
use Prim.Native.Nat.{ℕ, ◌*◌}
use native.Mathlib.Omega.{arith}
use lib.ListN.{length-set}
use Rattle.product.proofs.MirrorLaws.{mirrored, mirrored_none, mirrored_all, mirrored_step}
use Rattle.product.proofs.walk.mirror.Goals as goal

pub loop-c-preserved : goal.loop-c-preserved
loop-c-preserved c =
    let a = c.args in
    let v = c.loop-r in
    let w = c.loop-c in
    (simp length-set w.invariant.0, mirrored_step a.width c.requires.0 w.piece v.r w.c (omega arith) (omega arith) (omega arith) ∙ w.invariant.1)

pub returns : goal.returns
returns c =
    let w = c.loop-r in
    let n = c.args.width in
    let e : n ≡ w.r = omega arith in
    sym (mirrored_all n c.requires.0 w.piece) ∙ ap (λ (p : ℕ). mirrored n (p * n) w.piece) e ∙ w.invariant.1 ∙ mirrored_none n c.args.piece.now
