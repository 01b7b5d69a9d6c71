-- The code where there is a value, else a pad.
use Rattle.std.proofs.Common.{◌∙◌, refl}
use Rattle.bed_write.specs.Private.{by_tests, strided}
use Rattle.bed_write.proofs.FirstLaws.{good_read}
use Rattle.bed_write.proofs.GroupLaws.{held_there, held_pad}
use Rattle.bed_write.proofs.group.Strided.held.Goals as goal

pub returns-then-k-self : goal.returns-then-k-self
returns-then-k-self g c =
    λ good.
    let s = c.args.self.now in
    let k = g.C.Coder.coding c.args.coder.now in
    let h = c.if-k-self.true in
    good_read g.T.BedVal.width k.is_a1_counted k.missing s.val.now _ _ c.index-self-at.result (s.inside _ h c.requires) refl _ c.code.ensures (good h)
    ∙ held_there s.left (strided (by_tests g.T.BedVal.width k s.val.now) s.start s.stride) c.args.k h

pub returns-else-k-self : goal.returns-else-k-self
returns-else-k-self g c = λ good. held_pad _ _ _ c.if-k-self.false
