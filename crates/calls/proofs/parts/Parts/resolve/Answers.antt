use Rattle.std.proofs.Common.{arith, rules}
use Rattle.calls.proofs.PlaceLaws.{place_below}
use Rattle.calls.proofs.ListLaws.{begun_none, begun_all, resolved_more}
use Rattle.calls.proofs.parts.Parts.resolve.Goals as goal

pub loop-k-init : goal.loop-k-init
loop-k-init g c = (begun_none _ _ (search rules), begun_none _ _ (search rules))

pub overflow_cast-self : goal.overflow_cast-self
overflow_cast-self g c = omega (arith, place_below _ _ _ _ c.entry_part-part.ensures)

pub loop-k-preserved : goal.loop-k-preserved
loop-k-preserved g c =
    resolved_more c.args.shape _ c.args.list.now _ _ _ _ _ _ (search rules) (omega arith) c.entry_part-part.ensures c.loop-k.invariant

pub returns : goal.returns
returns g c =
    let i = c.loop-k.invariant in (begun_all _ _ _ _ _ i.0 (search rules), begun_all _ _ _ _ _ i.1 (search rules))
