-- `short_root`: two binary digits more.
use Rattle.root.proofs.WholeLaws.{short_turn}
use Rattle.root.proofs.short_root.Goals as goal

pub loop-left-preserved : goal.loop-left-preserved
loop-left-preserved c =
    let b = c.loop-left in
    short_turn c.args.n b.left b.found.root b.found.rest _ _ c.loop-left-test.true b.invariant c.next_digit-found.ensures
