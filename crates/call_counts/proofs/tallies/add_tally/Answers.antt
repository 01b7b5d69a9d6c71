-- `add_tally`: the four sums fit, and are stored.
use mathlib.Core.Path.{refl}
use Rattle.call_counts.proofs.TallyLaws.{added}
use Rattle.call_counts.proofs.tallies.add_tally.Goals as goal

pub returns : goal.returns
returns c = added c.args.counts.now c.args.at _ _ _ _ c.requires.0 c.args.packed refl refl refl refl
