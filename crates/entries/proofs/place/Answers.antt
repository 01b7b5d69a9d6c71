-- `place`: the entry itself, and from the back the machine's sum.
use Rattle.entries.proofs.EntryLaws.{place_back, place_front}
use Rattle.entries.proofs.place.Goals as goal

pub returns-then-entry-lt0 : goal.returns-then-entry-lt0
returns-then-entry-lt0 c = place_back _ _ c.ranges.entry _ c.wrapping_add_signed.ensures c.ranges.count.fits c.if-entry-lt0.true

pub returns-else-entry-lt0 : goal.returns-else-entry-lt0
returns-else-entry-lt0 c = place_front _ _ c.ranges.entry c.if-entry-lt0.false
