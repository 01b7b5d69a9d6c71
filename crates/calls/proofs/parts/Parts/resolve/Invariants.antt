-- `resolve`: the entries so far.
use Rattle.std.proofs.Common.{◌≡◌}
use Rattle.calls.specs.Places.{in_word}
use Rattle.calls.specs.Lists.{entry_byte, entry_place, begun_with}
use Rattle.calls.proofs.parts.Parts.resolve.Given as goal

abbrev pub invariant-loop-k : goal.invariant-loop-k
invariant-loop-k g l =
    (l.self.bytes ≡ begun_with l.k (λ k. in_word (entry_byte l.shape g.I.Item.is_animal l.list k)) l.fn.self.bytes)
    × (l.self.places ≡ begun_with l.k (entry_place l.shape g.I.Item.is_animal l.list) l.fn.self.places)
