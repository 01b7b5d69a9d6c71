-- `root::root_bits` meets its contract: `RoundedLaws` says that the pattern put together is the root's. Assumes nothing.
use lib.Ieee.{binary64, of_bits}
use Rattle.root.proofs.PatternLaws.{positive_at}
use Rattle.root.proofs.RoundedLaws.{rounded}
use Rattle.root.proofs.root_bits.Goals as goal

pub returns : goal.returns
returns c =
    let s = c.before.before.before in
    let d = c.digits_of-digits.result in
    let r = c.long_root-found.result in
    rounded binary64 (of_bits binary64 s.args.bits) d.digits d.exponent r.root r.rest (positive_at binary64 s.args.bits s.requires.0 s.requires.1)
    c.digits_of-digits.ensures c.long_root-found.ensures
