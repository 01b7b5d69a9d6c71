-- `digits_of`: a normal value's digits as they stand, and a subnormal value's moved up.
use Rattle.std.proofs.Common.{◌-◌, arith}
use lib.Ieee.{binary64}
use Rattle.root.proofs.RoundedLaws.{first_below, scaled_normal, shifted_subnormal}
use Rattle.root.proofs.digits_of.Goals as goal

pub returns-then-bits-ge-LEADING : goal.returns-then-bits-ge-LEADING
returns-then-bits-ge-LEADING c = scaled_normal binary64 c.args.bits c.if-bits-ge-LEADING.true c.requires.1

pub overflow_sub-shift : goal.overflow_sub-shift
overflow_sub-shift c =
    let l = first_below c.ilog2-shift.result 52 c.args.bits c.ilog2-shift.ensures.power_le c.if-bits-ge-LEADING.false in
    omega arith

pub returns : goal.returns
returns c =
    let r = c.ilog2-shift.result in
    let e = c.ilog2-shift.ensures in
    let l = first_below r 52 c.args.bits e.power_le c.if-bits-ge-LEADING.false in
    rw c.from.ensures
    (shifted_subnormal c.args.bits r (52 - r) c.if-bits-ge-LEADING.false e.power_le e.next_power_gt (omega arith))
