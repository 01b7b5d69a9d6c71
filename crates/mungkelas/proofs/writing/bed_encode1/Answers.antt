-- `bed_encode1`: what the core answers, told. A value takes room, so the place of a bad one fits in a signed number.
use Rattle.std.proofs.Common.{length}
use Rattle.std.proofs.Math.Nat.{le-mul_of_pos_right, lt_of_le_of_lt}
use Rattle.bed_answer.proofs.AnswerLaws.{as_fits}
use Rattle.bed_answer.proofs.FitLaws.{encode_fits}
use Rattle.mungkelas.proofs.writing.bed_encode1.Goals as goal

pub returns : goal.returns
returns g c =
    let below = lt_of_le_of_lt (le-mul_of_pos_right (length c.args.in_vector.now) g.met.T.BedVal.takes_room) c.well_formed.0.1 in
    let said = c.encode1.ensures in
    (as_fits _ c.from.ensures said.0 (encode_fits (length c.args.in_vector.now) _ _ below), said.1)
