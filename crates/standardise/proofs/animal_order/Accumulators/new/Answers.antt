-- `new`: zeros.
use lib.Ieee.{of_bits}
use Rattle.standardise.proofs.TileLaws.{zeros_start}
use Rattle.standardise.proofs.animal_order.Accumulators.new.Goals as goal

pub returns : goal.returns
unfolding of_bits
returns c = λ j h. zeros_start j h
