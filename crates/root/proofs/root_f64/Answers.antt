-- `root::root_f64` meets its contract: each way out is a case of `CaseLaws`. Assumes nothing.
use mathlib.Core.Path.{sym, ap, ◌∙◌, subst}
use lib.Dec.{T}
use lib.Ieee.{binary64, fits, of_bits, div}
use lib.Ieee.Bits.{of_bits-to_bits}
use Rattle.root.specs.Root.{root}
use Rattle.root.proofs.PatternLaws.{pattern_pos}
use Rattle.root.proofs.CaseLaws.{equals_zero, above_positive, above_all, neither, below_number}
use Rattle.root.proofs.root_f64.Goals as goal
use Rattle.root.proofs.root_f64.Goals.{Start}

-- the parameter holds a value of its format
held : (c : Start) → T (fits binary64 c.args.variance)
held c = subst T (sym c.well_formed.0.1) tt

pub returns-then-variance : goal.returns-then-variance
unfolding of_bits
returns-then-variance c = equals_zero binary64 c.args.variance c.if-variance.true

pub root_bits-requires : goal.root_bits-requires
unfolding of_bits
root_bits-requires c =
    let s = c.before.before.before in
    let p = above_positive binary64 s.args.variance c.if-variance-2.true c.if-bits-lt-INFINITY_BITS.true in
    (pattern_pos binary64 s.args.variance (held s) p, c.if-bits-lt-INFINITY_BITS.true)

pub float_from_bits-result : goal.float_from_bits-result
float_from_bits-result c = below_number binary64 c.root_bits.result c.root_bits.ensures.0

pub returns-then-bits-lt-INFINITY_BITS : goal.returns-then-bits-lt-INFINITY_BITS
returns-then-bits-lt-INFINITY_BITS c =
    let s = c.before.before.before.before in
    c.root_bits.ensures.1 ∙ ap (root binary64) (of_bits-to_bits binary64 s.args.variance (held s))

pub returns-then-variance-2 : goal.returns-then-variance-2
unfolding of_bits
returns-then-variance-2 c =
    let s = c.before.before.before in
    above_all binary64 s.args.variance (held s) c.if-variance-2.true c.if-bits-lt-INFINITY_BITS.false

pub returns : goal.returns
unfolding of_bits div
returns c = neither binary64 c.args.variance c.if-variance.false c.if-variance-2.false
