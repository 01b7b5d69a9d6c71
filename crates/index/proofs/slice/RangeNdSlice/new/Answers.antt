-- `RangeNdSlice::new` makes the checks of a slice and finds what its numbers mean.
use Rattle.std.proofs.Common.{◌≡◌, ◌≤◌, ℤ, pos, sym, ap, ◌∙◌, arith}
use native.Mathlib.Nat.{pos_of_ne-zero}
use borrow.Author.Rules.{rules}
use lib.IntN.{nat_abs}
use lib.Signed.{lt_z}
use mir.Syntax.{w64}
use mir.Val.{SFits}
use mir.Facts.{to_z-of_z}
use Rattle.index.specs.Numbers.{from_count}
use Rattle.index.proofs.SignedLaws.{of_bits}
use Rattle.index.proofs.SliceLaws.{Ends, ends_absent, ends_at, size_bound, step_zero, start_above, end_above, made}
use Rattle.index.proofs.slice.RangeNdSlice.new.Goals as goal
use Rattle.index.proofs.slice.RangeNdSlice.new.Goals.{After-from_count-start, After-magnitude, After-magnitude-in-Some, After-magnitude-step, Else-magnitude-count, Else-step-eq0, Joined-nd_slice_info, Start, in-None, in-Some+else-magnitude-count-2}

step_bits : (c : Start) → SFits w64 c.args.nd_slice_info.step
step_bits c = search rules

step_is : (c : After-magnitude-step) → c.magnitude-step.result ≡ nat_abs c.args.nd_slice_info.step
step_is c = let b : SFits w64 c.args.nd_slice_info.step = search rules in of_bits b c.magnitude-step.ensures

step_not_zero : (c : Else-step-eq0) → nat_abs c.args.nd_slice_info.step ≡ 0 → ⊥
step_not_zero c e = let b : SFits w64 c.args.nd_slice_info.step = search rules in c.if-step-eq0.false (of_bits b c.magnitude-step.ensures ∙ e)

start_is : (c : After-magnitude) → c.magnitude.result ≡ nat_abs c.args.nd_slice_info.start
start_is c = let b : SFits w64 c.args.nd_slice_info.start = search rules in of_bits b c.magnitude.ensures

start_fits : (c : Else-magnitude-count) → nat_abs c.args.nd_slice_info.start ≤ c.args.count
start_fits c = let b : SFits w64 c.args.nd_slice_info.start = search rules in omega (arith, of_bits b c.magnitude.ensures)

from_is : (c : After-from_count-start) → c.from_count-start.result ≡ from_count c.args.count c.args.nd_slice_info.start
from_is c =
    let b : SFits w64 c.args.nd_slice_info.start = search rules in
    c.from_count-start.ensures ∙ ap (from_count c.args.count) (to_z-of_z {w = w64} b)

end_is : (c : After-magnitude-in-Some) → c.magnitude-in-Some.result ≡ nat_abs c.in-Some.e
end_is c = let b : SFits w64 c.in-Some.e = search rules in of_bits b c.magnitude-in-Some.ensures

pub returns-then-step-eq0 : goal.returns-then-step-eq0
returns-then-step-eq0 c = step_zero _ _ (sym (step_is (goal.at.returns-then-step-eq0 c).After-magnitude-step) ∙ c.if-step-eq0.true)

pub returns-then-magnitude-count : goal.returns-then-magnitude-count
returns-then-magnitude-count c =
    let at = goal.at.returns-then-magnitude-count c in
    start_above _ _ (step_not_zero at.Else-step-eq0) (omega (arith, start_is at.After-magnitude))

pub returns-then-magnitude-count-2 : goal.returns-then-magnitude-count-2
returns-then-magnitude-count-2 c =
    let at = goal.at.returns-then-magnitude-count-2 c in
    end_above _ _ (step_not_zero at.Else-step-eq0) (start_fits at.Else-magnitude-count) _ c.in-Some.is (omega (arith, end_is at.After-magnitude-in-Some))

ended : (c : Joined-nd_slice_info) → Ends c.args.count c.args.nd_slice_info.end c.match-nd_slice_info.end
ended c =
    elim c.match-nd_slice_info.branch [
      | in-None w ↦ ends_absent _ _ _ w.in-None.is w.end-is
      | in-Some+else-magnitude-count-2 w ↦
          let b : SFits w64 w.in-Some.e = search rules in
          ends_at _ _ _ _ w.in-Some.is (omega (arith, of_bits b w.magnitude-in-Some.ensures))
          (w.end-is ∙ w.from_count-end.ensures ∙ ap (from_count c.args.count) (to_z-of_z {w = w64} b))
    ]

pub invariant_of-result : goal.invariant_of-result
invariant_of-result c =
    let at = goal.at.invariant_of-result c in
    (pos_of_ne-zero c.if-step-eq0.false, omega (arith, step_is at.After-magnitude-step, size_bound _ (step_bits at.Start)), omega (arith, (ended c).most))

pub returns : goal.returns
returns c =
    let at = goal.at.returns c in
    made _ _ (step_not_zero at.Else-step-eq0) (start_fits at.Else-magnitude-count) _ _ _ _ (from_is at.After-from_count-start) (ended c)
    (step_is at.After-magnitude-step) (ap (λ (z : ℤ). lt_z z (pos 0)) (to_z-of_z {w = w64} (step_bits at.Start)))
