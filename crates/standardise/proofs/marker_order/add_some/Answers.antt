-- `add_some`: a NaN, one value, or four numbers.
use Rattle.std.proofs.Common.{refl, sym, ◌∙◌}
use lib.Ieee.{binary64, of_bits}
use Rattle.statistics.proofs.FloatLaws.{nan_counted}
use Rattle.standardise.proofs.FourLaws.{one_passed, four_passed}
use Rattle.standardise.proofs.marker_order.add_some.Goals as goal

pub returns-then-is_nan : goal.returns-then-is_nan
returns-then-is_nan c =
    let a = c.args in
    one_passed binary64 a.a a.i a.v0 a.v1 a.v2 a.v3 _ _ refl (nan_counted binary64 a.a a.v0 (sym c.is_nan.ensures.value ∙ c.if-is_nan.true))

pub returns-then-is_nan-2 : goal.returns-then-is_nan-2
returns-then-is_nan-2 c = let a = c.args in one_passed binary64 a.a a.i a.v0 a.v1 a.v2 a.v3 _ _ refl c.add_value.ensures

pub returns : goal.returns
unfolding of_bits
returns c =
    let a = c.args in
    four_passed binary64 a.a a.i a.v0 a.v1 a.v2 a.v3 (sym c.is_nan.ensures.value ∙ c.if-is_nan.false) (sym c.is_nan-2.ensures.value ∙ c.if-is_nan-2.false)
    (sym c.is_nan-else-is_nan-2.ensures.value ∙ c.if-is_nan-3.false) (sym c.is_nan-else-is_nan-3.ensures.value ∙ c.if-is_nan-4.false)
