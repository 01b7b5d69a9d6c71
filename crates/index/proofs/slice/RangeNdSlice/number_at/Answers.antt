-- `RangeNdSlice::number_at` is the number at a place.
use Rattle.std.proofs.Common.{arith}
use Rattle.index.proofs.StepLaws.{on_the_way, from_end, from_start}
use Rattle.index.proofs.slice.RangeNdSlice.number_at.Goals as goal

pub overflow_mul-distance : goal.overflow_mul-distance
overflow_mul-distance c = let way = on_the_way _ _ _ _ _ c.self.view_is c.self.invariant.0 _ c.requires in omega arith

pub overflow_sub-result : goal.overflow_sub-result
overflow_sub-result c = let way = on_the_way _ _ _ _ _ c.self.view_is c.self.invariant.0 _ c.requires in omega arith

pub overflow_sub-result-then-self : goal.overflow_sub-result-then-self
overflow_sub-result-then-self c = let way = on_the_way _ _ _ _ _ c.self.view_is c.self.invariant.0 _ c.requires in omega arith

pub overflow_add-result : goal.overflow_add-result
overflow_add-result c = let way = on_the_way _ _ _ _ _ c.self.view_is c.self.invariant.0 _ c.requires in omega arith

pub overflow_cast-result-else-self : goal.overflow_cast-result-else-self
overflow_cast-result-else-self c = let way = on_the_way _ _ _ _ _ c.self.view_is c.self.invariant.0 _ c.requires in omega arith

pub returns-then-self : goal.returns-then-self
returns-then-self c = from_end _ _ _ _ _ c.self.view_is c.self.invariant.0 _ c.requires c.if-self.true c.self.invariant.2

pub returns-else-self : goal.returns-else-self
returns-else-self c = from_start _ _ _ _ _ c.self.view_is c.self.invariant.0 _ c.requires c.if-self.false c.self.invariant.2
