-- `apply_all`: a tile more.
use Rattle.std.proofs.Common.{◌≡◌, ℕ, ◌+◌, subst, arith, rules}
use lib.Ieee.{binary64}
use Rattle.standardise.proofs.ApplyLaws.{TilesPassed, tiles_none, tiles_more, tiles_all}
use Rattle.standardise.proofs.animal_order.apply_all.Goals as goal

pub loop-base-init : goal.loop-base-init
loop-base-init c = (omega arith, tiles_none binary64 c.args.iid_count c.args.sid_count c.args.stats.now c.args.val.now c.requires.0)

pub loop-base-preserved : goal.loop-base-preserved
loop-base-preserved c =
    let a = c.args in
    let l = c.loop-base in
    let whole : c.min.result ≡ 1024 = search rules in
    (omega arith, subst (λ (n : ℕ). TilesPassed binary64 a.iid_count a.sid_count a.stats.now a.val.now (l.base + n) c.apply_tile.new.val) whole (tiles_more binary64 a.iid_count a.sid_count a.stats.now a.val.now l.base _ l.val _ l.invariant.1 c.apply_tile.ensures))

pub returns : goal.returns
returns c =
    let a = c.args in
    let l = c.loop-base in
    tiles_all binary64 a.iid_count a.sid_count a.stats.now a.val.now l.base l.val l.invariant.1 c.loop-base-test.false

pub returns-2 : goal.returns-2
returns-2 c =
    let a = c.args in
    let l = c.loop-base in
    tiles_all binary64 a.iid_count a.sid_count a.stats.now a.val.now _ _ (tiles_more binary64 a.iid_count a.sid_count a.stats.now a.val.now l.base _ l.val _ l.invariant.1 c.apply_tile.ensures) (search rules)
