-- `byte_span`: 18, then the walk, then the span of the whole list.
use Rattle.std.proofs.Common.{◌≡◌, ℕ, ◌+◌, ◌-◌, ◌/◌, ◌<◌, ◌≤◌, ◌∷◌, [], pos, sym, refl, ap, ◌∙◌, arith, Some, None, rules, le-ltb, lt-ltb, get_or, ℤ}
use Rattle.answer.specs.Answer.{count_limit}
use Rattle.entries.specs.Entry.{is_good, means, first_bad}
use Rattle.entries.specs.Private.{span_numbers, bytes_of, IsSpan}
use Rattle.entries.proofs.EntryLaws.{placed, bad_here, bad_later, bad_none}
use Rattle.entries.proofs.SpanLaws.{walked_none, walked_more, walked_all, bytes_ordered, span_too_large, span_bad, span_good}
use Rattle.entries.proofs.byte_span.Goals as goal
use Rattle.entries.proofs.byte_span.Goals.{After-loop-next, In-Some}

pub returns-then-count-gt-COUNT_LIMIT : goal.returns-then-count-gt-COUNT_LIMIT
returns-then-count-gt-COUNT_LIMIT c = sym (span_too_large _ _ c.if-count-gt-COUNT_LIMIT.true)

pub loop-next-init : goal.loop-next-init
loop-next-init c = (walked_none _ _, refl)

pub returns-then-item-count : goal.returns-then-item-count
returns-then-item-count c =
    span_bad _ _ c.if-count-gt-COUNT_LIMIT.false _
    (sym (bad_here _ _ _ c.loop-next-test.true (search rules) _ c.place-item.ensures.0 c.loop-next.invariant.1 (le-ltb _ _ c.if-item-count.true)))

pub loop-next-preserved : goal.loop-next-preserved
loop-next-preserved c =
    let inside = c.loop-next-test.true in
    let inv = c.loop-next.invariant in
    let below = lt-ltb _ _ c.if-item-count.false in
    let e = get_or c.args.list.now c.loop-next.next-index (pos 0) in
    let t = placed c.args.count e (search rules) _ c.place-item.ensures in (
      walked_more _ _ _ _ _ inv.0 inside (λ before s. c.widened-sofar.ensures c.args.count before e (t.1 (sym t.0 ∙ below)) s),
      bad_later _ _ _ inside (search rules) _ c.place-item.ensures.0 inv.1 below,
    )

-- after the walk
module _ (c : After-loop-next) where
  none_bad : first_bad c.args.count c.args.list.now ≡ None
  none_bad = sym (bad_none _ _ _ c.loop-next-test.false c.loop-next.invariant.1)

  whole : IsSpan c.args.count c.args.list.now (bytes_of c.loop-next.sofar)
  whole = walked_all _ _ _ _ c.loop-next.invariant.0 c.loop-next-test.false

  small : c.args.count ≤ count_limit
  small = c.if-count-gt-COUNT_LIMIT.false

-- where there are entries
module _ (c : In-Some) where
  abbrev lowest : ℕ
  lowest = c.in-Some.lowest / 4

  abbrev highest : ℕ
  highest = c.in-Some.highest / 4

  spanned : IsSpan c.args.count c.args.list.now (bytes_of (Some (c.in-Some.lowest, c.in-Some.highest)))
  spanned = sym (ap (λ o. span_numbers (bytes_of o)) c.in-Some.is) ∙ whole c.before

  ordered : (lowest ≤ highest) × (highest < c.args.count)
  ordered = bytes_ordered _ _ _ _ (none_bad c.before) spanned

pub overflow_sub-result : goal.overflow_sub-result
overflow_sub-result c = (ordered c).0

pub overflow_add-result : goal.overflow_add-result
overflow_add-result c = let h = (ordered c).1 in let s = small c.before in omega arith

pub returns-in-None : goal.returns-in-None
returns-in-None c =
    span_good _ _ (small c.before) (none_bad c.before) _ (sym (ap (λ o. span_numbers (bytes_of o)) c.in-None.is) ∙ whole c.before)

pub returns-in-Some : goal.returns-in-Some
returns-in-Some c =
    let long : highest c - lowest c + 1 ≡ highest c + 1 - lowest c = (let o = (ordered c).0 in omega (arith, o)) in
    span_good _ _ (small c.before) (none_bad c.before) _ (ap (λ (n : ℕ). pos (lowest c) ∷ pos n ∷ []) long ∙ spanned c)
