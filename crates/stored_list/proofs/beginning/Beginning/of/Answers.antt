-- `of`, which stops where what comes after is not looked at.
use Rattle.std.proofs.Common.{◌∙◌, sym}
use Rattle.stored_list.proofs.ReadLaws.{settled_at}
use Rattle.stored_list.proofs.beginning.Beginning.of.Goals as goal

pub returns-then-is_settled : goal.returns-then-is_settled
returns-then-is_settled c =
    settled_at c.args.text.now c.as_bytes-byte-items.result.now c.as_bytes-byte-items.ensures.value c.loop-byte.beginning c.after-beginning.result c.loop-byte.byte-index c.loop-byte.invariant c.loop-byte-test.true
    c.after-beginning.ensures (sym c.is_settled.ensures ∙ c.if-is_settled.true)
