-- `shape_of`: the mode by byte 2, the width by the items of that mode.
use Rattle.std.proofs.Common.{◌≡◌, Bool, true, false, refl, sym, ap, ◌∙◌}
use Rattle.blocks.specs.Block.{block_width}
use Rattle.bed_file.specs.File.{is_mode1, items}
use Rattle.calls.proofs.shape_of.Goals as goal
use Rattle.calls.proofs.shape_of.Goals.{then-mode1, else-mode1}

pub returns : goal.returns
unfolding items
returns c =
    let e = c.is_mode_1-mode1.ensures in
    let by_mode : (m : Bool) → m ≡ is_mode1 c.args.file.now → items m c.args.iid_count c.args.sid_count ≡ items (is_mode1 c.args.file.now) c.args.iid_count c.args.sid_count =
    (λ m h. ap (λ (k : Bool). items k c.args.iid_count c.args.sid_count) h) in
    let counted : c.if-mode1.block_width ≡ items (is_mode1 c.args.file.now) c.args.iid_count c.args.sid_count =
    (elim c.if-mode1.branch [ then-mode1 w ↦ w.block_width-is ∙ by_mode true (sym w.if-mode1.true ∙ e) | else-mode1 w ↦ w.block_width-is ∙ by_mode false (sym w.if-mode1.false ∙ e) ]) in
    record { mode_is = e; width_is = c.block_width.ensures ∙ ap block_width counted; iids_are = refl; sids_are = refl }
