-- `is_mode_1`, by byte 2.
use Rattle.std.proofs.Common.{◌∙◌, arith, rules}
use borrow.Author.Tests.{le-ltb}
use Rattle.bed_file.specs.File.{is_mode1}
use Rattle.calls.proofs.PlaceLaws.{mode_short}
use Rattle.calls.proofs.is_mode_1.Goals as goal

pub returns-then-file-gt2 : goal.returns-then-file-gt2
unfolding is_mode1
returns-then-file-gt2 c = search rules

pub returns-else-file-gt2 : goal.returns-else-file-gt2
returns-else-file-gt2 c = le-ltb 2 _ c.if-file-gt2.false ∙ mode_short _ (omega arith)
