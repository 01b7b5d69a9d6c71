-- 18 and 4 by `try_file_length`, then the lengths.
use Rattle.std.proofs.Common.{◌∙◌}
use Rattle.bed_write.proofs.WriteLaws.{size_told, buffers_refused, buffers_mismatch, buffers_length, buffers_done}
use Rattle.bed_write.proofs.write.check_write.Goals as goal

pub returns-in_err-length : goal.returns-in_err-length
returns-in_err-length c = size_told _ _ c.from_residual.ensures.1 ∙ buffers_refused _ _ _ _ _ c.in_err-length.ensures

pub returns-then-not-product_is : goal.returns-then-not-product_is
returns-then-not-product_is c = buffers_mismatch _ _ _ _ _ c.in_ok-length.ensures _ c.product_is.ensures c.if-not-product_is.true

pub returns-then-out_len-length : goal.returns-then-out_len-length
returns-then-out_len-length c = buffers_done _ _ _ _ _ c.in_ok-length.ensures _ c.product_is.ensures c.if-not-product_is.false c.if-out_len-length.true

pub returns-else-out_len-length : goal.returns-else-out_len-length
returns-else-out_len-length c = buffers_length _ _ _ _ _ c.in_ok-length.ensures _ c.product_is.ensures c.if-not-product_is.false c.if-out_len-length.false
