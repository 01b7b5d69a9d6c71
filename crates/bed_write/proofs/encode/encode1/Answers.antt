-- The length, then the first bad value, then the bytes.
use Rattle.std.proofs.Common.{length, false, sym, ◌∙◌, None}
use Rattle.bed_write.specs.Packing.{place_code}
use Rattle.bed_write.proofs.EncodeLaws.{encode_length, encode_bad, encode_done}
use Rattle.bed_write.proofs.Theorems.{one_marker_found}
use Rattle.bed_write.proofs.encode.encode1.Goals as goal

pub returns-then-out_vector-block_width : goal.returns-then-out_vector-block_width
returns-then-out_vector-block_width g c = encode_length _ _ _ (λ e. c.if-out_vector-block_width.true (e ∙ sym c.block_width.ensures))

pub returns-in-Some : goal.returns-in-Some
returns-in-Some g c =
    let a = c.args in
    encode_bad (length a.in_vector.now) (place_code g.T.BedVal.width a.is_a1_counted a.missing a.in_vector.now) a.out_vector.now (c.if-out_vector-block_width.false ∙ c.block_width.ensures) _
    (one_marker_found g.T.BedVal.width a.is_a1_counted a.missing false _ a.in_vector.now _ (c.in-Some.ensures))

pub pack-requires : goal.pack-requires
pack-requires g c =
    let a = c.args in
    (c.if-out_vector-block_width.false ∙ c.block_width.ensures, sym (one_marker_found g.T.BedVal.width a.is_a1_counted a.missing false _ a.in_vector.now None (c.in_default.ensures)))

pub returns : goal.returns
returns g c =
    let a = c.args in
    encode_done (length a.in_vector.now) (place_code g.T.BedVal.width a.is_a1_counted a.missing a.in_vector.now) a.out_vector.now (c.if-out_vector-block_width.false ∙ c.block_width.ensures)
    (one_marker_found g.T.BedVal.width a.is_a1_counted a.missing false _ a.in_vector.now None (c.in_default.ensures)) _ c.pack.ensures
