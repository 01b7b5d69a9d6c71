-- The byte span of lists of 20 items: step by step, and each by computation.
use Rattle.std.proofs.Common.{[], ◌∷◌, pos, negsuc, refl}
use Rattle.std.specs.Prelude.{Some, None}
use Rattle.entries.specs.Entry.{span, byte_of, means, least, greatest}
use Rattle.entries.specs.Private.{IsSpan}
use Rattle.entries.proofs.SpanLaws.{span_first, span_next}

pub of_nothing : IsSpan 20 [] None
unfolding span
of_nothing = refl

-- 5 is in byte 1, −1 in byte 4, 2 in byte 0: the lowest byte comes last
pub of_one : IsSpan 20 (pos 5 ∷ []) (Some (1, 1))
unfolding means
of_one = span_first 20 (pos 5) 5 refl [] of_nothing

pub of_two : IsSpan 20 (pos 5 ∷ negsuc 0 ∷ []) (Some (1, 4))
unfolding means
of_two = span_next 20 (negsuc 0) 19 refl (pos 5 ∷ []) 1 1 1 4 refl refl of_one

pub lowest_last : IsSpan 20 (pos 5 ∷ negsuc 0 ∷ pos 2 ∷ []) (Some (0, 4))
unfolding means
lowest_last = span_next 20 (pos 2) 2 refl (pos 5 ∷ negsuc 0 ∷ []) 1 4 0 4 refl refl of_two

pub computed :
    IsSpan 20 (pos 5 ∷ []) (Some (1, 1))
    × IsSpan 20 (pos 5 ∷ negsuc 0 ∷ []) (Some (1, 4))
    × IsSpan 20 (pos 5 ∷ negsuc 0 ∷ pos 2 ∷ []) (Some (0, 4))
unfolding span byte_of means least greatest
computed = (refl, refl, refl)
