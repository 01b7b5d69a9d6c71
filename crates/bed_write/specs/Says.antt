-- What each result of the code says: document 01's number and the values for each of its cases.
use Rattle.std.specs.Prelude.{[], ◌∷◌, pos, Result, Ok, Err}
use Rattle.answer.specs.Answer.{Answer, done, refused}
use Rattle.bed_write.specs.declared.encode.EncodeError.{EncodeError}
use Rattle.bed_write.specs.declared.encode.EncodeError.TheVariants as encodes
use Rattle.bed_write.specs.declared.write.WriteError.{WriteError}
use Rattle.bed_write.specs.declared.write.WriteError.TheVariants as writes

-- the refusals of packing one marker's values
abbrev pub encode_refusal : EncodeError → Answer
encode_refusal encodes.EncodingLength = refused 16 []
encode_refusal (encodes.BadValue animal) = refused 7 (pos animal.0 ∷ [])

abbrev pub encode_says : Result Unit EncodeError → Answer
encode_says (Ok _) = done []
encode_says (Err error) = encode_refusal error

-- the refusals of writing a whole file
abbrev pub write_refusal : WriteError → Answer
write_refusal writes.CountTooLarge = refused 18 []
write_refusal writes.IndexesTooBigForFiles = refused 4 []
write_refusal writes.IndexMismatch = refused 15 []
write_refusal writes.EncodingLength = refused 16 []
write_refusal (writes.BadValue animal marker) = refused 7 (pos animal.0 ∷ pos marker.0 ∷ [])

abbrev pub write_says : Result Unit WriteError → Answer
write_says (Ok _) = done []
write_says (Err error) = write_refusal error
