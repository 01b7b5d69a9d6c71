-- What each result of the code says: document 01's number and the values for each of its cases.
use Rattle.std.specs.Prelude.{[], ◌∷◌, ℕ, pos, Result, Ok, Err}
use Rattle.answer.specs.Answer.{Answer, done, refused}
use Rattle.block.specs.declared.decode.CodeError.{CodeError}
use Rattle.block.specs.declared.decode.CodeError.TheVariants as codes
use Rattle.block.specs.declared.decode.DecodeError.{DecodeError}
use Rattle.block.specs.declared.decode.DecodeError.TheVariants as decodes
use Rattle.block.specs.declared.pack.PackError.{PackError}
use Rattle.block.specs.declared.pack.PackError.TheVariants as packs

-- the refusals of asking for a code
abbrev pub code_refusal : CodeError → Answer
code_refusal codes.CountTooLarge = refused 18 []
code_refusal codes.EncodingLength = refused 16 []
code_refusal (codes.IidIndexTooBig iid) = refused 5 (pos iid.0 ∷ [])

abbrev pub code_says : Result ℕ CodeError → Answer
code_says (Ok code) = done (pos code ∷ [])
code_says (Err error) = code_refusal error

-- the numbers of decoding's refusals, which carry nothing
abbrev pub decode_number : DecodeError → ℕ
decode_number decodes.CountTooLarge = 18
decode_number decodes.IndexMismatch = 15
decode_number decodes.EncodingLength = 16

abbrev pub decode_says : Result Unit DecodeError → Answer
decode_says (Ok _) = done []
decode_says (Err error) = refused (decode_number error) []

-- the refusals of packing
abbrev pub pack_refusal : PackError → Answer
pack_refusal packs.CountTooLarge = refused 18 []
pack_refusal packs.IndexMismatch = refused 15 []
pack_refusal packs.EncodingLength = refused 16 []
pack_refusal (packs.BadValue animal) = refused 7 (pos animal.0 ∷ [])

abbrev pub pack_says : Result Unit PackError → Answer
pack_says (Ok _) = done []
pack_says (Err error) = pack_refusal error
