-- Cutting a file by two lists, and cutting a cut: the words of W-213 of document 02 on files; those on lists are Composed. Definitions only.
use Rattle.std.specs.Prelude.{◌≡◌, Bool, List, [], ℕ, ◌*◌, ℤ, negsuc, Float, length}
use Rattle.std.specs.Float.{nan}
use Rattle.answer.specs.Answer.{done}
use Rattle.blocks.specs.Block.{file_length}
use Rattle.codes.specs.Value.{Width, i8, float}
use Rattle.bed_read.specs.Reading.{Reads}
use Rattle.bed_write.specs.Writing.{Writes}

-- how a cut is made: what its two calls are given and lent beside the file and the lists
pub record Cut : Type 1 where
  pub Value : Type 0
  pub width : Width Value
  pub flag : Bool
  pub missing : Value
  pub order : Bool
  -- a value buffer and a packed buffer
  pub val : List Value
  pub out : List ℕ

abbrev pub cut_at : {V : Type 0} (w : Width V) → Bool → V → Bool → List V → List ℕ → Cut
cut_at {V} w flag missing order val out = record { Value = V; width = w; flag = flag; missing = missing; order = order; val = val; out = out }

-- at f64 with missing NaN, and at i8 with missing −127: −(k + 1) is `negsuc k`
abbrev pub f64_cut : Bool → Bool → List Float → List ℕ → Cut
f64_cut flag order val out = cut_at float flag nan order val out

abbrev pub i8_cut : Bool → Bool → List ℤ → List ℕ → Cut
i8_cut flag order val out = cut_at i8 flag (negsuc 126) order val out

-- "cutting a file by two lists", "where no cut is refused": reading by the lists is done and leaves some values; writing these is done and leaves
-- the bytes. They are written under the same flag and missing value, in the order they were read in and with the lengths of the lists as the two
-- counts. `Reads` and `Writes` are what the contracts of the two calls promise
pub record Leaves (file : List ℕ) (iids sids : ℕ) (iid_list sid_list : List ℤ) (c : Cut) (bytes : List ℕ) : Type 0 where
  pub values : List c.Value
  pub is_read : Reads c.width file iids sids c.flag iid_list sid_list c.missing c.order (done []) c.val values
  pub is_written : Writes c.width c.flag c.missing c.order (length iid_list) (length sid_list) values (done []) c.out bytes

-- buffers of the lengths that 15 and 16 want of a cut by two lists
pub record RightBuffers (iid_list sid_list : List ℤ) (c : Cut) : Type 0 where
  pub for_15 : length c.val ≡ length iid_list * length sid_list
  pub for_16 : length c.out ≡ file_length (length iid_list) (length sid_list)

-- "where no cut is refused, cutting a file by two lists, writing it canonical, and cutting that by two further lists gives the bytes of one cut by the
-- lists composed": of cuts that are made in three ways, whatever the file, its counts and the lists. The further lists cut what the first cut left,
-- whose counts are the lengths of the first lists. The one cut is lent buffers of the right lengths, and that it is not refused is told
abbrev pub GivesOneCut : (ℕ → List ℤ → List ℤ → List ℤ) → Cut → Cut → Cut → Type 0
GivesOneCut compose first second one =
    (file : List ℕ) (iids sids : ℕ) (il sl jl kl : List ℤ) (between bytes : List ℕ)
    → Leaves file iids sids il sl first between
    → Leaves between (length il) (length sl) jl kl second bytes
    → RightBuffers (compose iids il jl) (compose sids sl kl) one
    → Leaves file iids sids (compose iids il jl) (compose sids sl kl) one bytes
