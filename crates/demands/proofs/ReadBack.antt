-- What document 01 promises of reading back what was written, and of writing what was read.
use mathlib.Core.Path.{◌≡◌, refl, sym, ap, subst, ◌∙◌}
use mathlib.Core.Bool.{Bool, true, false, not, ◌&&◌, ◌||◌, true≢false}
use mathlib.Core.List.{List, []}
use mathlib.Core.Logic.{inl, inr}
use Prim.Native.Nat.{ℕ, ◌-◌, ◌*◌, ◌^◌, ◌<◌, ◌≤◌}
use lib.Dec.{T}
use lib.IntN.{ℤ}
use lib.Ieee.{Float, nan, eq, ne, is_nan}
use lib.Ieee.Compare.{differs_from_itself}
use lib.ListN.{length, get_or}
use Rattle.answer.specs.Answer.{done, is_done}
use Rattle.blocks.specs.Block.{file_length}
use Rattle.answer.specs.Matrix.{matrix_place}
use Rattle.codes.specs.Value.{Width, i8, float, same_int, value_of, same_or_nan}
use Rattle.codes.proofs.ValueLaws.{same_int_refl, same_int_eq, decode_encode, Numbers, float_numbers, NoNumber}
use Rattle.bed_file.specs.File.{accept_answer}
use Rattle.calls.specs.Calls.{call_code}
use Rattle.bed_read.specs.Reading.{file_order, read_answer, read_code, read_buffer}
use Rattle.bed_file.proofs.FileLaws.{accepted}
use Rattle.bed_write.specs.Packing.{place_code, or_zero}
use Rattle.bed_write.specs.Writing.{value_code, write_answer, write_buffer}
use Rattle.canonical.specs.Canonical.{canonical_file, canonical_buffer}
use Rattle.canonical.proofs.Theorems.{canonical_left, canonical_call}
use Rattle.demands.specs.ReadBack.{EqualOrBothNan}
use Rattle.bed_write.proofs.BedLaws.{bed_ext}
use Rattle.demands.proofs.WriteLaws.{has_code, written_call, written_accepted}
use Rattle.demands.proofs.ReadBackLaws.{order_length, order_code, all_answer, read_at}
use Rattle.demands.proofs.ReadWriteLaws.{read_is_written}

-- 1. "Under one flag and one missing value, an accepted writing read back gives every value, equal by number or NaN for NaN.": from either
-- matrix order, into either
pub written_read_back :
    {V : Type 0} (w : Width V) (flag : Bool) (missing : V) (iids sids : ℕ) (order : Bool) (val : List V) (old : List ℕ)
    → is_done (write_answer iids sids (value_code w flag missing order iids sids val) (length val) (length old)) ≡ true
    → (later : Bool) (buffer : List V) → length buffer ≡ iids * sids
    → (read_answer (write_buffer iids sids (value_code w flag missing order iids sids val) (length val) old) iids sids (file_order iids) (file_order sids) (length buffer) ≡ done [])
    × ((a m : ℕ) → a < iids → m < sids
    → same_or_nan w (get_or val (matrix_place order iids sids a m) missing)
    (get_or
    (read_buffer w (write_buffer iids sids (value_code w flag missing order iids sids val) (length val) old) iids sids flag (file_order iids) (file_order sids) missing later buffer)
    (matrix_place later iids sids a m) missing)
    ≡ true)
unfolding value_code place_code
written_read_back w flag missing iids sids order val old d later buffer l =
    let code = value_code w flag missing order iids sids val in
    let file = write_buffer iids sids code (length val) old in
    let acc : is_done (accept_answer file iids sids) ≡ true = ap is_done (written_accepted w flag missing order iids sids val old d) in (
      all_answer file iids sids acc (length buffer) l,
      λ a m ha hm.
          let v = get_or val (matrix_place order iids sids a m) missing in
          subst (λ x. same_or_nan w v x ≡ true)
          (sym (read_at file iids sids acc w flag missing later buffer l a m ha hm ∙ ap (value_of w flag missing) (written_call w flag missing order iids sids val old d a m ha hm)))
          (decode_encode w flag missing v (or_zero (code a m)) (has_code iids sids code (length val) old d a m ha hm)),
    )

-- and said of each width without the test that the definition of a value's code uses: i8 has no NaN, and an integer is its number
same_i8 : (u v : ℤ) → same_or_nan i8 u v ≡ true → u ≡ v
unfolding same_or_nan
same_i8 u v e = same_int_eq u v (sym (no_nan (same_int u v) (same_int u u) (same_int v v) (same_int_refl u)) ∙ e)
  where
    no_nan : (a b c : Bool) → b ≡ true → (a || (not b && not c)) ≡ a
    no_nan true b c e = refl
    no_nan false true c e = refl
    no_nan false false c e = absurd (true≢false (sym e))

unequal_nan : (x : Float) → eq x x ≡ false → is_nan x ≡ true
unfolding ne is_nan
unequal_nan x e = ap is_nan (differs_from_itself x (subst T (sym (ap not e)) tt))

same_f64 : (u v : Float) → same_or_nan float u v ≡ true → EqualOrBothNan u v
unfolding same_or_nan
same_f64 u v e = go (eq u v) (eq u u) (eq v v) refl refl refl e
  where
    go : (a b c : Bool) → eq u v ≡ a → eq u u ≡ b → eq v v ≡ c → (a || (not b && not c)) ≡ true → EqualOrBothNan u v
    go true b c ea eb ec e = inl ea
    go false true c ea eb ec e = absurd (true≢false (sym e))
    go false false true ea eb ec e = absurd (true≢false (sym e))
    go false false false ea eb ec e = inr (unequal_nan u eb, unequal_nan v ec)

pub written_read_back_i8 :
    (flag : Bool) (missing : ℤ) (iids sids : ℕ) (order : Bool) (val : List ℤ) (old : List ℕ)
    → is_done (write_answer iids sids (value_code i8 flag missing order iids sids val) (length val) (length old)) ≡ true
    → (later : Bool) (buffer : List ℤ) → length buffer ≡ iids * sids → (a m : ℕ) → a < iids → m < sids
    → get_or
    (read_buffer i8 (write_buffer iids sids (value_code i8 flag missing order iids sids val) (length val) old) iids sids flag (file_order iids) (file_order sids) missing later buffer)
    (matrix_place later iids sids a m) missing
    ≡ get_or val (matrix_place order iids sids a m) missing
written_read_back_i8 flag missing iids sids order val old d later buffer l a m ha hm =
    sym (same_i8 _ _ ((written_read_back i8 flag missing iids sids order val old d later buffer l).1 a m ha hm))

pub written_read_back_f64 :
    (flag : Bool) (missing : Float) (iids sids : ℕ) (order : Bool) (val : List Float) (old : List ℕ)
    → is_done (write_answer iids sids (value_code float flag missing order iids sids val) (length val) (length old)) ≡ true
    → (later : Bool) (buffer : List Float) → length buffer ≡ iids * sids → (a m : ℕ) → a < iids → m < sids
    → EqualOrBothNan (get_or val (matrix_place order iids sids a m) missing)
    (get_or
    (read_buffer float (write_buffer iids sids (value_code float flag missing order iids sids val) (length val) old) iids sids flag (file_order iids) (file_order sids) missing later buffer)
    (matrix_place later iids sids a m) missing)
written_read_back_f64 flag missing iids sids order val old d later buffer l a m ha hm =
    same_f64 _ _ ((written_read_back float flag missing iids sids order val old d later buffer l).1 a m ha hm)

-- 2. "Reading all and then writing gives every code back if missing is none of 0, 1, 2 by number.": from either mode, by either matrix order,
-- the file that is left is the canonical file
pub read_written :
    {V : Type 0} (w : Width V) → Numbers w → (flag : Bool) (missing : V) → NoNumber w missing → (file : List ℕ) (iids sids : ℕ)
    → is_done (accept_answer file iids sids) ≡ true → file_length iids sids ≤ 2 ^ 64 - 1
    → (order : Bool) (buffer : List V) → length buffer ≡ iids * sids → (old : List ℕ) → length old ≡ file_length iids sids
    → (read_answer file iids sids (file_order iids) (file_order sids) (length buffer) ≡ done [])
    × (write_answer iids sids
    (value_code w flag missing order iids sids (read_buffer w file iids sids flag (file_order iids) (file_order sids) missing order buffer))
    (length (read_buffer w file iids sids flag (file_order iids) (file_order sids) missing order buffer)) (length old) ≡ done [])
    × (write_buffer iids sids
    (value_code w flag missing order iids sids (read_buffer w file iids sids flag (file_order iids) (file_order sids) missing order buffer))
    (length (read_buffer w file iids sids flag (file_order iids) (file_order sids) missing order buffer)) old
    ≡ canonical_file file iids sids)
unfolding canonical_file
read_written w n flag missing other file iids sids d fits order buffer l old k =
    let acc = accepted file iids sids d in
    let answer = all_answer file iids sids d (length buffer) l in
    let r = read_is_written w n flag missing other order file iids sids (file_order iids) (file_order sids) buffer (ap is_done answer) iids sids (order_length iids) (order_length sids) acc.iids_fit acc.sids_fit fits old k in
    (answer, r.0, r.1 ∙ bed_ext iids sids (read_code file iids sids (file_order iids) (file_order sids)) (call_code file iids sids) (order_code file iids sids))

-- every code is back, in a file that is accepted
pub every_code_back :
    {V : Type 0} (w : Width V) → Numbers w → (flag : Bool) (missing : V) → NoNumber w missing → (file : List ℕ) (iids sids : ℕ)
    → is_done (accept_answer file iids sids) ≡ true → file_length iids sids ≤ 2 ^ 64 - 1
    → (order : Bool) (buffer : List V) → length buffer ≡ iids * sids → (old : List ℕ) → length old ≡ file_length iids sids
    → (a m : ℕ) → a < iids → m < sids
    → call_code
    (write_buffer iids sids
    (value_code w flag missing order iids sids (read_buffer w file iids sids flag (file_order iids) (file_order sids) missing order buffer))
    (length (read_buffer w file iids sids flag (file_order iids) (file_order sids) missing order buffer)) old)
    iids sids a m
    ≡ call_code file iids sids a m
every_code_back w n flag missing other file iids sids d fits order buffer l old k a m ha hm =
    ap (λ x. call_code x iids sids a m) (read_written w n flag missing other file iids sids d fits order buffer l old k).2 ∙ canonical_call file iids sids d fits a m ha hm

-- NaN is none of 0, 1, 2
pub nan_no_number : NoNumber float nan
unfolding eq
nan_no_number = record { not_zero = refl; not_one = refl; not_two = refl }

-- "The canonical file is reading everything with missing NaN, then writing under the same flag; both flags give the same one."
pub canonical_is_read_written :
    (flag : Bool) (file : List ℕ) (iids sids : ℕ) → is_done (accept_answer file iids sids) ≡ true → file_length iids sids ≤ 2 ^ 64 - 1
    → (order : Bool) (buffer : List Float) → length buffer ≡ iids * sids → (old other : List ℕ) → length old ≡ file_length iids sids → length other ≡ file_length iids sids
    → (read_answer file iids sids (file_order iids) (file_order sids) (length buffer) ≡ done [])
    × (write_answer iids sids
    (value_code float flag nan order iids sids (read_buffer float file iids sids flag (file_order iids) (file_order sids) nan order buffer))
    (length (read_buffer float file iids sids flag (file_order iids) (file_order sids) nan order buffer)) (length old) ≡ done [])
    × (canonical_buffer file iids sids other
    ≡ write_buffer iids sids
    (value_code float flag nan order iids sids (read_buffer float file iids sids flag (file_order iids) (file_order sids) nan order buffer))
    (length (read_buffer float file iids sids flag (file_order iids) (file_order sids) nan order buffer)) old)
canonical_is_read_written flag file iids sids d fits order buffer l old other k j =
    let r = read_written float float_numbers flag nan nan_no_number file iids sids d fits order buffer l old k in
    (r.0, r.1, (canonical_left file iids sids d fits other j).1 ∙ sym r.2)
