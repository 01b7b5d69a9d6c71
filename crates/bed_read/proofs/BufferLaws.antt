-- The later value buffer of reading, once over the width of values.
use mathlib.Core.Path.{◌≡◌, sym, ap, ◌∙◌}
use mathlib.Core.Bool.{Bool, true, false, not, cond}
use mathlib.Core.List.{List, map}
use Prim.Native.Nat.{ℕ, ◌*◌, ◌/◌, ◌%◌, ◌<◌}
use native.Mathlib.Omega.{arith}
use lib.IntN.{ℤ}
use lib.ListN.{length, get_or}
use Rattle.answer.specs.Answer.{is_done}
use Rattle.std.specs.Prelude.{None}
use Rattle.codes.specs.Code.{code_table}
use Rattle.entries.specs.Entry.{first_bad}
use Rattle.answer.specs.Matrix.{matrix_place, matrix}
use Rattle.codes.specs.Value.{Width, value_of}
use Rattle.answer.proofs.AnswerLaws.{new_if_done, old_if_not}
use Rattle.answer.proofs.MatrixLaws.{length_matrix, get_d_matrix, map_matrix}
use Rattle.answer.proofs.Tabulate.{tabulate_ext, map_tabulate}
use Rattle.bed_file.proofs.FileLaws.{accepted}
use Rattle.calls.specs.declared.Shape.{Shape}
use Rattle.calls.specs.Places.{IsShape}
use Rattle.calls.proofs.PlaceLaws.{shape_read}
use Rattle.bed_read.specs.Reading.{read_code, read_answer, codes_read, values_read, read_buffer}
use Rattle.calls.specs.Lists.{count_of, Ready}
use Rattle.bed_read.specs.Private.{value_in, ByCode, lines_read}
use Rattle.calls.proofs.CallLaws.{call_below}
use Rattle.bed_read.proofs.ReadLaws.{Checked}
use Rattle.bed_read.proofs.TableLaws.{made_value, made_by_code}

-- every code that is read is a code
pub read_below : (file : List ℕ) (iids sids : ℕ) (il sl : List ℤ) (k m : ℕ) → read_code file iids sids il sl k m < 4
unfolding read_code
read_below file iids sids il sl k m = call_below file iids sids _ _

-- two maps over a matrix of codes agree if they agree at each code
pub map_codes :
    {A : Type 0} (f g : ℕ → A) → ((c : ℕ) → c < 4 → f c ≡ g c) → (order : Bool) (file : List ℕ) (iids sids : ℕ) (il sl : List ℤ)
    → map f (codes_read order file iids sids il sl) ≡ map g (codes_read order file iids sids il sl)
unfolding codes_read matrix
map_codes f g e true file iids sids il sl =
    map_tabulate f (length il * length sl) (λ p. read_code file iids sids il sl (p / length sl) (p % length sl))
    ∙ tabulate_ext (length il * length sl) _ _ (λ p h. e (read_code file iids sids il sl (p / length sl) (p % length sl)) (read_below file iids sids il sl (p / length sl) (p % length sl)))
    ∙ sym (map_tabulate g (length il * length sl) (λ p. read_code file iids sids il sl (p / length sl) (p % length sl)))
map_codes f g e false file iids sids il sl =
    map_tabulate f (length il * length sl) (λ p. read_code file iids sids il sl (p % length il) (p / length il))
    ∙ tabulate_ext (length il * length sl) _ _ (λ p h. e (read_code file iids sids il sl (p % length il) (p / length il)) (read_below file iids sids il sl (p % length il) (p / length il)))
    ∙ sym (map_tabulate g (length il * length sl) (λ p. read_code file iids sids il sl (p % length il) (p / length il)))

-- a table of the values has one for each code
pub table_made :
    {V : Type 0} (W : Width V) (flag : Bool) (missing d : V) (items table : List V) → table ≡ items → items ≡ map (value_of W flag missing) code_table → ByCode table d
table_made W flag missing d items table e f = made_by_code d (value_of W flag missing) table (e ∙ f)

-- the matrix by a table of the values
pub table_read :
    {V : Type 0} (W : Width V) (flag : Bool) (missing d : V) (table new : List V) (animals : Bool) (file : List ℕ) (shape : Shape) (outer inner : List ℤ)
    → table ≡ map (value_of W flag missing) code_table → new ≡ map (value_in table d) (lines_read animals file shape outer inner)
    → new ≡ map (value_of W flag missing) (lines_read animals file shape outer inner)
table_read W flag missing d table new animals file shape outer inner e f =
    f ∙ map_codes (value_in table d) (value_of W flag missing) (made_value d (value_of W flag missing) table e) animals file shape.iids shape.sids _ _

-- ---- what is read by lists of n and s entries
module _ {V : Type 0} (w : Width V) (flag : Bool) (missing : V) (order : Bool) (file : List ℕ) (iids sids : ℕ) (il sl : List ℤ) (n s : ℕ) (li : length il ≡ n) (ls : length sl ≡ s) where
  abbrev read : List V
  read = values_read w flag missing order file iids sids il sl

  abbrev cell : ℕ → ℕ → V
  cell k m = value_of w flag missing (read_code file iids sids il sl k m)

  -- is the matrix of the values of the codes
  pub read_matrix : read ≡ matrix order n s cell
  unfolding values_read codes_read
  read_matrix =
      map_matrix (value_of w flag missing) order (length il) (length sl) (read_code file iids sids il sl)
      ∙ ap (λ (x : ℕ). matrix order x (length sl) cell) li ∙ ap (λ (x : ℕ). matrix order n x cell) ls

  -- of the length that 15 asks for
  pub read_length : length read ≡ n * s
  read_length = ap length read_matrix ∙ length_matrix order n s cell

  -- with the value of each code at its place
  pub read_cell : (d : V) (k m : ℕ) → k < n → m < s → get_or read (matrix_place order n s k m) d ≡ cell k m
  read_cell d k m hk hm = ap (λ (l : List V). get_or l (matrix_place order n s k m) d) read_matrix ∙ get_d_matrix n s k m hk hm order cell d

-- and it is left where reading is done
pub buffer_values :
    {V : Type 0} (w : Width V) (file : List ℕ) (iids sids : ℕ) (flag : Bool) (il sl : List ℤ) (missing : V) (order : Bool) (old : List V)
    → is_done (read_answer file iids sids il sl (length old)) ≡ true → read_buffer w file iids sids flag il sl missing order old ≡ values_read w flag missing order file iids sids il sl
unfolding read_buffer
buffer_values w file iids sids flag il sl missing order old d = new_if_done (read_answer file iids sids il sl (length old)) _ old d

-- ---- from the checks
module _ (m : ℕ) (file : List ℕ) (iids sids : ℕ) (il sl : List ℤ) (n : ℕ) (r : Checked m file iids sids il sl n) (shape : Shape) (e : IsShape file iids sids shape) where
  -- lines of animals, and lines of markers
  pub ready_lines : (animals : Bool) → Ready file shape animals (cond animals il sl) (cond animals sl il)
  ready_lines animals =
      let a = accepted file iids sids r.is_accepted in
      record {
        shaped = shape_read file iids sids shape e a.length_is;
        iids_fit = (let i = e.iids_are in let f = a.iids_fit in omega arith);
        sids_fit = (let s = e.sids_are in let f = a.sids_fit in omega arith);
        outer_good = outer animals;
        inner_good = inner animals;
      }
    where
      iids_good : first_bad shape.iids il ≡ None
      iids_good = ap (λ (x : ℕ). first_bad x il) e.iids_are ∙ r.iids_good

      sids_good : first_bad shape.sids sl ≡ None
      sids_good = ap (λ (x : ℕ). first_bad x sl) e.sids_are ∙ r.sids_good

      outer : (b : Bool) → first_bad (count_of b shape) (cond b il sl) ≡ None
      outer true = iids_good
      outer false = sids_good

      inner : (b : Bool) → first_bad (count_of (not b) shape) (cond b sl il) ≡ None
      inner true = sids_good
      inner false = iids_good

module _ (file : List ℕ) (iids sids : ℕ) (il sl : List ℤ) (shape : Shape) (e : IsShape file iids sids shape) where
  -- the buffer where reading is done
  pub buffer_read :
      {V : Type 0} (W : Width V) (flag : Bool) (missing : V) (order b : Bool) (old new : List V)
      → is_done (read_answer file iids sids il sl (length old)) ≡ true → order ≡ b
      → new ≡ map (value_of W flag missing) (codes_read b file shape.iids shape.sids il sl)
      → new ≡ read_buffer W file iids sids flag il sl missing order old
  unfolding values_read
  buffer_read W flag missing order b old new done q f =
      f
      ∙ ap (λ (x : Bool). map (value_of W flag missing) (codes_read x file shape.iids shape.sids il sl)) (sym q)
      ∙ ap (λ (x : ℕ). map (value_of W flag missing) (codes_read order file x shape.sids il sl)) e.iids_are
      ∙ ap (λ (x : ℕ). map (value_of W flag missing) (codes_read order file iids x il sl)) e.sids_are
      ∙ sym (buffer_values W file iids sids flag il sl missing order old done)

-- and where it is refused
pub buffer_kept :
    {V : Type 0} (W : Width V) (file : List ℕ) (iids sids : ℕ) (flag : Bool) (il sl : List ℤ) (missing : V) (order : Bool) (old : List V)
    → is_done (read_answer file iids sids il sl (length old)) ≡ false → old ≡ read_buffer W file iids sids flag il sl missing order old
unfolding read_buffer
buffer_kept W file iids sids flag il sl missing order old d = sym (old_if_not (read_answer file iids sids il sl (length old)) (values_read W flag missing order file iids sids il sl) old d)
