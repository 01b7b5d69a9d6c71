-- Laws of reading everything, in file order.
use mathlib.Core.Path.{◌≡◌, sym, ap, ◌∙◌}
use mathlib.Core.Bool.{Bool, true}
use mathlib.Core.List.{List, []}
use Rattle.std.specs.Prelude.{None}
use Prim.Native.Nat.{ℕ, ◌*◌, ◌<◌}
use native.Mathlib.Omega.{arith}
use borrow.Author.Tests.{lt-ltb}
use lib.IntN.{pos}
use lib.ListN.{length, get_or}
use Rattle.answer.specs.Answer.{done, is_done}
use Rattle.entries.specs.Entry.{first_bad, is_good, means}
use Rattle.answer.specs.Matrix.{matrix_place}
use Rattle.codes.specs.Value.{Width, value_of}
use Rattle.entries.proofs.EntryLaws.{none_bad}
use Rattle.answer.proofs.Tabulate.{length_tabulate, get_d_tabulate}
use Rattle.bed_file.specs.File.{accept_answer}
use Rattle.calls.specs.Calls.{call_code}
use Rattle.bed_read.specs.Reading.{file_order, read_answer, read_code, read_buffer}
use Rattle.bed_read.proofs.ReadLaws.{read_good}
use Rattle.bed_read.proofs.BufferLaws.{read_cell, buffer_values}

pub order_length : (n : ℕ) → length (file_order n) ≡ n
unfolding file_order
order_length n = length_tabulate n pos

order_at : (n k : ℕ) → k < n → get_or (file_order n) k (pos 0) ≡ pos k
unfolding file_order
order_at n k h = get_d_tabulate n pos k (pos 0) h

pub order_good : (n : ℕ) → first_bad n (file_order n) ≡ None
unfolding is_good
order_good n =
    none_bad n (file_order n)
    (λ k h. let l = order_length n in let b : k < n = omega arith in ap (is_good n) (order_at n k b) ∙ lt-ltb k n b)

pub order_means : (n k : ℕ) → k < n → means n (get_or (file_order n) k (pos 0)) ≡ k
unfolding means
order_means n k h = ap (means n) (order_at n k h)

-- the codes read are those of the calls
pub order_code : (file : List ℕ) (iids sids a m : ℕ) → a < iids → m < sids → read_code file iids sids (file_order iids) (file_order sids) a m ≡ call_code file iids sids a m
unfolding read_code
order_code file iids sids a m ha hm =
    ap (λ (x : ℕ). call_code file iids sids x (means sids (get_or (file_order sids) m (pos 0)))) (order_means iids a ha) ∙ ap (call_code file iids sids a) (order_means sids m hm)

module _ (file : List ℕ) (iids sids : ℕ) (d : is_done (accept_answer file iids sids) ≡ true) where
  -- reading everything is not refused
  pub all_answer : (len : ℕ) → len ≡ iids * sids → read_answer file iids sids (file_order iids) (file_order sids) len ≡ done []
  all_answer len e =
      read_good file iids sids (file_order iids) (file_order sids) len d
      (ap (λ (n : ℕ). n * length (file_order sids)) (order_length iids) ∙ ap (λ (n : ℕ). iids * n) (order_length sids) ∙ sym e)
      (order_good iids) (order_good sids)

  -- each value read is that of the call's code
  pub read_at : {V : Type 0} (w : Width V) (flag : Bool) (missing : V) (order : Bool) (buffer : List V) → length buffer ≡ iids * sids
      → (a m : ℕ) → a < iids → m < sids
      → get_or (read_buffer w file iids sids flag (file_order iids) (file_order sids) missing order buffer) (matrix_place order iids sids a m) missing
      ≡ value_of w flag missing (call_code file iids sids a m)
  read_at {V} w flag missing order buffer l a m ha hm =
      ap (λ (x : List V). get_or x (matrix_place order iids sids a m) missing)
      (buffer_values w file iids sids flag (file_order iids) (file_order sids) missing order buffer (ap is_done (all_answer (length buffer) l)))
      ∙ read_cell w flag missing order file iids sids (file_order iids) (file_order sids) iids sids (order_length iids) (order_length sids) missing a m ha hm
      ∙ ap (value_of w flag missing) (order_code file iids sids a m ha hm)
