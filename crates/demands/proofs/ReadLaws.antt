-- What reading leaves, by the calls of the file. Over plain numbers and lists.
use mathlib.Core.Path.{◌≡◌, ap}
use mathlib.Core.Bool.{Bool}
use mathlib.Core.List.{List, [], map}
use Prim.Native.Nat.{ℕ, ◌*◌}
use lib.IntN.{ℤ, pos}
use lib.ListN.{length, get_or}
use Rattle.answer.specs.Answer.{done, is_done}
use Rattle.entries.specs.Entry.{means}
use Rattle.codes.specs.Value.{Width, value_of}
use Rattle.entries.proofs.EntryLaws.{means_below, all_good}
use Rattle.answer.proofs.MatrixLaws.{matrix_ext}
use Rattle.calls.specs.Calls.{call_code}
use Rattle.bed_read.specs.Reading.{read_answer, read_code, codes_read, values_read}
use Rattle.bed_read.proofs.ReadLaws.{read_good}
use Rattle.demands.specs.Demand.{IsAccepted, CallsAgree, GoodList}

-- ---- an accepted file is read, with good lists and a buffer of the right length
pub read_done :
    (file : List ℕ) (iids sids : ℕ) (il sl : List ℤ) → IsAccepted file iids sids → GoodList iids il → GoodList sids sl
    → (n : ℕ) → length il * length sl ≡ n → read_answer file iids sids il sl n ≡ done []
read_done file iids sids il sl acc gi gs n e = read_good file iids sids il sl n (ap is_done acc) e gi gs

-- ---- files whose calls agree are read alike, at every width, flag, missing value and order
module _ (file other : List ℕ) (iids sids : ℕ) (il sl : List ℤ) (gi : GoodList iids il) (gs : GoodList sids sl) (agree : CallsAgree file other iids sids) where
  codes_same : (order : Bool) → codes_read order file iids sids il sl ≡ codes_read order other iids sids il sl
  unfolding codes_read read_code
  codes_same order =
      matrix_ext order (length il) (length sl)
      (λ k m. call_code file iids sids (means iids (get_or il k (pos 0))) (means sids (get_or sl m (pos 0))))
      (λ k m. call_code other iids sids (means iids (get_or il k (pos 0))) (means sids (get_or sl m (pos 0))))
      (λ k m hk hm. agree (means iids (get_or il k (pos 0))) (means sids (get_or sl m (pos 0)))
      (means_below iids (get_or il k (pos 0)) (all_good iids il k gi hk)) (means_below sids (get_or sl m (pos 0)) (all_good sids sl m gs hm)))

  pub values_same : {V : Type 0} (w : Width V) (flag : Bool) (missing : V) (order : Bool)
      → values_read w flag missing order file iids sids il sl ≡ values_read w flag missing order other iids sids il sl
  unfolding values_read
  values_same w flag missing order = ap (map (value_of w flag missing)) (codes_same order)
