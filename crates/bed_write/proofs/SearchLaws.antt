-- Laws of the search for the first bad value.
use Rattle.std.proofs.Common.{◌≡◌, refl, sym, Bool, true, false, ◌||◌, List, Some, None, Option, ℕ, ◌+◌, ◌*◌, ◌<◌, ◌≤◌, arith, below_more, length}
use native.Mathlib.Nat.{le_refl}
use Rattle.codes.specs.Value.{Width}
use Rattle.answer.specs.Matrix.{matrix_place}
use Rattle.answer.proofs.MatrixLaws.{place_below}
use Rattle.bed_write.specs.Packing.{place_code, first_of, if_bad}
use Rattle.bed_write.specs.Writing.{value_code, first_bad_call}
use Rattle.bed_write.specs.Groups.{or_four}
use Rattle.bed_write.proofs.FirstLaws.{first_none, first_some, first_all, bad_none, bad_some, code_known}

-- a call, by its animal and its marker
abbrev pub call : ℕ → ℕ → ℕ × ℕ
call a m = (a, m)

-- ---- the first marker, and in it the first animal
module _ (iids sids : ℕ) (code : ℕ → ℕ → Option ℕ) where
  -- no animal of a marker is bad
  abbrev pub GoodMarker : ℕ → Type 0
  GoodMarker m = (a : ℕ) → a < iids → or_four (code a m) < 4

  marker_none : (m : ℕ) → GoodMarker m → first_of iids (λ a. if_bad (code a m) (call a m)) ≡ None
  marker_none m g = first_none iids (λ a. if_bad (code a m) (call a m)) (λ a h. bad_none (code a m) (call a m) (g a h))

  pub called_none : (marker : ℕ) → sids ≤ marker → ((m : ℕ) → m < marker → GoodMarker m) → None ≡ first_bad_call iids sids code
  unfolding first_bad_call
  called_none marker h g = sym (first_none sids (λ m. first_of iids (λ a. if_bad (code a m) (call a m))) (λ m l. marker_none m (g m (omega arith))))

  module _ (coded : (a m c : ℕ) → code a m ≡ Some c → c < 4) where
    pub called_at :
        (marker animal : ℕ) → marker < sids → animal < iids → ((m : ℕ) → m < marker → GoodMarker m) → ((a : ℕ) → a < animal → or_four (code a marker) < 4)
        → 3 < or_four (code animal marker) → Some (call animal marker) ≡ first_bad_call iids sids code
    unfolding first_bad_call
    called_at marker animal hm ha before here b =
        sym (first_some sids (λ m. first_of iids (λ a. if_bad (code a m) (call a m))) marker (call animal marker) hm (λ m l. marker_none m (before m l))
        (first_some iids (λ a. if_bad (code a marker) (call a marker)) animal (call animal marker) ha (λ a l. bad_none (code a marker) (call a marker) (here a l))
        (bad_some (code animal marker) (call animal marker) (coded animal marker) b)))

    -- where no call was found, each has a code
    pub call_good : None ≡ first_bad_call iids sids code → (a m : ℕ) → a < iids → m < sids → or_four (code a m) < 4
    unfolding first_bad_call
    call_good e a m ha hm =
        code_known (code a m) (call a m) (coded a m)
        (first_all iids (λ a. if_bad (code a m) (call a m)) (first_all sids (λ m. first_of iids (λ a. if_bad (code a m) (call a m))) (sym e) m hm) a ha)

-- ---- a look at all values
-- none was bad so far, and this one is not
pub none_so_far :
    (number : ℕ → ℕ) (i : ℕ) (bad here : Bool) → (bad ≡ false → (k : ℕ) → k < i → number k < 4) → (here ≡ false → number i < 4)
    → (bad || here) ≡ false → (k : ℕ) → k < i + 1 → number k < 4
none_so_far number i true here before h e = absurd (let q : ◌≡◌ {A = ℕ} 0 1 = cc in omega arith)
none_so_far number i false here before h e = below_more _ _ (before refl) (h e)

-- no value at any place is bad
pub all_good :
    {V : Type 0} (w : Width V) (flag : Bool) (missing : V) (order : Bool) (iids sids : ℕ) (val : List V) → iids * sids ≡ length val
    → ((k : ℕ) → k < length val → or_four (place_code w flag missing val k) < 4) → None ≡ first_bad_call iids sids (value_code w flag missing order iids sids val)
unfolding value_code
all_good w flag missing order iids sids val e g =
    called_none iids sids (value_code w flag missing order iids sids val) sids (le_refl sids)
    (λ m hm a ha. let p : matrix_place order iids sids a m < iids * sids = place_below iids sids a m ha hm order in g (matrix_place order iids sids a m) (omega arith))
