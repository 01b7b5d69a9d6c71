-- What a slice's start, end and step mean, and its checks: laws over plain values.
use mathlib.Core.Path.{◌≡◌, sym, ap, ◌∙◌}
use mathlib.Core.Bool.{Bool}
use mathlib.Core.List.{List, []}
use Prim.Native.Nat.{ℕ, ◌^◌, ◌≤◌, ◌<◌}
use native.Mathlib.Nat.{pos_of_ne-zero}
use native.Mathlib.Omega.{arith}
use borrow.Author.Tests.{eq-eqb, ne_eqb, le-leb, lt-leb}
use lib.IntN.{ℤ, pos, negsuc, nat_abs}
use lib.Signed.{lt_z}
use mir.Syntax.{w64}
use mir.Val.{SFits}
use Rattle.std.specs.Prelude.{Option, Some, None, Ok, Err}
use Rattle.answer.specs.Answer.{Answer, refused, check}
use Rattle.index.specs.declared.slice.SliceInfo1.{SliceInfo1}
use Rattle.index.specs.declared.slice.SliceError.{SliceError}
use Rattle.index.specs.Numbers.{from_count, slice_end, walk, slice_list}
use Rattle.index.specs.Checks.{check_end, check_slice}
use Rattle.index.specs.Private.{slice_refusal, MakesSlice, Listed, Checked}
use Rattle.index.proofs.StepLaws.{walk_is}
use Rattle.index.proofs.BufferLaws.{let_through, stopped}

-- a start or an end that passes its check is at most count
pub within : (e : ℤ) (count : ℕ) → nat_abs e ≤ count → from_count count e ≤ count
unfolding from_count
within (pos n) count h = h
within (negsuc k) count h = omega arith

pub size_bound : (e : ℤ) → SFits w64 e → nat_abs e ≤ 2 ^ 63
size_bound (pos n) f = omega (arith, f.sfits)
size_bound (negsuc k) f = omega (arith, f.sfits)

-- an end that passes its check, and the place that it means
pub record Ends (count : ℕ) (given : Option ℤ) (end : ℕ) : Type 0 where
  pub is : end ≡ slice_end count given
  pub most : end ≤ count
  pub passes : (later : Answer) → check_end given count later ≡ later

module _ (count : ℕ) (given : Option ℤ) (end : ℕ) where
  pub ends_absent : given ≡ None → end ≡ count → Ends count given end
  unfolding slice_end check_end
  ends_absent absent q =
      record { is = q ∙ sym (ap (slice_end count) absent); most = omega arith; passes = λ later. ap (λ (x : Option ℤ). check_end x count later) absent }

  pub ends_at : (e : ℤ) → given ≡ Some e → nat_abs e ≤ count → end ≡ from_count count e → Ends count given end
  unfolding slice_end check_end check
  ends_at e at h q =
      record {
        is = q ∙ sym (ap (slice_end count) at);
        most = omega (arith, within e count h);
        passes = λ later. ap (λ (x : Option ℤ). check_end x count later) at ∙ simp (le-leb (nat_abs e) count h);
      }

module _ (s : SliceInfo1) (count : ℕ) where
  pub step_zero : nat_abs s.step ≡ 0 → MakesSlice s count (Err SliceError.StepZero)
  unfolding MakesSlice check_slice check
  step_zero e = λ later. simp (eq-eqb (nat_abs s.step) 0 e)

  module _ (n : nat_abs s.step ≡ 0 → ⊥) where
    pub start_above : count < nat_abs s.start → MakesSlice s count (Err SliceError.StartGreaterThanCount)
    unfolding MakesSlice check_slice check
    start_above h = λ later. simp (ne_eqb (nat_abs s.step) 0 n, lt-leb (nat_abs s.start) count h)

    module _ (hs : nat_abs s.start ≤ count) where
      pub end_above : (e : ℤ) → s.end ≡ Some e → count < nat_abs e → MakesSlice s count (Err SliceError.EndGreaterThanCount)
      unfolding MakesSlice check_slice check_end check
      end_above e at h = λ later. simp (ne_eqb (nat_abs s.step) 0 n, le-leb (nat_abs s.start) count hs, at, lt-leb (nat_abs e) count h)

      pub made :
          (start end step : ℕ) (is_reversed : Bool) → start ≡ from_count count s.start → Ends count s.end end → step ≡ nat_abs s.step
          → is_reversed ≡ lt_z s.step (pos 0) → MakesSlice s count (Ok (walk start end step is_reversed))
      unfolding MakesSlice check_slice check slice_list
      made start end step is_reversed es ends en er = (
        ap (λ (a : ℕ). walk a end step is_reversed) es
            ∙ ap (λ (b : ℕ). walk (from_count count s.start) b step is_reversed) ends.is
            ∙ ap (λ (m : ℕ). walk (from_count count s.start) (slice_end count s.end) m is_reversed) en
            ∙ ap (walk (from_count count s.start) (slice_end count s.end) (nat_abs s.step)) er
            ∙ walk_is (from_count count s.start) (slice_end count s.end) s.step (pos_of_ne-zero n),
        λ later. simp (ne_eqb (nat_abs s.step) 0 n, le-leb (nat_abs s.start) count hs, ends.passes),
      )

-- what `RangeNdSlice::new` made tells what the checks of a slice say
module _ (s : SliceInfo1) (count : ℕ) where
  pub slice_listed : {old new : List ℤ} {says : Answer} (list : List ℤ) → MakesSlice s count (Ok list) → Listed list old says new → Checked (check_slice s count) (slice_list s count) old says new
  unfolding MakesSlice
  slice_listed list made = let_through made.1 made.0

  pub slice_stopped : {old : List ℤ} (e : SliceError) → MakesSlice s count (Err e) → Checked (check_slice s count) (slice_list s count) old (refused (slice_refusal e) []) old
  unfolding MakesSlice
  slice_stopped e made = stopped made
