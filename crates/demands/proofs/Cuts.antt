-- W-213 of document 02: a cut of a cut gives the bytes of one cut by the lists composed (`GivesOneCut`). Each cut has a width, a flag, a missing value, a
-- matrix order and buffers of its own; the file is of either mode; "Repeated entries and empty lists are included".
use mathlib.Core.Path.{◌≡◌, refl, sym, ap, subst, ◌∙◌}
use mathlib.Core.Bool.{Bool}
use mathlib.Core.List.{List, []}
use Prim.Native.Nat.{ℕ, ◌<◌}
use lib.IntN.{ℤ, pos}
use lib.Ieee.{Float}
use lib.ListN.{length, get_or}
use Rattle.answer.specs.Answer.{done, is_done}
use Rattle.blocks.specs.Block.{file_length}
use Rattle.entries.specs.Entry.{means}
use Rattle.codes.specs.Value.{Width}
use Rattle.codes.proofs.ValueLaws.{Numbers, i8_numbers, float_numbers, NoNumber}
use Rattle.calls.specs.Calls.{call_code}
use Rattle.bed_read.specs.Reading.{read_code}
use Rattle.canonical.specs.Canonical.{canonical_answer, canonical_buffer}
use Rattle.demands.specs.Demand.{IsAccepted}
use Rattle.demands.specs.Composed.{resolved_through, composed, composed_as_given}
use Rattle.demands.specs.Cut.{Cut, cut_at, f64_cut, i8_cut, Leaves, RightBuffers, GivesOneCut}
use Rattle.demands.proofs.WriteLaws.{written_accepted, written_canonical}
use Rattle.demands.proofs.CutCodes.{again_same, again_twice}
use Rattle.demands.proofs.ReadBack.{nan_no_number}
use Rattle.demands.proofs.CutLists.{given_good, resolved_good, minus_127_no_number}
use Rattle.demands.proofs.CutLaws.{code_left, cut_readable, one_cut}

-- ---- the entries of lists composed name, in the first file, the calls that the second lists' entries name in what the first cut left
module _ (file : List ℕ) (iids sids : ℕ) (il sl : List ℤ) (d e : ℤ) where
  calls_composed : call_code file iids sids (means iids (resolved_through iids il d)) (means sids (resolved_through sids sl e)) ≡ read_code file iids sids il sl (means (length il) d) (means (length sl) e)
  unfolding read_code resolved_through means
  calls_composed = refl

  calls_as_given :
      call_code file iids sids (means iids (get_or il (means (length il) d) (pos 0))) (means sids (get_or sl (means (length sl) e) (pos 0)))
      ≡ read_code file iids sids il sl (means (length il) d) (means (length sl) e)
  unfolding read_code
  calls_as_given = refl

-- ---- where the one cut leaves of each code what the two leave
module _ (first second one : Cut) (n₁ : Numbers first.width) (n₂ : Numbers second.width) (n₃ : Numbers one.width)
    (same_codes : (code : ℕ) → code < 4 → code_left second (code_left first code) ≡ code_left one code) where
  by_composed : GivesOneCut composed first second one
  unfolding composed
  by_composed file iids sids il sl jl kl between bytes l₁ l₂ =
      let r = cut_readable file iids sids il sl first between l₁ in
      one_cut file iids sids il sl jl kl first second one n₁ n₂ n₃ same_codes (resolved_through iids il) (resolved_through sids sl)
      (resolved_good iids il r.iids_good) (resolved_good sids sl r.sids_good) (calls_composed file iids sids il sl) between bytes l₁ l₂

  by_given : GivesOneCut (λ count. composed_as_given) first second one
  unfolding composed_as_given
  by_given file iids sids il sl jl kl between bytes l₁ l₂ =
      let r = cut_readable file iids sids il sl first between l₁ in
      one_cut file iids sids il sl jl kl first second one n₁ n₂ n₃ same_codes (λ e. get_or il (means (length il) e) (pos 0)) (λ e. get_or sl (means (length sl) e) (pos 0))
      (given_good iids il r.iids_good) (given_good sids sl r.sids_good) (calls_as_given file iids sids il sl) between bytes l₁ l₂

-- ---- cuts that keep every code: at a width whose numbers 0, 1, 2 are three, "missing is none of 0, 1, 2 by number"
pub record KeepsCodes (c : Cut) : Type 0 where
  pub numbers : Numbers c.width
  pub no_number : NoNumber c.width c.missing

code_kept : (c : Cut) → KeepsCodes c → (code : ℕ) → code < 4 → code_left c code ≡ code
code_kept c k code h = again_same c.width k.numbers c.flag c.missing k.no_number code h

module _ (first second one : Cut) (k₁ : KeepsCodes first) (k₂ : KeepsCodes second) (k₃ : KeepsCodes one) where
  kept_twice : (code : ℕ) → code < 4 → code_left second (code_left first code) ≡ code_left one code
  kept_twice code h = ap (code_left second) (code_kept first k₁ code h) ∙ code_kept second k₂ code h ∙ sym (code_kept one k₃ code h)

  -- the theorem
  pub cut_of_cut : GivesOneCut composed first second one
  cut_of_cut = by_composed first second one k₁.numbers k₂.numbers k₃.numbers kept_twice

  -- and with the first lists' entries as they stand there
  pub cut_of_cut_as_given : GivesOneCut (λ count. composed_as_given) first second one
  cut_of_cut_as_given = by_given first second one k₁.numbers k₂.numbers k₃.numbers kept_twice

-- f64 with missing NaN, and i8 with missing −127
pub f64_keeps : (flag order : Bool) (val : List Float) (out : List ℕ) → KeepsCodes (f64_cut flag order val out)
f64_keeps flag order val out = record { numbers = float_numbers; no_number = nan_no_number }

pub i8_keeps : (flag order : Bool) (val : List ℤ) (out : List ℕ) → KeepsCodes (i8_cut flag order val out)
i8_keeps flag order val out = record { numbers = i8_numbers; no_number = minus_127_no_number }

module _ (flag₁ flag₂ flag₃ order₁ order₂ order₃ : Bool) (out₁ out₂ out₃ : List ℕ) where
  pub cut_of_cut_f64 : (val₁ val₂ val₃ : List Float) → GivesOneCut composed (f64_cut flag₁ order₁ val₁ out₁) (f64_cut flag₂ order₂ val₂ out₂) (f64_cut flag₃ order₃ val₃ out₃)
  cut_of_cut_f64 val₁ val₂ val₃ = cut_of_cut _ _ _ (f64_keeps flag₁ order₁ val₁ out₁) (f64_keeps flag₂ order₂ val₂ out₂) (f64_keeps flag₃ order₃ val₃ out₃)

  pub cut_of_cut_i8 : (val₁ val₂ val₃ : List ℤ) → GivesOneCut composed (i8_cut flag₁ order₁ val₁ out₁) (i8_cut flag₂ order₂ val₂ out₂) (i8_cut flag₃ order₃ val₃ out₃)
  cut_of_cut_i8 val₁ val₂ val₃ = cut_of_cut _ _ _ (i8_keeps flag₁ order₁ val₁ out₁) (i8_keeps flag₂ order₂ val₂ out₂) (i8_keeps flag₃ order₃ val₃ out₃)

-- ---- cuts under one flag and one missing value, whatever it is: 0, 1 and 2 too
pub cut_of_cut_alike :
    {V : Type 0} (w : Width V) → Numbers w → (flag : Bool) (missing : V) (order₁ order₂ order₃ : Bool) (val₁ val₂ val₃ : List V) (out₁ out₂ out₃ : List ℕ)
    → GivesOneCut composed (cut_at w flag missing order₁ val₁ out₁) (cut_at w flag missing order₂ val₂ out₂) (cut_at w flag missing order₃ val₃ out₃)
cut_of_cut_alike w n flag missing order₁ order₂ order₃ val₁ val₂ val₃ out₁ out₂ out₃ =
    by_composed (cut_at w flag missing order₁ val₁ out₁) (cut_at w flag missing order₂ val₂ out₂) (cut_at w flag missing order₃ val₃ out₃) n n n (again_twice w n flag missing)

-- ---- "writing it canonical": what a cut leaves is accepted for the lengths of its lists, and is its own canonical file
pub cut_canonical : (file : List ℕ) (iids sids : ℕ) (il sl : List ℤ) (c : Cut) (bytes : List ℕ) → Leaves file iids sids il sl c bytes
    → (old : List ℕ) → length old ≡ file_length (length il) (length sl)
    → IsAccepted bytes (length il) (length sl)
    × (canonical_answer bytes (length il) (length sl) (length old) ≡ done []) × (canonical_buffer bytes (length il) (length sl) old ≡ bytes)
cut_canonical file iids sids il sl c bytes l old k =
    let d = ap is_done (sym l.is_written.0) in
    let w = written_canonical c.width c.flag c.missing c.order (length il) (length sl) l.values c.out d old k in
    subst
    (λ (x : List ℕ). IsAccepted x (length il) (length sl)
    × (canonical_answer x (length il) (length sl) (length old) ≡ done []) × (canonical_buffer x (length il) (length sl) old ≡ x))
    (sym l.is_written.1) (written_accepted c.width c.flag c.missing c.order (length il) (length sl) l.values c.out d, w.0, w.1)

-- so with the canonical call between the two cuts
pub cut_of_canonical_cut :
    (file : List ℕ) (iids sids : ℕ) (il sl jl kl : List ℤ) (first second one : Cut) → KeepsCodes first → KeepsCodes second → KeepsCodes one → (between old bytes : List ℕ)
    → Leaves file iids sids il sl first between → length old ≡ file_length (length il) (length sl)
    → Leaves (canonical_buffer between (length il) (length sl) old) (length il) (length sl) jl kl second bytes
    → RightBuffers (composed iids il jl) (composed sids sl kl) one → Leaves file iids sids (composed iids il jl) (composed sids sl kl) one bytes
cut_of_canonical_cut file iids sids il sl jl kl first second one k₁ k₂ k₃ between old bytes l₁ k l₂ =
    cut_of_cut first second one k₁ k₂ k₃ file iids sids il sl jl kl between bytes l₁
    (subst (λ (x : List ℕ). Leaves x (length il) (length sl) jl kl second bytes) (cut_canonical file iids sids il sl first between l₁ old k).2 l₂)
