-- An answer told as three numbers.
use mathlib.Core.Path.{◌≡◌, refl, sym, ap, ◌∙◌}
use mathlib.Core.Bool.{Bool, true, false, cond}
use mathlib.Core.List.{List, [], ◌∷◌, map}
use Prim.Native.Nat.{ℕ, ◌^◌, ◌≤◌, ◌<◌}
use native.Mathlib.Omega.{arith}
use borrow.Author.Tests.{leb-true, leb-false}
use lib.Dec.{leb}
use lib.IntN.{ℤ, pos, negsuc}
use mir.Syntax.{w64}
use mir.Val.{to_z, of_z}
use mir.ValLaws.{to_z_pos, to_z-of_z}
use Rattle.answer.proofs.Tests.{by_lt}
use Rattle.std.specs.Prelude.{Result, Ok, Err, OkIff}
use Rattle.std.specs.Result.{result_unwrap_or}
use mir.Val.{SFits}
use Rattle.answer.specs.Answer.{Answer, done, refused, count_limit}
use Rattle.bed_answer.specs.declared.BedAnswer.{BedAnswer}
use Rattle.bed_answer.specs.Interface.{bed_answer, clipped, clip, carries_entry, clip_answer}
use Rattle.bed_answer.specs.Private.{three_of}
use Rattle.bed_answer.proofs.FitLaws.{AllBelow, Fits}

-- what is told of a case is told of the answer that is this case
pub told : {X : Type 0} (says : X → Answer) {r : BedAnswer} {x : X} (v : X) → r ≡ bed_answer (says v) → x ≡ v → r ≡ bed_answer (says x)
told says v e q = e ∙ sym (ap (λ a. bed_answer (says a)) q)

-- equal numbers make equal answers
pub three_of_law : (number : ℕ) {first second a b : ℤ} → first ≡ a → second ≡ b → three_of number first second ≡ three_of number a b
three_of_law number p q = cc

pub first_of : (number : ℕ) {first a : ℤ} → first ≡ a → three_of number first (pos 0) ≡ three_of number a (pos 0)
first_of number p = three_of_law number p refl

-- the core's answer, which is a definition's, is told as the definition's
pub as_said : {r : BedAnswer} {says answer : Answer} → r ≡ bed_answer says → says ≡ answer → r ≡ bed_answer answer
as_said e q = e ∙ ap bed_answer q

-- ---- numbers held in signed ones
cond_below : (n : ℕ) (b : Bool) → leb n count_limit ≡ b → n ≤ count_limit → cond b n count_limit ≡ n
cond_below n true e h = refl
cond_below n false e h = absurd (let k = leb-false n count_limit e in omega arith)

cond_above : (n : ℕ) (b : Bool) → leb n count_limit ≡ b → count_limit < n → cond b n count_limit ≡ count_limit
cond_above n true e h = absurd (let k = leb-true n count_limit e in omega arith)
cond_above n false e h = refl

pub clip_below : (n : ℕ) → n < 2 ^ 63 → clipped n ≡ n
unfolding clipped
clip_below n h = cond_below n (leb n count_limit) refl (omega arith)

pub clip_above : (n : ℕ) → 2 ^ 63 ≤ n → clipped n ≡ count_limit
unfolding clipped
clip_above n h = cond_above n (leb n count_limit) refl (omega arith)

cond_low : (n : ℕ) (b : Bool) → leb n count_limit ≡ b → cond b n count_limit < 2 ^ 63
cond_low n true e = let k = leb-true n count_limit e in omega arith
cond_low n false e = omega arith

clipped_low : (n : ℕ) → clipped n < 2 ^ 63
unfolding clipped
clipped_low n = cond_low n (leb n count_limit) refl

-- as the machine holds them
pub held_below : (n : ℕ) → n < 2 ^ 63 → to_z w64 n ≡ pos (clipped n)
held_below n h = to_z_pos w64 n h ∙ ap pos (sym (clip_below n h))

pub held : {e : ℤ} (n : ℕ) → e ≡ pos (clipped n) → to_z w64 (of_z w64 e) ≡ pos (clipped n)
held n q = ap (λ e. to_z w64 (of_z w64 e)) q ∙ to_z_pos w64 (clipped n) (clipped_low n)

-- a list whose numbers are below stays
list_clipped : (vs : List ℤ) → AllBelow vs → map clip vs ≡ vs
unfolding AllBelow clip
list_clipped [] f = refl
list_clipped (pos n ∷ vs) f = let p = clip_below n f.0 in let q = list_clipped vs f.1 in cc
list_clipped (negsuc k ∷ vs) f = ap (λ l. negsuc k ∷ l) (list_clipped vs f)

kept : (b : Bool) (vs : List ℤ) → (b ≡ false → AllBelow vs) → cond b vs (map clip vs) ≡ vs
kept true vs f = refl
kept false vs f = list_clipped vs (f refl)

pub answer_clipped : (a : Answer) → Fits a → clip_answer a ≡ a
unfolding clip_answer Fits
answer_clipped (done vs) f = ap done (list_clipped vs f)
answer_clipped (refused n vs) f = ap (refused n) (kept (carries_entry n) vs f)

-- a refusal that carries nothing stays
pub bare_clipped : (n : ℕ) → bed_answer (refused n []) ≡ bed_answer (clip_answer (refused n []))
unfolding Fits AllBelow
bare_clipped n = sym (ap bed_answer (answer_clipped (refused n []) (λ _. tt)))

-- the core's answer, whose numbers fit, is told as the definition's
pub as_fits : {r : BedAnswer} {says : Answer} (answer : Answer) → r ≡ bed_answer (clip_answer says) → says ≡ answer → Fits answer → r ≡ bed_answer answer
as_fits answer e q f = e ∙ ap (λ a. bed_answer (clip_answer a)) q ∙ ap bed_answer (answer_clipped answer f)

-- as `try_from` and `unwrap_or` hold them
pub clip_held : {E : Type 0} (n : ℕ) (r : Result ℤ E) → OkIff r (SFits w64 (pos n)) (pos n) → to_z w64 (of_z w64 (result_unwrap_or r (pos count_limit))) ≡ pos (clipped n)
clip_held n (Ok x) (f, e) = rw e (to_z-of_z w64 (pos n) f) ∙ ap pos (sym (clip_below n f.sfits))
clip_held n (Err e) o = ap pos (sym (clip_above n (by_lt n (2 ^ 63) (λ h. absurd (o (record { sfits = h }))) (λ h. h))))
