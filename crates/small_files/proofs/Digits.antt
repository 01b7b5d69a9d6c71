-- Laws of base-4 digits, for any number of them: the digits of a number make it, and no other digits do.
use mathlib.Core.Path.{◌≡◌, refl, sym, ap, subst, ◌∙◌}
use mathlib.Core.List.{List, [], ◌∷◌}
use Prim.Native.Nat.{ℕ, zero, suc, ◌+◌, ◌-◌, ◌*◌, ◌/◌, ◌%◌, ◌^◌, ◌<◌}
use native.Mathlib.Nat.{pow-succ', pow-le-pow_right, mod-one, mod-lt, mod-eq_of_lt}
use native.Mathlib.Omega.{arith}
use lib.Arith.{digits_lt, digits_div, digits_mod, mod-mul}
use lib.ListN.{length, get_or, get_or-eq_default}
use Rattle.answer.specs.Lists.{tabulate}
use Rattle.answer.proofs.Tabulate.{length_tabulate, get_d_tabulate, tabulate_ext}
use Rattle.answer.proofs.Tests.{by_lt}
use Rattle.codes.proofs.CodeLaws.{Codes}
use Rattle.small_files.specs.Serial.{digit}
use Rattle.small_files.specs.OneSerial.{digits, number_of}

-- ---- lists of codes as digits
pub codes_by_place : (n : ℕ) (f : ℕ → ℕ) → ((k : ℕ) → k < n → f k < 4) → Codes (tabulate n f)
codes_by_place n f h k =
    by_lt k n (λ b. subst (λ (x : ℕ). x < 4) (sym (get_d_tabulate n f k 0 b)) (h k b))
    (λ b. let l = length_tabulate n f in let e : get_or (tabulate n f) k 0 ≡ 0 = get_or-eq_default (tabulate n f) 0 (omega arith) in omega arith)

-- n digits make a number below 4 ^ n
pub number_below : (ds : List ℕ) → Codes ds → number_of ds < 4 ^ length ds
unfolding number_of
number_below [] h = omega arith
number_below (d ∷ ds) h =
    subst (λ (x : ℕ). d * 4 ^ length ds + number_of ds < x) (sym (pow-succ' 4 (length ds))) (digits_lt (h 0) (number_below ds (λ k. h (suc k))))

-- as many digits that make the same number are the same
pub same_number : (ds es : List ℕ) → Codes ds → Codes es → length ds ≡ length es → number_of ds ≡ number_of es → ds ≡ es
unfolding number_of
same_number [] [] h g l q = refl
same_number [] (e ∷ es) h g l q = absurd (omega arith)
same_number (d ∷ ds) [] h g l q = absurd (omega arith)
same_number (d ∷ ds) (e ∷ es) h g l q =
    let k : length es ≡ length ds = omega arith in
    let bd : number_of ds < 4 ^ length ds = number_below ds (λ i. h (suc i)) in
    let be : number_of es < 4 ^ length ds = subst (λ (n : ℕ). number_of es < 4 ^ n) k (number_below es (λ i. g (suc i))) in
    let r : d * 4 ^ length ds + number_of ds ≡ e * 4 ^ length ds + number_of es = q ∙ ap (λ (n : ℕ). e * 4 ^ n + number_of es) k in
    let first : d ≡ e = sym (digits_div d bd) ∙ ap (λ (x : ℕ). x / 4 ^ length ds) r ∙ digits_div e be in
    let rest : number_of ds ≡ number_of es = sym (digits_mod d bd) ∙ ap (λ (x : ℕ). x % 4 ^ length ds) r ∙ digits_mod e be in
    ap (λ (x : ℕ). x ∷ ds) first ∙ ap (λ (l : List ℕ). e ∷ l) (same_number ds es (λ i. h (suc i)) (λ i. g (suc i)) (sym k) rest)

-- ---- the digits of a number
pub digit_below : (n s p : ℕ) → digit n s p < 4
unfolding digit
digit_below n s p = mod-lt _ (omega arith)

-- the last n digits of any number make its remainder by 4 ^ n
pub digits_number : (n s : ℕ) → number_of (digits n s) ≡ s % 4 ^ n
unfolding number_of tabulate digit
digits_number zero s = sym (mod-one s)
digits_number (suc n) s =
    let first : suc n - 1 - 0 ≡ n = omega arith in
    let rest : tabulate n (λ k. digit (suc n) s (suc k)) ≡ tabulate n (digit n s) =
    tabulate_ext n (λ k. digit (suc n) s (suc k)) (digit n s) (λ k h. ap (λ (i : ℕ). s / 4 ^ i % 4) (let e : suc n - 1 - suc k ≡ n - 1 - k = omega arith in e)) in
    ap (λ (i : ℕ). s / 4 ^ i % 4 * 4 ^ length (tabulate n (λ k. digit (suc n) s (suc k))) + number_of (tabulate n (λ k. digit (suc n) s (suc k)))) first
    ∙ ap (λ (l : List ℕ). s / 4 ^ n % 4 * 4 ^ length l + number_of l) rest
    ∙ ap (λ (i : ℕ). s / 4 ^ n % 4 * 4 ^ i + number_of (tabulate n (digit n s))) (length_tabulate n (digit n s))
    ∙ ap (λ (x : ℕ). s / 4 ^ n % 4 * 4 ^ n + x) (digits_number n s)
    ∙ sym (mod-mul s (omega arith) (pow-le-pow_right {n = 4} (omega arith) {i = 0} {j = n} (omega arith)))
    ∙ ap (λ (x : ℕ). s % x) (sym (pow-succ' 4 n))

-- n digits make every number below 4 ^ n
pub digits_make : (n s : ℕ) → s < 4 ^ n → number_of (digits n s) ≡ s
digits_make n s h = digits_number n s ∙ mod-eq_of_lt h

-- and any n codes are the digits of the number that they make
pub number_digits : (n : ℕ) (ds : List ℕ) → length ds ≡ n → Codes ds → digits n (number_of ds) ≡ ds
number_digits n ds l h =
    same_number (digits n (number_of ds)) ds (codes_by_place n (digit n (number_of ds)) (λ k b. digit_below n (number_of ds) k)) h
    (length_tabulate n (digit n (number_of ds)) ∙ sym l)
    (digits_make n (number_of ds) (subst (λ (k : ℕ). number_of ds < 4 ^ k) l (number_below ds h)))
