-- Decimal texts: they read back, have no leading zero, and are short.
use mathlib.Core.Path.{◌≡◌, refl, sym, ap, subst, ◌∙◌}
use mathlib.Core.Bool.{Bool, cond}
use mathlib.Core.List.{List, [], ◌∷◌, ◌++◌}
use Prim.Native.Nat.{ℕ, zero, suc, ◌+◌, ◌-◌, ◌*◌, ◌/◌, ◌%◌, ◌^◌, ◌<◌, ◌≤◌}
use native.Mathlib.Nat.{pow-suc}
use native.Mathlib.Omega.{arith}
use borrow.Author.Tests.{lt-ltb, le-ltb}
use lib.ListN.{length, get_or, length-append, get_or-append}
use Rattle.answer.proofs.Tests.{by_lt}
use Rattle.rates.specs.Text.{digit, digits, decimal}
use Rattle.rates.specs.Words.{read_from, read_decimal}

-- ---- one digit, and more
digits_one : (most n : ℕ) → n < 10 → digits (suc most) n ≡ digit n ∷ []
unfolding digits
digits_one most n h = ap (λ (b : Bool). cond b (digit n ∷ []) (digits most (n / 10) ++ (digit (n % 10) ∷ []))) (lt-ltb n 10 h)

digits_more : (most n : ℕ) → 10 ≤ n → digits (suc most) n ≡ digits most (n / 10) ++ (digit (n % 10) ∷ [])
unfolding digits
digits_more most n h = ap (λ (b : Bool). cond b (digit n ∷ []) (digits most (n / 10) ++ (digit (n % 10) ∷ []))) (le-ltb n 10 h)

-- a larger bound changes nothing
same_digits : (a b n : ℕ) → n < a → n < b → digits a n ≡ digits b n
same_digits zero b n h k = absurd (omega arith)
same_digits (suc a) zero n h k = absurd (omega arith)
same_digits (suc a) (suc b) n h k =
    by_lt n 10
    (λ l. digits_one a n l ∙ sym (digits_one b n l))
    (λ m. digits_more a n m ∙ ap (λ (ds : List ℕ). ds ++ (digit (n % 10) ∷ [])) (same_digits a b (n / 10) (omega arith) (omega arith)) ∙ sym (digits_more b n m))

-- a number below 10 is its digit; any other is the number without its last digit, and then that
pub decimal_one : (n : ℕ) → n < 10 → decimal n ≡ digit n ∷ []
unfolding decimal
decimal_one n h = digits_one n n h

pub decimal_more : (n : ℕ) → 10 ≤ n → decimal n ≡ decimal (n / 10) ++ (digit (n % 10) ∷ [])
unfolding decimal
decimal_more n h = digits_more n n h ∙ ap (λ (ds : List ℕ). ds ++ (digit (n % 10) ∷ [])) (same_digits n (suc (n / 10)) (n / 10) (omega arith) (omega arith))

-- ---- so what holds of digits, and of a text with one digit more, holds of every decimal text
pub by_digits :
    (P : ℕ → List ℕ → Type 0) → ((n : ℕ) → n < 10 → P n (digit n ∷ []))
    → ((n : ℕ) (ds : List ℕ) → 10 ≤ n → P (n / 10) ds → P n (ds ++ (digit (n % 10) ∷ []))) → (n : ℕ) → P n (decimal n)
by_digits P one more n = go (suc n) n (omega arith)
  where
    go : (most n : ℕ) → n < most → P n (decimal n)
    go zero n h = absurd (omega arith)
    go (suc most) n h =
        by_lt n 10
        (λ l. subst (P n) (sym (decimal_one n l)) (one n l))
        (λ m. subst (P n) (sym (decimal_more n m)) (more n (decimal (n / 10)) m (go most (n / 10) (omega arith))))

-- ---- reading back
read_append : (n : ℕ) (xs ys : List ℕ) → read_from n (xs ++ ys) ≡ read_from (read_from n xs) ys
unfolding read_from
read_append n [] ys = refl
read_append n (x ∷ xs) ys = read_append (10 * n + (x - digit 0)) xs ys

pub reads_back : (n : ℕ) → read_decimal (decimal n) ≡ n
unfolding read_decimal read_from
reads_back =
    by_digits (λ n text. read_from 0 text ≡ n) one
    (λ n ds h e. read_append 0 ds (digit (n % 10) ∷ []) ∙ last n (read_from 0 ds) e)
  where
    one : (n : ℕ) → n < 10 → read_from 0 (digit n ∷ []) ≡ n
    one n h = omega arith

    last : (n m : ℕ) → m ≡ n / 10 → read_from m (digit (n % 10) ∷ []) ≡ n
    last n m e = omega arith

-- two numbers with the same text are one
pub decimal_only : (m n : ℕ) → decimal m ≡ decimal n → m ≡ n
decimal_only m n e = sym (reads_back m) ∙ ap read_decimal e ∙ reads_back n

-- ---- no leading zero
-- a text has a first byte, and that of a number above 0 is above the byte of 0
record Leading (n : ℕ) (text : List ℕ) : Type 0 where
  there : 0 < length text
  positive : 0 < n → digit 0 < get_or text 0 0

leading : (n : ℕ) → Leading n (decimal n)
leading =
    by_digits Leading
    (λ n h. record { there = omega arith; positive = λ p. omega arith })
    (λ n ds h l.
    record {
      there = omega (arith, length-append ds (digit (n % 10) ∷ []), l.there);
      positive = λ p. subst (λ (x : ℕ). digit 0 < x) (sym (get_or-append ds (digit (n % 10) ∷ []) 0 0 l.there)) (l.positive (omega arith));
    })

pub decimal_there : (n : ℕ) → 0 < length (decimal n)
decimal_there n = (leading n).there

pub no_leading_zero : (n : ℕ) → 0 < n → digit 0 < get_or (decimal n) 0 0
no_leading_zero n = (leading n).positive

-- ---- digits only
pub digits_only : (n k : ℕ) → k < length (decimal n) → (digit 0 ≤ get_or (decimal n) k 0) × (get_or (decimal n) k 0 ≤ digit 9)
digits_only n = by_digits (λ n text. (k : ℕ) → k < length text → (digit 0 ≤ get_or text k 0) × (get_or text k 0 ≤ digit 9)) one more n
  where
    one : (n : ℕ) → n < 10 → (k : ℕ) → k < length (digit n ∷ []) → (digit 0 ≤ get_or (digit n ∷ []) k 0) × (get_or (digit n ∷ []) k 0 ≤ digit 9)
    one n h zero b = (omega arith, omega arith)
    one n h (suc k) b = absurd (omega arith)

    more :
        (n : ℕ) (ds : List ℕ) → 10 ≤ n → ((k : ℕ) → k < length ds → (digit 0 ≤ get_or ds k 0) × (get_or ds k 0 ≤ digit 9))
        → (k : ℕ) → k < length (ds ++ (digit (n % 10) ∷ [])) → (digit 0 ≤ get_or (ds ++ (digit (n % 10) ∷ [])) k 0) × (get_or (ds ++ (digit (n % 10) ∷ [])) k 0 ≤ digit 9)
    more n [] h f k b = one (n % 10) (omega arith) k b
    more n (d ∷ ds) h f zero b = f 0 (omega arith)
    more n (d ∷ ds) h f (suc k) b = more n ds h (λ j c. f (suc j) (omega arith)) k (omega arith)

-- ---- how long
pub decimal_short : (n most : ℕ) → n < 10 ^ suc most → length (decimal n) ≤ suc most
decimal_short n most h = by_digits (λ n text. (most : ℕ) → n < 10 ^ suc most → length text ≤ suc most) one more n most h
  where
    one : (n : ℕ) → n < 10 → (most : ℕ) → n < 10 ^ suc most → length (digit n ∷ []) ≤ suc most
    one n h most b = omega arith

    more :
        (n : ℕ) (ds : List ℕ) → 10 ≤ n → ((most : ℕ) → n / 10 < 10 ^ suc most → length ds ≤ suc most)
        → (most : ℕ) → n < 10 ^ suc most → length (ds ++ (digit (n % 10) ∷ [])) ≤ suc most
    more n ds h f zero b = absurd (omega arith)
    more n ds h f (suc most) b =
        let p = pow-suc 10 (suc most) in
        let r = f most (omega arith) in
        omega (arith, length-append ds (digit (n % 10) ∷ []))

pub at_most_20 : (n : ℕ) → n < 2 ^ 64 → length (decimal n) ≤ 20
at_most_20 n h = decimal_short n 19 (omega arith)
