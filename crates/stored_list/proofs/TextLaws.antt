-- A word by its digits, and what the texts of sections and lines give.
use Rattle.std.proofs.Common.{◌≡◌, ℕ, ◌<◌, ◌≤◌, ◌^◌, true, false, cond, leb, eqb, List, [], ◌∷◌, length, get_or, refl, ap, subst, arith, Some, None, option_and_then, Result, Ok, Err, ◌≢◌, ◌⊎◌, inl, inr}
use Rattle.std.specs.Char.{digit_value}
use Rattle.std.specs.List.{list_all, slice_split}
use Rattle.std.specs.Result.{result_ok, OkIff}
use Rattle.std.specs.Str.Parse.{AllDigits, IsNumeral, digits_value, ParsesUnsigned}
use borrow.Author.Tests.{lt-ltb, le-ltb}
use Rattle.std.proofs.lemmas.Bool.{and_parts, cases_lt}
use Rattle.std.proofs.lemmas.Bool.Decides.{nat_tests}
use Rattle.std.proofs.lemmas.Str.Parse.{without_leading_plus_none}
use Rattle.stored_list.specs.Lines.{is_digit, is_word, word_of, each, of_length, words_of}

pub digit_below : (b : ℕ) → is_digit b ≡ true → digit_value b < 16
digit_below b h = grind (arith, nat_tests)

no_plus : (b : ℕ) → is_digit b ≡ true → b ≢ 43
no_plus b h = λ e. grind (arith, nat_tests)

all_digits : (text : List ℕ) → list_all is_digit text ≡ true → AllDigits 16 text
all_digits [] h = tt
all_digits (b ∷ bs) h = let p = and_parts (is_digit b) (list_all is_digit bs) h in (digit_below b p.0, all_digits bs p.1)

no_plus_first : (text : List ℕ) → list_all is_digit text ≡ true → get_or text 0 0 ≢ 43
no_plus_first [] h = λ e. absurd (omega (arith, e))
no_plus_first (b ∷ bs) h = no_plus b (and_parts (is_digit b) (list_all is_digit bs) h).0

module _ {E : Type 0} (text : List ℕ) (r : Result ℕ E) (all : list_all is_digit text ≡ true) (read : ParsesUnsigned 64 16 text r) where
  plain : OkIff r (IsNumeral 16 text × (digits_value 16 text < 2 ^ 64)) (digits_value 16 text)
  plain = subst (λ t. OkIff r (IsNumeral 16 t × (digits_value 16 t < 2 ^ 64)) (digits_value 16 t)) (without_leading_plus_none text (no_plus_first text all)) read

  pub word_read : result_ok r ≡ word_of text
  unfolding word_of
  word_read = by_result r plain
    where
      by_result : (q : Result ℕ E) → OkIff q (IsNumeral 16 text × (digits_value 16 text < 2 ^ 64)) (digits_value 16 text) → result_ok q ≡ cond (is_word text) (Some (digits_value 16 text)) None
      by_result (Ok n) h = rw (all, lt-ltb 0 (length text) h.0.0.0, lt-ltb (digits_value 16 text) (2 ^ 64) h.0.1) (ap Some h.1)
      by_result (Err d) h = by_tests (cases_lt 0 (length text)) (cases_lt (digits_value 16 text) (2 ^ 64))
        where
          by_tests : (0 < length text) ⊎ (length text ≤ 0) → (digits_value 16 text < 2 ^ 64) ⊎ (2 ^ 64 ≤ digits_value 16 text) → None ≡ cond (is_word text) (Some (digits_value 16 text)) None
          by_tests (inr g) l = rw (all, le-ltb 0 (length text) g)
          by_tests (inl g) (inr l) = rw (all, lt-ltb 0 (length text) g, le-ltb (digits_value 16 text) (2 ^ 64) l)
          by_tests (inl g) (inl l) = absurd (h ((g, all_digits text all), l))

pub no_word : (text : List ℕ) → list_all is_digit text ≡ false → None ≡ word_of text
unfolding word_of
no_word text h = rw h

abbrev pub parts : List ℕ → List (List ℕ)
parts text = slice_split (λ b. eqb b 32) text

abbrev pub sections : List ℕ → List (List ℕ)
sections text = slice_split (λ b. eqb b 124) text

module _ (text : List ℕ) where
  pub empty_section : eqb (length text) 0 ≡ true → words_of text ≡ Some []
  unfolding words_of
  empty_section h = rw h refl

  pub words_by_parts : eqb (length text) 0 ≡ false → words_of text ≡ option_and_then (of_length (λ n. leb n 64)) (each word_of (parts text))
  unfolding words_of
  words_by_parts h = rw h refl
