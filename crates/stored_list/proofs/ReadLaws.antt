-- A section that is read byte by byte, a line that is read section by section, and a beginning that stays.
use Rattle.std.proofs.Common.{◌-◌, ◌≡◌, ℕ, zero, suc, ◌+◌, ◌*◌, ◌^◌, ◌<◌, ◌≤◌, Bool, true, false, ◌&&◌, ◌||◌, cond, eqb, leb, ltb, List, [], ◌∷◌, ◌++◌, length, take, drop, map, min, refl, sym, ap, ◌∙◌, arith, Option, Some, None, option_map, option_and_then, MatchResult, append_assoc, lit<, ◌⊎◌, inl, inr, get_or, Result, Ok, Err, set}
use Rattle.std.specs.Option.{unwrap_or, is_some}
use Rattle.std.specs.Result.{IsErr, result_ok}
use Rattle.std.proofs.lemmas.List.{at_drop_more, at_drop_all, take_more_set, take_all, map_push, length-drop, drop-drop, take_rest}
use Rattle.std.specs.Char.{digit_value}
use Rattle.std.specs.List.{list_all, onto_first, fold}
use Rattle.std.specs.Str.Parse.{digits_value_after}
use borrow.Author.Tests.{lt-ltb, le-ltb, eq-eqb, ne_eqb}
use Rattle.std.proofs.lemmas.Bool.{false≢true, cases_lt}
use Rattle.std.proofs.lemmas.Bool.Decides.{nat_tests}
use Rattle.stored_list.specs.Lines.{is_digit, word_of, each, of_length, words_of, line_of}
use Rattle.stored_list.specs.Readings.{listed, before, onto, few, words_left, until_bar}
use Rattle.stored_list.specs.declared.words.Words.{Words}
use Rattle.stored_list.specs.declared.beginning.Beginning.{Beginning}
use Rattle.stored_list.specs.declared.beginning.Beginning.TheVariants.{Nothing, Comment, NoWord, Word, WordAndMore}
use Rattle.stored_list.specs.Beginnings.{begun_after, beginning_of, is_settled}
use Rattle.stored_list.proofs.TextLaws.{parts, sections, words_by_parts, digit_below, empty_section}

-- ---- a beginning
pub settled_stays : (b : Beginning) (bs : List ℕ) → is_settled b ≡ true → b ≡ fold begun_after b bs
settled_stays b [] h = refl
settled_stays Comment (x ∷ xs) h = settled_stays Comment xs h
settled_stays NoWord (x ∷ xs) h = settled_stays NoWord xs h
settled_stays (WordAndMore n) (x ∷ xs) h = settled_stays (WordAndMore n) xs h
settled_stays Nothing (x ∷ xs) h = absurd (false≢true h)
settled_stays (Word n) (x ∷ xs) h = absurd (false≢true h)

pub settled_at : (text bytes : List ℕ) → bytes ≡ text → (b r : Beginning) (i : ℕ) → beginning_of text ≡ fold begun_after b (drop i text) → i < length bytes → r ≡ begun_after b (get_or bytes i 0) → is_settled r ≡ true → r ≡ beginning_of text
settled_at text bytes same b r i sofar h e s =
    let low : i < length text = omega (arith, h, ap length same) in
    settled_stays r (drop (i + 1) text) s
    ∙ ap (λ z. fold begun_after z (drop (i + 1) text)) (e ∙ ap (λ l. begun_after b (get_or l i 0)) same)
    ∙ sym (sofar ∙ at_drop_more (fold begun_after b) text i 0 low)

-- ---- a word
-- the word of more digits, where n is the number of those that were read, if any were
abbrev word_after : ℕ → Bool → List ℕ → Option ℕ
word_after n has part =
    cond (list_all is_digit part && (has || ltb 0 (length part)) && ltb (digits_value_after 16 n part) (2 ^ 64)) (Some (digits_value_after 16 n part)) None

grows : (n : ℕ) (ds : List ℕ) → n ≤ digits_value_after 16 n ds
grows n [] = omega arith
grows n (d ∷ ds) = let h = grows (n * 16 + digit_value d) ds in omega (arith, h)

nothing_after : (w : Option ℕ) → unwrap_or w 0 < 2 ^ 64 → w ≡ word_after (unwrap_or w 0) (is_some w) []
nothing_after None h = refl
nothing_after (Some n) h = rw (lt-ltb n (2 ^ 64) h) refl

any_digit : (has : Bool) (p : List ℕ) → has || ltb 0 (suc (length p)) ≡ true
any_digit true p = refl
any_digit false p = lt-ltb 0 (suc (length p)) (omega arith)

third_false : (x y z : Bool) → z ≡ false → x && y && z ≡ false
third_false true true z h = h
third_false true false z h = refl
third_false false y z h = refl

more_after : (n : ℕ) (has : Bool) (b : ℕ) (p : List ℕ) → is_digit b ≡ true → word_after (16 * n + digit_value b) true p ≡ word_after n has (b ∷ p)
more_after n has b p h =
    let e : n * 16 + digit_value b ≡ 16 * n + digit_value b = omega arith in
    rw (h, any_digit has p, e) refl

none_after : (n : ℕ) (has : Bool) (b : ℕ) (p : List ℕ) → is_digit b && ltb n (2 ^ 60) ≡ false → None ≡ word_after n has (b ∷ p)
none_after n has b p h = by_digit (is_digit b) refl (cases_lt n (2 ^ 60))
  where
    by_digit : (t : Bool) → is_digit b ≡ t → (n < 2 ^ 60) ⊎ (2 ^ 60 ≤ n) → None ≡ word_after n has (b ∷ p)
    by_digit false e l = rw e refl
    by_digit true e (inl l) = absurd (false≢true (sym h ∙ (λ i. e i && lt-ltb n (2 ^ 60) l i)))
    by_digit true e (inr l) =
        let g = grows (n * 16 + digit_value b) p in
        let many : 2 ^ 64 ≤ digits_value_after 16 (n * 16 + digit_value b) p = omega (arith, g, l) in
        ap (λ t. cond t (Some (digits_value_after 16 (n * 16 + digit_value b) p)) None)
        (sym (third_false (list_all is_digit (b ∷ p)) (has || ltb 0 (suc (length p))) (ltb (digits_value_after 16 (n * 16 + digit_value b) p) (2 ^ 64)) (le-ltb (digits_value_after 16 (n * 16 + digit_value b) p) (2 ^ 64) many)))

-- ---- a section
abbrev NonEmpty : List (List ℕ) → Type 0
NonEmpty l = (p : List ℕ) × (ps : List (List ℕ)) × (l ≡ p ∷ ps)

nonempty_more : (b : ℕ) (l : List (List ℕ)) (t : Bool) → NonEmpty l → NonEmpty (cond t ([] ∷ l) (onto_first b l))
nonempty_more b l true k = ([], l, refl)
nonempty_more b l false k = (b ∷ k.0, k.1, ap (onto_first b) k.2)

nonempty : (bs : List ℕ) → NonEmpty (parts bs)
nonempty [] = ([], [], refl)
nonempty (b ∷ bs) = nonempty_more b (parts bs) (eqb b 32) (nonempty bs)

-- the words of parts, where of the first a front was read
abbrev first_each : (List ℕ → Option ℕ) → List (List ℕ) → Option (List ℕ)
first_each g [] = Some []
first_each g (p ∷ ps) = before (g p) (each word_of ps)

nil_first : (g : List ℕ → Option ℕ) → first_each g (parts []) ≡ before (g []) (Some [])
unfolding each
nil_first g = refl

first_of_all : (l : List (List ℕ)) → first_each (word_after 0 false) l ≡ each word_of l
unfolding each word_of
first_of_all [] = refl
first_of_all (p ∷ ps) = refl

-- as far as `|`, a byte that is none is the first, and the list of sections begins so
no_bar : (b : ℕ) (bs : List ℕ) → eqb b 124 ≡ false → until_bar (b ∷ bs) ≡ b ∷ until_bar bs
unfolding until_bar
no_bar b bs e = rw e refl

at_bar : (b : ℕ) (bs : List ℕ) → eqb b 124 ≡ true → until_bar (b ∷ bs) ≡ []
unfolding until_bar
at_bar b bs e = rw e refl

digit_no_bar : (b : ℕ) → is_digit b ≡ true → eqb b 124 ≡ false
digit_no_bar b h = grind (arith, nat_tests)

digit_no_space : (b : ℕ) → is_digit b ≡ true → eqb b 32 ≡ false
digit_no_space b h = grind (arith, nat_tests)

space_no_bar : (b : ℕ) → eqb b 32 ≡ true → eqb b 124 ≡ false
space_no_bar b h = grind (arith, nat_tests)

abbrev Reads : Option ℕ → List ℕ → Type 0
Reads w bs = words_left w bs ≡ first_each (word_after (unwrap_or w 0) (is_some w)) (parts (until_bar bs))

first_parts : (w : Option ℕ) (b : ℕ) (bs : List ℕ) → eqb b 32 ≡ false → eqb b 124 ≡ false → (k : NonEmpty (parts (until_bar bs))) → before (word_after (unwrap_or w 0) (is_some w) (b ∷ k.0)) (each word_of k.1) ≡ first_each (word_after (unwrap_or w 0) (is_some w)) (parts (until_bar (b ∷ bs)))
first_parts w b bs s e k =
    ap (λ l. first_each (word_after (unwrap_or w 0) (is_some w)) (onto_first b l)) (sym k.2)
    ∙ (λ i. first_each (word_after (unwrap_or w 0) (is_some w)) (cond (sym s i) ([] ∷ parts (until_bar bs)) (onto_first b (parts (until_bar bs)))))
    ∙ ap (λ t. first_each (word_after (unwrap_or w 0) (is_some w)) (parts t)) (sym (no_bar b bs e))

byte_read : (w : Option ℕ) (b : ℕ) (bs : List ℕ) → unwrap_or w 0 < 2 ^ 64 → Reads None bs → ((m : ℕ) → m < 2 ^ 64 → Reads (Some m) bs) → Reads w (b ∷ bs)
unfolding words_left
byte_read w b bs h none some = by_digit (is_digit b) refl (nonempty (until_bar bs))
  where
    n : ℕ
    n = unwrap_or w 0

    by_room : is_digit b ≡ true → (n < 2 ^ 60) ⊎ (2 ^ 60 ≤ n) → NonEmpty (parts (until_bar bs))
        → cond (ltb n (2 ^ 60)) (words_left (Some (16 * n + digit_value b)) bs) None ≡ first_each (word_after n (is_some w)) (parts (until_bar (b ∷ bs)))
    by_room d (inl low) k =
        rw (lt-ltb n (2 ^ 60) low) (some (16 * n + digit_value b) (omega (arith, low, digit_below b d))
        ∙ ap (first_each (word_after (16 * n + digit_value b) true)) k.2
        ∙ ap (λ o. before o (each word_of k.1)) (more_after n (is_some w) b k.0 d)
        ∙ first_parts w b bs (digit_no_space b d) (digit_no_bar b d) k)
    by_room d (inr high) k =
        rw (le-ltb n (2 ^ 60) high) (ap (λ o. before o (each word_of k.1)) (none_after n (is_some w) b k.0 (ap (λ t. t && ltb n (2 ^ 60)) d ∙ le-ltb n (2 ^ 60) high))
        ∙ first_parts w b bs (digit_no_space b d) (digit_no_bar b d) k)

    by_bar : is_digit b ≡ false → eqb b 32 ≡ false → (t : Bool) → eqb b 124 ≡ t → NonEmpty (parts (until_bar bs)) → cond t (before w (Some [])) None ≡ first_each (word_after n (is_some w)) (parts (until_bar (b ∷ bs)))
    by_bar d s true e k = ap (λ o. before o (Some [])) (nothing_after w h) ∙ nil_each ∙ ap (λ t. first_each (word_after n (is_some w)) (parts t)) (sym (at_bar b bs e))
      where
        nil_each : before (word_after n (is_some w) []) (Some []) ≡ first_each (word_after n (is_some w)) (parts [])
        nil_each = sym (nil_first (word_after n (is_some w)))
    by_bar d s false e k = ap (λ o. before o (each word_of k.1)) (none_after n (is_some w) b k.0 (ap (λ t. t && ltb n (2 ^ 60)) d)) ∙ first_parts w b bs s e k

    by_space : is_digit b ≡ false → (t : Bool) → eqb b 32 ≡ t → NonEmpty (parts (until_bar bs))
        → cond t (before w (words_left None bs)) (cond (eqb b 124) (before w (Some [])) None) ≡ first_each (word_after n (is_some w)) (parts (until_bar (b ∷ bs)))
    by_space d true s k =
        (λ i. before (nothing_after w h i) ((none ∙ first_of_all (parts (until_bar bs))) i))
        ∙ (λ i. first_each (word_after n (is_some w)) (cond (sym s i) ([] ∷ parts (until_bar bs)) (onto_first b (parts (until_bar bs)))))
        ∙ ap (λ t. first_each (word_after n (is_some w)) (parts t)) (sym (no_bar b bs (space_no_bar b s)))
    by_space d false s k = by_bar d s (eqb b 124) refl k

    by_digit : (t : Bool) → is_digit b ≡ t → NonEmpty (parts (until_bar bs)) → words_left w (b ∷ bs) ≡ first_each (word_after n (is_some w)) (parts (until_bar (b ∷ bs)))
    by_digit true d k = rw d (by_room d (cases_lt n (2 ^ 60)) k)
    by_digit false d k = rw d (by_space d (eqb b 32) refl k)

left_read : (w : Option ℕ) (bs : List ℕ) → unwrap_or w 0 < 2 ^ 64 → Reads w bs
unfolding words_left until_bar each
left_read w [] h = ap (λ o. before o (Some [])) (nothing_after w h)
left_read w (b ∷ bs) h = byte_read w b bs h (left_read None bs (lit< tt)) (λ m l. left_read (Some m) bs l)

pub onto_nothing : {A : Type 0} (l : Option (List A)) → l ≡ onto [] l
onto_nothing None = refl
onto_nothing (Some xs) = refl

-- the words of a section that is not empty
abbrev pub parted : List ℕ → Option (List ℕ)
parted text = few (each word_of (parts text))

pub section_begun : (bytes : List ℕ) → parted (until_bar bytes) ≡ few (onto [] (words_left None bytes))
section_begun bytes = ap few (sym (left_read None bytes (lit< tt) ∙ first_of_all (parts (until_bar bytes))) ∙ onto_nothing (words_left None bytes))

pub parted_words : (text : List ℕ) → 0 < length text → words_of text ≡ parted text
parted_words text h = words_by_parts text (ne_eqb (length text) 0 (λ z. omega (arith, h, z)))

no_bytes : (w : Option ℕ) → words_left w [] ≡ before w (Some [])
unfolding words_left
no_bytes w = refl

take_length : (n : ℕ) (xs : List ℕ) → length (take n xs) ≤ n
take_length zero xs = omega arith
take_length (suc n) [] = omega arith
take_length (suc n) (x ∷ xs) = let h = take_length n xs in omega (arith, h)

pub listed_few : (s : Words) → length (listed s) ≤ 64
listed_few s = let h = take_length (min s.count 64) s.words in omega (arith, h)

onto_end : {A : Type 0} (xs : List A) → xs ++ [] ≡ xs
onto_end [] = refl
onto_end (x ∷ xs) = ap (λ l. x ∷ l) (onto_end xs)

pub all_listed : (xs : List ℕ) → length xs ≤ 64 → few (onto xs (Some [])) ≡ Some xs
all_listed xs h = let e : leb (length xs) 64 ≡ true = grind (arith, nat_tests) in ap (λ l. few (Some l)) (onto_end xs) ∙ ap (λ t. cond t (Some xs) None) e

-- the section, where some of it is read
module _ (bytes ws : List ℕ) (w : Option ℕ) (i : ℕ) (low : i < length bytes) where
  abbrev b : ℕ
  b = get_or bytes i 0

  module _ (X : Option (List ℕ)) (sofar : X ≡ few (onto ws (words_left w (drop i bytes)))) where
    next_byte : X ≡ few (onto ws (words_left w (b ∷ drop (i + 1) bytes)))
    next_byte = sofar ∙ at_drop_more (λ l. few (onto ws (words_left w l))) bytes i 0 low

    pub at_digit : is_digit (get_or bytes i 0) ≡ true → unwrap_or w 0 < 2 ^ 60 → X ≡ few (onto ws (words_left (Some (16 * unwrap_or w 0 + digit_value (get_or bytes i 0))) (drop (i + 1) bytes)))
    unfolding words_left
    at_digit d l = next_byte ∙ rw (d, lt-ltb (unwrap_or w 0) (2 ^ 60) l) refl

    pub at_long : is_digit (get_or bytes i 0) ≡ true → 2 ^ 60 ≤ unwrap_or w 0 → X ≡ None
    unfolding words_left
    at_long d l = next_byte ∙ rw (d, le-ltb (unwrap_or w 0) (2 ^ 60) l) refl

    pub at_space : is_digit (get_or bytes i 0) ≡ false → get_or bytes i 0 ≡ 32 → X ≡ few (onto ws (before w (words_left None (drop (i + 1) bytes))))
    unfolding words_left
    at_space d s = next_byte ∙ rw (d, eq-eqb b 32 s) refl

    pub at_close : is_digit (get_or bytes i 0) ≡ false → (get_or bytes i 0 ≡ 32 → ⊥) → get_or bytes i 0 ≡ 124 → X ≡ few (onto ws (before w (Some [])))
    unfolding words_left
    at_close d s e = next_byte ∙ rw (d, ne_eqb b 32 s, eq-eqb b 124 e) refl

    pub at_other : is_digit (get_or bytes i 0) ≡ false → (get_or bytes i 0 ≡ 32 → ⊥) → (get_or bytes i 0 ≡ 124 → ⊥) → X ≡ None
    unfolding words_left
    at_other d s e = next_byte ∙ rw (d, ne_eqb b 32 s, ne_eqb b 124 e) refl

  module _ (sofar : length (until_bar bytes) ≡ i + length (until_bar (drop i bytes))) where
    pub longer : (get_or bytes i 0 ≡ 124 → ⊥) → length (until_bar bytes) ≡ i + 1 + length (until_bar (drop (i + 1) bytes))
    longer n = let e = at_drop_more (λ l. length (until_bar l)) bytes i 0 low ∙ ap length (no_bar b (drop (i + 1) bytes) (ne_eqb b 124 n)) in omega (arith, sofar, e)

    pub closed : get_or bytes i 0 ≡ 124 → length (until_bar bytes) ≡ i
    closed n = let e = at_drop_more (λ l. length (until_bar l)) bytes i 0 low ∙ ap length (at_bar b (drop (i + 1) bytes) (eq-eqb b 124 n)) in omega (arith, sofar, e)

pub digit_not_bar : (b : ℕ) → is_digit b ≡ true → b ≡ 124 → ⊥
digit_not_bar b d e = false≢true (sym (digit_no_bar b d) ∙ eq-eqb b 124 e)

-- where a byte that is no bar was come to, the section is not empty
pub some_words : (bytes : List ℕ) (i : ℕ) → i < length bytes → length (until_bar bytes) ≡ i + length (until_bar (drop i bytes)) → (get_or bytes i 0 ≡ 124 → ⊥) → (Y : Option (List ℕ)) → parted (until_bar bytes) ≡ Y → words_of (until_bar bytes) ≡ Y
some_words bytes i low sofar n Y e = let l = longer bytes [] None i low sofar n in parted_words (until_bar bytes) (omega (arith, l)) ∙ e

pub at_end : (bytes ws : List ℕ) (w : Option ℕ) (i : ℕ) → length bytes ≤ i → (X : Option (List ℕ)) → X ≡ few (onto ws (words_left w (drop i bytes))) → X ≡ few (onto ws (before w (Some [])))
at_end bytes ws w i h X sofar = sofar ∙ at_drop_all (λ l. few (onto ws (words_left w l))) bytes i h ∙ ap (λ o. few (onto ws o)) (no_bytes w)

pub ended : (bytes : List ℕ) (i : ℕ) → length bytes ≤ i → length (until_bar bytes) ≡ i + length (until_bar (drop i bytes)) → length (until_bar bytes) ≡ i
unfolding until_bar
ended bytes i h sofar = let e = at_drop_all (λ l. length (until_bar l)) bytes i h in omega (arith, sofar, e)

pub empty_words : (text : List ℕ) → length text ≡ 0 → words_of text ≡ Some []
empty_words text h = empty_section text (eq-eqb (length text) 0 h)

-- the section's end
pub section_closed : {E : Type 0} (r : Result ℕ E) (bytes : List ℕ) (w : Option ℕ) (n : ℕ) (old new : Words) → length (until_bar bytes) ≡ n → parted (until_bar bytes) ≡ few (onto (listed old) (before w (Some [])))
    → (n ≡ 0 → listed old ≡ [])
    → MatchResult r
    (λ m. (m ≡ n) × ((0 < n → few (onto (listed old) (before w (Some []))) ≡ few (onto (listed new) (Some []))) × (n ≡ 0 → new ≡ old)))
    (λ _. (0 < n) × (few (onto (listed old) (before w (Some []))) ≡ None))
    → MatchResult r (λ m. (m ≡ length (until_bar bytes)) × (words_of (until_bar bytes) ≡ Some (listed new))) (λ _. words_of (until_bar bytes) ≡ None)
section_closed (Ok m) bytes w n old new l e z h = (h.0 ∙ sym l, by_length (cases_lt 0 n))
  where
    by_length : (0 < n) ⊎ (n ≤ 0) → words_of (until_bar bytes) ≡ Some (listed new)
    by_length (inl some) = parted_words (until_bar bytes) (omega (arith, some, l)) ∙ e ∙ h.1.0 some ∙ all_listed (listed new) (listed_few new)
    by_length (inr none) =
        let nil : n ≡ 0 = omega (arith, none) in
        empty_words (until_bar bytes) (l ∙ nil) ∙ ap Some (sym (ap listed (h.1.1 nil) ∙ z nil))
section_closed (Err x) bytes w n old new l e z h = parted_words (until_bar bytes) (omega (arith, h.0, l)) ∙ e ∙ h.1

pub err_only : {A E : Type 0} (r : Result A E) (P : A → Type 0) (Q : Type 0) → IsErr r → Q → MatchResult r P (λ _. Q)
err_only (Ok x) P Q h q = absurd (false≢true h)
err_only (Err x) P Q h q = q

-- ---- a line
map_length : {A B : Type 0} (f : A → B) (xs : List A) → length (map f xs) ≡ length xs
map_length f [] = refl
map_length f (x ∷ xs) = ap suc (map_length f xs)

map_take_length : {A B : Type 0} (f : A → B) (n : ℕ) (xs : List A) → length (map f (take n xs)) ≤ n
map_take_length f zero xs = omega arith
map_take_length f (suc n) [] = omega arith
map_take_length f (suc n) (x ∷ xs) = let h = map_take_length f n xs in omega (arith, h)

length_more : {A B : Type 0} (f : A → B) (xs : List A) (y : B) (ys : List B) → length xs < length (map f xs ++ y ∷ ys)
length_more f [] y ys = omega arith
length_more f (x ∷ xs) y ys = let h = length_more f xs y ys in omega (arith, h)

pub onto_before : {A : Type 0} (xs : List A) (y : A) (l : Option (List A)) → onto xs (before (Some y) l) ≡ onto (xs ++ y ∷ []) l
onto_before xs y None = refl
onto_before xs y (Some ys) = ap Some (sym (append_assoc xs (y ∷ []) ys))

-- the sections from a place on: none past the end
unfoldable pub sections_from : ℕ → List ℕ → List (List ℕ)
sections_from from text = cond (ltb (length text) from) [] (sections (drop from text))

ltb_suc : (m n : ℕ) → ltb m n ≡ ltb (suc m) (suc n)
ltb_suc m n = by_order (cases_lt m n)
  where
    by_order : (m < n) ⊎ (n ≤ m) → ltb m n ≡ ltb (suc m) (suc n)
    by_order (inl a) = lt-ltb m n a ∙ sym (lt-ltb (suc m) (suc n) (omega (arith, a)))
    by_order (inr a) = le-ltb m n a ∙ sym (le-ltb (suc m) (suc n) (omega (arith, a)))

sections_begin : (bytes : List ℕ) → sections bytes ≡ until_bar bytes ∷ sections_from (suc (length (until_bar bytes))) bytes
unfolding until_bar sections_from
sections_begin [] = refl
sections_begin (b ∷ bs) = by_bar (eqb b 124) refl (sections_begin bs)
  where
    n : ℕ
    n = length (until_bar bs)

    by_bar : (t : Bool) → eqb b 124 ≡ t → sections bs ≡ until_bar bs ∷ sections_from (suc n) bs → sections (b ∷ bs) ≡ until_bar (b ∷ bs) ∷ sections_from (suc (length (until_bar (b ∷ bs)))) (b ∷ bs)
    by_bar true e k = rw (e, le-ltb (suc (length bs)) 1 (omega arith)) refl
    by_bar false e k = rw e (ap (onto_first b) k ∙ ap (λ t. (b ∷ until_bar bs) ∷ cond t [] (sections (drop (suc n) bs))) (ltb_suc (length bs) (suc n)))

past_end : (from : ℕ) (text : List ℕ) → length text < from → sections_from from text ≡ []
unfolding sections_from
past_end from text h = rw (lt-ltb (length text) from h) refl

sections_more : (from n : ℕ) (text : List ℕ) → from ≤ length text → sections_from (suc n) (drop from text) ≡ sections_from (from + (n + 1)) text
unfolding sections_from
sections_more from n text h =
    (λ i. cond (same_test i) [] (sections ((drop-drop (suc n) from text) i)))
    ∙ (let e : from + suc n ≡ from + (n + 1) = omega arith in ap (λ k. cond (ltb (length text) k) [] (sections (drop k text))) e)
  where
    l : ℕ
    l = length (drop from text)

    same_test : ltb (length (drop from text)) (suc n) ≡ ltb (length text) (from + suc n)
    same_test = by_order (cases_lt (length (drop from text)) (suc n))
      where
        by_order : (length (drop from text) < suc n) ⊎ (suc n ≤ length (drop from text)) → ltb (length (drop from text)) (suc n) ≡ ltb (length text) (from + suc n)
        by_order (inl a) = let d = length-drop from text in lt-ltb (length (drop from text)) (suc n) a ∙ sym (lt-ltb (length text) (from + suc n) (omega (arith, a, d, h)))
        by_order (inr a) = let d = length-drop from text in le-ltb (length (drop from text)) (suc n) a ∙ sym (le-ltb (length text) (from + suc n) (omega (arith, a, d, h)))

-- the next section, and those after it
pub next_section : (from n : ℕ) (text : List ℕ) → from ≤ length text → n ≡ length (until_bar (drop from text))
    → each words_of (sections_from from text) ≡ before (words_of (until_bar (drop from text))) (each words_of (sections_from (from + (n + 1)) text))
unfolding sections_from each
next_section from n text h e =
    rw (le-ltb (length text) from h) (ap (each words_of) (sections_begin (drop from text) ∙ ap (λ k. until_bar (drop from text) ∷ k) (ap (λ k. sections_from (suc k) (drop from text)) (sym e) ∙ sections_more from n text h)))

pub no_section : (from : ℕ) (text : List ℕ) → length text < from → each words_of (sections_from from text) ≡ Some []
unfolding each
no_section from text h = ap (each words_of) (past_end from text h)

pub all_sections : (text : List ℕ) → each words_of (sections text) ≡ onto [] (each words_of (sections_from 0 text))
unfolding sections_from
all_sections text = rw (le-ltb (length text) 0 (omega arith)) (onto_nothing (each words_of (sections text)))

until_bar_length : (bs : List ℕ) → length (until_bar bs) ≤ length bs
unfolding until_bar
until_bar_length [] = omega arith
until_bar_length (b ∷ bs) = by_bar (eqb b 124) (until_bar_length bs)
  where
    by_bar : (t : Bool) → length (until_bar bs) ≤ length bs → length (cond t [] (b ∷ until_bar bs)) ≤ suc (length bs)
    by_bar true h = omega arith
    by_bar false h = omega (arith, h)

-- the same of the bytes from a place on
module _ (text bytes : List ℕ) (same : bytes ≡ text) (from : ℕ) where
  rest_same : take (length bytes - from) (drop from bytes) ≡ drop from text
  rest_same = take_rest bytes from ∙ ap (drop from) same

  pub section_at : (n : ℕ) → from ≤ length bytes → n ≡ length (until_bar (take (length bytes - from) (drop from bytes)))
      → each words_of (sections_from from text) ≡ before (words_of (until_bar (take (length bytes - from) (drop from bytes)))) (each words_of (sections_from (from + (n + 1)) text))
  section_at n h e =
      next_section from n text (omega (arith, h, ap length same)) (e ∙ ap (λ l. length (until_bar l)) rest_same)
      ∙ ap (λ l. before (words_of (until_bar l)) (each words_of (sections_from (from + (n + 1)) text))) (sym rest_same)

  pub section_ends : (n : ℕ) → from ≤ length bytes → n ≡ length (until_bar (take (length bytes - from) (drop from bytes))) → from + n ≤ length text
  section_ends n h e =
      let u = until_bar_length (take (length bytes - from) (drop from bytes)) in
      let l : length (take (length bytes - from) (drop from bytes)) ≡ length text - from = ap length rest_same ∙ length-drop from text in
      omega (arith, u, l, e, h, ap length same)

module _ (text : List ℕ) (secs : List Words) (i : ℕ) (rest : List (List ℕ)) (sofar : each words_of (sections text) ≡ onto (map listed (take i secs)) (each words_of rest)) where
  abbrev eleven : Option (List (List ℕ)) → Option (List (List ℕ))
  eleven l = option_and_then (of_length (λ n. eqb n 11)) l

  line_by : line_of text ≡ eleven (onto (map listed (take i secs)) (each words_of rest))
  unfolding line_of
  line_by = ap eleven sofar

  -- a section that is none
  pub section_wrong : (o : Option (List ℕ)) (l : Option (List (List ℕ))) → each words_of rest ≡ before o l → o ≡ None → line_of text ≡ None
  section_wrong o l e h = line_by ∙ ap (λ z. eleven (onto (map listed (take i secs)) z)) (e ∙ ap (λ z. before z l) h)

  -- no section more
  pub sections_ended : each words_of rest ≡ Some [] → line_of text ≡ eleven (Some (map listed (take i secs)))
  sections_ended e = line_by ∙ ap (λ z. eleven (onto (map listed (take i secs)) z)) e ∙ ap (λ z. eleven (Some z)) (onto_end (map listed (take i secs)))

  -- one section more
  pub section_taken : (o : Option (List ℕ)) (l : Option (List (List ℕ))) (new : Words) → i < length secs → each words_of rest ≡ before o l → o ≡ Some (listed new)
      → each words_of (sections text) ≡ onto (map listed (take (i + 1) (set secs i new))) l
  section_taken o l new h e s =
      sofar ∙ ap (λ z. onto (map listed (take i secs)) z) (e ∙ ap (λ z. before z l) s)
      ∙ onto_before (map listed (take i secs)) (listed new) l
      ∙ ap (λ z. onto z l) (sym (ap (λ z. map listed z) (take_more_set secs i new h) ∙ map_push listed (take i secs) new))

  pub too_few : i < 11 → each words_of rest ≡ Some [] → line_of text ≡ None
  too_few h e =
      let n = map_take_length listed i secs in
      let other : eqb (length (map listed (take i secs))) 11 ≡ false = ne_eqb (length (map listed (take i secs))) 11 (λ z. omega (arith, n, h, z)) in
      sections_ended e ∙ ap (λ t. cond t (Some (map listed (take i secs))) None) other

  all_taken : 11 ≤ i → length secs ≡ 11 → take i secs ≡ secs
  all_taken h l = take_all i secs (omega (arith, h, l))

  pub too_many : 11 ≤ i → length secs ≡ 11 → (o : Option (List ℕ)) (l : Option (List (List ℕ))) → each words_of rest ≡ before o l → line_of text ≡ None
  too_many h n o l e = line_by ∙ ap (λ z. eleven (onto (map listed (take i secs)) z)) e ∙ ap (λ z. eleven (onto (map listed z) (before o l))) (all_taken h n) ∙ by_parts o l
    where
      by_parts : (o : Option (List ℕ)) (l : Option (List (List ℕ))) → eleven (onto (map listed secs) (before o l)) ≡ None
      by_parts None l = refl
      by_parts (Some y) None = refl
      by_parts (Some y) (Some ys) =
          let k = length_more listed secs y ys in
          let other : eqb (length (map listed secs ++ y ∷ ys)) 11 ≡ false = ne_eqb (length (map listed secs ++ y ∷ ys)) 11 (λ z. omega (arith, k, n, z)) in
          ap (λ t. cond t (Some (map listed secs ++ y ∷ ys)) None) other

  pub just_enough : 11 ≤ i → length secs ≡ 11 → each words_of rest ≡ Some [] → line_of text ≡ Some (map listed secs)
  just_enough h n e =
      let k = map_length listed secs in
      let same : eqb (length (map listed secs)) 11 ≡ true = eq-eqb (length (map listed secs)) 11 (k ∙ n) in
      sections_ended e ∙ ap (λ z. eleven (Some (map listed z))) (all_taken h n) ∙ ap (λ t. cond t (Some (map listed secs)) None) same

pub nothing_made : {A B E : Type 0} (f : A → B) (r : Result A E) (o : Option B) → IsErr r → o ≡ None → option_map f (result_ok r) ≡ o
nothing_made f (Ok x) o h e = absurd (false≢true h)
nothing_made f (Err x) o h e = sym e
