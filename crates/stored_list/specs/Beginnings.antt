-- How a line begins, byte by byte: of a line that breaks the form, too, it is known whether it is a comment, and whose answer it has.
use Rattle.std.specs.Prelude.{Bool, true, false, ◌&&◌, ◌||◌, if◌then◌else◌, List, ℕ, ◌+◌, ◌*◌, ◌^◌, ltb, eqb, fold, Option, Some, None}
use Rattle.std.specs.Char.{digit_value}
use Rattle.stored_list.specs.declared.beginning.Beginning.{Beginning}
use Rattle.stored_list.specs.declared.beginning.Beginning.TheVariants.{Nothing, Comment, NoWord, Word, WordAndMore}
use Rattle.stored_list.specs.Lines.{is_digit}

-- one byte more, where nothing was met: `#`, `|`, a digit, any other
abbrev pub first_met : ℕ → Beginning
first_met b =
    if eqb b 35 then Comment
    else if eqb b 124 then NoWord
    else if is_digit b then Word (digit_value b)
    else Nothing

-- one byte more in the first word: a space and `|` end it, a digit is read if the number stays below 2^64, any other byte is passed over
abbrev pub word_met : ℕ → ℕ → Beginning
word_met n b =
    if eqb b 32 || eqb b 124 then WordAndMore n
    else if is_digit b && ltb n (2 ^ 60) then Word (16 * n + digit_value b)
    else Word n

-- one byte more; what comes after a comment has begun, or the first section has ended, or its first word, is not looked at
abbrev pub begun_after : Beginning → ℕ → Beginning
begun_after Nothing b = first_met b
begun_after Comment b = Comment
begun_after NoWord b = NoWord
begun_after (Word n) b = word_met n b
begun_after (WordAndMore n) b = WordAndMore n

-- whether what comes after is not looked at
abbrev pub is_settled : Beginning → Bool
is_settled Nothing = false
is_settled Comment = true
is_settled NoWord = true
is_settled (Word n) = false
is_settled (WordAndMore n) = true

-- how a line begins
abbrev pub beginning_of : List ℕ → Beginning
beginning_of text = fold begun_after Nothing text

-- the number of the first word, if there is one
abbrev pub first_word : Beginning → Option ℕ
first_word Nothing = None
first_word Comment = None
first_word NoWord = None
first_word (Word n) = Some n
first_word (WordAndMore n) = Some n

-- a comment: `#` stands in it before any digit and any `|`
abbrev pub begins_comment : Beginning → Bool
begins_comment Nothing = false
begins_comment Comment = true
begins_comment NoWord = false
begins_comment (Word n) = false
begins_comment (WordAndMore n) = false

-- a text that begins so: before its `#` stands neither a digit nor `|`
abbrev pub reads_as_comment : List ℕ → Bool
reads_as_comment text = begins_comment (beginning_of text)
