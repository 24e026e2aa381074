-- The code's way to what stands at the front of a line's rest: by what its first byte opens, each function looking at the byte after its
-- own element. `proofs/Rules.antt` joins it to the rules of `Element`. Assumes nothing.
use Rattle.std.specs.Prelude.{ℕ, ◌+◌, Bool, cond, ◌&&◌, ◌||◌, List, eqb, ltb, length, get_or, take, drop, Option, Some, None}
use Rattle.classes.specs.Bytes.{is_letter, is_digit}
use Rattle.classes.specs.Signs.{separates}
use Rattle.classes.specs.Bytes as byte
use Rattle.classes.specs.Signs as sign
use Rattle.classes.specs.Runs.{run}
use Rattle.classes.specs.declared.Run.TheVariants.{Word}
use Rattle.words.specs.Words.{place_in, reserved_words, delimiters}
use Rattle.numbers.specs.Numbers.{number}
use Rattle.numbers.specs.declared.Number.{Number}
use Rattle.numbers.specs.declared.Number.TheVariants.{Integer, Real, Neither}
use Rattle.quoted.specs.Quoted.{closed}
use Rattle.elements.specs.Element.{unreadable_front, string_front, apostrophe_front, long_delimiter, delimiter_by, spoils_number}
use Rattle.elements.specs.declared.Kind.{Kind}
use Rattle.elements.specs.declared.Literal.{Literal}
use Rattle.elements.specs.declared.Opens.{Opens}
use Rattle.elements.specs.declared.Front.{Front}
use Rattle.elements.specs.declared.Front.TheVariants.{Skip, Element}

-- an identifier or a reserved word, and the byte after it
unfoldable pub identifier_at : List ℕ → Front
identifier_at s = cond (eqb (get_or s (run Word s) 0) sign.quote) (unreadable_front s) (Element Kind.Identifier (run Word s))

abbrev pub word_by : Option ℕ → List ℕ → Front
word_by (Some n) s = Element (Kind.Reserved n) (run Word s)
word_by None s = identifier_at s

unfoldable pub letters_at : List ℕ → Front
letters_at s = cond (eqb (get_or s (run Word s) 0) byte.underscore) (unreadable_front s) (word_by (place_in (take (run Word s) s) reserved_words) s)

-- an extended identifier, and the byte after it
abbrev pub extended_from : Option ℕ → List ℕ → Front
extended_from (Some n) s =
    cond (eqb n 1 || eqb (get_or s (n + 1) 0) byte.underscore || eqb (get_or s (n + 1) 0) sign.quote) (unreadable_front s) (Element Kind.Extended (n + 1))
extended_from None s = unreadable_front s

unfoldable pub extended_at : List ℕ → Front
extended_at s = extended_from (closed sign.backslash (drop 1 s)) s

-- a number, and the byte after it
abbrev pub numeral_from : Number → List ℕ → Front
numeral_from (Integer n) s = cond (spoils_number (get_or s n 0)) (unreadable_front s) (Element (Kind.Literal Literal.Integer) n)
numeral_from (Real n) s = cond (spoils_number (get_or s n 0)) (unreadable_front s) (Element (Kind.Literal Literal.Real) n)
numeral_from Neither s = unreadable_front s

unfoldable pub numeral_at : List ℕ → Front
numeral_at s = numeral_from (number s) s

-- a delimiter of one byte, or of two
unfoldable pub single_at : List ℕ → Front
single_at s = delimiter_by (place_in (take 1 s) delimiters) 1 (unreadable_front s)

unfoldable pub delimiter_at : List ℕ → Front
delimiter_at s = cond (ltb (length s) long_delimiter) (single_at s) (delimiter_by (place_in (take long_delimiter s) delimiters) long_delimiter (single_at s))

-- a comment, a form left out, or a delimiter
unfoldable pub other_at : List ℕ → Front
other_at s =
    cond (eqb (get_or s 0 0) byte.hyphen && eqb (get_or s 1 0) byte.hyphen) (Skip (length s))
    (cond (eqb (get_or s 0 0) sign.slash && eqb (get_or s 1 0) sign.star) (unreadable_front s)
    (delimiter_at s))

-- what a first byte opens
unfoldable pub opens_of : ℕ → Opens
opens_of b =
    cond (separates b) Opens.Separator
    (cond (is_letter b) Opens.Letter
    (cond (is_digit b) Opens.Digit
    (cond (eqb b sign.quote) Opens.Quote
    (cond (eqb b sign.backslash) Opens.Backslash
    (cond (eqb b sign.apostrophe) Opens.Apostrophe
    Opens.Other)))))

abbrev pub opened_by : Opens → Bool → List ℕ → Front
opened_by Opens.Separator ticks s = Skip 1
opened_by Opens.Letter ticks s = letters_at s
opened_by Opens.Digit ticks s = numeral_at s
opened_by Opens.Quote ticks s = string_front s
opened_by Opens.Backslash ticks s = extended_at s
opened_by Opens.Apostrophe ticks s = apostrophe_front ticks s
opened_by Opens.Other ticks s = other_at s

unfoldable pub found_at : Bool → List ℕ → Front
found_at ticks s = opened_by (opens_of (get_or s 0 0)) ticks s
