-- What stands at the front of a line's rest: 01's section "Elements", a definition to each rule in 01's order, and last which rule holds. A
-- line holds no line end, so "to the line's end" is all of the rest; past its end `get_or` gives 0, a byte of no class. Request 02 (why an
-- element is unreadable) gives `unreadable_front` a reason. Assumes nothing.
use Rattle.std.specs.Prelude.{ℕ, ◌+◌, Bool, true, false, cond, not, ◌&&◌, ◌||◌, List, eqb, length, get_or, take, drop, Option, Some, None}
use Rattle.classes.specs.Bytes.{is_letter, is_digit}
use Rattle.classes.specs.Signs.{separates, is_graphic}
use Rattle.classes.specs.Bytes as byte
use Rattle.classes.specs.Signs as sign
use Rattle.classes.specs.Runs.{run}
use Rattle.classes.specs.declared.Run.TheVariants.{Word}
use Rattle.words.specs.Words.{place_in, reserved_words, delimiters}
use Rattle.numbers.specs.Numbers.{number}
use Rattle.numbers.specs.declared.Number.{Number}
use Rattle.numbers.specs.declared.Number.TheVariants.{Integer, Real, Neither}
use Rattle.quoted.specs.Quoted.{closed}
use Rattle.elements.specs.declared.Kind.{Kind}
use Rattle.elements.specs.declared.Literal.{Literal}
use Rattle.elements.specs.declared.Front.{Front}
use Rattle.elements.specs.declared.Front.TheVariants.{Skip, Element}

-- the rest begins with this byte, or with these two
abbrev pub first_is : ℕ → List ℕ → Bool
first_is b s = eqb (get_or s 0 0) b

abbrev pub first_are : ℕ → ℕ → List ℕ → Bool
first_are b d s = eqb (get_or s 0 0) b && eqb (get_or s 1 0) d

-- "one unreadable element from its first byte to the line's end"
unfoldable pub unreadable_front : List ℕ → Front
unreadable_front s = Element Kind.Unreadable (length s)

-- "Identifier: a letter, then letters and digits, single underscores between them." "Reserved words are those of 000 and are never names."
abbrev pub identifier_by : Option ℕ → ℕ → Front
identifier_by (Some k) n = Element (Kind.Reserved k) n
identifier_by None n = Element Kind.Identifier n

unfoldable pub identifier_front : List ℕ → Front
identifier_front s = identifier_by (place_in (take (run Word s) s) reserved_words) (run Word s)

-- "Extended identifiers (between backslashes, a doubled backslash for one)": n bytes after the first backslash, the last of them a
-- backslash; where it is the only one, nothing stands between
abbrev pub extended_by : Option ℕ → List ℕ → Front
extended_by (Some n) s = cond (eqb n 1) (unreadable_front s) (Element Kind.Extended (n + 1))
extended_by None s = unreadable_front s

unfoldable pub extended_front : List ℕ → Front
extended_front s = extended_by (closed sign.backslash (drop 1 s)) s

-- "Integer: ..", "A real literal is ..": as `number` says
abbrev pub numeral_by : Number → List ℕ → Front
numeral_by (Integer n) s = Element (Kind.Literal Literal.Integer) n
numeral_by (Real n) s = Element (Kind.Literal Literal.Real) n
numeral_by Neither s = unreadable_front s

-- "String: between quotes, a doubled quote for one."
abbrev pub string_by : Option ℕ → List ℕ → Front
string_by (Some n) s = Element (Kind.Literal Literal.String) (n + 1)
string_by None s = unreadable_front s

unfoldable pub string_front : List ℕ → Front
string_front s = string_by (closed sign.quote (drop 1 s)) s

-- the numbers of `'` and `)` among the delimiters
abbrev pub tick_number : ℕ
tick_number = 8

abbrev pub close_parenthesis_number : ℕ
close_parenthesis_number = 10

-- "neither a non-reserved identifier nor `)`": after an element of which kinds an apostrophe on its line is a tick
abbrev pub ticks_after : Kind → Bool
ticks_after Kind.Identifier = true
ticks_after Kind.Extended = true
ticks_after (Kind.Literal l) = false
ticks_after Kind.Unreadable = false
ticks_after (Kind.Delimiter n) = eqb n close_parenthesis_number
ticks_after (Kind.Reserved n) = false

-- "Apostrophe: opens a character literal if the byte two further on the same line is an apostrophe and the element before it on that line
-- is neither a non-reserved identifier nor `)`. Else it is a tick." `ticks` says that the element before it is one of these.
abbrev pub second_apostrophe : ℕ
second_apostrophe = 2

abbrev pub character_size : ℕ
character_size = 3

unfoldable pub apostrophe_front : Bool → List ℕ → Front
apostrophe_front ticks s =
    cond (not ticks && eqb (get_or s second_apostrophe 0) sign.apostrophe)
    (cond (is_graphic (get_or s 1 0)) (Element (Kind.Literal Literal.Character) character_size) (unreadable_front s))
    (Element (Kind.Delimiter tick_number) 1)

-- "Delimiters, longest first": the longest have two bytes
abbrev pub long_delimiter : ℕ
long_delimiter = 2

abbrev pub delimiter_by : Option ℕ → ℕ → Front → Front
delimiter_by (Some k) n other = Element (Kind.Delimiter k) n
delimiter_by None n other = other

abbrev pub delimiter_of : List ℕ → Front → Front
delimiter_of w other = delimiter_by (place_in w delimiters) (length w) other

unfoldable pub delimiter_front : List ℕ → Front
delimiter_front s = delimiter_of (take long_delimiter s) (delimiter_of (take 1 s) (unreadable_front s))

-- which rule holds, in 01's order; "Anything else is one unreadable element", and so is "`/*`"
unfoldable pub ruled : Bool → List ℕ → Front
ruled ticks s =
    cond (separates (get_or s 0 0)) (Skip 1)
    (cond (first_are byte.hyphen byte.hyphen s) (Skip (length s))
    (cond (is_letter (get_or s 0 0)) (identifier_front s)
    (cond (first_is sign.backslash s) (extended_front s)
    (cond (is_digit (get_or s 0 0)) (numeral_by (number s) s)
    (cond (first_is sign.quote s) (string_front s)
    (cond (first_is sign.apostrophe s) (apostrophe_front ticks s)
    (cond (first_are sign.slash sign.star s) (unreadable_front s)
    (delimiter_front s))))))))

-- "So are: a number followed directly by a letter, digit, underscore, point or `#`; a non-reserved identifier or a number directly before a
-- quote; ..; an identifier followed directly by an underscore.": an element of this kind with this byte after it
unfoldable pub spoils_number : ℕ → Bool
spoils_number b = is_letter b || is_digit b || eqb b byte.underscore || eqb b sign.point || eqb b byte.hash || eqb b sign.quote

abbrev pub spoils : Kind → ℕ → Bool
spoils Kind.Identifier b = eqb b byte.underscore || eqb b sign.quote
spoils Kind.Extended b = eqb b byte.underscore || eqb b sign.quote
spoils (Kind.Reserved k) b = eqb b byte.underscore
spoils (Kind.Literal Literal.Integer) b = spoils_number b
spoils (Kind.Literal Literal.Real) b = spoils_number b
spoils (Kind.Literal Literal.Character) b = false
spoils (Kind.Literal Literal.String) b = false
spoils (Kind.Delimiter k) b = false
spoils Kind.Unreadable b = false

abbrev pub unless_spoilt : List ℕ → Front → Front
unless_spoilt s (Skip n) = Skip n
unless_spoilt s (Element k n) = cond (spoils k (get_or s n 0)) (unreadable_front s) (Element k n)

-- what stands at the front: so many bytes that are no element, or an element of a kind and a length
unfoldable pub element_at : Bool → List ℕ → Front
element_at ticks s = unless_spoilt s (ruled ticks s)
