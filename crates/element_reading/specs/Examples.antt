-- How 01's open points about elements are read (docs/DECISIONS.md), a line to an example, from bytes to the rows: kind, first byte and length.
-- proofs/Examples.antt computes them. Assumes nothing: these are definitions.
use Rattle.std.specs.Prelude.{ℕ, zero, suc, ◌≡◌, List, [], ◌∷◌, ◌++◌, length, replicate, Option, Some, None}
use Prim.Native.String.{String}
use Rattle.words.specs.Words.{bytes_of, place_in, reserved_words, delimiters}
use Rattle.elements.specs.declared.Kind.{Kind}
use Rattle.elements.specs.declared.Literal.{Literal}
use Rattle.element_reading.specs.Rows.{ElementRow, rows_of}

-- a row by its kind
abbrev pub kind_row : Kind → ℕ → ℕ → ElementRow
kind_row k first size = record { kind = k; first = first; size = size }

abbrev pub name_row : ℕ → ℕ → ElementRow
name_row = kind_row Kind.Identifier

abbrev pub extended_row : ℕ → ℕ → ElementRow
extended_row = kind_row Kind.Extended

abbrev pub integer_row : ℕ → ℕ → ElementRow
integer_row = kind_row (Kind.Literal Literal.Integer)

abbrev pub character_row : ℕ → ℕ → ElementRow
character_row = kind_row (Kind.Literal Literal.Character)

abbrev pub string_row : ℕ → ℕ → ElementRow
string_row = kind_row (Kind.Literal Literal.String)

abbrev pub unreadable_row : ℕ → ℕ → ElementRow
unreadable_row = kind_row Kind.Unreadable

-- a reserved word and a delimiter by their spelling
abbrev pub kind_by_place : (ℕ → Kind) → Option ℕ → Kind
kind_by_place k (Some n) = k n
kind_by_place k None = Kind.Unreadable

abbrev pub word_row : String → ℕ → ℕ → ElementRow
word_row w = kind_row (kind_by_place Kind.Reserved (place_in (bytes_of w) reserved_words))

abbrev pub sign_row : String → ℕ → ℕ → ElementRow
sign_row w = kind_row (kind_by_place Kind.Delimiter (place_in (bytes_of w) delimiters))

-- a text has these elements
abbrev pub HasElements : String → List ElementRow → Type 0
HasElements text rows = rows_of (bytes_of text) ≡ rows

-- the same of a text with a byte that is no sign
abbrev pub HasByte : String → ℕ → String → List ElementRow → Type 0
HasByte front b behind rows = rows_of (bytes_of front ++ b ∷ bytes_of behind) ≡ rows

-- and with each of these bytes after it
abbrev pub rows_of_each : String → List ℕ → List (List ElementRow)
rows_of_each front [] = []
rows_of_each front (b ∷ bs) = rows_of (bytes_of front ++ b ∷ []) ∷ rows_of_each front bs

abbrev pub HasEach : String → List ℕ → List ElementRow → Type 0
HasEach front bs rows = rows_of_each front bs ≡ replicate (length bs) rows

-- so many bytes, from one on
abbrev pub bytes_from : ℕ → ℕ → List ℕ
bytes_from zero b = []
bytes_from (suc n) b = b ∷ bytes_from n (suc b)

abbrev pub ElementExamples : Type 0
ElementExamples =
    HasElements "" []
    × HasElements "\"a\"\" b" (unreadable_row 0 6 ∷ [])
    × HasElements "\"a\"\"b\"" (string_row 0 6 ∷ [])
    × HasElements "''''" (character_row 0 3 ∷ sign_row "'" 3 1 ∷ [])
    × HasElements "\\\\a\\" (unreadable_row 0 4 ∷ [])
    × HasElements "\\\\" (unreadable_row 0 2 ∷ [])
    × HasElements "\\a\\\"b\"" (unreadable_row 0 6 ∷ [])
    × HasElements "\\a\\'b'" (extended_row 0 3 ∷ sign_row "'" 3 1 ∷ name_row 4 1 ∷ sign_row "'" 5 1 ∷ [])
    × HasElements "end_" (unreadable_row 0 4 ∷ [])
    × HasElements "end\"a\"" (word_row "end" 0 3 ∷ string_row 3 3 ∷ [])
    × HasElements "e\"a\"" (unreadable_row 0 4 ∷ [])
    × HasElements "016#FF#" (integer_row 0 7 ∷ [])
    × HasElements "1_6#f_F#e+1_0" (integer_row 0 13 ∷ [])
    × HasElements "17#1#" (unreadable_row 0 5 ∷ [])
    × HasElements "1E-3" (unreadable_row 0 4 ∷ [])
    × HasElements "16#F.8#" (unreadable_row 0 7 ∷ [])
    × HasElements "5'a'" (integer_row 0 1 ∷ character_row 1 3 ∷ [])
    × HasEach "5" (bytes_from 64 192) (integer_row 0 1 ∷ unreadable_row 1 1 ∷ [])
    × HasElements ")'a'" (sign_row ")" 0 1 ∷ sign_row "'" 1 1 ∷ name_row 2 1 ∷ sign_row "'" 3 1 ∷ [])
    × HasElements "x 'a'" (name_row 0 1 ∷ sign_row "'" 2 1 ∷ name_row 3 1 ∷ sign_row "'" 4 1 ∷ [])
    × HasElements "in'a'" (word_row "in" 0 2 ∷ character_row 2 3 ∷ [])
    × HasElements "x\n'a'" (name_row 0 1 ∷ character_row 2 3 ∷ [])
    × HasByte "'" 127 "' a" (unreadable_row 0 5 ∷ [])
    × HasElements "a_ -- b" (unreadable_row 0 7 ∷ [])
