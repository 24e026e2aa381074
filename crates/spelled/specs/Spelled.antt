-- The number of a kind by its spelling: computed through the lists of the words, and from nothing else. Assumes nothing.
use Rattle.std.specs.Prelude.{ℕ, Option, Some, None}
use Prim.Native.String.{String}
use Rattle.words.specs.Words.{bytes_of, place_in, reserved_words, delimiters}
use Rattle.elements.specs.declared.Kind.{Kind}
use Rattle.elements.specs.Kinds.{kind_number}

-- the number of a reserved word's kind, 0 where it is none
abbrev pub word_kind : Option ℕ → ℕ
word_kind (Some n) = kind_number (Kind.Reserved n)
word_kind None = 0

-- the number of a delimiter's kind, or of what else is spelled so
abbrev pub spelled_kind : Option ℕ → ℕ → ℕ
spelled_kind (Some n) k = kind_number (Kind.Delimiter n)
spelled_kind None k = k

-- the number of the kind of what is spelled so
unfoldable pub kind_of : String → ℕ
kind_of s = spelled_kind (place_in (bytes_of s) delimiters) (word_kind (place_in (bytes_of s) reserved_words))
