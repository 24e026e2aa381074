-- The records of the item table (01, "Pieces, items, states"). Assumes nothing: these are definitions.
use Rattle.std.specs.Prelude.{ℕ, ◌+◌, Bool, true, false, List, [], ◌∷◌, ◌++◌, length, take}
use Rattle.pieces.specs.Kinds.{piece_class}
use Rattle.pieces.specs.Records.{name_of}
use Rattle.records.specs.Records.{is_item}
use Rattle.values.specs.ValueWords.{value_words}
use Rattle.values.specs.declared.Value.{Value}
use Rattle.meaning.specs.Elements.{Piece}
use Rattle.meaning.specs.Pieces.{kinds_in_piece}
use Rattle.meaning.specs.Names.{Done}
use Rattle.meaning.specs.Together.{piece_at}

-- "one record to a piece": how many records pieces have, the piece of a record by its number, from 0, and the pieces above that
abbrev pub record_count : List Piece → ℕ
record_count ps = length ps

abbrev pub piece_of : List Piece → ℕ → Piece
piece_of ps j = piece_at ps j

abbrev pub pieces_above : List Piece → ℕ → List Piece
pieces_above ps j = take j ps

-- a record: "class 1 to 5 ..; first element, count, name element, state; in state 0 kind .. and two numbers; what is absent is 0"
abbrev pub item_value_words : Bool → Value → List ℕ
item_value_words true v = value_words v
item_value_words false v = 0 ∷ 0 ∷ 0 ∷ 0 ∷ []

unfoldable pub record_of : ℕ → Done → List ℕ
record_of from d =
    (piece_class (kinds_in_piece d.piece)).class ∷ from ∷ length d.piece ∷ name_of from (piece_class (kinds_in_piece d.piece)).place
    ∷ item_value_words (is_item (piece_class (kinds_in_piece d.piece)).class) d.value

-- the records, the first piece's first element being number `from`
unfoldable pub records_from : ℕ → List Done → List ℕ
records_from from [] = []
records_from from (d ∷ ds) = record_of from d ++ records_from (from + length d.piece) ds
