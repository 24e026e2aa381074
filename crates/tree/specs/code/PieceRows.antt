-- What reading each constant and subtype of a package by itself leaves in the lent row table: the rows of a piece stand from its first
-- element's row on, counted from the piece's first element (01, "Pieces, items, states"). Assumes nothing: these are definitions.
use Rattle.std.specs.Prelude.{ℕ, ◌-◌, ◌*◌, ◌/◌, min, Bool, false, cond, List, [], ◌∷◌, ◌++◌, eqb, length, get_or, replicate, Option, Some, None}
use Rattle.places.specs.Sizes.{most_elements}
use Rattle.grammars.specs.code.Actions.{End, read, bad, stopped, spent}
use Rattle.forms.specs.code.RuleNames.{constant, subtype}
use Rattle.forms.specs.RowWords.{row_numbers}
use Rattle.forms.specs.Tree.{Row}
use Rattle.forms.specs.code.RuleActions.{State, Refusal, state_rows}
use Rattle.forms.specs.code.Reading.{reading_from}
use Rattle.form_table.specs.code.FormBytes.{encode}
use Rattle.pieces.specs.Kinds.{word_constant, word_subtype, kind_pieces}
use Rattle.places.specs.Places.{rows_in, kinds_of}
use Rattle.tree.specs.code.Answers.{terminals_in}
use Rattle.forms.specs.RowWords.{words_of}

-- no name is like another: an item's rules compare none
abbrev pub unlike : ℕ → ℕ → Bool
unlike i j = false

-- the reading of what begins with an element of kind k: a constant, a subtype, or nothing that is read
abbrev pub reading_by : ℕ → List ℕ → End State Refusal
reading_by k w = cond (eqb k word_constant) (reading_from constant unlike w) (cond (eqb k word_subtype) (reading_from subtype unlike w) (bad 0))

-- the reading of a piece, given by its kinds
unfoldable pub reading_of_piece : List ℕ → End State Refusal
reading_of_piece p = reading_by (get_or p 0 0) (terminals_in p)

-- the rows of what was read whole
abbrev pub rows_read : End State Refusal → List Row
rows_read (read s) = state_rows s
rows_read (bad k) = []
rows_read (stopped k r) = []
rows_read spent = []

-- the rows of a piece: none where it is no constant or subtype, or no form fits it, or more than 32 stand open
unfoldable pub rows_of_piece : List ℕ → List Row
rows_of_piece p = rows_read (reading_of_piece p)

-- five words to each element of a piece: its rows, and zeros after them
unfoldable pub piece_words : List ℕ → List ℕ
piece_words p = words_of (rows_of_piece p) ++ replicate (row_numbers * length p - row_numbers * length (rows_of_piece p)) 0

-- the pieces' words one after the other
unfoldable pub pieces_words : List (List ℕ) → List ℕ
pieces_words [] = []
pieces_words (p ∷ ps) = piece_words p ++ pieces_words ps

-- how many elements count: no more than either table has, and no more than 8,192
abbrev pub elements_for_items : List ℕ → ℕ → ℕ → ℕ
elements_for_items table count words = min count (min (rows_in table) (min (words / row_numbers) most_elements))

-- the row table of so many words afterwards
unfoldable pub item_rows : List ℕ → ℕ → ℕ → List ℕ
item_rows table count words = pieces_words (kind_pieces (kinds_of (elements_for_items table count words) table)) ++ replicate (words - row_numbers * elements_for_items table count words) 0

-- the code of the symbol from which a piece is read that begins with kind k, if it is read
abbrev pub scan_start_of : ℕ → Option ℕ
scan_start_of k = cond (eqb k word_constant) (Some (encode constant)) (cond (eqb k word_subtype) (Some (encode subtype)) None)
