-- Item records as rows of words, the columns of pieces (01, "Pieces, items, states"). A record outside the table is all zeros, which is no class. Assumes nothing.
use Rattle.std.specs.Prelude.{ℕ, ◌+◌, ◌*◌, ◌/◌, Bool, cond, ◌&&◌, ◌||◌, List, eqb, ltb, length, get_or}
use Rattle.states.specs.States.{states}
use Rattle.pieces.specs.Classes as classes
pub use Rattle.pieces.specs.Columns.{record_words}
use Rattle.pieces.specs.Columns as column

-- word j of record i, 0 where there is none
unfoldable pub word_at : List ℕ → ℕ → ℕ → ℕ
word_at items i j = cond (ltb j record_words && ltb i (length items / record_words)) (get_or items (record_words * i + j) 0) 0

-- "Items are all pieces but headings and closings": constants, subtypes, unclaimed
abbrev pub is_item : ℕ → Bool
is_item class = eqb class classes.constant || eqb class classes.subtype || eqb class classes.unclaimed

-- the items that claim a name
abbrev pub is_claim : ℕ → Bool
is_claim class = eqb class classes.constant || eqb class classes.subtype

-- the state of a record that is an item, and a number that is no state for any other
unfoldable pub item_state : List ℕ → ℕ → ℕ
item_state items i = cond (is_item (word_at items i column.class)) (word_at items i column.state) states
