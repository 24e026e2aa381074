-- Which items a survey stores, and under which names: over pieces and what they come to, and no tables. Assumes nothing.
use Rattle.std.specs.Prelude.{ℕ, List, [], ◌∷◌, ◌++◌, eqb, Option, Some, None}
use Rattle.places.specs.Kinds.{identifier_kind}
use Rattle.values.specs.declared.Value.{Value}
use Rattle.values.specs.declared.Value.TheVariants as value
use Rattle.stored.specs.StoredItems.{StoredItem}
use Rattle.stored.specs.Stored.{stored_bytes, form_one}
use Rattle.stored.specs.declared.StoredValue.TheVariants as kept
use Rattle.stored_writing.specs.Written.{as_stored}
use Rattle.meaning.specs.Elements.{Element, Piece, at}
use Rattle.meaning.specs.Pieces.{pieces_of}
use Rattle.meaning.specs.Names.{names_claimed, Done}
use Rattle.stored.specs.declared.StoredValue.{StoredValue}
use Rattle.meaning.specs.Together.{piece_at, name_place}

-- "tag 2 an integer constant .., tag 3 a truth constant .., tag 4 a subtype": what an item comes to; one without a number isn't stored
abbrev pub stored_value : Value → Option StoredValue
stored_value (value.Number z) = Some (kept.Number z)
stored_value (value.Truth t) = Some (kept.Truth t)
stored_value (value.Range low high) = Some (kept.Range low high)
stored_value value.Truths = Some kept.Truths
stored_value (value.Without s) = None

-- "Names are stored in lower case unless extended."
unfoldable pub stored_name : Element → List ℕ
stored_name x = as_stored (eqb x.kind identifier_kind) x.bytes

-- an item to each name that a piece claims
unfoldable pub items_named : Option StoredValue → List Element → List StoredItem
items_named None xs = []
items_named (Some v) [] = []
items_named (Some v) (x ∷ xs) = record { value = v; name = stored_name x } ∷ items_named (Some v) xs

-- "one field to an item in order"
unfoldable pub stored_items : List Done → List StoredItem
stored_items [] = []
stored_items (d ∷ ds) = items_named (stored_value d.value) (names_claimed d.piece) ++ stored_items ds

-- "Tag 1 holds the package name.": the heading's, the heading being the first piece of a whole survey
unfoldable pub package_name : List Piece → List ℕ
package_name ps = stored_name (at (piece_at ps 0) (name_place (piece_at ps 0)))

-- the bytes that are stored of a text whose pieces come to these
abbrev pub survey_bytes : List ℕ → List Done → List ℕ
survey_bytes text dones = stored_bytes form_one (package_name (pieces_of text)) (stored_items dones)
