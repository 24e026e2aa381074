-- Item records as structs: the same eight words to a record, under their names. Assumes nothing.
use Rattle.std.specs.Prelude.{ℕ, Bool, ◌&&◌, List, [], ◌∷◌}
use Rattle.records.specs.Records.{is_claim}
use Rattle.lookup.specs.Lookup.{is_named}
use Rattle.lookup.specs.declared.Item.{Item}

-- the words of item structs, record after record
unfoldable pub struct_words : List Item → List ℕ
struct_words [] = []
struct_words (x ∷ xs) = x.class ∷ x.first ∷ x.count ∷ x.name ∷ x.state ∷ x.kind ∷ x.low ∷ x.high ∷ struct_words xs

-- a record that there isn't
abbrev pub no_item : Item
no_item = record { class = 0; first = 0; count = 0; name = 0; state = 0; kind = 0; low = 0; high = 0 }

-- an item claims the name
unfoldable pub claims_by : List ℕ → List ℕ → List ℕ → Item → Bool
claims_by text elements name item = is_claim item.class && is_named text elements item.name name
