-- A field as it is put into a lent output, and a name as it is stored. Assumes nothing.
use Rattle.std.specs.Prelude.{ℕ, ◌+◌, ◌/◌, ◌%◌, Bool, List, [], ◌∷◌, ◌++◌, map, length}
use Rattle.same_names.specs.Spelling.{counts}
use Rattle.stored.specs.Fields.{Field, all_bytes}

-- "Names are stored in lower case unless extended."
unfoldable pub as_stored : Bool → List ℕ → List ℕ
as_stored basic n = map (counts basic) n

-- a tag, and the low two bytes of a length, which are all of it where two bytes hold it
unfoldable pub head_bytes : ℕ → ℕ → List ℕ
head_bytes tag n = tag ∷ n / all_bytes % all_bytes ∷ n % all_bytes ∷ []

-- a field as it is put
unfoldable pub field_put : Field → List ℕ
field_put f = head_bytes f.tag (length f.body) ++ f.body

-- fields one after the other
unfoldable pub fields_put : List Field → List ℕ
fields_put [] = []
fields_put (f ∷ fs) = field_put f ++ fields_put fs

-- how many bytes one has: those before the contents, and the contents
abbrev pub field_head_size : ℕ
field_head_size = 3

unfoldable pub field_size : Field → ℕ
field_size f = field_head_size + length f.body
