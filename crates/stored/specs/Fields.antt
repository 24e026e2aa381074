-- "Fields are a one-byte tag, a two-byte length (high byte first), then the contents. .. Tag 0 with length 0 ends it." Nothing here knows a tag
-- but 0. Assumes nothing.
use Rattle.std.specs.Prelude.{ℕ, ◌/◌, ◌%◌, Bool, true, not, ◌&&◌, List, [], ◌∷◌, ◌++◌, eqb, ltb, length}

pub record Field : Type 0 where
  pub tag : ℕ
  pub body : List ℕ

-- how many bytes there are, and how many lengths of two bytes
abbrev pub all_bytes : ℕ
all_bytes = 256

abbrev pub all_lengths : ℕ
all_lengths = 65536

-- the tag that ends the fields
abbrev pub end_tag : ℕ
end_tag = 0

-- a field's bytes, with what follows them
unfoldable pub field_bytes : Field → List ℕ → List ℕ
field_bytes f rest = f.tag ∷ length f.body / all_bytes ∷ length f.body % all_bytes ∷ f.body ++ rest

unfoldable pub fields_bytes : List Field → List ℕ
fields_bytes [] = end_tag ∷ 0 ∷ 0 ∷ []
fields_bytes (f ∷ fs) = field_bytes f (fields_bytes fs)

-- a field that can be written: its tag is not the end's, and two bytes hold its length
unfoldable pub writable : Field → Bool
writable f = not (eqb f.tag end_tag) && ltb (length f.body) all_lengths

unfoldable pub all_writable : List Field → Bool
all_writable [] = true
all_writable (f ∷ fs) = writable f && all_writable fs
