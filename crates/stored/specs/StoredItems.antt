-- A stored item, and the field that holds it: "tag 2 an integer constant (four bytes, two's complement, high byte first, then the name), tag 3 a
-- truth constant (one byte 0 or 1, then the name), tag 4 a subtype (kind byte 0 integer or 1 boolean, low and high as in tag 2, then the name; the
-- ends of boolean are 0 and 1)". Assumes nothing.
use Rattle.std.specs.Prelude.{ℕ, ◌/◌, ◌%◌, Bool, true, false, List, [], ◌∷◌, ◌++◌, ℤ, pos}
use Rattle.std.proofs.Common.{of_z}
use Rattle.std.specs.Int.{w32}
use Rattle.stored.specs.Fields.{Field, all_bytes}
use Rattle.stored.specs.declared.StoredValue.{StoredValue}
use Rattle.stored.specs.declared.StoredValue.TheVariants.{Number, Truth, Range, Truths}

pub record StoredItem : Type 0 where
  pub value : StoredValue
  pub name : List ℕ

-- the tags
abbrev pub name_tag : ℕ
name_tag = 1

abbrev pub number_tag : ℕ
number_tag = 2

abbrev pub truth_tag : ℕ
truth_tag = 3

abbrev pub subtype_tag : ℕ
subtype_tag = 4

-- "kind byte 0 integer or 1 boolean"
abbrev pub integer_byte : ℕ
integer_byte = 0

abbrev pub boolean_byte : ℕ
boolean_byte = 1

-- what two and three bytes hold
abbrev pub two_bytes : ℕ
two_bytes = 65536

abbrev pub three_bytes : ℕ
three_bytes = 16777216

-- "four bytes, .. high byte first"
unfoldable pub four_bytes : ℕ → List ℕ
four_bytes n = n / three_bytes ∷ n / two_bytes % all_bytes ∷ n / all_bytes % all_bytes ∷ n % all_bytes ∷ []

-- "two's complement"
unfoldable pub number_bytes : ℤ → List ℕ
number_bytes z = four_bytes (of_z w32 z)

-- "one byte 0 or 1"
abbrev pub truth_byte : Bool → ℕ
truth_byte false = 0
truth_byte true = 1

abbrev pub tag_of : StoredValue → ℕ
tag_of (Number z) = number_tag
tag_of (Truth t) = truth_tag
tag_of (Range low high) = subtype_tag
tag_of Truths = subtype_tag

-- what stands before the name, with the name that follows
unfoldable pub value_bytes : StoredValue → List ℕ → List ℕ
value_bytes (Number z) name = number_bytes z ++ name
value_bytes (Truth t) name = truth_byte t ∷ name
value_bytes (Range low high) name = integer_byte ∷ number_bytes low ++ (number_bytes high ++ name)
value_bytes Truths name = boolean_byte ∷ number_bytes (pos 0) ++ (number_bytes (pos 1) ++ name)

-- and how many bytes that is
abbrev pub number_size : ℕ
number_size = 4

abbrev pub subtype_size : ℕ
subtype_size = 9

abbrev pub value_size : StoredValue → ℕ
value_size (Number z) = number_size
value_size (Truth t) = 1
value_size (Range low high) = subtype_size
value_size Truths = subtype_size

unfoldable pub item_field : StoredItem → Field
item_field i = record { tag = tag_of i.value; body = value_bytes i.value i.name }

-- "Tag 1 holds the package name."
abbrev pub name_field : List ℕ → Field
name_field n = record { tag = name_tag; body = n }
