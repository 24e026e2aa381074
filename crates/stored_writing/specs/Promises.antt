-- What the writer of fields promises beside its contracts, as statements: proofs/Promises.antt proves each. Assumes nothing: these are definitions.
use Rattle.std.specs.Prelude.{ℕ, ◌≡◌, Bool, true, List, [], ◌++◌, length}
use Rattle.stored.specs.Fields.{Field, fields_bytes, all_writable}
use Rattle.stored_writing.specs.Written.{as_stored, field_put, fields_put, field_size}

-- Fields that can be written, put one after the other before the end, are the bytes that 02 has for them.
abbrev pub FieldsWritten : Type 0
FieldsWritten = (fs : List Field) → all_writable fs ≡ true → fields_put fs ++ fields_bytes [] ≡ fields_bytes fs

-- A field's size is that of what is put, and a name has as many bytes stored as spelled.
abbrev pub SizesRight : Type 0
SizesRight = ((f : Field) → length (field_put f) ≡ field_size f) × ((basic : Bool) (n : List ℕ) → length (as_stored basic n) ≡ length n)
