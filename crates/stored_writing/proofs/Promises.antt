-- The promises of specs/Promises.antt, proved. Assumes nothing.
use Rattle.stored_writing.specs.Promises.{FieldsWritten, SizesRight}
use Rattle.stored_writing.proofs.Puts.{fields_put_lem, put_length, stored_length}

pub fields_written : FieldsWritten
fields_written = fields_put_lem

pub sizes_right : SizesRight
sizes_right = (put_length, stored_length)
