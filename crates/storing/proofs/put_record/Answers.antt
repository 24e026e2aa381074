-- A field, or nothing. Assumes nothing.
use Rattle.storing.proofs.Puts.{record_none, record_put}
use Rattle.storing.proofs.put_record.Goals as goal

pub returns-in-None : goal.returns-in-None
returns-in-None c = search record_none

pub returns-in-Some : goal.returns-in-Some
returns-in-Some c = search record_put
