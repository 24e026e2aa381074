use Rattle.puts.proofs.Laws.{byte_out}
use Rattle.puts.proofs.put_byte.Goals as goal

pub returns : goal.returns
returns c = search byte_out
