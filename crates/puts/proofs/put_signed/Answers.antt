use Rattle.puts.proofs.Numbers.{plain_put, minus_put}
use Rattle.puts.proofs.put_signed.Goals as goal

pub returns-then-word-lt-FIRST_NEGATIVE : goal.returns-then-word-lt-FIRST_NEGATIVE
returns-then-word-lt-FIRST_NEGATIVE c = search plain_put

pub returns : goal.returns
returns c = search minus_put
