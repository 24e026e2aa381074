-- One digit, or the last digit after those of a tenth. Assumes nothing.
use Rattle.puts.proofs.Numbers.{one_put, last_put}
use Rattle.puts.proofs.+put_decimal.Goals as goal

pub returns-then-n-lt-TEN : goal.returns-then-n-lt-TEN
returns-then-n-lt-TEN t c = search one_put

pub returns : goal.returns
returns t c = search last_put
