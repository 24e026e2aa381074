-- The three names, one after the other. Assumes nothing.
use Rattle.names.proofs.Speaking.{seven_first, seven_second, seven_third}
use Rattle.words.specs.Words.{bytes_of}
use Rattle.names.proofs.seven.Goals as goal

pub returns-then-spelled_as : goal.returns-then-spelled_as
unfolding bytes_of
returns-then-spelled_as c = search seven_first

pub returns-then-spelled_as-2 : goal.returns-then-spelled_as-2
unfolding bytes_of
returns-then-spelled_as-2 c = search seven_second

pub returns : goal.returns
unfolding bytes_of
returns c = search seven_third
