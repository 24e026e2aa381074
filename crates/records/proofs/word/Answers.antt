-- A word of a row of the records' width. Assumes nothing.
use Rattle.lent_tables.specs.TableWords.{word_in}
use Rattle.records.specs.Records.{word_at}
use Rattle.records.proofs.word.Goals as goal

pub returns : goal.returns
unfolding word_in word_at
returns c = c.word_in.ensures
