-- A word of a row of the stored table's width. Assumes nothing.
use Rattle.lent_tables.specs.TableWords.{word_in}
use Rattle.stored_lines.specs.Lines.{row_word}
use Rattle.stored_lines.proofs.word.Goals as goal

pub returns : goal.returns
unfolding word_in row_word
returns c = c.word_in.ensures
