use Rattle.item_words.proofs.Laws.{upper_put, no_upper}
use Rattle.words.specs.Words.{bytes_of}
use Rattle.item_words.proofs.put_upper.Goals as goal

pub returns-then-class-eq-SUBTYPE : goal.returns-then-class-eq-SUBTYPE
unfolding bytes_of
returns-then-class-eq-SUBTYPE c = search upper_put

pub returns : goal.returns
returns c = search no_upper
