use Rattle.item_words.proofs.Laws.{value_put}
use Rattle.words.specs.Words.{bytes_of}
use Rattle.item_words.proofs.put_value.Goals as goal

pub returns : goal.returns
unfolding bytes_of
returns c = search value_put
