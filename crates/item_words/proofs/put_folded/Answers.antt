use Rattle.item_words.proofs.Laws.{number_put, false_put, true_put}
use Rattle.words.specs.Words.{bytes_of}
use Rattle.item_words.proofs.put_folded.Goals as goal

pub returns-then-kind-ne-KIND_TRUTH : goal.returns-then-kind-ne-KIND_TRUTH
returns-then-kind-ne-KIND_TRUTH c = search number_put

pub returns-then-word-eq0 : goal.returns-then-word-eq0
unfolding bytes_of
returns-then-word-eq0 c = search false_put

pub returns : goal.returns
unfolding bytes_of
returns c = search true_put
