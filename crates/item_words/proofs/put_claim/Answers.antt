use Rattle.item_words.proofs.Laws.{constant_put, subtype_put, piece_put}
use Rattle.words.specs.Words.{bytes_of}
use Rattle.item_words.proofs.put_claim.Goals as goal

pub returns-then-class-eq-CONSTANT : goal.returns-then-class-eq-CONSTANT
unfolding bytes_of
returns-then-class-eq-CONSTANT c = search constant_put

pub returns-then-class-eq-SUBTYPE : goal.returns-then-class-eq-SUBTYPE
unfolding bytes_of
returns-then-class-eq-SUBTYPE c = search subtype_put

pub returns : goal.returns
unfolding bytes_of
returns c = search piece_put
