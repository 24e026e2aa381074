-- The record's words. Assumes nothing.
use Rattle.uses.proofs.Laws.{record_words_lem}
use Rattle.uses.proofs.record_value.Goals as goal

pub returns : goal.returns
returns c = search record_words_lem
