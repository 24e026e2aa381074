-- By the kind and the length. Assumes nothing.
use Rattle.names.proofs.Speaking.{language_other, language_four, language_five, language_seven, language_eight, language_none}
use Rattle.words.specs.Words.{bytes_of}
use Rattle.names.proofs.language.Goals as goal

pub returns-then-kind_of-ne-IDENTIFIER : goal.returns-then-kind_of-ne-IDENTIFIER
returns-then-kind_of-ne-IDENTIFIER c = search language_other

pub returns-in-4 : goal.returns-in-4
unfolding bytes_of
returns-in-4 c = search language_four

pub returns-in-5 : goal.returns-in-5
unfolding bytes_of
returns-in-5 c = search language_five

pub returns-in-7 : goal.returns-in-7
returns-in-7 c = search language_seven

pub returns-in-8 : goal.returns-in-8
unfolding bytes_of
returns-in-8 c = search language_eight

pub returns-in_default : goal.returns-in_default
returns-in_default c = search language_none
