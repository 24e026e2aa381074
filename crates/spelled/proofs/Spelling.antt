-- What unfolds `spelling` computes a kind from its spelling. Assumes nothing.
use Rattle.classes.specs.Bytes.{lower}
use Rattle.words.specs.Words.{bytes_of, begins, spells, place_from, reserved_words, delimiters}
use Rattle.spelled.specs.Spelled.{kind_of}

unfoldable pub spelling : Unit {0}
unfolding lower bytes_of begins spells place_from reserved_words delimiters kind_of
spelling = tt
