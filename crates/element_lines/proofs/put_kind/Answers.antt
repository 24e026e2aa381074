-- A word to each kind by its number, and then delimiters and reserved words. Assumes nothing.
use Rattle.element_lines.specs.Lines.{kind_word, kind_words}
use Rattle.element_lines.proofs.Laws.{kind_put, delimiter_put, reserved_put}
use Rattle.words.specs.Words.{bytes_of}
use Rattle.element_lines.proofs.put_kind.Goals as goal

pub returns-then-kind-lt-FIRST_WORD : goal.returns-then-kind-lt-FIRST_WORD
unfolding kind_word kind_words bytes_of
returns-then-kind-lt-FIRST_WORD c = search delimiter_put

pub returns-in-0 : goal.returns-in-0
unfolding kind_word kind_words bytes_of
returns-in-0 c = search kind_put

pub returns-in-1 : goal.returns-in-1
unfolding kind_word kind_words bytes_of
returns-in-1 c = search kind_put

pub returns-in-2 : goal.returns-in-2
unfolding kind_word kind_words bytes_of
returns-in-2 c = search kind_put

pub returns-in-3 : goal.returns-in-3
unfolding kind_word kind_words bytes_of
returns-in-3 c = search kind_put

pub returns-in-4 : goal.returns-in-4
unfolding kind_word kind_words bytes_of
returns-in-4 c = search kind_put

pub returns-in-5 : goal.returns-in-5
unfolding kind_word kind_words bytes_of
returns-in-5 c = search kind_put

pub returns-in-6 : goal.returns-in-6
unfolding kind_word kind_words bytes_of
returns-in-6 c = search kind_put

pub returns-in-7 : goal.returns-in-7
unfolding kind_word kind_words bytes_of
returns-in-7 c = search kind_put

pub returns-else-kind-lt-FIRST_WORD : goal.returns-else-kind-lt-FIRST_WORD
unfolding kind_word kind_words bytes_of
returns-else-kind-lt-FIRST_WORD c = search reserved_put
