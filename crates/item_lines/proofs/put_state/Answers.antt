use Rattle.words.specs.Words.{bytes_of}
use Rattle.item_lines.specs.Lines.{state_word, state_words}
use Rattle.item_lines.proofs.Laws.{state_put, range_put}
use Rattle.item_lines.proofs.put_state.Goals as goal

pub returns-in-0 : goal.returns-in-0
unfolding state_word state_words bytes_of
returns-in-0 c = search state_put

pub returns-in-1 : goal.returns-in-1
unfolding state_word state_words bytes_of
returns-in-1 c = search state_put

pub returns-in-2 : goal.returns-in-2
unfolding state_word state_words bytes_of
returns-in-2 c = search state_put

pub returns-in-3 : goal.returns-in-3
unfolding state_word state_words bytes_of
returns-in-3 c = search state_put

pub returns-in-4 : goal.returns-in-4
unfolding state_word state_words bytes_of
returns-in-4 c = search state_put

pub returns-in-5 : goal.returns-in-5
unfolding state_word state_words bytes_of
returns-in-5 c = search state_put

pub returns-in-6 : goal.returns-in-6
unfolding state_word state_words bytes_of
returns-in-6 c = search state_put

pub returns-in-7 : goal.returns-in-7
unfolding state_word state_words bytes_of
returns-in-7 c = search state_put

pub returns-in-8 : goal.returns-in-8
unfolding state_word state_words bytes_of
returns-in-8 c = search state_put

pub returns-in-9 : goal.returns-in-9
unfolding state_word state_words bytes_of
returns-in-9 c = search state_put

pub returns-in_default : goal.returns-in_default
unfolding bytes_of
returns-in_default c = search range_put
