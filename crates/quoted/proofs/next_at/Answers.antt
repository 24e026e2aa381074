-- The five ways that `next_at` goes. Assumes nothing.
use Rattle.quoted.proofs.Laws.{is_last, is_doubled_lem, is_closing_lem, is_inside, is_breaking}
use Rattle.quoted.proofs.next_at.Goals as goal

pub returns-then-s-lt-TWO_QUOTES : goal.returns-then-s-lt-TWO_QUOTES
returns-then-s-lt-TWO_QUOTES c = search is_last

pub returns-then-byte_or-quote : goal.returns-then-byte_or-quote
returns-then-byte_or-quote c = search is_doubled_lem

pub returns-then-b-quote : goal.returns-then-b-quote
returns-then-b-quote c = search is_closing_lem

pub returns-then-is_graphic : goal.returns-then-is_graphic
returns-then-is_graphic c = search is_inside

pub returns : goal.returns
returns c = search is_breaking
