-- Each value has its own way. Assumes nothing.
use Rattle.stored_writing.proofs.Puts.{value_number, value_truth, value_range, value_truths}
use Rattle.stored_writing.proofs.put_value.Goals as goal

pub returns-in-Number : goal.returns-in-Number
returns-in-Number c = search value_number

pub returns-in-Truth : goal.returns-in-Truth
returns-in-Truth c = search value_truth

pub returns-in-Range : goal.returns-in-Range
returns-in-Range c = search value_range

pub returns-in-Truths : goal.returns-in-Truths
returns-in-Truths c = search value_truths
