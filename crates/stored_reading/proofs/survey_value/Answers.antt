-- Each value by its own name. Assumes nothing.
use Rattle.stored_reading.proofs.Cases.{survey_number_lem, survey_truth, survey_range}
use Rattle.stored_reading.proofs.survey_value.Goals as goal

pub returns-in-Number : goal.returns-in-Number
returns-in-Number c = search survey_number_lem

pub returns-in-Truth : goal.returns-in-Truth
returns-in-Truth c = search survey_truth

pub returns-in-Range : goal.returns-in-Range
returns-in-Range c = search survey_range
