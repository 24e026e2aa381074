-- The two verdicts, or a refusal. Assumes nothing.
use Rattle.kawhiluhe.proofs.Laws.{strict_passes, strict_fails, strict_refused}
use Rattle.kawhiluhe.proofs.strict_numbers.Goals as goal

pub returns-in-Passes : goal.returns-in-Passes
returns-in-Passes c = search strict_passes

pub returns-in-NotSupported : goal.returns-in-NotSupported
returns-in-NotSupported c = search strict_fails

pub returns-in-Err : goal.returns-in-Err
returns-in-Err c = search strict_refused
