-- By cases. Assumes nothing.
use Rattle.values.specs.Values.{language_value}
use Rattle.values.proofs.Steps.{language_none}
use Rattle.values.proofs.language_value.Goals as goal

pub returns-in-1 : goal.returns-in-1
unfolding language_value
returns-in-1 c = rw c.in-1.is

pub returns-in-2 : goal.returns-in-2
unfolding language_value
returns-in-2 c = rw c.in-2.is

pub returns-in-3 : goal.returns-in-3
unfolding language_value
returns-in-3 c = rw c.in-3.is

pub returns-in-4 : goal.returns-in-4
unfolding language_value
returns-in-4 c = rw c.in-4.is

pub returns-in-5 : goal.returns-in-5
unfolding language_value
returns-in-5 c = rw c.in-5.is

pub returns-in-6 : goal.returns-in-6
unfolding language_value
returns-in-6 c = rw c.in-6.is

pub returns-in_default : goal.returns-in_default
returns-in_default c = let r = c.in_default.in_default-own.rest in language_none c.args.k r.0.0.0.0.0.1 r.0.0.0.0.1 r.0.0.0.1 r.0.0.1 r.0.1 r.1
