-- What a survey that is refused answers of its tally. Assumes nothing.
use mathlib.Core.Path.{ap}
use Rattle.std.specs.Prelude.{Ok, Err}
use Rattle.kawhiluhe.specs.declared.Surveyed.{Surveyed}
use Rattle.kawhiluhe.specs.AnswerNumbers.{RefusedTally}

pub refused_tally : RefusedTally
refused_tally text e i y elements items (Ok s, (p, q)) h = absurd (h (ap (λ (z : Surveyed). z.refusal) p))
refused_tally text e i y elements items (Err r, (p, q)) h = ap (λ (z : Surveyed). z.tally) p
