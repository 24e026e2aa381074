-- The digits at the front are a part of the bytes. Assumes nothing.
use mathlib.Core.Path.{◌∙◌}
use Rattle.literals.proofs.Laws.{leading_is, front_part}
use Rattle.literals.proofs.leading_value.Goals as goal

pub slice_bounds-capped_value-end : goal.slice_bounds-capped_value-end
slice_bounds-capped_value-end c = search front_part

pub returns : goal.returns
returns c = c.from.ensures ∙ leading_is c.args.base c.args.s.now _ _ c.run_length-n.ensures c.capped_value.ensures
