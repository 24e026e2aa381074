-- By the form. Assumes nothing.
use Rattle.expressions.proofs.Turns.{is_name, is_literal, is_sign, is_operator, is_other}
use mathlib.Core.Path.{refl}
use Rattle.expressions.proofs.row_outcome.Goals as goal

pub returns-in-24 : goal.returns-in-24
returns-in-24 c = search is_name

pub returns-in-27 : goal.returns-in-27
returns-in-27 c = search is_literal

pub returns-in-28 : goal.returns-in-28
returns-in-28 c = search is_sign

pub returns-in-29 : goal.returns-in-29
returns-in-29 c = search is_operator

pub returns-in_default : goal.returns-in_default
returns-in_default c = let r = c.in_default.in_default-own.rest in
    is_other c.args.text.now c.args.elements.now c.args.items.now c.args.links.now c.args.rows.now c.args.i c.args.k c.args.x c.args.y _ _ refl r.0.0.0.1 r.0.0.1 r.0.1 r.1 c.wrong_leaf.ensures
