-- Each kind has the number that its spelling computes to, and the kinds and names of the forms are numbered without gap or repetition: one
-- computed test to each table. Assumes nothing.
use mathlib.Core.Path.{◌≡◌, refl}
use Rattle.spelled.proofs.Spelling.{spelling}
use Rattle.grammars.specs.code.Grammar.{tok, nt}
use Rattle.forms.specs.code.Kinds.{symbols_by_kind, number_of, other}
use Rattle.forms.specs.code.RuleNames.{all_names, name_count}
use Rattle.operands.specs.SpelledOperators.{operator_of, sign_of}
use Rattle.spellings.specs.Spellings.{Spelled, unchanged, element_kinds, piece_kinds, operators, signs, kinds_by_spelling, class_numbers, classes, place_kinds, first_classes, tokens, from, each}

pub elements_spelled : Spelled unchanged element_kinds
unfolding spelling
elements_spelled = refl

pub pieces_spelled : Spelled unchanged piece_kinds
unfolding spelling
pieces_spelled = refl

pub operators_spelled : Spelled operator_of operators
unfolding spelling operator_of
operators_spelled = refl

pub signs_spelled : Spelled sign_of signs
unfolding spelling sign_of
signs_spelled = refl

-- the classes come first, one after the other
pub classes_numbered : class_numbers classes ≡ from 7 1
classes_numbered = refl

pub places_numbered : class_numbers first_classes ≡ place_kinds
places_numbered = refl

-- the forms' list, entry by entry
pub forms_spelled : symbols_by_kind ≡ kinds_by_spelling
unfolding spelling
forms_spelled = refl

-- the kinds of the forms are numbered from 1 on (0 is the end) and the names from 0 on: no gap, and no number twice
pub kinds_numbered : tokens ≡ each tok (from (number_of other) 1)
kinds_numbered = refl

pub names_numbered : all_names ≡ each nt (from name_count 0)
names_numbered = refl
