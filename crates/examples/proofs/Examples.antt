-- The packages worked out by hand, computed from bytes. Assumes nothing.
use mathlib.Core.Path.{refl}
use Rattle.edges.specs.Left.{LeavesWords}
use Rattle.examples.specs.Examples.{subtype_examples, relation_examples, logic_examples, arithmetic_examples, unfolded_examples, name_examples, kind_examples, language_examples, SurveyExamples}
use Rattle.edges.proofs.Left.{leaves}
use Rattle.edges.proofs.Computing.{computing}

subtypes_left : LeavesWords subtype_examples
unfolding computing
subtypes_left = leaves subtype_examples refl (λ rest. refl)

relations_left : LeavesWords relation_examples
unfolding computing
relations_left = leaves relation_examples refl (λ rest. refl)

logic_left : LeavesWords logic_examples
unfolding computing
logic_left = leaves logic_examples refl (λ rest. refl)

arithmetic_left : LeavesWords arithmetic_examples
unfolding computing
arithmetic_left = leaves arithmetic_examples refl (λ rest. refl)

unfolded_left : LeavesWords unfolded_examples
unfolding computing
unfolded_left = leaves unfolded_examples refl (λ rest. refl)

named_left : LeavesWords name_examples
unfolding computing
named_left = leaves name_examples refl (λ rest. refl)

kinds_left : LeavesWords kind_examples
unfolding computing
kinds_left = leaves kind_examples refl (λ rest. refl)

languages_left : LeavesWords language_examples
unfolding computing
languages_left = leaves language_examples refl (λ rest. refl)

pub examples : SurveyExamples
examples = (subtypes_left, relations_left, logic_left, arithmetic_left, unfolded_left, named_left, kinds_left, languages_left)
