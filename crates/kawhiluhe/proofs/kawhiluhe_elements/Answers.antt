-- What the element reader answers, as numbers. Assumes nothing.
use mathlib.Core.Path.{◌≡◌, ap, ◌∙◌}
use mathlib.Core.List.{List}
use Prim.Native.Nat.{ℕ}
use lib.ListN.{length}
use Rattle.element_reading.specs.Reading.{reading_of, table_of}
use Rattle.element_reading.specs.Permitted.{Permitted}
use Rattle.std.specs.Prelude.{Result}
use Rattle.places.specs.declared.ElementNumber.{ElementNumber}
use Rattle.refusals.specs.declared.Refusal.{Refusal}
use Rattle.element_reading.proofs.Answers.{permitted_is}
use Rattle.kawhiluhe.specs.AnswerNumbers.{element_numbers}
use Rattle.kawhiluhe.specs.declared.Elements.{Elements}
use Rattle.kawhiluhe.proofs.kawhiluhe_elements.Goals as goal

as_numbers : (s : List ℕ) (w : ℕ) (o : Result ElementNumber Refusal) (t : List ℕ) (r : Elements) → Permitted s w o t → r ≡ element_numbers o → (r ≡ element_numbers (reading_of s w)) × (t ≡ table_of s w)
as_numbers s w o t r p e = let q = permitted_is s w o t p in (e ∙ ap element_numbers q.0, q.1)

pub returns : goal.returns
returns c = let a = c.args in
    let w = as_numbers a.text.now (length a.elements.now) c.read_elements.result _ _ c.read_elements.ensures c.element_numbers.ensures in
    record { value = w.0; elements_after = w.1 }
