-- What the lookup answers, as a number. Assumes nothing.
use Prim.Native.Nat.{ℕ}
use mathlib.Core.Path.{◌≡◌, ap, ◌∙◌}
use mathlib.Core.List.{List}
use Rattle.std.specs.Prelude.{Option}
use Rattle.lookup.specs.Lookup.{found_of}
use Rattle.lookup.specs.Finds.{Finds}
use Rattle.lookup.proofs.Promises.{found_exactly}
use Rattle.kawhiluhe.specs.AnswerNumbers.{found_number}
use Rattle.kawhiluhe.proofs.kawhiluhe_lookup.Goals as goal

-- the one answer that is permitted
numbered : (text elements name items : List ℕ) (x : Option ℕ) (n none : ℕ) → Finds text elements name items x → n ≡ found_number x none → n ≡ found_number (found_of text elements name items) none
numbered text elements name items x n none f e = e ∙ ap (λ (y : Option ℕ). found_number y none) ((found_exactly text elements name items x).0 f)

pub returns : goal.returns
returns c = search numbered
