-- The answers as numbers, in the code's terms: each premise is what a match or a call gives. Assumes nothing.
use Rattle.std.specs.Prelude.{Ok, Err}
use Prim.Native.Nat.{ℕ}
use mathlib.Core.Path.{◌≡◌, sym, ap}
use mathlib.Core.List.{List}
use lib.ListN.{replicate}
use Rattle.refusals.specs.Refusals.{refusal_number, refusal_place, strict_number, strict_place, survey_number, survey_place}
use Rattle.places.specs.declared.ElementNumber.{ElementNumber}
use Rattle.refusals.specs.declared.Refusal.{Refusal}
use Rattle.std.specs.Prelude.{Result, Ok, Err}
use Rattle.states.specs.States.{states}
use Rattle.refusals.specs.declared.StrictRefusal.{StrictRefusal}
use Rattle.strict_reading.specs.Permitted as strict
use Rattle.survey_reading.specs.Permitted as survey
use Rattle.strict_reading.specs.declared.Judgement.{Judgement}
use Rattle.verdict.specs.declared.Verdict.TheVariants.{Passes, NotSupported}
use Rattle.refusals.specs.declared.SurveyRefusal.{SurveyRefusal}
use Rattle.survey_reading.specs.declared.Summary.{Summary}
use Rattle.records.specs.Counting.{one_if}
use Rattle.storing.specs.Refusals.{storing_number, storing_place}
use Rattle.storing.specs.Permitted as storing
use Rattle.storing.specs.Refusals.{Storing}
use Rattle.stored_reading.specs.Refusals.{stored_number, stored_place}
use Rattle.stored_reading.specs.Permitted as reading
use Rattle.stored_reading.specs.declared.StoredRefusal.{StoredRefusal}
use Rattle.stored_reading.specs.Permitted.{StoredReading}
use Rattle.stored_reading.specs.declared.StoredTable.{StoredTable}
use Rattle.storing_again.specs.Refusals.{again_number, again_place}
use Rattle.storing_again.specs.Permitted as twice
use Rattle.storing_again.specs.Refusals.{Again}
use Rattle.kawhiluhe.specs.StoredNumbers.{bytes_stored, store_numbers, StorePermitted, unstore_numbers, UnstorePermitted, bytes_again, again_numbers, AgainPermitted}
use Rattle.kawhiluhe.specs.AnswerNumbers.{element_numbers, strict_numbers, StrictPermitted, pair_number, earlier_number, later_number, survey_numbers, SurveyPermitted}
use Rattle.kawhiluhe.specs.declared.Judged.{Judged}
use Rattle.kawhiluhe.specs.declared.Surveyed.{Surveyed}
use Rattle.kawhiluhe.specs.declared.Kept.{Kept}
use Rattle.kawhiluhe.specs.declared.Unstored.{Unstored}

pub elements_read : (r : Result ElementNumber Refusal) (e : ElementNumber) → r ≡ Ok e → record { refusal = 0; place = 0; elements = e.0 } ≡ element_numbers r
elements_read r e h = sym (ap element_numbers h)

pub elements_refused : (r : Result ElementNumber Refusal) (x : Refusal) (n p : ℕ) → r ≡ Err x → n ≡ refusal_number x → p ≡ refusal_place x
    → record { refusal = n; place = p; elements = 0 } ≡ element_numbers r
elements_refused r x n p h e f = rw (h, e, f)

pub strict_permits : (text : List ℕ) (ew tw : ℕ) (a : Result Judgement StrictRefusal) (j : Judged) (e t : List ℕ) → j ≡ strict_numbers a → strict.Permitted text ew tw a e t → StrictPermitted text ew tw j e t
strict_permits text ew tw a j e t p q = (a, (p, q))

pub strict_passes : (x : Result Judgement StrictRefusal) (j : Judgement) (n : Judged) → x ≡ Ok j → j.verdict ≡ Passes
    → n ≡ record { refusal = 0; place = 0; rows = j.rows; passes = 1; row = 0 } → n ≡ strict_numbers x
strict_passes x j n h g e = rw (h, g) e

pub strict_fails : (x : Result Judgement StrictRefusal) (j : Judgement) (i : ℕ) (n : Judged) → x ≡ Ok j → j.verdict ≡ NotSupported i
    → n ≡ record { refusal = 0; place = 0; rows = j.rows; passes = 0; row = i } → n ≡ strict_numbers x
strict_fails x j i n h g e = rw (h, g) e

pub strict_refused : (x : Result Judgement StrictRefusal) (r : StrictRefusal) (n p : ℕ) → x ≡ Err r → n ≡ strict_number r → p ≡ strict_place r
    → record { refusal = n; place = p; rows = 0; passes = 0; row = 0 } ≡ strict_numbers x
strict_refused x r n p h e f = rw (h, e, f)

pub survey_done : (x : Result Summary SurveyRefusal) (s : Summary) (f w a b d : ℕ) → x ≡ Ok s → f ≡ one_if s.frame → w ≡ one_if s.whole
    → a ≡ pair_number s.pair → b ≡ earlier_number s.pair → d ≡ later_number s.pair
    → record { refusal = 0; place = 0; pieces = s.pieces; frame = f; whole = w; pair = a; earlier = b; later = d; tally = s.tally.counts } ≡ survey_numbers x
survey_done x s f w a b d h e₁ e₂ e₃ e₄ e₅ = rw (h, e₁, e₂, e₃, e₄, e₅)

pub survey_refused : (x : Result Summary SurveyRefusal) (r : SurveyRefusal) (n p : ℕ) → x ≡ Err r → n ≡ survey_number r → p ≡ survey_place r
    → record { refusal = n; place = p; pieces = 0; frame = 0; whole = 0; pair = 0; earlier = 0; later = 0; tally = replicate states 0 } ≡ survey_numbers x
survey_refused x r n p h e f = rw (h, e, f)

pub survey_permits : (text : List ℕ) (ew iw : ℕ) (a : Result Summary SurveyRefusal) (y : Surveyed) (e i : List ℕ) → y ≡ survey_numbers a → survey.Permitted text ew iw a e i → SurveyPermitted text ew iw y e i
survey_permits text ew iw a y e i p q = (a, (p, q))

pub store_is : (x : Storing) (n p b : ℕ) → n ≡ storing_number x → p ≡ storing_place x → b ≡ bytes_stored x → record { refusal = n; place = p; bytes = b } ≡ store_numbers x
store_is x n p b e f g = rw (e, f, g)

pub store_permits : (text : List ℕ) (ew iw ob : ℕ) (a : Storing) (k : Kept) (e i o : List ℕ) → k ≡ store_numbers a → storing.Permitted text ew iw ob a e i o → StorePermitted text ew iw ob k e i o
store_permits text ew iw ob a k e i o p q = (a, (p, q))

pub unstore_read : (x : StoredReading) (t : StoredTable) → x ≡ Ok t → record { refusal = 0; place = 0; items = t.items; name = t.name.0; length = t.length } ≡ unstore_numbers x
unstore_read x t h = rw h

pub unstore_refused : (x : StoredReading) (r : StoredRefusal) (n p : ℕ) → x ≡ Err r → n ≡ stored_number r → p ≡ stored_place r
    → record { refusal = n; place = p; items = 0; name = 0; length = 0 } ≡ unstore_numbers x
unstore_refused x r n p h e f = rw (h, e, f)

pub unstore_permits : (bytes : List ℕ) (w : ℕ) (a : StoredReading) (u : Unstored) (rows : List ℕ) → u ≡ unstore_numbers a → reading.Permitted bytes w a rows → UnstorePermitted bytes w u rows
unstore_permits bytes w a u rows p q = (a, (p, q))

pub again_is : (x : Again) (n p b : ℕ) → n ≡ again_number x → p ≡ again_place x → b ≡ bytes_again x → record { refusal = n; place = p; bytes = b } ≡ again_numbers x
again_is x n p b e f g = rw (e, f, g)

pub again_permits : (bytes : List ℕ) (w ob : ℕ) (a : Again) (k : Kept) (rows o : List ℕ) → k ≡ again_numbers a → twice.Permitted bytes w ob a rows o → AgainPermitted bytes w ob k rows o
again_permits bytes w ob a k rows o p q = (a, (p, q))
