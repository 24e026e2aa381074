-- What the strict reading of a text promises beside its contract, as statements: proofs/Promises.antt proves each. Permitted.antt says what it
-- may answer and leave in its tables, Given.antt when a text is read and when each refusal is given. Assumes nothing: these are definitions.
use Rattle.std.specs.Prelude.{ℕ, ◌≡◌, ◌↔◌, List, Result, Ok, Err}
use Rattle.verdict.specs.declared.Verdict.{Verdict}
use Rattle.refusals.specs.Refusals.{strict_number, strict_place}
use Rattle.refusals.specs.declared.StrictRefusal.{StrictRefusal}
use Rattle.strict_reading.specs.declared.Judgement.{Judgement}
use Rattle.strict_reading.specs.Given.{IsRead, Given}
use Rattle.strict_reading.specs.Permitted.{Permitted}

-- Any two permitted answers coincide, and so do the tables: 01 leaves no choice.
abbrev pub NoChoice : Type 0
NoChoice =
    (text : List ℕ) (ew tw : ℕ) (r r' : Result Judgement StrictRefusal) (e e' t t' : List ℕ) → Permitted text ew tw r e t → Permitted text ew tw r' e' t'
    → (r ≡ r') × (e ≡ e') × (t ≡ t')

-- And one is permitted: every text with any two tables has an answer.
abbrev pub SomeAnswer : Type 0
SomeAnswer = (text : List ℕ) (ew tw : ℕ) → (r : Result Judgement StrictRefusal) × ((e : List ℕ) × ((t : List ℕ) × Permitted text ew tw r e t))

-- A text is accepted exactly where its elements are a file by the forms and neither 6, 7 nor the sizes refuse it; the rows are as many as
-- that file has, and the verdict is that on them.
abbrev pub Accepted : Type 0
Accepted =
    (text : List ℕ) (ew tw : ℕ) (r : Result Judgement StrictRefusal) (e t : List ℕ) → Permitted text ew tw r e t
    → (rows : ℕ) (v : Verdict) → (r ≡ Ok (record { rows = rows; verdict = v })) ↔ IsRead text ew tw rows v

-- Each refusal is given exactly where 01's table says, with its number and its place.
abbrev pub RefusedExactly : Type 0
RefusedExactly =
    (text : List ℕ) (ew tw : ℕ) (r : Result Judgement StrictRefusal) (e t : List ℕ) → Permitted text ew tw r e t
    → (x : StrictRefusal) → (r ≡ Err x) ↔ Given text ew tw (strict_number x) (strict_place x)
