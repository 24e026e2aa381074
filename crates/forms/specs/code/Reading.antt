-- The machine that reads a file by the table of rules, and what the theorems say of it: that it is right, that there is one tree, that
-- the place of refusal 5 is exact, that it always answers. Assumes nothing: these are definitions, and proofs/Meaning.antt has the proofs.
use Rattle.std.specs.Prelude.{ℕ, suc, ◌+◌, ◌*◌, ◌≤◌, ◌<◌, ◌≡◌, ◌↔◌, List, [], ◌∷◌, ◌++◌, Bool, length, take}
use Rattle.grammars.specs.code.Grammar.{Sym}
use Rattle.grammars.specs.code.Actions.{End, read, bad, stopped, spent, runs}
use Rattle.forms.specs.code.RuleNames.{file}
use Rattle.forms.specs.code.Rules.{body}
use Rattle.forms.specs.code.Picks.{predict}
use Rattle.forms.specs.code.RuleActions.{State, Refusal, does, start, IsFile, Reading}

-- the steps for n elements
abbrev pub steps : ℕ → ℕ
steps n = 128 * n + 128

-- reading elements of the kinds w as what a name of the rules names
unfoldable pub reading_from : Sym → (ℕ → ℕ → Bool) → List ℕ → End State Refusal
reading_from from alike w = runs body predict (does alike) (steps (length w)) (from ∷ []) w 0 start

-- reading them as a file
abbrev pub file_reading : (ℕ → ℕ → Bool) → List ℕ → End State Refusal
file_reading = reading_from file

-- the first j elements begin some file
abbrev pub BeginsFile : List ℕ → ℕ → Type 0
BeginsFile w j = (v : List ℕ) × IsFile (take j w ++ v)

-- what is read is what a reading by the forms gives, and all of it
abbrev pub ReadsFiles : Type 0
ReadsFiles = (alike : ℕ → ℕ → Bool) (w : List ℕ) (s : State) → (file_reading alike w ≡ read s) ↔ Reading alike w s

-- two readings of the same elements give the same
abbrev pub OneFileReading : Type 0
OneFileReading = (alike : ℕ → ℕ → Bool) (w : List ℕ) (s t : State) → Reading alike w s → Reading alike w t → s ≡ t

-- refusal 5 at j: the first j elements begin a file, and with the element at j, if there is one, they begin none
abbrev pub FirstWrong : Type 0
FirstWrong =
    (alike : ℕ → ℕ → Bool) (w : List ℕ) (j : ℕ) → file_reading alike w ≡ bad j
    → (j ≤ length w) × BeginsFile w j × (j < length w → BeginsFile w (suc j) → ⊥) × (j ≡ length w → IsFile w → ⊥)

-- refusals 6 and 7, when j elements were read: they begin a file
abbrev pub StillBegins : Type 0
StillBegins = (alike : ℕ → ℕ → Bool) (w : List ℕ) (j : ℕ) (r : Refusal) → file_reading alike w ≡ stopped j r → BeginsFile w j

-- the steps never run out
abbrev pub AlwaysAnswers : Type 0
AlwaysAnswers = (alike : ℕ → ℕ → Bool) (w : List ℕ) → file_reading alike w ≡ spent → ⊥
