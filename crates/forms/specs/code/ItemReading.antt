-- Reading what a package declares one at a time, each a constant or a subtype, by the same rules and the same machine as a file
-- (01, "Forms of the strict reading", 4 and 5). Assumes nothing: these are definitions, and proofs/ItemReading.antt and
-- proofs/Shapes.antt have the proofs.
use Rattle.std.specs.Prelude.{ℕ, ◌+◌, ◌<◌, ◌≡◌, ◌⊎◌, ◌↔◌, List, [], ◌∷◌, Bool, length}
use Rattle.grammars.specs.code.Grammar.{Sym}
use Rattle.grammars.specs.code.Actions.{read, spent, Reads}
use Rattle.forms.specs.code.RuleNames.{constant, subtype}
use Rattle.forms.specs.code.Rules.{forms}
use Rattle.form_numbers.specs.Forms as form
use Rattle.forms.specs.Tree.{Row}
use Rattle.forms.specs.code.RuleActions.{State, Refusal, does, start, state_rows}
use Rattle.forms.specs.code.Reading.{reading_from}

-- what a package declares
abbrev pub IsItem : Sym → Type 0
IsItem from = (from ≡ constant) ⊎ (from ≡ subtype)

-- The elements are such an item by the forms, and no more than 32 ever stand open; what was read is s.
abbrev pub ItemReading : Sym → (ℕ → ℕ → Bool) → List ℕ → State → Type 0
ItemReading from alike w s = Reads State Refusal forms (does alike) (from ∷ []) 0 start w s

-- what is read is what a reading by the forms gives, and all of it
abbrev pub ReadsItems : Type 0
ReadsItems = (from : Sym) → IsItem from → (alike : ℕ → ℕ → Bool) (w : List ℕ) (s : State) → (reading_from from alike w ≡ read s) ↔ ItemReading from alike w s

-- the steps never run out
abbrev pub ItemsAnswer : Type 0
ItemsAnswer = (from : Sym) → IsItem from → (alike : ℕ → ℕ → Bool) (w : List ℕ) → reading_from from alike w ≡ spent → ⊥

-- no name is compared: the kinds say all
abbrev pub KindsAlone : Type 0
KindsAlone = (from : Sym) → IsItem from → (alike other : ℕ → ℕ → Bool) (w : List ℕ) → reading_from from alike w ≡ reading_from from other w

-- two readings of the same elements give the same, however names compare
abbrev pub OneItem : Type 0
OneItem =
    (from : Sym) → IsItem from → (alike other : ℕ → ℕ → Bool) (w : List ℕ) (s t : State) → ItemReading from alike w s → ItemReading from other w t → s ≡ t

-- there are fewer rows than elements
abbrev pub FewerRows : Type 0
FewerRows = (from : Sym) → IsItem from → (alike : ℕ → ℕ → Bool) (w : List ℕ) (s : State) → ItemReading from alike w s → length (state_rows s) < length w

-- the row of an item of form f and n elements, before its mark's row and the rows m after that
abbrev pub own_and_mark : ℕ
own_and_mark = 2

abbrev pub item_row : ℕ → ℕ → List Row → Row
item_row f n m = record { form = f; first = 0; count = n; rows = length m + own_and_mark; operator = 0 }

-- the row of its type mark, which is its fourth element
abbrev pub mark_at : ℕ
mark_at = 3

abbrev pub mark_row : Row
mark_row = record { form = form.mark; first = mark_at; count = 1; rows = 1; operator = mark_at }

-- the rows begin with the item's own, of form 4 for a constant and 5 for a subtype, and its type mark's
abbrev pub BeginWithMark : Type 0
BeginWithMark =
    ((alike : ℕ → ℕ → Bool) (w : List ℕ) (s : State) → ItemReading constant alike w s → (m : List Row) × (state_rows s ≡ item_row form.constant (length w) m ∷ (mark_row ∷ m)))
    × ((alike : ℕ → ℕ → Bool) (w : List ℕ) (s : State) → ItemReading subtype alike w s → (m : List Row) × (state_rows s ≡ item_row form.subtype (length w) m ∷ (mark_row ∷ m)))
