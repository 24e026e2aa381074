-- What the pieces done so far keep: each that claims a name has a value that fits its record, and a doubled one has none to give. Assumes
-- nothing.
use mathlib.Core.Path.{◌≡◌}
use mathlib.Core.Bool.{true}
use mathlib.Core.List.{List, [], ◌∷◌}
use Rattle.records.specs.Records.{is_claim}
use Rattle.values.specs.Values.{lean_of}
use Rattle.values.specs.declared.Value.TheVariants.{Without}
use Rattle.marks.proofs.Laws.{Fits}
use Rattle.states.specs.States as state
use Rattle.meaning.specs.Elements.{Piece}
use Rattle.meaning.specs.Names.{own_doubled, Done}
use Rattle.meaning.specs.Pieces.{class_of}

-- of one piece
abbrev pub GoodDone : List Piece → Done → Type 0
GoodDone all d =
    is_claim (class_of d.piece) ≡ true → Fits (class_of d.piece) d.value × (own_doubled all d.piece ≡ true → lean_of d.value ≡ Without state.leans)

-- of each
abbrev pub Good : List Piece → List Done → Type 0
Good all [] = Unit {0}
Good all (d ∷ ds) = GoodDone all d × Good all ds
