-- What each piece of a package comes to, from the first to the last (01, "Pieces, items, states"). Assumes nothing: these are definitions.
use Rattle.std.specs.Prelude.{ℕ, List, [], ◌∷◌, ◌++◌}
use Rattle.values.specs.declared.Value.{Value}
use Rattle.meaning.specs.Elements.{Piece}
use Rattle.meaning.specs.Names.{Done, use_of}
use Rattle.meaning.specs.ItemForms.{ItemForm, HasForm}
use Rattle.meaning.specs.States.{Met, Least, NoneMet}
use Rattle.meaning.specs.Values.{Gives}

-- a piece, below those `above` in the text `all`
pub data Comes (all : List Piece) (above : List Done) (p : Piece) : Value → Type 0 where
  -- "The smallest of 1 to 6 wins"
  stands : {s : ℕ} → Least (Met all above p) s → Comes all above p (Value.Without s)
  -- "then the first of 7 to 9 met, left operand, right operand, operator; then 10"; else 0
  gives : {i : ItemForm} {v : Value} → NoneMet (Met all above p) → HasForm p i → Gives (use_of all above) i v → Comes all above p v

-- the pieces from the first below `above` on, each with what it comes to: "Names resolve upward only"
pub data Come (all : List Piece) : List Done → List Piece → List Done → Type 0 where
  none : {above : List Done} → Come all above [] []
  more : {above ds : List Done} {p : Piece} {ps : List Piece} {v : Value} → Comes all above p v
      → Come all (above ++ (record { piece = p; value = v } ∷ [])) ps ds → Come all above (p ∷ ps) (record { piece = p; value = v } ∷ ds)
