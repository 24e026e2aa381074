-- What a literal of a text and its table comes to. Assumes nothing.
use Rattle.std.specs.Prelude.{ℕ, cond, List, eqb, take, drop}
use Rattle.places.specs.Kinds.{integer_literal_kind}
use Rattle.places.specs.Places.{kind_column, first_column, size_column, cell_at}
use Rattle.folding.specs.declared.Outcome.{Outcome}
use Rattle.states.specs.States as state
use Rattle.operands.specs.code.Leaves.{literal_leaf, wrong_leaf}

-- the bytes of an element of a text and its table
unfoldable pub bytes_at : List ℕ → List ℕ → ℕ → List ℕ
bytes_at text table e = take (cell_at table e size_column) (drop (cell_at table e first_column) text)

-- state 3, "a real, character or string literal"
unfoldable pub literal_by : ℕ → List ℕ → Outcome
literal_by kind bytes = cond (eqb kind integer_literal_kind) (literal_leaf bytes) (wrong_leaf state.unfolded)

unfoldable pub literal_in : List ℕ → List ℕ → ℕ → Outcome
literal_in text table e = literal_by (cell_at table e kind_column) (bytes_at text table e)
