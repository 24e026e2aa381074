-- What a name comes to where it is used, by the tables: each element's link is the first record that claims its name, and one more, or 0.
-- Assumes nothing.
use Rattle.std.specs.Prelude.{ℕ, ◌-◌, cond, List, eqb, ltb, get_or}
use Rattle.records.specs.Records.{word_at}
use Rattle.names.specs.code.Language.{language_of}
use Rattle.values.specs.Values.{language_value}
use Rattle.values.specs.code.Used.{used_value}
use Rattle.values.specs.declared.Value.{Value}
use Rattle.values.specs.declared.Value.TheVariants.{Without}
use Rattle.pieces.specs.Columns as column
use Rattle.states.specs.States as state

-- what record j comes to for those that use its name
unfoldable pub record_value : List ℕ → ℕ → Value
record_value items j = used_value (word_at items j column.class) (word_at items j column.state) (word_at items j column.kind) (word_at items j column.low) (word_at items j column.high)

-- an own name: 4 where no record above piece i claims it
unfoldable pub own_use : List ℕ → ℕ → ℕ → Value
own_use items link i = cond (eqb link 0) (Without state.unknown) (cond (ltb (link - 1) i) (record_value items (link - 1)) (Without state.unknown))

-- a name of the language: 5 where a record claims it too
unfoldable pub language_use : ℕ → ℕ → Value
language_use language link = cond (eqb link 0) (language_value language) (Without state.leans)

-- element e used as a name in piece i
unfoldable pub use_in : List ℕ → List ℕ → List ℕ → List ℕ → ℕ → ℕ → Value
use_in text table items links i e =
    cond (eqb (language_of text table e) 0) (own_use items (get_or links e 0) i) (language_use (language_of text table e) (get_or links e 0))
