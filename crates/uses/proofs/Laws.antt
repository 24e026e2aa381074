-- The ways of a name used, in the code's terms: each premise is what a call or a test gives. Assumes nothing.
use mathlib.Core.Path.{◌≡◌}
use mathlib.Core.List.{List}
use Prim.Native.Nat.{ℕ, ◌-◌, ◌≤◌, ◌<◌}
use borrow.Author.Tests.{eq-eqb, ne_eqb, lt-ltb, le-ltb}
use lib.ListN.{get_or}
use Rattle.records.specs.Records.{word_at}
use Rattle.names.specs.code.Language.{language_of}
use Rattle.values.specs.Values.{language_value}
use Rattle.values.specs.code.Used.{used_value}
use Rattle.values.specs.declared.Value.{Value}
use Rattle.values.specs.declared.Value.TheVariants.{Without}
use Rattle.pieces.specs.Columns as column
use Rattle.states.specs.States as state
use Rattle.uses.specs.code.Uses.{record_value, own_use, language_use, use_in}

pub record_words_lem : (items : List ℕ) (j class state kind low high : ℕ) (r : Value) → class ≡ word_at items j column.class → state ≡ word_at items j column.state → kind ≡ word_at items j column.kind
    → low ≡ word_at items j column.low → high ≡ word_at items j column.high → r ≡ used_value class state kind low high → r ≡ record_value items j
unfolding record_value
record_words_lem items j class state kind low high r a b c d e z = rw (← a, ← b, ← c, ← d, ← e) z

module _ (text table items links : List ℕ) (i e language link : ℕ) (p : language ≡ language_of text table e) (q : link ≡ get_or links e 0) where
  pub claimed_too : (language ≡ 0 → ⊥) → (link ≡ 0 → ⊥) → Without state.leans ≡ use_in text table items links i e
  unfolding use_in language_use
  claimed_too h k = rw (← p, ← q, ne_eqb language 0 h, ne_eqb link 0 k)

  pub of_language : (r : Value) → (language ≡ 0 → ⊥) → link ≡ 0 → r ≡ language_value language → r ≡ use_in text table items links i e
  unfolding use_in language_use
  of_language r h k z = rw (← p, ← q, ne_eqb language 0 h, eq-eqb link 0 k) z

  pub no_claim : language ≡ 0 → link ≡ 0 → Without state.unknown ≡ use_in text table items links i e
  unfolding use_in own_use
  no_claim h k = rw (← p, ← q, eq-eqb language 0 h, eq-eqb link 0 k)

  pub above : (r : Value) → language ≡ 0 → (link ≡ 0 → ⊥) → link - 1 < i → r ≡ record_value items (link - 1) → r ≡ use_in text table items links i e
  unfolding use_in own_use
  above r h k l z = rw (← p, ← q, eq-eqb language 0 h, ne_eqb link 0 k, lt-ltb (link - 1) i l) z

  pub below : language ≡ 0 → (link ≡ 0 → ⊥) → i ≤ link - 1 → Without state.unknown ≡ use_in text table items links i e
  unfolding use_in own_use
  below h k l = rw (← p, ← q, eq-eqb language 0 h, ne_eqb link 0 k, le-ltb (link - 1) i l)
