-- The ways of a lookup, in the code's terms: each premise is what a call or a test gives. Assumes nothing.
use mathlib.Core.Path.{◌≡◌, refl}
use mathlib.Core.Bool.{Bool, true, false}
use mathlib.Core.List.{List}
use Prim.Native.Nat.{ℕ, zero, suc, ◌/◌, ◌≤◌, ◌<◌}
use native.Mathlib.Omega.{arith}
use lib.ListN.{length}
use Rattle.std.specs.Prelude.{Option, Some, None, MatchOption}
use Rattle.same_names.specs.Spelling.{by_kind}
use Rattle.places.specs.Places.{cell_at}
use Rattle.records.specs.Records.{word_at, is_claim}
use Rattle.same_names.specs.Alike.{spelled_as}
use Rattle.pieces.specs.Columns as column
use Rattle.pieces.specs.Columns.{record_words}
use Rattle.places.specs.Kinds.{identifier_kind, extended_kind}
use Rattle.lookup.specs.Lookup.{is_named, claims_name}
use Rattle.lookup.specs.Finds.{Finds}
use Rattle.lookup.proofs.Promises.{claims_at, claims_not_at}

module _ (text elements : List ℕ) (e k : ℕ) (name : List ℕ) (p : k ≡ cell_at elements e 0) where
  pub named_basic : (r : Bool) → k ≡ identifier_kind → r ≡ spelled_as true text elements e name → r ≡ is_named text elements e name
  unfolding is_named
  named_basic r h z = rw (← p, h) z

  pub named_extended : (r : Bool) → k ≡ extended_kind → r ≡ spelled_as false text elements e name → r ≡ is_named text elements e name
  unfolding is_named
  named_extended r h z = rw (← p, h) z

  neither : (k : ℕ) (x y : Bool) → (k ≡ identifier_kind → ⊥) → (k ≡ extended_kind → ⊥) → false ≡ by_kind k x y
  neither zero x y h g = refl
  neither (suc zero) x y h g = absurd (h refl)
  neither (suc (suc zero)) x y h g = absurd (g refl)
  neither (suc (suc (suc k))) x y h g = refl

  pub named_neither : (k ≡ identifier_kind → ⊥) → (k ≡ extended_kind → ⊥) → false ≡ is_named text elements e name
  unfolding is_named
  named_neither h g = rw (← p) (neither k (spelled_as true text elements e name) (spelled_as false text elements e name) h g)

module _ (text elements name items : List ℕ) (i class : ℕ) (x : Bool) (p : class ≡ word_at items i column.class) (q : x ≡ is_claim class) where
  pub claims_not : x ≡ false → false ≡ claims_name text elements name items i
  unfolding claims_name
  claims_not h = rw (← p, ← q, h)

  pub claims_so : (e : ℕ) (r : Bool) → x ≡ true → e ≡ word_at items i column.name → r ≡ is_named text elements e name → r ≡ claims_name text elements name items i
  unfolding claims_name
  claims_so e r h f z = rw (← p, ← q, h, ← f) z

-- the first record that claims the name, or none, by the test on each
module _ (text elements name items : List ℕ) where
  pub finds_by : (r : Option ℕ)
      → MatchOption r
      ((k : ℕ) → 0 ≤ k → k < length items / record_words → claims_name text elements name items k ≡ false)
      (λ i. (0 ≤ i) × (i < length items / record_words) × (claims_name text elements name items i ≡ true) × ((k : ℕ) → 0 ≤ k → k < i → claims_name text elements name items k ≡ false))
      → Finds text elements name items r
  unfolding Finds
  finds_by (Some i) h = (h.1, claims_at text elements name items i h.2, λ j l. claims_not_at text elements name items j (h.3 j (omega arith) l))
  finds_by None h = λ j l. claims_not_at text elements name items j (h j (omega arith) l)
