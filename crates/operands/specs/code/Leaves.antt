-- The outcomes of an expression's leaves. Assumes nothing.
use Rattle.std.specs.Prelude.{ℕ, Bool, List, ℤ}
use Rattle.integers.specs.declared.Folded.TheVariants.{Whole, Truth, Stopped}
use Rattle.integers.specs.declared.Kind.{Kind}
use Rattle.folding.specs.declared.Sort.TheVariants.{Of, Wrong}
use Rattle.folding.specs.declared.Outcome.{Outcome}
use Rattle.literals.specs.Literals.{literal_of}

-- a name in state 0: "a number, a truth"
abbrev pub whole_leaf : ℤ → Outcome
whole_leaf z = record { sort = Of Kind.Integer; folded = Whole z }

abbrev pub truth_leaf : Bool → Outcome
truth_leaf t = record { sort = Of Kind.Truth; folded = Truth t }

-- one of the states 3 to 6: a literal or form that isn't folded, a name unknown, one that leans, a type as a number
abbrev pub wrong_leaf : ℕ → Outcome
wrong_leaf s = record { sort = Wrong s; folded = Stopped s }

-- an integer literal, spelled by these bytes
abbrev pub literal_leaf : List ℕ → Outcome
literal_leaf s = record { sort = Of Kind.Integer; folded = literal_of s }
