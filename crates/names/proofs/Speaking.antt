-- The ways of a language's name, by its length, in the code's terms. Assumes nothing.
use mathlib.Core.Path.{◌≡◌, sym, ◌∙◌}
use mathlib.Core.Bool.{Bool, true, false, cond}
use mathlib.Core.List.{List}
use Prim.Native.Nat.{ℕ}
use native.Mathlib.Omega.{arith}
use lib.ListN.{length}
use borrow.Author.Tests.{eq-eqb, ne_eqb}
use Rattle.places.specs.Places.{cell_at}
use Rattle.same_names.specs.Alike.{spelled_as}
use Rattle.same_names.proofs.Spelling.{spelled_sized}
use Rattle.places.specs.Kinds.{identifier_kind}
use Rattle.words.specs.Words.{bytes_of}
use Rattle.names.specs.code.Language.{integer_name, natural_name, positive_name, boolean_name, true_name, false_name, language_of, name_integer, name_natural, name_positive, name_boolean, name_true, name_false}
use Rattle.names.specs.code.Chains.{seven_of}

-- a name told or not
pub told_so : (x t : Bool) (n : ℕ) → x ≡ t → x ≡ true → n ≡ cond t n 0
told_so x t n e h = rw (sym e ∙ h)

pub told_not : (x t : Bool) (n : ℕ) → x ≡ t → x ≡ false → 0 ≡ cond t n 0
told_not x t n e h = rw (sym e ∙ h)

-- the names of seven letters
module _ (p : List ℕ → Bool) (x : Bool) (a : x ≡ p integer_name) where
  pub seven_first : x ≡ true → name_integer ≡ seven_of p
  seven_first h = rw (sym a ∙ h)

  module _ (y : Bool) (b : y ≡ p natural_name) (h : x ≡ false) where
    pub seven_second : y ≡ true → name_natural ≡ seven_of p
    seven_second g = rw (sym a ∙ h, sym b ∙ g)

    pub seven_third : (r : ℕ) → y ≡ false → r ≡ cond (p boolean_name) name_boolean 0 → r ≡ seven_of p
    seven_third r g e = rw (sym a ∙ h, sym b ∙ g) e

module _ (text table : List ℕ) (e kind : ℕ) (k : kind ≡ cell_at table e 0) where
  pub language_other : (kind ≡ identifier_kind → ⊥) → 0 ≡ language_of text table e
  unfolding language_of
  language_other h = rw (← k, ne_eqb kind identifier_kind h)

  module _ (size : ℕ) (one : kind ≡ identifier_kind) (s : size ≡ cell_at table e 2) where
    out : (name : List ℕ) → (size ≡ length name → ⊥) → spelled_as true text table e name ≡ false
    out name h = spelled_sized true text table e name (λ z. h (s ∙ z))

    pub language_four : (r : ℕ) → size ≡ 4 → r ≡ cond (spelled_as true text table e true_name) name_true 0 → r ≡ language_of text table e
    unfolding language_of bytes_of
    language_four r h g =
        rw (← k, eq-eqb kind identifier_kind one, out integer_name (λ z. omega arith), out natural_name (λ z. omega arith), out positive_name (λ z. omega arith), out boolean_name (λ z. omega arith), out false_name (λ z. omega arith)) g

    pub language_five : (r : ℕ) → size ≡ 5 → r ≡ cond (spelled_as true text table e false_name) name_false 0 → r ≡ language_of text table e
    unfolding language_of bytes_of
    language_five r h g =
        rw (← k, eq-eqb kind identifier_kind one, out integer_name (λ z. omega arith), out natural_name (λ z. omega arith), out positive_name (λ z. omega arith), out boolean_name (λ z. omega arith), out true_name (λ z. omega arith)) g

    pub language_seven : (r : ℕ) → size ≡ 7 → r ≡ seven_of (spelled_as true text table e) → r ≡ language_of text table e
    unfolding language_of bytes_of
    language_seven r h g =
        rw (← k, eq-eqb kind identifier_kind one, out positive_name (λ z. omega arith), out true_name (λ z. omega arith), out false_name (λ z. omega arith)) g

    pub language_eight : (r : ℕ) → size ≡ 8 → r ≡ cond (spelled_as true text table e positive_name) name_positive 0 → r ≡ language_of text table e
    unfolding language_of bytes_of
    language_eight r h g =
        rw (← k, eq-eqb kind identifier_kind one, out integer_name (λ z. omega arith), out natural_name (λ z. omega arith), out boolean_name (λ z. omega arith), out true_name (λ z. omega arith), out false_name (λ z. omega arith)) g

    pub language_none : (size ≡ 4 → ⊥) → (size ≡ 5 → ⊥) → (size ≡ 7 → ⊥) → (size ≡ 8 → ⊥) → 0 ≡ language_of text table e
    unfolding language_of bytes_of
    language_none f g h i =
        rw (← k, eq-eqb kind identifier_kind one, out integer_name h, out natural_name h, out positive_name i, out boolean_name h, out true_name f, out false_name g)
