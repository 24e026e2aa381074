-- The kinds that are told apart, and an element's bytes. Assumes nothing.
use mathlib.Core.Path.{◌≡◌, refl}
use mathlib.Core.Bool.{Bool, true, false}
use mathlib.Core.List.{List}
use Prim.Native.Nat.{ℕ, ◌+◌, ◌-◌, ◌≤◌, ◌<◌, min}
use native.Mathlib.Omega.{arith}
use borrow.Author.Tests.{eq-eqb, ne_eqb, leb-true, leb-false}
use lib.Dec.{leb}
use native.Mathlib.Nat.{add-sub_cancel_left}
use lib.ListN.{length, take, drop, length-drop, drop_of_length-le}
use lib.Seq.{take-nil}
use Rattle.spelled.specs.Spelled.{kind_of}
use Rattle.laws.proofs.Laws.{cut}
use Rattle.places.specs.Kinds.{integer_literal_kind}
use Rattle.places.specs.Places.{cell_at}
use Rattle.folding.specs.declared.Operator.TheVariants.{Join}
use Rattle.folding.specs.declared.Sign.TheVariants.{Plus}
use Rattle.folding.specs.declared.Outcome.{Outcome}
use Rattle.states.specs.States as state
use Rattle.operands.specs.code.Leaves.{literal_leaf, wrong_leaf}
use Rattle.operands.specs.SpelledOperators.{operator_of, sign_of}
use Rattle.operands.specs.code.Operands.{bytes_at, literal_by, literal_in}

pub joins :
    (k : ℕ)
    → (k ≡ kind_of "**" → ⊥) → (k ≡ kind_of "*" → ⊥) → (k ≡ kind_of "/" → ⊥) → (k ≡ kind_of "mod" → ⊥) → (k ≡ kind_of "rem" → ⊥) → (k ≡ kind_of "+" → ⊥)
    → (k ≡ kind_of "-" → ⊥) → (k ≡ kind_of "=" → ⊥) → (k ≡ kind_of "/=" → ⊥) → (k ≡ kind_of "<" → ⊥) → (k ≡ kind_of "<=" → ⊥) → (k ≡ kind_of ">" → ⊥)
    → (k ≡ kind_of ">=" → ⊥) → (k ≡ kind_of "and" → ⊥) → (k ≡ kind_of "or" → ⊥) → (k ≡ kind_of "nand" → ⊥) → (k ≡ kind_of "nor" → ⊥) → (k ≡ kind_of "xor" → ⊥)
    → (k ≡ kind_of "xnor" → ⊥)
    → Join ≡ operator_of k
unfolding operator_of
joins k a0 b0 c0 d0 e0 f0 g0 h0 i0 j0 k0 l0 m0 n0 o0 p0 q0 r0 s0 =
    rw (
      ne_eqb k (kind_of "**") a0,
      ne_eqb k (kind_of "*") b0,
      ne_eqb k (kind_of "/") c0,
      ne_eqb k (kind_of "mod") d0,
      ne_eqb k (kind_of "rem") e0,
      ne_eqb k (kind_of "+") f0,
      ne_eqb k (kind_of "-") g0,
      ne_eqb k (kind_of "=") h0,
      ne_eqb k (kind_of "/=") i0,
      ne_eqb k (kind_of "<") j0,
      ne_eqb k (kind_of "<=") k0,
      ne_eqb k (kind_of ">") l0,
      ne_eqb k (kind_of ">=") m0,
      ne_eqb k (kind_of "and") n0,
      ne_eqb k (kind_of "or") o0,
      ne_eqb k (kind_of "nand") p0,
      ne_eqb k (kind_of "nor") q0,
      ne_eqb k (kind_of "xor") r0,
      ne_eqb k (kind_of "xnor") s0,
    )

pub pluses : (k : ℕ) → (k ≡ kind_of "-" → ⊥) → (k ≡ kind_of "abs" → ⊥) → (k ≡ kind_of "not" → ⊥) → Plus ≡ sign_of k
unfolding sign_of
pluses k a0 b0 c0 = rw (ne_eqb k (kind_of "-") a0, ne_eqb k (kind_of "abs") b0, ne_eqb k (kind_of "not") c0)

-- a part within the text, whatever the row says
inside : (a b f s : ℕ) (t : List ℕ) → a ≤ length t → f ≡ min a (length t) → s ≡ min b (length t - f) → take s (drop f t) ≡ take b (drop a t)
inside a b f s t h p q =
    let z : f ≡ a = omega arith in
    let y : s ≡ min b (length (drop a t)) = omega (arith, length-drop a t) in
    rw (z, y) (cut b (drop a t))

outside : (a b f s : ℕ) (t : List ℕ) → length t < a → f ≡ min a (length t) → s ≡ min b (length t - f) → take s (drop f t) ≡ take b (drop a t)
outside a b f s t h p q =
    let z : length t ≤ f = omega arith in
    let y : length t ≤ a = omega arith in
    rw (drop_of_length-le t {i = f} z, drop_of_length-le t {i = a} y, take-nil {A = ℕ} s, take-nil {A = ℕ} b)

pub part_bytes : (text table : List ℕ) (e first size : ℕ) → first ≡ min (cell_at table e 1) (length text) → size ≡ min (cell_at table e 2) (length text - first)
    → take (first + size - first) (drop first text) ≡ bytes_at text table e
unfolding bytes_at
part_bytes text table e first size p q =
    rw (add-sub_cancel_left first size)
    (go (leb (cell_at table e 1) (length text)) refl)
  where
    go : (b : Bool) → leb (cell_at table e 1) (length text) ≡ b → take size (drop first text) ≡ take (cell_at table e 2) (drop (cell_at table e 1) text)
    go true h = inside (cell_at table e 1) (cell_at table e 2) first size text (leb-true (cell_at table e 1) (length text) h) p q
    go false h = outside (cell_at table e 1) (cell_at table e 2) first size text (leb-false (cell_at table e 1) (length text) h) p q

pub not_folded : (text table : List ℕ) (e k : ℕ) (r : Outcome) → k ≡ cell_at table e 0 → (k ≡ integer_literal_kind → ⊥) → r ≡ wrong_leaf state.unfolded → r ≡ literal_in text table e
unfolding literal_in literal_by
not_folded text table e k r p h z = rw (← p, ne_eqb k integer_literal_kind h) z

pub folded : (text table : List ℕ) (e k a b first size : ℕ) (r : Outcome) → k ≡ cell_at table e 0 → k ≡ integer_literal_kind → a ≡ cell_at table e 1 → b ≡ cell_at table e 2
    → first ≡ min a (length text) → size ≡ min b (length text - first) → r ≡ literal_leaf (take (first + size - first) (drop first text)) → r ≡ literal_in text table e
unfolding literal_in literal_by
folded text table e k a b first size r p h x y f g z =
    rw (← p, eq-eqb k integer_literal_kind h, ← part_bytes text table e first size (rw x at f) (rw y at g)) z
