-- `tree::pick` meets its contract. The part of the rules has a line to each name, a byte to each kind: the rule's number and one more.
-- Assumes nothing.
use Prim.Native.Nat.{ℕ, ◌+◌, ◌-◌, ◌≤◌}
use mathlib.Core.Path.{◌≡◌, ◌∙◌}
use native.Mathlib.Omega.{arith}
use Rattle.std.specs.Prelude.{Option, Some, None, MatchOption, SomeIff}
use Rattle.form_table.proofs.Tables.{forms_size, pick_at}
use Rattle.tree.proofs.pick.Goals as goal

one_less : (o : Option ℕ) (q n : ℕ) → q ≡ n → SomeIff o (1 ≤ q) (q - 1) → MatchOption o (n ≡ 0) (λ p. n ≡ p + 1)
one_less None q n e h = small q n e h
  where
    small : (q n : ℕ) → q ≡ n → (1 ≤ q → ⊥) → n ≡ 0
    small q n e h = omega arith
one_less (Some p) q n e h = let a = h.0 in let b = h.1 in omega arith

pub bounds-forms-n : goal.bounds-forms-n
bounds-forms-n c = omega (arith, forms_size c.requires.0)

pub returns : goal.returns
returns c = one_less _ _ _ (c.from.ensures ∙ pick_at c.requires.0 c.args.n c.args.t c.requires.1 c.requires.2) c.checked_sub.ensures
