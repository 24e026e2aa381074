-- The first byte that ends a line comes after those of the line. Assumes nothing.
use Rattle.std.proofs.Common.{◌≡◌, ◌∙◌, ℕ, suc, ◌+◌, ◌≤◌, Bool, true, false, not, cond, Some, None, List, [], ◌∷◌, length, refl, ap, arith, rules}
use borrow.Author.Tests.{tests, ltb-false}
use lib.Dec.{ltb}
use Rattle.std.specs.Option.{unwrap_or}
use Rattle.std.specs.List.{position_or_len}
use Rattle.std.proofs.lemmas.Iterator.{YieldsList-from_slice}
use Rattle.std.proofs.lemmas.Iterator.Search.{position_from_yields_List}
use Rattle.classes.specs.Runs.{count_while}
use Rattle.classes.proofs.Laws.{count_le}
use Rattle.classes.specs.Signs.{ends_line}
use Rattle.element_reading.specs.code.LineEnds.{in_line}
use Rattle.element_reading.proofs.line_length.Goals as goal

before_end : (s : List ℕ) → position_or_len ends_line s ≡ count_while in_line s
unfolding count_while in_line
before_end [] = refl
before_end (b ∷ s) = go (ends_line b) _ _ (before_end s)
  where
    go : (x : Bool) (p q : ℕ) → p ≡ q → cond (not x) (1 + p) 0 ≡ (elim (not x) [ true ↦ suc q | false ↦ 0 ])
    go true p q e = refl
    go false p q e = omega arith

at_most : (p n : ℕ) → p ≤ n → unwrap_or (cond (ltb p n) (Some p) None) n ≡ p
at_most p n h = go (ltb p n) refl
  where
    go : (x : Bool) → ltb p n ≡ x → unwrap_or (cond x (Some p) None) n ≡ p
    go true e = refl
    go false e = omega (arith, ltb-false p n e)

pub returns : goal.returns
returns c =
    let s = c.args.s.now in
    let first =
    position_from_yields_List ends_line _ _ c.position.result c.position.ensures.ran (YieldsList-from_slice s c.iter.ensures.rest) (λ x b q k. search (rules, tests)) in
    let few : position_or_len ends_line s ≤ length s = omega (arith, before_end s, count_le in_line s) in
    c.unwrap_or.ensures ∙ ap (λ r. unwrap_or r (length s)) first ∙ at_most _ _ few ∙ before_end s
