-- What an element is to the forms by its class or its spelling is what the code's table of kinds has: by computing, kind by kind, and past the last
-- kind both say any other. Assumes nothing.
use Prim.Native.Nat.{ℕ, zero, suc, ◌+◌, ◌≤◌, ◌<◌}
use mathlib.Core.Path.{◌≡◌, refl, sym, ap, ◌∙◌}
use mathlib.Core.Bool.{Bool, true, false, cond, ◌&&◌, ◌||◌}
use mathlib.Core.List.{List, [], ◌∷◌}
use native.Mathlib.Omega.{arith}
use lib.Dec.{T, eqb, ltb, eqb→eq}
use lib.ListN.{get_or, length}
use borrow.Author.Tests.{ne_eqb, ltb-true, ltb-false}
use Rattle.spelled.proofs.Spelling.{spelling}
use Rattle.grammars.specs.code.Grammar.{Sym}
use Rattle.grammars.proofs.Theory.{and_left, and_right}
use Rattle.grammars.proofs.Check.{below_at}
use Rattle.forms.specs.code.Kinds.{number_of, other, terminal_of}
use Rattle.forms.specs.code.Kinds as code
use Rattle.forms.specs.Spellings.{identifier}
use Rattle.one_tree.specs.FormElements.{told, place_among, form_kind}
use Rattle.laws.proofs.Laws.{is_true}

-- the kinds, computed once
abbrev counted : List ℕ
counted =
    3 ∷ 4 ∷ 5 ∷ 6 ∷ 33 ∷ 36 ∷ 38 ∷ 39 ∷ 45 ∷ 46 ∷ 53 ∷ 58 ∷ 59 ∷ 60 ∷ 61 ∷ 62 ∷ 63 ∷ 66 ∷ 73 ∷ 75 ∷ 77 ∷ 78 ∷ 83 ∷ 85 ∷ 86 ∷ 88 ∷ 89 ∷ 90 ∷ 91 ∷ 92 ∷
    95 ∷ 97 ∷ 98 ∷ 100 ∷ 103 ∷ 107 ∷ 112 ∷ 123 ∷ 129 ∷ 130 ∷ 131 ∷ 138 ∷ 143 ∷ 144 ∷ 146 ∷ 147 ∷ 9 ∷ 10 ∷ 11 ∷ 12 ∷ 13 ∷ 15 ∷ 16 ∷ 17 ∷ 18 ∷ 19 ∷
    20 ∷ 21 ∷ 22 ∷ 24 ∷ 25 ∷ 26 ∷ 27 ∷ 28 ∷ 29 ∷ []

told_is : told ≡ counted
unfolding spelling told
told_is = refl

abbrev kind_by : List ℕ → ℕ → ℕ
kind_by l k = cond (eqb k 1 || eqb k 2) identifier (place_among 2 k l)

by_told : (k : ℕ) → form_kind k ≡ kind_by told k
unfolding form_kind
by_told k = refl

by_counted : (k : ℕ) → form_kind k ≡ kind_by counted k
by_counted k = by_told k ∙ ap (λ (l : List ℕ). kind_by l k) told_is

-- up to the last kind
abbrev kind_count : ℕ
kind_count = length code.symbols_by_kind

within : (k : ℕ) → k < kind_count → kind_by counted k ≡ terminal_of k
unfolding terminal_of
within k h = eqb→eq (kind_by counted k) (terminal_of k) (below_at kind_count (λ k. eqb (kind_by counted k) (terminal_of k)) tt k h)

-- past it
past : (l : List Sym) (k : ℕ) → length l ≤ k → get_or l k other ≡ other
past [] k h = refl
past (s ∷ l) zero h = absurd (omega arith)
past (s ∷ l) (suc k) h = past l k (omega arith)

abbrev all_below : List ℕ → Bool
all_below [] = true
all_below (j ∷ l) = ltb j kind_count && all_below l

none_of_lem : (l : List ℕ) (n k : ℕ) → T (all_below l) → kind_count ≤ k → place_among n k l ≡ n + length l
none_of_lem [] n k h g = omega arith
none_of_lem (j ∷ l) n k h g =
    let b = ltb-true j kind_count (is_true (ltb j kind_count) (and_left (ltb j kind_count) (all_below l) h)) in
    rw (ne_eqb k j (λ z. omega arith)) (none_of_lem l (suc n) k (and_right (ltb j kind_count) (all_below l) h) g ∙ omega arith)

beyond : (k : ℕ) → kind_count ≤ k → kind_by counted k ≡ terminal_of k
unfolding terminal_of
beyond k h =
    let a = ne_eqb k 1 (λ z. omega arith) in
    let b = ne_eqb k 2 (λ z. omega arith) in
    rw (a, b) (none_of_lem counted 2 k tt h ∙ sym (ap number_of (past code.symbols_by_kind k h)))

pub form_kind_lem : (k : ℕ) → form_kind k ≡ terminal_of k
form_kind_lem k = by_counted k ∙ go (ltb k kind_count) refl
  where
    go : (b : Bool) → ltb k kind_count ≡ b → kind_by counted k ≡ terminal_of k
    go true e = within k (ltb-true k kind_count e)
    go false e = beyond k (ltb-false k kind_count e)
