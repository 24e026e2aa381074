-- What the tests say of a row: it is read by every part that claims its sort. Assumes nothing.
use Prim.Native.Nat.{ℕ, zero, suc, ◌+◌, ◌-◌, ◌<◌}
use mathlib.Core.Path.{◌≡◌, refl, sym, ◌∙◌, ap, subst}
use mathlib.Core.Logic.{⊎_elim}
use mathlib.Core.Bool.{Bool, true, false, not, ◌&&◌, ◌||◌, cond}
use mathlib.Core.List.{List, [], ◌∷◌, ◌++◌}
use native.Mathlib.Omega.{arith}
use lib.Dec.{T, eqb, ltb, eqb→eq, ltb→lt, nltb→le}
use lib.ListN.{get_or, length, get_or-eq_default}
use borrow.Author.Tests.{eq-eqb}
use Rattle.grammars.specs.code.Actions.{acts}
use Rattle.grammars.proofs.Theory.{and_left, and_right, or_cases, or_left, mem, mem_left, mem_right}
use Rattle.grammars.proofs.Check.{below_at, every, every_at, imp, imp_at}
use Rattle.forms.specs.code.Kinds.{left_paren, right_paren}
use Rattle.forms.specs.code.RuleNames.{closes}
use Rattle.forms.specs.Tree.{Row}
use Rattle.forms.specs.Spellings.{is_in}
use Rattle.forms.specs.FormLines.{operates, is_branch, sort, Pattern, nothing, one, operand, both, either, many, an_expression, lines, form_line, telling, sort_of, operator_at}
use Rattle.forms.specs.code.Shapes.{symbol}
use Rattle.one_tree.specs.Trees.{ElseFirst}
use Rattle.one_tree.proofs.Free.{Frame, frame, row_over, Frees}
use Rattle.one_tree.proofs.Parts.{Part, parts, before, fresh, within, covers, enough, puts, by_line, by_same, row_ok, parens_ok, operators, operating, leaders, leading, tellings, form_ok}
use Rattle.one_tree.proofs.Covers.{or_right, Laid, element, child, then, left, right, Does, Holds, Parens, Lies, All, alone, covers_sound}

forms_ok : (f : ℕ) → f < length lines → T (form_ok f)
forms_ok f l = below_at (length lines) form_ok tt f l

parens_ok_lem : T (parens_ok parts)
parens_ok_lem = tt

-- a row by its columns
pub same_row : (r : Row) (a c n : ℕ) → r.first ≡ a → c ≡ r.count → r.rows ≡ n → ◌≡◌ {A = Row} (record { form = r.form; first = a; count = c; rows = n; operator = r.operator }) r
same_row r a c n e d f = rw (sym e, d, sym f)

row_over_lem : (r : Row) (lo hi o : ℕ) (inside : List Row) → r.first ≡ lo → r.first + r.count ≡ hi → r.rows ≡ length inside + 1 → o ≡ r.operator → row_over r.form hi (frame lo o inside) ≡ r
row_over_lem r lo hi o inside a b c d =
    let y : hi - lo ≡ r.count = omega arith in
    ap (λ (x : ℕ). row_over r.form hi (frame lo x inside)) d ∙ same_row r lo (hi - lo) (length inside + 1) a y c

module _ (W : List ℕ) (t : List Frame) where
  -- a part that reads some patterns in the frame it finds
  plain_does : (es : List Part) (P : List Pattern) (p : Part) → T (not p.begins) → T (covers es false 0 enough within true P p.reads p.leaves p.exact)
      → (lo hi : ℕ) (l : List Row) → All W t es 0 P lo hi l → Does W t p lo hi l
  plain_does es P p n h lo hi l f =
      λ a o z β fs st g. covers_sound W t es 0 false 0 o lo (λ i d. absurd (omega arith)) (λ y. absurd y) enough within true P p.reads p.leaves p.exact h lo hi l f a o z β fs tt (λ _. refl) g

  -- what one item's parts give of another part
  same_does : (es : List Part) (p : Part) (i : Pattern) → T (by_same es p i) → (lo hi : ℕ) (l : List Row) → Lies W t es 0 i lo hi l → Does W t p lo hi l
  same_does es p i h lo hi l f = by p.begins refl h
    where
      A : Bool
      A = covers es false 0 enough fresh true (i ∷ []) p.reads p.leaves p.exact

      B : Bool
      B = covers es false 0 enough within true (i ∷ []) p.reads p.leaves p.exact

      C : Bool
      C = covers es false 0 enough before true (i ∷ []) p.reads (closes ∷ p.leaves) false

      by : (b : Bool) → p.begins ≡ b → T (cond b A (B || C)) → Does W t p lo hi l
      by true d h =
          λ a o z β fs st g.
          let st' = st (subst T (sym d) tt) in
          covers_sound W t es 0 false 0 o lo (λ i d. absurd (omega arith)) (λ y. absurd y) enough fresh true (i ∷ []) p.reads p.leaves p.exact h lo hi l (alone W t es 0 i lo hi l f)
          a o z β fs (refl, st'.0, st'.1, st'.2) (λ _. refl) g
      by false d h =
          ⊎_elim (λ y. plain_does es (i ∷ []) p (subst (λ (b : Bool). T (not b)) (sym d) tt) y lo hi l (alone W t es 0 i lo hi l f))
          (λ y a o z β fs st g.
          covers_sound W t es 0 false 0 lo lo (λ i d. absurd (omega arith)) (λ y. absurd y) enough before true (i ∷ []) p.reads (closes ∷ p.leaves) false y lo hi l (alone W t es 0 i lo hi l f)
          lo lo [] β (frame a o z ∷ fs) (refl, refl, refl, refl) (λ _. refl) (λ o' _. acts refl (g o (λ _. refl))))
          (or_cases B C h)

  -- an expression in parentheses
  pub parens_hold : (lo hi : ℕ) (l : List Row) → All W t parts 0 (symbol left_paren ∷ an_expression ∷ symbol right_paren ∷ []) lo hi l → Parens W t parts lo hi l
  parens_hold lo hi l f = go parts parens_ok_lem
    where
      go : (ps : List Part) → T (parens_ok ps) → Parens W t ps lo hi l
      go [] h = tt
      go (p ∷ ps) h =
          let A = covers parts false 0 enough within true (symbol left_paren ∷ an_expression ∷ symbol right_paren ∷ []) p.reads p.leaves p.exact in
          let B = by_same ps p (operand []) in
          let rest = go ps (and_right (imp p.parens (B || (not p.begins && A))) (parens_ok ps) h) in (
            (λ y. ⊎_elim (λ z. same_does ps p (operand []) z lo hi l (Laid.inside rest))
                (λ z. plain_does parts (symbol left_paren ∷ an_expression ∷ symbol right_paren ∷ []) p (and_left (not p.begins) A z) (and_right (not p.begins) A z) lo hi l f)
                (or_cases B (not p.begins && A) (imp_at p.parens (B || (not p.begins && A)) (and_left (imp p.parens (B || (not p.begins && A))) (parens_ok ps) h) y))),
            rest,
          )

  -- A row, the rows inside it laid as its line says.
  module _ (r : Row) (lo hi : ℕ) (inside : List Row) (first : r.first ≡ lo) (end : r.first + r.count ≡ hi) (size : r.rows ≡ length inside + 1) (column : ElseFirst r)
      (laid : Lies W t parts (operator_at r) (form_line r.form) lo hi inside) where
    abbrev k : ℕ
    k = telling W r

    told : (i : ℕ) → suc i ≡ operator_at r → (get_or W i 0 ≡ k) × (i ≡ r.operator)
    told i d = by (operates r.form) d
      where
        by : (o : Bool) → suc i ≡ cond o (suc r.operator) 0 → (get_or W i 0 ≡ cond o (get_or W r.operator 0) (cond (is_branch r.form) (get_or W r.first 0) 0)) × (i ≡ r.operator)
        by true d = let y : i ≡ r.operator = omega arith in (ap (λ (x : ℕ). get_or W x 0) y, y)
        by false d = absurd (omega arith)

    opened : T (is_branch r.form) → get_or W lo 0 ≡ k
    opened h =
        subst (λ (x : ℕ). get_or W lo 0 ≡ cond (operates x) (get_or W r.operator 0) (cond (is_branch x) (get_or W r.first 0) 0)) (sym (eqb→eq r.form 17 h)) (ap (λ (x : ℕ). get_or W x 0) (sym first))

    unmarked : T (not (operates r.form)) → r.operator ≡ lo
    unmarked h = by (operates r.form) h column ∙ first
      where
        by : (o : Bool) → T (not o) → cond o (Unit {0}) (r.operator ≡ r.first) → r.operator ≡ r.first
        by true h c = absurd h
        by false h c = c

    line_does : (p : Part) → T (by_line r.form k p) → Does W t p lo hi (r ∷ inside)
    line_does p h = by p.begins refl h
      where
        A : Bool
        A = covers parts (is_branch r.form) k enough fresh (not (operates r.form)) (form_line r.form ∷ []) p.reads (puts r.form ∷ p.leaves) true

        B : Bool
        B = covers parts (is_branch r.form) k enough before (not (operates r.form)) (form_line r.form ∷ []) p.reads (puts r.form ∷ closes ∷ p.leaves) true

        by : (b : Bool) → p.begins ≡ b → T (cond b (imp p.exact (not (operates r.form)) && A) B) → Does W t p lo hi (r ∷ inside)
        by true d h =
            λ a o z β fs st g.
            let st' = st (subst T (sym d) tt) in
            let E = imp p.exact (not (operates r.form)) in
            covers_sound W t parts (operator_at r) (is_branch r.form) k r.operator lo told opened enough fresh (not (operates r.form)) (form_line r.form ∷ []) p.reads (puts r.form ∷ p.leaves) true
            (and_right E A h) lo hi inside (alone W t parts (operator_at r) (form_line r.form) lo hi inside laid) a o z β fs (refl, st'.0, st'.1, st'.2) (λ n. st'.1 ∙ sym (unmarked n))
            (λ o' n. acts refl (subst (λ (y : List Frame). Frees W t (p.leaves ++ β) hi y) (rowed a o' z fs st'.0 st'.2 (n tt)) (g r.operator (λ x. unmarked (imp_at p.exact (not (operates r.form)) (and_left E A h) x) ∙ sym st'.1))))
          where
            rowed : (a o : ℕ) (z : List Row) (fs : List Frame) → a ≡ lo → z ≡ [] → o ≡ r.operator
                → ◌≡◌ {A = List Frame} (frame a r.operator (z ++ (r ∷ inside)) ∷ fs) (frame a o (row_over r.form hi (frame a o (z ++ inside)) ∷ (z ++ inside)) ∷ fs)
            rowed a o z fs e₁ e₂ e₃ = rw (e₁, e₂, e₃, row_over_lem r lo hi r.operator inside first end size refl)
        by false d h =
            λ a o z β fs st g.
            covers_sound W t parts (operator_at r) (is_branch r.form) k r.operator lo told opened enough before (not (operates r.form)) (form_line r.form ∷ []) p.reads (puts r.form ∷ closes ∷ p.leaves) true
            h lo hi inside (alone W t parts (operator_at r) (form_line r.form) lo hi inside laid) lo lo [] β (frame a o z ∷ fs) (refl, refl, refl, refl) (λ n. sym (unmarked n))
            (λ o' n. acts refl (acts refl (subst (λ (y : Row). Frees W t (p.leaves ++ β) hi (frame a o (z ++ (y ∷ inside)) ∷ fs)) (sym (row_over_lem r lo hi o' inside first end size (n tt))) (g o (λ _. refl)))))

    rows_hold : (ps : List Part) → T (row_ok r.form k ps) → Holds W t ps (sort r.form k) lo hi (r ∷ inside)
    rows_hold [] h = tt
    rows_hold (p ∷ ps) h =
        let s = sort r.form k in
        let A = by_line r.form k p in
        let B = by_same ps p (one 2 (s ∷ [])) in
        let E = imp (is_in s p.what) (B || A) in
        let rest = rows_hold ps (and_right E (row_ok r.form k ps) h) in (
          (λ y. ⊎_elim (λ z. same_does ps p (one 2 (s ∷ [])) z lo hi (r ∷ inside) (child s tt (or_left (eqb s s) false (subst T (sym (eq-eqb s s refl)) tt)) rest)) (line_does p)
              (or_cases B A (imp_at (is_in s p.what) (B || A) (and_left E (row_ok r.form k ps) h) y))),
          rest,
        )

  -- the kind that tells a row is one that its line allows
  in_mem : (x : ℕ) (l : List ℕ) → T (is_in x l) → T (mem x l)
  in_mem x [] h = h
  in_mem x (y ∷ l) h = ⊎_elim (λ z. or_left (eqb x y) (mem x l) z) (λ z. or_right (eqb x y) (mem x l) (in_mem x l z)) (or_cases (eqb x y) (is_in x l) h)

  operator_in : (q : ℕ) (p : Pattern) {lo hi : ℕ} {l : List Row} → T (operating p) → Lies W t parts q p lo hi l → (i : ℕ) × ((suc i ≡ q) × T (mem (get_or W i 0) (operators p)))
  operator_in q nothing h g = absurd h
  operator_in q (one zero K) h g = absurd h
  operator_in q (one (suc zero) K) h (element {lo = lo} a b c d m) = (lo, (d, in_mem (get_or W lo 0) K m))
  operator_in q (one (suc zero) K) h (child s c m y) = absurd c
  operator_in q (one (suc (suc j)) K) h g = absurd h
  operator_in q (operand S) h g = absurd h
  operator_in q (both a b) h (then mid l m x y d) =
      ⊎_elim (λ z. let i = operator_in q a z x in (i.0, (i.1.0, mem_left (get_or W i.0 0) (operators a) (operators b) i.1.1)))
      (λ z. let i = operator_in q b z y in (i.0, (i.1.0, mem_right (get_or W i.0 0) (operators a) (operators b) i.1.1)))
      (or_cases (operating a) (operating b) h)
  operator_in q (either a b) h (left x) = let i = operator_in q a (and_left (operating a) (operating b) h) x in (i.0, (i.1.0, mem_left (get_or W i.0 0) (operators a) (operators b) i.1.1))
  operator_in q (either a b) h (right x) = let i = operator_in q b (and_right (operating a) (operating b) h) x in (i.0, (i.1.0, mem_right (get_or W i.0 0) (operators a) (operators b) i.1.1))
  operator_in q (many a) h g = absurd h

  leader_in : (q : ℕ) (p : Pattern) {lo hi : ℕ} {l : List Row} → T (leading p) → Lies W t parts q p lo hi l → T (mem (get_or W lo 0) (leaders p))
  leader_in q nothing h g = absurd h
  leader_in q (one zero K) {lo = lo} h (element a b c d m) = in_mem (get_or W lo 0) K m
  leader_in q (one zero K) h (child s c m y) = absurd c
  leader_in q (one (suc j) K) h g = absurd h
  leader_in q (operand S) h g = absurd h
  leader_in q (both a b) h (then mid l m x y d) = leader_in q a h x
  leader_in q (either a b) {lo = lo} h (left x) = mem_left (get_or W lo 0) (leaders a) (leaders b) (leader_in q a (and_left (leading a) (leading b) h) x)
  leader_in q (either a b) {lo = lo} h (right x) = mem_right (get_or W lo 0) (leaders a) (leaders b) (leader_in q b (and_right (leading a) (leading b) h) x)
  leader_in q (many a) h g = absurd h

  no_line : (q : ℕ) {lo hi : ℕ} {l : List Row} → Lies W t parts q (one 0 []) lo hi l → ⊥
  no_line q (element a b c d m) = m
  no_line q (child s c m y) = m

  known_form : (g q : ℕ) {lo hi : ℕ} {l : List Row} → Lies W t parts q (form_line g) lo hi l → g < length lines
  known_form g q {lo = lo} {hi = hi} {l = l} h = by (ltb g (length lines)) refl
    where
      by : (b : Bool) → ltb g (length lines) ≡ b → g < length lines
      by true d = ltb→lt g (length lines) (subst T (sym d) tt)
      by false d =
          absurd (no_line q (subst (λ (p : Pattern). Lies W t parts q p lo hi l) (get_or-eq_default lines (one 0 []) (nltb→le g (length lines) (subst (λ (b : Bool). T (not b)) (sym d) tt))) h))

  -- a row is read by every part that claims its sort
  pub row_holds : (r : Row) (lo hi : ℕ) (inside : List Row) → r.first ≡ lo → r.first + r.count ≡ hi → r.rows ≡ length inside + 1 → ElseFirst r
      → Lies W t parts (operator_at r) (form_line r.form) lo hi inside → Holds W t parts (sort_of W r) lo hi (r ∷ inside)
  row_holds r lo hi inside a b c d h =
      let f = r.form in
      let A = imp (operates f) (operating (form_line f)) in
      let B = imp (is_branch f) (leading (form_line f)) in
      let C = every (λ k. row_ok f k parts) (tellings f) in
      let ok = forms_ok f (known_form f (operator_at r) h) in
      let ok₁ = and_right A (B && C) ok in
      rows_hold r lo hi inside a b c d h parts
      (every_at (λ k. row_ok f k parts) (tellings f) (and_right B C ok₁) (telling W r) (by (operates f) (is_branch f) (and_left A (B && C) ok) (and_left B C ok₁)
      (λ o. operator_in (operator_at r) (form_line f) o h) (λ o. subst (λ (x : ℕ). T (mem (get_or W x 0) (leaders (form_line f)))) (sym a) (leader_in (operator_at r) (form_line f) o h)) refl))
    where
      by : (o j : Bool) → T (imp o (operating (form_line r.form))) → T (imp j (leading (form_line r.form)))
          → (T (operating (form_line r.form)) → (i : ℕ) × ((suc i ≡ operator_at r) × T (mem (get_or W i 0) (operators (form_line r.form)))))
          → (T (leading (form_line r.form)) → T (mem (get_or W r.first 0) (leaders (form_line r.form))))
          → operates r.form ≡ o
          → T (mem (cond o (get_or W r.operator 0) (cond j (get_or W r.first 0) 0)) (cond o (operators (form_line r.form)) (cond j (leaders (form_line r.form)) (0 ∷ []))))
      by true j u v x y symbol =
          let i = x u in
          let z : suc i.0 ≡ suc r.operator = i.1.0 ∙ ap (λ (o : Bool). cond o (suc r.operator) 0) symbol in
          let z₁ : i.0 ≡ r.operator = omega arith in
          subst (λ (n : ℕ). T (mem (get_or W n 0) (operators (form_line r.form)))) z₁ i.1.1
      by false true u v x y symbol = y v
      by false false u v x y symbol = tt
