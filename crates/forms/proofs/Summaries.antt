-- What each name of the rules puts on the frame it finds, and the computed test of each rule by it: the rule's body, its actions carried
-- out on patterns instead of items. What the test means is said without any pattern but the lines (`Fit`). Assumes nothing.
use Prim.Native.Nat.{ℕ, zero, suc, ◌<◌}
use mathlib.Core.Path.{◌≡◌, refl, sym, ◌∙◌, ap, subst}
use mathlib.Core.Logic.{⊎_elim}
use mathlib.Core.Bool.{Bool, true, false, ◌&&◌, ◌||◌, cond}
use mathlib.Core.List.{List, [], ◌∷◌, ◌++◌, append_assoc, append-nil}
use lib.Dec.{T, eqb, eqb→eq}
use lib.ListN.{get_or}
use Rattle.grammars.specs.code.Grammar.{Sym, tok, nt, act}
use borrow.Author.Tests.{eq-eqb}
use Rattle.grammars.proofs.Theory.{and_left, and_right, or_cases, or_left}
use Rattle.grammars.proofs.Check.{below_at, imp}
use Rattle.forms.specs.code.Kinds.{identifier, word_and, word_architecture, word_downto, word_else, word_elsif, word_entity, word_in, word_inout, word_is, word_mod, word_or, word_out, word_package, word_range, word_rem, word_to, word_when, word_xnor, word_xor, not_equal, at_least, at_most, ampersand, star, plus, comma, minus, slash, colon, semicolon, less, equal, greater}
use Rattle.forms.specs.code.RuleNames.{name_number}
use Rattle.forms.specs.code.RuleNames as name
use Rattle.forms.specs.code.Rules.{forms, body}
use Rattle.forms.specs.Spellings.{is_in}
use Rattle.forms.specs.FormLines.{OwnItem, at, row, operates, is_branch, sort, Pattern, nothing, one, operand, both, either, many, rows, opt, seq, primaries, factors, terms, simples, relations, an_expression, leading_label, closing, bounded, declared, concurrents, sequentials, target, port_list, name_list, form_line, Fits, this}
use Rattle.forms.specs.code.Shapes.{with_symbols, symbol, one_of_symbols, branch_of_symbol}
use Rattle.forms.proofs.Patterns.{FitsAll, sub, sub_sound, single, alone, plain, plains, replain, replains, fits_append}

-- A name puts items after those of the frame that it finds, or turns all of the frame's items into others.
pub data Summary : Type 0 where
  adds : Pattern → Summary
  turns : Pattern → Pattern → Summary

abbrev a_label : Pattern
a_label = seq (rows (30 ∷ []) ∷ symbol colon ∷ [])

abbrev loops : Pattern
loops = rows (18 ∷ 19 ∷ 20 ∷ 21 ∷ 22 ∷ 23 ∷ [])

abbrev a_name : Pattern
a_name = rows (24 ∷ 25 ∷ 26 ∷ [])

-- name by name
abbrev summaries : List (Sym × Summary)
summaries =
    (name.file, adds (form_line 0))
    ∷ (name.units, adds (many (rows (1 ∷ 2 ∷ 3 ∷ []))))
    ∷ (name.unit, adds (rows (1 ∷ 2 ∷ 3 ∷ [])))
    ∷ (name.package_unit, adds (rows (1 ∷ [])))
    ∷ (name.package_declarations, adds (many (rows (4 ∷ 5 ∷ []))))
    ∷ (name.package_word, adds (opt (symbol word_package)))
    ∷ (name.closing, adds closing)
    ∷ (name.entity_unit, adds (rows (2 ∷ [])))
    ∷ (name.ports, adds port_list)
    ∷ (name.more_ports, adds (many (seq (symbol semicolon ∷ rows (8 ∷ []) ∷ []))))
    ∷ (name.entity_word, adds (opt (symbol word_entity)))
    ∷ (name.architecture_unit, adds (rows (3 ∷ [])))
    ∷ (name.declarations, adds declared)
    ∷ (name.architecture_word, adds (opt (symbol word_architecture)))
    ∷ (name.constant, adds (rows (4 ∷ [])))
    ∷ (name.subtype, adds (rows (5 ∷ [])))
    ∷ (name.subtype_range, adds (opt (seq (symbol word_range ∷ rows (10 ∷ []) ∷ []))))
    ∷ (name.signal, adds (rows (6 ∷ [])))
    ∷ (name.variable, adds (rows (7 ∷ [])))
    ∷ (name.bounds, adds bounded)
    ∷ (name.port, adds (rows (8 ∷ [])))
    ∷ (name.mode, adds (opt (one_of_symbols (word_in ∷ word_out ∷ word_inout ∷ []))))
    ∷ (name.alias, adds (rows (9 ∷ [])))
    ∷ (name.range, adds (rows (10 ∷ [])))
    ∷ (name.direction, adds (one_of_symbols (word_to ∷ word_downto ∷ [])))
    ∷ (name.concurrents, adds concurrents)
    ∷ (name.concurrent, adds (rows (11 ∷ 12 ∷ 13 ∷ [])))
    ∷ (name.after_name, turns (symbol identifier) (rows (11 ∷ 12 ∷ 13 ∷ [])))
    ∷ (name.labelled_concurrent, turns a_label (rows (12 ∷ 13 ∷ [])))
    ∷ (name.block, turns a_label (rows (12 ∷ [])))
    ∷ (name.process, turns leading_label (rows (13 ∷ [])))
    ∷ (name.sensitivity, adds name_list)
    ∷ (name.sensitive, adds (rows (24 ∷ [])))
    ∷ (name.more_sensitive, adds (many (seq (symbol comma ∷ rows (24 ∷ []) ∷ []))))
    ∷ (name.process_is, adds (opt (symbol word_is)))
    ∷ (name.process_declarations, adds (many (rows (4 ∷ 7 ∷ []))))
    ∷ (name.sequentials, adds sequentials)
    ∷ (name.sequential, adds (rows (14 ∷ 15 ∷ 16 ∷ 18 ∷ 19 ∷ 20 ∷ 21 ∷ 22 ∷ 23 ∷ [])))
    ∷ (name.after_first, turns (symbol identifier) (rows (14 ∷ 15 ∷ 18 ∷ 19 ∷ 20 ∷ 21 ∷ 22 ∷ 23 ∷ [])))
    ∷ (name.assignment, turns target (rows (14 ∷ 15 ∷ [])))
    ∷ (name.if, adds (rows (16 ∷ [])))
    ∷ (name.branches, adds (seq (many (branch_of_symbol word_elsif) ∷ opt (branch_of_symbol word_else) ∷ [])))
    ∷ (name.labelled, turns leading_label loops)
    ∷ (name.loop, turns leading_label (rows (18 ∷ 19 ∷ 20 ∷ [])))
    ∷ (name.next, turns leading_label (rows (21 ∷ [])))
    ∷ (name.exit, turns leading_label (rows (22 ∷ [])))
    ∷ (name.null, turns leading_label (rows (23 ∷ [])))
    ∷ (name.loop_name, adds (opt (symbol identifier)))
    ∷ (name.condition, adds (opt (seq (symbol word_when ∷ an_expression ∷ []))))
    ∷ (name.name, adds a_name)
    ∷ (name.name_rest, turns a_name a_name)
    ∷ (name.attribute, adds (one_of_symbols (identifier ∷ word_range ∷ [])))
    ∷ (name.target, turns (symbol identifier) target)
    ∷ (name.target_rest, turns target target)
    ∷ (name.target_tick, turns (rows (26 ∷ [])) target)
    ∷ (name.expression, adds an_expression)
    ∷ (name.logic, turns (operand relations) an_expression)
    ∷ (name.and_chain, turns (operand (with_symbols 29 (word_and ∷ []))) an_expression)
    ∷ (name.or_chain, turns (operand (with_symbols 29 (word_or ∷ []))) an_expression)
    ∷ (name.xor_chain, turns (operand (with_symbols 29 (word_xor ∷ []))) an_expression)
    ∷ (name.xnor_chain, turns (operand (with_symbols 29 (word_xnor ∷ []))) an_expression)
    ∷ (name.relation, adds (operand relations))
    ∷ (name.compared, turns (operand simples) (operand relations))
    ∷ (name.relational, adds (one_of_symbols (equal ∷ not_equal ∷ less ∷ at_most ∷ greater ∷ at_least ∷ [])))
    ∷ (name.simple, adds (operand simples))
    ∷ (name.first_term, turns nothing (operand simples))
    ∷ (name.sign, adds (one_of_symbols (plus ∷ minus ∷ [])))
    ∷ (name.added, turns (operand simples) (operand simples))
    ∷ (name.adding, adds (one_of_symbols (plus ∷ minus ∷ ampersand ∷ [])))
    ∷ (name.term, adds (operand terms))
    ∷ (name.multiplied, turns (operand terms) (operand terms))
    ∷ (name.multiplying, adds (one_of_symbols (star ∷ slash ∷ word_mod ∷ word_rem ∷ [])))
    ∷ (name.factor, adds (operand factors))
    ∷ (name.raised, turns (operand primaries) (operand factors))
    ∷ (name.primary, adds (operand primaries))
    ∷ (name.literal, adds (rows (27 ∷ [])))
    ∷ (name.label, turns (symbol identifier) a_label)
    ∷ (name.mark, adds (rows (31 ∷ [])))
    ∷ (name.guard, adds (opt (rows (32 ∷ []))))
    ∷ (name.block_is, adds (opt (rows (33 ∷ []))))
    ∷ []

abbrev summary_in : ℕ → List (Sym × Summary) → Summary
summary_in n [] = adds (one 0 [])
summary_in n (x ∷ l) = cond (eqb (name_number x.0) n) x.1 (summary_in n l)

abbrev pub summary_of : ℕ → Summary
summary_of n = summary_in n summaries

-- THE TEST. A stack of frames, each what its items are like, and the kinds of its operator, none as long as there is none.
abbrev Shape : Type 0
Shape = List Pattern × List ℕ

abbrev within : List Pattern → Pattern → Bool
within l p = sub 60 l (p ∷ [])

abbrev some : List ℕ → Bool
some [] = false
some (k ∷ l) = true

abbrev kinds_in : Pattern → List ℕ
kinds_in nothing = []
kinds_in (one zero K) = K
kinds_in (one (suc t) K) = []
kinds_in (operand S) = []
kinds_in (both a b) = []
kinds_in (either a b) = []
kinds_in (many a) = []

-- the kinds of the element just read, and the patterns with it as the operator
abbrev last_kinds : List Pattern → List ℕ
last_kinds [] = []
last_kinds (p ∷ []) = kinds_in p
last_kinds (p ∷ r ∷ l) = last_kinds (r ∷ l)

abbrev as_operator : List Pattern → List Pattern
as_operator [] = []
as_operator (p ∷ []) = one 1 (kinds_in p) ∷ []
as_operator (p ∷ r ∷ l) = p ∷ as_operator (r ∷ l)

abbrev sorts_of : ℕ → List ℕ → List ℕ
sorts_of f [] = []
sorts_of f (k ∷ K) = sort f k ∷ sorts_of f K

abbrev first_kinds : List Pattern → List ℕ
first_kinds [] = []
first_kinds (p ∷ l) = kinds_in p

-- the kinds that may tell the row further
abbrev tells : Bool → Bool → List Pattern → List ℕ → List ℕ
tells o c P K = cond o K (cond c (first_kinds P) (0 ∷ []))

abbrev made : ℕ → List Pattern → List ℕ → List ℕ
made f P K = sorts_of f (tells (operates f) (is_branch f) P K)

-- a frame that is all in view: any but the one that an adding name finds
abbrev seen : Bool → List Shape → Bool
seen b [] = b
seen b (x ∷ R) = true

abbrev on_summary : Summary → (Pattern → Bool) → (Pattern → Pattern → Bool) → Bool
on_summary (adds p) f g = f p
on_summary (turns p r) f g = g p r

abbrev row_test : Bool → ℕ → List Pattern → List ℕ → Bool
row_test o f P K = some (tells o (is_branch f) P K) && (cond o true (plain (form_line f)) && within P (form_line f))

-- Of a rule: b says whether its name turns the frame, o what the name leaves; P and K are the innermost frame's shape, R those of the frames
-- around it that the rule itself began.
abbrev ok : Bool → Pattern → List Pattern → List ℕ → List Shape → List Sym → Bool
ok b o P K [] [] = plain o && within P o
ok b o P K (X ∷ R) [] = false
ok b o P K R (tok a ∷ β) = ok b o (P ++ (one 0 (a ∷ []) ∷ [])) K R β
ok b o P K R (nt m ∷ β) =
    on_summary (summary_of m) (λ p. plain p && ok b o (P ++ (p ∷ [])) K R β)
    (λ p r. seen b R && (plain p && (plain r && (within P p && ok b o (r ∷ []) [] R β))))
ok b o P K R (act zero ∷ β) = ok b o [] [] ((P, K) ∷ R) β
ok b o P K [] (act (suc zero) ∷ β) = false
ok b o P K (X ∷ R) (act (suc zero) ∷ β) = plains P && ok b o (X.0 ++ P) X.1 R β
ok b o P K R (act (suc (suc zero)) ∷ β) = seen b R && (some (last_kinds P) && (plains P && ok b o (as_operator P) (last_kinds P) R β))
ok b o P K R (act (suc (suc (suc zero))) ∷ β) = ok b o P K R β
ok b o P K R (act (suc (suc (suc (suc zero)))) ∷ β) = ok b o P K R β
ok b o P K R (act (suc (suc (suc (suc (suc zero))))) ∷ β) = ok b o P K R β
ok b o P K R (act (suc (suc (suc (suc (suc (suc zero)))))) ∷ β) = ok b o P K R β
ok b o P K R (act (suc (suc (suc (suc (suc (suc (suc f))))))) ∷ β) = seen b R && (row_test (operates f) f P K && ok b o (one 2 (made f P K) ∷ []) K R β)

abbrev rule_ok : ℕ → Bool
rule_ok p = on_summary (summary_of (forms.lhs p)) (λ o. ok false o [] [] [] (body p)) (λ i o. plain i && ok true o (i ∷ []) [] [] (body p))

rules_ok : (p : ℕ) → p < forms.count → T (rule_ok p)
rules_ok p l = below_at forms.count rule_ok tt p l

-- WHAT THE TEST MEANS, said of items
abbrev on_summary_t : Summary → (Pattern → Type 0) → (Pattern → Pattern → Type 0) → Type 0
on_summary_t (adds p) f g = f p
on_summary_t (turns p r) f g = g p r

abbrev pub positive : ℕ → Bool
positive zero = false
positive (suc i) = true

-- the last item's element and one more, 0 if it is none
abbrev spot : OwnItem → ℕ
spot (at i) = suc i
spot (row s) = 0

abbrev pub last_at : List OwnItem → ℕ
last_at [] = 0
last_at (x ∷ []) = spot x
last_at (x ∷ y ∷ l) = last_at (y ∷ l)

-- the first item's
abbrev pub first_at : List OwnItem → ℕ
first_at [] = 0
first_at (x ∷ l) = spot x

last_append : (x y : List OwnItem) → T (positive (last_at y)) → last_at (x ++ y) ≡ last_at y
last_append [] y h = refl
last_append (a ∷ []) [] h = absurd h
last_append (a ∷ []) (b ∷ y) h = refl
last_append (a ∷ c ∷ x) y h = last_append (c ∷ x) y h

abbrev pub Around : Type 0
Around = List (List OwnItem × ℕ)

module _ (W : List ℕ) where
  abbrev pub kind_at : ℕ → ℕ
  kind_at zero = 0
  kind_at (suc i) = get_or W i 0

  -- what tells a row further, the frame's items being x and its operator q (its number and one more, or 0)
  abbrev pub telling_at : Bool → Bool → ℕ → List OwnItem → ℕ
  telling_at o c q x = cond o (kind_at q) (cond c (kind_at (first_at x)) 0)

  -- such a frame may get a row of form f
  abbrev pub RowOk : ℕ → ℕ → List OwnItem → Type 0
  RowOk f q x = T (imp (operates f) (positive q)) × (T (cond (operates f) true (imp (is_branch f) (positive (first_at x)))) × Fits W (cond (operates f) q 0) (form_line f) x)

module _ (W : List ℕ) (End : List OwnItem → Type 0) where
  -- With the items x and the operator q in the innermost frame and F in those around it: wherever α puts a row, that form's line is
  -- fit, and what is in the frame at the end is as it shall be.
  abbrev pub Fit : List OwnItem → ℕ → Around → List Sym → Type 0
  Fit x q F [] = End x
  Fit x q F (tok a ∷ α) = (i : ℕ) → get_or W i 0 ≡ a → Fit (x ++ (at i ∷ [])) q F α
  Fit x q F (nt n ∷ α) =
      on_summary_t (summary_of n) (λ p. (z : List OwnItem) → Fits W 0 p z → Fit (x ++ z) q F α)
      (λ p r. Fits W 0 p x × ((y : List OwnItem) (q' : ℕ) → Fits W 0 r y → Fit y q' F α))
  Fit x q F (act zero ∷ α) = Fit [] 0 ((x, q) ∷ F) α
  Fit x q [] (act (suc zero) ∷ α) = ⊥
  Fit x q (g ∷ F) (act (suc zero) ∷ α) = Fit (g.0 ++ x) g.1 F α
  Fit x q F (act (suc (suc zero)) ∷ α) = T (positive (last_at x)) × Fit x (last_at x) F α
  Fit x q F (act (suc (suc (suc zero))) ∷ α) = Fit x q F α
  Fit x q F (act (suc (suc (suc (suc zero)))) ∷ α) = Fit x q F α
  Fit x q F (act (suc (suc (suc (suc (suc zero))))) ∷ α) = Fit x q F α
  Fit x q F (act (suc (suc (suc (suc (suc (suc zero)))))) ∷ α) = Fit x q F α
  Fit x q F (act (suc (suc (suc (suc (suc (suc (suc f))))))) ∷ α) = RowOk W f q x × Fit (row (sort f (telling_at W (operates f) (is_branch f) q x)) ∷ []) q F α

  abbrev Marked : List ℕ → ℕ → Type 0
  Marked [] q = Unit {0}
  Marked (k ∷ K) zero = ⊥
  Marked (k ∷ K) (suc i) = T (is_in (get_or W i 0) (k ∷ K))

  inside_is : (q : ℕ) (l : List Pattern) (p : Pattern) (x : List OwnItem) → T (within l p) → FitsAll W q l x → Fits W q p x
  inside_is q l p x h f = alone W q p x (sub_sound W q 60 l (p ∷ []) x h f)

  is_in_one : (a : ℕ) → T (is_in a (a ∷ []))
  is_in_one a = or_left (eqb a a) false (subst T (sym (eq-eqb a a refl)) tt)

  -- the operator just marked
  record Operator (P : List Pattern) (x : List OwnItem) : Type 0 where
    pub told : T (positive (last_at x))
    pub marked : Marked (last_kinds P) (last_at x)
    pub fits : FitsAll W (last_at x) (as_operator P) x

  as_marked : (K : List ℕ) (i : ℕ) → T (is_in (get_or W i 0) K) → Marked K (suc i)
  as_marked [] i h = tt
  as_marked (k ∷ K) i h = h

  marked_one : (q : ℕ) (p : Pattern) (x : List OwnItem) → T (some (kinds_in p)) → Fits W q p x → Operator (p ∷ []) x
  marked_one q nothing x h f = absurd h
  marked_one q (one zero K) x h (this {x = at i} c m) =
      record { told = tt; marked = as_marked K i m; fits = single W (suc i) (one 1 K) (at i ∷ []) (this refl m) }
  marked_one q (one zero K) x h (this {x = row s} c m) = absurd c
  marked_one q (one (suc t) K) x h f = absurd h
  marked_one q (operand S) x h f = absurd h
  marked_one q (both a b) x h f = absurd h
  marked_one q (either a b) x h f = absurd h
  marked_one q (many a) x h f = absurd h

  marks_sound : (q : ℕ) (P : List Pattern) (x : List OwnItem) → T (some (last_kinds P)) → T (plains P) → FitsAll W q P x → Operator P x
  marks_sound q [] x h g f = absurd h
  marks_sound q (p ∷ []) x h g f = marked_one q p x h (alone W q p x f)
  marks_sound q (p ∷ r ∷ l) x h g f =
      let o = marks_sound q (r ∷ l) f.behind h (and_right (plain p) (plains (r ∷ l)) g) f.last in
      let z : last_at f.behind ≡ last_at x = sym (ap last_at f.is ∙ last_append f.before f.behind o.told) in
      record {
        told = subst (λ (i : ℕ). T (positive i)) z o.told;
        marked = subst (Marked (last_kinds (r ∷ l))) z o.marked;
        fits = subst (λ (i : ℕ). FitsAll W i (p ∷ as_operator (r ∷ l)) x) z (
            record {
              before = f.before;
              behind = f.behind;
              first = replain W q (last_at f.behind) p f.before (and_left (plain p) (plains (r ∷ l)) g) f.first;
              last = o.fits;
              is = f.is;
            });
      }

  -- the first element
  first_one : (q : ℕ) (p : Pattern) (x y : List OwnItem) → T (some (kinds_in p)) → Fits W q p x → T (positive (first_at (x ++ y))) × T (is_in (kind_at W (first_at (x ++ y))) (kinds_in p))
  first_one q nothing x y h f = absurd h
  first_one q (one zero K) x y h (this {x = at i} c m) = (tt, m)
  first_one q (one zero K) x y h (this {x = row s} c m) = absurd c
  first_one q (one (suc t) K) x y h f = absurd h
  first_one q (operand S) x y h f = absurd h
  first_one q (both a b) x y h f = absurd h
  first_one q (either a b) x y h f = absurd h
  first_one q (many a) x y h f = absurd h

  first_sound : (q : ℕ) (P : List Pattern) (x : List OwnItem) → T (some (first_kinds P)) → FitsAll W q P x → T (positive (first_at x)) × T (is_in (kind_at W (first_at x)) (first_kinds P))
  first_sound q [] x h f = absurd h
  first_sound q (p ∷ P) x h f =
      subst (λ (v : List OwnItem). T (positive (first_at v)) × T (is_in (kind_at W (first_at v)) (kinds_in p))) (sym f.is) (first_one q p f.before f.behind h f.first)

  told : (K : List ℕ) (q : ℕ) → T (some K) → Marked K q → T (positive q) × T (is_in (kind_at W q) K)
  told [] q h m = absurd h
  told (k ∷ K) zero h m = absurd m
  told (k ∷ K) (suc i) h m = (tt, m)

  -- the row just put
  row_sound : (f q : ℕ) (P : List Pattern) (K : List ℕ) (x : List OwnItem) → T (row_test (operates f) f P K) → Marked K q → FitsAll W q P x → RowOk W f q x
  row_sound f q P K x h m g = by (operates f) (is_branch f) (and_left (some A) B h) (and_left (cond (operates f) true (plain (form_line f))) (within P (form_line f)) (and_right (some A) B h))
    where
      A : List ℕ
      A = tells (operates f) (is_branch f) P K

      B : Bool
      B = cond (operates f) true (plain (form_line f)) && within P (form_line f)

      f₁ : Fits W q (form_line f) x
      f₁ = inside_is q P (form_line f) x (and_right (cond (operates f) true (plain (form_line f))) (within P (form_line f)) (and_right (some A) B h)) g

      by : (o c : Bool) → T (some (tells o c P K)) → T (cond o true (plain (form_line f))) → T (imp o (positive q)) × (T (cond o true (imp c (positive (first_at x)))) × Fits W (cond o q 0) (form_line f) x)
      by true c u v = ((told K q u m).0, (tt, f₁))
      by false true u v = (tt, ((first_sound q P x u g).0, replain W q 0 (form_line f) x v f₁))
      by false false u v = (tt, (tt, replain W q 0 (form_line f) x v f₁))

  sorts_in : (f t : ℕ) (K : List ℕ) → T (is_in t K) → T (is_in (sort f t) (sorts_of f K))
  sorts_in f t [] h = absurd h
  sorts_in f t (k ∷ K) h =
      ⊎_elim (λ z. or_left (eqb (sort f t) (sort f k)) (is_in (sort f t) (sorts_of f K)) (subst T (sym (eq-eqb (sort f t) (sort f k) (ap (sort f) (eqb→eq t k z)))) tt))
      (λ z. or_right (eqb (sort f t) (sort f k)) (is_in (sort f t) (sorts_of f K)) (sorts_in f t K z))
      (or_cases (eqb t k) (is_in t K) h)
    where
      or_right : (a b : Bool) → T b → T (a || b)
      or_right true b h = tt
      or_right false b h = h

  made_in : (f q : ℕ) (P : List Pattern) (K : List ℕ) (x : List OwnItem) → T (row_test (operates f) f P K) → Marked K q → FitsAll W q P x → T (is_in (sort f (telling_at W (operates f) (is_branch f) q x)) (made f P K))
  made_in f q P K x h m g =
      sorts_in f (telling_at W (operates f) (is_branch f) q x) (tells (operates f) (is_branch f) P K)
      (by (operates f) (is_branch f) (and_left (some (tells (operates f) (is_branch f) P K)) (cond (operates f) true (plain (form_line f)) && within P (form_line f)) h))
    where
      by : (o c : Bool) → T (some (tells o c P K)) → T (is_in (telling_at W o c q x) (tells o c P K))
      by true c u = (told K q u m).1
      by false true u = (first_sound q P x u g).1
      by false false u = is_in_one 0

  -- A frame: its items after those that were there before, as the test has them.
  record Topped (base x : List OwnItem) (q : ℕ) (P : List Pattern) (K : List ℕ) (Rest : Type 0) : Type 0 where
    pub items : List OwnItem
    pub is : x ≡ base ++ items
    pub fits : FitsAll W q P items
    pub marked : Marked K q
    pub rest : Rest

  -- a rule of a name that leaves o, in a frame with the items pre and the operator q₀, the frames around it being G
  module _ (b : Bool) (o : Pattern) (pre : List OwnItem) (q₀ : ℕ) (G : Around) (α : List Sym) (whole : T b → pre ≡ [])
      (goes : (z : List OwnItem) (q : ℕ) → cond b (Unit {0}) (q ≡ q₀) → Fits W 0 o z → Fit (pre ++ z) q G α) where
    abbrev Stands : List OwnItem → ℕ → Around → List Pattern → List ℕ → List Shape → Type 0
    Stands x q F P K [] = Topped pre x q P K (cond b (Unit {0}) (q ≡ q₀) × (F ≡ G))
    Stands x q [] P K (X ∷ R) = ⊥
    Stands x q (g ∷ F) P K (X ∷ R) = Topped [] x q P K (Stands g.0 g.1 F X.0 X.1 R)

    grown : (base x : List OwnItem) (q : ℕ) (P : List Pattern) (K : List ℕ) (A : Type 0) (p : Pattern) (z : List OwnItem) → Topped base x q P K A → Fits W q p z → Topped base (x ++ z) q (P ++ (p ∷ [])) K A
    grown base x q P K A p z t f =
        record {
          items = t.items ++ z;
          is = ap (λ (v : List OwnItem). v ++ z) t.is ∙ append_assoc base t.items z;
          fits = fits_append W q P (p ∷ []) t.items z t.fits (single W q p z f);
          marked = t.marked;
          rest = t.rest;
        }

    extend : (x : List OwnItem) (q : ℕ) (F : Around) (P : List Pattern) (K : List ℕ) (R : List Shape) (p : Pattern) (z : List OwnItem) → Stands x q F P K R → Fits W q p z → Stands (x ++ z) q F (P ++ (p ∷ [])) K R
    extend x q F P K [] p z t f = grown pre x q P K _ p z t f
    extend x q [] P K (X ∷ R) p z t f = absurd t
    extend x q (g ∷ F) P K (X ∷ R) p z t f = grown [] x q P K _ p z t f

    free : (c : Bool) (A : Type 0) → T c → cond c (Unit {0}) A
    free true A h = tt
    free false A h = absurd h

    replace : (x : List OwnItem) (q : ℕ) (F : Around) (P : List Pattern) (K : List ℕ) (R : List Shape) (y : List OwnItem) (q' : ℕ) (P' : List Pattern) (K' : List ℕ)
        → T (seen b R) → Stands x q F P K R → FitsAll W q' P' y → Marked K' q' → Stands y q' F P' K' R
    replace x q F P K [] y q' P' K' s t f m =
        record { items = y; is = sym (ap (λ (v : List OwnItem). v ++ y) (whole s)); fits = f; marked = m; rest = (free b (q' ≡ q₀) s, t.rest.1) }
    replace x q [] P K (X ∷ R) y q' P' K' s t f m = absurd t
    replace x q (g ∷ F) P K (X ∷ R) y q' P' K' s t f m = record { items = y; is = refl; fits = f; marked = m; rest = t.rest }

    all_fits_lem : (x : List OwnItem) (q : ℕ) (F : Around) (P : List Pattern) (K : List ℕ) (R : List Shape) → T (seen b R) → Stands x q F P K R → FitsAll W q P x
    all_fits_lem x q F P K [] s t = subst (FitsAll W q P) (sym (t.is ∙ ap (λ (v : List OwnItem). v ++ t.items) (whole s))) t.fits
    all_fits_lem x q [] P K (X ∷ R) s t = absurd t
    all_fits_lem x q (g ∷ F) P K (X ∷ R) s t = subst (FitsAll W q P) (sym t.is) t.fits

    all_marked : (x : List OwnItem) (q : ℕ) (F : Around) (P : List Pattern) (K : List ℕ) (R : List Shape) → Stands x q F P K R → Marked K q
    all_marked x q F P K [] t = t.marked
    all_marked x q [] P K (X ∷ R) t = absurd t
    all_marked x q (g ∷ F) P K (X ∷ R) t = t.marked

    joins : (y : List OwnItem) (q : ℕ) (F : Around) (P : List Pattern) (K : List ℕ) (R : List Shape) (x : List OwnItem) (q' : ℕ) (P' : List Pattern) → T (plains P') → FitsAll W q' P' x → Stands y q F P K R → Stands (y ++ x) q F (P ++ P') K R
    joins y q F P K [] x q' P' h f t =
        record { items = t.items ++ x; is = ap (λ (v : List OwnItem). v ++ x) t.is ∙ append_assoc pre t.items x; fits = fits_append W q P P' t.items x t.fits (replains W q' q P' x h f); marked = t.marked; rest = t.rest }
    joins y q [] P K (X ∷ R) x q' P' h f t = absurd t
    joins y q (g ∷ F) P K (X ∷ R) x q' P' h f t =
        record { items = t.items ++ x; is = ap (λ (v : List OwnItem). v ++ x) t.is; fits = fits_append W q P P' t.items x t.fits (replains W q' q P' x h f); marked = t.marked; rest = t.rest }

    fit_append : (β : List Sym) (x : List OwnItem) (q : ℕ) (F : Around) (P : List Pattern) (K : List ℕ) (R : List Shape) → Stands x q F P K R → T (ok b o P K R β) → Fit x q F (β ++ α)
    fit_append [] x q F P K [] t h =
        let z = t.items in
        let f = replain W q 0 o z (and_left (plain o) (within P o) h) (inside_is q P o z (and_right (plain o) (within P o) h) t.fits) in
        subst (λ (v : Around). Fit x q v α) (sym t.rest.1) (subst (λ (v : List OwnItem). Fit v q G α) (sym t.is) (goes z q t.rest.0 f))
    fit_append [] x q F P K (X ∷ R) t h = absurd h
    fit_append (tok a ∷ β) x q F P K R t h =
        λ i d. fit_append β (x ++ (at i ∷ [])) q F (P ++ (one 0 (a ∷ []) ∷ [])) K R
        (extend x q F P K R (one 0 (a ∷ [])) (at i ∷ []) t (this tt (subst (λ (v : ℕ). T (is_in v (a ∷ []))) (sym d) (is_in_one a)))) h
    fit_append (nt m ∷ β) x q F P K R t h = by (summary_of m) h (λ y r S L u v. fit_append β y r F S L R u v)
      where
        by : (u : Summary) → T (on_summary u (λ p. plain p && ok b o (P ++ (p ∷ [])) K R β) (λ p r. seen b R && (plain p && (plain r && (within P p && ok b o (r ∷ []) [] R β)))))
            → ((y : List OwnItem) (r : ℕ) (S : List Pattern) (L : List ℕ) → Stands y r F S L R → T (ok b o S L R β) → Fit y r F (β ++ α))
            → on_summary_t u (λ p. (z : List OwnItem) → Fits W 0 p z → Fit (x ++ z) q F (β ++ α)) (λ p r. Fits W 0 p x × ((y : List OwnItem) (q' : ℕ) → Fits W 0 r y → Fit y q' F (β ++ α)))
        by (adds p) h ih =
            λ z f. ih (x ++ z) q (P ++ (p ∷ [])) K (extend x q F P K R p z t (replain W 0 q p z (and_left (plain p) (ok b o (P ++ (p ∷ [])) K R β) h) f))
            (and_right (plain p) (ok b o (P ++ (p ∷ [])) K R β) h)
        by (turns p r) h ih =
            let E = ok b o (r ∷ []) [] R β in
            let h₁ = and_right (seen b R) (plain p && (plain r && (within P p && E))) h in
            let h₂ = and_right (plain p) (plain r && (within P p && E)) h₁ in
            let h₃ = and_right (plain r) (within P p && E) h₂ in
            let s = and_left (seen b R) (plain p && (plain r && (within P p && E))) h in (
              replain W q 0 p x (and_left (plain p) (plain r && (within P p && E)) h₁) (inside_is q P p x (and_left (within P p) E h₃) (all_fits_lem x q F P K R s t)),
              λ y q' f. ih y q' (r ∷ []) []
                  (replace x q F P K R y q' (r ∷ []) [] s t (single W q' r y (replain W 0 q' r y (and_left (plain r) (within P p && E) h₂) f)) tt) (and_right (within P p) E h₃),
            )
    fit_append (act zero ∷ β) x q F P K R t h = fit_append β [] 0 ((x, q) ∷ F) [] [] ((P, K) ∷ R) (record { items = []; is = refl; fits = refl; marked = tt; rest = t }) h
    fit_append (act (suc zero) ∷ β) x q F P K [] t h = absurd h
    fit_append (act (suc zero) ∷ β) x q [] P K (X ∷ R) t h = absurd t
    fit_append (act (suc zero) ∷ β) x q (g ∷ F) P K (X ∷ R) t h =
        fit_append β (g.0 ++ x) g.1 F (X.0 ++ P) X.1 R
        (joins g.0 g.1 F X.0 X.1 R x q P (and_left (plains P) (ok b o (X.0 ++ P) X.1 R β) h) (subst (FitsAll W q P) (sym t.is) t.fits) t.rest)
        (and_right (plains P) (ok b o (X.0 ++ P) X.1 R β) h)
    fit_append (act (suc (suc zero)) ∷ β) x q F P K R t h =
        let E = ok b o (as_operator P) (last_kinds P) R β in
        let s = and_left (seen b R) (some (last_kinds P) && (plains P && E)) h in
        let h₁ = and_right (seen b R) (some (last_kinds P) && (plains P && E)) h in
        let h₂ = and_right (some (last_kinds P)) (plains P && E) h₁ in
        let r = marks_sound q P x (and_left (some (last_kinds P)) (plains P && E) h₁) (and_left (plains P) E h₂) (all_fits_lem x q F P K R s t) in
        (r.told, fit_append β x (last_at x) F (as_operator P) (last_kinds P) R (replace x q F P K R x (last_at x) (as_operator P) (last_kinds P) s t r.fits r.marked) (and_right (plains P) E h₂))
    fit_append (act (suc (suc (suc zero))) ∷ β) x q F P K R t h = fit_append β x q F P K R t h
    fit_append (act (suc (suc (suc (suc zero)))) ∷ β) x q F P K R t h = fit_append β x q F P K R t h
    fit_append (act (suc (suc (suc (suc (suc zero))))) ∷ β) x q F P K R t h = fit_append β x q F P K R t h
    fit_append (act (suc (suc (suc (suc (suc (suc zero)))))) ∷ β) x q F P K R t h = fit_append β x q F P K R t h
    fit_append (act (suc (suc (suc (suc (suc (suc (suc f))))))) ∷ β) x q F P K R t h =
        let E = ok b o (one 2 (made f P K) ∷ []) K R β in
        let s = and_left (seen b R) (row_test (operates f) f P K && E) h in
        let h₁ = and_right (seen b R) (row_test (operates f) f P K && E) h in
        let u = and_left (row_test (operates f) f P K) E h₁ in
        let m = all_marked x q F P K R t in
        let g = all_fits_lem x q F P K R s t in
        let y : List OwnItem = row (sort f (telling_at W (operates f) (is_branch f) q x)) ∷ [] in (
          row_sound f q P K x u m g,
          fit_append β y q F (one 2 (made f P K) ∷ []) K R
              (replace x q F P K R y q (one 2 (made f P K) ∷ []) K s t (single W q (one 2 (made f P K)) y (this tt (made_in f q P K x u m g))) m) (and_right (row_test (operates f) f P K) E h₁),
        )

  -- a name taken for one of its rules
  pub fit_grow : (p : ℕ) → p < forms.count → (n : ℕ) → forms.lhs p ≡ n → (x : List OwnItem) (q : ℕ) (F : Around) (α : List Sym) → Fit x q F (nt n ∷ α) → Fit x q F (body p ++ α)
  fit_grow p l n d x q F α = by (summary_of n) (subst (λ (i : ℕ). T (on_summary (summary_of i) (λ o. ok false o [] [] [] (body p)) (λ i o. plain i && ok true o (i ∷ []) [] [] (body p)))) d (rules_ok p l))
    where
      by : (u : Summary) → T (on_summary u (λ o. ok false o [] [] [] (body p)) (λ i o. plain i && ok true o (i ∷ []) [] [] (body p)))
          → on_summary_t u (λ p. (z : List OwnItem) → Fits W 0 p z → Fit (x ++ z) q F α) (λ p r. Fits W 0 p x × ((y : List OwnItem) (q' : ℕ) → Fits W 0 r y → Fit y q' F α)) → Fit x q F (body p ++ α)
      by (adds o) h g =
          fit_append false o x q F α (λ z. absurd z) (λ z q' d f. subst (λ (v : ℕ). Fit (x ++ z) v F α) (sym d) (g z f)) (body p) x q F [] [] []
          (record { items = []; is = sym (append-nil x); fits = refl; marked = tt; rest = (refl, refl) }) h
      by (turns i o) h g =
          fit_append true o [] q F α (λ z. refl) (λ z q' d f. g.1 z q' f) (body p) x q F (i ∷ []) [] []
          (record { items = x; is = refl; fits = single W q i x (replain W 0 q i x (and_left (plain i) (ok true o (i ∷ []) [] [] (body p)) h) g.0); marked = tt; rest = (tt, refl) }) (and_right (plain i) (ok true o (i ∷ []) [] [] (body p)) h)
