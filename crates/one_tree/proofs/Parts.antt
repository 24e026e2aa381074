-- What strings of the rules' symbols read: a table of parts, and the computed test that a row of patterns is read by a string. It is the
-- rules' test of the forms turned about: there a rule's body is within a line, here a line is within what the rules read. Nothing in the
-- table is believed: each part is tested at each row that it claims. Assumes nothing.
use Prim.Native.Nat.{ℕ, zero, suc}
use mathlib.Core.Bool.{Bool, true, false, not, ◌&&◌, ◌||◌, cond}
use mathlib.Core.List.{List, [], ◌∷◌, ◌++◌}
use lib.Dec.{eqb}
use lib.ListN.{length, drop}
use Rattle.grammars.specs.code.Grammar.{Sym, tok, nt, act}
use Rattle.grammars.proofs.Check.{every, imp}
use Rattle.forms.specs.code.Kinds.{identifier, word_and, word_else, word_elsif, word_if, word_or, word_then, word_xnor, word_xor, at_most, left_paren, right_paren, colon, semicolon}
use Rattle.forms.specs.code.RuleNames as name
use Rattle.forms.specs.code.RuleNames.{opens, closes, marks, deeper, row}
use Rattle.forms.specs.code.Rules.{rules}
use Rattle.forms.specs.Spellings.{is_in}
use Rattle.forms.specs.FormLines.{operates, is_branch, sort, Pattern, nothing, one, operand, both, either, many, sorts, primaries, factors, terms, simples, relations, expressions, an_expression, form_line}
use Rattle.forms.specs.code.Shapes.{with_symbols, symbol}

-- A part: what the symbols `reads` read in an open frame is a row of one of the sorts `what`, and `leaves` is then still to be read. A part that
-- `begins` stands first in its frame; an `exact` one leaves the frame's operator as it was; `parens`: it reads any expression in
-- parentheses as well.
pub record Part : Type 0 where
  pub reads : List Sym
  pub leaves : List Sym
  pub begins : Bool
  pub exact : Bool
  pub parens : Bool
  pub what : List ℕ

-- a name, or a string, that adds a row to any frame
abbrev adds : List Sym → List ℕ → Part
adds α K = record { reads = α; leaves = []; begins = false; exact = true; parens = false; what = K }

-- a name that adds an operand
abbrev takes : Sym → List ℕ → Part
takes n K = record { reads = n ∷ []; leaves = []; begins = false; exact = true; parens = true; what = K }

-- a string that a frame begins with, and what it leaves of it after a row
abbrev starts : List Sym → List Sym → List ℕ → Part
starts α β K = record { reads = α; leaves = β; begins = true; exact = true; parens = false; what = K }

-- the same after an operator's row
abbrev grows : List Sym → List Sym → Bool → List ℕ → Part
grows α β p K = record { reads = α; leaves = β; begins = true; exact = false; parens = p; what = K }

abbrev branch : List Sym → List Sym
branch α = opens ∷ α ++ (name.sequentials ∷ row 17 ∷ closes ∷ [])

abbrev assigned : List Sym
assigned = at_most ∷ name.expression ∷ semicolon ∷ row 11 ∷ []

-- each may rely on those after it for the same row, and on all for the rows inside
abbrev pub parts : List Part
parts =
    adds (name.unit ∷ []) (sorts (1 ∷ 2 ∷ 3 ∷ []))
    ∷ adds (name.concurrent ∷ []) (sorts (11 ∷ 12 ∷ 13 ∷ []))
    ∷ adds (name.sequential ∷ []) (sorts (14 ∷ 15 ∷ 16 ∷ 18 ∷ 19 ∷ 20 ∷ 21 ∷ 22 ∷ 23 ∷ []))
    ∷ adds (branch (word_if ∷ deeper ∷ name.expression ∷ word_then ∷ [])) (with_symbols 17 (word_if ∷ []))
    ∷ adds (branch (word_elsif ∷ name.expression ∷ word_then ∷ [])) (with_symbols 17 (word_elsif ∷ []))
    ∷ adds (branch (word_else ∷ [])) (with_symbols 17 (word_else ∷ []))
    ∷ adds (name.constant ∷ []) (sorts (4 ∷ []))
    ∷ adds (name.subtype ∷ []) (sorts (5 ∷ []))
    ∷ adds (name.signal ∷ []) (sorts (6 ∷ []))
    ∷ adds (name.variable ∷ []) (sorts (7 ∷ []))
    ∷ adds (name.port ∷ []) (sorts (8 ∷ []))
    ∷ adds (name.alias ∷ []) (sorts (9 ∷ []))
    ∷ adds (name.range ∷ []) (sorts (10 ∷ []))
    ∷ adds (name.sensitive ∷ []) (sorts (24 ∷ []))
    ∷ adds (name.mark ∷ []) (sorts (31 ∷ []))
    ∷ adds (name.guard ∷ []) (sorts (32 ∷ []))
    ∷ adds (name.block_is ∷ []) (sorts (33 ∷ []))
    -- a statement's frame begins with its label or its target
    ∷ starts (identifier ∷ name.after_name ∷ []) (colon ∷ name.labelled_concurrent ∷ []) (sorts (30 ∷ []))
    ∷ starts (identifier ∷ name.after_first ∷ []) (colon ∷ name.labelled ∷ []) (sorts (30 ∷ []))
    ∷ starts (identifier ∷ name.after_name ∷ []) (name.target_rest ∷ assigned) (sorts (24 ∷ 25 ∷ []))
    ∷ starts (identifier ∷ name.after_name ∷ []) (name.target_tick ∷ assigned) (sorts (26 ∷ []))
    ∷ starts (identifier ∷ name.after_first ∷ []) (name.target_rest ∷ name.assignment ∷ []) (sorts (24 ∷ 25 ∷ []))
    ∷ starts (identifier ∷ name.after_first ∷ []) (name.target_tick ∷ name.assignment ∷ []) (sorts (26 ∷ []))
    -- operators by how they bind; chains leave their rest
    ∷ takes name.expression expressions
    ∷ grows (name.relation ∷ name.logic ∷ []) (name.and_chain ∷ []) false (with_symbols 29 (word_and ∷ []))
    ∷ grows (name.relation ∷ name.logic ∷ []) (name.or_chain ∷ []) false (with_symbols 29 (word_or ∷ []))
    ∷ grows (name.relation ∷ name.logic ∷ []) (name.xor_chain ∷ []) false (with_symbols 29 (word_xor ∷ []))
    ∷ grows (name.relation ∷ name.logic ∷ []) (name.xnor_chain ∷ []) false (with_symbols 29 (word_xnor ∷ []))
    ∷ grows (name.relation ∷ name.logic ∷ []) (name.logic ∷ []) true relations
    ∷ takes name.relation relations
    ∷ takes name.simple simples
    ∷ grows (name.first_term ∷ name.added ∷ []) (name.added ∷ []) true simples
    ∷ takes name.term terms
    ∷ grows (name.factor ∷ name.multiplied ∷ []) (name.multiplied ∷ []) true terms
    ∷ takes name.factor factors
    ∷ takes name.primary primaries
    ∷ starts (identifier ∷ row 24 ∷ name.name_rest ∷ []) (name.name_rest ∷ []) (sorts (24 ∷ 25 ∷ 26 ∷ []))
    ∷ []

-- symbols compared
abbrev pub same_sym : Sym → Sym → Bool
same_sym (tok a) (tok b) = eqb a b
same_sym (tok a) (nt b) = false
same_sym (tok a) (act b) = false
same_sym (nt a) (tok b) = false
same_sym (nt a) (nt b) = eqb a b
same_sym (nt a) (act b) = false
same_sym (act a) (tok b) = false
same_sym (act a) (nt b) = false
same_sym (act a) (act b) = eqb a b

abbrev pub same : List Sym → List Sym → Bool
same [] [] = true
same [] (t ∷ β) = false
same (s ∷ α) [] = false
same (s ∷ α) (t ∷ β) = same_sym s t && same α β

abbrev pub prefix : List Sym → List Sym → Bool
prefix [] β = true
prefix (s ∷ α) [] = false
prefix (s ∷ α) (t ∷ β) = same_sym s t && prefix α β

abbrev pub subset : List ℕ → List ℕ → Bool
subset [] l = true
subset (k ∷ m) l = is_in k l && subset m l

-- some rule of name n
abbrev pub some_rule : ℕ → List (ℕ × List Sym) → (List Sym → Bool) → Bool
some_rule n [] f = false
some_rule n (r ∷ rs) f =
    let h = f r.1 in
    let t = some_rule n rs f in
    (eqb r.0 n && h) || t

-- a pattern that may hold where the row's operator is of kind k
abbrev pub possible : ℕ → Pattern → Bool
possible k nothing = true
possible k (one zero K) = true
possible k (one (suc zero) K) = is_in k K
possible k (one (suc (suc t)) K) = true
possible k (operand S) = true
possible k (both a b) = possible k a && possible k b
possible k (either a b) = possible k a || possible k b
possible k (many a) = true

-- where the reading stands: before the frame is opened, at its beginning, or somewhere inside
pub data Where : Type 0 where
  before : Where
  fresh : Where
  within : Where

abbrev pub is_before : Where → Bool
is_before before = true
is_before fresh = false
is_before within = false

abbrev pub is_fresh : Where → Bool
is_fresh before = false
is_fresh fresh = true
is_fresh within = false

abbrev pub is_within : Where → Bool
is_within before = false
is_within fresh = false
is_within within = true

-- A test: where the reading stands; whether the frame's operator is right; the patterns to come; the symbols to come; those that shall be left
-- at the end, and whether the operator shall be right then.
abbrev pub Test : Type 0
Test = Where → Bool → List Pattern → List Sym → List Sym → Bool → Bool

-- Of a row whose kind that tells it further is k, c where that is its first element's; `es` are the parts that may be relied on.
module _ (es : List Part) (c : Bool) (k : ℕ) where
  -- the symbols alone go on
  abbrev pub turn : Test → Test
  turn s m b P [] μ x = false
  turn s m b P (tok a ∷ α) μ x = false
  turn s m b P (nt n ∷ α) μ x = some_rule n rules (λ β. s m b P (β ++ α) μ x)
  turn s m b P (act zero ∷ α) μ x = let r = s fresh b P α μ x in is_before m && r
  turn s m b P (act (suc zero) ∷ α) μ x = false
  turn s m b P (act (suc (suc zero)) ∷ α) μ x = false
  turn s m b P (act (suc (suc (suc zero))) ∷ α) μ x = s m b P α μ x
  turn s m b P (act (suc (suc (suc (suc zero)))) ∷ α) μ x = s m b P α μ x
  turn s m b P (act (suc (suc (suc (suc (suc zero))))) ∷ α) μ x = s m b P α μ x
  turn s m b P (act (suc (suc (suc (suc (suc (suc zero)))))) ∷ α) μ x = s m b P α μ x
  turn s m b P (act (suc (suc (suc (suc (suc (suc (suc f))))))) ∷ α) μ x = false

  -- an element of kind j is read, and one that is the operator
  abbrev pub eats : Test → ℕ → Test
  eats s j m b P [] μ x = false
  eats s j m b P (tok a ∷ α) μ x = let r = s within b P α μ x in not (is_before m) && (eqb a j && r)
  eats s j m b P (nt n ∷ α) μ x = false
  eats s j m b P (act a ∷ α) μ x = false

  abbrev pub marked : Test → ℕ → Test
  marked s j m b P [] μ x = false
  marked s j m b P (nt n ∷ α) μ x = false
  marked s j m b P (act a ∷ α) μ x = false
  marked s j m b P (tok a ∷ []) μ x = false
  marked s j m b P (tok a ∷ tok d ∷ α) μ x = false
  marked s j m b P (tok a ∷ nt n ∷ α) μ x = false
  marked s j m b P (tok a ∷ act d ∷ α) μ x = let r = s within true P α μ x in not (is_before m) && (same_sym (act d) marks && (eqb a j && r))

  -- a part reads what comes next
  abbrev pub taken : Test → Part → Test
  taken s p m b P α μ x =
      let r = s within (b && p.exact) P (p.leaves ++ drop (length p.reads) α) μ x in
      prefix p.reads α && (not (is_before m) && (imp p.begins (is_fresh m) && r))

  abbrev pub child_by : List Part → Test → ℕ → Test
  child_by [] s j m b P α μ x = false
  child_by (p ∷ ps) s j m b P α μ x =
      let r = taken s p m b P α μ x in
      let t = child_by ps s j m b P α μ x in
      (is_in j p.what && r) || t

  abbrev pub operand_by : List Part → Test → List ℕ → Test
  operand_by [] s S m b P α μ x = false
  operand_by (p ∷ ps) s S m b P α μ x =
      let r = taken s p m b P α μ x in
      let t = operand_by ps s S m b P α μ x in
      (p.parens && (subset S p.what && r)) || t

  -- an item of one class and one kind or sort
  abbrev pub item : Test → ℕ → ℕ → Test
  item s zero j m b P α μ x =
      let r = eats s j m b P α μ x in
      let t = turn s m b (one 0 (j ∷ []) ∷ P) α μ x in
      (c && (not (is_within m) && not (eqb k j))) || (r || t)
  item s (suc zero) j m b P α μ x =
      let r = marked s j m b P α μ x in
      let t = turn s m b (one 1 (j ∷ []) ∷ P) α μ x in
      not (eqb k j) || (r || t)
  item s (suc (suc i)) j m b P α μ x =
      let r = child_by es s j m b P α μ x in
      let t = turn s m b (one (suc (suc i)) (j ∷ []) ∷ P) α μ x in
      r || t

  abbrev pub items : Test → ℕ → List ℕ → Test
  items s t [] m b P α μ x = true
  items s t (j ∷ []) m b P α μ x = item s t j m b P α μ x
  items s t (j ∷ i ∷ K) m b P α μ x =
      let r = s m b (one t (i ∷ K) ∷ P) α μ x in
      item s t j m b P α μ x && r

  -- the sorts one by one
  abbrev pub apart : Test → List ℕ → Test
  apart s [] m b P α μ x = false
  apart s (j ∷ S) m b P α μ x =
      let r = s m b (operand S ∷ P) α μ x in
      s m b (one 2 (j ∷ []) ∷ P) α μ x && r

  -- a name whose rule reads the pattern once and the name again
  abbrev pub again : Test → Where → Bool → Pattern → List Sym → Bool
  again s m b p [] = false
  again s m b p (tok a ∷ α) = false
  again s m b p (act a ∷ α) = false
  again s m b p (nt n ∷ α) = let r = s within b (p ∷ []) (nt n ∷ []) (nt n ∷ []) b in is_within m && r

  abbrev pub step : Test → Test
  step s m b [] α μ x =
      let t = turn s m b [] α μ x in
      (not (is_before m) && (same α μ && imp x b)) || t
  step s m b (nothing ∷ P) α μ x = s m b P α μ x
  step s m b (one t K ∷ P) α μ x = items s t K m b P α μ x
  step s m b (operand S ∷ P) α μ x =
      let t = turn s m b (operand S ∷ P) α μ x in
      let r = apart s S m b P α μ x in
      operand_by es s S m b P α μ x || (t || r)
  step s m b (both p r ∷ P) α μ x = s m b (p ∷ r ∷ P) α μ x
  step s m b (either p r ∷ P) α μ x =
      let f = s m b (p ∷ P) α μ x in
      let g = s m b (r ∷ P) α μ x in
      imp (possible k p) f && imp (possible k r) g
  step s m b (many p ∷ P) α μ x =
      let f = s m b P α μ x in
      let g = again s m b p α in
      let t = turn s m b (many p ∷ P) α μ x in
      (g && f) || t

  -- at most n steps
  abbrev pub covers : ℕ → Test
  covers zero m b P α μ x = false
  covers (suc n) m b P α μ x = step (covers n) m b P α μ x

-- how many steps are enough
abbrev pub enough : ℕ
enough = 300

-- the action that puts a row of form f, so written that it computes for any f
abbrev pub puts : ℕ → Sym
puts f = act (suc (suc (suc (suc (suc (suc (suc f)))))))

-- A row of form f, told by k, is read by its line; or, as one item, by the parts after.
abbrev pub by_line : ℕ → ℕ → Part → Bool
by_line f k p =
    let r = covers parts (is_branch f) k enough fresh (not (operates f)) (form_line f ∷ []) p.reads (puts f ∷ p.leaves) true in
    let t = covers parts (is_branch f) k enough before (not (operates f)) (form_line f ∷ []) p.reads (puts f ∷ closes ∷ p.leaves) true in
    cond p.begins (imp p.exact (not (operates f)) && r) t

abbrev pub by_same : List Part → Part → Pattern → Bool
by_same es p o =
    let r = covers es false 0 enough fresh true (o ∷ []) p.reads p.leaves p.exact in
    let t = covers es false 0 enough within true (o ∷ []) p.reads p.leaves p.exact in
    let u = covers es false 0 enough before true (o ∷ []) p.reads (closes ∷ p.leaves) false in
    cond p.begins r (t || u)

abbrev pub row_ok : ℕ → ℕ → List Part → Bool
row_ok f k [] = true
row_ok f k (p ∷ ps) =
    let a = by_line f k p in
    let b = by_same ps p (one 2 (sort f k ∷ [])) in
    let t = row_ok f k ps in
    imp (is_in (sort f k) p.what) (b || a) && t

abbrev pub parens_ok : List Part → Bool
parens_ok [] = true
parens_ok (p ∷ ps) =
    let a = covers parts false 0 enough within true (symbol left_paren ∷ an_expression ∷ symbol right_paren ∷ []) p.reads p.leaves p.exact in
    let b = by_same ps p (operand []) in
    let t = parens_ok ps in
    imp p.parens (b || (not p.begins && a)) && t

-- the kinds that the operator may be of, where the pattern has one
abbrev pub operators : Pattern → List ℕ
operators nothing = []
operators (one zero K) = []
operators (one (suc zero) K) = K
operators (one (suc (suc t)) K) = []
operators (operand S) = []
operators (both a b) = operators a ++ operators b
operators (either a b) = operators a ++ operators b
operators (many a) = []

abbrev pub operating : Pattern → Bool
operating nothing = false
operating (one zero K) = false
operating (one (suc zero) K) = true
operating (one (suc (suc t)) K) = false
operating (operand S) = false
operating (both a b) = operating a || operating b
operating (either a b) = operating a && operating b
operating (many a) = false

-- the kinds that the first element may be of, where the pattern begins with one
abbrev pub leaders : Pattern → List ℕ
leaders nothing = []
leaders (one zero K) = K
leaders (one (suc t) K) = []
leaders (operand S) = []
leaders (both a b) = leaders a
leaders (either a b) = leaders a ++ leaders b
leaders (many a) = []

abbrev pub leading : Pattern → Bool
leading nothing = false
leading (one zero K) = true
leading (one (suc t) K) = false
leading (operand S) = false
leading (both a b) = leading a
leading (either a b) = leading a && leading b
leading (many a) = false

-- the kinds that may tell a row of form f
abbrev pub tellings : ℕ → List ℕ
tellings f = cond (operates f) (operators (form_line f)) (cond (is_branch f) (leaders (form_line f)) (0 ∷ []))

abbrev pub form_ok : ℕ → Bool
form_ok f = imp (operates f) (operating (form_line f)) && (imp (is_branch f) (leading (form_line f)) && every (λ k. row_ok f k parts) (tellings f))
