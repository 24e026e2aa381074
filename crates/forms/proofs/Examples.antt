-- Worked examples: short files and their rows, and each refusal once, computed by the definitions. Assumes nothing.
use Prim.Native.Nat.{ℕ}
use mathlib.Core.Path.{◌≡◌, refl}
use mathlib.Core.Bool.{true, false}
use mathlib.Core.List.{List, [], ◌∷◌}
use Rattle.grammars.specs.code.Grammar.{Sym}
use Rattle.grammars.specs.code.Actions.{End, read, bad, stopped, spent, runs}
use Rattle.forms.specs.code.Kinds.{number_of, becomes, colon, identifier, integer, left_paren, minus, right_paren, semicolon, tick, word_architecture, word_begin, word_constant, word_end, word_is, word_loop, word_mod, word_of, word_package, word_process, word_range, word_subtype}
use Rattle.forms.specs.code.RuleNames.{constant, subtype}
use Rattle.forms.specs.Tree.{Row}
use Rattle.forms.specs.code.RuleActions.{State, Refusal, name_differs, too_deep, state_rows, does}
use Rattle.forms.specs.code.Reading.{reading_from, file_reading}
use Rattle.forms.specs.Closing.{element, named, closes_at, walk_over}

abbrev numbers : List Sym → List ℕ
numbers [] = []
numbers (s ∷ l) = number_of s ∷ numbers l

abbrev fives : List Row → List (List ℕ)
fives [] = []
fives (r ∷ rs) = (r.form ∷ r.first ∷ r.count ∷ r.rows ∷ r.operator ∷ []) ∷ fives rs

abbrev rows_in : End State Refusal → List (List ℕ)
rows_in (read s) = fives (state_rows s)
rows_in (bad k) = []
rows_in (stopped k r) = []
rows_in spent = []

-- a - b - d groups to the left: the first operator's row is the second's child
abbrev left_grouped_text : List Sym
left_grouped_text = word_package ∷ identifier ∷ word_is ∷ word_constant ∷ identifier ∷ colon ∷ identifier ∷ becomes ∷ identifier ∷ minus ∷ identifier ∷ minus ∷ identifier ∷ semicolon ∷ word_end ∷ identifier ∷ semicolon ∷ []

pub left_grouped : rows_in (file_reading (λ i j. true) (numbers left_grouped_text)) ≡ (1 ∷ 0 ∷ 17 ∷ 8 ∷ 0 ∷ []) ∷ (4 ∷ 3 ∷ 11 ∷ 7 ∷ 3 ∷ []) ∷ (31 ∷ 6 ∷ 1 ∷ 1 ∷ 6 ∷ []) ∷ (29 ∷ 8 ∷ 5 ∷ 5 ∷ 11 ∷ []) ∷ (29 ∷ 8 ∷ 3 ∷ 3 ∷ 9 ∷ []) ∷ (24 ∷ 8 ∷ 1 ∷ 1 ∷ 8 ∷ []) ∷ (24 ∷ 10 ∷ 1 ∷ 1 ∷ 10 ∷ []) ∷ (24 ∷ 12 ∷ 1 ∷ 1 ∷ 12 ∷ []) ∷ []
unfolding reading_from runs does
left_grouped = refl

-- -5 mod 3 is the sign over the whole term
abbrev sign_over_term_text : List Sym
sign_over_term_text = word_package ∷ identifier ∷ word_is ∷ word_constant ∷ identifier ∷ colon ∷ identifier ∷ becomes ∷ minus ∷ integer ∷ word_mod ∷ integer ∷ semicolon ∷ word_end ∷ identifier ∷ semicolon ∷ []

pub sign_over_term : rows_in (file_reading (λ i j. true) (numbers sign_over_term_text)) ≡ (1 ∷ 0 ∷ 16 ∷ 7 ∷ 0 ∷ []) ∷ (4 ∷ 3 ∷ 10 ∷ 6 ∷ 3 ∷ []) ∷ (31 ∷ 6 ∷ 1 ∷ 1 ∷ 6 ∷ []) ∷ (28 ∷ 8 ∷ 4 ∷ 4 ∷ 8 ∷ []) ∷ (29 ∷ 9 ∷ 3 ∷ 3 ∷ 10 ∷ []) ∷ (27 ∷ 9 ∷ 1 ∷ 1 ∷ 9 ∷ []) ∷ (27 ∷ 11 ∷ 1 ∷ 1 ∷ 11 ∷ []) ∷ []
unfolding reading_from runs does
sign_over_term = refl

-- a ( 1 ) ' range : each step of a name over the one before
abbrev postfix_text : List Sym
postfix_text = word_package ∷ identifier ∷ word_is ∷ word_constant ∷ identifier ∷ colon ∷ identifier ∷ becomes ∷ identifier ∷ left_paren ∷ integer ∷ right_paren ∷ tick ∷ word_range ∷ semicolon ∷ word_end ∷ identifier ∷ semicolon ∷ []

pub postfix : rows_in (file_reading (λ i j. true) (numbers postfix_text)) ≡ (1 ∷ 0 ∷ 18 ∷ 7 ∷ 0 ∷ []) ∷ (4 ∷ 3 ∷ 12 ∷ 6 ∷ 3 ∷ []) ∷ (31 ∷ 6 ∷ 1 ∷ 1 ∷ 6 ∷ []) ∷ (26 ∷ 8 ∷ 6 ∷ 4 ∷ 8 ∷ []) ∷ (25 ∷ 8 ∷ 4 ∷ 3 ∷ 8 ∷ []) ∷ (24 ∷ 8 ∷ 1 ∷ 1 ∷ 8 ∷ []) ∷ (27 ∷ 10 ∷ 1 ∷ 1 ∷ 10 ∷ []) ∷ []
unfolding reading_from runs does
postfix = refl

-- a closing name that differs: refusal 6 at it
abbrev closing_differs_text : List Sym
closing_differs_text = word_package ∷ identifier ∷ word_is ∷ word_constant ∷ identifier ∷ colon ∷ identifier ∷ becomes ∷ identifier ∷ semicolon ∷ word_end ∷ identifier ∷ semicolon ∷ []

pub closing_differs : file_reading (λ i j. false) (numbers closing_differs_text) ≡ stopped 12 name_differs
unfolding reading_from runs does
closing_differs = refl

-- the text ends early: refusal 5 at the count of its elements
abbrev ends_early_text : List Sym
ends_early_text = word_package ∷ identifier ∷ word_is ∷ word_constant ∷ identifier ∷ []

pub ends_early : file_reading (λ i j. true) (numbers ends_early_text) ≡ bad 5
unfolding reading_from runs does
ends_early = refl

-- no operand: refusal 5 at the semicolon
abbrev first_wrong_text : List Sym
first_wrong_text = word_package ∷ identifier ∷ word_is ∷ word_constant ∷ identifier ∷ colon ∷ identifier ∷ becomes ∷ semicolon ∷ word_end ∷ identifier ∷ semicolon ∷ []

pub first_wrong : file_reading (λ i j. true) (numbers first_wrong_text) ≡ bad 8
unfolding reading_from runs does
first_wrong = refl

-- a labelled loop: its label is its first child
abbrev labelled_text : List Sym
labelled_text = word_architecture ∷ identifier ∷ word_of ∷ identifier ∷ word_is ∷ word_begin ∷ word_process ∷ word_begin ∷ identifier ∷ colon ∷ word_loop ∷ word_end ∷ word_loop ∷ identifier ∷ semicolon ∷ word_end ∷ word_process ∷ semicolon ∷ word_end ∷ semicolon ∷ []

pub labelled : rows_in (file_reading (λ i j. true) (numbers labelled_text)) ≡ (3 ∷ 0 ∷ 20 ∷ 4 ∷ 0 ∷ []) ∷ (13 ∷ 6 ∷ 12 ∷ 3 ∷ 6 ∷ []) ∷ (20 ∷ 8 ∷ 7 ∷ 2 ∷ 8 ∷ []) ∷ (30 ∷ 8 ∷ 1 ∷ 1 ∷ 8 ∷ []) ∷ []
unfolding reading_from runs does
labelled = refl

-- which name closes what: the label l of the loop, the label p of the process, the name a of the architecture
abbrev closing_text : List Sym
closing_text =
    word_architecture ∷ identifier ∷ word_of ∷ identifier ∷ word_is ∷ word_begin
    ∷ identifier ∷ colon ∷ word_process ∷ word_begin
    ∷ identifier ∷ colon ∷ word_loop ∷ word_end ∷ word_loop ∷ identifier ∷ semicolon
    ∷ word_end ∷ word_process ∷ identifier ∷ semicolon
    ∷ word_end ∷ identifier ∷ semicolon ∷ []

pub closing : (closes_at (numbers closing_text) 15 ≡ named (element 10)) × (closes_at (numbers closing_text) 19 ≡ named (element 6)) × (closes_at (numbers closing_text) 22 ≡ named (element 1))
unfolding walk_over
closing = (refl, refl, refl)

-- 33 parentheses: refusal 7 at the last
abbrev too_many_open_text : List Sym
too_many_open_text = word_package ∷ identifier ∷ word_is ∷ word_constant ∷ identifier ∷ colon ∷ identifier ∷ becomes ∷ left_paren ∷ left_paren ∷ left_paren ∷ left_paren ∷ left_paren ∷ left_paren ∷ left_paren ∷ left_paren ∷ left_paren ∷ left_paren ∷ left_paren ∷ left_paren ∷ left_paren ∷ left_paren ∷ left_paren ∷ left_paren ∷ left_paren ∷ left_paren ∷ left_paren ∷ left_paren ∷ left_paren ∷ left_paren ∷ left_paren ∷ left_paren ∷ left_paren ∷ left_paren ∷ left_paren ∷ left_paren ∷ left_paren ∷ left_paren ∷ left_paren ∷ left_paren ∷ left_paren ∷ []

pub too_many_open : file_reading (λ i j. true) (numbers too_many_open_text) ≡ stopped 41 too_deep
unfolding reading_from runs does
too_many_open = refl

-- a constant by itself; a subtype by itself, which is no constant
abbrev constant_text : List Sym
constant_text = word_constant ∷ identifier ∷ colon ∷ identifier ∷ becomes ∷ minus ∷ integer ∷ semicolon ∷ []

pub constant_alone : rows_in (reading_from constant (λ i j. false) (numbers constant_text)) ≡ (4 ∷ 0 ∷ 8 ∷ 4 ∷ 0 ∷ []) ∷ (31 ∷ 3 ∷ 1 ∷ 1 ∷ 3 ∷ []) ∷ (28 ∷ 5 ∷ 2 ∷ 2 ∷ 5 ∷ []) ∷ (27 ∷ 6 ∷ 1 ∷ 1 ∷ 6 ∷ []) ∷ []
unfolding reading_from runs does
constant_alone = refl

abbrev subtype_text : List Sym
subtype_text = word_subtype ∷ identifier ∷ word_is ∷ identifier ∷ semicolon ∷ []

pub subtype_alone : rows_in (reading_from subtype (λ i j. false) (numbers subtype_text)) ≡ (5 ∷ 0 ∷ 5 ∷ 2 ∷ 0 ∷ []) ∷ (31 ∷ 3 ∷ 1 ∷ 1 ∷ 3 ∷ []) ∷ []
unfolding reading_from runs does
subtype_alone = refl

pub no_constant : reading_from constant (λ i j. false) (numbers subtype_text) ≡ bad 0
unfolding reading_from runs does
no_constant = refl
