-- The forms of the strict reading (01, "Forms of the strict reading"), a rule to a line, in the order of 01's table: what it names, and
-- what that reads, in order. A name with several rules reads what any of them does; an empty rule reads nothing.
-- Assumes nothing: these are definitions.
use Rattle.std.specs.Prelude.{ℕ, suc, cond, List, [], ◌∷◌, eqb, length, get_or}
use Rattle.grammars.specs.code.Grammar.{Sym, tok, nt, act, Grammar}
use Rattle.forms.specs.code.Kinds.{identifier, integer, real, character, string, word_abs, word_alias, word_and, word_architecture, word_begin, word_block, word_constant, word_downto, word_else, word_elsif, word_end, word_entity, word_exit, word_for, word_if, word_in, word_inout, word_is, word_loop, word_mod, word_nand, word_next, word_nor, word_not, word_null, word_of, word_or, word_out, word_package, word_port, word_process, word_range, word_rem, word_signal, word_subtype, word_then, word_to, word_variable, word_when, word_while, word_xnor, word_xor, double_star, becomes, not_equal, at_least, at_most, ampersand, tick, left_paren, right_paren, star, plus, comma, minus, slash, colon, semicolon, less, equal, greater}
use Rattle.forms.specs.code.RuleNames.{file, units, unit, package_unit, package_declarations, package_word, closing, entity_unit, ports, more_ports, entity_word, architecture_unit, declarations, architecture_word, constant, subtype, subtype_range, signal, variable, bounds, port, mode, alias, range, direction, concurrents, concurrent, after_name, labelled_concurrent, block, process, sensitivity, sensitive, more_sensitive, process_is, process_declarations, sequentials, sequential, after_first, assignment, if, branches, labelled, loop, next, exit, null, loop_name, condition, name, name_rest, attribute, target, target_rest, target_tick, expression, logic, and_chain, or_chain, xor_chain, xnor_chain, relation, compared, relational, simple, first_term, sign, added, adding, term, multiplied, multiplying, factor, raised, primary, literal, label, mark, guard, block_is, opens, closes, marks, names, same, deeper, shallower, row}

-- A rule is of a name: what is no name takes no body.
abbrev pub RuleOf : Sym → Type 0
RuleOf (nt n) = List Sym → ℕ × List Sym
RuleOf (tok a) = Unit {0}
RuleOf (act a) = Unit {0}

abbrev pub rule : (name : Sym) → RuleOf name
rule (nt n) = λ body. (n, body)
rule (tok a) = tt
rule (act a) = tt

abbrev pub rules : List (ℕ × List Sym)
rules =
    -- A file is one or more units.
    rule file (unit ∷ units ∷ [])
    ∷ rule units (unit ∷ units ∷ [])
    ∷ rule units []
    ∷ rule unit (package_unit ∷ [])
    ∷ rule unit (entity_unit ∷ [])
    ∷ rule unit (architecture_unit ∷ [])
    -- 1 package: package N is, declarations 4 and 5, end [package] [N];
    ∷ rule package_unit (opens ∷ word_package ∷ identifier ∷ names ∷ word_is ∷ package_declarations ∷ word_end ∷ package_word ∷ closing ∷ semicolon ∷ row 1 ∷ closes ∷ [])
    ∷ rule package_declarations (constant ∷ package_declarations ∷ [])
    ∷ rule package_declarations (subtype ∷ package_declarations ∷ [])
    ∷ rule package_declarations []
    ∷ rule package_word (word_package ∷ [])
    ∷ rule package_word []
    -- the name or label after end
    ∷ rule closing (identifier ∷ same ∷ [])
    ∷ rule closing []
    -- 2 entity: entity N is, [port ( 8 separated by semicolons );], end [entity] [N];
    ∷ rule entity_unit (opens ∷ word_entity ∷ identifier ∷ names ∷ word_is ∷ ports ∷ word_end ∷ entity_word ∷ closing ∷ semicolon ∷ row 2 ∷ closes ∷ [])
    ∷ rule ports (word_port ∷ left_paren ∷ deeper ∷ port ∷ more_ports ∷ right_paren ∷ shallower ∷ semicolon ∷ [])
    ∷ rule ports []
    ∷ rule more_ports (semicolon ∷ port ∷ more_ports ∷ [])
    ∷ rule more_ports []
    ∷ rule entity_word (word_entity ∷ [])
    ∷ rule entity_word []
    -- 3 architecture: architecture N of E is, declarations 4, 5, 6, 9, begin, concurrent, end [architecture] [N];
    ∷ rule architecture_unit (opens ∷ word_architecture ∷ identifier ∷ names ∷ word_of ∷ identifier ∷ word_is ∷ declarations ∷ word_begin ∷ concurrents ∷ word_end ∷ architecture_word ∷ closing ∷ semicolon ∷ row 3 ∷ closes ∷ [])
    ∷ rule declarations (constant ∷ declarations ∷ [])
    ∷ rule declarations (subtype ∷ declarations ∷ [])
    ∷ rule declarations (signal ∷ declarations ∷ [])
    ∷ rule declarations (alias ∷ declarations ∷ [])
    ∷ rule declarations []
    ∷ rule architecture_word (word_architecture ∷ [])
    ∷ rule architecture_word []
    -- 4 constant: constant N : mark := expression;
    ∷ rule constant (opens ∷ word_constant ∷ identifier ∷ colon ∷ mark ∷ becomes ∷ expression ∷ semicolon ∷ row 4 ∷ closes ∷ [])
    -- 5 subtype: subtype N is mark [range 10];
    ∷ rule subtype (opens ∷ word_subtype ∷ identifier ∷ word_is ∷ mark ∷ subtype_range ∷ semicolon ∷ row 5 ∷ closes ∷ [])
    ∷ rule subtype_range (word_range ∷ range ∷ [])
    ∷ rule subtype_range []
    -- 6 signal, 7 variable: signal or variable, N : mark [( 10 )];
    ∷ rule signal (opens ∷ word_signal ∷ identifier ∷ colon ∷ mark ∷ bounds ∷ semicolon ∷ row 6 ∷ closes ∷ [])
    ∷ rule variable (opens ∷ word_variable ∷ identifier ∷ colon ∷ mark ∷ bounds ∷ semicolon ∷ row 7 ∷ closes ∷ [])
    ∷ rule bounds (left_paren ∷ deeper ∷ range ∷ right_paren ∷ shallower ∷ [])
    ∷ rule bounds []
    -- 8 port: N : [in, out or inout] mark [( 10 )]
    ∷ rule port (opens ∷ identifier ∷ colon ∷ mode ∷ mark ∷ bounds ∷ row 8 ∷ closes ∷ [])
    ∷ rule mode (word_in ∷ [])
    ∷ rule mode (word_out ∷ [])
    ∷ rule mode (word_inout ∷ [])
    ∷ rule mode []
    -- 9 alias: alias N is N;
    ∷ rule alias (opens ∷ word_alias ∷ identifier ∷ word_is ∷ identifier ∷ semicolon ∷ row 9 ∷ closes ∷ [])
    -- 10 range: simple expression, to or downto, simple expression
    ∷ rule range (opens ∷ simple ∷ direction ∷ simple ∷ row 10 ∷ closes ∷ [])
    ∷ rule direction (word_to ∷ [])
    ∷ rule direction (word_downto ∷ [])
    -- 11 concurrent assignment: target <= expression;   The statement's frame begins at its first identifier, a label or a target.
    ∷ rule concurrents (concurrent ∷ concurrents ∷ [])
    ∷ rule concurrents []
    ∷ rule concurrent (opens ∷ identifier ∷ after_name ∷ closes ∷ [])
    ∷ rule concurrent (opens ∷ process ∷ closes ∷ [])
    ∷ rule after_name (label ∷ labelled_concurrent ∷ [])
    ∷ rule after_name (target ∷ at_most ∷ expression ∷ semicolon ∷ row 11 ∷ [])
    ∷ rule labelled_concurrent (block ∷ [])
    ∷ rule labelled_concurrent (process ∷ [])
    -- 12 block: label : block [guard 32] [is, form 33], declarations as in 3, begin, concurrent, end block [label];
    ∷ rule block (word_block ∷ deeper ∷ guard ∷ block_is ∷ declarations ∷ word_begin ∷ concurrents ∷ word_end ∷ word_block ∷ shallower ∷ closing ∷ semicolon ∷ row 12 ∷ [])
    -- 13 process: [label :] process [( names )] [is], declarations 4 and 7, begin, sequential, end process [label];
    ∷ rule process (word_process ∷ deeper ∷ sensitivity ∷ process_is ∷ process_declarations ∷ word_begin ∷ sequentials ∷ word_end ∷ word_process ∷ shallower ∷ closing ∷ semicolon ∷ row 13 ∷ [])
    ∷ rule sensitivity (left_paren ∷ deeper ∷ sensitive ∷ more_sensitive ∷ right_paren ∷ shallower ∷ [])
    ∷ rule sensitivity []
    ∷ rule sensitive (opens ∷ identifier ∷ row 24 ∷ closes ∷ [])
    ∷ rule more_sensitive (comma ∷ sensitive ∷ more_sensitive ∷ [])
    ∷ rule more_sensitive []
    ∷ rule process_is (word_is ∷ [])
    ∷ rule process_is []
    ∷ rule process_declarations (constant ∷ process_declarations ∷ [])
    ∷ rule process_declarations (variable ∷ process_declarations ∷ [])
    ∷ rule process_declarations []
    -- 14, 15 assignment: target, <= or :=, expression;
    ∷ rule sequentials (sequential ∷ sequentials ∷ [])
    ∷ rule sequentials []
    ∷ rule sequential (opens ∷ identifier ∷ after_first ∷ closes ∷ [])
    ∷ rule sequential (opens ∷ labelled ∷ closes ∷ [])
    ∷ rule sequential (if ∷ [])
    ∷ rule after_first (label ∷ labelled ∷ [])
    ∷ rule after_first (target ∷ assignment ∷ [])
    ∷ rule assignment (at_most ∷ expression ∷ semicolon ∷ row 14 ∷ [])
    ∷ rule assignment (becomes ∷ expression ∷ semicolon ∷ row 15 ∷ [])
    -- 16 if: branches 17 (if, any elsif, perhaps else), end if;   elsif and else close one and open one: no action.
    ∷ rule if (opens ∷ opens ∷ word_if ∷ deeper ∷ expression ∷ word_then ∷ sequentials ∷ row 17 ∷ closes ∷ branches ∷ word_end ∷ word_if ∷ shallower ∷ semicolon ∷ row 16 ∷ closes ∷ [])
    ∷ rule branches (opens ∷ word_elsif ∷ expression ∷ word_then ∷ sequentials ∷ row 17 ∷ closes ∷ branches ∷ [])
    ∷ rule branches (opens ∷ word_else ∷ sequentials ∷ row 17 ∷ closes ∷ [])
    ∷ rule branches []
    -- 18, 19, 20 loop: [label :] for N in 10, while expression, or nothing; loop, sequential, end loop [label];
    ∷ rule labelled (loop ∷ [])
    ∷ rule labelled (next ∷ [])
    ∷ rule labelled (exit ∷ [])
    ∷ rule labelled (null ∷ [])
    ∷ rule loop (word_for ∷ deeper ∷ identifier ∷ word_in ∷ range ∷ word_loop ∷ sequentials ∷ word_end ∷ word_loop ∷ shallower ∷ closing ∷ semicolon ∷ row 18 ∷ [])
    ∷ rule loop (word_while ∷ deeper ∷ expression ∷ word_loop ∷ sequentials ∷ word_end ∷ word_loop ∷ shallower ∷ closing ∷ semicolon ∷ row 19 ∷ [])
    ∷ rule loop (word_loop ∷ deeper ∷ sequentials ∷ word_end ∷ word_loop ∷ shallower ∷ closing ∷ semicolon ∷ row 20 ∷ [])
    -- 21, 22: [label :] next or exit [loop name] [when expression];   23 null: [label :] null;
    ∷ rule next (word_next ∷ loop_name ∷ condition ∷ semicolon ∷ row 21 ∷ [])
    ∷ rule exit (word_exit ∷ loop_name ∷ condition ∷ semicolon ∷ row 22 ∷ [])
    ∷ rule null (word_null ∷ semicolon ∷ row 23 ∷ [])
    ∷ rule loop_name (identifier ∷ [])
    ∷ rule loop_name []
    ∷ rule condition (word_when ∷ expression ∷ [])
    ∷ rule condition []
    -- 24, 25, 26 name: identifier; name ( expression ); name, tick, identifier or range
    ∷ rule name (opens ∷ identifier ∷ row 24 ∷ name_rest ∷ closes ∷ [])
    ∷ rule name_rest (left_paren ∷ deeper ∷ expression ∷ right_paren ∷ shallower ∷ row 25 ∷ name_rest ∷ [])
    ∷ rule name_rest (tick ∷ attribute ∷ row 26 ∷ name_rest ∷ [])
    ∷ rule name_rest []
    ∷ rule attribute (identifier ∷ [])
    ∷ rule attribute (word_range ∷ [])
    -- A target is form 24 or 25. Its identifier was read; its rows are put in the statement's frame.
    ∷ rule target (row 24 ∷ target_rest ∷ [])
    ∷ rule target_rest (left_paren ∷ deeper ∷ expression ∷ right_paren ∷ shallower ∷ row 25 ∷ target_rest ∷ [])
    ∷ rule target_rest (tick ∷ attribute ∷ row 26 ∷ target_tick ∷ [])
    ∷ rule target_rest []
    ∷ rule target_tick (left_paren ∷ deeper ∷ expression ∷ right_paren ∷ shallower ∷ row 25 ∷ target_rest ∷ [])
    ∷ rule target_tick (tick ∷ attribute ∷ row 26 ∷ target_tick ∷ [])
    -- 27, 28, 29: literal; sign, abs or not; binary operator
    ∷ rule expression (opens ∷ relation ∷ logic ∷ closes ∷ [])
    ∷ rule logic (word_and ∷ marks ∷ relation ∷ row 29 ∷ and_chain ∷ [])
    ∷ rule logic (word_or ∷ marks ∷ relation ∷ row 29 ∷ or_chain ∷ [])
    ∷ rule logic (word_xor ∷ marks ∷ relation ∷ row 29 ∷ xor_chain ∷ [])
    ∷ rule logic (word_xnor ∷ marks ∷ relation ∷ row 29 ∷ xnor_chain ∷ [])
    ∷ rule logic (word_nand ∷ marks ∷ relation ∷ row 29 ∷ [])
    ∷ rule logic (word_nor ∷ marks ∷ relation ∷ row 29 ∷ [])
    ∷ rule logic []
    ∷ rule and_chain (word_and ∷ marks ∷ relation ∷ row 29 ∷ and_chain ∷ [])
    ∷ rule and_chain []
    ∷ rule or_chain (word_or ∷ marks ∷ relation ∷ row 29 ∷ or_chain ∷ [])
    ∷ rule or_chain []
    ∷ rule xor_chain (word_xor ∷ marks ∷ relation ∷ row 29 ∷ xor_chain ∷ [])
    ∷ rule xor_chain []
    ∷ rule xnor_chain (word_xnor ∷ marks ∷ relation ∷ row 29 ∷ xnor_chain ∷ [])
    ∷ rule xnor_chain []
    ∷ rule relation (opens ∷ simple ∷ compared ∷ closes ∷ [])
    ∷ rule compared (relational ∷ marks ∷ simple ∷ row 29 ∷ [])
    ∷ rule compared []
    ∷ rule relational (equal ∷ [])
    ∷ rule relational (not_equal ∷ [])
    ∷ rule relational (less ∷ [])
    ∷ rule relational (at_most ∷ [])
    ∷ rule relational (greater ∷ [])
    ∷ rule relational (at_least ∷ [])
    ∷ rule simple (opens ∷ first_term ∷ added ∷ closes ∷ [])
    ∷ rule first_term (sign ∷ marks ∷ term ∷ row 28 ∷ [])
    ∷ rule first_term (term ∷ [])
    ∷ rule sign (plus ∷ [])
    ∷ rule sign (minus ∷ [])
    ∷ rule added (adding ∷ marks ∷ term ∷ row 29 ∷ added ∷ [])
    ∷ rule added []
    ∷ rule adding (plus ∷ [])
    ∷ rule adding (minus ∷ [])
    ∷ rule adding (ampersand ∷ [])
    ∷ rule term (opens ∷ factor ∷ multiplied ∷ closes ∷ [])
    ∷ rule multiplied (multiplying ∷ marks ∷ factor ∷ row 29 ∷ multiplied ∷ [])
    ∷ rule multiplied []
    ∷ rule multiplying (star ∷ [])
    ∷ rule multiplying (slash ∷ [])
    ∷ rule multiplying (word_mod ∷ [])
    ∷ rule multiplying (word_rem ∷ [])
    ∷ rule factor (opens ∷ primary ∷ raised ∷ closes ∷ [])
    ∷ rule factor (opens ∷ word_abs ∷ marks ∷ primary ∷ row 28 ∷ closes ∷ [])
    ∷ rule factor (opens ∷ word_not ∷ marks ∷ primary ∷ row 28 ∷ closes ∷ [])
    ∷ rule raised (double_star ∷ marks ∷ primary ∷ row 29 ∷ [])
    ∷ rule raised []
    ∷ rule primary (name ∷ [])
    ∷ rule primary (literal ∷ [])
    ∷ rule primary (left_paren ∷ deeper ∷ expression ∷ right_paren ∷ shallower ∷ [])
    ∷ rule literal (opens ∷ integer ∷ row 27 ∷ closes ∷ [])
    ∷ rule literal (opens ∷ real ∷ row 27 ∷ closes ∷ [])
    ∷ rule literal (opens ∷ character ∷ row 27 ∷ closes ∷ [])
    ∷ rule literal (opens ∷ string ∷ row 27 ∷ closes ∷ [])
    -- 30, 31: leading label without its colon; type mark
    ∷ rule label (names ∷ row 30 ∷ colon ∷ [])
    ∷ rule mark (opens ∷ identifier ∷ row 31 ∷ closes ∷ [])
    -- 32, 33: ( expression ); the word is of a block
    ∷ rule guard (opens ∷ left_paren ∷ deeper ∷ expression ∷ right_paren ∷ shallower ∷ row 32 ∷ closes ∷ [])
    ∷ rule guard []
    ∷ rule block_is (opens ∷ word_is ∷ row 33 ∷ closes ∷ [])
    ∷ rule block_is []
    ∷ []

abbrev pub body : ℕ → List Sym
body p = (get_or rules p (0, [])).1

-- the first rule of name n, k rules standing before these
abbrev pub rule_from : ℕ → ℕ → List (ℕ × List Sym) → ℕ
rule_from k n [] = k
rule_from k n (r ∷ rs) = cond (eqb r.0 n) k (rule_from (suc k) n rs)

abbrev pub rule_of : ℕ → ℕ
rule_of n = rule_from 0 n rules

-- the grammar of files
abbrev pub forms : Grammar
forms = record { count = length rules; lhs = λ p. (get_or rules p (0, [])).0; body = body }
