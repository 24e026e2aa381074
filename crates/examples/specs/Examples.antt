-- Packages worked out by hand from 01's "Pieces, items, states", an item to a line with the state, the kind and the two numbers that a survey
-- leaves in its record: proofs/Examples.antt computes each from bytes. A number below zero is a word in two's complement: 18446744073709551615
-- is -1. Assumes nothing: these are definitions.
use Rattle.std.specs.Prelude.{List, [], ◌∷◌}
use Rattle.edges.specs.Left.{ItemLine, line, LeavesWords}

-- "for a subtype its low and high end", in both directions; "A low end above the high one is a null range, state 0", its ends as the direction
-- gives them; 10, "a non-null subtype range outside its parent's" and "outside its mark's range"; 6, "a range on boolean"; bounds without a
-- number, the first one met
abbrev pub subtype_examples : List ItemLine
subtype_examples =
    line "subtype up is integer range 1 to 5;" 0 1 1 5
    ∷ line "subtype down is integer range 5 downto 1;" 0 1 1 5
    ∷ line "subtype below is integer range -3 to -2;" 0 1 18446744073709551613 18446744073709551614
    ∷ line "subtype null_down is natural range 3 downto 5;" 0 1 5 3
    ∷ line "subtype null_up is natural range 3 to -5;" 0 1 3 18446744073709551611
    ∷ line "subtype part is up range 5 downto 2;" 0 1 2 5
    ∷ line "subtype same is up;" 0 1 1 5
    ∷ line "subtype none is null_down;" 0 1 5 3
    ∷ line "subtype flag is boolean;" 0 2 0 1
    ∷ line "subtype odd is boolean range false to true;" 6 0 0 0
    ∷ line "subtype low is up range 0 to 5;" 10 0 0 0
    ∷ line "subtype high is up range 6 downto 1;" 10 0 0 0
    ∷ line "subtype under is null_down range 4 to 4;" 10 0 0 0
    ∷ line "subtype seven is integer range 1 / 0 to 2147483648;" 7 0 0 0
    ∷ line "subtype nine is integer range 2147483648 downto 1 / 0;" 9 0 0 0
    ∷ line "constant five : up := 5;" 0 1 5 0
    ∷ line "constant six : up := 6;" 10 0 0 0
    ∷ line "constant four : null_down := 4;" 10 0 0 0
    ∷ line "constant set : flag := true;" 0 2 1 0
    ∷ line "subtype value is five;" 6 0 0 0
    ∷ []

-- the six relations on integers, each below, at and above; and on truths, false below true
abbrev pub relation_examples : List ItemLine
relation_examples =
    line "constant yes : boolean := 1 < 2;" 0 2 1 0
    ∷ line "constant no : boolean := 2 < 1;" 0 2 0 0
    ∷ line "constant eq : boolean := not (1 = 2) and (2 = 2) and not (2 = 1);" 0 2 1 0
    ∷ line "constant ne : boolean := (1 /= 2) and not (2 /= 2) and (2 /= 1);" 0 2 1 0
    ∷ line "constant lt : boolean := (-2 < -1) and not (2 < 2) and not (2 < 1);" 0 2 1 0
    ∷ line "constant le : boolean := (1 <= 2) and (2 <= 2) and not (2 <= 1);" 0 2 1 0
    ∷ line "constant gt : boolean := not (1 > 2) and not (2 > 2) and (-1 > -2);" 0 2 1 0
    ∷ line "constant ge : boolean := not (1 >= 2) and (2 >= 2) and (2 >= 1);" 0 2 1 0
    ∷ line "constant eq_t : boolean := not (false = true) and (true = true);" 0 2 1 0
    ∷ line "constant ne_t : boolean := (true /= false) and not (true /= true);" 0 2 1 0
    ∷ line "constant lt_t : boolean := (false < true) and not (true < true);" 0 2 1 0
    ∷ line "constant le_t : boolean := (true <= true) and not (true <= false);" 0 2 1 0
    ∷ line "constant gt_t : boolean := (true > false) and not (true > true);" 0 2 1 0
    ∷ line "constant ge_t : boolean := not (false >= true) and (true >= true);" 0 2 1 0
    ∷ []

-- the six logical operators and `not`; "`and`, `nand`, `or`, `nor` skip the right side where the left decides; 3 to 6 still look at it"
abbrev pub logic_examples : List ItemLine
logic_examples =
    line "constant both : boolean := true and true;" 0 2 1 0
    ∷ line "constant first : boolean := true and false;" 0 2 0 0
    ∷ line "constant second : boolean := false and true;" 0 2 0 0
    ∷ line "constant none : boolean := false and false;" 0 2 0 0
    ∷ line "constant off : boolean := not true;" 0 2 0 0
    ∷ line "constant turned : boolean := not false;" 0 2 1 0
    ∷ line "constant ors : boolean := (true or true) and (true or false) and (false or true) and not (false or false);" 0 2 1 0
    ∷ line "constant nands : boolean := not (true nand true) and (true nand false) and (false nand true) and (false nand false);" 0 2 1 0
    ∷ line "constant nors : boolean := not (true nor true) and not (true nor false) and not (false nor true) and (false nor false);" 0 2 1 0
    ∷ line "constant xors : boolean := not (true xor true) and (true xor false) and (false xor true) and not (false xor false);" 0 2 1 0
    ∷ line "constant xnors : boolean := (true xnor true) and not (true xnor false) and not (false xnor true) and (false xnor false);" 0 2 1 0
    ∷ line "constant or_skips : boolean := true or 1 / 0 = 1;" 0 2 1 0
    ∷ line "constant nand_skips : boolean := false nand 2147483648 = 1;" 0 2 1 0
    ∷ line "constant nor_skips : boolean := true nor 1 / 0 = 1;" 0 2 0 0
    ∷ line "constant and_looks : boolean := true and 1 / 0 = 1;" 7 0 0 0
    ∷ line "constant xor_looks : boolean := false xor 2147483648 = 1;" 9 0 0 0
    ∷ line "constant unknown_still : boolean := false and gone;" 4 0 0 0
    ∷ line "constant kind_still : boolean := true or 1;" 6 0 0 0
    ∷ []

-- "Division truncates to zero, `rem` takes the dividend's sign, `mod` the divisor's"; chains group to the left; 7, 8, 9, and "the first of 7 to 9
-- met, left operand, right operand, operator"
abbrev pub arithmetic_examples : List ItemLine
arithmetic_examples =
    line "constant kept : integer := +5;" 0 1 5 0
    ∷ line "constant minus : integer := -5;" 0 1 18446744073709551611 0
    ∷ line "constant size : integer := abs (-5);" 0 1 5 0
    ∷ line "constant less_size : integer := -abs 3;" 0 1 18446744073709551613 0
    ∷ line "constant divided : integer := (-7) / 2;" 0 1 18446744073709551613 0
    ∷ line "constant rem_a : integer := (-7) rem 2;" 0 1 18446744073709551615 0
    ∷ line "constant rem_b : integer := 7 rem (-2);" 0 1 1 0
    ∷ line "constant mod_a : integer := (-7) mod 2;" 0 1 1 0
    ∷ line "constant mod_b : integer := 7 mod (-2);" 0 1 18446744073709551615 0
    ∷ line "constant mod_c : integer := (-7) mod (-2);" 0 1 18446744073709551615 0
    ∷ line "constant left : integer := 1 - 2 - 3;" 0 1 18446744073709551612 0
    ∷ line "constant tighter : integer := 2 + 3 * 4;" 0 1 14 0
    ∷ line "constant cube : integer := (-2) ** 3;" 0 1 18446744073709551608 0
    ∷ line "constant most : integer := 16#7FFF_FFFF#;" 0 1 2147483647 0
    ∷ line "constant beyond : integer := 2 ** 31;" 9 0 0 0
    ∷ line "constant seven : integer := 1 / 0 + 2147483648;" 7 0 0 0
    ∷ line "constant nine : integer := 2147483648 + 1 / 0;" 9 0 0 0
    ∷ line "constant eight : integer := 1 / (2 ** (-1));" 8 0 0 0
    ∷ []

-- 3, "a real, character or string literal, `&`, form 25 or 26"; "The smallest of 1 to 6 wins"
abbrev pub unfolded_examples : List ItemLine
unfolded_examples =
    line "constant share : integer := 1.5;" 3 0 0 0
    ∷ line "constant letter : integer := 'a';" 3 0 0 0
    ∷ line "constant letters : integer := \"ab\";" 3 0 0 0
    ∷ line "constant joined : integer := 1 & 2;" 3 0 0 0
    ∷ line "constant called : integer := gone(1);" 3 0 0 0
    ∷ line "constant asked : integer := integer'high;" 3 0 0 0
    ∷ line "constant smallest : boolean := gone and 1.5 = true;" 3 0 0 0
    ∷ []

-- 1, "no form fits"; 2, "its name has another claim anywhere"; 4, "a name used with no claim above"; 5, "a name used that is doubled, or whose
-- item isn't in state 0"; "case is ignored"; extended identifiers "keep case and equal no basic identifier"
abbrev pub name_examples : List ItemLine
name_examples =
    line "constant early : integer := late;" 4 0 0 0
    ∷ line "constant late : integer := 1;" 0 1 1 0
    ∷ line "constant again : integer := LATE + 1;" 0 1 2 0
    ∷ line "constant \\late\\ : integer := 3;" 0 1 3 0
    ∷ line "constant other : integer := \\LATE\\;" 4 0 0 0
    ∷ line "constant own : integer := own + 1;" 4 0 0 0
    ∷ line "constant hole : integer := ;" 1 0 0 0
    ∷ line "constant leaning : integer := hole + 1;" 5 0 0 0
    ∷ line "constant further : integer := leaning;" 5 0 0 0
    ∷ line "constant twin : integer := 1;" 2 0 0 0
    ∷ line "constant TWIN : integer := 2;" 2 0 0 0
    ∷ line "constant of_twin : integer := twin;" 5 0 0 0
    ∷ line "constant unmarked : gone := 1;" 4 0 0 0
    ∷ []

-- 6, "integer and truth mixed, arithmetic on truths, logic on integers, a type as a number, or the reverse"; 10, "outside its mark's range"
abbrev pub kind_examples : List ItemLine
kind_examples =
    line "constant mixed : boolean := 1 = true;" 6 0 0 0
    ∷ line "constant sum : integer := true + true;" 6 0 0 0
    ∷ line "constant size : integer := abs true;" 6 0 0 0
    ∷ line "constant ones : boolean := 1 and 1;" 6 0 0 0
    ∷ line "constant turned : boolean := not 1;" 6 0 0 0
    ∷ line "constant number : integer := natural;" 6 0 0 0
    ∷ line "constant mark : true := true;" 6 0 0 0
    ∷ line "constant truth : integer := true;" 6 0 0 0
    ∷ line "constant first : boolean := 1 / 0;" 6 0 0 0
    ∷ line "constant least : natural := 0;" 0 1 0 0
    ∷ line "constant below : natural := -1;" 10 0 0 0
    ∷ line "constant zero : positive := 0;" 10 0 0 0
    ∷ []

-- a name of the language claimed: that item is doubled, and every use of the name leans, above it too
abbrev pub language_examples : List ItemLine
language_examples =
    line "constant above : natural := 1;" 5 0 0 0
    ∷ line "constant natural : integer := 1;" 2 0 0 0
    ∷ line "constant below : natural := 1;" 5 0 0 0
    ∷ line "constant apart : positive := 1;" 0 1 1 0
    ∷ []

abbrev pub SurveyExamples : Type 0
SurveyExamples = LeavesWords subtype_examples × LeavesWords relation_examples × LeavesWords logic_examples × LeavesWords arithmetic_examples × LeavesWords unfolded_examples × LeavesWords name_examples × LeavesWords kind_examples × LeavesWords language_examples
