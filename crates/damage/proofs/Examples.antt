-- The incident's package, before the damage and after it (01, "Numbers at the edges"): the third demand says that ch4 and idle keep their
-- numbers, and total, which uses the damaged line, does not. Assumes nothing.
use Prim.Native.Nat.{ℕ, ◌≤◌}
use mathlib.Core.Path.{◌≡◌, refl}
use mathlib.Core.Logic.{inl, inr}
use mathlib.Core.Bool.{true, not}
use mathlib.Core.List.{List, [], ◌∷◌, ◌++◌}
use native.Mathlib.Omega.{arith}
use lib.ListN.{length, get_or, take}
use Rattle.classes.specs.Bytes.{is_letter, lower, is_digit, digit_value}
use Rattle.classes.specs.Signs.{ends_line, separates, is_graphic}
use Rattle.classes.specs.Runs.{in_run, count_while, goes_on, run}
use Rattle.words.specs.Words.{reserved_words, delimiters, bytes_of, begins, spells, place_from}
use Rattle.numbers.specs.Numbers.{digits, exponent, below_base, based, pointed, number}
use Rattle.numbers.specs.Digits.{digit_in, value_spelled, leading, exponent_head}
use Rattle.elements.specs.Element.{unreadable_front, identifier_front, delimiter_front, ruled, spoils_number, element_at}
use Rattle.element_reading.specs.Rows.{lines_of, line_rows, lines_rows, rows_of}
use Rattle.element_reading.specs.Promises.{Ended, StartsLine}
use Rattle.same_names.specs.Spelling.{spelt}
use Rattle.grammars.specs.code.Actions.{runs}
use Rattle.forms.specs.code.Kinds.{terminal_of}
use Rattle.forms.specs.Tree.{Row}
use Rattle.forms.specs.code.RuleActions.{does}
use Rattle.forms.specs.code.Reading.{reading_from}
use Rattle.pieces.specs.Cutting.{cut}
use Rattle.pieces.specs.Kinds.{is_heading, behind_word, has_name, ends_at, is_closing, claim_class, piece_class}
use Rattle.pieces.specs.Records.{name_of}
use Rattle.records.specs.Records.{word_at}
use Rattle.pieces.specs.Columns as column
use Rattle.tree.specs.code.PieceRows.{reading_of_piece, rows_of_piece}
use Rattle.integers.specs.Integers.{sized_of, divided_of, to_sign, power_of}
use Rattle.literals.specs.Literals as literals
use Rattle.spelled.specs.Spelled.{kind_of}
use Rattle.operands.specs.SpelledOperators.{operator_of, sign_of}
use Rattle.operands.specs.code.Operands.{literal_by}
use Rattle.values.specs.Values.{language_value}
use Rattle.marks.specs.code.Marks.{constant_of, ranged_of}
use Rattle.expressions.specs.code.Expressions.{row_outcome, outcome_in}
use Rattle.meaning.specs.Elements.{Element, at}
use Rattle.meaning.specs.Pieces.{kinds_in_piece, elements_of, pieces_of}
use Rattle.meaning.specs.Names.{begins_claim, names_claimed, claims, claims_in, claimed_above, first_above, use_of, same_as}
use Rattle.meaning.specs.code.PieceValues.{valued, value_of, dones_from, dones_of, records_of}
use Rattle.meaning.specs.Records.{record_of, records_from}
use Rattle.meaning.proofs.Trees.{tree_is}
use Rattle.survey_reading.specs.code.Survey.{survey_of, elements_after_survey, items_after}
use Rattle.survey_reading.specs.declared.Summary.{Summary}
use Rattle.std.specs.Prelude.{Ok}
use Rattle.survey_reading.proofs.Promises.{surveyed_exactly}
use Rattle.survey_reading.proofs.Permits.{leaves_so}
use Rattle.damage.specs.PlacedElements.{PlacedPiece, placed_rows, placed_lines, placed, parts_of, bare}
use Rattle.damage.specs.Damage.{OneLine, olds, news, itself, Undisturbed}
use Rattle.damage.proofs.Testing.{every, all_inside, is_outside, part_at, Kept, Keeps, kept, answered}

-- two texts that differ in one line, by tests
abbrev pub struck : (before middle changed after : List ℕ) → StartsLine before → every (λ b. not (ends_line b)) middle ≡ true → every (λ b. not (ends_line b)) changed ≡ true → Ended after
    → OneLine (before ++ (middle ++ after)) (before ++ (changed ++ after))
struck before middle changed after g i j e =
    record {
      before = before;
      middle = middle;
      changed = changed;
      after = after;
      first = refl;
      second = refl;
      begun = g;
      inside = all_inside middle i;
      inside_changed = all_inside changed j;
      ended = e;
    }

abbrev pub above : List ℕ
above = bytes_of "package gas is\n  constant ch4 : natural := 5800;\n"

abbrev pub good_line : List ℕ
good_line = bytes_of "  constant co2 : natural := 4200;"

abbrev pub bad_line : List ℕ
bad_line = bytes_of "  constant co2 : natural := ;"

abbrev pub below : List ℕ
below = bytes_of "\n  constant total : natural := ch4 + co2;\n  constant idle : natural := ch4 / 4;\nend package gas;\n"

abbrev pub good : List ℕ
good = above ++ (good_line ++ below)

abbrev pub bad : List ℕ
bad = above ++ (bad_line ++ below)

-- the pieces of a text, computed
unfoldable pieces : List ℕ → List ℕ → List ℕ → List PlacedPiece
unfolding ends_line separates is_letter lower is_digit is_graphic digit_value in_run count_while goes_on run reserved_words delimiters bytes_of begins spells place_from digits digit_in value_spelled leading exponent_head exponent below_base based pointed number unreadable_front identifier_front delimiter_front ruled spoils_number element_at lines_of line_rows lines_rows rows_of cut placed_rows placed_lines placed parts_of
pieces before middle after = parts_of (placed before middle after)

-- what pieces claim and use, computed
unfoldable rows_in : PlacedPiece → List Row
unfolding pieces spelt runs terminal_of does reading_from is_heading behind_word has_name ends_at is_closing claim_class piece_class reading_of_piece rows_of_piece at kinds_in_piece same_as kind_of begins_claim claims names_claimed bare
rows_in p = rows_of_piece (kinds_in_piece (bare p))

abbrev pub damaged : OneLine good bad
unfolding pieces
damaged = struck above good_line bad_line below refl refl refl refl

-- an identifier
abbrev named : List ℕ → Element
named bytes = record { kind = 1; bytes = bytes }

abbrev pub ch4 : Element
ch4 = named (bytes_of "ch4")

abbrev pub natural : Element
natural = named (bytes_of "natural")

abbrev pub idle : Element
idle = named (bytes_of "idle")

six_good : length (olds damaged) ≡ 6
unfolding pieces
six_good = refl

six_bad : length (news damaged) ≡ 6
unfolding pieces
six_bad = refl

-- ch4, above the damaged line
ch4_premises : Kept damaged 1 1
unfolding rows_in
ch4_premises =
    record {
      old = omega (arith, six_good);
      new = omega (arith, six_bad);
      same = refl;
      none = refl;
      names = ch4 ∷ natural ∷ [];
      own = refl;
      shut = refl;
      apart_old = refl;
      apart_new = refl;
    }

pub ch4_kept : Keeps damaged 1 1
ch4_kept = kept good bad damaged 1 1 ch4_premises

-- idle, below it, which uses ch4
idle_premises : Kept damaged 4 4
unfolding rows_in
idle_premises =
    record {
      old = omega (arith, six_good);
      new = omega (arith, six_bad);
      same = refl;
      none = refl;
      names = idle ∷ ch4 ∷ natural ∷ [];
      own = refl;
      shut = refl;
      apart_old = refl;
      apart_new = refl;
    }

pub idle_kept : Keeps damaged 4 4
idle_kept = kept good bad damaged 4 4 idle_premises

-- total uses co2, which the damaged line claims: it is not undisturbed, and it changes
abbrev pub co2 : Element
co2 = named (bytes_of "co2")

abbrev pub total : PlacedPiece
total = part_at (olds damaged) 3

abbrev pub co2_used : Row
co2_used = record { form = 24; first = 7; count = 1; rows = 1; operator = 7 }

-- and the rows above it
abbrev pub co2_above : List Row
co2_above = take 4 (rows_of_piece (kinds_in_piece (bare total)))

pub total_disturbed : Undisturbed (olds damaged) (news damaged) total → ⊥
unfolding rows_in
total_disturbed u =
    (u co2
    (inr (total, itself, record { above = co2_above; row = co2_used; below = []; tree = tree_is (bare total) (get_or (rows_of_piece (kinds_in_piece (bare total))) 0 co2_used) _ refl; looked_up = inl (refl, is_outside co2_above refl); named = refl }))
    (part_at (olds damaged) 2) (inl (inr (inr (inl refl)))) refl).2.0 0 refl

-- what the items come to, computed
unfoldable answers : List ℕ → List ℕ
unfolding rows_in claims_in claimed_above first_above use_of valued value_of dones_from dones_of record_of records_from records_of elements_of pieces_of constant_of ranged_of language_value kind_of operator_of sign_of literal_by row_outcome outcome_in literals.exponent_of literals.number_in literals.is_based literals.literal_number literals.literal_of sized_of divided_of to_sign power_of name_of word_at
answers text = records_of text

-- state 0 and 10,000, then state 5, "leans"
pub total_changes : (word_at (records_of good) 3 column.state ≡ 0) × (word_at (records_of good) 3 column.low ≡ 10000) × (word_at (records_of bad) 3 column.state ≡ 5)
unfolding answers
total_changes = (refl, refl, refl)

-- ---- through the public answer: both texts are surveyed, with an element table of 24,576 words and an item table of 8,192, and the demand
-- says of the tables that the two surveys leave that idle's state, kind and number are the same

rows_good : length (rows_of good) ≡ 39
unfolding pieces
rows_good = refl

rows_bad : length (rows_of bad) ≡ 38
unfolding pieces
rows_bad = refl

bytes_good : length good ≡ 179
unfolding pieces
bytes_good = refl

bytes_bad : length bad ≡ 175
unfolding pieces
bytes_bad = refl

pieces_good : length (pieces_of good) ≡ 6
unfolding answers
pieces_good = refl

pieces_bad : length (pieces_of bad) ≡ 6
unfolding answers
pieces_bad = refl

pub good_surveyed : (x : Summary) × (survey_of good 24576 8192 ≡ Ok x)
good_surveyed = (surveyed_exactly good 24576 8192).1 ((omega (arith, bytes_good), omega (arith, rows_good), omega (arith, rows_good)), omega (arith, pieces_good), omega (arith, pieces_good))

pub bad_surveyed : (x : Summary) × (survey_of bad 24576 8192 ≡ Ok x)
bad_surveyed = (surveyed_exactly bad 24576 8192).1 ((omega (arith, bytes_bad), omega (arith, rows_bad), omega (arith, rows_bad)), omega (arith, pieces_bad), omega (arith, pieces_bad))

pub idle_answered : (k : ℕ) → column.state ≤ k → k ≤ column.high → word_at (items_after good 24576 8192) 4 k ≡ word_at (items_after bad 24576 8192) 4 k
idle_answered =
    answered good bad damaged 4 4 idle_premises (elements_after_survey good 24576 8192) (items_after good 24576 8192) (elements_after_survey bad 24576 8192) (items_after bad 24576 8192)
    (leaves_so good 24576 8192 good_surveyed.0 good_surveyed.1) (leaves_so bad 24576 8192 bad_surveyed.0 bad_surveyed.1)

-- ---- a name inside a form 25 is not looked up: co2, which the damaged line claims, is no name that odd uses

abbrev pub heading : List ℕ
heading = bytes_of "package gas is\n"

abbrev pub called : List ℕ
called = bytes_of "\n  constant odd : natural := 2 + co2(1);\nend package gas;\n"

abbrev pub called_damaged : OneLine (heading ++ (good_line ++ called)) (heading ++ (bad_line ++ called))
unfolding pieces
called_damaged = struck heading good_line bad_line called refl refl refl refl

four_good : length (olds called_damaged) ≡ 4
unfolding pieces
four_good = refl

four_bad : length (news called_damaged) ≡ 4
unfolding pieces
four_bad = refl

odd_premises : Kept called_damaged 2 2
unfolding rows_in
odd_premises =
    record {
      old = omega (arith, four_good);
      new = omega (arith, four_bad);
      same = refl;
      none = refl;
      names = named (bytes_of "odd") ∷ natural ∷ [];
      own = refl;
      shut = refl;
      apart_old = refl;
      apart_new = refl;
    }

pub odd_kept : Keeps called_damaged 2 2
odd_kept = kept (heading ++ (good_line ++ called)) (heading ++ (bad_line ++ called)) called_damaged 2 2 odd_premises

-- ---- a name claimed twice resolves to its first claim: idle uses ch4, whose second claim uses co2, which the damaged line claims. The demand
-- still speaks of idle, which leans in both texts, since ch4 is doubled.

abbrev pub twice : List ℕ
twice = bytes_of "\n  constant ch4 : natural := co2;\n  constant idle : natural := ch4 / 4;\nend package gas;\n"

abbrev pub twice_damaged : OneLine (above ++ (good_line ++ twice)) (above ++ (bad_line ++ twice))
unfolding pieces
twice_damaged = struck above good_line bad_line twice refl refl refl refl

six_twice : length (olds twice_damaged) ≡ 6
unfolding pieces
six_twice = refl

six_twice_bad : length (news twice_damaged) ≡ 6
unfolding pieces
six_twice_bad = refl

leaning_premises : Kept twice_damaged 4 4
unfolding rows_in
leaning_premises =
    record {
      old = omega (arith, six_twice);
      new = omega (arith, six_twice_bad);
      same = refl;
      none = refl;
      names = idle ∷ ch4 ∷ natural ∷ [];
      own = refl;
      shut = refl;
      apart_old = refl;
      apart_new = refl;
    }

pub leaning_kept : Keeps twice_damaged 4 4
leaning_kept = kept (above ++ (good_line ++ twice)) (above ++ (bad_line ++ twice)) twice_damaged 4 4 leaning_premises

-- state 5 before the damage and after it
pub leaning : (word_at (records_of (above ++ (good_line ++ twice))) 4 column.state ≡ 5) × (word_at (records_of (above ++ (bad_line ++ twice))) 4 column.state ≡ 5)
unfolding answers
leaning = (refl, refl)
