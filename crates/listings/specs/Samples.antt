-- 01's own sample, from the bytes of the text to the bytes of its listing: proofs/Samples.antt proves it. Assumes nothing: these are definitions.
use Rattle.std.specs.Prelude.{ℕ, ◌*◌, ◌≡◌, List, ◌++◌}
use Rattle.words.specs.Words.{bytes_of}
use Rattle.places.specs.Sizes.{most_elements, most_pieces}
use Rattle.places.specs.Places.{row_words}
use Rattle.pieces.specs.Records.{record_words}
use Rattle.forms.specs.RowWords.{row_numbers}
use Rattle.edges.specs.Incident.{gas}
use Rattle.listings.specs.Listings.{IsItemListing, IsRecordListing, IsTreeListing, elements_listed}

-- the tables that the program lends: a row to each element, and a record to each piece, of any text
abbrev pub element_room : ℕ
element_room = row_words * most_elements

abbrev pub item_room : ℕ
item_room = record_words * most_pieces

-- "The survey program's listing of a text read from standard input, whole"
abbrev pub gas_listing : List ℕ
gas_listing =
    bytes_of "pieces 6 whole no\n"
    ++ bytes_of "1 constant ch4 value 5800\n"
    ++ bytes_of "2 constant co2 broken\n"
    ++ bytes_of "3 constant total leans\n"
    ++ bytes_of "4 constant idle value 1450\n"

abbrev pub Sample : Type 0
Sample = IsItemListing gas element_room item_room gas_listing

-- the same text's records, its tally and its pair
abbrev pub gas_records : List ℕ
gas_records =
    bytes_of "pieces 6 frame good whole no\n"
    ++ bytes_of "0 1 0 3 1 0 0 0 0\n"
    ++ bytes_of "1 3 3 7 4 0 1 5800 0\n"
    ++ bytes_of "2 3 10 6 11 1 0 0 0\n"
    ++ bytes_of "3 3 16 9 17 5 0 0 0\n"
    ++ bytes_of "4 3 25 9 26 0 1 1450 0\n"
    ++ bytes_of "5 2 34 4 36 0 0 0 0\n"
    ++ bytes_of "tally 2 1 0 0 0 1 0 0 0 0 0\n"
    ++ bytes_of "pair none\n"

abbrev pub SampleRecords : Type 0
SampleRecords = IsRecordListing gas element_room item_room gas_records

-- what `strict --elements` prints of it
abbrev pub gas_element_lines : List ℕ
gas_element_lines =
    bytes_of "elements 38\n"
    ++ bytes_of "0 reserved 0 7\n1 identifier 8 3\n2 reserved 12 2\n3 reserved 17 8\n"
    ++ bytes_of "4 identifier 26 3\n5 delimiter 30 1\n6 identifier 32 7\n7 delimiter 40 2\n"
    ++ bytes_of "8 integer 43 4\n9 delimiter 47 1\n10 reserved 51 8\n11 identifier 60 3\n"
    ++ bytes_of "12 delimiter 64 1\n13 identifier 66 7\n14 delimiter 74 2\n15 delimiter 77 1\n"
    ++ bytes_of "16 reserved 81 8\n17 identifier 90 5\n18 delimiter 96 1\n19 identifier 98 7\n"
    ++ bytes_of "20 delimiter 106 2\n21 identifier 109 3\n22 delimiter 113 1\n23 identifier 115 3\n"
    ++ bytes_of "24 delimiter 118 1\n25 reserved 122 8\n26 identifier 131 4\n27 delimiter 136 1\n"
    ++ bytes_of "28 identifier 138 7\n29 delimiter 146 2\n30 identifier 149 3\n31 delimiter 153 1\n"
    ++ bytes_of "32 integer 155 1\n33 delimiter 156 1\n34 reserved 158 3\n35 reserved 162 7\n"
    ++ bytes_of "36 identifier 170 3\n37 delimiter 173 1\n"

abbrev pub SampleElements : Type 0
SampleElements = elements_listed gas element_room ≡ gas_element_lines

-- the tree table that the program lends: a row to each element of any text
abbrev pub tree_room : ℕ
tree_room = row_numbers * most_elements

-- what `strict` prints of the incident's package: its hole refuses it, at the semicolon where an operand should stand
abbrev pub SampleRefused : Type 0
SampleRefused = IsTreeListing gas element_room tree_room (bytes_of "refused 5 at 15\n")

-- and of a package that it reads: the package, its constant, the type mark and the literal
abbrev pub small_text : List ℕ
small_text = bytes_of "package p is constant c : natural := 1; end;"

abbrev pub small_tree_lines : List ℕ
small_tree_lines =
    bytes_of "rows 4 passes yes\n"
    ++ bytes_of "0 1 0 12 4 0\n"
    ++ bytes_of "1 4 3 7 3 3\n"
    ++ bytes_of "2 31 6 1 1 6\n"
    ++ bytes_of "3 27 8 1 1 8\n"

abbrev pub SampleTree : Type 0
SampleTree = IsTreeListing small_text element_room tree_room small_tree_lines
