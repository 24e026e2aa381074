-- What is printed of a stored table that was read, line by line, as bytes: what the program `unstore` prints. Assumes nothing.
use Rattle.std.specs.Prelude.{ℕ, zero, suc, ◌+◌, ◌*◌, ◌/◌, min, cond, ◌&&◌, List, [], ◌∷◌, ◌++◌, ltb, length, get_or}
use Rattle.words.specs.Words.{bytes_of}
use Rattle.stored_reading.specs.StoredRows.{stored_row_words, stored_class_column, stored_place_column, stored_length_column, stored_kind_column, stored_low_column, stored_high_column}
use Rattle.puts.specs.Decimals.{decimal_of, line_feed}
use Rattle.puts.specs.Lines.{lines_from}
use Rattle.item_words.specs.LineWords.{stretch_of, claim_text, value_text}
use Rattle.refused_line.specs.Refused.{counted, line_by, lines_by}

-- word j of row i, 0 where there is none
unfoldable pub row_word : List ℕ → ℕ → ℕ → ℕ
row_word rows i j = cond (ltb j stored_row_words && ltb i (length rows / stored_row_words)) (get_or rows (stored_row_words * i + j) 0) 0

-- where the answer has the place of the package's name, and its length
abbrev pub name_first : ℕ
name_first = 3

abbrev pub name_length : ℕ
name_length = 4

-- "`package NAME items COUNT`", "names as stored": its end
unfoldable pub count_text : ℕ → List ℕ
count_text items = bytes_of " items " ++ (decimal_of items ++ (line_feed ∷ []))

-- and all of it
unfoldable pub stored_head : List ℕ → List ℕ → List ℕ
stored_head bytes answer = bytes_of "package " ++ (stretch_of bytes (get_or answer name_first 0) (get_or answer name_length 0) ++ count_text (get_or answer counted 0))

-- "a line for each item, from 0: `N constant NAME value V`, `N subtype NAME value LOW to HIGH`, as in the survey's listing"
unfoldable pub stored_item : List ℕ → List ℕ → ℕ → List ℕ
stored_item bytes rows i =
    decimal_of i
    ++ (claim_text (row_word rows i stored_class_column) (stretch_of bytes (row_word rows i stored_place_column) (row_word rows i stored_length_column))
    ++ (value_text (row_word rows i stored_class_column) (row_word rows i stored_kind_column) (row_word rows i stored_low_column) (row_word rows i stored_high_column) ++ (line_feed ∷ [])))

-- the lines by their numbers: the head, and then an item's
unfoldable pub stored_listed : List ℕ → List ℕ → List ℕ → ℕ → List ℕ
stored_listed bytes rows answer zero = stored_head bytes answer
stored_listed bytes rows answer (suc i) = stored_item bytes rows i

-- those of any answer, and how many there are: no more items are listed than the table has
unfoldable pub stored_line : List ℕ → List ℕ → List ℕ → ℕ → List ℕ
stored_line bytes rows answer = line_by answer (stored_listed bytes rows answer)

unfoldable pub stored_lines : List ℕ → List ℕ → ℕ
stored_lines rows answer = lines_by answer (suc (min (get_or answer counted 0) (length rows / stored_row_words)))

-- all of them
unfoldable pub stored_listing : List ℕ → List ℕ → List ℕ → List ℕ
stored_listing bytes rows answer = lines_from (stored_line bytes rows answer) 0 (stored_lines rows answer)
