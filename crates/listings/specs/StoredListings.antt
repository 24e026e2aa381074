-- What is printed of bytes that are read as a stored table: the lines of what the reader may answer and leave in its lent table, of so many words.
-- proofs/StoredListings.antt proves what is said of it. Assumes nothing: these are definitions.
use Rattle.std.specs.Prelude.{ℕ, ◌+◌, ◌*◌, ◌≤◌, ◌<◌, ◌≡◌, List, ◌++◌, length, get_or}
use Rattle.words.specs.Words.{bytes_of}
use Rattle.puts.specs.Decimals.{word_end}
use Rattle.stored.specs.Examples.{five_items, five_bytes}
use Rattle.stored_reading.specs.StoredRows.{stored_row_words}
use Rattle.stored_reading.specs.Permitted.{Permitted}
use Rattle.stored_reading.specs.Permitted.{StoredReading}
use Rattle.stored_lines.specs.Lines.{stored_line, stored_listing}
use Rattle.kawhiluhe.specs.StoredNumbers.{unstore_numbers}
use Rattle.kawhiluhe.specs.AnswerWords.{unstored_words}
use Rattle.listings.specs.WrittenParts.{beside_text}

-- what `unstore` prints
abbrev pub IsStoredListing : List ℕ → ℕ → List ℕ → Type 0
IsStoredListing bytes room lines =
    (x : StoredReading) × ((rows : List ℕ) × (Permitted bytes room x rows × (lines ≡ stored_listing bytes rows (unstored_words (unstore_numbers x)))))

-- Any two listings of the same bytes coincide.
abbrev pub OneStored : Type 0
OneStored = (bytes : List ℕ) (room : ℕ) (lines lines' : List ℕ) → IsStoredListing bytes room lines → IsStoredListing bytes room lines' → lines ≡ lines'

-- No line of it is longer than the bytes by more than this, whatever the rows hold.
abbrev pub StoredLinesFit : Type 0
StoredLinesFit =
    (bytes rows answer : List ℕ) (i : ℕ) → i < word_end → ((k : ℕ) → get_or rows k 0 < word_end) → ((k : ℕ) → get_or answer k 0 < word_end)
    → length (stored_line bytes rows answer i) ≤ length bytes + beside_text

-- A table written out by hand, and what is printed of it: a number below 0, a truth, a range, the range of boolean.
abbrev pub five_lines : List ℕ
five_lines =
    bytes_of "package p items 4\n"
    ++ bytes_of "0 constant ch4 value -1\n"
    ++ bytes_of "1 constant lit value true\n"
    ++ bytes_of "2 subtype share value 0 to 300\n"
    ++ bytes_of "3 subtype flag value false to true\n"

abbrev pub SampleStored : Type 0
SampleStored = IsStoredListing five_bytes (stored_row_words * length five_items) five_lines
