-- Bytes have one listing as a stored table, its lines fit a buffer, and one of them computed. Assumes nothing.
use Prim.Native.Nat.{ℕ, zero, suc, ◌+◌, ◌*◌, ◌/◌, ◌^◌, ◌≤◌, ◌<◌}
use native.Mathlib.Nat.{le_trans}
use native.Mathlib.Omega.{arith}
use mathlib.Core.Path.{refl, ap, sym, ◌∙◌}
use mathlib.Core.Bool.{◌&&◌}
use mathlib.Core.List.{List, [], ◌∷◌, ◌++◌}
use lib.Dec.{eqb, ltb}
use lib.ListN.{length, get_or}
use Rattle.words.specs.Words.{bytes_of}
use Rattle.places.specs.declared.BytePlace.{BytePlace}
use Rattle.puts.specs.Decimals.{digits_of, decimal_of, signed_text}
use Rattle.puts.specs.Lines.{lines_from}
use Rattle.refused_line.specs.Refused.{refusal, place, counted, line_by, lines_by}
use Rattle.item_words.specs.LineWords.{stretch_of, claim_text, folded_text, upper_of, value_text}
use Rattle.stored.proofs.Examples.{five_fields}
use Rattle.stored.specs.Examples.{five_items, five_bytes}
use Rattle.stored_reading.specs.StoredRows.{stored_row_words, stored_class_column, stored_place_column, stored_length_column, stored_kind_column, stored_low_column, stored_high_column, stored_rows_from}
use Rattle.stored_reading.specs.Permitted.{StoredReading}
use Rattle.stored_reading.specs.Permitted.{read_table}
use Rattle.stored_reading.proofs.Promises.{no_choice}
use Rattle.stored_lines.specs.Lines.{row_word, name_first, name_length, count_text, stored_head, stored_item, stored_listed, stored_line, stored_lines, stored_listing}
use Rattle.kawhiluhe.specs.StoredNumbers.{unstore_numbers}
use Rattle.kawhiluhe.specs.AnswerWords.{unstored_words}
use Rattle.listings.specs.WrittenParts.{beside_text}
use Rattle.listings.specs.StoredListings.{OneStored, StoredLinesFit, SampleStored}
use Rattle.listings.proofs.Sizes.{either, two, decimal_size, stretch_size, claim_size, value_size_lem, below, refused_size}

pub one_stored : OneStored
one_stored bytes room lines lines' (x, (t, (p, q))) (x', (t', (p', q'))) =
    let same = no_choice bytes room x x' t t' p p' in
    q ∙ ap (λ (y : StoredReading). stored_listing bytes t (unstored_words (unstore_numbers y))) same.0
    ∙ ap (λ (l : List ℕ). stored_listing bytes l (unstored_words (unstore_numbers x'))) same.1 ∙ sym q'

module _ (bytes rows : List ℕ) (words : (k : ℕ) → get_or rows k 0 < 2 ^ 64) where
  row_below : (i j : ℕ) → row_word rows i j < 2 ^ 64
  unfolding row_word
  row_below i j = below (ltb j stored_row_words && ltb i (length rows / stored_row_words)) (words (stored_row_words * i + j)) (omega arith)

  item_size : (i : ℕ) → i < 2 ^ 64 → length (stored_item bytes rows i) ≤ length bytes + beside_text
  unfolding stored_item
  item_size i h =
      let class = row_word rows i stored_class_column in
      let name = stretch_of bytes (row_word rows i stored_place_column) (row_word rows i stored_length_column) in
      let a = claim_text class name in
      let claimed : length a ≤ length bytes + 10 = omega (arith, claim_size class name, stretch_size bytes (row_word rows i stored_place_column) (row_word rows i stored_length_column)) in
      let value = value_text class (row_word rows i stored_kind_column) (row_word rows i stored_low_column) (row_word rows i stored_high_column) in
      let b = value ++ (10 ∷ []) in
      two (decimal_of i) (a ++ b) (decimal_size i (omega arith))
      (two a b {k = length bytes + 64} claimed
      (two value (10 ∷ []) {n = 1} {k = 54} (value_size_lem class (row_word rows i stored_kind_column) _ _ (row_below i stored_low_column) (row_below i stored_high_column)) (omega arith) (omega arith)) (omega arith)) (omega arith)

count_size : (n : ℕ) → n < 2 ^ 64 → length (count_text n) ≤ 28
unfolding count_text bytes_of
count_size n h =
    two (bytes_of " items ") (decimal_of n ++ (10 ∷ [])) {m = 7} {n = 21} (omega arith)
    (two (decimal_of n) (10 ∷ []) {n = 1} (decimal_size n (omega arith)) (omega arith) (omega arith)) (omega arith)

head_size_lem : (bytes answer : List ℕ) → get_or answer counted 0 < 2 ^ 64 → length (stored_head bytes answer) ≤ length bytes + beside_text
unfolding stored_head bytes_of
head_size_lem bytes answer h =
    let name = stretch_of bytes (get_or answer name_first 0) (get_or answer name_length 0) in
    two (bytes_of "package ") (name ++ count_text (get_or answer counted 0)) {m = 8} {n = length bytes + 28} (omega arith)
    (two name (count_text (get_or answer counted 0)) (stretch_size bytes (get_or answer name_first 0) (get_or answer name_length 0)) (count_size (get_or answer counted 0) h) (omega arith)) (omega arith)

listed_size : (bytes rows answer : List ℕ) (i : ℕ) → i < 2 ^ 64 → ((k : ℕ) → get_or rows k 0 < 2 ^ 64) → ((k : ℕ) → get_or answer k 0 < 2 ^ 64)
    → length (stored_listed bytes rows answer i) ≤ length bytes + beside_text
unfolding stored_listed
listed_size bytes rows answer zero h w a = head_size_lem bytes answer (a counted)
listed_size bytes rows answer (suc i) h w a = item_size bytes rows w i (omega arith)

-- the longest line: the table's bytes, if they are all a name's, and some more
pub stored_lines_fit : StoredLinesFit
unfolding stored_line line_by
stored_lines_fit bytes rows answer i h w a =
    either (eqb (get_or answer refusal 0) 0) _ _ (listed_size bytes rows answer i h w a)
    (le_trans (refused_size (get_or answer refusal 0) (get_or answer place 0) (a refusal) (a place)) (omega arith))

pub sample_stored : SampleStored
unfolding stored_rows_from unstored_words row_word digits_of decimal_of signed_text lines_from line_by lines_by stretch_of claim_text folded_text upper_of value_text count_text stored_head stored_item stored_listed stored_line stored_lines stored_listing bytes_of
sample_stored = (
  read_table (record { 0 = 3 }) 1 4,
  (
    stored_rows_from 4 five_items,
    (
      record {
        name = bytes_of "p";
        items = five_items;
        stored = five_fields;
        room = omega arith;
        first_is = refl;
        size_is = refl;
        count_is = refl;
        rows_are = refl;
      },
      refl,
    ),
  ),
)
