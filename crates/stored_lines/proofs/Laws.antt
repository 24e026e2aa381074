-- Each line's definition, of what is put. Assumes nothing.
use Prim.Native.Nat.{ℕ, zero, suc, ◌+◌, ◌-◌, ◌/◌, ◌≤◌, ◌<◌, min}
use native.Mathlib.Omega.{arith}
use mathlib.Core.Path.{◌≡◌, refl, ap, ◌∙◌}
use mathlib.Core.List.{List, [], ◌∷◌}
use lib.ListN.{length, get_or}
use Rattle.words.specs.Words.{bytes_of}
use Rattle.stored_reading.specs.StoredRows.{stored_row_words, stored_class_column, stored_place_column, stored_length_column, stored_kind_column, stored_low_column, stored_high_column}
use Rattle.puts.specs.Puts.{Wrote}
use Rattle.puts.specs.Decimals.{decimal_of, line_feed}
use Rattle.puts.proofs.Laws.{then3, then4, named}
use Rattle.item_words.specs.LineWords.{stretch_of, claim_text, value_text}
use Rattle.refused_line.specs.Refused.{counted, lines_by, Unrefused}
use Rattle.refused_line.proofs.Laws.{given_line}
use Rattle.stored_lines.specs.Lines.{row_word, name_first, name_length, count_text, stored_head, stored_item, stored_listed, stored_line, stored_lines}

pub count_put : {t t₁ t₂ t₃ : List ℕ} {a b c d : ℕ} (n : ℕ) → Wrote t a (bytes_of " items ") t₁ b → Wrote t₁ b (decimal_of n) t₂ c
    → Wrote t₂ c (line_feed ∷ []) t₃ d → Wrote t a (count_text n) t₃ d
unfolding count_text
count_put n p q u = then3 p q u

pub head_put : {t t₁ t₂ t₃ : List ℕ} {a b c d : ℕ} (bytes answer : List ℕ) (x n m : ℕ) → x ≡ get_or answer name_first 0 → n ≡ get_or answer name_length 0
    → m ≡ get_or answer counted 0 → Wrote t a (bytes_of "package ") t₁ b → Wrote t₁ b (stretch_of bytes x n) t₂ c → Wrote t₂ c (count_text m) t₃ d
    → Wrote t a (stored_head bytes answer) t₃ d
unfolding stored_head
head_put bytes answer x n m g h k p q u = named (rw (← g, ← h, ← k)) (then3 p q u)

pub item_put : {t t₁ t₂ t₃ t₄ : List ℕ} {a b c d e : ℕ} (bytes rows : List ℕ) (i y x n k l m : ℕ) → y ≡ row_word rows i stored_class_column → x ≡ row_word rows i stored_place_column
    → n ≡ row_word rows i stored_length_column → k ≡ row_word rows i stored_kind_column → l ≡ row_word rows i stored_low_column → m ≡ row_word rows i stored_high_column → Wrote t a (decimal_of i) t₁ b
    → Wrote t₁ b (claim_text y (stretch_of bytes x n)) t₂ c → Wrote t₂ c (value_text y k l m) t₃ d → Wrote t₃ d (line_feed ∷ []) t₄ e → Wrote t a (stored_item bytes rows i) t₄ e
unfolding stored_item
item_put bytes rows i y x n k l m e₁ e₂ e₃ e₄ e₅ e₆ p q u v = named (rw (← e₁, ← e₂, ← e₃, ← e₄, ← e₅, ← e₆)) (then4 p q u v)

-- a line by its number
line_of_lem : (bytes rows answer : List ℕ) (i : ℕ) → (i ≡ 0 → ⊥) → stored_listed bytes rows answer i ≡ stored_item bytes rows (i - 1)
unfolding stored_listed
line_of_lem bytes rows answer zero h = absurd (h refl)
line_of_lem bytes rows answer (suc i) h = let e : i ≡ suc i - 1 = omega arith in ap (λ (k : ℕ). stored_item bytes rows k) e

module _ {t₀ t t' : List ℕ} {at r : ℕ} (bytes rows answer : List ℕ) where
  pub head_stored : (i : ℕ) → Unrefused answer t₀ t → i ≡ 0 → Wrote t at (stored_head bytes answer) t' r → Wrote t₀ at (stored_line bytes rows answer i) t' r
  unfolding stored_line stored_listed
  head_stored i u z p = given_line answer (stored_listed bytes rows answer) i u (named (rw z) p)

  pub item_stored : (i : ℕ) → Unrefused answer t₀ t → (i ≡ 0 → ⊥) → Wrote t at (stored_item bytes rows (i - 1)) t' r
      → Wrote t₀ at (stored_line bytes rows answer i) t' r
  unfolding stored_line
  item_stored i u z p = given_line answer (stored_listed bytes rows answer) i u (named (line_of_lem bytes rows answer i z) p)

-- how many lines there are
pub lines_of : (rows answer : List ℕ) (r l n : ℕ) → r ≡ lines_by answer (l + 1) → l ≡ min n (length rows / stored_row_words) → n ≡ get_or answer counted 0 → r ≡ stored_lines rows answer
unfolding stored_lines
lines_of rows answer r l n p q e =
    let d : l + 1 ≡ suc (min (get_or answer counted 0) (length rows / stored_row_words)) = omega arith in
    p ∙ ap (λ (k : ℕ). lines_by answer k) d
