-- Each line's definition, of what is put. Assumes nothing.
use Prim.Native.Nat.{ℕ, ◌+◌, ◌-◌, ◌/◌, ◌≤◌, ◌<◌, min}
use native.Mathlib.Omega.{arith}
use mathlib.Core.Path.{◌≡◌, ap, ◌∙◌}
use mathlib.Core.List.{List, [], ◌∷◌}
use lib.ListN.{length, get_or, take, drop}
use borrow.Author.Tests.{eq-eqb, ne_eqb, le-leb, lt-leb}
use Rattle.words.specs.Words.{bytes_of}
use Rattle.puts.specs.Puts.{Wrote}
use Rattle.puts.specs.Lines.{numbers_in_row}
use Rattle.puts.specs.Decimals.{decimal_of, field_of, fields_of, line_feed}
use Rattle.puts.proofs.Laws.{then3, then4, named}
use Rattle.states.specs.States.{states}
use Rattle.refused_line.specs.Refused.{counted, whole, whole_text, lines_by, Unrefused}
use Rattle.refused_line.proofs.Laws.{given_line}
use Rattle.pieces.specs.Records.{record_words}
use Rattle.record_lines.specs.Lines.{frame, pair, earlier, later, tally, frame_text, head_of, first_of, numbers_at, record_fields, tally_text, both_of, pair_text, records_listed, last_of, listed_line, record_line, beside_records, record_lines}

module _ {t t' : List ℕ} {at r : ℕ} where
  pub good_put : (w : ℕ) → w ≡ 1 → Wrote t at (bytes_of " frame good") t' r → Wrote t at (frame_text w) t' r
  unfolding frame_text
  good_put w h p = named (rw (eq-eqb w 1 h)) p

  pub bad_put : (w : ℕ) → (w ≡ 1 → ⊥) → Wrote t at (bytes_of " frame bad") t' r → Wrote t at (frame_text w) t' r
  unfolding frame_text
  bad_put w h p = named (rw (ne_eqb w 1 h)) p

  pub pair_put : (w e l : ℕ) → w ≡ 1 → Wrote t at (both_of e l) t' r → Wrote t at (pair_text w e l) t' r
  unfolding pair_text
  pair_put w e l h p = named (rw (eq-eqb w 1 h)) p

  pub none_put : (w e l : ℕ) → (w ≡ 1 → ⊥) → Wrote t at (bytes_of "pair none\n") t' r → Wrote t at (pair_text w e l) t' r
  unfolding pair_text
  none_put w e l h p = named (rw (ne_eqb w 1 h)) p

  -- what stands after the records
  pub tally_last : (answer : List ℕ) (n i : ℕ) → n < i → i - 1 ≡ n → Wrote t at (tally_text answer) t' r → Wrote t at (last_of answer n i) t' r
  unfolding last_of
  tally_last answer n i k h p = let e : i ≡ n + 1 = omega arith in named (rw (eq-eqb i (n + 1) e)) p

  pub pair_last : (answer : List ℕ) (n i p e l : ℕ) → n < i → (i - 1 ≡ n → ⊥) → p ≡ get_or answer pair 0 → e ≡ get_or answer earlier 0 → l ≡ get_or answer later 0
      → Wrote t at (pair_text p e l) t' r → Wrote t at (last_of answer n i) t' r
  unfolding last_of
  pair_last answer n i p e l k h x y z q = named (rw (ne_eqb i (n + 1) (λ u. h (omega arith)), ← x, ← y, ← z)) q

pub head_put : {t t₁ t₂ t₃ t₄ : List ℕ} {a b c d e : ℕ} (n f w : ℕ) → Wrote t a (bytes_of "pieces ") t₁ b → Wrote t₁ b (decimal_of n) t₂ c
    → Wrote t₂ c (frame_text f) t₃ d → Wrote t₃ d (whole_text w) t₄ e → Wrote t a (head_of n f w) t₄ e
unfolding head_of
head_put n f w p q u v = then4 p q u v

pub first_put : {t t' : List ℕ} {at r : ℕ} (answer : List ℕ) (n f w : ℕ) → n ≡ get_or answer counted 0 → f ≡ get_or answer frame 0 → w ≡ get_or answer whole 0
    → Wrote t at (head_of n f w) t' r → Wrote t at (first_of answer) t' r
unfolding first_of
first_put answer n f w x y z p = named (rw (← x, ← y, ← z)) p

pub record_put : {t t₁ t₂ t₃ : List ℕ} {a b c d : ℕ} (items ws : List ℕ) (i : ℕ) → ws ≡ numbers_in_row items record_words i → Wrote t a (decimal_of i) t₁ b
    → Wrote t₁ b (fields_of ws) t₂ c → Wrote t₂ c (line_feed ∷ []) t₃ d → Wrote t a (record_fields items i) t₃ d
unfolding record_fields numbers_at numbers_in_row
record_put items ws i e p q u = named (rw (← e)) (then3 p q u)

pub tally_put : {t t₁ t₂ t₃ : List ℕ} {a b c d : ℕ} (answer ws : List ℕ) → ws ≡ take states (drop tally answer) → Wrote t a (bytes_of "tally") t₁ b
    → Wrote t₁ b (fields_of ws) t₂ c → Wrote t₂ c (line_feed ∷ []) t₃ d → Wrote t a (tally_text answer) t₃ d
unfolding tally_text
tally_put answer ws e p q u = named (rw (← e)) (then3 p q u)

pub both_put : {t t₁ t₂ t₃ t₄ : List ℕ} {a b c d f : ℕ} (e l : ℕ) → Wrote t a (bytes_of "pair") t₁ b → Wrote t₁ b (field_of e) t₂ c
    → Wrote t₂ c (field_of l) t₃ d → Wrote t₃ d (line_feed ∷ []) t₄ f → Wrote t a (both_of e l) t₄ f
unfolding both_of
both_put e l p q u v = then4 p q u v

-- a line by its number
module _ {t₀ t t' : List ℕ} {at r : ℕ} (items answer : List ℕ) where
  pub head_record : (i : ℕ) → Unrefused answer t₀ t → i ≡ 0 → Wrote t at (first_of answer) t' r → Wrote t₀ at (record_line items answer i) t' r
  unfolding record_line listed_line
  head_record i u z q = given_line answer (listed_line items answer) i u (named (rw (eq-eqb i 0 z)) q)

  pub one_record : (i n : ℕ) → Unrefused answer t₀ t → (i ≡ 0 → ⊥) → n ≡ records_listed items answer → i ≤ n
      → Wrote t at (record_fields items (i - 1)) t' r → Wrote t₀ at (record_line items answer i) t' r
  unfolding record_line listed_line
  one_record i n u z d k q = given_line answer (listed_line items answer) i u (named (rw (ne_eqb i 0 z, ← d, le-leb i n k)) q)

  pub last_record : (i n : ℕ) → Unrefused answer t₀ t → (i ≡ 0 → ⊥) → n ≡ records_listed items answer → n < i
      → Wrote t at (last_of answer n i) t' r → Wrote t₀ at (record_line items answer i) t' r
  unfolding record_line listed_line
  last_record i n u z d k q = given_line answer (listed_line items answer) i u (named (rw (ne_eqb i 0 z, ← d, lt-leb i n k)) q)

-- how many records are listed, and how many lines there are
pub listed_of : (items answer : List ℕ) (l n : ℕ) → l ≡ min n (length items / record_words) → n ≡ get_or answer counted 0 → l ≡ records_listed items answer
unfolding records_listed
listed_of items answer l n q e = omega arith

pub lines_of : (items answer : List ℕ) (r l n : ℕ) → r ≡ lines_by answer (l + beside_records) → l ≡ min n (length items / record_words) → n ≡ get_or answer counted 0
    → r ≡ record_lines items answer
unfolding record_lines
lines_of items answer r l n p q e = p ∙ ap (λ (k : ℕ). lines_by answer (k + beside_records)) (listed_of items answer l n q e)
