-- Each line's definition, of what is put. Assumes nothing.
use Prim.Native.Nat.{ℕ, zero, suc, ◌+◌, ◌-◌, ◌≤◌, ◌<◌, min}
use native.Mathlib.Omega.{arith}
use mathlib.Core.Path.{◌≡◌, refl, ap, ◌∙◌}
use mathlib.Core.Bool.{cond}
use mathlib.Core.List.{List, [], ◌∷◌}
use lib.Dec.{ltb}
use lib.ListN.{get_or, get_or-eq_default}
use borrow.Author.Tests.{lt-ltb, le-ltb}
use Rattle.words.specs.Words.{bytes_of}
use Rattle.puts.specs.Puts.{Wrote}
use Rattle.puts.specs.Decimals.{decimal_of, field_of, line_feed}
use Rattle.puts.proofs.Laws.{then3, named}
use Rattle.refused_line.specs.Refused.{counted, lines_by, Unrefused}
use Rattle.refused_line.proofs.Laws.{given_line}
use Rattle.places.specs.Places.{kind_column, first_column, size_column, cell_at, rows_in}
use Rattle.element_lines.specs.Lines.{kind_words, kind_word, places_of, element_of, head_of, listed_line, element_line, element_lines, first_reserved}

pub kind_put : {t t' : List ℕ} {at r : ℕ} (n k : ℕ) → n ≡ k → Wrote t at (kind_word k) t' r → Wrote t at (kind_word n) t' r
kind_put n k e p = named (ap kind_word e) p

on : (k n : ℕ) → k ≤ n → (n ≡ k → ⊥) → suc k ≤ n
on k n h f = omega arith

-- any kind past the named ones
past : (n : ℕ) → (n ≡ 0 → ⊥) → (n ≡ 1 → ⊥) → (n ≡ 2 → ⊥) → (n ≡ 3 → ⊥) → (n ≡ 4 → ⊥) → (n ≡ 5 → ⊥) → (n ≡ 6 → ⊥) → (n ≡ 7 → ⊥) → 8 ≤ n
past n a b c d e f g h = on 7 n (on 6 n (on 5 n (on 4 n (on 3 n (on 2 n (on 1 n (on 0 n (omega arith) a) b) c) d) e) f) g) h

pub delimiter_put : {t t' : List ℕ} {at r : ℕ} (n : ℕ) → (n ≡ 0 → ⊥) → (n ≡ 1 → ⊥) → (n ≡ 2 → ⊥) → (n ≡ 3 → ⊥) → (n ≡ 4 → ⊥) → (n ≡ 5 → ⊥)
    → (n ≡ 6 → ⊥) → (n ≡ 7 → ⊥) → n < first_reserved → Wrote t at (bytes_of " delimiter") t' r → Wrote t at (kind_word n) t' r
unfolding kind_word kind_words
delimiter_put n a b c d e f g h k p =
    let q : 8 ≤ n = past n a b c d e f g h in
    named (ap bytes_of (get_or-eq_default kind_words (cond (ltb n first_reserved) " delimiter" " reserved") q ∙ rw (lt-ltb n first_reserved k) refl)) p

pub reserved_put : {t t' : List ℕ} {at r : ℕ} (n : ℕ) → (n ≡ 0 → ⊥) → (n ≡ 1 → ⊥) → (n ≡ 2 → ⊥) → (n ≡ 3 → ⊥) → (n ≡ 4 → ⊥) → (n ≡ 5 → ⊥)
    → (n ≡ 6 → ⊥) → (n ≡ 7 → ⊥) → first_reserved ≤ n → Wrote t at (bytes_of " reserved") t' r → Wrote t at (kind_word n) t' r
unfolding kind_word kind_words
reserved_put n a b c d e f g h k p =
    let q : 8 ≤ n = past n a b c d e f g h in
    named (ap bytes_of (get_or-eq_default kind_words (cond (ltb n first_reserved) " delimiter" " reserved") q ∙ rw (le-ltb n first_reserved k) refl)) p

pub places_put : {t t₁ t₂ t₃ : List ℕ} {a b c d : ℕ} (f n : ℕ) → Wrote t a (field_of f) t₁ b → Wrote t₁ b (field_of n) t₂ c
    → Wrote t₂ c (line_feed ∷ []) t₃ d → Wrote t a (places_of f n) t₃ d
unfolding places_of
places_put f n p q u = then3 p q u

pub element_put : {t t₁ t₂ t₃ : List ℕ} {a b c d : ℕ} (table : List ℕ) (i k f n : ℕ) → k ≡ cell_at table i kind_column → f ≡ cell_at table i first_column
    → n ≡ cell_at table i size_column → Wrote t a (decimal_of i) t₁ b → Wrote t₁ b (kind_word k) t₂ c → Wrote t₂ c (places_of f n) t₃ d
    → Wrote t a (element_of table i) t₃ d
unfolding element_of
element_put table i k f n x y z p q u = named (rw (← x, ← y, ← z)) (then3 p q u)

pub head_put : {t t₁ t₂ t₃ : List ℕ} {a b c d : ℕ} (n : ℕ) → Wrote t a (bytes_of "elements ") t₁ b → Wrote t₁ b (decimal_of n) t₂ c
    → Wrote t₂ c (line_feed ∷ []) t₃ d → Wrote t a (head_of n) t₃ d
unfolding head_of
head_put n q u v = then3 q u v

-- a line by its number
line_of_lem : (table answer : List ℕ) (i : ℕ) → (i ≡ 0 → ⊥) → listed_line table answer i ≡ element_of table (i - 1)
unfolding listed_line
line_of_lem table answer zero h = absurd (h refl)
line_of_lem table answer (suc i) h = let e : i ≡ suc i - 1 = omega arith in ap (λ (k : ℕ). element_of table k) e

module _ {t₀ t t' : List ℕ} {at r : ℕ} (table answer : List ℕ) where
  pub head_element : (i n : ℕ) → Unrefused answer t₀ t → i ≡ 0 → n ≡ get_or answer counted 0
      → Wrote t at (head_of n) t' r → Wrote t₀ at (element_line table answer i) t' r
  unfolding element_line listed_line
  head_element i n u z a q = given_line answer (listed_line table answer) i u (named (rw (z, ← a)) q)

  pub one_element : (i : ℕ) → Unrefused answer t₀ t → (i ≡ 0 → ⊥) → Wrote t at (element_of table (i - 1)) t' r → Wrote t₀ at (element_line table answer i) t' r
  unfolding element_line
  one_element i u z p = given_line answer (listed_line table answer) i u (named (line_of_lem table answer i z) p)

-- how many lines there are
pub lines_of : (table answer : List ℕ) (r l n x : ℕ) → r ≡ lines_by answer (l + 1) → l ≡ min n x → x ≡ rows_in table → n ≡ get_or answer counted 0 → r ≡ element_lines table answer
unfolding element_lines
lines_of table answer r l n x p q f e =
    let d : l + 1 ≡ suc (min (get_or answer counted 0) (rows_in table)) = omega arith in
    p ∙ ap (λ (k : ℕ). lines_by answer k) d
