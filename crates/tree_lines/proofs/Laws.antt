-- Each line's definition, of what is put. Assumes nothing.
use Prim.Native.Nat.{ℕ, zero, suc, ◌+◌, ◌-◌, ◌/◌, min}
use native.Mathlib.Omega.{arith}
use mathlib.Core.Path.{◌≡◌, refl, ap, ◌∙◌}
use mathlib.Core.List.{List, [], ◌∷◌}
use lib.ListN.{length, get_or}
use borrow.Author.Tests.{eq-eqb, ne_eqb}
use Rattle.words.specs.Words.{bytes_of}
use Rattle.forms.specs.RowWords.{row_numbers}
use Rattle.puts.specs.Puts.{Wrote}
use Rattle.puts.specs.Lines.{numbers_in_row}
use Rattle.puts.specs.Decimals.{decimal_of, fields_of, line_feed}
use Rattle.puts.proofs.Laws.{then3, named}
use Rattle.refused_line.specs.Refused.{counted, lines_by, Unrefused}
use Rattle.refused_line.proofs.Laws.{given_line}
use Rattle.tree_lines.specs.Lines.{passes, failed_row, fails_of, verdict_text, head_of, numbers_at, row_text, listed_line, tree_line, tree_lines}

pub fails_put : {t t₁ t₂ t₃ : List ℕ} {a b c d : ℕ} (n : ℕ) → Wrote t a (bytes_of " passes no at ") t₁ b → Wrote t₁ b (decimal_of n) t₂ c
    → Wrote t₂ c (line_feed ∷ []) t₃ d → Wrote t a (fails_of n) t₃ d
unfolding fails_of
fails_put n p q u = then3 p q u

pub passes_put : {t t' : List ℕ} {at r : ℕ} (p n : ℕ) → p ≡ 1 → Wrote t at (bytes_of " passes yes\n") t' r → Wrote t at (verdict_text p n) t' r
unfolding verdict_text
passes_put p n h q = named (rw (eq-eqb p 1 h)) q

pub not_put : {t t' : List ℕ} {at r : ℕ} (p n : ℕ) → (p ≡ 1 → ⊥) → Wrote t at (fails_of n) t' r → Wrote t at (verdict_text p n) t' r
unfolding verdict_text
not_put p n h q = named (rw (ne_eqb p 1 h)) q

pub head_put : {t t₁ t₂ t₃ : List ℕ} {a b c d : ℕ} (n p x : ℕ) → Wrote t a (bytes_of "rows ") t₁ b → Wrote t₁ b (decimal_of n) t₂ c
    → Wrote t₂ c (verdict_text p x) t₃ d → Wrote t a (head_of n p x) t₃ d
unfolding head_of
head_put n p x q u v = then3 q u v

pub row_put : {t t₁ t₂ t₃ : List ℕ} {a b c d : ℕ} (tree ws : List ℕ) (i : ℕ) → ws ≡ numbers_in_row tree row_numbers i → Wrote t a (decimal_of i) t₁ b
    → Wrote t₁ b (fields_of ws) t₂ c → Wrote t₂ c (line_feed ∷ []) t₃ d → Wrote t a (row_text tree i) t₃ d
unfolding row_text numbers_at numbers_in_row
row_put tree ws i e p q u = named (rw (← e)) (then3 p q u)

-- a line by its number
line_of_lem : (tree answer : List ℕ) (i : ℕ) → (i ≡ 0 → ⊥) → listed_line tree answer i ≡ row_text tree (i - 1)
unfolding listed_line
line_of_lem tree answer zero h = absurd (h refl)
line_of_lem tree answer (suc i) h = let e : i ≡ suc i - 1 = omega arith in ap (λ (k : ℕ). row_text tree k) e

module _ {t₀ t t' : List ℕ} {at r : ℕ} (tree answer : List ℕ) where
  pub head_tree : (i n p x : ℕ) → Unrefused answer t₀ t → i ≡ 0 → n ≡ get_or answer counted 0 → p ≡ get_or answer passes 0
      → x ≡ get_or answer failed_row 0 → Wrote t at (head_of n p x) t' r → Wrote t₀ at (tree_line tree answer i) t' r
  unfolding tree_line listed_line
  head_tree i n p x u z a b c q = given_line answer (listed_line tree answer) i u (named (rw (z, ← a, ← b, ← c)) q)

  pub row_tree : (i : ℕ) → Unrefused answer t₀ t → (i ≡ 0 → ⊥) → Wrote t at (row_text tree (i - 1)) t' r → Wrote t₀ at (tree_line tree answer i) t' r
  unfolding tree_line
  row_tree i u z p = given_line answer (listed_line tree answer) i u (named (line_of_lem tree answer i z) p)

-- how many lines there are
pub lines_of : (tree answer : List ℕ) (r l n : ℕ) → r ≡ lines_by answer (l + 1) → l ≡ min n (length tree / row_numbers) → n ≡ get_or answer counted 0 → r ≡ tree_lines tree answer
unfolding tree_lines
lines_of tree answer r l n p q e =
    let d : l + 1 ≡ suc (min (get_or answer counted 0) (length tree / row_numbers)) = omega arith in
    p ∙ ap (λ (k : ℕ). lines_by answer k) d
