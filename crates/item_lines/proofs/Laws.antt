-- Each line's definition, of what is put. Assumes nothing.
use Prim.Native.Nat.{ℕ, zero, suc, ◌+◌, ◌-◌, ◌/◌, ◌≤◌, min}
use native.Mathlib.Omega.{arith}
use mathlib.Core.Path.{◌≡◌, refl, ap, ◌∙◌}
use mathlib.Core.Bool.{Bool, true, false}
use mathlib.Core.List.{List, [], ◌∷◌}
use lib.ListN.{length, get_or, get_or-eq_default}
use borrow.Author.Tests.{eq-eqb, ne_eqb}
use Rattle.words.specs.Words.{bytes_of}
use Rattle.places.specs.Places.{cell_at}
use Rattle.records.specs.Records.{word_at, is_item}
use Rattle.pieces.specs.Records.{record_words}
use Rattle.puts.specs.Puts.{Wrote}
use Rattle.puts.specs.Decimals.{decimal_of, line_feed}
use Rattle.refused_line.specs.Refused.{counted, whole, whole_text, lines_by, Unrefused}
use Rattle.refused_line.proofs.Laws.{given_line}
use Rattle.puts.proofs.Laws.{then3, then4, named}
use Rattle.item_words.specs.LineWords.{stretch_of, claim_text, value_text}
use Rattle.item_lines.specs.Lines.{spelled_of, state_word, state_words, result_of, item_of, line_of, head_of, listed_line, survey_line, survey_lines}

module _ {t t' : List ℕ} {at r : ℕ} where
  pub named_put : (s els : List ℕ) (class e x n : ℕ) → x ≡ cell_at els e 1 → n ≡ cell_at els e 2 → Wrote t at (claim_text class (stretch_of s x n)) t' r
      → Wrote t at (claim_text class (spelled_of s els e)) t' r
  unfolding spelled_of
  named_put s els class e x n p q k = named (rw (← p, ← q)) k

  pub state_put : (state k : ℕ) → state ≡ k → Wrote t at (state_word k) t' r → Wrote t at (state_word state) t' r
  state_put state k e p = named (ap state_word e) p

  pub state_result : (items : List ℕ) (i state : ℕ) → state ≡ word_at items i 4 → (state ≡ 0 → ⊥) → Wrote t at (state_word state) t' r
      → Wrote t at (result_of items i) t' r
  unfolding result_of
  state_result items i state e h p = named (rw (← e, ne_eqb state 0 h)) p

  pub value_result : (items : List ℕ) (i state class kind low high : ℕ) → state ≡ word_at items i 4 → state ≡ 0 → class ≡ word_at items i 0
      → kind ≡ word_at items i 5 → low ≡ word_at items i 6 → high ≡ word_at items i 7 → Wrote t at (value_text class kind low high) t' r
      → Wrote t at (result_of items i) t' r
  unfolding result_of
  value_result items i state class kind low high e h a b c d p = named (rw (← e, ← a, ← b, ← c, ← d, eq-eqb state 0 h)) p

  pub item_line : (s els items : List ℕ) (i class : ℕ) (b : Bool) → class ≡ word_at items i 0 → b ≡ is_item class → b ≡ true
      → Wrote t at (item_of s els items i) t' r → Wrote t at (line_of s els items i) t' r
  unfolding line_of
  item_line s els items i class b e w h p = named (rw (← e, ← w, h)) p

  pub no_line : (s els items : List ℕ) (i class : ℕ) (b : Bool) → class ≡ word_at items i 0 → b ≡ is_item class → b ≡ false
      → Wrote t at [] t' r → Wrote t at (line_of s els items i) t' r
  unfolding line_of
  no_line s els items i class b e w h p = named (rw (← e, ← w, h)) p

pub item_put : {t t₁ t₂ t₃ t₄ : List ℕ} {a b c d e : ℕ} (s els items : List ℕ) (i class name : ℕ) → class ≡ word_at items i 0
    → name ≡ word_at items i 3 → Wrote t a (decimal_of i) t₁ b → Wrote t₁ b (claim_text class (spelled_of s els name)) t₂ c
    → Wrote t₂ c (result_of items i) t₃ d → Wrote t₃ d (line_feed ∷ []) t₄ e → Wrote t a (item_of s els items i) t₄ e
unfolding item_of
item_put s els items i class name k n p q u v = named (rw (← k, ← n)) (then4 p q u v)

-- any state past 9
on : (k n : ℕ) → k ≤ n → (n ≡ k → ⊥) → suc k ≤ n
on k n h f = omega arith

pub range_put : {t t' : List ℕ} {at r : ℕ} (n : ℕ) → (n ≡ 0 → ⊥) → (n ≡ 1 → ⊥) → (n ≡ 2 → ⊥) → (n ≡ 3 → ⊥) → (n ≡ 4 → ⊥) → (n ≡ 5 → ⊥)
    → (n ≡ 6 → ⊥) → (n ≡ 7 → ⊥) → (n ≡ 8 → ⊥) → (n ≡ 9 → ⊥) → Wrote t at (bytes_of " range") t' r → Wrote t at (state_word n) t' r
unfolding state_word state_words
range_put n a b c d e f g h i j p =
    let past : 10 ≤ n = on 9 n (on 8 n (on 7 n (on 6 n (on 5 n (on 4 n (on 3 n (on 2 n (on 1 n (on 0 n (omega arith) a) b) c) d) e) f) g) h) i) j in
    named (ap bytes_of (get_or-eq_default state_words " range" past)) p

pub head_put : {t t₁ t₂ t₃ : List ℕ} {a b c d : ℕ} (n w : ℕ) → Wrote t a (bytes_of "pieces ") t₁ b → Wrote t₁ b (decimal_of n) t₂ c
    → Wrote t₂ c (whole_text w) t₃ d → Wrote t a (head_of n w) t₃ d
unfolding head_of
head_put n w p q u = then3 p q u

-- a line by its number
line_of_lem : (s els items answer : List ℕ) (i : ℕ) → (i ≡ 0 → ⊥) → listed_line s els items answer i ≡ line_of s els items (i - 1)
unfolding listed_line
line_of_lem s els items answer zero h = absurd (h refl)
line_of_lem s els items answer (suc i) h = let e : i ≡ suc i - 1 = omega arith in ap (λ (k : ℕ). line_of s els items k) e

module _ {t₀ t t' : List ℕ} {at r : ℕ} (s els items answer : List ℕ) where
  pub head_survey : (i n k : ℕ) → Unrefused answer t₀ t → i ≡ 0 → n ≡ get_or answer counted 0 → k ≡ get_or answer whole 0
      → Wrote t at (head_of n k) t' r → Wrote t₀ at (survey_line s els items answer i) t' r
  unfolding survey_line listed_line
  head_survey i n k u z a b p = given_line answer (listed_line s els items answer) i u (named (rw (z, ← a, ← b)) p)

  pub item_survey : (i : ℕ) → Unrefused answer t₀ t → (i ≡ 0 → ⊥) → Wrote t at (line_of s els items (i - 1)) t' r
      → Wrote t₀ at (survey_line s els items answer i) t' r
  unfolding survey_line
  item_survey i u z p = given_line answer (listed_line s els items answer) i u (named (line_of_lem s els items answer i z) p)

-- how many lines there are
pub lines_of : (items answer : List ℕ) (r l n : ℕ) → r ≡ lines_by answer (l + 1) → l ≡ min n (length items / record_words) → n ≡ get_or answer counted 0 → r ≡ survey_lines items answer
unfolding survey_lines
lines_of items answer r l n p q e =
    let d : l + 1 ≡ suc (min (get_or answer counted 0) (length items / record_words)) = omega arith in
    p ∙ ap (λ (k : ℕ). lines_by answer k) d
