-- The line's definition, of what is put, and an answer's lines by whether it is refused. Assumes nothing.
use Prim.Native.Nat.{ℕ}
use mathlib.Core.Path.{◌≡◌, sym}
use mathlib.Core.Bool.{false≢true}
use mathlib.Core.List.{List, [], ◌∷◌}
use lib.ListN.{get_or}
use borrow.Author.Tests.{eq-eqb, ne_eqb}
use Rattle.words.specs.Words.{bytes_of}
use Rattle.puts.specs.Puts.{Wrote}
use Rattle.puts.specs.Decimals.{decimal_of, line_feed}
use Rattle.puts.proofs.Laws.{then3, named}
use Rattle.refused_line.specs.Refused.{refusal, place, place_text, refused_of, line_by, lines_by, whole_text, Unrefused, Refusing}

pub place_put : {t t₁ t₂ t₃ : List ℕ} {a b c d : ℕ} (n : ℕ) → Wrote t a (bytes_of " at ") t₁ b → Wrote t₁ b (decimal_of n) t₂ c
    → Wrote t₂ c (line_feed ∷ []) t₃ d → Wrote t a (place_text n) t₃ d
unfolding place_text
place_put n p q u = then3 p q u

pub refused_put : {t t₁ t₂ t₃ : List ℕ} {a b c d : ℕ} (n at : ℕ) → Wrote t a (bytes_of "refused ") t₁ b → Wrote t₁ b (decimal_of n) t₂ c
    → Wrote t₂ c (place_text at) t₃ d → Wrote t a (refused_of n at) t₃ d
unfolding refused_of
refused_put n at p q u = then3 p q u

-- how many lines
pub given_lines : (answer : List ℕ) (w n : ℕ) → w ≡ get_or answer refusal 0 → w ≡ 0 → n ≡ lines_by answer n
unfolding lines_by
given_lines answer w n e h = rw (← e, h)

pub refused_lines : (answer : List ℕ) (w n : ℕ) → w ≡ get_or answer refusal 0 → (w ≡ 0 → ⊥) → 1 ≡ lines_by answer n
unfolding lines_by
refused_lines answer w n e h = rw (← e, ne_eqb w 0 h)

-- a line of an answer that is no refusal, and of one that is
pub given_line : {t₀ t t' : List ℕ} {at r : ℕ} (answer : List ℕ) (line : ℕ → List ℕ) (i : ℕ) → Unrefused answer t₀ t
    → Wrote t at (line i) t' r → Wrote t₀ at (line_by answer line i) t' r
unfolding line_by
given_line answer line i u p = rw (← u.same) (named (rw u.given) p)

pub refused_line : {t t' : List ℕ} {at r : ℕ} (answer : List ℕ) (line : ℕ → List ℕ) (i w : ℕ) (x : ℕ) → w ≡ get_or answer refusal 0 → (w ≡ 0 → ⊥)
    → x ≡ get_or answer place 0 → Wrote t at (refused_of w x) t' r → Wrote t at (line_by answer line i) t' r
unfolding line_by
refused_line answer line i w x e h d p = named (rw (← e, ← d, ne_eqb w 0 h)) p

pub refusing : {t t' : List ℕ} {at r : ℕ} (answer : List ℕ) (w x : ℕ) → w ≡ get_or answer refusal 0 → (w ≡ 0 → ⊥) → x ≡ get_or answer place 0
    → Wrote t at (refused_of w x) t' r → Refusing answer t at t' r
refusing answer w x e h d p = record { given = rw (← e) (ne_eqb w 0 h); put = rw (← e, ← d) p }

pub its_line : {t t' : List ℕ} {at r : ℕ} (answer : List ℕ) (line : ℕ → List ℕ) (i : ℕ) → Refusing answer t at t' r → Wrote t at (line_by answer line i) t' r
unfolding line_by
its_line answer line i u = named (rw u.given) u.put

-- of an answer only one of the two is permitted, and what is put is told by it
pub told_apart : {A : Type 0} {t t' t'' : List ℕ} {at r : ℕ} (answer : List ℕ) → Unrefused answer t t' → Refusing answer t at t'' r → A
told_apart answer u v = absurd (false≢true (sym (rw u.given at v.given)))

-- whether a survey is whole
module _ {t t' : List ℕ} {at r : ℕ} where
  pub whole_put : (w : ℕ) → w ≡ 1 → Wrote t at (bytes_of " whole yes\n") t' r → Wrote t at (whole_text w) t' r
  unfolding whole_text
  whole_put w h p = named (rw (eq-eqb w 1 h)) p

  pub part_put : (w : ℕ) → (w ≡ 1 → ⊥) → Wrote t at (bytes_of " whole no\n") t' r → Wrote t at (whole_text w) t' r
  unfolding whole_text
  part_put w h p = named (rw (ne_eqb w 1 h)) p
