-- Each definition, of what is put. Assumes nothing.
use Prim.Native.Nat.{ℕ, ◌+◌, ◌-◌, ◌^◌, ◌≤◌, ◌<◌}
use native.Mathlib.Nat.{add-sub_cancel_left}
use native.Mathlib.Omega.{arith}
use mathlib.Core.Path.{◌≡◌, ap, sym, ◌∙◌}
use mathlib.Core.Bool.{Bool, true, false}
use mathlib.Core.List.{List, []}
use mir.Syntax.{w64}
use mir.Val.{Fits}
use lib.ListN.{length, take, drop}
use borrow.Author.Tests.{eq-eqb, ne_eqb, leb-true}
use Rattle.words.specs.Words.{bytes_of}
use Rattle.places.specs.Places.{within}
use Rattle.puts.specs.Puts.{Wrote}
use Rattle.puts.specs.Decimals.{signed_text}
use Rattle.puts.proofs.Laws.{then, then3, named}
use Rattle.item_words.specs.LineWords.{stretch_of, claim_text, folded_text, upper_of, value_text}

-- where a stretch's bytes stand, and that the part is within them
pub ends : (s : List ℕ) (x n : ℕ) (b : Bool) → b ≡ within s x n → b ≡ true → x + n ≤ length s
ends s x n b w h = leb-true (x + n) (length s) (sym w ∙ h)

pub end_fits : (s : List ℕ) (x n : ℕ) (b : Bool) → b ≡ within s x n → b ≡ true → length s < 2 ^ 64 → Fits w64 (x + n)
end_fits s x n b w h f = let e : x + n ≤ length s = ends s x n b w h in omega arith

module _ {t t' : List ℕ} {at r : ℕ} where
  pub stretch_in : (s : List ℕ) (x n : ℕ) (b : Bool) → b ≡ within s x n → b ≡ true
      → Wrote t at (take (x + n - x) (drop x s)) t' r → Wrote t at (stretch_of s x n) t' r
  unfolding stretch_of
  stretch_in s x n b w h k = named (rw (← w, h) (ap (λ (m : ℕ). take m (drop x s)) (sym (add-sub_cancel_left x n)))) k

  pub stretch_out : (s : List ℕ) (x n : ℕ) (b : Bool) → b ≡ within s x n → b ≡ false → Wrote t at [] t' r → Wrote t at (stretch_of s x n) t' r
  unfolding stretch_of
  stretch_out s x n b w h k = named (rw (← w, h)) k

  pub number_put : (kind word : ℕ) → (kind ≡ 2 → ⊥) → Wrote t at (signed_text word) t' r → Wrote t at (folded_text kind word) t' r
  unfolding folded_text
  number_put kind word h p = named (rw (ne_eqb kind 2 h)) p

  pub false_put : (kind word : ℕ) → kind ≡ 2 → word ≡ 0 → Wrote t at (bytes_of "false") t' r → Wrote t at (folded_text kind word) t' r
  unfolding folded_text
  false_put kind word h k p = named (rw (eq-eqb kind 2 h, eq-eqb word 0 k)) p

  pub true_put : (kind word : ℕ) → kind ≡ 2 → (word ≡ 0 → ⊥) → Wrote t at (bytes_of "true") t' r → Wrote t at (folded_text kind word) t' r
  unfolding folded_text
  true_put kind word h k p = named (rw (eq-eqb kind 2 h, ne_eqb word 0 k)) p

  pub piece_put : (class : ℕ) (name : List ℕ) → (class ≡ 3 → ⊥) → (class ≡ 4 → ⊥) → Wrote t at (bytes_of " piece -") t' r → Wrote t at (claim_text class name) t' r
  unfolding claim_text
  piece_put class name h k p = named (rw (ne_eqb class 3 h, ne_eqb class 4 k)) p

  pub no_upper : (class kind high : ℕ) → (class ≡ 4 → ⊥) → Wrote t at [] t' r → Wrote t at (upper_of class kind high) t' r
  unfolding upper_of
  no_upper class kind high h p = named (rw (ne_eqb class 4 h)) p

module _ {t t₁ t' : List ℕ} {at m r : ℕ} where
  pub constant_put : (class : ℕ) (name : List ℕ) → class ≡ 3 → Wrote t at (bytes_of " constant ") t₁ m → Wrote t₁ m name t' r → Wrote t at (claim_text class name) t' r
  unfolding claim_text
  constant_put class name h p q = named (rw (eq-eqb class 3 h)) (then p q)

  pub subtype_put : (class : ℕ) (name : List ℕ) → (class ≡ 3 → ⊥) → class ≡ 4 → Wrote t at (bytes_of " subtype ") t₁ m → Wrote t₁ m name t' r
      → Wrote t at (claim_text class name) t' r
  unfolding claim_text
  subtype_put class name k h p q = named (rw (ne_eqb class 3 k, eq-eqb class 4 h)) (then p q)

  pub upper_put : (class kind high : ℕ) → class ≡ 4 → Wrote t at (bytes_of " to ") t₁ m → Wrote t₁ m (folded_text kind high) t' r
      → Wrote t at (upper_of class kind high) t' r
  unfolding upper_of
  upper_put class kind high h p q = named (rw (eq-eqb class 4 h)) (then p q)

pub value_put : {t t₁ t₂ t₃ : List ℕ} {a b c d : ℕ} (class kind low high : ℕ) → Wrote t a (bytes_of " value ") t₁ b
    → Wrote t₁ b (folded_text kind low) t₂ c → Wrote t₂ c (upper_of class kind high) t₃ d → Wrote t a (value_text class kind low high) t₃ d
unfolding value_text
value_put class kind low high p q u = then3 p q u
