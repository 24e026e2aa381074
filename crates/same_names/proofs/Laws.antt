-- What the functions cite of the definitions. Assumes nothing.
use Prim.Native.Nat.{ℕ, zero, suc, ◌+◌, ◌-◌, ◌≤◌, ◌<◌}
use mathlib.Core.Path.{◌≡◌, refl, sym, ◌∙◌, ap}
use mathlib.Core.Bool.{Bool, true, false, ◌&&◌}
use mathlib.Core.List.{List}
use native.Mathlib.Omega.{arith}
use lib.Dec.{eqb}
use lib.ListN.{get_or}
use borrow.Author.Tests.{eq-eqb, ne_eqb}
use Rattle.classes.specs.Bytes.{lower}
use Rattle.same_names.specs.Alike.{agree, spelled_same, same_name}
use Rattle.same_names.specs.Spelling.{counts, by_kind}
use Rattle.places.specs.Places.{cell_at, within}

pub counts_basic : (t : Bool) (b r : ℕ) → t ≡ true → r ≡ lower b → r ≡ counts t b
counts_basic true b r e h = h
counts_basic false b r e h = let z : ◌≡◌ {A = ℕ} 0 1 = cc in absurd (omega arith)

module _ (t : Bool) (s : List ℕ) (x y n i : ℕ) where
  -- what is left to compare
  abbrev pub Same : Type 0
  Same = agree t s (x + i) (y + i) (n - i) ≡ agree t s x y n

  turn : Same → i < n → agree t s x y n ≡ eqb (counts t (get_or s (x + i) 0)) (counts t (get_or s (y + i) 0)) && agree t s (suc (x + i)) (suc (y + i)) (n - i - 1)
  unfolding agree
  turn inv h = let z : n - i ≡ suc (n - i - 1) = omega arith in sym inv ∙ ap (agree t s (x + i) (y + i)) z

  pub agree_more : (p q : ℕ) → Same → i < n → p ≡ counts t (get_or s (x + i) 0) → q ≡ counts t (get_or s (y + i) 0) → p ≡ q
      → agree t s (x + (i + 1)) (y + (i + 1)) (n - (i + 1)) ≡ agree t s x y n
  agree_more p q inv h e g d =
      let a : x + (i + 1) ≡ suc (x + i) = omega arith in
      let b : y + (i + 1) ≡ suc (y + i) = omega arith in
      let c : n - (i + 1) ≡ n - i - 1 = omega arith in
      z a b c ∙ sym (turn inv h ∙ ap (λ (b : Bool). b && agree t s (suc (x + i)) (suc (y + i)) (n - i - 1)) (eq-eqb _ _ (sym e ∙ d ∙ g)))
    where
      z : {u v w : ℕ} → u ≡ suc (x + i) → v ≡ suc (y + i) → w ≡ n - i - 1 → agree t s u v w ≡ agree t s (suc (x + i)) (suc (y + i)) (n - i - 1)
      z a b c = rw (a, b, c)

  pub agree_not : (p q : ℕ) → Same → i < n → p ≡ counts t (get_or s (x + i) 0) → q ≡ counts t (get_or s (y + i) 0) → (p ≡ q → ⊥) → false ≡ agree t s x y n
  agree_not p q inv h e g d =
      sym (turn inv h ∙ ap (λ (b : Bool). b && agree t s (suc (x + i)) (suc (y + i)) (n - i - 1)) (ne_eqb _ _ (λ z. d (e ∙ z ∙ sym g))))

  pub agree_end : Same → n ≤ i → true ≡ agree t s x y n
  unfolding agree
  agree_end inv h = let z : n - i ≡ 0 = omega arith in sym (sym inv ∙ ap (agree t s (x + i) (y + i)) z)

pub agree_start : (t : Bool) (s : List ℕ) (x y n : ℕ) → Same t s x y n 0
agree_start t s x y n = go (x + 0) (y + 0) (n - 0) (omega arith) (omega arith) (omega arith)
  where
    go : (u v w : ℕ) → u ≡ x → v ≡ y → w ≡ n → agree t s u v w ≡ agree t s x y n
    go u v w a b c = rw (a, b, c)

module _ (t : Bool) (s l : List ℕ) (a b : ℕ) where
  pub spelled_size : (n m : ℕ) → n ≡ cell_at l a 2 → m ≡ cell_at l b 2 → (n ≡ m → ⊥) → false ≡ spelled_same t s l a b
  unfolding spelled_same
  spelled_size n m e g d = rw (ne_eqb (cell_at l a 2) (cell_at l b 2) (λ z. d (e ∙ z ∙ sym g)))

  pub spelled_out : (n m x y : ℕ) (p q : Bool) → n ≡ cell_at l a 2 → m ≡ cell_at l b 2 → n ≡ m → x ≡ cell_at l a 1 → y ≡ cell_at l b 1
      → p ≡ within s x n → q ≡ within s y n → p && q ≡ false → false ≡ spelled_same t s l a b
  unfolding spelled_same
  spelled_out n m x y p q e g d ex ey ep eq f =
      rw (eq-eqb (cell_at l a 2) (cell_at l b 2) (sym e ∙ d ∙ g), ← e, ← ex, ← ey, ← ep, ← eq, f)

  pub spelled_in : (n m x y : ℕ) (p q r : Bool) → n ≡ cell_at l a 2 → m ≡ cell_at l b 2 → n ≡ m → x ≡ cell_at l a 1 → y ≡ cell_at l b 1
      → p ≡ within s x n → q ≡ within s y n → p && q ≡ true → r ≡ agree t s x y n → r ≡ spelled_same t s l a b
  unfolding spelled_same
  spelled_in n m x y p q r e g d ex ey ep eq f h =
      rw (eq-eqb (cell_at l a 2) (cell_at l b 2) (sym e ∙ d ∙ g), ← e, ← ex, ← ey, ← ep, ← eq, f) h

module _ (s l : List ℕ) (a b : ℕ) where
  pub same_kinds : (p q : ℕ) → p ≡ cell_at l a 0 → q ≡ cell_at l b 0 → (p ≡ q → ⊥) → false ≡ same_name s l a b
  unfolding same_name
  same_kinds p q e g d = rw (ne_eqb (cell_at l a 0) (cell_at l b 0) (λ z. d (e ∙ z ∙ sym g)))

  pub same_by : (p q : ℕ) (r : Bool) → p ≡ cell_at l a 0 → q ≡ cell_at l b 0 → p ≡ q → r ≡ by_kind p (spelled_same true s l a b) (spelled_same false s l a b) → r ≡ same_name s l a b
  unfolding same_name
  same_by p q r e g d h = rw (eq-eqb (cell_at l a 0) (cell_at l b 0) (sym e ∙ d ∙ g), ← e) h

  pub by_none : (p : ℕ) (x y : Bool) → (p ≡ 1 → ⊥) → (p ≡ 2 → ⊥) → false ≡ by_kind p x y
  by_none zero x y f g = refl
  by_none (suc zero) x y f g = absurd (f refl)
  by_none (suc (suc zero)) x y f g = absurd (g refl)
  by_none (suc (suc (suc p))) x y f g = refl
