-- The turns of a spelling, in the code's terms: each premise is what a call or a test gives. Assumes nothing.
use mathlib.Core.Path.{◌≡◌, refl, sym, ap, ◌∙◌}
use mathlib.Core.Bool.{Bool, true, false, ◌&&◌}
use mathlib.Core.List.{List, [], ◌∷◌}
use Prim.Native.Nat.{ℕ, suc, ◌+◌, ◌-◌, ◌≤◌, ◌<◌}
use native.Mathlib.Nat.{add-sub_cancel_left}
use native.Mathlib.Numerals.{add-one}
use native.Mathlib.Omega.{arith}
use borrow.Author.Tests.{eq-eqb, ne_eqb, le-leb, lt-leb, leb-true}
use lib.Dec.{eqb}
use lib.ListN.{length, get_or, take, drop, length-drop, drop_of_length-le}
use lib.Seq.{drop-cons, length-take-le}
use Rattle.places.specs.Places.{cell_at, within}
use Rattle.same_names.specs.Spelling.{spelt, counts}
use Rattle.same_names.specs.Alike.{spelled_as}

pub unlike : (basic : Bool) (a b : List ℕ) → (length a ≡ length b → ⊥) → false ≡ spelt basic a b
unfolding spelt
unlike basic [] [] h = absurd (h refl)
unlike basic [] (y ∷ b) h = refl
unlike basic (x ∷ a) [] h = refl
unlike basic (x ∷ a) (y ∷ b) h = rest (eqb (counts basic x) (counts basic y)) (unlike basic a b (λ e. h (ap suc e)))
  where
    rest : (t : Bool) → false ≡ spelt basic a b → false ≡ (t && spelt basic a b)
    rest true e = e
    rest false e = refl

-- the turns of `same`
module _ (basic : Bool) (a b : List ℕ) (i : ℕ) (whole : Bool) (h : spelt basic (drop i a) (drop i b) ≡ whole) (l : i < length a) (e : length a ≡ length b)
    (x y : ℕ) (p : x ≡ counts basic (get_or a i 0)) (q : y ≡ counts basic (get_or b i 0)) where
  opened : spelt basic (drop i a) (drop i b) ≡ (eqb x y && spelt basic (drop (suc i) a) (drop (suc i) b))
  unfolding spelt
  opened = let k : i < length b = omega arith in rw (drop-cons a i 0 l, drop-cons b i 0 k, p, q)

  pub byte_differs : (x ≡ y → ⊥) → false ≡ whole
  byte_differs d = sym (sym h ∙ opened ∙ rw (ne_eqb x y d))

  pub byte_turn : x ≡ y → spelt basic (drop (i + 1) a) (drop (i + 1) b) ≡ whole
  byte_turn d = rw (add-one i) (sym (sym h ∙ opened ∙ rw (eq-eqb x y d)))

pub bytes_end : (basic : Bool) (a b : List ℕ) (i : ℕ) (whole : Bool) → spelt basic (drop i a) (drop i b) ≡ whole → length a ≡ length b → length a ≤ i → true ≡ whole
unfolding spelt
bytes_end basic a b i whole h e l =
    let k : length b ≤ i = omega arith in
    rw (drop_of_length-le a {i = i} l, drop_of_length-le b {i = i} k) at h

-- the ways of an element's spelling
module _ (basic : Bool) (text elements : List ℕ) (e first n : ℕ) (name : List ℕ) (p : first ≡ cell_at elements e 1) (q : n ≡ cell_at elements e 2) where
  pub spelled_past : length text < first → false ≡ spelled_as basic text elements e name
  unfolding spelled_as
  spelled_past h = rw (← p, ← q, lt-leb (first + n) (length text) (omega arith))

  pub spelled_long : first ≤ length text → length text - first < n → false ≡ spelled_as basic text elements e name
  unfolding spelled_as
  spelled_long h k = rw (← p, ← q, lt-leb (first + n) (length text) (omega arith))

  pub spelled_there : (r : Bool) → first ≤ length text → n ≤ length text - first → r ≡ spelt basic (take (first + n - first) (drop first text)) name → r ≡ spelled_as basic text elements e name
  unfolding spelled_as
  spelled_there r h k z = rw (← p, ← q, le-leb (first + n) (length text) (omega arith)) (rw (add-sub_cancel_left first n) at z)

-- an element of another length is spelled otherwise
pub spelled_sized : (basic : Bool) (text elements : List ℕ) (e : ℕ) (name : List ℕ) → (cell_at elements e 2 ≡ length name → ⊥) → spelled_as basic text elements e name ≡ false
unfolding spelled_as
spelled_sized basic text elements e name h = go (within text (cell_at elements e 1) (cell_at elements e 2)) refl
  where
    go : (t : Bool) → within text (cell_at elements e 1) (cell_at elements e 2) ≡ t → spelled_as basic text elements e name ≡ false
    go true w =
        let l = leb-true (cell_at elements e 1 + cell_at elements e 2) (length text) w in
        let z = length-take-le (cell_at elements e 2) (drop (cell_at elements e 1) text) (rw length-drop (omega arith)) in
        rw w (sym (unlike basic (take (cell_at elements e 2) (drop (cell_at elements e 1) text)) name (λ q. h (sym z ∙ q))))
    go false w = rw w
