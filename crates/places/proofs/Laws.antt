-- What the functions cite of the definitions. Assumes nothing.
use Prim.Native.Nat.{ℕ, zero, suc, ◌+◌, ◌*◌, ◌/◌, ◌-◌, ◌≤◌, ◌<◌}
use mathlib.Core.Path.{◌≡◌, refl, sym, ◌∙◌, ap}
use mathlib.Core.Bool.{Bool, true, false}
use mathlib.Core.List.{List, [], ◌∷◌}
use native.Mathlib.Omega.{arith}
use lib.Dec.{leb}
use lib.ListN.{length, get_or, set, take, drop, length-drop, drop_of_length-le}
use lib.Seq.{drop-cons, get_or-drop, take_all}
use borrow.Author.Tests.{lt-ltb, le-ltb, le-leb, lt-leb, leb-true, leb-false}
use Rattle.lent_tables.specs.TableWords.{word_in}
use Rattle.places.specs.Places.{rows_from, cell_at, kinds_of, put_row, within}

pub cell_in : (l : List ℕ) (i j : ℕ) → i < length l / 3 → get_or l (3 * i + j) 0 ≡ cell_at l i j
unfolding cell_at
cell_in l i j h = rw (lt-ltb i (length l / 3) h)

pub cell_is : (l : List ℕ) (i j : ℕ) → j < 3 → word_in 3 l i j ≡ cell_at l i j
unfolding word_in cell_at
cell_is l i j h = rw (lt-ltb j 3 h)

-- the kinds one after the other, and each by its row
pub kinds_length : (n : ℕ) (l : List ℕ) → length (kinds_of n l) ≡ n
unfolding kinds_of
kinds_length zero l = refl
kinds_length (suc n) l = ap suc (kinds_length n (drop 3 l))

kind_word_lem : (n : ℕ) (l : List ℕ) (i : ℕ) → i < n → get_or (kinds_of n l) i 0 ≡ get_or l (3 * i + 0) 0
unfolding kinds_of
kind_word_lem zero l i h = absurd (omega arith)
kind_word_lem (suc n) l zero h = refl
kind_word_lem (suc n) l (suc i) h =
    let z : 3 + (3 * i + 0) ≡ 3 * suc i + 0 = omega arith in
    kind_word_lem n (drop 3 l) i (omega arith) ∙ get_or-drop 3 l (3 * i + 0) 0 ∙ ap (λ (j : ℕ). get_or l j 0) z

pub kind_at : (t : List ℕ) (n i : ℕ) → 3 * n ≤ length t → i < n → cell_at t i 0 ≡ get_or (kinds_of n t) i 0
kind_at t n i r h = sym (kind_word_lem n t i h ∙ cell_in t i 0 (omega arith))

-- those from element i on
pub kinds_from : (t : List ℕ) (n i : ℕ) → 3 * n ≤ length t → i < n → drop i (kinds_of n t) ≡ cell_at t i 0 ∷ drop (suc i) (kinds_of n t)
kinds_from t n i r h = drop-cons (kinds_of n t) i 0 (omega (arith, kinds_length n t)) ∙ ap (λ (k : ℕ). k ∷ drop (suc i) (kinds_of n t)) (sym (kind_at t n i r h))

pub kinds_end : (t : List ℕ) (n i : ℕ) → n ≤ i → drop i (kinds_of n t) ≡ []
kinds_end t n i h = drop_of_length-le (kinds_of n t) {i = i} (omega (arith, kinds_length n t))

-- the rest of a table, and nothing past its last row
pub rest_of : (l : List ℕ) (i : ℕ) → take (length l - 3 * i) (drop (3 * i) l) ≡ rows_from l i
rest_of l i = take_all (length l - 3 * i) (drop (3 * i) l) (omega (arith, length-drop (3 * i) l))

pub nothing_past : (l : List ℕ) (i : ℕ) → length l / 3 < i → take (length l - length l) (drop (length l) l) ≡ rows_from l i
nothing_past l i h =
    take_all (length l - length l) (drop (length l) l) (omega (arith, length-drop (length l) l))
    ∙ drop_of_length-le l {i = length l} (omega arith)
    ∙ sym (drop_of_length-le l {i = 3 * i} (omega arith))

-- a row put where there is room, and where there is none
pub put_there : (t : List ℕ) (n kind first size : ℕ) → n < length t / 3 → put_row t n kind first size ≡ set (set (set t (n * 3) kind) (n * 3 + 1) first) (n * 3 + 2) size
unfolding put_row
put_there t n kind first size h = rw (lt-ltb n (length t / 3) h)

pub put_nowhere : (t : List ℕ) (n kind first size : ℕ) → length t / 3 ≤ n → put_row t n kind first size ≡ t
unfolding put_row
put_nowhere t n kind first size h = rw (le-ltb n (length t / 3) h)

pub stands_no : (s : List ℕ) (x n : ℕ) → length s < x → false ≡ within s x n
stands_no s x n h = sym (lt-leb (x + n) (length s) (omega arith))

pub stands_if : (s : List ℕ) (x n : ℕ) → x ≤ length s → leb n (length s - x) ≡ within s x n
stands_if s x n h = go (leb n (length s - x)) refl
  where
    go : (b : Bool) → leb n (length s - x) ≡ b → b ≡ within s x n
    go true e = sym (le-leb (x + n) (length s) (omega (arith, leb-true n (length s - x) e)))
    go false e = sym (lt-leb (x + n) (length s) (omega (arith, leb-false n (length s - x) e)))

pub within_is : (s : List ℕ) (x n : ℕ) (p : Bool) → p ≡ within s x n → p ≡ true → x + n ≤ length s
within_is s x n p e h = leb-true (x + n) (length s) (sym e ∙ h)
