-- The rows of a table one by one. Assumes nothing.
use mathlib.Core.Path.{◌≡◌, refl, ap, ◌∙◌}
use mathlib.Core.List.{List, ◌∷◌}
use Prim.Native.Nat.{ℕ, zero, suc, ◌+◌, ◌*◌, ◌<◌}
use native.Mathlib.Omega.{arith}
use lib.ListN.{length, get_or, drop}
use lib.Seq.{drop-drop, get_or-drop}
use Rattle.forms.specs.Tree.{Row}
use Rattle.forms.specs.RowWords.{row_at, row_numbers, tree_rows_in}

abbrev row_in : List ℕ → Row
row_in words = row_at words 0

pub rows_length : (n : ℕ) (words : List ℕ) → length (tree_rows_in n words) ≡ n
unfolding tree_rows_in
rows_length zero words = refl
rows_length (suc n) words = ap suc (rows_length n (drop row_numbers words))

row_drop : (words : List ℕ) (k : ℕ) → row_in (drop (row_numbers * k) words) ≡ row_at words k
row_drop words k = rw (get_or-drop (row_numbers * k) words 0 0, get_or-drop (row_numbers * k) words 1 0, get_or-drop (row_numbers * k) words 2 0, get_or-drop (row_numbers * k) words 3 0, get_or-drop (row_numbers * k) words 4 0) zero_first
  where
    zero_first : ◌≡◌ {A = Row} (record { form = get_or words (row_numbers * k + 0) 0; first = get_or words (row_numbers * k + 1) 0; count = get_or words (row_numbers * k + 2) 0; rows = get_or words (row_numbers * k + 3) 0; operator = get_or words (row_numbers * k + 4) 0 }) (row_at words k)
    zero_first = let z : row_numbers * k + 0 ≡ row_numbers * k = omega arith in rw z

drop_rows : (n k : ℕ) (words : List ℕ) → k < n → drop k (tree_rows_in n words) ≡ row_in (drop (row_numbers * k) words) ∷ drop (suc k) (tree_rows_in n words)
unfolding tree_rows_in
drop_rows zero k words h = absurd (omega arith)
drop_rows (suc n) zero words h = refl
drop_rows (suc n) (suc k) words h =
    drop_rows n k (drop row_numbers words) (omega arith)
    ∙ ap (λ (l : List ℕ). row_in l ∷ drop (suc k) (tree_rows_in n (drop row_numbers words))) (drop-drop (row_numbers * k) row_numbers words ∙ five)
  where
    five : drop (row_numbers + row_numbers * k) words ≡ drop (row_numbers * suc k) words
    five = let z : row_numbers + row_numbers * k ≡ row_numbers * suc k = omega arith in rw z

-- the rows from number k on
pub rows_from_lem : (n k : ℕ) (words : List ℕ) → k < n → drop k (tree_rows_in n words) ≡ row_at words k ∷ drop (suc k) (tree_rows_in n words)
rows_from_lem n k words h = drop_rows n k words h ∙ ap (λ (r : Row). r ∷ drop (suc k) (tree_rows_in n words)) (row_drop words k)
