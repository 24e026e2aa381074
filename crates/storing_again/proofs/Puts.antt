-- The fields of rows put one after the other, in the code's terms. Assumes nothing.
use mathlib.Core.Path.{◌≡◌, sym, ap, ap₂, ◌∙◌}
use mathlib.Core.Bool.{false}
use mathlib.Core.List.{List, [], ◌∷◌, ◌++◌, map, append-nil}
use Prim.Native.Nat.{ℕ, suc, ◌+◌}
use native.Mathlib.Numerals.{add-one}
use borrow.Author.Tests.{eq-eqb, ne_eqb}
use lib.ListN.{get_or, take, drop}
use Rattle.pieces.specs.Classes as classes
use Rattle.puts.specs.Puts.{Wrote}
use Rattle.puts.proofs.Laws.{then, then3, named}
use Rattle.stored.specs.Fields.{fields_bytes}
use Rattle.stored.specs.StoredItems.{item_field, name_field}
use Rattle.stored.specs.declared.StoredValue.{StoredValue}
use Rattle.stored_writing.specs.Written.{as_stored, field_put, fields_put}
use Rattle.stored_writing.proofs.Puts.{as_it_stands, items_append}
use Rattle.storing_again.specs.code.RowItems.{row_constant, row_subtype, row_value, row_item, stored_row_at, row_items, table_put}

-- ---- a row's value

module _ (row : List ℕ) (class kind low : ℕ) (r : StoredValue) where
  pub value_constant : class ≡ get_or row 0 0 → kind ≡ get_or row 3 0 → low ≡ get_or row 4 0 → class ≡ classes.constant → r ≡ row_constant kind low → r ≡ row_value row
  unfolding row_value
  value_constant a b c e p = p ∙ rw (← a, ← b, ← c, eq-eqb class classes.constant e)

  pub value_subtype : (high : ℕ) → class ≡ get_or row 0 0 → kind ≡ get_or row 3 0 → low ≡ get_or row 4 0 → high ≡ get_or row 5 0 → (class ≡ classes.constant → ⊥) → r ≡ row_subtype kind low high → r ≡ row_value row
  unfolding row_value
  value_subtype high a b c d e p = p ∙ rw (← a, ← b, ← c, ← d, ne_eqb class classes.constant e)

-- ---- a row's field

pub row_put : {t t' : List ℕ} {at r : ℕ} (s row : List ℕ) (v : StoredValue) (first n : ℕ) (name : List ℕ) → v ≡ row_value row → first ≡ get_or row 1 0 → n ≡ get_or row 2 0 → name ≡ take n (drop first s)
    → Wrote t at (field_put (item_field (record { value = v; name = as_stored false name }))) t' r → Wrote t at (field_put (item_field (row_item s row))) t' r
unfolding row_item
row_put s row v first n name a b c e w =
    let p : take (get_or row 2 0) (drop (get_or row 1 0) s) ≡ as_stored false name = sym (as_it_stands name ∙ e ∙ rw (b, c)) in
    named (ap₂ (λ (x : StoredValue) (y : List ℕ). field_put (item_field (record { value = x; name = y }))) (sym a) p) w

-- ---- rows one after the other

module _ (s rows : List ℕ) where
  pub rows_none : {t t' : List ℕ} {at r : ℕ} → Wrote t at [] t' r → Wrote t at (fields_put (map item_field (row_items s rows 0))) t' r
  unfolding fields_put row_items
  rows_none w = w

  one_more : (i : ℕ) → fields_put (map item_field (row_items s rows (suc i))) ≡ fields_put (map item_field (row_items s rows i)) ++ field_put (item_field (row_item s (stored_row_at rows i)))
  unfolding row_items fields_put
  one_more i =
      items_append (row_items s rows i) (row_item s (stored_row_at rows i) ∷ [])
      ∙ ap (λ (l : List ℕ). fields_put (map item_field (row_items s rows i)) ++ l) (append-nil (field_put (item_field (row_item s (stored_row_at rows i)))))

  pub rows_more : {t t' t'' : List ℕ} {at m r : ℕ} (i : ℕ) (row : List ℕ) → row ≡ stored_row_at rows i → Wrote t at (fields_put (map item_field (row_items s rows i))) t' m
      → Wrote t' m (field_put (item_field (row_item s row))) t'' r → Wrote t at (fields_put (map item_field (row_items s rows (i + 1)))) t'' r
  rows_more i row e p q = named (rw (add-one i) (one_more i)) (then p (named (ap (λ (l : List ℕ). field_put (item_field (row_item s l))) (sym e)) q))

  pub rows_all : {t t' : List ℕ} {at r : ℕ} (n i : ℕ) → i ≡ n → Wrote t at (fields_put (map item_field (row_items s rows i))) t' r → Wrote t at (fields_put (map item_field (row_items s rows n))) t' r
  rows_all n i e w = named (ap (λ (k : ℕ). fields_put (map item_field (row_items s rows k))) (sym e)) w

-- ---- the table

pub table_put_lem : {t t₁ t₂ t₃ : List ℕ} {a b c d : ℕ} (s rows : List ℕ) (first size n : ℕ) (name : List ℕ) → name ≡ take size (drop first s) → Wrote t a (field_put (name_field (as_stored false name))) t₁ b
    → Wrote t₁ b (fields_put (map item_field (row_items s rows n))) t₂ c → Wrote t₂ c (fields_bytes []) t₃ d → Wrote t a (table_put s first size rows n) t₃ d
unfolding table_put
table_put_lem s rows first size n name q u v w =
    let e : take size (drop first s) ≡ as_stored false name = sym (as_it_stands name ∙ q) in
    then3 (named (ap (λ (l : List ℕ). field_put (name_field l)) e) u) v w
