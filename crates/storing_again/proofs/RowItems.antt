-- The rows that reading leaves give the items back. Assumes nothing.
use mathlib.Core.Path.{◌≡◌, refl, sym, ap, ap₂, ◌∙◌}
use mathlib.Core.Bool.{true, false, not, ◌&&◌}
use mathlib.Core.List.{List, [], ◌∷◌, ◌++◌}
use Prim.Native.Nat.{ℕ, zero, suc, ◌+◌, ◌*◌, ◌≤◌, ◌<◌}
use native.Mathlib.Omega.{arith}
use lib.ListN.{length, get_or, take, drop}
use lib.Seq.{take-suc, take-length}
use Rattle.laws.proofs.Laws.{both_left, both_right}
use Rattle.integers.proofs.Ints.{narrow_fits}
use Rattle.values.proofs.Laws.{number_word}
use Rattle.stored.specs.StoredItems.{StoredItem, value_size}
use Rattle.stored.specs.Stored.{form_one, among, small, sized, item_legal, all_legal}
use Rattle.stored.specs.declared.StoredValue.{StoredValue}
use Rattle.stored.specs.declared.StoredValue.TheVariants.{Number, Truth, Range, Truths}
use Rattle.stored_reading.specs.StoredRows.{head_size, size_of, stored_row, stored_rows_from}
use Rattle.stored_reading.specs.Promises.{NamesAt}
use Rattle.storing_again.specs.code.RowItems.{row_constant, row_subtype, row_value, row_item, stored_row_at, row_items}

-- ---- a value

value_back : (v : StoredValue) (place size : ℕ) → sized v ≡ true → row_value (stored_row v place size) ≡ v
unfolding row_value row_constant row_subtype sized
value_back (Number z) place size h = ap Number (number_word z (narrow_fits z h))
value_back (Truth true) place size h = refl
value_back (Truth false) place size h = refl
value_back (Range low high) place size h =
    ap₂ Range (number_word low (narrow_fits low (both_left (small low) (small high) h))) (number_word high (narrow_fits high (both_right (small low) (small high) h)))
value_back Truths place size h = refl

legal_sized : (i : StoredItem) → item_legal form_one i ≡ true → sized i.value ≡ true
unfolding item_legal
legal_sized i h = both_left (sized i.value) (form_one.admits i.value && (form_one.legal i.name && not (among i.name form_one.language))) h

-- ---- an item

item_back : (s : List ℕ) (at : ℕ) (i : StoredItem) → item_legal form_one i ≡ true → take (length i.name) (drop (at + (head_size + value_size i.value)) s) ≡ i.name
    → row_item s (stored_row i.value (at + (head_size + value_size i.value)) (length i.name)) ≡ i
unfolding row_item
item_back s at i h e =
    ap₂ (λ (v : StoredValue) (n : List ℕ). record { value = v; name = n }) (value_back i.value (at + (head_size + value_size i.value)) (length i.name) (legal_sized i h)) e

nothing : StoredItem
nothing = record { value = Truths; name = [] }

six_more : (k : ℕ) → 6 * suc k ≡ suc (suc (suc (suc (suc (suc (6 * k))))))
six_more k = omega arith

module _ (s z : List ℕ) where
  row_item_lem : (at : ℕ) (is : List StoredItem) (k : ℕ) → k < length is → all_legal form_one is ≡ true → NamesAt s at is → row_item s (stored_row_at (stored_rows_from at is ++ z) k) ≡ get_or is k nothing
  unfolding stored_rows_from all_legal
  row_item_lem at [] k l h n = absurd (omega arith)
  row_item_lem at (i ∷ is) zero l h n = item_back s at i (both_left (item_legal form_one i) (all_legal form_one is) h) n.0
  row_item_lem at (i ∷ is) (suc k) l h n =
      ap (λ (m : ℕ). row_item s (take 6 (drop m (stored_rows_from at (i ∷ is) ++ z)))) (six_more k)
      ∙ row_item_lem (at + size_of i) is k (omega arith) (both_right (item_legal form_one i) (all_legal form_one is) h) n.1

  first_items : (at : ℕ) (is : List StoredItem) (n : ℕ) → n ≤ length is → all_legal form_one is ≡ true → NamesAt s at is → row_items s (stored_rows_from at is ++ z) n ≡ take n is
  unfolding row_items
  first_items at is zero l h p = refl
  first_items at is (suc n) l h p =
      ap₂ (λ (a : List StoredItem) (b : StoredItem). a ++ (b ∷ [])) (first_items at is n (omega arith) h p) (row_item_lem at is n l h p) ∙ sym (take-suc is n nothing l)

  pub items_back : (at : ℕ) (is : List StoredItem) → all_legal form_one is ≡ true → NamesAt s at is → row_items s (stored_rows_from at is ++ z) (length is) ≡ is
  items_back at is h p = first_items at is (length is) (omega arith) h p ∙ take-length is
