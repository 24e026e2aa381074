-- The fields of records put one after the other, in the code's terms. Assumes nothing.
use Rattle.std.specs.Prelude.{Option, Some, None}
use mathlib.Core.Path.{◌≡◌, refl, sym, ap, ◌∙◌}
use mathlib.Core.Bool.{Bool}
use mathlib.Core.List.{List, [], ◌∷◌, ◌++◌, append-nil}
use Prim.Native.Nat.{ℕ, zero, suc, ◌+◌, ◌*◌, ◌≤◌, ◌<◌}
use native.Mathlib.Numerals.{add-one}
use native.Mathlib.Omega.{arith}
use lib.IntN.{ℤ}
use lib.ListN.{length, take, drop, length-drop}
use mir.Val.{of_z, to_z, Fits, SFits}
use mir.Syntax.{w32, w64}
use mir.ValLaws.{to_z-of_z}
use Rattle.places.specs.Places.{cell_at}
use Rattle.records.specs.Records.{word_at}
use Rattle.values.specs.declared.Value.{Value}
use Rattle.values.specs.declared.Value.TheVariants as value
use Rattle.values.specs.code.Used.{used_value}
use Rattle.operands.specs.code.Operands.{bytes_at}
use Rattle.puts.specs.Puts.{Wrote}
use Rattle.puts.proofs.Laws.{then, then3, named}
use Rattle.stored.specs.Fields.{fields_bytes}
use Rattle.stored.specs.StoredItems.{StoredItem, item_field, name_field, value_size}
use Rattle.stored.specs.declared.StoredValue.{StoredValue}
use Rattle.stored.specs.declared.StoredValue.TheVariants as kept
use Rattle.stored_writing.specs.Written.{as_stored, field_put, fields_put, field_size}
use Rattle.stored_writing.proofs.Puts.{item_size, package_size, small_size, stored_length, items_append}
use Rattle.storing.specs.SurveyItems.{stored_value}
use Rattle.storing.specs.code.Tables.{is_basic, held_at, stored_name_at, item_by, item_at, items_of_records, put_items, size_items, package_at, put_table, size_table}

-- ---- what is held

module _ (v : Value) where
  pub value_number : (z : ℤ) → v ≡ value.Number z → SFits w32 z → Some (kept.Number (to_z w32 (of_z w32 z))) ≡ stored_value v
  value_number z e f = rw (to_z-of_z w32 z f, e)

  pub value_truth : (t : Bool) → v ≡ value.Truth t → Some (kept.Truth t) ≡ stored_value v
  value_truth t e = rw e

  pub value_range : (y z : ℤ) → v ≡ value.Range y z → SFits w32 y → SFits w32 z → Some (kept.Range (to_z w32 (of_z w32 y)) (to_z w32 (of_z w32 z))) ≡ stored_value v
  value_range y z e f g = rw (to_z-of_z w32 y f, to_z-of_z w32 z g, e)

  pub value_truths : v ≡ value.Truths → Some kept.Truths ≡ stored_value v
  value_truths e = rw e

pub held_is : (items : List ℕ) (i a b c d e : ℕ) (v : Value) (h : Option StoredValue) → h ≡ stored_value v → v ≡ used_value a b c d e → a ≡ word_at items i 0 → b ≡ word_at items i 4
    → c ≡ word_at items i 5 → d ≡ word_at items i 6 → e ≡ word_at items i 7 → h ≡ held_at items i
unfolding held_at
held_is items i a b c d e v h p q w x y z u =
    let g : used_value a b c d e ≡ used_value (word_at items i 0) (word_at items i 4) (word_at items i 5) (word_at items i 6) (word_at items i 7) = rw (w, x, y, z, u) in
    p ∙ ap stored_value (q ∙ g)

pub part_is : (text table r m : List ℕ) (e first n : ℕ) → first ≡ cell_at table e 1 → n ≡ cell_at table e 2 → m ≡ drop first text → r ≡ take n m → r ≡ bytes_at text table e
unfolding bytes_at
part_is text table r m e first n p q f g = g ∙ rw (f, p, q)

-- ---- a record

module _ (text elements items : List ℕ) (i : ℕ) (h : Option StoredValue) where
  one : (v : StoredValue) (e : ℕ) (b : Bool) (name : List ℕ) → h ≡ Some v → h ≡ held_at items i → e ≡ word_at items i 3 → b ≡ is_basic elements e → name ≡ bytes_at text elements e
      → item_at text elements items i ≡ record { value = v; name = as_stored b name } ∷ []
  unfolding item_at stored_name_at
  one v e b name p q w x n = rw (← q, p, ← w, ← x, ← n)

  none : h ≡ None → h ≡ held_at items i → item_at text elements items i ≡ []
  unfolding item_at
  none p q = rw (← q, p)

  pub record_none : {t t' : List ℕ} {at r : ℕ} → h ≡ None → h ≡ held_at items i → Wrote t at [] t' r → Wrote t at (put_items (item_at text elements items i)) t' r
  unfolding fields_put
  record_none p q w = named (ap put_items (none p q)) w

  pub record_put : {t t' : List ℕ} {at r : ℕ} (v : StoredValue) (e : ℕ) (b : Bool) (name : List ℕ) → h ≡ Some v → h ≡ held_at items i → e ≡ word_at items i 3 → b ≡ is_basic elements e
      → name ≡ bytes_at text elements e → Wrote t at (field_put (item_field (record { value = v; name = as_stored b name }))) t' r → Wrote t at (put_items (item_at text elements items i)) t' r
  unfolding fields_put
  record_put v e b name p q w x n u =
      named (ap put_items (one v e b name p q w x n) ∙ append-nil (field_put (item_field (record { value = v; name = as_stored b name })))) u

  pub size_none : h ≡ None → h ≡ held_at items i → 0 ≡ size_items (item_at text elements items i)
  unfolding size_items
  size_none p q = sym (ap size_items (none p q))

-- a name has as many bytes stored as spelled
same_size : (v : StoredValue) (b : Bool) (name : List ℕ) → field_size (item_field (record { value = v; name = name })) ≡ field_size (item_field (record { value = v; name = as_stored b name }))
same_size v b name =
    sym (item_size v name (value_size v) refl) ∙ ap (λ (k : ℕ). 3 + (value_size v + k)) (sym (stored_length b name)) ∙ item_size v (as_stored b name) (value_size v) refl

module _ (text elements items : List ℕ) (i : ℕ) (h : Option StoredValue) where
  pub record_size : (v : StoredValue) (e k : ℕ) (name : List ℕ) → h ≡ Some v → h ≡ held_at items i → e ≡ word_at items i 3 → name ≡ bytes_at text elements e
      → k ≡ field_size (item_field (record { value = v; name = name })) → k ≡ size_items (item_at text elements items i)
  unfolding size_items
  record_size v e k name p q w n u =
      let z : size_items (item_at text elements items i) ≡ field_size (item_field (record { value = v; name = as_stored (is_basic elements e) name })) + 0 = ap size_items (one text elements items i h v e (is_basic elements e) name p q w refl n) in
      u ∙ same_size v (is_basic elements e) name ∙ sym (z ∙ plain (field_size (item_field (record { value = v; name = as_stored (is_basic elements e) name }))))
    where
      plain : (a : ℕ) → a + 0 ≡ a
      plain a = omega arith

-- ---- records one after the other

pub size_append : (xs ys : List StoredItem) → size_items (xs ++ ys) ≡ size_items xs + size_items ys
unfolding size_items
size_append [] ys = omega arith
size_append (x ∷ xs) ys = omega (arith, size_append xs ys)

module _ (text elements items : List ℕ) where
  pub records_none : {t t' : List ℕ} {at r : ℕ} → Wrote t at [] t' r → Wrote t at (put_items (items_of_records text elements items 0)) t' r
  unfolding fields_put items_of_records
  records_none w = w

  pub records_more : {t t' t'' : List ℕ} {at m r : ℕ} (i : ℕ) → Wrote t at (put_items (items_of_records text elements items i)) t' m → Wrote t' m (put_items (item_at text elements items i)) t'' r
      → Wrote t at (put_items (items_of_records text elements items (i + 1))) t'' r
  unfolding items_of_records
  records_more i p q = named (rw (add-one i) (items_append (items_of_records text elements items i) (item_at text elements items i))) (then p q)

  pub sizes_none : 0 ≡ size_items (items_of_records text elements items 0)
  unfolding size_items items_of_records
  sizes_none = refl

  pub sizes_more : (i size k : ℕ) → size ≡ size_items (items_of_records text elements items i) → k ≡ size_items (item_at text elements items i) → size + k ≡ size_items (items_of_records text elements items (i + 1))
  unfolding items_of_records
  sizes_more i size k p q = rw (add-one i) (rw (p, q) (sym (size_append (items_of_records text elements items i) (item_at text elements items i))))

-- ---- no size is large

take_most : (n : ℕ) (l : List ℕ) → length (take n l) ≤ length l
take_most zero l = omega arith
take_most (suc n) [] = omega arith
take_most (suc n) (x ∷ l) = omega (arith, take_most n l)

pub part_small : (text elements : List ℕ) (e : ℕ) → length (bytes_at text elements e) ≤ length text
unfolding bytes_at
part_small text elements e =
    omega (arith, take_most (cell_at elements e 2) (drop (cell_at elements e 1) text), length-drop (cell_at elements e 1) text)

by_small : (h : Option StoredValue) (n : List ℕ) (k : ℕ) → length n ≤ k → size_items (item_by h n) ≤ 12 + k
unfolding size_items
by_small None n k l = omega arith
by_small (Some v) n k l = omega (arith, item_size v n (value_size v) refl, small_size v (value_size v) refl)

pub record_small : (text elements items : List ℕ) (i : ℕ) → length text ≤ 65536 → size_items (item_at text elements items i) ≤ 65548
unfolding item_at stored_name_at
record_small text elements items i l =
    by_small (held_at items i) (as_stored (is_basic elements (word_at items i 3)) (bytes_at text elements (word_at items i 3))) 65536
    (omega (arith, stored_length (is_basic elements (word_at items i 3)) (bytes_at text elements (word_at items i 3)), part_small text elements (word_at items i 3)))

pub records_small : (text elements items : List ℕ) (n : ℕ) → length text ≤ 65536 → size_items (items_of_records text elements items n) ≤ n * 65548
unfolding items_of_records size_items
records_small text elements items zero l = omega arith
records_small text elements items (suc n) l =
    omega (arith, size_append (items_of_records text elements items n) (item_at text elements items n), records_small text elements items n l, record_small text elements items n l)

-- ---- the table

module _ (text elements items : List ℕ) (n e : ℕ) (name : List ℕ) where
  pub table_put_lem : {t t₁ t₂ t₃ : List ℕ} {a b c d : ℕ} (x : Bool) → e ≡ word_at items 0 3 → x ≡ is_basic elements e → name ≡ bytes_at text elements e
      → Wrote t a (field_put (name_field (as_stored x name))) t₁ b → Wrote t₁ b (put_items (items_of_records text elements items n)) t₂ c → Wrote t₂ c (fields_bytes []) t₃ d → Wrote t a (put_table text elements items n) t₃ d
  unfolding put_table package_at stored_name_at
  table_put_lem x p q r u v w = named (rw (← p, ← q, ← r)) (then3 u v w)

  pub table_size : (a b : ℕ) → e ≡ word_at items 0 3 → name ≡ bytes_at text elements e → a ≡ field_size (name_field name) → b ≡ size_items (items_of_records text elements items n)
      → a + b + 3 ≡ size_table text elements items n
  unfolding size_table package_at stored_name_at field_size
  table_size a b p q r s =
      let l : length (as_stored (is_basic elements (word_at items 0 3)) (bytes_at text elements (word_at items 0 3))) ≡ length name =
      stored_length (is_basic elements (word_at items 0 3)) (bytes_at text elements (word_at items 0 3)) ∙ ap length (ap (bytes_at text elements) (sym p) ∙ sym q) in
      rw (l, r, s)

pub package_small : (text elements : List ℕ) (e a : ℕ) (name : List ℕ) → length text ≤ 65536 → name ≡ bytes_at text elements e → a ≡ field_size (name_field name) → a ≤ 65539
package_small text elements e a name l q r =
    omega (arith, r, package_size name, ap length q, part_small text elements e)

-- no sum of sizes is too large for a word
module _ (text elements items : List ℕ) where
  pub size_fits : (n i size k : ℕ) → length text ≤ 65536 → n ≤ 1024 → i < n → size ≡ size_items (items_of_records text elements items i) → k ≡ size_items (item_at text elements items i) → Fits w64 (size + k)
  size_fits n i size k l m h p q = omega (arith, records_small text elements items i l, record_small text elements items i l)

  pub table_fits : (n e a b : ℕ) (name : List ℕ) → length text ≤ 65536 → n ≤ 1024 → name ≡ bytes_at text elements e → a ≡ field_size (name_field name) → b ≡ size_items (items_of_records text elements items n)
      → Fits w64 (a + b)
  table_fits n e a b name l m q r p = omega (arith, package_small text elements e a name l q r, records_small text elements items n l)

  pub end_fits : (n e a b : ℕ) (name : List ℕ) → length text ≤ 65536 → n ≤ 1024 → name ≡ bytes_at text elements e → a ≡ field_size (name_field name) → b ≡ size_items (items_of_records text elements items n)
      → Fits w64 (a + b + 3)
  end_fits n e a b name l m q r p = omega (arith, package_small text elements e a name l q r, records_small text elements items n l)

-- all records are passed
module _ (text elements items : List ℕ) where
  pub records_all : {t t' : List ℕ} {at r : ℕ} (n i : ℕ) → i ≡ n → Wrote t at (put_items (items_of_records text elements items i)) t' r → Wrote t at (put_items (items_of_records text elements items n)) t' r
  records_all n i e w = named (ap (λ (k : ℕ). put_items (items_of_records text elements items k)) (sym e)) w

  pub sizes_all : (n i size : ℕ) → i ≤ n → n ≤ i → size ≡ size_items (items_of_records text elements items i) → size ≡ size_items (items_of_records text elements items n)
  sizes_all n i size l m p = let e : i ≡ n = omega arith in p ∙ ap (λ (k : ℕ). size_items (items_of_records text elements items k)) e
