-- What the code puts of a table that is read is its bytes, and each way through storing again is permitted. Assumes nothing.
use Rattle.std.specs.Prelude.{Ok, Err, IsErrAnd}
use mathlib.Core.Path.{◌≡◌, sym, ap, ap₂, subst, ◌∙◌}
use mathlib.Core.List.{List, [], ◌∷◌, ◌++◌, map, append_assoc}
use Prim.Native.Nat.{ℕ, ◌+◌, ◌-◌, ◌*◌, ◌≤◌, ◌<◌}
use native.Mathlib.Omega.{arith}
use lib.ListN.{length, take, drop, replicate, length-append, length-replicate}
use Rattle.places.specs.declared.BytePlace.{BytePlace}
use Rattle.puts.specs.Puts.{Wrote}
use Rattle.stored.specs.Fields.{fields_bytes}
use Rattle.stored.specs.StoredItems.{StoredItem, item_field, name_field}
use Rattle.stored.specs.Stored.{form_one, stored_bytes}
use Rattle.stored_reading.specs.StoredRows.{stored_rows_from}
use Rattle.stored_reading.specs.Permitted as reading
use Rattle.stored_reading.specs.declared.StoredRefusal.{StoredRefusal}
use Rattle.stored_reading.specs.Permitted.{StoredReading}
use Rattle.stored_reading.proofs.Whole.{length_cells}
use Rattle.stored_reading.proofs.Promises.{names_stand}
use Rattle.stored_writing.specs.Written.{field_put, fields_put}
use Rattle.stored_writing.proofs.Puts.{fields_put_lem, filled}
use Rattle.storing_again.specs.Permitted.{WasRead, again_bytes, Permitted}
use Rattle.storing_again.specs.code.RowItems.{row_items, table_put}
use Rattle.storing_again.specs.Refusals.{Again}
use Rattle.storing_again.specs.declared.AgainRefusal.{AgainRefusal}
use Rattle.storing_again.specs.declared.AgainRefusal.TheVariants as again
use Rattle.storing_again.proofs.RowItems.{items_back}

-- ---- the bytes of what was read

module _ (s : List ℕ) (w : ℕ) (f : BytePlace) (z c : ℕ) (rows : List ℕ) (b : reading.Back s w f z c rows) where
  abbrev title : List ℕ
  title = b.name

  abbrev items : List StoredItem
  items = b.items

  name_is : take z (drop f.0 s) ≡ title
  name_is = ap₂ (λ (k n : ℕ). take n (drop k s)) b.first_is b.size_is ∙ (names_stand s title items b.stored).0

  items_are : row_items s rows c ≡ items
  items_are =
      ap₂ (row_items s) b.rows_are b.count_is
      ∙ items_back s (replicate (w - 6 * length items) 0) (3 + length title) items b.stored.legal.each (names_stand s title items b.stored).1

  pub table_is : table_put s f.0 z rows c ≡ stored_bytes form_one title items
  unfolding table_put stored_bytes form_one fields_put
  table_is =
      ap₂ (λ (n : List ℕ) (is : List StoredItem). field_put (name_field n) ++ (fields_put (map item_field is) ++ fields_bytes [])) name_is items_are
      ∙ sym (append_assoc (field_put (name_field title)) (fields_put (map item_field items)) (fields_bytes []))
      ∙ fields_put_lem (name_field title ∷ map item_field items) b.stored.legal.written

  -- the table keeps its length
  pub long : length rows ≡ w
  long =
      let l = b.room in
      omega (
        arith,
        ap length b.rows_are,
        length-append (stored_rows_from (3 + length title) items) (replicate (w - 6 * length items) 0),
        length_cells (3 + length title) items,
        length-replicate {A = ℕ} (w - 6 * length items) 0,
      )

  pub rows_there : 6 * c ≤ length rows
  rows_there = let l = b.room in omega (arith, long, b.count_is)

-- ---- the ways through storing again

module _ (s : List ℕ) (w o : ℕ) (x : StoredReading) (rows : List ℕ) (p : reading.Permitted s w x rows) where
  -- what `?` makes of reading's refusal
  pub way_refused : (r : StoredRefusal) (a : Again) (out : List ℕ) → x ≡ Err r → IsErrAnd a (λ e. e ≡ again.Reading r) → out ≡ replicate o 0 → Permitted s w o a rows out
  way_refused r (Ok n) out e q z = absurd q
  way_refused r (Err y) out e q z =
      subst (λ (b : AgainRefusal). Permitted s w o (Err b) rows out) (sym q) (subst (λ (a : StoredReading). reading.Permitted s w a rows) e p, z)

  module _ (f : BytePlace) (z c : ℕ) (e : x ≡ reading.read_table f z c) where
    back : reading.Back s w f z c rows
    back = subst (λ (a : StoredReading). reading.Permitted s w a rows) e p

    abbrev read : WasRead s w rows
    read = record { first = f; size = z; count = c; back = back }

    bytes : s ≡ again_bytes read
    bytes = back.stored.bytes

    pub asked : 6 * c ≤ length rows
    asked = rows_there s w f z c rows back

    pub way_short : (rows' out : List ℕ) → length out < length s → rows' ≡ replicate (length rows) 0 → out ≡ replicate o 0 → Permitted s w o (Err (again.OutputShort (length out))) rows' out
    way_short rows' out l a b =
        let q : length out ≡ o = ap length b ∙ length-replicate o 0 in (
          record { rows = rows; was_read = read; short = omega (arith, ap length bytes); place_is = q },
          a ∙ ap (λ (k : ℕ). replicate k 0) (long s w f z c rows back),
          b,
        )

    pub way_stored : (r : ℕ) (out out' : List ℕ) → length s ≤ length out → out ≡ replicate o 0 → Wrote out 0 (table_put s f.0 z rows c) out' r → Permitted s w o (Ok r) rows out'
    way_stored r out out' l b v =
        let q : length out ≡ o = ap length b ∙ length-replicate o 0 in
        let u : Wrote out 0 (again_bytes read) out' r = subst (λ (bs : List ℕ). Wrote out 0 bs out' r) (table_is s w f z c rows back) v in
        let m : r ≡ length (again_bytes read) = let k = u.reach in omega (arith, ap length bytes) in
        record {
          was_read = read;
          size = m;
          fits = omega (arith, ap length bytes);
          out_is = filled out out' (again_bytes read) o r b (omega (arith, ap length bytes)) u ∙ ap (λ (k : ℕ). again_bytes read ++ replicate (o - k) 0) (sym m);
        }
