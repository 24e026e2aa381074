-- The promises of specs/Promises.antt, proved. Assumes nothing.
use Rattle.std.specs.Prelude.{Ok, Err}
use mathlib.Core.Path.{◌≡◌, refl, sym, ap, ap₂, subst, ◌∙◌}
use mathlib.Core.Logic.{◌↔◌}
use mathlib.Core.Bool.{Bool, true, false}
use mathlib.Core.List.{List, ◌++◌}
use Prim.Native.Nat.{ℕ, ◌+◌, ◌-◌, ◌*◌, ◌≤◌, ◌<◌}
use native.Mathlib.Omega.{arith}
use borrow.Author.Tests.{ltb-true, ltb-false}
use lib.Dec.{ltb}
use lib.ListN.{length, replicate}
use Rattle.laws.proofs.Laws.{clash}
use Rattle.stored.specs.StoredItems.{StoredItem}
use Rattle.stored.specs.Stored.{form_one, stored_bytes}
use Rattle.stored.specs.Stored as stored
use Rattle.stored.specs.code.Decode.{decode}
use Rattle.stored_reading.specs.StoredRows.{stored_rows_from}
use Rattle.stored_reading.specs.Permitted as reading
use Rattle.stored_reading.specs.code.Answers.{stored_answer, stored_rows}
use Rattle.stored_reading.specs.declared.StoredRefusal.{StoredRefusal}
use Rattle.stored_reading.specs.declared.StoredRefusal.TheVariants.{NotStored, ItemsShort}
use Rattle.stored_reading.specs.Permitted.{StoredReading}
use Rattle.stored_reading.proofs.Permits.{permits, one_permitted}
use Rattle.storing_again.specs.Permitted.{WasRead, again_bytes, KeptAgain, ShortOutput, Permitted}
use Rattle.storing_again.specs.Promises.{Answered, NoChoice, RefusedExactly, SameBytes}
use Rattle.storing_again.specs.Refusals.{Again}
use Rattle.storing_again.specs.declared.AgainRefusal.TheVariants as again

module _ (s : List ℕ) (w o : ℕ) where
  -- what was read has the bytes that it was read from
  bytes : {t : List ℕ} (x : WasRead s w t) → s ≡ again_bytes x
  bytes x = x.back.stored.bytes

  size : {t : List ℕ} (x : WasRead s w t) → length s ≡ length (again_bytes x)
  size x = ap length (bytes x)

  refused_read : (r : StoredRefusal) {t u : List ℕ} → reading.Permitted s w (Err r) t → WasRead s w u → ⊥
  refused_read r {t} {u} p x =
      let e : Err r ≡ reading.read_table x.first x.size x.count = (one_permitted s w (Err r) (reading.read_table x.first x.size x.count) t u p x.back).0 in
      clash (cc)

  same_rows : {t u : List ℕ} → WasRead s w t → WasRead s w u → t ≡ u
  same_rows {t} {u} x y =
      (one_permitted s w (reading.read_table x.first x.size x.count) (reading.read_table y.first y.size y.count) t u x.back y.back).1

  short_kept : {k n : ℕ} {t v : List ℕ} → ShortOutput s w o k → KeptAgain s w o n t v → ⊥
  short_kept a b = let x = a.short in let y = b.size in let z = b.fits in omega (arith, size a.was_read, size b.was_read)

  -- what was read is kept, or the room is short
  keeps : {t : List ℕ} → WasRead s w t → length s ≤ o → KeptAgain s w o (length s) t (s ++ replicate (o - length s) 0)
  keeps x l = record { was_read = x; size = size x; fits = l; out_is = ap (λ (bs : List ℕ). bs ++ replicate (o - length s) 0) (bytes x) }

  shorts : {t : List ℕ} → WasRead s w t → o < length s → ShortOutput s w o o
  shorts {t} x l = record { rows = t; was_read = x; short = omega (arith, size x); place_is = refl }

  same : (a b : Again) (t u v x : List ℕ) → Permitted s w o a t v → Permitted s w o b u x → (a ≡ b) × (t ≡ u) × (v ≡ x)
  same (Err (again.Reading r)) (Err (again.Reading q)) t u v x h k =
      let e = one_permitted s w (Err r) (Err q) t u h.0 k.0 in
      let d : Err r ≡ Err q = e.0 in
      let f : r ≡ q = cc in
      (ap (λ (x : StoredRefusal). Err (again.Reading x)) f, e.1, h.1 ∙ sym k.1)
  same (Err (again.Reading r)) (Err (again.OutputShort n)) t u v x h k = absurd (refused_read r h.0 k.0.was_read)
  same (Err (again.Reading r)) (Ok n) t u v x h k = absurd (refused_read r h.0 k.was_read)
  same (Err (again.OutputShort n)) (Err (again.Reading r)) t u v x h k = absurd (refused_read r k.0 h.0.was_read)
  same (Err (again.OutputShort n)) (Err (again.OutputShort m)) t u v x h k = (ap (λ (x : ℕ). Err (again.OutputShort x)) (h.0.place_is ∙ sym k.0.place_is), h.1 ∙ sym k.1, h.2 ∙ sym k.2)
  same (Err (again.OutputShort n)) (Ok m) t u v x h k = absurd (short_kept h.0 k)
  same (Ok n) (Err (again.Reading r)) t u v x h k = absurd (refused_read r k.0 h.was_read)
  same (Ok n) (Err (again.OutputShort m)) t u v x h k = absurd (short_kept k.0 h)
  same (Ok n) (Ok m) t u v x h k =
      let e : again_bytes h.was_read ≡ again_bytes k.was_read = sym (bytes h.was_read) ∙ bytes k.was_read in
      let f : n ≡ m = h.size ∙ ap length e ∙ sym k.size in (
        ap Ok f,
        same_rows h.was_read k.was_read,
        h.out_is ∙ ap₂ (λ (bs : List ℕ) (i : ℕ). bs ++ replicate (o - i) 0) e f ∙ sym k.out_is,
      )

pub no_choice : NoChoice
no_choice s w o a b t u v x h k = same s w o a b t u v x h k

-- ---- a refusal, exactly

module _ (s : List ℕ) (w o : ℕ) (a : Again) (t v : List ℕ) (p : Permitted s w o a t v) where
  taken_as : (b : Again) → a ≡ b → Permitted s w o b t v
  taken_as b e = subst (λ (c : Again). Permitted s w o c t v) e p

  is : (b : Again) → Permitted s w o b (replicate w 0) (replicate o 0) → a ≡ b
  is b q = (same s w o a b t (replicate w 0) v (replicate o 0) p q).0

  not_stored : (a ≡ Err (again.Reading NotStored)) ↔ ((n : List ℕ) (items : List StoredItem) → stored.Stored form_one s n items → ⊥)
  not_stored = ((λ e. (taken_as (Err (again.Reading NotStored)) e).0.0), λ h. is (Err (again.Reading NotStored)) ((h, refl), refl))

  items_short : (a ≡ Err (again.Reading (ItemsShort (reading.stored_rows_in w)))) ↔ ((n : List ℕ) × (items : List StoredItem) × stored.Stored form_one s n items × (reading.stored_rows_in w < length items))
  items_short = (
    (λ e. let d = (taken_as (Err (again.Reading (ItemsShort (reading.stored_rows_in w)))) e).0.0 in (d.name, d.items, d.stored, d.short)),
    λ h. is (Err (again.Reading (ItemsShort (reading.stored_rows_in w)))) ((record { name = h.0; items = h.1; stored = h.2; short = h.3; rows_are = refl }, refl), refl),
  )

  abbrev read_back : (n : List ℕ) (items : List StoredItem) → stored.Stored form_one s n items → length items ≤ reading.stored_rows_in w
      → WasRead s w (stored_rows_from (3 + length n) items ++ replicate (w - 6 * length items) 0)
  read_back n items h l = record {
    first = record { 0 = 3 };
    size = length n;
    count = length items;
    back = record { name = n; items = items; stored = h; room = l; first_is = refl; size_is = refl; count_is = refl; rows_are = refl };
  }

  output_short : (a ≡ Err (again.OutputShort o))
      ↔ ((n : List ℕ) × (items : List StoredItem) × stored.Stored form_one s n items × (length items ≤ reading.stored_rows_in w) × (o < length (stored_bytes form_one n items)))
  output_short = (
    (λ e. let d = (taken_as (Err (again.OutputShort o)) e).0 in let b = d.was_read.back in (b.name, b.items, b.stored, b.room, d.short)),
    λ h. is (Err (again.OutputShort o)) (record { rows = _; was_read = read_back h.0 h.1 h.2 h.3; short = h.4; place_is = refl }, refl, refl),
  )

pub refused_exactly : RefusedExactly
refused_exactly s w o a t v p = (not_stored s w o a t v p, items_short s w o a t v p, output_short s w o a t v p)

-- ---- the same bytes

pub same_bytes_lem : SameBytes
same_bytes_lem s w o f z c t b l a u v p = same s w o a (Ok (length s)) u t v (s ++ replicate (o - length s) 0) p (keeps s w o (record { first = f; size = z; count = c; back = b }) l)

-- ---- an answer to all bytes

module _ (s : List ℕ) (w o : ℕ) where
  abbrev Some : Type 0
  Some = (a : Again) × (t : List ℕ) × (v : List ℕ) × Permitted s w o a t v

  by_room : (t : List ℕ) → WasRead s w t → (b : Bool) → ltb o (length s) ≡ b → Some
  by_room t x true e = (Err (again.OutputShort o), replicate w 0, replicate o 0, (shorts s w o x (ltb-true o (length s) e), refl, refl))
  by_room t x false e = (Ok (length s), t, s ++ replicate (o - length s) 0, keeps s w o x (ltb-false o (length s) e))

  by_reading : (a : StoredReading) (t : List ℕ) → reading.Permitted s w a t → Some
  by_reading (Err r) t p = (Err (again.Reading r), t, replicate o 0, (p, refl))
  by_reading (Ok x) t p = by_room t (record { first = x.name; size = x.length; count = x.items; back = p }) (ltb o (length s)) refl

pub answered : Answered
answered s b w o = by_reading s w o (stored_answer (decode form_one s) w) (stored_rows (decode form_one s) w) (permits s w b)
