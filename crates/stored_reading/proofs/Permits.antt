-- What the code answers is permitted, and nothing else is. Assumes nothing.
use Rattle.stored_reading.specs.Permitted.{read_table}
use Rattle.std.specs.Prelude.{Err, Ok}
use mathlib.Core.Path.{◌≡◌, refl, sym, ap, ap₂, subst, ◌∙◌}
use mathlib.Core.Bool.{Bool, true, false, cond}
use mathlib.Core.List.{List, ◌++◌}
use Prim.Native.Nat.{ℕ, ◌+◌, ◌-◌, ◌*◌, ◌/◌, ◌<◌}
use native.Mathlib.Omega.{arith}
use borrow.Author.Tests.{ltb-true, ltb-false}
use lib.Dec.{ltb}
use lib.ListN.{length, replicate}
use Rattle.places.specs.declared.BytePlace.{BytePlace}
use Rattle.stored.specs.StoredItems.{StoredItem}
use Rattle.stored.specs.Stored.{Stored, form_one}
use Rattle.stored.specs.code.Promises.{Bytes}
use Rattle.stored.specs.code.Decode.{Table, broken, table, decode}
use Rattle.stored.proofs.Inverse.{unique, only, nothing}
use Rattle.stored_reading.specs.StoredRows.{stored_rows_from}
use Rattle.stored_reading.specs.Permitted.{Back, Short, Permitted}
use Rattle.stored_reading.specs.code.Answers.{stored_answer, rows_for, stored_rows}
use Rattle.stored_reading.specs.declared.StoredRefusal.TheVariants.{NotStored, ItemsShort}
use Rattle.stored_reading.specs.Permitted.{StoredReading}

by_room : (s n : List ℕ) (is : List StoredItem) (w : ℕ) → Stored form_one s n is → (t : Bool) → ltb (w / 6) (length is) ≡ t → (r : StoredReading)
    → r ≡ cond t (Err (ItemsShort (w / 6))) (read_table (record { 0 = 3 }) (length n) (length is)) → Permitted s w r (rows_for r (table n is) w)
unfolding rows_for
by_room s n is w h true e r p =
    subst (λ (x : StoredReading). Permitted s w x (rows_for x (table n is) w)) (sym p) (record { name = n; items = is; stored = h; short = ltb-true (w / 6) (length is) e; rows_are = refl }, refl)
by_room s n is w h false e r p =
    subst (λ (x : StoredReading). Permitted s w x (rows_for x (table n is) w)) (sym p)
    (record { name = n; items = is; stored = h; room = ltb-false (w / 6) (length is) e; first_is = refl; size_is = refl; count_is = refl; rows_are = refl })

by_table : (s : List ℕ) (w : ℕ) → Bytes s → (d : Table) → decode form_one s ≡ d → Permitted s w (stored_answer d w) (rows_for (stored_answer d w) d w)
unfolding stored_answer rows_for
by_table s w h broken e = ((λ n is p. nothing form_one s n is e p), refl)
by_table s w h (table n is) e = by_room s n is w (only form_one s n is h e) (ltb (w / 6) (length is)) refl (stored_answer (table n is) w) refl

pub permits : (s : List ℕ) (w : ℕ) → Bytes s → Permitted s w (stored_answer (decode form_one s) w) (stored_rows (decode form_one s) w)
unfolding stored_rows
permits s w h = by_table s w h (decode form_one s) refl

pub permits_these : (s : List ℕ) (w : ℕ) (r : StoredReading) (u : List ℕ) → Bytes s → r ≡ stored_answer (decode form_one s) w → u ≡ stored_rows (decode form_one s) w → Permitted s w r u
permits_these s w r u h p q =
    subst (λ (x : StoredReading). Permitted s w x u) (sym p) (subst (Permitted s w (stored_answer (decode form_one s) w)) (sym q) (permits s w h))

-- ---- no other answer
module _ (s : List ℕ) (w : ℕ) where
  short_back : {k : ℕ} {f : BytePlace} {z c : ℕ} {t : List ℕ} → Short s w k → Back s w f z c t → ⊥
  short_back a b =
      let e = unique form_one s a.name b.name a.items b.items a.stored b.stored in
      let l = ap length e.1 in
      let m = a.short in
      let n = b.room in
      omega arith

  same_back : {f g : BytePlace} {z y c d : ℕ} {t u : List ℕ} → Back s w f z c t → Back s w g y d u → (read_table f z c ≡ read_table g y d) × (t ≡ u)
  same_back {f} {g} {z} {y} {c} {d} {t} {u} a b =
      let e = unique form_one s a.name b.name a.items b.items a.stored b.stored in
      let p : f.0 ≡ g.0 = a.first_is ∙ sym b.first_is in
      let q : z ≡ y = a.size_is ∙ ap length e.0 ∙ sym b.size_is in
      let r : c ≡ d = a.count_is ∙ ap length e.1 ∙ sym b.count_is in (
        ap (λ (k : ℕ). read_table (record { 0 = k }) z c) p ∙ ap (λ (k : ℕ). read_table g k c) q ∙ ap (read_table g y) r,
        a.rows_are ∙ ap₂ (λ (n : List ℕ) (is : List StoredItem). stored_rows_from (3 + length n) is ++ replicate (w - 6 * length is) 0) e.0 e.1 ∙ sym b.rows_are,
      )

  pub one_permitted : (r q : StoredReading) (t u : List ℕ) → Permitted s w r t → Permitted s w q u → (r ≡ q) × (t ≡ u)
  one_permitted (Ok r) (Ok q) t u a b = same_back a b
  one_permitted (Ok r) (Err NotStored) t u a b = absurd (b.0 a.name a.items a.stored)
  one_permitted (Ok r) (Err (ItemsShort k)) t u a b = absurd (short_back b.0 a)
  one_permitted (Err NotStored) (Ok q) t u a b = absurd (a.0 b.name b.items b.stored)
  one_permitted (Err (ItemsShort k)) (Ok q) t u a b = absurd (short_back a.0 b)
  one_permitted (Err NotStored) (Err NotStored) t u a b = (refl, a.1 ∙ sym b.1)
  one_permitted (Err NotStored) (Err (ItemsShort k)) t u a b = absurd (a.0 b.0.name b.0.items b.0.stored)
  one_permitted (Err (ItemsShort k)) (Err NotStored) t u a b = absurd (b.0 a.0.name a.0.items a.0.stored)
  one_permitted (Err (ItemsShort k)) (Err (ItemsShort l)) t u a b =
      (ap (λ (x : ℕ). Err (ItemsShort x)) (a.0.rows_are ∙ sym b.0.rows_are), a.1 ∙ sym b.1)

  -- 24 and 10, each exactly where it is due
  pub not_stored_when : (r : StoredReading) (t : List ℕ) → Permitted s w r t → ((n : List ℕ) (is : List StoredItem) → Stored form_one s n is → ⊥) → r ≡ Err NotStored
  not_stored_when (Ok r) t a h = absurd (h a.name a.items a.stored)
  not_stored_when (Err NotStored) t a h = refl
  not_stored_when (Err (ItemsShort k)) t a h = absurd (h a.0.name a.0.items a.0.stored)

  pub short_when : (r : StoredReading) (t : List ℕ) → Permitted s w r t → (n : List ℕ) (is : List StoredItem) → Stored form_one s n is → w / 6 < length is → r ≡ Err (ItemsShort (w / 6))
  short_when (Ok r) t a n is h l = absurd (short_back (record { name = n; items = is; stored = h; short = l; rows_are = refl }) a)
  short_when (Err NotStored) t a n is h l = absurd (a.0 n is h)
  short_when (Err (ItemsShort k)) t a n is h l = ap (λ (x : ℕ). Err (ItemsShort x)) a.0.rows_are
