-- From the first field to the table. Assumes nothing.
use Rattle.stored_reading.specs.Permitted.{read_table}
use Rattle.std.specs.Prelude.{Option, Some, None, Err}
use mathlib.Core.Path.{◌≡◌, refl, sym, ap, subst, ◌∙◌}
use mathlib.Core.Bool.{Bool, true, false, cond}
use mathlib.Core.List.{List, [], ◌∷◌, ◌++◌}
use Prim.Native.Nat.{ℕ, zero, suc, ◌+◌, ◌-◌, ◌*◌, ◌/◌, ◌^◌, ◌≤◌, ◌<◌}
use native.Mathlib.Nat.{sub-zero, zero-sub, suc-sub-suc, zero-add}
use native.Mathlib.Omega.{arith}
use borrow.Author.Tests.{ne_eqb, eq-eqb, lt-ltb, le-ltb, le-leb, lt-leb}
use lib.Dec.{eqb}
use lib.ListN.{length, take, drop, replicate, length-drop, length-replicate}
use lib.Seq.{length-take-le, sets, sets-eq}
use mir.Val.{Fits}
use mir.Syntax.{w64}
use Rattle.stored.specs.Fields.{Field}
use Rattle.stored.specs.StoredItems.{StoredItem}
use Rattle.stored.specs.Stored.{form_one, distinct, item_names}
use Rattle.stored.specs.LegalNames.{legal_name}
use Rattle.stored.specs.code.Decode.{tagged_field, before, fields_from, Table, broken, table, checked, titled, headed, whole_table, decode}
use Rattle.stored.proofs.Inverse.{checked_some}
use Rattle.laws.proofs.Laws.{clash}
use Rattle.stored_reading.specs.code.Turns.{step_of, items_by, items_at, count_with, there, items_counted, distinct_items}
use Rattle.stored_reading.specs.StoredRows.{size_of, stored_rows_from}
use Rattle.stored_reading.specs.code.Answers.{rows_at, examined_of, stored_answer, rows_for, stored_rows}
use Rattle.stored_reading.specs.declared.StoredRefusal.TheVariants.{NotStored, ItemsShort}
use Rattle.stored_reading.specs.declared.FieldStep.{FieldStep}
use Rattle.stored_reading.specs.declared.FieldStep.TheVariants.{Bad, End, Tagged}
use Rattle.stored_reading.specs.Permitted.{StoredReading}
use Rattle.stored.specs.code.Promises.{Bytes}
use Rattle.stored_reading.specs.Permitted.{Permitted}
use Rattle.stored_reading.proofs.StepLaws.{Stepped, step_is}
use Rattle.stored_reading.proofs.Permits.{permits_these}

-- what the first step says of the whole
abbrev Decoded : List ℕ → FieldStep → Type 0
Decoded s Bad = decode form_one s ≡ broken
Decoded s End = decode form_one s ≡ broken
Decoded s (Tagged t n) = (3 + n ≤ length s) × (decode form_one s ≡ cond (eqb t 1) (cond (legal_name (take n (drop 3 s))) (checked (take n (drop 3 s)) (items_at form_one (drop (3 + n) s))) broken) broken)

all_broken : (a b : Bool) → broken ≡ cond a (cond b broken broken) broken
all_broken true true = refl
all_broken true false = refl
all_broken false b = refl

titled_by : (t : ℕ) (b : List ℕ) (r : Option (List Field)) → whole_table form_one (before (tagged_field t b) r) ≡ cond (eqb t 1) (cond (legal_name b) (checked b (items_by form_one r)) broken) broken
unfolding whole_table before titled headed items_by checked form_one
titled_by t b None = all_broken (eqb t 1) (legal_name b)
titled_by t b (Some fs) = refl

none_decoded : (s : List ℕ) → fields_from 0 s ≡ None → decode form_one s ≡ broken
unfolding decode whole_table
none_decoded s e = rw e

end_decoded : (s : List ℕ) → fields_from 0 s ≡ Some [] → decode form_one s ≡ broken
unfolding decode whole_table titled headed form_one
end_decoded s e = rw e

one_decoded : (s : List ℕ) (t n : ℕ) → fields_from 0 s ≡ before (tagged_field t (take n (drop 3 s))) (fields_from 0 (drop (3 + n) s))
    → decode form_one s ≡ cond (eqb t 1) (cond (legal_name (take n (drop 3 s))) (checked (take n (drop 3 s)) (items_at form_one (drop (3 + n) s))) broken) broken
unfolding decode items_at
one_decoded s t n e = ap (whole_table form_one) e ∙ titled_by t (take n (drop 3 s)) (fields_from 0 (drop (3 + n) s))

decoded : (s : List ℕ) → Decoded s (step_of s)
decoded s = go (step_of s) (step_is s)
  where
    go : (st : FieldStep) → Stepped s st → Decoded s st
    go Bad h = none_decoded s h
    go End h = end_decoded s h
    go (Tagged t n) h = (h.0, one_decoded s t n h.1)

module _ (s : List ℕ) (st : FieldStep) where
  decoded_at : st ≡ step_of s → Decoded s st
  decoded_at p = subst (Decoded s) (sym p) (decoded s)

  pub found_none : ((t n : ℕ) → st ≡ Tagged t n → ⊥) → st ≡ step_of s → None ≡ examined_of (decode form_one s)
  unfolding examined_of
  found_none h p = go st refl
    where
      go : (x : FieldStep) → st ≡ x → None ≡ examined_of (decode form_one s)
      go Bad e = let d : Decoded s Bad = subst (Decoded s) e (decoded_at p) in rw d
      go End e = let d : Decoded s End = subst (Decoded s) e (decoded_at p) in rw d
      go (Tagged t n) e = absurd (h t n e)

  decoded_tagged : (t n : ℕ) → st ≡ Tagged t n → st ≡ step_of s → Decoded s (Tagged t n)
  decoded_tagged t n e p = subst (Decoded s) e (decoded_at p)

  pub found_three : (t n : ℕ) → st ≡ Tagged t n → st ≡ step_of s → length s < 2 ^ 64 → Fits w64 (3 + n)
  found_three t n e p l = let d = decoded_tagged t n e p in omega arith

  pub found_tag : (t n : ℕ) → st ≡ Tagged t n → st ≡ step_of s → (t ≡ 1 → ⊥) → None ≡ examined_of (decode form_one s)
  unfolding examined_of
  found_tag t n e p m = let d = decoded_tagged t n e p in rw (d.1, ne_eqb t 1 m)

  -- the name, given as the code gives it
  decoded_named : (t n : ℕ) (b a : List ℕ) (x : Bool) → st ≡ Tagged t n → st ≡ step_of s → t ≡ 1 → x ≡ legal_name b → b ≡ take n a → a ≡ drop 3 s
      → (length b ≡ n) × (decode form_one s ≡ cond x (checked b (items_at form_one (drop (3 + n) s))) broken)
  decoded_named t n b a x e p o y q r =
      let d = decoded_tagged t n e p in
      let z : b ≡ take n (drop 3 s) = q ∙ ap (take n) r in (
        ap length z ∙ length-take-le n (drop 3 s) (rw (length-drop 3 s) (let l = d.0 in omega arith)),
        d.1 ∙ rw (eq-eqb t 1 o, ← z, ← y),
      )

  pub found_name : (t n : ℕ) (b a : List ℕ) (x : Bool) → st ≡ Tagged t n → st ≡ step_of s → t ≡ 1 → x ≡ legal_name b → x ≡ false → b ≡ take n a → a ≡ drop 3 s → None ≡ examined_of (decode form_one s)
  unfolding examined_of
  found_name t n b a x e p o y f q r = let d = decoded_named t n b a x e p o y q r in rw (d.1, f)

-- what a count says
tally_broken : (x : Option (List StoredItem)) → None ≡ count_with 0 x → x ≡ None
unfolding count_with
tally_broken None e = refl
tally_broken (Some is) e = clash (cc)

tally_items : (c : ℕ) (x : Option (List StoredItem)) → Some c ≡ count_with 0 x → (is : List StoredItem) × ((x ≡ Some is) × (c ≡ length is))
unfolding count_with
tally_items c None e = clash (cc)
tally_items c (Some is) e = (is, (refl, let z : c ≡ 0 + length is = cc in omega arith))

pub tally_there : (s : List ℕ) (from c : ℕ) (ct : Option ℕ) → ct ≡ Some c → ct ≡ count_with 0 (items_at form_one (drop from s)) → there (items_at form_one (drop from s)) ≡ true
unfolding there
tally_there s from c ct e p = let w = tally_items c (items_at form_one (drop from s)) (sym e ∙ p) in rw w.1.0

pub tally_count : (s : List ℕ) (from c : ℕ) (ct : Option ℕ) → ct ≡ Some c → ct ≡ count_with 0 (items_at form_one (drop from s)) → c ≡ items_counted (items_at form_one (drop from s))
unfolding items_counted
tally_count s from c ct e p = let w = tally_items c (items_at form_one (drop from s)) (sym e ∙ p) in w.1.1 ∙ sym (ap items_counted w.1.0)

module _ (s : List ℕ) (st : FieldStep) (t n : ℕ) (b a : List ℕ) (x : Bool) (ct : Option ℕ) where
  pub found_broken : st ≡ Tagged t n → st ≡ step_of s → t ≡ 1 → x ≡ legal_name b → x ≡ true → ct ≡ None → ct ≡ count_with 0 (items_at form_one (drop (3 + n) s)) → b ≡ take n a → a ≡ drop 3 s → None ≡ examined_of (decode form_one s)
  unfolding examined_of checked
  found_broken e p o y f g h q r = let d = decoded_named s st t n b a x e p o y q r in rw (d.1, f, tally_broken (items_at form_one (drop (3 + n) s)) (sym g ∙ h))

  pub found_many : (c : ℕ) → st ≡ Tagged t n → st ≡ step_of s → t ≡ 1 → x ≡ legal_name b → x ≡ true → ct ≡ Some c → 1024 < c → ct ≡ count_with 0 (items_at form_one (drop (3 + n) s)) → b ≡ take n a → a ≡ drop 3 s → None ≡ examined_of (decode form_one s)
  unfolding examined_of checked
  found_many c e p o y f g m h q r =
      let d = decoded_named s st t n b a x e p o y q r in
      let w = tally_items c (items_at form_one (drop (3 + n) s)) (sym g ∙ h) in
      rw (d.1, f, w.1.0, lt-leb (length w.0) 1024 (omega (arith, w.1.1)))

  pub found_doubled : (c : ℕ) (z : Bool) → st ≡ Tagged t n → st ≡ step_of s → t ≡ 1 → x ≡ legal_name b → x ≡ true → ct ≡ Some c → c ≤ 1024 → ct ≡ count_with 0 (items_at form_one (drop (3 + n) s))
      → z ≡ distinct_items (items_at form_one (drop (3 + n) s)) → z ≡ false → b ≡ take n a → a ≡ drop 3 s → None ≡ examined_of (decode form_one s)
  unfolding examined_of checked distinct_items
  found_doubled c z e p o y f g m h i j q r =
      let d = decoded_named s st t n b a x e p o y q r in
      let w = tally_items c (items_at form_one (drop (3 + n) s)) (sym g ∙ h) in
      let u : distinct (item_names w.0) ≡ false = sym (ap distinct_items w.1.0) ∙ sym i ∙ j in
      rw (d.1, f, w.1.0, le-leb (length w.0) 1024 (omega (arith, w.1.1)), u)

  pub found_whole : (c : ℕ) (z : Bool) → st ≡ Tagged t n → st ≡ step_of s → t ≡ 1 → x ≡ legal_name b → x ≡ true → ct ≡ Some c → c ≤ 1024 → ct ≡ count_with 0 (items_at form_one (drop (3 + n) s))
      → z ≡ distinct_items (items_at form_one (drop (3 + n) s)) → z ≡ true → b ≡ take n a → a ≡ drop 3 s → Some (3 + n, c) ≡ examined_of (decode form_one s)
  unfolding examined_of checked distinct_items
  found_whole c z e p o y f g m h i j q r =
      let d = decoded_named s st t n b a x e p o y q r in
      let w = tally_items c (items_at form_one (drop (3 + n) s)) (sym g ∙ h) in
      let u : distinct (item_names w.0) ≡ true = sym (ap distinct_items w.1.0) ∙ sym i ∙ j in
      rw (d.1, f, w.1.0, le-leb (length w.0) 1024 (omega (arith, w.1.1)), u, d.0) (ap (λ (x : ℕ). Some (3 + n, x)) w.1.1)

-- ---- the answer and the table
found_table : (d : Table) (f c : ℕ) → Some (f, c) ≡ examined_of d → (n : List ℕ) × ((is : List StoredItem) × ((d ≡ table n is) × ((f ≡ 3 + length n) × (c ≡ length is))))
unfolding examined_of
found_table broken f c e = clash (cc)
found_table (table n is) f c e =
    let p : ◌≡◌ {A = ℕ × ℕ} (f, c) (3 + length n, length is) = cc in (n, (is, (refl, (ap (λ (x : ℕ × ℕ). x.0) p, ap (λ (x : ℕ × ℕ). x.1) p))))

found_broken_is : (d : Table) → None ≡ examined_of d → d ≡ broken
unfolding examined_of
found_broken_is broken e = refl
found_broken_is (table n is) e = clash (cc)

-- the items after the name
opened_by_lem : (s n : List ℕ) (is : List StoredItem) (st : FieldStep) → Decoded s st → decode form_one s ≡ table n is → items_at form_one (drop (3 + length n) s) ≡ Some is
opened_by_lem s n is Bad d e = clash (cc)
opened_by_lem s n is End d e = clash (cc)
opened_by_lem s n is (Tagged t k) d e = go (eqb t 1) (legal_name (take k (drop 3 s))) (sym d.1 ∙ e)
  where
    go : (x y : Bool) → cond x (cond y (checked (take k (drop 3 s)) (items_at form_one (drop (3 + k) s))) broken) broken ≡ table n is → items_at form_one (drop (3 + length n) s) ≡ Some is
    go true true h =
        let w = checked_some (take k (drop 3 s)) n (items_at form_one (drop (3 + k) s)) is h in
        let l : length n ≡ k = ap length (sym w.1.0) ∙ length-take-le k (drop 3 s) (rw (length-drop 3 s) (let m = d.0 in omega arith)) in
        rw l w.0
    go true false h = clash (cc)
    go false y h = clash (cc)

pub opened : (s n : List ℕ) (is : List StoredItem) → decode form_one s ≡ table n is → items_at form_one (drop (3 + length n) s) ≡ Some is
opened s n is e = opened_by_lem s n is (step_of s) (decoded s) e

-- zeros after a part of zeros
pub drop_replicate : (k n a : ℕ) → drop k (replicate n a) ≡ replicate (n - k) a
drop_replicate zero n a = rw sub-zero
drop_replicate (suc k) zero a = rw zero-sub
drop_replicate (suc k) (suc n) a = drop_replicate k n a ∙ rw suc-sub-suc

pub length_cells : (at : ℕ) (is : List StoredItem) → length (stored_rows_from at is) ≡ 6 * length is
unfolding stored_rows_from
length_cells at [] = refl
length_cells at (i ∷ is) = omega (arith, length_cells (at + size_of i) is)

filled : (at : ℕ) (is : List StoredItem) (w : ℕ) → 6 * length is ≤ w → sets (replicate w 0) 0 (stored_rows_from at is) ≡ stored_rows_from at is ++ replicate (w - 6 * length is) 0
filled at is w h =
    sets-eq (stored_rows_from at is) (replicate w 0) 0 (rw (zero-add, length_cells at is, length-replicate) h)
    ∙ rw (zero-add, length_cells at is, drop_replicate)

rows_made : (n : List ℕ) (is : List StoredItem) (f w : ℕ) (u v : List ℕ) (d : Table) {x : Option (List StoredItem)} {k c : ℕ} → d ≡ table n is → f ≡ 3 + length n → v ≡ sets u 0 (rows_at f x) → x ≡ Some is → u ≡ replicate w 0
    → 6 * length is ≤ w → read_table (record { 0 = 3 }) k c ≡ stored_answer d w → v ≡ rows_for (stored_answer d w) d w
unfolding rows_for rows_at
rows_made n is f w u v d {x} {k} {c} e g q i z r a =
    q ∙ rw (i, z, g) (filled (3 + length n) is w r) ∙ sym (ap (λ (y : StoredReading). rows_for y d w) (sym a) ∙ ap (λ (y : Table). rows_for (read_table (record { 0 = 3 }) k c) y w) e)

module _ (s : List ℕ) (fd : Option (ℕ × ℕ)) where
  pub read_none : (w : ℕ) → fd ≡ None → fd ≡ examined_of (decode form_one s) → Err NotStored ≡ stored_answer (decode form_one s) w
  unfolding stored_answer
  read_none w e p = rw (found_broken_is (decode form_one s) (sym e ∙ p))

  pub rows_none : (w : ℕ) (u : List ℕ) → fd ≡ None → fd ≡ examined_of (decode form_one s) → u ≡ replicate w 0 → u ≡ stored_rows (decode form_one s) w
  unfolding stored_rows rows_for stored_answer
  rows_none w u e p z = z ∙ rw (found_broken_is (decode form_one s) (sym e ∙ p))

  pub from_three : (f c : ℕ) → fd ≡ Some (f, c) → fd ≡ examined_of (decode form_one s) → 3 ≤ f
  from_three f c e p = let w = found_table (decode form_one s) f c (sym e ∙ p) in omega (arith, w.1.1.1.0)

  items_from : (f c : ℕ) → fd ≡ Some (f, c) → fd ≡ examined_of (decode form_one s) → (is : List StoredItem) × ((items_at form_one (drop f s) ≡ Some is) × (c ≡ length is))
  items_from f c e p =
      let w = found_table (decode form_one s) f c (sym e ∙ p) in
      (w.1.0, (ap (λ (k : ℕ). items_at form_one (drop k s)) w.1.1.1.0 ∙ opened s w.0 w.1.0 w.1.1.0, w.1.1.1.1))

  pub there_from : (f c : ℕ) → fd ≡ Some (f, c) → fd ≡ examined_of (decode form_one s) → there (items_at form_one (drop f s)) ≡ true
  unfolding there
  there_from f c e p = let w = items_from f c e p in rw w.1.0

  pub room_from : (f c : ℕ) (t : List ℕ) → fd ≡ Some (f, c) → fd ≡ examined_of (decode form_one s) → c ≤ length t / 6 → 6 * items_counted (items_at form_one (drop f s)) ≤ length t
  unfolding items_counted
  room_from f c t e p l = let w = items_from f c e p in rw w.1.0 (omega (arith, w.1.1))

  pub read_short : (f c : ℕ) (t u : List ℕ) → fd ≡ Some (f, c) → fd ≡ examined_of (decode form_one s) → length u / 6 < c → u ≡ replicate (length t) 0 → Err (ItemsShort (length u / 6)) ≡ stored_answer (decode form_one s) (length t)
  unfolding stored_answer
  read_short f c t u e p l z =
      let w = found_table (decode form_one s) f c (sym e ∙ p) in
      let m : length u ≡ length t = ap length z ∙ length-replicate (length t) 0 in
      rw (w.1.1.0, lt-ltb (length t / 6) (length w.1.0) (omega (arith, m, w.1.1.1.1)), m)

  pub rows_short : (f c : ℕ) (t u : List ℕ) → fd ≡ Some (f, c) → fd ≡ examined_of (decode form_one s) → length u / 6 < c → u ≡ replicate (length t) 0 → u ≡ stored_rows (decode form_one s) (length t)
  unfolding stored_rows rows_for
  rows_short f c t u e p l z = z ∙ sym (ap (λ (a : StoredReading). rows_for a (decode form_one s) (length t)) (sym (read_short f c t u e p l z)))

  pub read_whole : (f c : ℕ) (t u : List ℕ) → fd ≡ Some (f, c) → fd ≡ examined_of (decode form_one s) → c ≤ length u / 6 → u ≡ replicate (length t) 0 → read_table (record { 0 = 3 }) (f - 3) c ≡ stored_answer (decode form_one s) (length t)
  unfolding stored_answer
  read_whole f c t u e p l z =
      let w = found_table (decode form_one s) f c (sym e ∙ p) in
      let m : length u ≡ length t = ap length z ∙ length-replicate (length t) 0 in
      let k : f - 3 ≡ length w.0 = omega (arith, w.1.1.1.0) in
      rw (w.1.1.0, le-ltb (length t / 6) (length w.1.0) (omega (arith, m, w.1.1.1.1))) (ends k w.1.1.1.1)
    where
      ends : {a b x y : ℕ} → a ≡ b → x ≡ y → read_table (record { 0 = 3 }) a x ≡ read_table (record { 0 = 3 }) b y
      ends p q = cc

  pub rows_whole : (f c : ℕ) (t u v : List ℕ) → fd ≡ Some (f, c) → fd ≡ examined_of (decode form_one s) → c ≤ length u / 6 → v ≡ sets u 0 (rows_at f (items_at form_one (drop f s))) → u ≡ replicate (length t) 0 → v ≡ stored_rows (decode form_one s) (length t)
  unfolding stored_rows
  rows_whole f c t u v e p l q z =
      let w = found_table (decode form_one s) f c (sym e ∙ p) in
      let i = opened s w.0 w.1.0 w.1.1.0 in
      let m : length u ≡ length t = ap length z ∙ length-replicate (length t) 0 in
      let r : 6 * length w.1.0 ≤ length t = omega (arith, m, w.1.1.1.1) in
      rows_made w.0 w.1.0 f (length t) u v (decode form_one s) w.1.1.0 w.1.1.1.0 q (ap (λ (k : ℕ). items_at form_one (drop k s)) w.1.1.1.0 ∙ i) z r (read_whole f c t u e p l z)

-- ---- the contract
module _ (s : List ℕ) (fd : Option (ℕ × ℕ)) where
  pub permit_none : (t u : List ℕ) → Bytes s → fd ≡ None → fd ≡ examined_of (decode form_one s) → u ≡ replicate (length t) 0 → Permitted s (length t) (Err NotStored) u
  permit_none t u h e p z = permits_these s (length t) (Err NotStored) u h (read_none s fd (length t) e p) (rows_none s fd (length t) u e p z)

  pub permit_short : (f c : ℕ) (t u : List ℕ) → Bytes s → fd ≡ Some (f, c) → fd ≡ examined_of (decode form_one s) → length u / 6 < c → u ≡ replicate (length t) 0 → Permitted s (length t) (Err (ItemsShort (length u / 6))) u
  permit_short f c t u h e p l z = permits_these s (length t) (Err (ItemsShort (length u / 6))) u h (read_short s fd f c t u e p l z) (rows_short s fd f c t u e p l z)

  pub permit_read : (f c : ℕ) (t u v : List ℕ) → Bytes s → fd ≡ Some (f, c) → fd ≡ examined_of (decode form_one s) → c ≤ length u / 6 → v ≡ sets u 0 (rows_at f (items_at form_one (drop f s))) → u ≡ replicate (length t) 0
      → Permitted s (length t) (read_table (record { 0 = 3 }) (f - 3) c) v
  permit_read f c t u v h e p l q z = permits_these s (length t) (read_table (record { 0 = 3 }) (f - 3) c) v h (read_whole s fd f c t u e p l z) (rows_whole s fd f c t u v e p l q z)
