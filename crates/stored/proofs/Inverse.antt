-- Reading is the inverse of storing: `decode F s` is the table that Stored speaks of, where there is one, and there is at most one. Assumes nothing.
use Rattle.std.specs.Prelude.{Option, Some, None}
use mathlib.Core.Path.{◌≡◌, refl, sym, ap, subst, ◌∙◌}
use mathlib.Core.Bool.{Bool, true, false, cond, ◌&&◌}
use mathlib.Core.List.{List, [], ◌∷◌, ◌++◌, map}
use Prim.Native.Nat.{ℕ, zero, suc, ◌+◌}
use native.Mathlib.Nat.{le_refl}
use native.Mathlib.Omega.{arith}
use borrow.Author.Tests.{eqb-true, eq-eqb, leb-true, le-leb}
use lib.Dec.{eqb, leb}
use lib.ListN.{length, drop}
use lib.Seq.{get_or-append-add}
use Rattle.stored.specs.Fields.{Field, field_bytes, fields_bytes}
use Rattle.stored.specs.StoredItems.{StoredItem, value_size, value_bytes, item_field, name_field}
use Rattle.stored.specs.Stored.{Form, stored_fields, stored_bytes, same_bytes, distinct, item_names, sized, item_legal, all_legal, Stored}
use Rattle.stored.specs.code.Decode.{tagged_field, before, fields_from, held_value, item_fits, held_legal, kept_in, with_name, item_in, with_item, items_in_fields, Table, broken, table, checked, titled, headed, whole_table, decode}
use Rattle.stored.specs.code.Promises.{Bytes}
use Rattle.laws.proofs.Laws.{clash}
use Rattle.stored.specs.declared.StoredValue.{StoredValue}
use Rattle.stored.proofs.FieldLaws.{Good, writable_good, good_writable, fields_back, fields_only, before_some}
use Rattle.stored.proofs.ItemLaws.{both, value_back, value_only, drop_value}
use Rattle.stored.proofs.Names.{same_is, same_self}

-- ---- one item
named : (v : StoredValue) (n : List ℕ) → ◌≡◌ {A = StoredItem} (record { value = v; name = drop (value_size v) (value_bytes v n) }) (record { value = v; name = n })
named v n = rw (drop_value v n)

pub item_back : (F : Form) (i : StoredItem) → item_legal F i ≡ true → item_in F (item_field i) ≡ Some i
unfolding item_legal item_in held_legal kept_in with_name item_fits item_field
item_back F i h =
    let a = both (sized i.value) _ h in
    let b = both (F.admits i.value) _ a.1 in
    let c = both (F.legal i.name) _ b.1 in
    rw (value_back i.value i.name a.0, drop_value i.value i.name, b.0, c.0, c.1) (ap Some (named i.value i.name))

same_field : {t u : ℕ} {a b : List ℕ} → t ≡ u → a ≡ b → tagged_field t a ≡ tagged_field u b
same_field p q = cc

item_made : (F : Form) (f : Field) (i : StoredItem) (x : Option StoredValue) → Bytes f.body → held_value f.tag f.body ≡ x → with_name (held_legal F x f.body) f.body ≡ Some i
    → (f ≡ item_field i) × (item_legal F i ≡ true)
unfolding item_legal held_legal with_name item_fits item_field
item_made F f i None h p e = clash (cc)
item_made F f i (Some v) h p e = go (item_fits F v (drop (value_size v) f.body)) refl e
  where
    go : (t : Bool) → item_fits F v (drop (value_size v) f.body) ≡ t
        → with_name (cond t (Some v) None) f.body ≡ Some i → (f ≡ item_field i) × (item_legal F i ≡ true)
    go false q r = clash (cc)
    go true q r =
        let o = value_only f.tag f.body v h p in
        let w : record { value = v; name = drop (value_size v) f.body } ≡ i = cc in
        let b = both (F.admits v) _ q in
        let c = both (F.legal (drop (value_size v) f.body)) _ b.1 in
        rw (← w) (same_field o.0 o.1.0, rw (o.1.1, b.0, c.0, c.1))

pub item_only : (F : Form) (f : Field) (i : StoredItem) → Bytes f.body → item_in F f ≡ Some i → (f ≡ item_field i) × (item_legal F i ≡ true)
unfolding item_in kept_in
item_only F f i h e = item_made F f i (held_value f.tag f.body) h refl e

-- ---- the items
pub items_back : (F : Form) (is : List StoredItem) → all_legal F is ≡ true → items_in_fields F (map item_field is) ≡ Some is
unfolding all_legal items_in_fields with_item before
items_back F [] h = refl
items_back F (i ∷ is) h =
    let b = both (item_legal F i) (all_legal F is) h in
    rw (item_back F i b.0, items_back F is b.1)

-- what stands in a list of bytes is bytes
bytes_left : (a b : List ℕ) → Bytes (a ++ b) → Bytes a
bytes_left [] b h i = omega arith
bytes_left (x ∷ a) b h zero = h zero
bytes_left (x ∷ a) b h (suc i) = bytes_left a b (λ j. h (suc j)) i

bytes_right : (a b : List ℕ) → Bytes (a ++ b) → Bytes b
bytes_right a b h i = rw (get_or-append-add a b i 0) at (h (length a + i))

field_bytes_lem : (f : Field) (fs : List Field) → Bytes (fields_bytes (f ∷ fs)) → Bytes f.body × Bytes (fields_bytes fs)
unfolding fields_bytes field_bytes
field_bytes_lem f fs h =
    (bytes_left f.body (fields_bytes fs) (λ i. h (suc (suc (suc i)))), bytes_right f.body (fields_bytes fs) (λ i. h (suc (suc (suc i)))))

put_some : (x : Option StoredItem) (r : Option (List StoredItem)) (is : List StoredItem) → with_item x r ≡ Some is → (i : StoredItem) × ((js : List StoredItem) × ((x ≡ Some i) × ((r ≡ Some js) × (is ≡ i ∷ js))))
unfolding with_item
put_some None r is e = clash (cc)
put_some (Some i) r is e = let b = before_some i r is e in (i, (b.0, (refl, (b.1.0, b.1.1))))

made : (f : Field) (fs : List Field) (i : StoredItem) (js : List StoredItem) → f ≡ item_field i → fs ≡ map item_field js → f ∷ fs ≡ map item_field (i ∷ js)
made f fs i js p q = cc

legal_too : (F : Form) (i : StoredItem) (js : List StoredItem) → item_legal F i ≡ true → all_legal F js ≡ true → all_legal F (i ∷ js) ≡ true
unfolding all_legal
legal_too F i js p q = rw (p, q)

pub items_only : (F : Form) (fs : List Field) (is : List StoredItem) → Bytes (fields_bytes fs) → items_in_fields F fs ≡ Some is → (fs ≡ map item_field is) × (all_legal F is ≡ true)
unfolding items_in_fields all_legal
items_only F [] is h e = let w : [] ≡ is = cc in rw (← w) (refl, refl)
items_only F (f ∷ fs) is h e =
    let b = put_some (item_in F f) (items_in_fields F fs) is e in
    let y = field_bytes_lem f fs h in
    let o = item_only F f b.0 y.0 b.1.1.0 in
    let r = items_only F fs b.1.0 y.1 b.1.1.1.0 in
    rw b.1.1.1.1 (made f fs b.0 b.1.0 o.0 r.0, legal_too F b.0 b.1.0 o.1 r.1)

-- ---- after a head
same_fields : (h f : Field) → (eqb h.tag f.tag && same_bytes h.body f.body) ≡ true → h ≡ f
same_fields h f e =
    let b = both (eqb h.tag f.tag) (same_bytes h.body f.body) e in
    same_field (eqb-true h.tag f.tag b.0) (same_is h.body f.body b.1)

pub headed_back : (F : Form) (hs fs : List Field) → headed F hs (hs ++ fs) ≡ titled F fs
unfolding headed
headed_back F [] fs = refl
headed_back F (h ∷ hs) fs = rw (eq-eqb h.tag h.tag refl, same_self h.body, headed_back F hs fs)

pub headed_some : (F : Form) (hs fs : List Field) (n : List ℕ) (is : List StoredItem) → headed F hs fs ≡ table n is → (gs : List Field) × ((fs ≡ hs ++ gs) × (titled F gs ≡ table n is))
unfolding headed
headed_some F [] fs n is e = (fs, (refl, e))
headed_some F (h ∷ hs) [] n is e = clash (cc)
headed_some F (h ∷ hs) (f ∷ fs) n is e = go (eqb h.tag f.tag && same_bytes h.body f.body) refl (λ d. headed_some F hs fs n is d) e
  where
    go : (t : Bool) → (eqb h.tag f.tag && same_bytes h.body f.body) ≡ t
        → (headed F hs fs ≡ table n is → (gs : List Field) × ((fs ≡ hs ++ gs) × (titled F gs ≡ table n is)))
        → cond t (headed F hs fs) broken ≡ table n is → (gs : List Field) × ((f ∷ fs ≡ h ∷ hs ++ gs) × (titled F gs ≡ table n is))
    go true p r q = let w = r q in let z = w.1.0 in let y = same_fields h f p in (w.0, (cc, w.1.1))
    go false p r q = clash (cc)

-- ---- the whole
pub found : (F : Form) (s n : List ℕ) (is : List StoredItem) → Stored F s n is → decode F s ≡ table n is
unfolding decode whole_table titled checked stored_bytes
found F s n is h =
    let l = h.legal in
    let g = writable_good (stored_fields F n is) l.written in
    let m = le-leb (length is) 1024 l.few in
    rw (h.bytes, fields_back (stored_fields F n is) g) (headed_back F F.head (name_field n ∷ map item_field is) ∙ rw (l.titled, items_back F is l.each, m, l.different))

pub unique : (F : Form) (s n m : List ℕ) (is js : List StoredItem) → Stored F s n is → Stored F s m js → (n ≡ m) × (is ≡ js)
unique F s n m is js p q = let a = found F s n is p in let b = found F s m js q in (cc, cc)

pub checked_some : (m n : List ℕ) (r : Option (List StoredItem)) (is : List StoredItem) → checked m r ≡ table n is
    → (r ≡ Some is) × ((m ≡ n) × ((leb (length is) 1024 ≡ true) × (distinct (item_names is) ≡ true)))
unfolding checked
checked_some m n None is e = clash (cc)
checked_some m n (Some js) is e = go (leb (length js) 1024) (distinct (item_names js)) refl refl e
  where
    go : (x y : Bool) → leb (length js) 1024 ≡ x → distinct (item_names js) ≡ y → cond x (cond y (table m js) broken) broken ≡ table n is
        → (Some js ≡ Some is) × ((m ≡ n) × ((leb (length is) 1024 ≡ true) × (distinct (item_names is) ≡ true)))
    go true true p q r = let w : js ≡ is = cc in (cc, (cc, (rw (← w) p, rw (← w) q)))
    go true false p q r = clash (cc)
    go false y p q r = clash (cc)

titled_some : (F : Form) (fs : List Field) (n : List ℕ) (is : List StoredItem) → titled F fs ≡ table n is
    → (gs : List Field) × ((fs ≡ name_field n ∷ gs) × ((F.legal n ≡ true) × (checked n (items_in_fields F gs) ≡ table n is)))
unfolding titled
titled_some F [] n is e = clash (cc)
titled_some F (f ∷ fs) n is e = go (eqb f.tag 1) (F.legal f.body) refl refl e
  where
    go : (x y : Bool) → eqb f.tag 1 ≡ x → F.legal f.body ≡ y → cond x (cond y (checked f.body (items_in_fields F fs)) broken) broken ≡ table n is
        → (gs : List Field) × ((f ∷ fs ≡ name_field n ∷ gs) × ((F.legal n ≡ true) × (checked n (items_in_fields F gs) ≡ table n is)))
    go true true p q r =
        let w = (checked_some f.body n (items_in_fields F fs) is r).1.0 in
        (fs, (ap (λ (g : Field). g ∷ fs) (same_field (eqb-true f.tag 1 p) w), (rw (← w) q, ap (λ (m : List ℕ). checked m (items_in_fields F fs)) (sym w) ∙ r)))
    go true false p q r = clash (cc)
    go false y p q r = clash (cc)

-- the bytes after a head are bytes
behind_head : (hs gs : List Field) → Bytes (fields_bytes (hs ++ gs)) → Bytes (fields_bytes gs)
behind_head [] gs h = h
behind_head (f ∷ hs) gs h = behind_head hs gs (field_bytes_lem f (hs ++ gs) h).1

built : (F : Form) (s n : List ℕ) (is : List StoredItem) (gs : List Field) → s ≡ fields_bytes (F.head ++ (name_field n ∷ gs)) → Good (F.head ++ (name_field n ∷ gs)) → Bytes s
    → F.legal n ≡ true → checked n (items_in_fields F gs) ≡ table n is → Stored F s n is
unfolding stored_bytes
built F s n is gs e g h q r =
    let cs = checked_some n n (items_in_fields F gs) is r in
    let y = field_bytes_lem (name_field n) gs (behind_head F.head (name_field n ∷ gs) (subst Bytes e h)) in
    let o = items_only F gs is y.1 cs.0 in
    record {
      bytes = e ∙ ap (λ (x : List Field). fields_bytes (F.head ++ (name_field n ∷ x))) o.0;
      legal = record {
        titled = q;
        each = o.1;
        few = leb-true (length is) 1024 cs.1.1.0;
        different = cs.1.1.1;
        written = good_writable (stored_fields F n is) (subst (λ (x : List Field). Good (F.head ++ (name_field n ∷ x))) o.0 g);
      };
    }

pub only : (F : Form) (s n : List ℕ) (is : List StoredItem) → Bytes s → decode F s ≡ table n is → Stored F s n is
unfolding decode whole_table
only F s n is h e = go (fields_from 0 s) refl e
  where
    go : (r : Option (List Field)) → fields_from 0 s ≡ r → whole_table F r ≡ table n is → Stored F s n is
    go None p q = clash (cc)
    go (Some fs) p q =
        let o = fields_only (length s) s fs (le_refl (length s)) h p in
        let d = headed_some F F.head fs n is q in
        let t = titled_some F d.0 n is d.1.1 in
        let z : fs ≡ F.head ++ (name_field n ∷ t.0) = d.1.0 ∙ ap (λ (x : List Field). F.head ++ x) t.1.0 in
        built F s n is t.0 (o.0 ∙ ap fields_bytes z) (subst Good z o.1) h t.1.1.0 t.1.1.1

-- where nothing is found, no table is stored
pub nothing : (F : Form) (s n : List ℕ) (is : List StoredItem) → decode F s ≡ broken → Stored F s n is → ⊥
nothing F s n is e h = let a = found F s n is h in clash (cc)

-- and where none is, nothing is found
pub none_found : (F : Form) (s : List ℕ) → Bytes s → ((n : List ℕ) (is : List StoredItem) → Stored F s n is → ⊥) → decode F s ≡ broken
none_found F s h k = go (decode F s) refl
  where
    go : (t : Table) → decode F s ≡ t → t ≡ broken
    go broken e = refl
    go (table n is) e = absurd (k n is (only F s n is h e))
