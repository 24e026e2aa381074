-- Fields and their bytes: each is read back as it was, and what is read has no other bytes. Assumes nothing.
use Rattle.std.specs.Prelude.{Option, Some, None}
use mathlib.Core.Path.{◌≡◌, refl, sym, ◌∙◌}
use mathlib.Core.Bool.{Bool, true, false, cond, not, ◌&&◌}
use mathlib.Core.List.{List, [], ◌∷◌, ◌++◌}
use Prim.Native.Nat.{ℕ, zero, suc, ◌+◌, ◌*◌, ◌/◌, ◌%◌, ◌≤◌, ◌<◌, zero-le, suc-le-suc}
use native.Mathlib.Nat.{not-suc-le-zero, div-add-mod'}
use native.Mathlib.Omega.{arith}
use borrow.Author.Tests.{eqb-true, eqb-false, ne_eqb, eq-eqb, ltb-true, lt-ltb}
use lib.Dec.{eqb, ltb}
use lib.ListN.{length, take, drop, length-drop, take-append-drop}
use lib.Seq.{take-append_seam, get_or-drop, length-take-le}
use Rattle.stored.specs.Fields.{Field, field_bytes, fields_bytes, writable, all_writable}
use Rattle.laws.proofs.Laws.{clash, both_left, both_right}
use Rattle.stored.specs.code.Promises.{Bytes}
use Rattle.stored.specs.code.Decode.{tagged_field, before, ending, fields_from}

-- each field can be told from the end, and its length has two bytes
pub data Good : List Field → Type 0 where
  no_field : Good []
  a_field : {f : Field} {fs : List Field} → (f.tag ≡ 0 → ⊥) → length f.body < 65536 → Good fs → Good (f ∷ fs)

tag_known : (t : ℕ) → not (eqb t 0) ≡ true → t ≡ 0 → ⊥
tag_known t h e = let z = (rw (eq-eqb t 0 e) at h) in clash (cc)

-- a field that can be written, and one that is good, are the same
pub writable_good : (fs : List Field) → all_writable fs ≡ true → Good fs
unfolding all_writable writable
writable_good [] h = no_field
writable_good (f ∷ fs) h =
    let w = both_left (not (eqb f.tag 0) && ltb (length f.body) 65536) (all_writable fs) h in
    a_field (tag_known f.tag (both_left (not (eqb f.tag 0)) _ w)) (ltb-true (length f.body) 65536 (both_right (not (eqb f.tag 0)) _ w))
    (writable_good fs (both_right (not (eqb f.tag 0) && ltb (length f.body) 65536) (all_writable fs) h))

both_so : (x y : Bool) → x ≡ true → y ≡ true → (x && y) ≡ true
both_so true y p q = q
both_so false y p q = p

tag_told : (t : ℕ) → (t ≡ 0 → ⊥) → not (eqb t 0) ≡ true
tag_told t n = rw (ne_eqb t 0 n)

pub good_writable : (fs : List Field) → Good fs → all_writable fs ≡ true
unfolding all_writable writable
good_writable [] no_field = refl
good_writable (f ∷ fs) (a_field n l g) = both_so _ _ (both_so _ _ (tag_told f.tag n) (lt-ltb (length f.body) 65536 l)) (good_writable fs g)

-- passing over
pub pass : (b s : List ℕ) → fields_from (length b) (b ++ s) ≡ fields_from 0 s
unfolding fields_from
pass [] s = refl
pass (x ∷ b) s = pass b s

pub pass_some : (k : ℕ) (s : List ℕ) (fs : List Field) → fields_from k s ≡ Some fs → (k ≤ length s) × (fields_from 0 (drop k s) ≡ Some fs)
unfolding fields_from
pass_some zero s fs e = (zero-le, e)
pass_some (suc k) [] fs e = clash (cc)
pass_some (suc k) (b ∷ s) fs e = let r = pass_some k s fs e in (suc-le-suc r.0, r.1)

pub field_front : (t h l : ℕ) (s : List ℕ) → (t ≡ 0 → ⊥) → fields_from 0 (t ∷ h ∷ l ∷ s) ≡ before (tagged_field t (take (h * 256 + l) s)) (fields_from (h * 256 + l) s)
unfolding fields_from
field_front t h l s n = rw (ne_eqb t 0 n, fields_from)

-- stored fields are read back
pub fields_back : (fs : List Field) → Good fs → fields_from 0 (fields_bytes fs) ≡ Some fs
unfolding fields_from fields_bytes field_bytes ending before
fields_back [] no_field = refl
fields_back (f ∷ fs) (a_field n l g) =
    field_front f.tag (length f.body / 256) (length f.body % 256) (f.body ++ fields_bytes fs) n
    ∙ rw (div-add-mod' (length f.body) 256, take-append_seam f.body (fields_bytes fs), pass f.body (fields_bytes fs), fields_back fs g)

-- what was put before
pub before_some : {A : Type 0} (a : A) (r : Option (List A)) (xs : List A) → before a r ≡ Some xs → (bs : List A) × ((r ≡ Some bs) × (xs ≡ a ∷ bs))
unfolding before
before_some a None xs e = clash (cc)
before_some a (Some bs) xs e = (bs, (refl, cc))

-- what ends the fields
pub ending_some : (s : List ℕ) (fs : List Field) → ending s ≡ Some fs → (s ≡ 0 ∷ 0 ∷ []) × (fs ≡ [])
unfolding ending
ending_some [] fs e = clash (cc)
ending_some (a ∷ []) fs e = clash (cc)
ending_some (a ∷ b ∷ c ∷ s) fs e =
    let w = rw (ne_eqb (suc (suc (suc (length s)))) 2 (λ h. omega arith)) at e in
    clash (cc)
ending_some (a ∷ b ∷ []) fs e = go (eqb a 0) (eqb b 0) refl refl e
  where
    go : (x y : Bool) → eqb a 0 ≡ x → eqb b 0 ≡ y → ◌≡◌ {A = Option (List Field)} (cond (x && y) (Some []) None) (Some fs) → (a ∷ b ∷ [] ≡ 0 ∷ 0 ∷ []) × (fs ≡ [])
    go true true p q r = (rw (eqb-true a 0 p, eqb-true b 0 q), cc)
    go true false p q r = clash (cc)
    go false y p q r = clash (cc)

pub drop_bytes : (k : ℕ) (s : List ℕ) → Bytes s → Bytes (drop k s)
drop_bytes k s h i = rw (get_or-drop k s i 0) (h (k + i))

tag_only : (t : ℕ) (s : List ℕ) (fs : List Field) → eqb t 0 ≡ true → fields_from 0 (t ∷ s) ≡ Some fs → (t ∷ s ≡ fields_bytes fs) × Good fs
unfolding fields_from fields_bytes
tag_only t s fs p e =
    let r = ending_some s fs (rw (p, fields_from) at e) in
    rw (r.0, r.1, eqb-true t 0 p) (refl, no_field)

bytes_are : (t a b n : ℕ) (u : List ℕ) (fs : List Field) → length (take n u) ≡ n → a ≡ n / 256 → b ≡ n % 256 → drop n u ≡ fields_bytes fs
    → t ∷ a ∷ b ∷ u ≡ fields_bytes (tagged_field t (take n u) ∷ fs)
unfolding fields_bytes field_bytes
bytes_are t a b n u fs m p q e = rw (m, ← e, take-append-drop n u, ← p, ← q)

-- and the bytes of what was read are those
pub fields_only : (k : ℕ) (s : List ℕ) (fs : List Field) → length s ≤ k → Bytes s → fields_from 0 s ≡ Some fs → (s ≡ fields_bytes fs) × Good fs
unfolding fields_from before
fields_only zero [] fs l h e = clash (cc)
fields_only zero (t ∷ s) fs l h e = absurd (not-suc-le-zero l)
fields_only (suc k) [] fs l h e = clash (cc)
fields_only (suc k) (t ∷ s) fs l h e = go (eqb t 0) refl (λ u gs l' h' e'. fields_only k u gs l' h' e') s l h e
  where
    go : (x : Bool) → eqb t 0 ≡ x
        → ((u : List ℕ) (gs : List Field) → length u ≤ k → Bytes u → fields_from 0 u ≡ Some gs → (u ≡ fields_bytes gs) × Good gs)
        → (s : List ℕ) → length (t ∷ s) ≤ suc k → Bytes (t ∷ s) → fields_from 0 (t ∷ s) ≡ Some fs → (t ∷ s ≡ fields_bytes fs) × Good fs
    go true p ih s l h e = tag_only t s fs p e
    go false p ih [] l h e = clash (let z = (rw (p, fields_from) at e) in cc)
    go false p ih (a ∷ []) l h e = clash (let z = (rw (p, fields_from) at e) in cc)
    go false p ih (a ∷ b ∷ u) l h e =
        let d = before_some (tagged_field t (take (a * 256 + b) u)) (fields_from (a * 256 + b) u) fs (sym (field_front t a b u (eqb-false t 0 p)) ∙ e) in
        let q = pass_some (a * 256 + b) u d.0 d.1.0 in
        let m : length (take (a * 256 + b) u) ≡ a * 256 + b = length-take-le (a * 256 + b) u q.0 in
        let ha : a < 256 = h 1 in
        let hb : b < 256 = h 2 in
        let r = ih (drop (a * 256 + b) u) d.0 (simp length-drop (omega arith)) (drop_bytes (a * 256 + b) u (λ i. h (suc (suc (suc i))))) q.1 in
        let ea : a ≡ (a * 256 + b) / 256 = omega arith in
        let eb : b ≡ (a * 256 + b) % 256 = omega arith in
        let z : t ∷ a ∷ b ∷ u ≡ fields_bytes (tagged_field t (take (a * 256 + b) u) ∷ d.0) = bytes_are t a b (a * 256 + b) u d.0 m ea eb r.0 in
        let w : length (take (a * 256 + b) u) < 65536 = rw m (omega arith) in
        rw d.1.1 (z, a_field (eqb-false t 0 p) w r.1)
