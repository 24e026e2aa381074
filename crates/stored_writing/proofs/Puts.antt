-- Fields put one after the other, in the code's terms. Assumes nothing.
use mathlib.Core.Path.{◌≡◌, refl, sym, ap, ◌∙◌}
use mathlib.Core.Bool.{Bool, true, false, not}
use mathlib.Core.List.{List, [], ◌∷◌, ◌++◌, map, append_assoc}
use Prim.Native.Nat.{ℕ, zero, suc, ◌+◌, ◌-◌, ◌/◌, ◌%◌, ◌^◌, ◌≤◌, ◌<◌}
use native.Mathlib.Numerals.{add-one}
use native.Mathlib.Omega.{arith}
use borrow.Author.Tests.{ltb-true}
use lib.Dec.{eqb, ltb}
use lib.IntN.{ℤ, pos, negsuc}
use lib.ListN.{length, get_or, take, drop, replicate, length-replicate}
use lib.Seq.{take-suc, take-length, sets-eq}
use mir.Val.{of_z, to_z, SFits}
use mir.Syntax.{w32}
use mir.ValLaws.{to_z-of_z}
use Rattle.laws.proofs.Laws.{both_left, both_right}
use Rattle.same_names.specs.Spelling.{counts}
use Rattle.values.specs.ValueWords.{word_of}
use Rattle.puts.specs.Puts.{Wrote}
use Rattle.puts.proofs.Laws.{then, then3, then4, named}
use Rattle.stored.specs.Fields.{Field, field_bytes, fields_bytes, writable, all_writable}
use Rattle.stored.specs.StoredItems.{StoredItem, item_field, name_field, tag_of, value_size, value_bytes, number_bytes, four_bytes, truth_byte}
use Rattle.stored.specs.declared.StoredValue.{StoredValue}
use Rattle.stored.specs.declared.StoredValue.TheVariants.{Number, Truth, Range, Truths}
use Rattle.stored_writing.specs.Written.{as_stored, head_bytes, field_put, fields_put, field_size}

-- ---- numbers

low_half : (z : ℤ) → SFits w32 z → word_of z % 4294967296 ≡ of_z w32 z
low_half (pos n) f = let h : n < 2 ^ 31 = f.sfits in omega arith
low_half (negsuc n) f = let h : n < 2 ^ 31 = f.sfits in omega arith

module _ {t t' : List ℕ} {at r : ℕ} where
  pub number_put : (z : ℤ) (w : ℕ) → SFits w32 z → w ≡ word_of (to_z w32 (of_z w32 z)) → Wrote t at (four_bytes (w % 4294967296)) t' r → Wrote t at (number_bytes z) t' r
  unfolding number_bytes
  number_put z w f e p =
      let g : w % 4294967296 ≡ of_z w32 z = ap (λ (n : ℕ). n % 4294967296) (e ∙ ap word_of (to_z-of_z w32 z f)) ∙ low_half z f in
      named (ap four_bytes (sym g)) p

-- four bytes, and three
pub four_put : {t t₁ t₂ t₃ t₄ : List ℕ} {a b c d e : ℕ} (n : ℕ) → Wrote t a (n / 16777216 ∷ []) t₁ b → Wrote t₁ b (n / 65536 % 256 ∷ []) t₂ c
    → Wrote t₂ c (n / 256 % 256 ∷ []) t₃ d → Wrote t₃ d (n % 256 ∷ []) t₄ e → Wrote t a (four_bytes n) t₄ e
unfolding four_bytes
four_put n p q r s = then4 p q r s

pub head_put : {t t₁ t₂ t₃ : List ℕ} {a b c d : ℕ} (tag n : ℕ) → Wrote t a (tag ∷ []) t₁ b → Wrote t₁ b (n / 256 % 256 ∷ []) t₂ c → Wrote t₂ c (n % 256 ∷ []) t₃ d
    → Wrote t a (head_bytes tag n) t₃ d
unfolding head_bytes
head_put tag n p q r = then3 p q r

-- ---- a value's bytes are as many as its size says, and the name follows
value_name : (v : StoredValue) (n : List ℕ) → value_bytes v n ≡ value_bytes v [] ++ n
unfolding value_bytes number_bytes four_bytes
value_name (Number z) n = refl
value_name (Truth b) n = refl
value_name (Range y z) n = refl
value_name Truths n = refl

pub value_length : (v : StoredValue) (n : List ℕ) → length (value_bytes v n) ≡ value_size v + length n
unfolding value_bytes number_bytes four_bytes
value_length (Number z) n = omega arith
value_length (Truth b) n = omega arith
value_length (Range y z) n = omega arith
value_length Truths n = omega arith

pub small_size : (v : StoredValue) (k : ℕ) → k ≡ value_size v → k ≤ 9
small_size (Number z) k e = omega arith
small_size (Truth b) k e = omega arith
small_size (Range y z) k e = omega arith
small_size Truths k e = omega arith

pub stored_length : (basic : Bool) (n : List ℕ) → length (as_stored basic n) ≡ length n
unfolding as_stored
stored_length basic [] = refl
stored_length basic (b ∷ n) = ap suc (stored_length basic n)

-- a name put as it stands
pub as_it_stands : (n : List ℕ) → as_stored false n ≡ n
unfolding as_stored
as_it_stands [] = refl
as_it_stands (b ∷ n) = ap (λ (l : List ℕ). b ∷ l) (as_it_stands n)

-- ---- fields
pub put_length : (f : Field) → length (field_put f) ≡ field_size f
unfolding field_put head_bytes field_size
put_length f = omega arith

pub written_field : (f : Field) (rest : List ℕ) → writable f ≡ true → field_put f ++ rest ≡ field_bytes f rest
unfolding field_put head_bytes field_bytes writable
written_field f rest h =
    let l : length f.body < 65536 = ltb-true (length f.body) 65536 (both_right (not (eqb f.tag 0)) (ltb (length f.body) 65536) h) in
    let e : length f.body / 256 % 256 ≡ length f.body / 256 = omega arith in
    ap (λ (k : ℕ). f.tag ∷ k ∷ length f.body % 256 ∷ f.body ++ rest) e

pub fields_put_lem : (fs : List Field) → all_writable fs ≡ true → fields_put fs ++ fields_bytes [] ≡ fields_bytes fs
unfolding fields_put fields_bytes all_writable
fields_put_lem [] h = refl
fields_put_lem (f ∷ fs) h =
    append_assoc (field_put f) (fields_put fs) (fields_bytes [])
    ∙ ap (λ (l : List ℕ). field_put f ++ l) (fields_put_lem fs (both_right (writable f) (all_writable fs) h))
    ∙ written_field f (fields_bytes fs) (both_left (writable f) (all_writable fs) h)

pub items_append : (xs ys : List StoredItem) → fields_put (map item_field (xs ++ ys)) ≡ fields_put (map item_field xs) ++ fields_put (map item_field ys)
unfolding fields_put
items_append [] ys = refl
items_append (x ∷ xs) ys =
    ap (λ (l : List ℕ). field_put (item_field x) ++ l) (items_append xs ys) ∙ sym (append_assoc (field_put (item_field x)) (fields_put (map item_field xs)) (fields_put (map item_field ys)))

pub package_size : (n : List ℕ) → 3 + length n ≡ field_size (name_field n)
unfolding field_size
package_size n = refl

pub item_size : (v : StoredValue) (n : List ℕ) (k : ℕ) → k ≡ value_size v → 3 + (k + length n) ≡ field_size (item_field (record { value = v; name = n }))
unfolding field_size item_field
item_size v n k e = ap (λ (i : ℕ). 3 + i) (ap (λ (i : ℕ). i + length n) e ∙ sym (value_length v n))

module _ {t t₁ t₂ : List ℕ} {a b c : ℕ} (basic : Bool) (n : List ℕ) where
  pub package_put : Wrote t a (head_bytes 1 (length n)) t₁ b → Wrote t₁ b (as_stored basic n) t₂ c → Wrote t a (field_put (name_field (as_stored basic n))) t₂ c
  unfolding field_put
  package_put p q = named (ap (λ (k : ℕ). head_bytes 1 k ++ as_stored basic n) (stored_length basic n)) (then p q)

module _ {t t₁ t₂ t₃ : List ℕ} {a b c d : ℕ} (v : StoredValue) (basic : Bool) (n : List ℕ) (k g : ℕ) where
  pub item_put : k ≡ value_size v → g ≡ tag_of v → Wrote t a (head_bytes g (k + length n)) t₁ b → Wrote t₁ b (value_bytes v []) t₂ c → Wrote t₂ c (as_stored basic n) t₃ d
      → Wrote t a (field_put (item_field (record { value = v; name = as_stored basic n }))) t₃ d
  unfolding field_put item_field
  item_put e f p q r =
      let l : length (value_bytes v (as_stored basic n)) ≡ k + length n = value_length v (as_stored basic n) ∙ rw (stored_length basic n, e) in
      named (rw (l, f, value_name v (as_stored basic n))) (then3 p q r)

pub end_put : {t t' : List ℕ} {a b : ℕ} → Wrote t a (head_bytes 0 0) t' b → Wrote t a (fields_bytes []) t' b
unfolding head_bytes fields_bytes
end_put p = p

-- ---- a value
pub ends_put : {t t₁ t₂ t₃ : List ℕ} {a b c d : ℕ} (k : ℕ) (y z : ℤ) → SFits w32 y → SFits w32 z → Wrote t a (k ∷ []) t₁ b → Wrote t₁ b (number_bytes (to_z w32 (of_z w32 y))) t₂ c
    → Wrote t₂ c (number_bytes (to_z w32 (of_z w32 z))) t₃ d → Wrote t a (k ∷ number_bytes y ++ number_bytes z) t₃ d
ends_put k y z f g p q r = named (rw (to_z-of_z w32 y f, to_z-of_z w32 z g)) (then3 p q r)

module _ {t t' : List ℕ} {a b : ℕ} (v : StoredValue) where
  pub value_number : (z : ℤ) → v ≡ Number z → SFits w32 z → Wrote t a (number_bytes (to_z w32 (of_z w32 z))) t' b → Wrote t a (value_bytes v []) t' b
  unfolding value_bytes number_bytes four_bytes
  value_number z e f p = named (rw (e, to_z-of_z w32 z f)) p

  pub value_truth : (x : Bool) (n : ℕ) → v ≡ Truth x → n ≡ truth_byte x → Wrote t a (n ∷ []) t' b → Wrote t a (value_bytes v []) t' b
  unfolding value_bytes
  value_truth x n e f p = rw (e, ← f) p

  pub value_range : (y z : ℤ) → v ≡ Range y z → SFits w32 y → SFits w32 z → Wrote t a (0 ∷ number_bytes (to_z w32 (of_z w32 y)) ++ number_bytes (to_z w32 (of_z w32 z))) t' b
      → Wrote t a (value_bytes v []) t' b
  unfolding value_bytes number_bytes four_bytes
  value_range y z e f g p = named (rw (e, to_z-of_z w32 y f, to_z-of_z w32 z g)) p

  pub value_truths : v ≡ Truths → Wrote t a (1 ∷ number_bytes (pos 0) ++ number_bytes (pos 1)) t' b → Wrote t a (value_bytes v []) t' b
  unfolding value_bytes number_bytes four_bytes
  value_truths e p = rw e p

-- ---- a name's byte more
stored_snoc : (basic : Bool) (n : List ℕ) (b : ℕ) → as_stored basic (n ++ (b ∷ [])) ≡ as_stored basic n ++ (counts basic b ∷ [])
unfolding as_stored
stored_snoc basic [] b = refl
stored_snoc basic (x ∷ n) b = ap (λ (l : List ℕ). counts basic x ∷ l) (stored_snoc basic n b)

pub byte_more : {t t' t'' : List ℕ} {at m r : ℕ} (basic : Bool) (n : List ℕ) (i b : ℕ) → i < length n → b ≡ counts basic (get_or n i 0) → Wrote t at (as_stored basic (take i n)) t' m
    → Wrote t' m (b ∷ []) t'' r → Wrote t at (as_stored basic (take (i + 1) n)) t'' r
byte_more basic n i b h e p q =
    named (rw (add-one i) (ap (as_stored basic) (take-suc n i 0 h) ∙ stored_snoc basic (take i n) (get_or n i 0) ∙ rw (← e))) (then p q)

pub name_all : {t t' : List ℕ} {at r : ℕ} (basic : Bool) (n : List ℕ) (i : ℕ) → i ≡ length n → Wrote t at (as_stored basic (take i n)) t' r → Wrote t at (as_stored basic n) t' r
name_all basic n i e p = named (sym (ap (λ (k : ℕ). as_stored basic (take k n)) e ∙ ap (as_stored basic) (take-length n))) p

-- ---- an output of zeros
drop_zeros : (k o : ℕ) → drop {A = ℕ} k (replicate o 0) ≡ replicate (o - k) 0
drop_zeros zero o = let e : o ≡ o - 0 = omega arith in ap (λ (n : ℕ). replicate n 0) e
drop_zeros (suc k) zero = let e : 0 ≡ 0 - suc k = omega arith in ap (λ (n : ℕ). replicate n 0) e
drop_zeros (suc k) (suc o) = let e : o - k ≡ suc o - suc k = omega arith in drop_zeros k o ∙ ap (λ (n : ℕ). replicate n 0) e

pub filled : (t t' bs : List ℕ) (o r : ℕ) → t ≡ replicate o 0 → length bs ≤ o → Wrote t 0 bs t' r → t' ≡ bs ++ replicate (o - length bs) 0
filled t t' bs o r z l w =
    let n : length t ≡ o = ap length z ∙ length-replicate o 0 in
    let e : 0 + length bs ≡ length bs = omega arith in
    w.bytes ∙ sets-eq bs t 0 (omega arith)
    ∙ ap (λ (k : ℕ). bs ++ drop k t) e ∙ ap (λ (l : List ℕ). bs ++ drop (length bs) l) z ∙ ap (λ (l : List ℕ). bs ++ l) (drop_zeros (length bs) o)

pub cleared_all : (t t' : List ℕ) → t' ≡ take 0 t ++ replicate (length t - 0) 0 → t' ≡ replicate (length t) 0
cleared_all t t' e = let z : length t - 0 ≡ length t = omega arith in e ∙ ap (λ (n : ℕ). replicate n 0) z
