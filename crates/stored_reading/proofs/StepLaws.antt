-- What a step and a turn say of the fields and the items from here. Assumes nothing.
use Rattle.std.specs.Prelude.{Option, Some, None}
use mathlib.Core.Path.{◌≡◌, refl, sym, ap, ◌∙◌}
use mathlib.Core.Bool.{Bool, true, false, cond, ◌&&◌}
use mathlib.Core.List.{List, [], ◌∷◌}
use Prim.Native.Nat.{ℕ, zero, suc, ◌+◌, ◌*◌, ◌≤◌, ◌<◌}
use native.Mathlib.Nat.{not-suc-le-zero, le_of_suc-le-suc}
use native.Mathlib.Omega.{arith}
use borrow.Author.Tests.{eqb-true, eqb-false, ne_eqb, eq-eqb, ltb-true, ltb-false}
use lib.Dec.{eqb, ltb}
use lib.ListN.{length, get_or, take, drop, length-drop}
use lib.Seq.{length-take-le}
use mir.Val.{to_z}
use mir.Syntax.{w32}
use Rattle.stored.specs.Fields.{Field}
use Rattle.stored.specs.StoredItems.{StoredItem, value_size}
use Rattle.stored.specs.Stored.{Form}
use Rattle.stored.specs.code.Decode.{tagged_field, before, ending, fields_from, word_in, held_number, held_truth, held_range, held_truths, held_subtype, held_value, item_fits, held_legal, kept_in, with_name, item_in, with_item, items_in_fields}
use Rattle.stored.specs.declared.StoredValue.{StoredValue}
use Rattle.stored.specs.declared.StoredValue.TheVariants.{Number, Truth, Range, Truths}
use Rattle.stored.proofs.FieldLaws.{field_front}
use Rattle.laws.proofs.Laws.{clash}
use Rattle.stored.proofs.ItemLaws.{by_test, unless, only_if}
use Rattle.stored_reading.specs.code.Turns.{step_of, turn_held, turn_step, turn_of, items_by, items_at}
use Rattle.stored_reading.specs.declared.FieldStep.{FieldStep}
use Rattle.stored_reading.specs.declared.FieldStep.TheVariants.{Bad, End, Tagged}
use Rattle.stored_reading.specs.declared.ItemTurn.{ItemTurn}
use Rattle.stored_reading.specs.declared.ItemTurn.TheVariants.{Wrong, Ends, Gives}

pub of_test : {A : Type 0} (P : A → Type 0) (t : Bool) {x y : A} → (t ≡ true → P x) → (t ≡ false → P y) → P (cond t x y)
of_test P true f g = f refl
of_test P false f g = g refl

pub pass_over : (k : ℕ) (s : List ℕ) → k ≤ length s → fields_from k s ≡ fields_from 0 (drop k s)
unfolding fields_from
pass_over zero s l = refl
pass_over (suc k) [] l = absurd (not-suc-le-zero l)
pass_over (suc k) (b ∷ s) l = pass_over k s (le_of_suc-le-suc l)

pub pass_none : (k : ℕ) (s : List ℕ) → length s < k → fields_from k s ≡ None
unfolding fields_from
pass_none zero s l = absurd (not-suc-le-zero l)
pass_none (suc k) [] l = refl
pass_none (suc k) (b ∷ s) l = pass_none k s (le_of_suc-le-suc l)

abbrev pub Stepped : List ℕ → FieldStep → Type 0
Stepped s Bad = fields_from 0 s ≡ None
Stepped s End = fields_from 0 s ≡ Some []
Stepped s (Tagged t n) = (3 + n ≤ length s) × (fields_from 0 s ≡ before (tagged_field t (take n (drop 3 s))) (fields_from 0 (drop (3 + n) s)))

ending_none : (a b : ℕ) (u : List ℕ) → (suc (suc (suc (length u))) ≡ 3 → ⊥) → ending (a ∷ b ∷ u) ≡ None
unfolding ending
ending_none a b u n = rw (ne_eqb (suc (suc (length u))) 2 (λ e. n (ap suc e)))

ending_long : (a b : ℕ) (u : List ℕ) → (a * 256 + b ≡ 0 → ⊥) → ending (a ∷ b ∷ u) ≡ None
unfolding ending
ending_long a b u n = go (eqb (suc (suc (length u))) 2) (eqb a 0) (eqb b 0) refl refl
  where
    go : (x y z : Bool) → eqb a 0 ≡ y → eqb b 0 ≡ z → ◌≡◌ {A = Option (List Field)} (cond (x && (y && z)) (Some []) None) None
    go false y z p q = refl
    go true false z p q = refl
    go true true false p q = refl
    go true true true p q = absurd (n (let i = eqb-true a 0 p in let j = eqb-true b 0 q in omega arith))

ending_yes : (a b : ℕ) (u : List ℕ) → suc (suc (suc (length u))) ≡ 3 → a * 256 + b ≡ 0 → ending (a ∷ b ∷ u) ≡ Some []
unfolding ending
ending_yes a b u m n = rw (eq-eqb (suc (suc (length u))) 2 (omega arith), eq-eqb a 0 (omega arith), eq-eqb b 0 (omega arith))

tag_zero : (t : ℕ) (s : List ℕ) → eqb t 0 ≡ true → fields_from 0 (t ∷ s) ≡ ending s
unfolding fields_from
tag_zero t s e = rw (e, fields_from)

plus_three : (n : ℕ) → 3 + n ≡ suc (suc (suc n))
plus_three n = omega arith

pub step_is : (s : List ℕ) → Stepped s (step_of s)
unfolding step_of fields_from before ending
step_is [] = refl
step_is (a ∷ []) = go (eqb a 0) refl
  where
    go : (x : Bool) → eqb a 0 ≡ x → fields_from 0 (a ∷ []) ≡ None
    go true p = rw (p, fields_from)
    go false p = rw (p, fields_from)
step_is (a ∷ b ∷ []) = go (eqb a 0) refl
  where
    go : (x : Bool) → eqb a 0 ≡ x → fields_from 0 (a ∷ b ∷ []) ≡ None
    go true p = rw (p, fields_from)
    go false p = rw (p, fields_from)
step_is (t ∷ a ∷ b ∷ u) =
    of_test (Stepped (t ∷ a ∷ b ∷ u)) (ltb (suc (suc (suc (length u)))) 3)
    (λ h. absurd (let l = ltb-true (suc (suc (suc (length u)))) 3 h in omega arith))
    (λ _. of_test (Stepped (t ∷ a ∷ b ∷ u)) (eqb t 0)
    (λ z. of_test (Stepped (t ∷ a ∷ b ∷ u)) (eqb (suc (suc (suc (length u)))) 3)
    (λ m. of_test (Stepped (t ∷ a ∷ b ∷ u)) (eqb (a * 256 + b) 0)
    (λ n. tag_zero t (a ∷ b ∷ u) z ∙ ending_yes a b u (eqb-true (suc (suc (suc (length u)))) 3 m) (eqb-true (a * 256 + b) 0 n))
    (λ n. tag_zero t (a ∷ b ∷ u) z ∙ ending_long a b u (eqb-false (a * 256 + b) 0 n)))
    (λ m. tag_zero t (a ∷ b ∷ u) z ∙ ending_none a b u (eqb-false (suc (suc (suc (length u)))) 3 m)))
    (λ z. of_test (Stepped (t ∷ a ∷ b ∷ u)) (ltb (suc (suc (suc (length u)))) (3 + (a * 256 + b)))
    (λ h. let l : length u < a * 256 + b = let k = ltb-true (suc (suc (suc (length u)))) (3 + (a * 256 + b)) h in omega arith in
    field_front t a b u (eqb-false t 0 z) ∙ rw (pass_none (a * 256 + b) u l))
    (λ h. let k = ltb-false (suc (suc (suc (length u)))) (3 + (a * 256 + b)) h in
    let l : a * 256 + b ≤ length u = omega arith in
    (k, field_front t a b u (eqb-false t 0 z) ∙ rw (pass_over (a * 256 + b) u l, plus_three (a * 256 + b))))))

-- ---- a value leaves room for what it took
abbrev size_held : Option StoredValue → ℕ
size_held None = 0
size_held (Some v) = value_size v

long_number : (s : List ℕ) (v : StoredValue) → held_number s ≡ Some v → value_size v ≡ 4
unfolding held_number
long_number s v e = sym (ap size_held (unless (eqb (word_in s 0) 2147483648) (Some (Number (to_z w32 (word_in s 0)))) v e).1)

long_truth : (s : List ℕ) (v : StoredValue) → held_truth s ≡ Some v → value_size v ≡ 1
unfolding held_truth
long_truth s v e =
    by_test (λ x. x ≡ Some v) (eqb (get_or s 0 0) 0) e
    (λ _ q. sym (ap size_held q))
    (λ _ q. sym (ap size_held (only_if (eqb (get_or s 0 0) 1) (Some (Truth true)) v q).1))

long_range : (s : List ℕ) (v : StoredValue) → held_range s ≡ Some v → value_size v ≡ 9
unfolding held_range
long_range s v e =
    let x = Some (Range (to_z w32 (word_in s 1)) (to_z w32 (word_in s 5))) in
    let r = unless (eqb (word_in s 1) 2147483648) (cond (eqb (word_in s 5) 2147483648) None x) v e in
    sym (ap size_held (unless (eqb (word_in s 5) 2147483648) x v r.1).1)

long_truths : (s : List ℕ) (v : StoredValue) → held_truths s ≡ Some v → value_size v ≡ 9
unfolding held_truths
long_truths s v e =
    let r = only_if (eqb (word_in s 1) 0) (cond (eqb (word_in s 5) 1) (Some Truths) None) v e in
    sym (ap size_held (only_if (eqb (word_in s 5) 1) (Some Truths) v r.1).1)

long_subtype : (s : List ℕ) (v : StoredValue) → held_subtype s ≡ Some v → value_size v ≡ 9
unfolding held_subtype
long_subtype s v e =
    by_test (λ x. x ≡ Some v) (eqb (get_or s 0 0) 0) e
    (λ _ q. long_range s v q)
    (λ _ q. long_truths s v (only_if (eqb (get_or s 0 0) 1) (held_truths s) v q).1)

pub value_long : (t : ℕ) (s : List ℕ) (v : StoredValue) → held_value t s ≡ Some v → value_size v ≤ length s
unfolding held_value
value_long t s v e =
    by_test (λ x. x ≡ Some v) (eqb t 2) e
    (λ _ q. let r = unless (ltb (length s) 4) (held_number s) v q in let z = long_number s v r.1 in let l = ltb-false (length s) 4 r.0 in omega arith)
    (λ _ e₂. by_test (λ x. x ≡ Some v) (eqb t 3) e₂
    (λ _ q. let r = unless (ltb (length s) 1) (held_truth s) v q in let z = long_truth s v r.1 in let l = ltb-false (length s) 1 r.0 in omega arith)
    (λ _ e₃. let y = only_if (eqb t 4) _ v e₃ in
    let r = unless (ltb (length s) 9) (held_subtype s) v y.1 in let z = long_subtype s v r.1 in let l = ltb-false (length s) 9 r.0 in omega arith))

kept_is : (F : Form) (h : Option StoredValue) (s : List ℕ) (v : StoredValue) → held_legal F h s ≡ Some v → h ≡ Some v
unfolding held_legal
kept_is F None s v e = clash (cc)
kept_is F (Some w) s v e = (only_if (item_fits F w (drop (value_size w) s)) (Some w) v e).1

pub kept_long : (F : Form) (t : ℕ) (s : List ℕ) (v : StoredValue) → kept_in F t s ≡ Some v → value_size v ≤ length s
unfolding kept_in
kept_long F t s v e = value_long t s v (kept_is F (held_value t s) s v e)

-- ---- turns
abbrev pub item_of : StoredValue → ℕ → List ℕ → StoredItem
item_of v n s = record { value = v; name = drop (value_size v) (take n (drop 3 s)) }

abbrev pub Turned : Form → List ℕ → ItemTurn → Type 0
Turned F s Wrong = items_at F s ≡ None
Turned F s Ends = items_at F s ≡ Some []
Turned F s (Gives v n) = (3 + n ≤ length s) × ((value_size v ≤ n) × (items_at F s ≡ before (item_of v n s) (items_at F (drop (3 + n) s))))

put_before : (F : Form) (f : Field) (r : Option (List Field)) → items_by F (before f r) ≡ with_item (item_in F f) (items_by F r)
unfolding items_by before items_in_fields with_item
put_before F f (Some fs) = refl
put_before F f None = go (item_in F f)
  where
    go : (x : Option StoredItem) → None ≡ with_item x None
    go None = refl
    go (Some i) = refl

turned : (F : Form) (s : List ℕ) (t n : ℕ) (h : Option StoredValue) → kept_in F t (take n (drop 3 s)) ≡ h → 3 + n ≤ length s
    → fields_from 0 s ≡ before (tagged_field t (take n (drop 3 s))) (fields_from 0 (drop (3 + n) s)) → Turned F s (turn_held h n)
unfolding turn_held items_at item_in with_name with_item
turned F s t n None p l e = ap (items_by F) e ∙ put_before F _ (fields_from 0 (drop (3 + n) s)) ∙ rw p
turned F s t n (Some v) p l e =
    let m : length (take n (drop 3 s)) ≡ n = length-take-le n (drop 3 s) (rw (length-drop 3 s) (omega arith)) in
    (l, (let k = kept_long F t (take n (drop 3 s)) v p in omega arith, ap (items_by F) e ∙ put_before F _ (fields_from 0 (drop (3 + n) s)) ∙ rw p))

bad_items : (F : Form) (s : List ℕ) → fields_from 0 s ≡ None → items_at F s ≡ None
unfolding items_at items_by
bad_items F s e = rw e

end_items : (F : Form) (s : List ℕ) → fields_from 0 s ≡ Some [] → items_at F s ≡ Some []
unfolding items_at items_by items_in_fields
end_items F s e = rw e

pub turn_is : (F : Form) (s : List ℕ) → Turned F s (turn_of F s)
unfolding turn_of turn_step
turn_is F s = go (step_of s) (step_is s)
  where
    go : (st : FieldStep) → Stepped s st → Turned F s (turn_step F st s)
    go Bad h = bad_items F s h
    go End h = end_items F s h
    go (Tagged t n) h = turned F s t n (kept_in F t (take n (drop 3 s))) refl h.0 h.1
