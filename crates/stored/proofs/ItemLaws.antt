-- Items and their fields: each is read back as it was, and what is read has no other field. Assumes nothing.
use Rattle.std.specs.Prelude.{Option, Some, None}
use mathlib.Core.Path.{◌≡◌, refl, ap, ◌∙◌}
use mathlib.Core.Bool.{Bool, true, false, cond, ◌&&◌}
use mathlib.Core.List.{List, [], ◌∷◌, ◌++◌}
use Prim.Native.Nat.{ℕ, suc, ◌+◌, ◌-◌, ◌*◌, ◌/◌, ◌%◌, ◌^◌, ◌≤◌, ◌<◌}
use native.Mathlib.Numerals.{add-one, add-two, add-three}
use native.Mathlib.Omega.{arith}
use borrow.Author.Tests.{eqb-true, eqb-false, ne_eqb, leb-true, le-leb, ltb-true, ltb-false, le-ltb}
use lib.Dec.{eqb, ltb}
use lib.IntN.{ℤ, pos, negsuc}
use lib.Seq.{drop-cons}
use lib.ListN.{length, get_or, drop}
use mir.Val.{of_z, to_z, SFits}
use mir.Syntax.{w32}
use mir.ValLaws.{to_z-of_z, of_z-to_z}
use Rattle.stored.specs.StoredItems.{four_bytes, number_bytes, tag_of, value_size, value_bytes}
use Rattle.stored.specs.Stored.{small, sized}
use Rattle.laws.proofs.Laws.{clash}
use Rattle.stored.specs.code.Promises.{Bytes}
use Rattle.stored.specs.code.Decode.{word_in, held_number, held_truth, held_range, held_truths, held_subtype, held_value}
use Rattle.stored.specs.declared.StoredValue.{StoredValue}
use Rattle.stored.specs.declared.StoredValue.TheVariants.{Number, Truth, Range, Truths}

pub four_back : (n : ℕ) → n / 16777216 * 16777216 + n / 65536 % 256 * 65536 + n / 256 % 256 * 256 + n % 256 ≡ n
four_back n = omega arith

pub four_only : (a b c d n : ℕ) → a < 256 → b < 256 → c < 256 → d < 256 → n ≡ a * 16777216 + b * 65536 + c * 256 + d → four_bytes n ≡ a ∷ b ∷ c ∷ d ∷ []
unfolding four_bytes
four_only a b c d n ha hb hc hd e =
    let pa : n / 16777216 ≡ a = omega arith in
    let pb : n / 65536 % 256 ≡ b = omega arith in
    let pc : n / 256 % 256 ≡ c = omega arith in
    let pd : n % 256 ≡ d = omega arith in
    rw (pa, pb, pc, pd)

-- a small number fits, and its word is not 2^31
pub small_fits : (z : ℤ) → small z ≡ true → SFits w32 z
small_fits (pos n) h = let l = leb-true n 2147483647 h in record { sfits = omega arith }
small_fits (negsuc n) h = let l = leb-true (suc n) 2147483647 h in record { sfits = omega arith }

pub small_word : (z : ℤ) → small z ≡ true → eqb (of_z w32 z) 2147483648 ≡ false
small_word (pos n) h = let l = leb-true n 2147483647 h in ne_eqb n 2147483648 (λ e. omega arith)
small_word (negsuc n) h = let l = leb-true (suc n) 2147483647 h in ne_eqb (2 ^ 32 - suc n) 2147483648 (λ e. omega arith)

pub word_small : (n : ℕ) → n < 2 ^ 32 → eqb n 2147483648 ≡ false → small (to_z w32 n) ≡ true
word_small n l e = let ne = eqb-false n 2147483648 e in go (ltb n (2 ^ 31)) refl ne
  where
    go : (t : Bool) → ltb n (2 ^ 31) ≡ t → (n ≡ 2147483648 → ⊥) → small (to_z w32 n) ≡ true
    go true p ne = rw p (le-leb n 2147483647 (let h = ltb-true n (2 ^ 31) p in omega arith))
    go false p ne = rw p (le-leb (suc (2 ^ 32 - suc n)) 2147483647 (let h = ltb-false n (2 ^ 31) p in omega arith))

pub word_below : (s : List ℕ) (k : ℕ) → Bytes s → word_in s k < 2 ^ 32
unfolding word_in
word_below s k h = omega (arith, h k, h (k + 1), h (k + 2), h (k + 3))

add_four : (k : ℕ) → k + 4 ≡ suc (suc (suc (suc k)))
add_four k = omega arith

-- four bytes at a place are those of the word there
pub four_at : (s : List ℕ) (k : ℕ) → Bytes s → k + 4 ≤ length s → drop k s ≡ four_bytes (word_in s k) ++ drop (k + 4) s
unfolding word_in
four_at s k h l =
    rw (four_only (get_or s k 0) (get_or s (k + 1) 0) (get_or s (k + 2) 0) (get_or s (k + 3) 0) (word_in s k) (h k) (h (k + 1)) (h (k + 2)) (h (k + 3)) refl)
    (rw (add-one k, add-two k, add-three k, add_four k)
    (drop-cons s k 0 (omega arith)
    ∙ ap (λ (x : List ℕ). get_or s k 0 ∷ x) (drop-cons s (suc k) 0 (omega arith)
    ∙ ap (λ (x : List ℕ). get_or s (suc k) 0 ∷ x) (drop-cons s (suc (suc k)) 0 (omega arith)
    ∙ ap (λ (x : List ℕ). get_or s (suc (suc k)) 0 ∷ x) (drop-cons s (suc (suc (suc k))) 0 (omega arith))))))

-- stored numbers are read back, at the front and after four bytes
pub word_back : (z : ℤ) (r : List ℕ) → word_in (number_bytes z ++ r) 0 ≡ of_z w32 z
unfolding word_in number_bytes four_bytes
word_back z r = four_back (of_z w32 z)

pub word_back_1 : (a : ℕ) (z : ℤ) (r : List ℕ) → word_in (a ∷ number_bytes z ++ r) 1 ≡ of_z w32 z
unfolding word_in number_bytes four_bytes
word_back_1 a z r = four_back (of_z w32 z)

pub word_back_5 : (a : ℕ) (y z : ℤ) (r : List ℕ) → word_in (a ∷ number_bytes y ++ (number_bytes z ++ r)) 5 ≡ of_z w32 z
unfolding word_in number_bytes four_bytes
word_back_5 a y z r = four_back (of_z w32 z)

long_four : (z : ℤ) (n : List ℕ) → 4 ≤ length (number_bytes z ++ n)
unfolding number_bytes four_bytes
long_four z n = omega arith

long_nine : (y z : ℤ) (n : List ℕ) → 9 ≤ suc (length (number_bytes y ++ (number_bytes z ++ n)))
unfolding number_bytes four_bytes
long_nine y z n = omega arith

pub both : (x y : Bool) → (x && y) ≡ true → (x ≡ true) × (y ≡ true)
both true true e = (refl, refl)
both true false e = clash (cc)
both false y e = clash (cc)

pub value_back : (v : StoredValue) (n : List ℕ) → sized v ≡ true → held_value (tag_of v) (value_bytes v n) ≡ Some v
unfolding held_value value_bytes held_number held_truth held_subtype held_range held_truths sized
value_back (Number z) n h =
    rw (le-ltb (length (number_bytes z ++ n)) 4 (long_four z n), word_back z n, small_word z h, to_z-of_z w32 z (small_fits z h))
value_back (Truth true) n h = rw (le-ltb (suc (length n)) 1 (omega arith))
value_back (Truth false) n h = rw (le-ltb (suc (length n)) 1 (omega arith))
value_back (Range low high) n h =
    let b = both (small low) (small high) h in
    rw (
      le-ltb (suc (length (number_bytes low ++ (number_bytes high ++ n)))) 9 (long_nine low high n),
      word_back_1 0 low (number_bytes high ++ n),
      word_back_5 0 low high n,
      small_word low b.0,
      small_word high b.1,
      to_z-of_z w32 low (small_fits low b.0),
      to_z-of_z w32 high (small_fits high b.1),
    )
value_back Truths n h =
    rw (le-ltb (suc (length (number_bytes (pos 0) ++ (number_bytes (pos 1) ++ n)))) 9 (long_nine (pos 0) (pos 1) n), word_back_1 1 (pos 0) (number_bytes (pos 1) ++ n), word_back_5 1 (pos 0) (pos 1) n)

pub drop_value : (v : StoredValue) (n : List ℕ) → drop (value_size v) (value_bytes v n) ≡ n
unfolding value_bytes number_bytes four_bytes
drop_value (Number z) n = refl
drop_value (Truth t) n = refl
drop_value (Range low high) n = refl
drop_value Truths n = refl

-- ---- what is read has these bytes
abbrev Only : ℕ → List ℕ → StoredValue → Type 0
Only t s v = (t ≡ tag_of v) × ((s ≡ value_bytes v (drop (value_size v) s)) × (sized v ≡ true))

-- a choice that holds a value
pub unless : (t : Bool) (x : Option StoredValue) (v : StoredValue) → cond t None x ≡ Some v → (t ≡ false) × (x ≡ Some v)
unless true x v e = clash (cc)
unless false x v e = (refl, e)

pub only_if : (t : Bool) (x : Option StoredValue) (v : StoredValue) → cond t x None ≡ Some v → (t ≡ true) × (x ≡ Some v)
only_if true x v e = (refl, e)
only_if false x v e = clash (cc)

pub by_test : {A B : Type 0} (P : A → Type 0) (t : Bool) {x y : A} → P (cond t x y) → (t ≡ true → P x → B) → (t ≡ false → P y → B) → B
by_test P true h f g = f refl h
by_test P false h f g = g refl h

number_only : (s : List ℕ) (v : StoredValue) → Bytes s → 4 ≤ length s → held_number s ≡ Some v → Only 2 s v
unfolding held_number value_bytes number_bytes sized
number_only s v h l e =
    let r = unless (eqb (word_in s 0) 2147483648) (Some (Number (to_z w32 (word_in s 0)))) v e in
    let p : Number (to_z w32 (word_in s 0)) ≡ v = cc in
    let b = word_below s 0 h in
    rw (← p) (refl, (rw (of_z-to_z w32 (word_in s 0) (record { fits = b })) (four_at s 0 h l), word_small (word_in s 0) b r.0))

truth_only : (s : List ℕ) (v : StoredValue) → 1 ≤ length s → held_truth s ≡ Some v → Only 3 s v
unfolding held_truth value_bytes sized
truth_only s v l e =
    by_test (λ x. x ≡ Some v) (eqb (get_or s 0 0) 0) e
    (λ t q. let p : Truth false ≡ v = cc in rw (← p) (refl, (drop-cons s 0 0 l ∙ rw (eqb-true (get_or s 0 0) 0 t), refl)))
    (λ f q. let r = only_if (eqb (get_or s 0 0) 1) (Some (Truth true)) v q in
    let p : Truth true ≡ v = cc in rw (← p) (refl, (drop-cons s 0 0 l ∙ rw (eqb-true (get_or s 0 0) 1 r.0), refl)))

-- a byte, and two words
nine_at : (s : List ℕ) → Bytes s → 9 ≤ length s → s ≡ get_or s 0 0 ∷ four_bytes (word_in s 1) ++ (four_bytes (word_in s 5) ++ drop 9 s)
nine_at s h l =
    drop-cons s 0 0 (omega arith) ∙ ap (λ (x : List ℕ). get_or s 0 0 ∷ x) (four_at s 1 h (omega arith) ∙ ap (λ (x : List ℕ). four_bytes (word_in s 1) ++ x) (four_at s 5 h l))

range_only : (s : List ℕ) (v : StoredValue) → Bytes s → 9 ≤ length s → get_or s 0 0 ≡ 0 → held_range s ≡ Some v → Only 4 s v
unfolding held_range value_bytes number_bytes sized
range_only s v h l k e =
    let r = unless (eqb (word_in s 1) 2147483648) _ v e in
    let q = unless (eqb (word_in s 5) 2147483648) (Some (Range (to_z w32 (word_in s 1)) (to_z w32 (word_in s 5)))) v r.1 in
    let p : Range (to_z w32 (word_in s 1)) (to_z w32 (word_in s 5)) ≡ v = cc in
    let a = word_below s 1 h in
    let b = word_below s 5 h in
    rw (← p) (refl, (rw (of_z-to_z w32 (word_in s 1) (record { fits = a }), of_z-to_z w32 (word_in s 5) (record { fits = b })) (nine_at s h l ∙ rw k), rw (word_small (word_in s 1) a r.0, word_small (word_in s 5) b q.0)))

truths_only : (s : List ℕ) (v : StoredValue) → Bytes s → 9 ≤ length s → get_or s 0 0 ≡ 1 → held_truths s ≡ Some v → Only 4 s v
unfolding held_truths value_bytes number_bytes sized
truths_only s v h l k e =
    let r = only_if (eqb (word_in s 1) 0) _ v e in
    let q = only_if (eqb (word_in s 5) 1) (Some Truths) v r.1 in
    let p : Truths ≡ v = cc in
    rw (← p) (refl, (nine_at s h l ∙ rw (k, eqb-true (word_in s 1) 0 r.0, eqb-true (word_in s 5) 1 q.0), refl))

subtype_only : (s : List ℕ) (v : StoredValue) → Bytes s → 9 ≤ length s → held_subtype s ≡ Some v → Only 4 s v
unfolding held_subtype
subtype_only s v h l e =
    by_test (λ x. x ≡ Some v) (eqb (get_or s 0 0) 0) e
    (λ t q. range_only s v h l (eqb-true (get_or s 0 0) 0 t) q)
    (λ f q. let r = only_if (eqb (get_or s 0 0) 1) (held_truths s) v q in truths_only s v h l (eqb-true (get_or s 0 0) 1 r.0) r.1)

pub value_only : (t : ℕ) (s : List ℕ) (v : StoredValue) → Bytes s → held_value t s ≡ Some v → Only t s v
unfolding held_value
value_only t s v h e =
    by_test (λ x. x ≡ Some v) (eqb t 2) e
    (λ p q. let r = unless (ltb (length s) 4) (held_number s) v q in rw (eqb-true t 2 p) (number_only s v h (ltb-false (length s) 4 r.0) r.1))
    (λ _ e₂. by_test (λ x. x ≡ Some v) (eqb t 3) e₂
    (λ p q. let r = unless (ltb (length s) 1) (held_truth s) v q in rw (eqb-true t 3 p) (truth_only s v (ltb-false (length s) 1 r.0) r.1))
    (λ _ e₃. let z = only_if (eqb t 4) _ v e₃ in
    let r = unless (ltb (length s) 9) (held_subtype s) v z.1 in
    rw (eqb-true t 4 z.0) (subtype_only s v h (ltb-false (length s) 9 r.0) r.1)))
