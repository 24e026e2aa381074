-- The answers of a reading, one by one, with what the table holds then: u₀ is the table once it is zeroed, u₁ once the rows are put, u₂
-- where it is zeroed again. Assumes nothing.
use mathlib.Core.Path.{◌≡◌, refl, sym, ap, ◌∙◌, subst}
use mathlib.Core.Bool.{cond}
use mathlib.Core.List.{List, ◌++◌}
use Prim.Native.Nat.{ℕ, ◌-◌, ◌*◌, ◌/◌, ◌≤◌, ◌<◌}
use native.Mathlib.Omega.{arith}
use borrow.Author.Tests.{lt-ltb, le-ltb, ltb-true, ltb-false}
use lib.Dec.{eqb, ltb}
use Rattle.classes.proofs.Laws.{by_test}
use lib.ListN.{length, replicate, length-append, length-replicate}
use Rattle.element_reading.specs.Rows.{rows_of}
use Rattle.places.specs.Sizes.{most_bytes, most_elements}
use Rattle.places.specs.Places.{row_words, rows_in}
use Rattle.refusals.specs.Refusals.{refusal_number, refusal_place}
use Rattle.element_reading.specs.Table.{cells, puts}
use Rattle.places.specs.declared.ElementNumber.{ElementNumber}
use Rattle.refusals.specs.declared.Refusal.{Refusal}
use Rattle.refusals.specs.declared.Refusal.TheVariants.{TextTooLong, TooManyElements, TableShort}
use Rattle.std.specs.Prelude.{Result, Ok, Err}
use Rattle.element_reading.specs.Reading.{reading_of, table_by, table_of}
use Rattle.element_reading.specs.Given.{element_count, Taken, Given, too_long, too_many, short}
use Rattle.element_reading.specs.Permitted.{Permitted}
use Rattle.element_reading.proofs.TableLaws.{length_puts, length_cells, puts_zeros}

module _ (s : List ℕ) (w : ℕ) where
  -- when each refusal is given, refusal by refusal
  abbrev pub GivenAs : Refusal → Type 0
  GivenAs (TextTooLong p) = (p.0 ≡ most_bytes) × (most_bytes < length s)
  GivenAs (TooManyElements e) = (e.0 ≡ most_elements) × (length s ≤ most_bytes) × (most_elements < element_count s)
  GivenAs (TableShort e) = (e.0 ≡ w / row_words) × (length s ≤ most_bytes) × (element_count s ≤ most_elements) × (w < row_words * element_count s)

  -- and by the numbers of 01's table
  abbrev At : ℕ → ℕ → Type 0
  At n k =
      cond (eqb n 1) ((k ≡ most_bytes) × (most_bytes < length s))
      (cond (eqb n 3) ((k ≡ most_elements) × (length s ≤ most_bytes) × (most_elements < element_count s))
      (cond (eqb n 4) ((k ≡ w / row_words) × (length s ≤ most_bytes) × (element_count s ≤ most_elements) × (w < row_words * element_count s)) ⊥))

  numbered : {n k : ℕ} → Given s w n k → At n k
  numbered (too_long h) = (refl, h)
  numbered (too_many a h) = (refl, a, h)
  numbered (short a b h) = (refl, a, b, h)

  pub given_as : (r : Refusal) → Given s w (refusal_number r) (refusal_place r) → GivenAs r
  given_as (TextTooLong p) g = numbered g
  given_as (TooManyElements e) g = numbered g
  given_as (TableShort e) g = numbered g

  pub as_given : (r : Refusal) → GivenAs r → Given s w (refusal_number r) (refusal_place r)
  as_given (TextTooLong p) g = subst (λ (k : ℕ). Given s w 1 k) (sym g.0) (too_long g.1)
  as_given (TooManyElements e) g = subst (λ (k : ℕ). Given s w 3 k) (sym g.0) (too_many g.1 g.2)
  as_given (TableShort e) g = subst (λ (k : ℕ). Given s w 4 k) (sym g.0) (short g.1 g.2 g.3)

  -- what an answer says of the text
  abbrev pub ReadingSays : Result ElementNumber Refusal → Type 0
  ReadingSays (Ok n) = (n.0 ≡ element_count s) × Taken s w
  ReadingSays (Err r) = GivenAs r

  pub reading_says : ReadingSays (reading_of s w)
  unfolding reading_of
  reading_says =
      by_test ReadingSays (ltb 65536 (length s)) (λ l. (refl, ltb-true 65536 (length s) l))
      (λ g. by_test ReadingSays (ltb 8192 (element_count s)) (λ l. (refl, ltb-false 65536 (length s) g, ltb-true 8192 (element_count s) l))
      (λ h. by_test ReadingSays (ltb (w / 3) (element_count s))
      (λ l. (refl, ltb-false 65536 (length s) g, ltb-false 8192 (element_count s) h, omega (arith, ltb-true (w / 3) (element_count s) l)))
      (λ l. (refl, (ltb-false 65536 (length s) g, ltb-false 8192 (element_count s) h, omega (arith, ltb-false (w / 3) (element_count s) l))))))

  -- and the answer by what is said
  pub taken_read : Taken s w → reading_of s w ≡ Ok (record { 0 = element_count s })
  unfolding reading_of
  taken_read t = let l = t.2 in simp (le-ltb 65536 (length s) t.0, le-ltb 8192 (element_count s) t.1, le-ltb (w / 3) (element_count s) (omega arith))

  pub refused_reading : (r : Refusal) → GivenAs r → reading_of s w ≡ Err r
  unfolding reading_of
  refused_reading (TextTooLong p) g = rw (lt-ltb 65536 (length s) g.1) (ap (λ (k : ℕ). Err (TextTooLong (record { 0 = k }))) (sym g.0))
  refused_reading (TooManyElements e) g =
      rw (le-ltb 65536 (length s) g.1, lt-ltb 8192 (element_count s) g.2) (ap (λ (k : ℕ). Err (TooManyElements (record { 0 = k }))) (sym g.0))
  refused_reading (TableShort e) g =
      let l = g.3 in
      rw (le-ltb 65536 (length s) g.1, le-ltb 8192 (element_count s) g.2, lt-ltb (w / 3) (element_count s) (omega arith)) (ap (λ (k : ℕ). Err (TableShort (record { 0 = k }))) (sym g.0))

  read_says : (n : ElementNumber) → reading_of s w ≡ Ok n → (n.0 ≡ element_count s) × Taken s w
  read_says n e = subst ReadingSays e reading_says

  pub table_refused : {r : Refusal} → reading_of s w ≡ Err r → table_of s w ≡ replicate w 0
  unfolding table_of
  table_refused e = rw e

  pub table_read : {n : ElementNumber} → reading_of s w ≡ Ok n → table_of s w ≡ cells (rows_of s) ++ replicate (w - 3 * length (rows_of s)) 0
  unfolding table_of
  table_read e = rw e

  -- what is permitted is that answer with that table
  pub permitted_is : (r : Result ElementNumber Refusal) (t : List ℕ) → Permitted s w r t → (r ≡ reading_of s w) × (t ≡ table_of s w)
  permitted_is (Ok n) t p = let e = taken_read p.0 in (ap (λ (k : ℕ). Ok (record { 0 = k })) p.1 ∙ sym e, p.2 ∙ sym (table_read e))
  permitted_is (Err r) t p = let e = refused_reading r (given_as r p.0) in (sym e, p.1 ∙ sym (table_refused e))

  permitted_by : (r : Result ElementNumber Refusal) → reading_of s w ≡ r → Permitted s w r (table_by r s w)
  permitted_by (Ok n) e = let x = read_says n e in (x.1, x.0, refl)
  permitted_by (Err r) e = (as_given r (subst ReadingSays e reading_says), refl)

module _ (s t u₀ : List ℕ) (z : u₀ ≡ replicate (length t) 0) where
  pub refuse_long : most_bytes < length s → Permitted s (length t) (Err (TextTooLong (record { 0 = most_bytes }))) u₀
  refuse_long h = (too_long h, z)

  module _ (u₁ : List ℕ) (n : ℕ) (g : length s ≤ most_bytes) (c : n ≡ element_count s) (p : u₁ ≡ puts u₀ 0 (rows_of s)) where
    same : length u₁ ≡ length t
    same = ap length p ∙ length_puts u₀ 0 (rows_of s) ∙ ap length z ∙ length-replicate (length t) 0

    zeros : (u₂ : List ℕ) → u₂ ≡ replicate (length u₁) 0 → u₂ ≡ replicate (length t) 0
    zeros u₂ r = r ∙ ap (λ (k : ℕ). replicate k 0) same

    pub refuse_many : (u₂ : List ℕ) → most_elements < n → u₂ ≡ replicate (length u₁) 0 → Permitted s (length t) (Err (TooManyElements (record { 0 = most_elements }))) u₂
    refuse_many u₂ h r = (too_many g (rw c at h), zeros u₂ r)

    pub refuse_short : (u₂ : List ℕ) (rows : ℕ) → rows ≡ rows_in u₁ → n ≤ most_elements → rows < n → u₂ ≡ replicate (length u₁) 0 → Permitted s (length t) (Err (TableShort (record { 0 = rows }))) u₂
    refuse_short u₂ rows q m h r =
        let k : length t / row_words ≡ rows = ap (λ (k : ℕ). k / row_words) (sym same) ∙ sym q in
        (subst (λ (k : ℕ). Given s (length t) 4 k) k (short g (rw c at m) (omega (arith, same, c, q, h))), zeros u₂ r)

    pub answer_read : (rows : ℕ) → rows ≡ rows_in u₁ → n ≤ most_elements → n ≤ rows → Permitted s (length t) (Ok (record { 0 = n })) u₁
    answer_read rows q m h = (
      (g, rw c at m, omega (arith, same, c, q, h)),
      c,
      p ∙ ap (λ (x : List ℕ). puts x 0 (rows_of s)) z ∙ puts_zeros (rows_of s) (length t) (omega (arith, same, c, q, h)),
    )

-- how long the table is then, and that it has room for what was read
table_by_length : (r : Result ElementNumber Refusal) (s : List ℕ) (w : ℕ) → reading_of s w ≡ r → length (table_by r s w) ≡ w
table_by_length (Err r) s w e = length-replicate w 0
table_by_length (Ok n) s w e = rw (length-append (cells (rows_of s)) (replicate (w - 3 * length (rows_of s)) 0), length_cells, length-replicate) (omega (arith, (read_says s w n e).1.2))

pub table_length : (s : List ℕ) (w : ℕ) → length (table_of s w) ≡ w
unfolding table_of
table_length s w = table_by_length (reading_of s w) s w refl

pub read_room : (s : List ℕ) (w : ℕ) (r : Result ElementNumber Refusal) (n : ElementNumber) (t : List ℕ) → r ≡ reading_of s w → t ≡ table_of s w → r ≡ Ok n → 3 * n.0 ≤ length t
read_room s w r n t e q m = let x = read_says s w n (sym e ∙ m) in omega (arith, x.0, x.1.2, ap length q ∙ table_length s w)

-- what was read: how many, and that they are few enough
pub read_count : (s : List ℕ) (w : ℕ) (n : ElementNumber) → reading_of s w ≡ Ok n → n.0 ≡ length (rows_of s)
read_count s w n e = (read_says s w n e).0

pub read_few : (s : List ℕ) (w : ℕ) (n : ElementNumber) → reading_of s w ≡ Ok n → length (rows_of s) ≤ 8192
read_few s w n e = (read_says s w n e).1.1

pub permitted_one : (s : List ℕ) (w : ℕ) → Permitted s w (reading_of s w) (table_of s w)
unfolding table_of
permitted_one s w = permitted_by s w (reading_of s w) refl
