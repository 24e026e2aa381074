-- The code's ways through a step and a turn, and the turns of its loops. Assumes nothing.
use Rattle.std.specs.Prelude.{Option, Some, None}
use mathlib.Core.Path.{◌≡◌, refl, sym, ap, subst, ◌∙◌}
use mathlib.Core.Bool.{Bool, true}
use mathlib.Core.Logic.{◌⊎◌, inl, inr}
use mathlib.Core.List.{List, [], ◌∷◌}
use Prim.Native.Nat.{ℕ, suc, ◌+◌, ◌-◌, ◌*◌, ◌^◌, ◌≤◌, ◌<◌}
use native.Mathlib.Omega.{arith}
use borrow.Author.Tests.{ne_eqb, eq-eqb, lt-ltb, le-ltb}
use lib.ListN.{length, get_or, set, take, drop, length-drop, drop_of_length-le}
use native.Mathlib.Numerals.{add-one, add_six}
use lib.Seq.{get_or-drop, drop-drop, length-take-le, sets, length-sets}
use Rattle.laws.proofs.Laws.{clash}
use lib.IntN.{ℤ}
use mir.Val.{Fits, SFits, to_z, of_z}
use mir.Syntax.{w16, w32, w64}
use Rattle.std.specs.Int.{from_be_bytes}
use mir.ValLaws.{to_z-of_z}
use Rattle.stored.specs.StoredItems.{StoredItem, value_size}
use Rattle.stored.specs.Stored.{Form, form_one}
use Rattle.stored.specs.code.Decode.{length_in, before, fields_from, kept_in}
use Rattle.stored.specs.declared.StoredValue.{StoredValue}
use Rattle.stored_reading.specs.code.Turns.{step_of, turn_held, turn_step, turn_of, items_by, items_at, count_with, there, items_counted}
use Rattle.values.specs.ValueWords.{value_kind, low_of, high_of}
use Rattle.values.specs.declared.Value.{Value}
use Rattle.values.specs.declared.Value.TheVariants as value
use Rattle.stored.specs.declared.StoredValue.TheVariants.{Number, Truth, Range}
use Rattle.stored_reading.specs.StoredRows.{survey_value, stored_class, size_of, stored_row, stored_rows_from}
use Rattle.stored_reading.specs.code.Answers.{rows_at, firsts_from, firsts_at, sizes_from, sizes_at}
use Rattle.stored_reading.specs.declared.FieldStep.{FieldStep}
use Rattle.stored_reading.specs.declared.FieldStep.TheVariants.{Bad, End, Tagged}
use Rattle.stored_reading.specs.declared.ItemTurn.{ItemTurn}
use Rattle.stored_reading.specs.declared.ItemTurn.TheVariants.{Wrong, Ends, Gives}
use Rattle.stored_reading.proofs.StepLaws.{item_of, Turned, turn_is}

length_at : (s : List ℕ) (n : ℕ) → n ≡ from_be_bytes w16 (get_or s 1 0 ∷ get_or s 2 0 ∷ []) → length_in (drop 1 s) ≡ n
length_at s n p = rw (get_or-drop 1 s 0 0, get_or-drop 1 s 1 0) (omega arith)

pub step_short : (s : List ℕ) → length s < 3 → Bad ≡ step_of s
unfolding step_of
step_short s l = rw (lt-ltb (length s) 3 l)

pub step_more : (s : List ℕ) → 3 ≤ length s → get_or s 0 0 ≡ 0 → (length s ≡ 3 → ⊥) → Bad ≡ step_of s
unfolding step_of
step_more s l z m = rw (le-ltb (length s) 3 l, eq-eqb (get_or s 0 0) 0 z, ne_eqb (length s) 3 m)

module _ (s : List ℕ) (n m : ℕ) (k : 3 ≤ length s) (f : n ≡ m) (p : m ≡ from_be_bytes w16 (get_or s 1 0 ∷ get_or s 2 0 ∷ [])) where
  pub step_long : get_or s 0 0 ≡ 0 → length s ≡ 3 → (n ≡ 0 → ⊥) → Bad ≡ step_of s
  unfolding step_of
  step_long z l q = rw (le-ltb (length s) 3 k, eq-eqb (get_or s 0 0) 0 z, eq-eqb (length s) 3 l, length_at s n (f ∙ p), ne_eqb n 0 q)

  pub step_end : get_or s 0 0 ≡ 0 → length s ≡ 3 → n ≡ 0 → End ≡ step_of s
  unfolding step_of
  step_end z l q = rw (le-ltb (length s) 3 k, eq-eqb (get_or s 0 0) 0 z, eq-eqb (length s) 3 l, length_at s n (f ∙ p), eq-eqb n 0 q)

  pub step_over : (get_or s 0 0 ≡ 0 → ⊥) → length s < 3 + n → Bad ≡ step_of s
  unfolding step_of
  step_over z q = rw (le-ltb (length s) 3 k, ne_eqb (get_or s 0 0) 0 z, length_at s n (f ∙ p), lt-ltb (length s) (3 + n) q)

  pub step_field : (get_or s 0 0 ≡ 0 → ⊥) → 3 + n ≤ length s → Tagged (get_or s 0 0) n ≡ step_of s
  unfolding step_of
  step_field z q = rw (le-ltb (length s) 3 k, ne_eqb (get_or s 0 0) 0 z, length_at s n (f ∙ p), le-ltb (length s) (3 + n) q)

module _ (F : Form) (s : List ℕ) (st : FieldStep) where
  pub turn_bad : st ≡ Bad → st ≡ step_of s → Wrong ≡ turn_of F s
  unfolding turn_of turn_step
  turn_bad e p = rw (← p, e)

  pub turn_end : st ≡ End → st ≡ step_of s → Ends ≡ turn_of F s
  unfolding turn_of turn_step
  turn_end e p = rw (← p, e)

  pub turn_none : (t n : ℕ) (h : Option StoredValue) (b r : List ℕ) → st ≡ Tagged t n → h ≡ None → h ≡ kept_in F t b → st ≡ step_of s → b ≡ take n r → r ≡ drop 3 s → Wrong ≡ turn_of F s
  unfolding turn_of turn_step turn_held
  turn_none t n h b r e g k p q d =
      let w : kept_in F t (take n (drop 3 s)) ≡ None = ap (λ (x : List ℕ). kept_in F t (take n x)) (sym d) ∙ ap (kept_in F t) (sym q) ∙ sym k ∙ g in
      rw (← p, e, turn_step, w)

  pub turn_gives : (t n : ℕ) (h : Option StoredValue) (v : StoredValue) (b r : List ℕ) → st ≡ Tagged t n → h ≡ Some v → h ≡ kept_in F t b → st ≡ step_of s → b ≡ take n r → r ≡ drop 3 s → Gives v n ≡ turn_of F s
  unfolding turn_of turn_step turn_held
  turn_gives t n h v b r e g k p q d =
      let w : kept_in F t (take n (drop 3 s)) ≡ Some v = ap (λ (x : List ℕ). kept_in F t (take n x)) (sym d) ∙ ap (kept_in F t) (sym q) ∙ sym k ∙ g in
      rw (← p, e, turn_step, w)

-- ---- a turn at a place of the bytes
module _ (s : List ℕ) (at : ℕ) (r : List ℕ) (tn : ItemTurn) where
  pub at_turn : tn ≡ turn_of form_one r → r ≡ drop at s → Turned form_one (drop at s) tn
  at_turn p q = subst (Turned form_one (drop at s)) (sym (p ∙ ap (turn_of form_one) q)) (turn_is form_one (drop at s))

  pub at_wrong : tn ≡ Wrong → tn ≡ turn_of form_one r → r ≡ drop at s → items_at form_one (drop at s) ≡ None
  at_wrong e p q = subst (Turned form_one (drop at s)) e (at_turn p q)

  pub at_ends : tn ≡ Ends → tn ≡ turn_of form_one r → r ≡ drop at s → items_at form_one (drop at s) ≡ Some []
  at_ends e p q = subst (Turned form_one (drop at s)) e (at_turn p q)

  pub at_gives : (v : StoredValue) (k : ℕ) → tn ≡ Gives v k → tn ≡ turn_of form_one r → r ≡ drop at s → Turned form_one (drop at s) (Gives v k)
  at_gives v k e p q = subst (Turned form_one (drop at s)) e (at_turn p q)

  pub at_next : (v : StoredValue) (k : ℕ) → tn ≡ Gives v k → tn ≡ turn_of form_one r → r ≡ drop at s
      → items_at form_one (drop at s) ≡ before (item_of v k (drop at s)) (items_at form_one (drop (at + (3 + k)) s))
  at_next v k e p q = (at_gives v k e p q).1.1 ∙ rw (drop-drop (3 + k) at s)

  pub at_within : (v : StoredValue) (k : ℕ) → tn ≡ Gives v k → tn ≡ turn_of form_one r → r ≡ drop at s → (at + (3 + k) ≤ length s) × (value_size v ≤ k)
  at_within v k e p q =
      let h = at_gives v k e p q in
      let l : 3 + k ≤ length s - at = rw (length-drop at s) at h.0 in
      (omega arith, h.1.0)

  -- what the loops owe by themselves
  pub fits_three : (v : StoredValue) (k : ℕ) → tn ≡ Gives v k → tn ≡ turn_of form_one r → length s < 2 ^ 64 → r ≡ drop at s → Fits w64 (3 + k)
  fits_three v k e p l q = let h = at_within v k e p q in omega arith

  pub fits_next : (v : StoredValue) (k : ℕ) → tn ≡ Gives v k → tn ≡ turn_of form_one r → length s < 2 ^ 64 → r ≡ drop at s → Fits w64 (at + (3 + k))
  fits_next v k e p l q = let h = at_within v k e p q in omega arith

  pub less_next : (v : StoredValue) (k : ℕ) → tn ≡ Gives v k → tn ≡ turn_of form_one r → r ≡ drop at s → length s - (at + (3 + k)) < length s - at
  less_next v k e p q = let h = at_within v k e p q in omega arith

-- ---- counting
tally_more : (n : ℕ) (i : StoredItem) (x : Option (List StoredItem)) → count_with n (before i x) ≡ count_with (n + 1) x
unfolding count_with before
tally_more n i None = refl
tally_more n i (Some is) = ap Some (omega arith)

module _ (s : List ℕ) (at n : ℕ) (whole : Option ℕ) (e : count_with n (items_at form_one (drop at s)) ≡ whole) where
  pub count_wrong : (r : List ℕ) (tn : ItemTurn) → tn ≡ Wrong → tn ≡ turn_of form_one r → r ≡ drop at s → None ≡ whole
  unfolding count_with
  count_wrong r tn f p q = sym (ap (count_with n) (at_wrong s at r tn f p q)) ∙ e

  pub count_ends : (r : List ℕ) (tn : ItemTurn) → tn ≡ Ends → tn ≡ turn_of form_one r → r ≡ drop at s → Some n ≡ whole
  unfolding count_with
  count_ends r tn f p q = ap Some (omega arith) ∙ sym (ap (count_with n) (at_ends s at r tn f p q)) ∙ e

  pub count_on : (r : List ℕ) (tn : ItemTurn) (v : StoredValue) (k : ℕ) → tn ≡ Gives v k → tn ≡ turn_of form_one r → r ≡ drop at s → count_with (n + 1) (items_at form_one (drop (at + (3 + k)) s)) ≡ whole
  count_on r tn v k f p q = sym (tally_more n (item_of v k (drop at s)) (items_at form_one (drop (at + (3 + k)) s))) ∙ sym (ap (count_with n) (at_next s at r tn v k f p q)) ∙ e

  pub count_out : length s ≤ at → None ≡ whole
  unfolding count_with items_at items_by fields_from
  count_out l = rw (drop_of_length-le s l) at e

-- ---- the rows
there_before : (i : StoredItem) (x : Option (List StoredItem)) → there (before i x) ≡ true → there x ≡ true
unfolding there before
there_before i None e = e
there_before i (Some is) e = refl

cells_before : (at : ℕ) (i : StoredItem) (x : Option (List StoredItem)) → there x ≡ true
    → rows_at at (before i x) ≡ stored_class i.value ∷ (at + (3 + value_size i.value)) ∷ length i.name ∷ value_kind (survey_value i.value) ∷ low_of (survey_value i.value) ∷ high_of (survey_value i.value) ∷ rows_at (at + size_of i) x
unfolding rows_at stored_rows_from before there
cells_before at i None e = clash (cc)
cells_before at i (Some is) e = refl

count_before : (i : StoredItem) (x : Option (List StoredItem)) → there x ≡ true → items_counted (before i x) ≡ suc (items_counted x)
unfolding items_counted before there
count_before i None e = clash (cc)
count_before i (Some is) e = refl

name_length_lem : (v : StoredValue) (k : ℕ) (s : List ℕ) → 3 + k ≤ length s → length (drop (value_size v) (take k (drop 3 s))) ≡ k - value_size v
name_length_lem v k s l =
    let m : length (take k (drop 3 s)) ≡ k = length-take-le k (drop 3 s) (rw (length-drop 3 s) (omega arith)) in
    length-drop (value_size v) (take k (drop 3 s)) ∙ rw m

module _ (s : List ℕ) (at : ℕ) (r : List ℕ) (tn : ItemTurn) (v : StoredValue) (k : ℕ) (e : tn ≡ Gives v k) (p : tn ≡ turn_of form_one r) (q : r ≡ drop at s) where
  pub there_next : there (items_at form_one (drop at s)) ≡ true → there (items_at form_one (drop (at + (3 + k)) s)) ≡ true
  there_next h = there_before (item_of v k (drop at s)) (items_at form_one (drop (at + (3 + k)) s)) (rw (at_next s at r tn v k e p q) at h)

  pub cells_next : there (items_at form_one (drop at s)) ≡ true → rows_at at (items_at form_one (drop at s))
      ≡ stored_class v ∷ (at + (3 + value_size v)) ∷ (k - value_size v) ∷ value_kind (survey_value v) ∷ low_of (survey_value v) ∷ high_of (survey_value v) ∷ rows_at (at + (3 + k)) (items_at form_one (drop (at + (3 + k)) s))
  cells_next h =
      let g = at_gives s at r tn v k e p q in
      let n = name_length_lem v k (drop at s) g.0 in
      let z : at + (3 + (value_size v + (k - value_size v))) ≡ at + (3 + k) = let y = g.1.0 in omega arith in
      ap (rows_at at) (at_next s at r tn v k e p q) ∙ cells_before at (item_of v k (drop at s)) (items_at form_one (drop (at + (3 + k)) s)) (there_next h) ∙ rw (n, z)

  pub count_next : there (items_at form_one (drop at s)) ≡ true → items_counted (items_at form_one (drop at s)) ≡ suc (items_counted (items_at form_one (drop (at + (3 + k)) s)))
  count_next h = ap items_counted (at_next s at r tn v k e p q) ∙ count_before (item_of v k (drop at s)) (items_at form_one (drop (at + (3 + k)) s)) (there_next h)

-- in the code's terms
module _ (s : List ℕ) (at : ℕ) (r : List ℕ) (tn : ItemTurn) (v : StoredValue) (k : ℕ) where
  pub fits_head : (h : ℕ) → tn ≡ Gives v k → tn ≡ turn_of form_one r → h ≡ value_size v → length s < 2 ^ 64 → r ≡ drop at s → Fits w64 (3 + h)
  fits_head h e p g l q = let w = at_within s at r tn v k e p q in omega arith

  pub fits_place : (h : ℕ) → tn ≡ Gives v k → tn ≡ turn_of form_one r → h ≡ value_size v → length s < 2 ^ 64 → r ≡ drop at s → Fits w64 (at + (3 + h))
  fits_place h e p g l q = let w = at_within s at r tn v k e p q in omega arith

  pub head_fits : (h : ℕ) → tn ≡ Gives v k → tn ≡ turn_of form_one r → h ≡ value_size v → r ≡ drop at s → h ≤ k
  head_fits h e p g q = let w = at_within s at r tn v k e p q in omega arith

  pub fill_room : (w : ℕ) (t t₀ : List ℕ) → tn ≡ Gives v k → tn ≡ turn_of form_one r → there (items_at form_one (drop at s)) ≡ true → w + 6 * items_counted (items_at form_one (drop at s)) ≤ length t₀ → length t ≡ length t₀ → r ≡ drop at s → w + 6 ≤ length t
  fill_room w t t₀ e p h m n q = let c = count_next s at r tn v k e p q h in omega arith

  pub fill_word : (w : ℕ) (t₀ : List ℕ) → tn ≡ Gives v k → tn ≡ turn_of form_one r → there (items_at form_one (drop at s)) ≡ true → w + 6 * items_counted (items_at form_one (drop at s)) ≤ length t₀ → length t₀ < 2 ^ 64 → r ≡ drop at s → Fits w64 (w + 6)
  fill_word w t₀ e p h m n q = let c = count_next s at r tn v k e p q h in omega arith

  pub fill_left : (w : ℕ) (t₀ : List ℕ) → tn ≡ Gives v k → tn ≡ turn_of form_one r → there (items_at form_one (drop at s)) ≡ true → w + 6 * items_counted (items_at form_one (drop at s)) ≤ length t₀ → r ≡ drop at s
      → w + 6 + 6 * items_counted (items_at form_one (drop (at + (3 + k)) s)) ≤ length t₀
  fill_left w t₀ e p h m q = let c = count_next s at r tn v k e p q h in omega arith

  pub fill_on : (w h : ℕ) (t u whole : List ℕ) → tn ≡ Gives v k → tn ≡ turn_of form_one r → h ≡ value_size v → there (items_at form_one (drop at s)) ≡ true → sets t w (rows_at at (items_at form_one (drop at s))) ≡ whole
      → r ≡ drop at s → u ≡ sets t w (stored_row v (at + (3 + h)) (k - h)) → sets u (w + 6) (rows_at (at + (3 + k)) (items_at form_one (drop (at + (3 + k)) s))) ≡ whole
  fill_on w h t u whole e p g th m q n =
      ap (λ (x : List ℕ). sets x (w + 6) (rows_at (at + (3 + k)) (items_at form_one (drop (at + (3 + k)) s)))) n
      ∙ rw (add_six w, g) refl
      ∙ sym (ap (sets t w) (cells_next s at r tn v k e p q th))
      ∙ m

pub fill_length : (t u t₀ : List ℕ) (w p l : ℕ) (v : StoredValue) → length t ≡ length t₀ → u ≡ sets t w (stored_row v p l) → length u ≡ length t₀
fill_length t u t₀ w p l v e q = ap length q ∙ length-sets t w (stored_row v p l) ∙ e

module _ (s : List ℕ) (at : ℕ) (t : List ℕ) (w : ℕ) (whole : List ℕ) (e : sets t w (rows_at at (items_at form_one (drop at s))) ≡ whole) where
  pub fill_done : (r : List ℕ) (tn : ItemTurn) → (tn ≡ Wrong) ⊎ (tn ≡ Ends) → tn ≡ turn_of form_one r → r ≡ drop at s → t ≡ whole
  unfolding rows_at stored_rows_from
  fill_done r tn (inl f) p q = rw (at_wrong s at r tn f p q) at e
  fill_done r tn (inr f) p q = rw (at_ends s at r tn f p q) at e

  pub fill_out : length s ≤ at → t ≡ whole
  unfolding rows_at items_at items_by fields_from
  fill_out l = rw (drop_of_length-le s l) at e

pub row_put : (t u : List ℕ) (w p l a d e f : ℕ) (v : StoredValue) (x : Value) → a ≡ stored_class v → x ≡ survey_value v → d ≡ value_kind x → e ≡ low_of x → f ≡ high_of x
    → u ≡ sets t w (a ∷ p ∷ l ∷ d ∷ e ∷ f ∷ []) → u ≡ sets t w (stored_row v p l)
row_put t u w p l a d e f v x ea ex ed ee ef h = h ∙ rw (ea, ed, ee, ef, ex)

pub survey_number_lem : (v : StoredValue) (z : ℤ) → v ≡ Number z → SFits w32 z → value.Number (to_z w32 (of_z w32 z)) ≡ survey_value v
survey_number_lem v z e f = rw (to_z-of_z w32 z f) (sym (ap survey_value e))

pub survey_truth : (v : StoredValue) (t : Bool) → v ≡ Truth t → value.Truth t ≡ survey_value v
survey_truth v t e = sym (ap survey_value e)

pub survey_range : (v : StoredValue) (y z : ℤ) → v ≡ Range y z → SFits w32 y → SFits w32 z → value.Range (to_z w32 (of_z w32 y)) (to_z w32 (of_z w32 z)) ≡ survey_value v
survey_range v y z e f g = rw (to_z-of_z w32 y f, to_z-of_z w32 z g) (sym (ap survey_value e))

-- ---- the names' places and lengths
firsts_before : (at : ℕ) (i : StoredItem) (x : Option (List StoredItem)) → there x ≡ true → firsts_at at (before i x) ≡ (at + (3 + value_size i.value)) ∷ firsts_at (at + size_of i) x
unfolding firsts_at firsts_from before there
firsts_before at i None e = clash (cc)
firsts_before at i (Some is) e = refl

sizes_before : (i : StoredItem) (x : Option (List StoredItem)) → there x ≡ true → sizes_at (before i x) ≡ length i.name ∷ sizes_at x
unfolding sizes_at sizes_from before there
sizes_before i None e = clash (cc)
sizes_before i (Some is) e = refl

module _ (s : List ℕ) (at : ℕ) (r : List ℕ) (tn : ItemTurn) (v : StoredValue) (k : ℕ) (e : tn ≡ Gives v k) (p : tn ≡ turn_of form_one r) (q : r ≡ drop at s) where
  firsts_next : there (items_at form_one (drop at s)) ≡ true
      → firsts_at at (items_at form_one (drop at s)) ≡ (at + (3 + value_size v)) ∷ firsts_at (at + (3 + k)) (items_at form_one (drop (at + (3 + k)) s))
  firsts_next h =
      let g = at_gives s at r tn v k e p q in
      let n = name_length_lem v k (drop at s) g.0 in
      let z : at + (3 + (value_size v + (k - value_size v))) ≡ at + (3 + k) = let y = g.1.0 in omega arith in
      ap (firsts_at at) (at_next s at r tn v k e p q) ∙ firsts_before at (item_of v k (drop at s)) (items_at form_one (drop (at + (3 + k)) s)) (there_next s at r tn v k e p q h) ∙ rw (n, z)

  sizes_next : there (items_at form_one (drop at s)) ≡ true → sizes_at (items_at form_one (drop at s)) ≡ (k - value_size v) ∷ sizes_at (items_at form_one (drop (at + (3 + k)) s))
  sizes_next h =
      let g = at_gives s at r tn v k e p q in
      let n = name_length_lem v k (drop at s) g.0 in
      ap sizes_at (at_next s at r tn v k e p q) ∙ sizes_before (item_of v k (drop at s)) (items_at form_one (drop (at + (3 + k)) s)) (there_next s at r tn v k e p q h) ∙ rw n

module _ (s : List ℕ) (at : ℕ) (r : List ℕ) (tn : ItemTurn) (v : StoredValue) (k : ℕ) where
  pub note_room : (w : ℕ) → tn ≡ Gives v k → tn ≡ turn_of form_one r → there (items_at form_one (drop at s)) ≡ true → w + items_counted (items_at form_one (drop at s)) ≤ 1024 → r ≡ drop at s → w < 1024
  note_room w e p h m q = let c = count_next s at r tn v k e p q h in omega arith

  pub note_word : (w : ℕ) → tn ≡ Gives v k → tn ≡ turn_of form_one r → there (items_at form_one (drop at s)) ≡ true → w + items_counted (items_at form_one (drop at s)) ≤ 1024 → r ≡ drop at s → Fits w64 (w + 1)
  note_word w e p h m q = let c = count_next s at r tn v k e p q h in omega arith

  pub note_cell : (w : ℕ) → tn ≡ Gives v k → tn ≡ turn_of form_one r → there (items_at form_one (drop at s)) ≡ true → w + items_counted (items_at form_one (drop at s)) ≤ 1024 → r ≡ drop at s → Fits w64 (w * 8)
  note_cell w e p h m q = let c = count_next s at r tn v k e p q h in omega arith

  pub note_left : (w : ℕ) → tn ≡ Gives v k → tn ≡ turn_of form_one r → there (items_at form_one (drop at s)) ≡ true → w + items_counted (items_at form_one (drop at s)) ≤ 1024 → r ≡ drop at s
      → w + 1 + items_counted (items_at form_one (drop (at + (3 + k)) s)) ≤ 1024
  note_left w e p h m q = let c = count_next s at r tn v k e p q h in omega arith

  pub firsts_on : (w h : ℕ) (t u whole : List ℕ) → tn ≡ Gives v k → tn ≡ turn_of form_one r → h ≡ value_size v → there (items_at form_one (drop at s)) ≡ true → sets t w (firsts_at at (items_at form_one (drop at s))) ≡ whole
      → r ≡ drop at s → u ≡ set t w (at + (3 + h)) → sets u (w + 1) (firsts_at (at + (3 + k)) (items_at form_one (drop (at + (3 + k)) s))) ≡ whole
  firsts_on w h t u whole e p g th m q n =
      ap (λ (x : List ℕ). sets x (w + 1) (firsts_at (at + (3 + k)) (items_at form_one (drop (at + (3 + k)) s)))) n
      ∙ rw (add-one w, g) refl
      ∙ sym (ap (sets t w) (firsts_next s at r tn v k e p q th))
      ∙ m

  pub sizes_on : (w h : ℕ) (t u whole : List ℕ) → tn ≡ Gives v k → tn ≡ turn_of form_one r → h ≡ value_size v → there (items_at form_one (drop at s)) ≡ true → sets t w (sizes_at (items_at form_one (drop at s))) ≡ whole
      → r ≡ drop at s → u ≡ set t w (k - h) → sets u (w + 1) (sizes_at (items_at form_one (drop (at + (3 + k)) s))) ≡ whole
  sizes_on w h t u whole e p g th m q n =
      ap (λ (x : List ℕ). sets x (w + 1) (sizes_at (items_at form_one (drop (at + (3 + k)) s)))) n
      ∙ rw (add-one w, g) refl
      ∙ sym (ap (sets t w) (sizes_next s at r tn v k e p q th))
      ∙ m

module _ (s : List ℕ) (at : ℕ) (t : List ℕ) (w : ℕ) (whole : List ℕ) where
  pub firsts_done : sets t w (firsts_at at (items_at form_one (drop at s))) ≡ whole → (r : List ℕ) (tn : ItemTurn) → (tn ≡ Wrong) ⊎ (tn ≡ Ends) → tn ≡ turn_of form_one r → r ≡ drop at s → t ≡ whole
  unfolding firsts_at firsts_from
  firsts_done e r tn (inl f) p q = rw (at_wrong s at r tn f p q) at e
  firsts_done e r tn (inr f) p q = rw (at_ends s at r tn f p q) at e

  pub firsts_out : sets t w (firsts_at at (items_at form_one (drop at s))) ≡ whole → length s ≤ at → t ≡ whole
  unfolding firsts_at items_at items_by fields_from
  firsts_out e l = rw (drop_of_length-le s l) at e

  pub sizes_done : sets t w (sizes_at (items_at form_one (drop at s))) ≡ whole → (r : List ℕ) (tn : ItemTurn) → (tn ≡ Wrong) ⊎ (tn ≡ Ends) → tn ≡ turn_of form_one r → r ≡ drop at s → t ≡ whole
  unfolding sizes_at sizes_from
  sizes_done e r tn (inl f) p q = rw (at_wrong s at r tn f p q) at e
  sizes_done e r tn (inr f) p q = rw (at_ends s at r tn f p q) at e

  pub sizes_out : sets t w (sizes_at (items_at form_one (drop at s))) ≡ whole → length s ≤ at → t ≡ whole
  unfolding sizes_at items_at items_by fields_from
  sizes_out e l = rw (drop_of_length-le s l) at e
