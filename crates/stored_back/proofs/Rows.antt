-- The rows of the items that are stored show what the survey shows of them. Assumes nothing.
use Rattle.std.specs.Prelude.{Option, Some, None}
use Prim.Native.Nat.{ℕ, ◌+◌}
use mathlib.Core.Path.{◌≡◌, refl, sym, ap, ap₂, subst, ◌∙◌}
use mathlib.Core.Logic.{inl, inr}
use mathlib.Core.Bool.{Bool, true, false, cond}
use mathlib.Core.List.{List, [], ◌∷◌, ◌++◌, map}
use native.Mathlib.Omega.{arith}
use lib.ListN.{length, length-map}
use Rattle.records.specs.Records.{is_claim}
use Rattle.values.specs.ValueWords.{state_of, value_kind, low_of, high_of}
use Rattle.values.specs.declared.Value.{Value}
use Rattle.values.specs.declared.Value.TheVariants as value
use Rattle.marks.proofs.Laws.{Fits}
use Rattle.meaning.proofs.Begun.{names_by_class}
use Rattle.meaning.specs.Elements.{Element}
use Rattle.meaning.specs.Pieces.{class_of}
use Rattle.meaning.specs.Names.{own_name, names_claimed, Done}
use Rattle.stored.specs.StoredItems.{StoredItem}
use Rattle.stored.specs.declared.StoredValue.{StoredValue}
use Rattle.stored.specs.declared.StoredValue.TheVariants as kept
use Rattle.stored_reading.specs.StoredRows as rows
use Rattle.stored_reading.specs.StoredRows.{survey_value, size_of, stored_rows_from}
use Rattle.stored_reading.specs.Promises.{NamesAt}
use Rattle.storing.specs.SurveyItems.{stored_value, stored_name, items_named, stored_items}
use Rattle.stored_back.specs.Shown.{Shown, shown_by, survey_shows, rows_show}

-- ---- rows

-- what an item's row shows
abbrev item_shows : StoredItem → Shown
item_shows i = record {
  class = rows.stored_class i.value;
  name = i.name;
  kind = value_kind (survey_value i.value);
  low = low_of (survey_value i.value);
  high = high_of (survey_value i.value);
}

abbrev pub items_show : List StoredItem → List Shown
items_show is = map item_shows is

pub rows_show_lem : (s : List ℕ) (is : List StoredItem) (at : ℕ) (rest : List ℕ) → NamesAt s at is → rows_show s (stored_rows_from at is ++ rest) (length is) ≡ items_show is
unfolding rows_show stored_rows_from
rows_show_lem s [] at rest h = refl
rows_show_lem s (i ∷ is) at rest h =
    ap₂ (λ (n : List ℕ) (l : List Shown). record { class = rows.stored_class i.value; name = n; kind = value_kind (survey_value i.value); low = low_of (survey_value i.value); high = high_of (survey_value i.value) } ∷ l)
    h.0 (rows_show_lem s is (at + size_of i) rest h.1)

-- ---- values

-- what is kept of a value in state 0 says all that its record does
record Kept (class : ℕ) (v : Value) : Type 0 where
  value : StoredValue
  held : stored_value v ≡ Some value
  class_is : rows.stored_class value ≡ class
  value_is : survey_value value ≡ v

kept_value : (c : ℕ) (v : Value) → Fits c v → state_of v ≡ 0 → Kept c v
kept_value c (value.Number z) (inl f) h = record { value = kept.Number z; held = refl; class_is = sym f.0; value_is = refl }
kept_value c (value.Truth t) (inl f) h = record { value = kept.Truth t; held = refl; class_is = sym f.0; value_is = refl }
kept_value c (value.Range low high) (inl f) h = absurd f.1
kept_value c value.Truths (inl f) h = absurd f.1
kept_value c (value.Without s) (inl f) h = absurd (omega (arith, f.1))
kept_value c (value.Number z) (inr f) h = absurd f.1
kept_value c (value.Truth t) (inr f) h = absurd f.1
kept_value c (value.Range low high) (inr f) h = record { value = kept.Range low high; held = refl; class_is = sym f.0; value_is = refl }
kept_value c value.Truths (inr f) h = record { value = kept.Truths; held = refl; class_is = sym f.0; value_is = refl }
kept_value c (value.Without s) (inr f) h = absurd (omega (arith, f.1))

-- ---- pieces

-- each that claims a name has a value that fits its record, and is in state 0
abbrev pub AllKept : List Done → Type 0
AllKept [] = Unit {0}
AllKept (d ∷ ds) = (is_claim (class_of d.piece) ≡ true → Fits (class_of d.piece) d.value × (state_of d.value ≡ 0)) × AllKept ds

show_append : (xs ys : List StoredItem) → items_show (xs ++ ys) ≡ items_show xs ++ items_show ys
show_append [] ys = refl
show_append (x ∷ xs) ys = ap (λ (l : List Shown). item_shows x ∷ l) (show_append xs ys)

show_one : (c : ℕ) (v : Value) (x : Element) → Kept c v → items_show (items_named (stored_value v) (x ∷ [])) ≡ shown_by c v (x ∷ [])
unfolding items_named
show_one c v x k =
    ap (λ (h : Option StoredValue). items_show (items_named h (x ∷ []))) k.held
    ∙ ap₂ (λ (i : ℕ) (u : Value). record { class = i; name = stored_name x; kind = value_kind u; low = low_of u; high = high_of u } ∷ []) k.class_is k.value_is

show_none : (h : Option StoredValue) → items_show (items_named h []) ≡ []
unfolding items_named
show_none None = refl
show_none (Some v) = refl

show_piece : (d : Done) → (is_claim (class_of d.piece) ≡ true → Fits (class_of d.piece) d.value × (state_of d.value ≡ 0))
    → items_show (items_named (stored_value d.value) (names_claimed d.piece)) ≡ shown_by (class_of d.piece) d.value (names_claimed d.piece)
show_piece d h =
    subst (λ (xs : List Element). items_show (items_named (stored_value d.value) xs) ≡ shown_by (class_of d.piece) d.value xs) (sym (names_by_class d.piece))
    (go (is_claim (class_of d.piece)) refl)
  where
    go : (b : Bool) → is_claim (class_of d.piece) ≡ b
        → items_show (items_named (stored_value d.value) (cond b (own_name d.piece ∷ []) [])) ≡ shown_by (class_of d.piece) d.value (cond b (own_name d.piece ∷ []) [])
    go true e = show_one (class_of d.piece) d.value (own_name d.piece) (kept_value (class_of d.piece) d.value (h e).0 (h e).1)
    go false e = show_none (stored_value d.value)

pub items_show_lem : (ds : List Done) → AllKept ds → items_show (stored_items ds) ≡ survey_shows ds
unfolding stored_items survey_shows
items_show_lem [] h = refl
items_show_lem (d ∷ ds) h =
    show_append (items_named (stored_value d.value) (names_claimed d.piece)) (stored_items ds) ∙ ap₂ (λ (a b : List Shown). a ++ b) (show_piece d h.0) (items_show_lem ds h.1)

pub shown_count : (ds : List Done) → AllKept ds → length (survey_shows ds) ≡ length (stored_items ds)
shown_count ds h = ap length (sym (items_show_lem ds h)) ∙ length-map (stored_items ds) item_shows
