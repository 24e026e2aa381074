-- What the search for an unreadable element says of the text: each answer has its description, and what is described is answered. Assumes
-- nothing.
use Prim.Native.Nat.{ℕ, zero, suc, ◌+◌, ◌-◌, ◌*◌, ◌<◌}
use mathlib.Core.Path.{◌≡◌, refl, ap, subst}
use mathlib.Core.Bool.{Bool, true, false}
use mathlib.Core.List.{List, [], ◌∷◌, ◌++◌}
use native.Mathlib.Omega.{arith}
use native.Mathlib.Nat.{lt_of_not-le}
use borrow.Author.Tests.{eqb-true, eq-eqb}
use lib.Dec.{eqb}
use lib.ListN.{length, replicate}
use Rattle.places.specs.Places.{row_words, kinds_of}
use Rattle.elements.specs.declared.Kind.{Kind}
use Rattle.elements.specs.declared.Literal.{Literal}
use Rattle.elements.specs.Kinds.{kind_number}
use Rattle.element_reading.specs.Rows.{ElementRow, rows_of}
use Rattle.element_reading.specs.Table.{cells}
use Rattle.element_reading.specs.Reading.{table_of}
use Rattle.element_reading.specs.Given.{element_count, Taken}
use Rattle.element_reading.proofs.Answers.{taken_read, table_read, table_length}
use Rattle.tree.specs.code.Answers.{elements_counted}
use Rattle.std.specs.Prelude.{Option, Some, None}
use Rattle.strict_reading.specs.code.Strict.{unreadable_from}
use Rattle.strict_reading.specs.Given.{UnreadableIn, FirstUnreadable, NoneUnreadable}

module _ (text : List ℕ) (ew : ℕ) where
  -- all the elements elementCount
  pub all_count : Taken text ew → elements_counted (table_of text ew) (element_count text) ≡ element_count text
  all_count t =
      let l = t.1 in
      let m = t.2 in
      let z = table_length text ew in
      omega arith

unreadable_kind_lem : (k : Kind) → kind_number k ≡ 7 → k ≡ Kind.Unreadable
unreadable_kind_lem Kind.Identifier e = absurd (omega arith)
unreadable_kind_lem Kind.Extended e = absurd (omega arith)
unreadable_kind_lem (Kind.Literal Literal.Integer) e = absurd (omega arith)
unreadable_kind_lem (Kind.Literal Literal.Real) e = absurd (omega arith)
unreadable_kind_lem (Kind.Literal Literal.Character) e = absurd (omega arith)
unreadable_kind_lem (Kind.Literal Literal.String) e = absurd (omega arith)
unreadable_kind_lem Kind.Unreadable e = refl
unreadable_kind_lem (Kind.Delimiter n) e = absurd (omega arith)
unreadable_kind_lem (Kind.Reserved n) e = absurd (omega arith)

-- the search for an unreadable element among rows of which the first is number i
abbrev SearchSays : ℕ → List ElementRow → Option ℕ → Type 0
SearchSays i rs (Some k) = (m : ℕ) × ((k ≡ i + m) × FirstUnreadable rs m)
SearchSays i rs None = NoneUnreadable rs

found_later : (i : ℕ) (r : ElementRow) (rs : List ElementRow) (f : Option ℕ) → (r.kind ≡ Kind.Unreadable → ⊥) → SearchSays (suc i) rs f → SearchSays i (r ∷ rs) f
found_later i r rs (Some k) d s =
    let p = s.1.0 in
    (suc s.0, (omega arith, (s.1.1.0, λ j l. before j (omega arith))))
  where
    before : (j : ℕ) → j < suc s.0 → UnreadableIn (r ∷ rs) j → ⊥
    before zero l u = d u
    before (suc j) l u = s.1.1.1 j (omega arith) u
found_later i r rs None d s = none
  where
    none : NoneUnreadable (r ∷ rs)
    none zero u = d u
    none (suc e) u = s e u

-- the kinds of rows, as the table has them
abbrev numbers : List ElementRow → List ℕ
numbers [] = []
numbers (r ∷ rs) = kind_number r.kind ∷ numbers rs

kinds_rows : (rs : List ElementRow) (l : List ℕ) → kinds_of (length rs) (cells rs ++ l) ≡ numbers rs
unfolding kinds_of cells
kinds_rows [] l = refl
kinds_rows (r ∷ rs) l = ap (λ (ks : List ℕ). kind_number r.kind ∷ ks) (kinds_rows rs l)

search_says : (rs : List ElementRow) (i : ℕ) → SearchSays i rs (unreadable_from i (numbers rs))
unfolding unreadable_from
search_says [] i = λ e u. u
search_says (r ∷ rs) i = go (eqb (kind_number r.kind) 7) refl (search_says rs (suc i))
  where
    go : (b : Bool) → eqb (kind_number r.kind) 7 ≡ b → SearchSays (suc i) rs (unreadable_from (suc i) (numbers rs))
        → SearchSays i (r ∷ rs) (elim b [ true ↦ Some i | false ↦ unreadable_from (suc i) (numbers rs) ])
    go true e s = (0, (omega arith, (unreadable_kind_lem r.kind (eqb-true (kind_number r.kind) 7 e), λ j m. absurd (omega arith))))
    go false e s =
        found_later i r rs (unreadable_from (suc i) (numbers rs))
        (λ u. let z : ◌≡◌ {A = ℕ} 0 1 = (let y : eqb (kind_number r.kind) 7 ≡ true = eq-eqb (kind_number r.kind) 7 (ap kind_number u) in cc) in omega arith)
        s

-- what the search among a text's elements says, and where it ends by what is said
abbrev pub UnreadSays : List ElementRow → Option ℕ → Type 0
UnreadSays rs (Some k) = FirstUnreadable rs k
UnreadSays rs None = NoneUnreadable rs

module _ (text : List ℕ) (ew : ℕ) (t : Taken text ew) where
  pub unread_says : UnreadSays (rows_of text) (unreadable_from 0 (kinds_of (element_count text) (table_of text ew)))
  unread_says =
      rw (table_read text ew (taken_read text ew t), kinds_rows (rows_of text) (replicate (ew - row_words * element_count text) 0))
      (from (unreadable_from 0 (numbers (rows_of text))) (search_says (rows_of text) 0))
    where
      from : (f : Option ℕ) → SearchSays 0 (rows_of text) f → UnreadSays (rows_of text) f
      from (Some k) s = let z : s.0 ≡ k = (let p = s.1.0 in omega arith) in subst (FirstUnreadable (rows_of text)) z s.1.1
      from None s = s

  pub none_unread : NoneUnreadable (rows_of text) → unreadable_from 0 (kinds_of (element_count text) (table_of text ew)) ≡ None
  none_unread d = go (unreadable_from 0 (kinds_of (element_count text) (table_of text ew))) unread_says
    where
      go : (f : Option ℕ) → UnreadSays (rows_of text) f → f ≡ None
      go (Some k) s = absurd (d k s.0)
      go None s = refl

  pub first_unread : (e : ℕ) → FirstUnreadable (rows_of text) e → unreadable_from 0 (kinds_of (element_count text) (table_of text ew)) ≡ Some e
  first_unread e d = go (unreadable_from 0 (kinds_of (element_count text) (table_of text ew))) unread_says
    where
      go : (f : Option ℕ) → UnreadSays (rows_of text) f → f ≡ Some e
      go (Some k) s =
          let a : e < suc k = lt_of_not-le (λ l. d.1 k (omega arith) s.0) in
          let b : k < suc e = lt_of_not-le (λ l. s.1 e (omega arith) d.0) in
          let z : k ≡ e = omega arith in
          ap Some z
      go None s = absurd (s e d.0)
