-- The ways of the strict reading, in the code's terms: each premise is what a call or a match gives. Assumes nothing.
use Rattle.std.specs.Prelude.{Ok, Err}
use mathlib.Core.Path.{◌≡◌, sym, ap, ◌∙◌}
use mathlib.Core.List.{List, ◌∷◌}
use Prim.Native.Nat.{ℕ, suc, ◌+◌, ◌*◌, ◌≤◌, ◌<◌}
use native.Mathlib.Numerals.{add-one}
use borrow.Author.Tests.{eq-eqb, ne_eqb}
use lib.ListN.{length, drop, replicate, length-replicate}
use Rattle.places.specs.Places.{row_words, cell_at, kinds_of}
use Rattle.places.proofs.Laws.{kinds_from, kinds_end}
use Rattle.element_reading.specs.Reading.{reading_of}
use Rattle.element_reading.proofs.Answers.{table_refused}
use Rattle.element_reading.specs.Reading as elements
use Rattle.refusals.specs.declared.Refusal.{Refusal}
use Rattle.places.specs.declared.ElementNumber.{ElementNumber}
use Rattle.tree.specs.code.Answers.{elements_counted, reading_in, tree_answer_of, Answer}
use Rattle.tree.specs.code.Answers as trees
use Rattle.verdict.specs.code.Judging.{verdict_of}
use Rattle.verdict.specs.declared.Verdict.{Verdict}
use Rattle.std.specs.Prelude.{Option, Some, None, Result, Ok, Err}
use Rattle.refusals.specs.declared.StrictRefusal.{StrictRefusal}
use Rattle.refusals.specs.declared.StrictRefusal.TheVariants as S
use Rattle.strict_reading.specs.declared.Judgement.{Judgement}
use Rattle.strict_reading.specs.code.Strict.{unreadable_from, by_answer, tree_table, file_of, by_unread, elements_as, strict_by_reading, strict_of, kept_by_strict, elements_after_strict, tree_by_unread, tree_as, tree_by_reading, tree_after}

-- the search for an unreadable element
found : (i k : ℕ) (ks : List ℕ) → k ≡ 7 → unreadable_from i (k ∷ ks) ≡ Some i
unfolding unreadable_from
found i k ks q = rw (eq-eqb k 7 q, unreadable_from)

passed : (i k : ℕ) (ks : List ℕ) → (k ≡ 7 → ⊥) → unreadable_from i (k ∷ ks) ≡ unreadable_from (suc i) ks
unfolding unreadable_from
passed i k ks q = rw (ne_eqb k 7 q, unreadable_from)

module _ (t : List ℕ) (count i : ℕ) (whole : Option ℕ) (v : unreadable_from i (drop i (kinds_of count t)) ≡ whole) where
  module _ (k : ℕ) (l : row_words * count ≤ length t) (h : i < count) (e : k ≡ cell_at t i 0) where
    here : drop i (kinds_of count t) ≡ k ∷ drop (i + 1) (kinds_of count t)
    here = rw (e, add-one i) (kinds_from t count i l h)

    pub unread_hit : k ≡ 7 → Some i ≡ whole
    unread_hit q = sym (ap (unreadable_from i) here ∙ found i k (drop (i + 1) (kinds_of count t)) q) ∙ v

    pub unread_past : (k ≡ 7 → ⊥) → unreadable_from (i + 1) (drop (i + 1) (kinds_of count t)) ≡ whole
    unread_past q =
        ap (λ (j : ℕ). unreadable_from j (drop (i + 1) (kinds_of count t))) (add-one i)
        ∙ sym (ap (unreadable_from i) here ∙ passed i k (drop (i + 1) (kinds_of count t)) q)
        ∙ v

  pub unread_end : count ≤ i → None ≡ whole
  unfolding unreadable_from
  unread_end h = rw (kinds_end t count i h) at v

-- a file, or refusal 5, 6, 7 or 8: a is what `read_tree` answers, u the tree table then, e the element table where it is cleared
module _ (text t : List ℕ) (count w : ℕ) (a : Answer) (u : List ℕ)
    (p : a ≡ tree_answer_of w (reading_in text t (elements_counted t count)))
    (q : u ≡ trees.tree_table_of w (reading_in text t (elements_counted t count))) where
  tree_as_lem : u ≡ tree_table text t count w
  unfolding tree_table
  tree_as_lem = q

  file_as : file_of text t count w ≡ by_answer a u
  unfolding file_of
  file_as = rw (← p, ← tree_as_lem)

  pub file_read : (rows : ℕ) (v : Verdict) → a ≡ Ok rows → v ≡ verdict_of u rows → (Ok (record { rows = rows; verdict = v }) ≡ file_of text t count w) × ((t ≡ kept_by_strict (file_of text t count w) t) × (u ≡ tree_table text t count w))
  file_read rows v m g = let e = sym (file_as ∙ ap (λ (x : Answer). by_answer x u) m ∙ ap (λ (y : Verdict). Ok (record { rows = rows; verdict = y })) (sym g)) in (e, (ap (λ (x : Result Judgement StrictRefusal). kept_by_strict x t) e, tree_as_lem))

  pub file_refused : (r : StrictRefusal) (x : List ℕ) → a ≡ Err r → x ≡ replicate (length t) 0 → (Err r ≡ file_of text t count w) × ((x ≡ kept_by_strict (file_of text t count w) t) × (u ≡ tree_table text t count w))
  file_refused r x m z = let e = sym (file_as ∙ ap (λ (y : Answer). by_answer y u) m) in (e, (z ∙ ap (λ (y : Result Judgement StrictRefusal). kept_by_strict y t) e, tree_as_lem))

-- refusal 2, or a file: f is what `first_unreadable` answers
module _ (text t : List ℕ) (count w : ℕ) (f : Option ℕ) (p : f ≡ unreadable_from 0 (kinds_of count t)) where
  all_as : elements_as text t count w ≡ by_unread f text t count w
  unfolding elements_as
  all_as = rw p

  tree_all : tree_as text t count w ≡ tree_by_unread f text t count w
  unfolding tree_as
  tree_all = rw p

  pub all_unreadable : (k : ℕ) (x u : List ℕ) → f ≡ Some k → x ≡ replicate (length t) 0 → u ≡ replicate w 0 → (Err (S.Unreadable (record { 0 = k })) ≡ elements_as text t count w) × ((x ≡ kept_by_strict (elements_as text t count w) t) × (u ≡ tree_as text t count w))
  all_unreadable k x u m z y =
      let e : Err (S.Unreadable (record { 0 = k })) ≡ elements_as text t count w = sym (rw m at all_as) in
      (e, (z ∙ ap (λ (s : Result Judgement StrictRefusal). kept_by_strict s t) e, y ∙ sym (rw m at tree_all)))

  pub all_file : (r : Result Judgement StrictRefusal) (x u : List ℕ) → f ≡ None → r ≡ file_of text t count w → x ≡ kept_by_strict (file_of text t count w) t → u ≡ tree_table text t count w → (r ≡ elements_as text t count w) × ((x ≡ kept_by_strict (elements_as text t count w) t) × (u ≡ tree_as text t count w))
  all_file r x u m e z y =
      let g : elements_as text t count w ≡ file_of text t count w = rw m at all_as in
      (e ∙ sym g, (z ∙ ap (λ (s : Result Judgement StrictRefusal). kept_by_strict s t) (sym g), y ∙ sym (rw m at tree_all)))

-- refusals 1, 3, 4, or the elements: o is what `read_elements` answers, t the element table then
module _ (text : List ℕ) (ew w : ℕ) (o : Result ElementNumber Refusal) (t : List ℕ) (p : o ≡ reading_of text ew) (q : t ≡ elements.table_of text ew) where
  strict_as : strict_of text ew w ≡ strict_by_reading o text t w
  unfolding strict_of
  strict_as = rw (← p, ← q)

  after_as : tree_after text ew w ≡ tree_by_reading o text t w
  unfolding tree_after
  after_as = rw (← p, ← q)

  kept_as : elements_after_strict text ew w ≡ kept_by_strict (strict_of text ew w) t
  unfolding elements_after_strict
  kept_as = rw (← q)

  pub strict_read : (n : ElementNumber) (r : Result Judgement StrictRefusal) (x u : List ℕ) → o ≡ Ok n → r ≡ elements_as text t n.0 w → x ≡ kept_by_strict (elements_as text t n.0 w) t → u ≡ tree_as text t n.0 w → (r ≡ strict_of text ew w) × ((x ≡ elements_after_strict text ew w) × (u ≡ tree_after text ew w))
  strict_read n r x u m e z y =
      let g : strict_of text ew w ≡ elements_as text t n.0 w = rw m at strict_as in
      (e ∙ sym g, (z ∙ ap (λ (s : Result Judgement StrictRefusal). kept_by_strict s t) (sym g) ∙ sym kept_as, y ∙ sym (rw m at after_as)))

  pub strict_refused : (r : Refusal) (u : List ℕ) → o ≡ Err r → u ≡ replicate w 0 → (Err (S.Elements r) ≡ strict_of text ew w) × ((t ≡ elements_after_strict text ew w) × (u ≡ tree_after text ew w))
  strict_refused r u m y =
      let z : t ≡ replicate ew 0 = q ∙ table_refused text ew (sym p ∙ m) in
      let g : Err (S.Elements r) ≡ strict_of text ew w = sym (rw m at strict_as) in
      (g, (z ∙ ap (λ (k : ℕ). replicate k 0) (sym (ap length z ∙ length-replicate ew 0)) ∙ ap (λ (s : Result Judgement StrictRefusal). kept_by_strict s t) g ∙ sym kept_as, y ∙ sym (rw m at after_as)))
