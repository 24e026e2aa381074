-- The promises of the strict reading of a text, proved. Assumes nothing.
use Rattle.std.specs.Prelude.{Ok, Err}
use Prim.Native.Nat.{ℕ, ◌-◌, ◌*◌, ◌/◌, ◌≤◌, ◌<◌}
use native.Mathlib.Omega.{arith}
use mathlib.Core.Path.{◌≡◌, refl, sym, ap, ◌∙◌, subst}
use mathlib.Core.Logic.{◌↔◌}
use mathlib.Core.Bool.{cond}
use mathlib.Core.List.{List, ◌++◌}
use lib.Dec.{eqb}
use lib.ListN.{length, replicate}
use Rattle.places.specs.Places.{row_words, kinds_of}
use Rattle.element_reading.specs.Rows as elements
use Rattle.element_reading.specs.Table.{cells}
use Rattle.element_reading.specs.Reading.{reading_of, table_of}
use Rattle.element_reading.proofs.Answers.{table_read, table_length}
use Rattle.forms.specs.code.RuleActions.{State, state_rows}
use Rattle.forms.specs.Tree as forms
use Rattle.forms.specs.code.RuleActions as frames
use Rattle.forms.specs.RowWords.{tree_rows_in}
use Rattle.tree.specs.code.Answers.{elements_counted, reading_in, tree_answer_of, no_file_answer, name_differs_answer, too_deep_answer, table_short, Answer}
use Rattle.forms.specs.RowWords.{words_of}
use Rattle.laws.proofs.Laws.{clash}
use Rattle.tree.specs.code.Answers as answers
use Rattle.tree_promises.specs.Due.{NoFileFirst, NameFirst, DepthFirst}
use Rattle.tree_promises.specs.code.Promises.{tree_answer}
use Rattle.tree_promises.specs.code.Promises as trees
use Rattle.tree_promises.proofs.Exactly.{reading_file, file_reading_lem}
use Rattle.tree_promises.proofs.Promises.{accepts, has_rows, no_file_exactly, name_differs_exactly, too_deep_exactly, is_short, zeros_else, each_label_leads, elsewhere, none_elsewhere}
use Rattle.verdict.specs.Verdict.{Judged}
use Rattle.verdict.specs.code.Judging.{verdict_of}
use Rattle.verdict.specs.declared.Verdict.{Verdict}
use Rattle.std.specs.Prelude.{Option, Some, None, Result, Ok, Err}
use Rattle.places.specs.declared.ElementNumber.{ElementNumber}
use Rattle.refusals.specs.declared.Refusal.{Refusal}
use Rattle.refusals.specs.Refusals.{strict_number, strict_place}
use Rattle.refusals.specs.declared.Refusal.TheVariants as E
use Rattle.refusals.specs.declared.StrictRefusal.{StrictRefusal}
use Rattle.refusals.specs.declared.StrictRefusal.TheVariants as S
use Rattle.strict_reading.specs.declared.Judgement.{Judgement}
use Rattle.strict_reading.specs.code.Strict.{unreadable_from, by_answer, tree_table, file_of, by_unread, elements_as, strict_by_reading, strict_of, kept_by_strict, elements_after_strict, tree_by_unread, tree_as, tree_by_reading, tree_after}
use Rattle.element_reading.specs.Given.{element_count, Taken}
use Rattle.element_reading.specs.Given as goal
use Rattle.element_reading.proofs.Answers as reading
use Rattle.strict_reading.specs.Given.{FirstUnreadable, Readable, Elements, same_name_in, File, ReadAs, IsRead, Given, of_elements, unreadable, no_file, name_differs, too_deep, tree_short}
use Rattle.strict_reading.specs.Permitted.{Permitted}
use Rattle.strict_reading.specs.Promises.{Accepted, RefusedExactly, NoChoice, SomeAnswer}
use Rattle.element_reading.proofs.Answers.{ReadingSays, reading_says, taken_read, refused_reading}
use Rattle.strict_reading.proofs.Given.{all_count, UnreadSays, unread_says, none_unread, first_unread}
use Rattle.strict_reading.proofs.Held.{of_text, of_table, rows_in_lem, verdict_rows}

-- what a reading answers, layer by layer
strict_by : (text : List ℕ) (ew tw : ℕ) (o : Result ElementNumber Refusal) → reading_of text ew ≡ o → strict_of text ew tw ≡ strict_by_reading o text (table_of text ew) tw
unfolding strict_of
strict_by text ew tw o e = rw e

after_by : (text : List ℕ) (ew tw : ℕ) (o : Result ElementNumber Refusal) → reading_of text ew ≡ o → tree_after text ew tw ≡ tree_by_reading o text (table_of text ew) tw
unfolding tree_after
after_by text ew tw o e = rw e

module _ (text table : List ℕ) (n tw : ℕ) where
  all_by : (f : Option ℕ) → unreadable_from 0 (kinds_of n table) ≡ f → elements_as text table n tw ≡ by_unread f text table n tw
  unfolding elements_as
  all_by f e = rw e

  tree_by : (f : Option ℕ) → unreadable_from 0 (kinds_of n table) ≡ f → tree_as text table n tw ≡ tree_by_unread f text table n tw
  unfolding tree_as
  tree_by f e = rw e

  file_by : (a : Answer) → tree_answer_of tw (reading_in text table (elements_counted table n)) ≡ a → file_of text table n tw ≡ by_answer a (tree_table text table n tw)
  unfolding file_of
  file_by a e = rw e

  -- a file that is refused leaves zeros in the tree table
  file_zeros : (r : StrictRefusal) → file_of text table n tw ≡ Err r → tree_table text table n tw ≡ replicate tw 0
  unfolding tree_table
  file_zeros r e = zeros_else text table (elements_counted table n) tw (λ rows m. let z = sym (file_by (Ok rows) m) ∙ e in let c : ◌≡◌ {A = ℕ} 0 1 = cc in omega arith)

  all_zeros : (f : Option ℕ) → unreadable_from 0 (kinds_of n table) ≡ f → (r : StrictRefusal) → elements_as text table n tw ≡ Err r → tree_as text table n tw ≡ replicate tw 0
  all_zeros (Some k) f r e = tree_by (Some k) f
  all_zeros None f r e = tree_by None f ∙ file_zeros r (sym (all_by None f) ∙ e)

tree_zeros : (text : List ℕ) (ew tw : ℕ) (o : Result ElementNumber Refusal) → reading_of text ew ≡ o → (r : StrictRefusal) → strict_of text ew tw ≡ Err r → tree_after text ew tw ≡ replicate tw 0
tree_zeros text ew tw (Err q) o r e = after_by text ew tw (Err q) o
tree_zeros text ew tw (Ok n) o r e =
    after_by text ew tw (Ok n) o
    ∙ all_zeros text (table_of text ew) n.0 tw (unreadable_from 0 (kinds_of n.0 (table_of text ew))) refl r (sym (strict_by text ew tw (Ok n) o) ∙ e)

-- a refusal leaves zeros
zeros_on_refusal : (text : List ℕ) (ew tw : ℕ) (r : StrictRefusal) → strict_of text ew tw ≡ Err r → (elements_after_strict text ew tw ≡ replicate ew 0) × (tree_after text ew tw ≡ replicate tw 0)
unfolding elements_after_strict
zeros_on_refusal text ew tw r e =
    (ap (λ (s : Result Judgement StrictRefusal). kept_by_strict s (table_of text ew)) e ∙ ap (λ (k : ℕ). replicate k 0) (table_length text ew), tree_zeros text ew tw (reading_of text ew) refl r e)

-- a text whose elements are taken and readable is answered as they are
module _ (text : List ℕ) (ew tw : ℕ) where
  readable_as : Readable text ew → strict_of text ew tw ≡ file_of text (table_of text ew) (element_count text) tw
  readable_as r =
      strict_by text ew tw (Ok (record { 0 = element_count text })) (taken_read text ew r.0)
      ∙ all_by text (table_of text ew) (element_count text) tw None (none_unread text ew r.0 r.1)

  answered_as : Taken text ew → (a : Answer) → tree_answer text (table_of text ew) (element_count text) tw ≡ a
      → file_of text (table_of text ew) (element_count text) tw ≡ by_answer a (tree_table text (table_of text ew) (element_count text) tw)
  answered_as t a e =
      file_by text (table_of text ew) (element_count text) tw a
      (ap (λ (k : ℕ). tree_answer_of tw (reading_in text (table_of text ew) k)) (all_count text ew t) ∙ e)

  -- the tree table has the file's rows
  tree_rows : Taken text ew → (s : State) → trees.ReadsAsFile text (table_of text ew) (element_count text) s → 5 * length (state_rows s) ≤ tw
      → tree_table text (table_of text ew) (element_count text) tw ≡ words_of (state_rows s) ++ replicate (tw - 5 * length (state_rows s)) 0
  unfolding tree_table
  tree_rows t s f l =
      ap (λ (k : ℕ). answers.tree_table_of tw (reading_in text (table_of text ew) k)) (all_count text ew t) ∙ has_rows text (table_of text ew) (element_count text) tw s f l

  -- the verdict on the tree table is that on the file's rows
  verdict_as : Taken text ew → (s : State) → trees.ReadsAsFile text (table_of text ew) (element_count text) s → (rows : ℕ) → length (state_rows s) ≡ rows → 5 * rows ≤ tw → (v : Verdict)
      → (verdict_of (tree_table text (table_of text ew) (element_count text) tw) rows ≡ v) ↔ Judged text (cells (elements.rows_of text)) (state_rows s) v
  verdict_as t s f rows c l v =
      let m : 5 * length (state_rows s) ≤ tw = omega arith in
      subst (λ (n : ℕ). (verdict_of (tree_table text (table_of text ew) (element_count text) tw) n ≡ v) ↔ Judged text (cells (elements.rows_of text)) (state_rows s) v) c
      (subst (λ (x : List ℕ). (verdict_of x (length (state_rows s)) ≡ v) ↔ Judged text (cells (elements.rows_of text)) (state_rows s) v) (sym (tree_rows t s f m))
      (verdict_rows text (cells (elements.rows_of text)) (state_rows s) tw (each_label_leads text (table_of text ew) (element_count text) s f) m v))

  -- when each refusal is given, refusal by refusal
  abbrev GivenAs : StrictRefusal → Type 0
  GivenAs (S.Elements r) = reading.GivenAs text ew r
  GivenAs (S.Unreadable e) = Taken text ew × FirstUnreadable (elements.rows_of text) e.0
  GivenAs (S.NoFile e) = Readable text ew × NoFileFirst (same_name_in text) (Elements text) e.0
  GivenAs (S.NameDiffers e) = Readable text ew × NameFirst (same_name_in text) (Elements text) e.0
  GivenAs (S.TooDeep e) = Readable text ew × DepthFirst (same_name_in text) (Elements text) e.0
  GivenAs (S.TreeShort rows) = Readable text ew × (rows ≡ tw / 5) × ((l : List forms.Row) × (File text l × (tw < 5 * length l)))

  -- and by the numbers of 01's table
  abbrev At : ℕ → ℕ → Type 0
  At n k =
      cond (eqb n 2) (Taken text ew × FirstUnreadable (elements.rows_of text) k)
      (cond (eqb n 5) (Readable text ew × NoFileFirst (same_name_in text) (Elements text) k)
      (cond (eqb n 6) (Readable text ew × NameFirst (same_name_in text) (Elements text) k)
      (cond (eqb n 7) (Readable text ew × DepthFirst (same_name_in text) (Elements text) k)
      (cond (eqb n 8) (Readable text ew × (k ≡ tw / 5) × ((l : List forms.Row) × (File text l × (tw < 5 * length l)))) (goal.Given text ew n k)))))

  numbered : {n k : ℕ} → Given text ew tw n k → At n k
  numbered (of_elements (goal.too_long h)) = goal.too_long h
  numbered (of_elements (goal.too_many a h)) = goal.too_many a h
  numbered (of_elements (goal.short a b h)) = goal.short a b h
  numbered (unreadable t u) = (t, u)
  numbered (no_file r d) = (r, d)
  numbered (name_differs r d) = (r, d)
  numbered (too_deep r d) = (r, d)
  numbered (tree_short {l = l} r f h) = (r, refl, (l, (f, h)))

  given_as : (r : StrictRefusal) → Given text ew tw (strict_number r) (strict_place r) → GivenAs r
  given_as (S.Elements (E.TextTooLong p)) g = reading.given_as text ew (E.TextTooLong p) (numbered g)
  given_as (S.Elements (E.TooManyElements e)) g = reading.given_as text ew (E.TooManyElements e) (numbered g)
  given_as (S.Elements (E.TableShort e)) g = reading.given_as text ew (E.TableShort e) (numbered g)
  given_as (S.Unreadable e) g = numbered g
  given_as (S.NoFile e) g = numbered g
  given_as (S.NameDiffers e) g = numbered g
  given_as (S.TooDeep e) g = numbered g
  given_as (S.TreeShort rows) g = numbered g

  as_given : (r : StrictRefusal) → GivenAs r → Given text ew tw (strict_number r) (strict_place r)
  as_given (S.Elements r) g = of_elements (reading.as_given text ew r g)
  as_given (S.Unreadable e) g = unreadable g.0 g.1
  as_given (S.NoFile e) g = no_file g.0 g.1
  as_given (S.NameDiffers e) g = name_differs g.0 g.1
  as_given (S.TooDeep e) g = too_deep g.0 g.1
  as_given (S.TreeShort rows) g = subst (λ (k : ℕ). Given text ew tw 8 k) (sym g.1) (tree_short g.0 g.2.1.0 g.2.1.1)

  -- what an answer says of the text
  abbrev Says : Result Judgement StrictRefusal → Type 0
  Says (Ok j) = IsRead text ew tw j.rows j.verdict
  Says (Err r) = GivenAs r

  -- a reading of the text's elements is a file's, and a file has one
  is_file : (s : State) → frames.Reading (same_name_in text) (Elements text) s → File text (state_rows s)
  is_file = reading_file (same_name_in text) (Elements text)

  is_read : (l : List forms.Row) → File text l → (s : State) × (frames.Reading (same_name_in text) (Elements text) s × (state_rows s ≡ l))
  is_read = file_reading_lem (same_name_in text) (Elements text)

  file_says : Readable text ew → Says (file_of text (table_of text ew) (element_count text) tw)
  file_says r = go (tree_answer text (table_of text ew) (element_count text) tw) refl
    where
      says : (a : Answer) → tree_answer text (table_of text ew) (element_count text) tw ≡ a → Says (by_answer a (tree_table text (table_of text ew) (element_count text) tw)) → Says (file_of text (table_of text ew) (element_count text) tw)
      says a e x = subst Says (sym (answered_as r.0 a e)) x

      go : (a : Answer) → tree_answer text (table_of text ew) (element_count text) tw ≡ a → Says (file_of text (table_of text ew) (element_count text) tw)
      go (Ok rows) e =
          let f = (accepts text (table_of text ew) (element_count text) tw rows).0 e in
          says (Ok rows) e
          (state_rows f.0, (r, is_file f.0 (of_text text ew r.0 (λ a w. frames.Reading a w f.0) f.1.0), f.1.1, f.1.2, (verdict_as r.0 f.0 f.1.0 rows f.1.1 f.1.2 (verdict_of (tree_table text (table_of text ew) (element_count text) tw) rows)).0 refl))
      go (Err (S.Elements x)) e = clash (sym (none_elsewhere tw (reading_in text (table_of text ew) (element_count text))) ∙ ap elsewhere e)
      go (Err (S.Unreadable x)) e = clash (sym (none_elsewhere tw (reading_in text (table_of text ew) (element_count text))) ∙ ap elsewhere e)
      go (Err (S.NoFile x)) e = says (no_file_answer x.0) e (r, of_text text ew r.0 (λ a w. NoFileFirst a w x.0) ((no_file_exactly text (table_of text ew) (element_count text) tw x.0).0 e))
      go (Err (S.NameDiffers x)) e = says (name_differs_answer x.0) e (r, of_text text ew r.0 (λ a w. NameFirst a w x.0) ((name_differs_exactly text (table_of text ew) (element_count text) tw x.0).0 e))
      go (Err (S.TooDeep x)) e = says (too_deep_answer x.0) e (r, of_text text ew r.0 (λ a w. DepthFirst a w x.0) ((too_deep_exactly text (table_of text ew) (element_count text) tw x.0).0 e))
      go (Err (S.TreeShort k)) e =
          let f = (is_short text (table_of text ew) (element_count text) tw k).0 e in
          let l = f.1.1.1 in
          says (table_short k) e (r, f.0, (state_rows f.1.0, (is_file f.1.0 (of_text text ew r.0 (λ a w. frames.Reading a w f.1.0) f.1.1.0), omega arith)))

  elements_say : Taken text ew → (f : Option ℕ) → unreadable_from 0 (kinds_of (element_count text) (table_of text ew)) ≡ f → UnreadSays (elements.rows_of text) f → Says (elements_as text (table_of text ew) (element_count text) tw)
  elements_say t (Some k) e u = subst Says (sym (all_by text (table_of text ew) (element_count text) tw (Some k) e)) (t, u)
  elements_say t None e u = subst Says (sym (all_by text (table_of text ew) (element_count text) tw None e)) (file_says (t, u))

  strict_says : Says (strict_of text ew tw)
  strict_says = go (reading_of text ew) refl (reading_says text ew)
    where
      go : (o : Result ElementNumber Refusal) → reading_of text ew ≡ o → ReadingSays text ew o → Says (strict_of text ew tw)
      go (Err r) e g = subst Says (sym (strict_by text ew tw (Err r) e)) g
      go (Ok n) e g =
          subst Says (sym (strict_by text ew tw (Ok n) e ∙ ap (λ (k : ℕ). elements_as text (table_of text ew) k tw) g.0))
          (elements_say g.1 (unreadable_from 0 (kinds_of (element_count text) (table_of text ew))) refl (unread_says text ew g.1))

  read_by : (rows : ℕ) (v : Verdict) → IsRead text ew tw rows v → strict_of text ew tw ≡ Ok (record { rows = rows; verdict = v })
  read_by rows v (l, (r, f, c, m, w)) =
      let x = is_read l f in
      let s = x.0 in
      let h = of_table text ew r.0 (λ a w. frames.Reading a w x.0) x.1.0 in
      let n : length (state_rows x.0) ≡ rows = ap length x.1.1 ∙ c in
      readable_as r
      ∙ answered_as r.0 (Ok rows) ((accepts text (table_of text ew) (element_count text) tw rows).1 (x.0, (h, n, m)))
      ∙ ap (λ (y : Verdict). Ok (record { rows = rows; verdict = y })) ((verdict_as r.0 x.0 h rows n m v).1 (subst (λ (y : List forms.Row). Judged text (cells (elements.rows_of text)) y v) (sym x.1.1) w))

  refused_by_lem : (r : StrictRefusal) → GivenAs r → strict_of text ew tw ≡ Err r
  refused_by_lem (S.Elements r) g = strict_by text ew tw (Err r) (refused_reading text ew r g)
  refused_by_lem (S.Unreadable e) g =
      strict_by text ew tw (Ok (record { 0 = element_count text })) (taken_read text ew g.0)
      ∙ all_by text (table_of text ew) (element_count text) tw (Some e.0) (first_unread text ew g.0 e.0 g.1)
  refused_by_lem (S.NoFile e) g =
      readable_as g.0
      ∙ answered_as g.0.0 (no_file_answer e.0)
      ((no_file_exactly text (table_of text ew) (element_count text) tw e.0).1 (of_table text ew g.0.0 (λ a w. NoFileFirst a w e.0) g.1))
  refused_by_lem (S.NameDiffers e) g =
      readable_as g.0
      ∙ answered_as g.0.0 (name_differs_answer e.0)
      ((name_differs_exactly text (table_of text ew) (element_count text) tw e.0).1 (of_table text ew g.0.0 (λ a w. NameFirst a w e.0) g.1))
  refused_by_lem (S.TooDeep e) g =
      readable_as g.0
      ∙ answered_as g.0.0 (too_deep_answer e.0)
      ((too_deep_exactly text (table_of text ew) (element_count text) tw e.0).1 (of_table text ew g.0.0 (λ a w. DepthFirst a w e.0) g.1))
  refused_by_lem (S.TreeShort rows) g =
      let x = is_read g.2.0 g.2.1.0 in
      let l = g.2.1.1 in
      let m : length (state_rows x.0) ≡ length g.2.0 = ap length x.1.1 in
      readable_as g.0
      ∙ answered_as g.0.0 (table_short rows)
      ((is_short text (table_of text ew) (element_count text) tw rows).1 (g.1, (x.0, (of_table text ew g.0.0 (λ a w. frames.Reading a w x.0) x.1.0, omega arith))))

-- what the tables hold when a text is read
module _ (text : List ℕ) (ew tw rows : ℕ) (v : Verdict) (l : List forms.Row) (b : ReadAs text ew tw rows v l) where
  elements_hold : elements_after_strict text ew tw ≡ cells (elements.rows_of text) ++ replicate (ew - row_words * element_count text) 0
  unfolding elements_after_strict
  elements_hold =
      ap (λ (x : Result Judgement StrictRefusal). kept_by_strict x (table_of text ew)) (read_by text ew tw rows v (l, b)) ∙ table_read text ew (taken_read text ew b.0.0)

  tree_holds : tree_after text ew tw ≡ words_of l ++ replicate (tw - 5 * rows) 0
  tree_holds =
      let x = is_read text ew tw l b.1 in
      let s = x.0 in
      let h = of_table text ew b.0.0 (λ a w. frames.Reading a w x.0) x.1.0 in
      let c : length (state_rows x.0) ≡ rows = ap length x.1.1 ∙ b.2 in
      let m = b.3 in
      after_by text ew tw (Ok (record { 0 = element_count text })) (taken_read text ew b.0.0)
      ∙ tree_by text (table_of text ew) (element_count text) tw None (none_unread text ew b.0.0 b.0.1)
      ∙ tree_rows text ew tw b.0.0 x.0 h (omega arith)
      ∙ ap (λ (n : ℕ). words_of (state_rows x.0) ++ replicate (tw - 5 * n) 0) c
      ∙ ap (λ (y : List forms.Row). words_of y ++ replicate (tw - 5 * rows) 0) x.1.1

-- what the code comes to is permitted
pub is_permitted : (text : List ℕ) (ew tw : ℕ) → Permitted text ew tw (strict_of text ew tw) (elements_after_strict text ew tw) (tree_after text ew tw)
is_permitted text ew tw = go (strict_of text ew tw) refl (strict_says text ew tw)
  where
    go : (r : Result Judgement StrictRefusal) → strict_of text ew tw ≡ r → Says text ew tw r → Permitted text ew tw r (elements_after_strict text ew tw) (tree_after text ew tw)
    go (Ok j) e h = (h.0, (h.1, elements_hold text ew tw j.rows j.verdict h.0 h.1, tree_holds text ew tw j.rows j.verdict h.0 h.1))
    go (Err r) e h = let z = zeros_on_refusal text ew tw r e in (as_given text ew tw r h, z.0, z.1)

-- and nothing else is
pub permitted_is : (text : List ℕ) (ew tw : ℕ) (r : Result Judgement StrictRefusal) (e t : List ℕ) → Permitted text ew tw r e t
    → (r ≡ strict_of text ew tw) × ((e ≡ elements_after_strict text ew tw) × (t ≡ tree_after text ew tw))
permitted_is text ew tw (Ok j) e t (l, (b, p, q)) =
    (sym (read_by text ew tw j.rows j.verdict (l, b)), (p ∙ sym (elements_hold text ew tw j.rows j.verdict l b), q ∙ sym (tree_holds text ew tw j.rows j.verdict l b)))
permitted_is text ew tw (Err r) e t (g, p, q) =
    let d = refused_by_lem text ew tw r (given_as text ew tw r g) in
    let z = zeros_on_refusal text ew tw r d in
    (sym d, (p ∙ sym z.0, q ∙ sym z.1))

-- an answer with its tables, as the code comes to them
pub permitted_by : (text : List ℕ) (ew tw : ℕ) (r : Result Judgement StrictRefusal) (e t : List ℕ) → (r ≡ strict_of text ew tw) × ((e ≡ elements_after_strict text ew tw) × (t ≡ tree_after text ew tw))
    → Permitted text ew tw r e t
permitted_by text ew tw r e t (p, (q, s)) = rw (p, q, s) (is_permitted text ew tw)

pub no_choice : NoChoice
no_choice text ew tw r r' e e' t t' p p' =
    let a = permitted_is text ew tw r e t p in
    let b = permitted_is text ew tw r' e' t' p' in
    (a.0 ∙ sym b.0, a.1.0 ∙ sym b.1.0, a.1.1 ∙ sym b.1.1)

pub some_answer : SomeAnswer
some_answer text ew tw = (strict_of text ew tw, (elements_after_strict text ew tw, (tree_after text ew tw, is_permitted text ew tw)))

pub accepted : Accepted
accepted text ew tw r e t p rows v =
    let q = (permitted_is text ew tw r e t p).0 in
    ((λ z. subst (Says text ew tw) (sym q ∙ z) (strict_says text ew tw)), λ h. q ∙ read_by text ew tw rows v h)

pub refused_exactly : RefusedExactly
refused_exactly text ew tw r e t p x =
    let q = (permitted_is text ew tw r e t p).0 in (
      (λ z. as_given text ew tw x (subst (Says text ew tw) (sym q ∙ z) (strict_says text ew tw))),
      λ g. q ∙ refused_by_lem text ew tw x (given_as text ew tw x g),
    )

-- the rows in the tree table are those of the tree
rows_of_lem : (text : List ℕ) (ew tw n : ℕ) (v : Verdict) (t : List ℕ) (l : List forms.Row) → ReadAs text ew tw n v l → t ≡ words_of l ++ replicate (tw - 5 * n) 0 → tree_rows_in n t ≡ l
rows_of_lem text ew tw n v t l b q = ap (tree_rows_in n) q ∙ ap (λ (m : ℕ). tree_rows_in m (words_of l ++ replicate (tw - 5 * n) 0)) (sym b.2) ∙ rows_in_lem l (replicate (tw - 5 * n) 0)

-- what holds of the rows of every reading of a text holds of the rows in the tree table
pub of_rows : (P : List forms.Row → Type 0) (text : List ℕ) (ew tw n : ℕ) (v : Verdict) (e t : List ℕ) → Permitted text ew tw (Ok (record { rows = n; verdict = v })) e t
    → ((s : State) → frames.Reading (same_name_in text) (Elements text) s → P (state_rows s)) → P (tree_rows_in n t)
of_rows P text ew tw n v e t (l, (b, p, q)) h =
    let x = is_read text ew tw l b.1 in
    subst P (x.1.1 ∙ sym (rows_of_lem text ew tw n v t l b q)) (h x.0 x.1.0)

-- and the verdict is that on them
pub verdict_of_rows : (text : List ℕ) (ew tw n : ℕ) (v : Verdict) (e t : List ℕ) → Permitted text ew tw (Ok (record { rows = n; verdict = v })) e t → Judged text (cells (elements.rows_of text)) (tree_rows_in n t) v
verdict_of_rows text ew tw n v e t (l, (b, p, q)) = subst (λ (rows : List forms.Row). Judged text (cells (elements.rows_of text)) rows v) (sym (rows_of_lem text ew tw n v t l b q)) b.4
