-- A reading's rows are an item's: each row's children are those of its form's line (`RowsFit`), so after an operator stand its operands, and
-- after an item's mark its expression, or its range and the bounds. Assumes nothing.
use Prim.Native.Nat.{ℕ, zero, suc, ◌+◌, ◌-◌, ◌*◌, ◌≤◌, ◌<◌}
use mathlib.Core.Path.{◌≡◌, refl, sym, ap, ap₂, subst, ◌∙◌}
use mathlib.Core.Logic.{◌⊎◌, inl, inr, ⊎_elim}
use mathlib.Core.Bool.{Bool, true, false, cond, ◌&&◌, ◌||◌}
use mathlib.Core.List.{List, [], ◌∷◌, ◌++◌}
use native.Mathlib.Omega.{arith}
use borrow.Author.Tests.{eqb-true, eqb-false, ltb-true}
use lib.Dec.{T, eqb, leb, ltb, eqb→eq, leb→le}
use lib.ListN.{length, get_or, take, drop}
use Rattle.laws.proofs.Laws.{clash, is_true}
use Rattle.grammars.proofs.Theory.{or_cases, and_left, and_right}
use Rattle.forms.specs.code.Kinds.{number_of, word_range, word_to, word_downto, semicolon}
use Rattle.forms.specs.code.RuleNames as form
use Rattle.forms.specs.Spellings.{is_in}
use Rattle.forms.specs.FormLines.{OwnItem, at, row, sort, sort_of, telling, operates, is_branch, Pattern, nothing, one, both, opt, seq, Fits, none, this, bare, inside, then, left, right, operand, form_line, rows, elements, items_in, own_items, IsAmong, operator_at, RowsFit}
use Rattle.forms.specs.code.Shapes.{symbol}
use Rattle.forms.specs.Tree.{Row}
use Rattle.forms.specs.code.RuleActions.{State, state_rows}
use Rattle.forms.specs.code.ItemReading.{ItemReading, item_row, mark_row}
use Rattle.forms.proofs.Shapes.{begin_with_mark}
use Rattle.forms.proofs.Fitting.{constant_rows_fit, subtype_rows_fit}
use Rattle.form_table.proofs.Tables.{terminal_small}
use Rattle.forms.specs.Tree.{behind}
use Rattle.meaning.specs.Elements.{Piece}
use Rattle.meaning.specs.Pieces.{kinds_in_piece}
use Rattle.meaning.specs.Elements as worded
use Rattle.tree.specs.code.Answers.{terminals_in}
use Rattle.tree.specs.code.PieceRows.{unlike}
use Rattle.meaning.specs.ItemForms.{ItemForm as Item', constant, subtype, ranged, Goes, to, downto, HasForm, is_constant, is_subtype, is_ranged}
use Rattle.meaning.specs.ItemForms.{Expression, name, literal, unfolded, unary, binary, Is, is_name, is_called, is_attribute, is_literal, is_unary, is_binary}
use Rattle.meaning.proofs.Readings.{to_forms_lem, constant_reading, subtype_reading}
use Rattle.meaning.proofs.Least.{behind_less}

-- ---- the children among items, by their sorts

abbrev children : List OwnItem → List ℕ
children [] = []
children (at i ∷ x) = children x
children (row s ∷ x) = s ∷ children x

children_append : (x y : List OwnItem) → children (x ++ y) ≡ children x ++ children y
children_append [] y = refl
children_append (at i ∷ x) y = children_append x y
children_append (row s ∷ x) y = ap (λ (l : List ℕ). s ∷ l) (children_append x y)

children_elements : (lo c : ℕ) → children (elements lo c) ≡ []
children_elements lo zero = refl
children_elements lo (suc c) = children_elements (suc lo) c

module _ (w : List ℕ) where
  children_skip : (k lo hi : ℕ) (l : List Row) → children (items_in w k lo hi l) ≡ children (items_in w 0 lo hi (drop k l))
  children_skip zero lo hi l = refl
  children_skip (suc k) lo hi [] = refl
  children_skip (suc k) lo hi (r ∷ l) = children_skip k lo hi l

  children_first : (lo hi : ℕ) (r : Row) (l : List Row) → children (items_in w 0 lo hi (r ∷ l)) ≡ sort_of w r ∷ children (items_in w 0 (r.first + r.count) hi (drop (r.rows - 1) l))
  children_first lo hi r l =
      children_append (elements lo (r.first - lo)) _
      ∙ ap (λ (x : List ℕ). x ++ children (row (sort_of w r) ∷ items_in w (r.rows - 1) (r.first + r.count) hi l)) (children_elements lo (r.first - lo))
      ∙ ap (λ (x : List ℕ). sort_of w r ∷ x) (children_skip (r.rows - 1) (r.first + r.count) hi l)

  -- ---- the sorts of expressions

  abbrev is_expression : ℕ → Bool
  is_expression s = leb (24 * 128) s && ltb s (30 * 128)

  abbrev every : List ℕ → Bool
  every [] = true
  every (s ∷ l) = is_expression s && every l

  every_at : (S : List ℕ) → T (every S) → (s : ℕ) → T (is_in s S) → T (is_expression s)
  every_at [] h s i = absurd i
  every_at (x ∷ S) h s i =
      ⊎_elim (λ e. subst (λ (y : ℕ). T (is_expression y)) (sym (eqb→eq s x e)) (and_left (is_expression x) (every S) h)) (every_at S (and_right (is_expression x) (every S) h) s)
      (or_cases (eqb s x) (is_in s S) i)

  -- one child, an expression
  abbrev OneChild : List OwnItem → Type 0
  OneChild x = (s : ℕ) × ((children x ≡ s ∷ []) × T (is_expression s))

  one_operand : {q : ℕ} {S : List ℕ} {x : List OwnItem} → Fits w q (operand S) x → T (every S) → OneChild x
  one_operand {S = S} (bare {s = s} i) h = (s, (refl, every_at S h s i))
  one_operand (inside {x = x} i j a f b e) h =
      let o = one_operand f tt in
      (o.0, (ap children e ∙ children_append x (at j ∷ []) ∙ ap (λ (l : List ℕ). l ++ []) o.1.0, o.1.1))

  -- an element, or the operator, and then the rest: the children are those of the rest
  abbrev Rest : ℕ → Pattern → List OwnItem → Type 0
  Rest q P x = (y : List OwnItem) × (Fits w q P y × (children x ≡ children y))

  behind_element : {q : ℕ} {K : List ℕ} {P : Pattern} {x : List OwnItem} → Fits w q (both (one 0 K) P) x → Rest q P x
  behind_element (then {y = y} (this {x = at i} a b) f e) = (y, (f, ap children e))
  behind_element (then (this {x = row s} a b) f e) = absurd a

  behind_operator : {q : ℕ} {K : List ℕ} {P : Pattern} {x : List OwnItem} → Fits w q (both (one 1 K) P) x → Rest q P x
  behind_operator (then {y = y} (this {x = at i} a b) f e) = (y, (f, ap children e))
  behind_operator (then (this {x = row s} a b) f e) = absurd a

  -- a child and then the rest
  abbrev More : (ℕ → Type 0) → ℕ → Pattern → List OwnItem → Type 0
  More Q q P x = (s : ℕ) × (Q s × ((y : List OwnItem) × (Fits w q P y × (children x ≡ s ∷ children y))))

  behind_row : {q : ℕ} {K : List ℕ} {P : Pattern} {x : List OwnItem} → Fits w q (both (one 2 K) P) x → More (λ s. T (is_in s K)) q P x
  behind_row (then (this {x = at i} a b) f e) = absurd a
  behind_row (then {y = y} (this {x = row s} a b) f e) = (s, (b, (y, (f, ap children e))))

  behind_operand : {q : ℕ} {S : List ℕ} {P : Pattern} {x : List OwnItem} → Fits w q (both (operand S) P) x → T (every S) → More (λ s. T (is_expression s)) q P x
  behind_operand (then {x = x} {y = y} a f e) h =
      let o = one_operand a h in
      (o.0, (o.1.1, (y, (f, ap children e ∙ children_append x y ∙ ap (λ (l : List ℕ). l ++ children y) o.1.0))))

  no_more_children : {q : ℕ} {x : List OwnItem} → Fits w q nothing x → children x ≡ []
  no_more_children none = refl

  -- 28: one child
  unary_child : {q : ℕ} {K b : List ℕ} {x : List OwnItem} → Fits w q (both (one 1 K) (both (operand b) nothing)) x → T (every b) → OneChild x
  unary_child f h =
      let o = behind_operator f in
      let c = behind_operand o.1.0 h in
      (c.0, (o.1.1 ∙ c.1.1.1.1 ∙ ap (λ (k : List ℕ). c.0 ∷ k) (no_more_children c.1.1.1.0), c.1.0))

  -- 29: two
  abbrev TwoChildren : List OwnItem → Type 0
  TwoChildren x = (s : ℕ) × ((t : ℕ) × ((children x ≡ s ∷ (t ∷ [])) × (T (is_expression s) × T (is_expression t))))

  binary_children : {q : ℕ} {a K b : List ℕ} {x : List OwnItem} → Fits w q (both (operand a) (both (one 1 K) (both (operand b) nothing))) x → T (every a) → T (every b) → TwoChildren x
  binary_children f h k =
      let c = behind_operand f h in
      let o = behind_operator c.1.1.1.0 in
      let d = behind_operand o.1.0 k in
      (c.0, (d.0, (c.1.1.1.1 ∙ ap (λ (m : List ℕ). c.0 ∷ m) (o.1.1 ∙ d.1.1.1.1 ∙ ap (λ (m : List ℕ). d.0 ∷ m) (no_more_children d.1.1.1.0)), (c.1.0, d.1.0))))

  on_28 : {q : ℕ} {x : List OwnItem} → Fits w q (form_line 28) x → OneChild x
  on_28 (left f) = unary_child f tt
  on_28 (right f) = unary_child f tt

  on_29 : {q : ℕ} {x : List OwnItem} → Fits w q (form_line 29) x → TwoChildren x
  on_29 (left f) = binary_children f tt tt
  on_29 (right (left f)) = binary_children f tt tt
  on_29 (right (right (left f))) = binary_children f tt tt
  on_29 (right (right (right (left f)))) = binary_children f tt tt
  on_29 (right (right (right (right (left f))))) = binary_children f tt tt
  on_29 (right (right (right (right (right (left f)))))) = binary_children f tt tt
  on_29 (right (right (right (right (right (right (left f))))))) = binary_children f tt tt
  on_29 (right (right (right (right (right (right (right (left f)))))))) = binary_children f tt tt
  on_29 (right (right (right (right (right (right (right (right f)))))))) = binary_children f tt tt

  -- 4: the mark's row and one expression's
  on_4 : {q : ℕ} {x : List OwnItem} → Fits w q (form_line 4) x → (m : ℕ) × ((s : ℕ) × ((children x ≡ m ∷ (s ∷ [])) × T (is_expression s)))
  on_4 f =
      let a = behind_element f in
      let b = behind_element a.1.0 in
      let c = behind_element b.1.0 in
      let m = behind_row c.1.0 in
      let d = behind_element m.1.1.1.0 in
      let s = behind_operand d.1.0 tt in
      let g = behind_element s.1.1.1.0 in
      (m.0, (s.0, (a.1.1 ∙ b.1.1 ∙ c.1.1 ∙ m.1.1.1.1 ∙ ap (λ (l : List ℕ). m.0 ∷ l) (d.1.1 ∙ s.1.1.1.1 ∙ ap (λ (l : List ℕ). s.0 ∷ l) (g.1.1 ∙ no_more_children g.1.0)), s.1.0)))

  -- 5: the mark's row, and perhaps a range's
  range_or_none : {q : ℕ} {x : List OwnItem} → Fits w q (both (opt (seq (symbol word_range ∷ rows (10 ∷ []) ∷ []))) (both (symbol semicolon) nothing)) x
      → (children x ≡ []) ⊎ ((s : ℕ) × ((children x ≡ s ∷ []) × (s ≡ sort 10 0)))
  range_or_none (then {x = x} {y = y} (left f) g e) =
      let a = behind_element f in
      let r = behind_row a.1.0 in
      let b = behind_element g in
      let c = a.1.1 ∙ r.1.1.1.1 ∙ ap (λ (l : List ℕ). r.0 ∷ l) (no_more_children r.1.1.1.0) in
      let d = b.1.1 ∙ no_more_children b.1.0 in
      inr (r.0, (ap children e ∙ children_append x y ∙ ap₂ (λ (k l : List ℕ). k ++ l) c d, eqb→eq r.0 (sort 10 0) (one_in_lem r.0 (sort 10 0) r.1.0)))
    where
      one_in_lem : (s t : ℕ) → T (is_in s (t ∷ [])) → T (eqb s t)
      one_in_lem s t h = ⊎_elim (λ a. a) (λ b. absurd b) (or_cases (eqb s t) false h)
  range_or_none (then {y = y} (right none) g e) = let b = behind_element g in inl (ap children e ∙ b.1.1 ∙ no_more_children b.1.0)

  on_5 : {q : ℕ} {x : List OwnItem} → Fits w q (form_line 5) x → (m : ℕ) × ((children x ≡ m ∷ []) ⊎ ((s : ℕ) × ((children x ≡ m ∷ (s ∷ [])) × (s ≡ sort 10 0))))
  on_5 f =
      let a = behind_element f in
      let b = behind_element a.1.0 in
      let c = behind_element b.1.0 in
      let m = behind_row c.1.0 in
      let t = a.1.1 ∙ b.1.1 ∙ c.1.1 ∙ m.1.1.1.1 in (
        m.0,
        ⊎_elim (λ n. inl (t ∙ ap (λ (l : List ℕ). m.0 ∷ l) n)) (λ s. inr (s.0, (t ∙ ap (λ (l : List ℕ). m.0 ∷ l) s.1.0, s.1.1))) (range_or_none m.1.1.1.0),
      )

  -- 10: the two bounds'
  on_10 : {q : ℕ} {x : List OwnItem} → Fits w q (form_line 10) x → TwoChildren x
  on_10 f =
      let c = behind_operand f tt in
      let o = behind_element c.1.1.1.0 in
      let d = behind_operand o.1.0 tt in
      (c.0, (d.0, (c.1.1.1.1 ∙ ap (λ (m : List ℕ). c.0 ∷ m) (o.1.1 ∙ d.1.1.1.1 ∙ ap (λ (m : List ℕ). d.0 ∷ m) (no_more_children d.1.1.1.0)), (c.1.0, d.1.0))))

  -- and to or downto between them
  among_right : (i : ℕ) (x y : List OwnItem) → IsAmong (at i) y → IsAmong (at i) (x ++ y)
  among_right i [] y h = h
  among_right i (z ∷ x) y h = inr (among_right i x y h)

  goes_by : (i : ℕ) (x : List OwnItem) → IsAmong (at i) x → T (eqb (get_or w i 0) (number_of word_to)) ⊎ T (eqb (get_or w i 0) (number_of word_downto) || false) → (down : Bool) × Goes w x down
  goes_by i x m (inl h) = (false, to i m (eqb→eq (get_or w i 0) (number_of word_to) h))
  goes_by i x m (inr h) =
      (true, downto i m (eqb→eq (get_or w i 0) (number_of word_downto) (⊎_elim (λ k. k) (λ k. absurd k) (or_cases (eqb (get_or w i 0) (number_of word_downto)) false h))))

  goes_10 : {q : ℕ} {x : List OwnItem} → Fits w q (form_line 10) x → (down : Bool) × Goes w x down
  goes_10 {x = x} (then {x = a} {y = b} f (then {y = c} (this {x = at i} u v) g d) h) =
      goes_by i x (subst (IsAmong (at i)) (sym h) (among_right i a b (subst (IsAmong (at i)) (sym d) (inl refl))))
      (or_cases (eqb (get_or w i 0) (number_of word_to)) (eqb (get_or w i 0) (number_of word_downto) || false) v)
  goes_10 (then f (then (this {x = row s} u v) g d) h) = absurd u

  -- ---- the rows after a row

  take_none : (n : ℕ) → [] ≡ take {A = Row} n []
  take_none zero = refl
  take_none (suc n) = refl

  dropped : (k m : ℕ) (l : List Row) → drop k (take m l) ≡ take (m - k) (drop k l)
  dropped zero m l = let z : m - 0 ≡ m = omega arith in ap (λ (n : ℕ). take n l) (sym z)
  dropped (suc k) zero [] = take_none (0 - suc k)
  dropped (suc k) zero (r ∷ l) = let z : 0 - suc k ≡ 0 = omega arith in ap (λ (n : ℕ). take n (drop k l)) (sym z)
  dropped (suc k) (suc m) [] = take_none (suc m - suc k)
  dropped (suc k) (suc m) (r ∷ l) = let z : suc m - suc k ≡ m - k = omega arith in dropped k m l ∙ ap (λ (n : ℕ). take n (drop k l)) (sym z)

  -- the first child among the first n rows, and what is left after it
  pub record First (n hi : ℕ) (rs : List Row) (s : ℕ) (t : List ℕ) : Type 0 where
    pub one : Row
    pub others : List Row
    pub lo : ℕ
    pub is : rs ≡ one ∷ others
    pub sorted : sort_of w one ≡ s
    pub left : t ≡ children (items_in w 0 lo hi (take (n - 1 - (one.rows - 1)) (drop (one.rows - 1) others)))

  first_of_lem : (n lo hi : ℕ) (rs : List Row) (s : ℕ) (t : List ℕ) → children (items_in w 0 lo hi (take n rs)) ≡ s ∷ t → First n hi rs s t
  first_of_lem zero lo hi rs s t e = let x = sym (children_elements lo (hi - lo)) in let z : ◌≡◌ {A = ℕ} 0 1 = cc in clash z
  first_of_lem (suc n) lo hi [] s t e = let x = sym (children_elements lo (hi - lo)) in let z : ◌≡◌ {A = ℕ} 0 1 = cc in clash z
  first_of_lem (suc n) lo hi (r ∷ rs) s t e =
      let c = sym (children_first lo hi r (take n rs)) ∙ e in
      let z : suc n - 1 ≡ n = omega arith in
      record {
        one = r;
        others = rs;
        lo = r.first + r.count;
        is = refl;
        sorted = cc;
        left =
            let y : t ≡ children (items_in w 0 (r.first + r.count) hi (drop (r.rows - 1) (take n rs))) = cc in
            y ∙ ap (λ (l : List Row). children (items_in w 0 (r.first + r.count) hi l)) (dropped (r.rows - 1) n rs ∙ ap (λ (m : ℕ). take (m - (r.rows - 1)) (drop (r.rows - 1) rs)) (sym z));
      }

  none_of_lem : (n lo hi : ℕ) (rs : List Row) → [] ≡ children (items_in w 0 lo hi (take n rs)) → length rs ≤ n → rs ≡ []
  none_of_lem n lo hi [] e h = refl
  none_of_lem zero lo hi (r ∷ rs) e h = absurd (omega arith)
  none_of_lem (suc n) lo hi (r ∷ rs) e h = let x = children_first lo hi r (take n rs) in let z : ◌≡◌ {A = ℕ} 0 1 = cc in clash z

  rows_fit_drop : (k : ℕ) (l : List Row) → RowsFit w l → RowsFit w (drop k l)
  rows_fit_drop zero l h = h
  rows_fit_drop (suc k) [] h = tt
  rows_fit_drop (suc k) (r ∷ l) h = rows_fit_drop k l h.2

  rows_fit_behind : (l : List Row) → RowsFit w l → RowsFit w (behind l)
  rows_fit_behind [] h = h
  rows_fit_behind (r ∷ l) h = rows_fit_drop r.rows (r ∷ l) h

  -- the first row is an expression's
  abbrev Headed : List Row → Type 0
  Headed [] = ⊥
  Headed (r ∷ rs) = T (is_expression (sort_of w r))

  headed_first : (rs : List Row) (r : Row) (l : List Row) (s : ℕ) → rs ≡ r ∷ l → sort_of w r ≡ s → T (is_expression s) → Headed rs
  headed_first rs r l s e q h = subst Headed (sym e) (subst (λ (n : ℕ). T (is_expression n)) (sym q) h)

  headed_drop : (n : ℕ) (r : Row) (l : List Row) → T (is_expression (sort_of w r)) → Headed (drop (n - 1) l) → Headed (drop n (r ∷ l))
  headed_drop zero r l h k = h
  headed_drop (suc n) r l h k = let z : suc n - 1 ≡ n = omega arith in subst (λ (m : ℕ). Headed (drop m l)) z k

  headed_behind : (rs : List Row) (r : Row) (l : List Row) → rs ≡ r ∷ l → T (is_expression (sort_of w r)) → Headed (drop (r.rows - 1) l) → Headed (behind rs)
  headed_behind rs r l e h k = subst (λ (x : List Row). Headed (behind x)) (sym e) (headed_drop r.rows r l h k)

  -- two expressions stand after a row with two children
  two_behind : (n lo hi : ℕ) (rs : List Row) → TwoChildren (items_in w 0 lo hi (take n rs)) → Headed rs × Headed (behind rs)
  two_behind n lo hi rs c =
      let a = first_of_lem n lo hi rs c.0 (c.1.0 ∷ []) c.1.1.0 in
      let b = first_of_lem (n - 1 - (a.one.rows - 1)) a.lo hi (drop (a.one.rows - 1) a.others) c.1.0 [] (sym a.left) in
      let h = subst (λ (m : ℕ). T (is_expression m)) (sym a.sorted) c.1.1.1.0 in (
        headed_first rs a.one a.others c.0 a.is a.sorted c.1.1.1.0,
        headed_behind rs a.one a.others a.is h (headed_first (drop (a.one.rows - 1) a.others) b.one b.others c.1.0 b.is b.sorted c.1.1.1.1),
      )

  one_behind : (n lo hi : ℕ) (rs : List Row) → OneChild (items_in w 0 lo hi (take n rs)) → Headed rs
  one_behind n lo hi rs c = let a = first_of_lem n lo hi rs c.0 [] c.1.0 in headed_first rs a.one a.others c.0 a.is a.sorted c.1.1

  -- ---- an expression

  module _ (small : (i : ℕ) → get_or w i 0 < 128) where
    telling_small : (r : Row) → telling w r < 128
    telling_small r = go (operates r.form) (is_branch r.form)
      where
        go : (a b : Bool) → cond a (get_or w r.operator 0) (cond b (get_or w r.first 0) 0) < 128
        go true b = small r.operator
        go false true = small r.first
        go false false = omega arith

    -- the form of a row of such a sort
    form_between : (r : Row) → T (is_expression (sort_of w r)) → (24 ≤ r.form) × (r.form ≤ 29)
    form_between r h =
        let a = leb→le (24 * 128) (sort_of w r) (and_left (leb (24 * 128) (sort_of w r)) (ltb (sort_of w r) (30 * 128)) h) in
        let b = ltb-true (sort_of w r) (30 * 128) (is_true (ltb (sort_of w r) (30 * 128)) (and_right (leb (24 * 128) (sort_of w r)) (ltb (sort_of w r) (30 * 128)) h)) in
        let c = telling_small r in
        (omega arith, omega arith)

    abbrev SixForms : ℕ → Type 0
    SixForms n = (n ≡ 24) ⊎ ((n ≡ 25) ⊎ ((n ≡ 26) ⊎ ((n ≡ 27) ⊎ ((n ≡ 28) ⊎ (n ≡ 29)))))

    six_forms : (n : ℕ) → 24 ≤ n → n ≤ 29 → SixForms n
    six_forms n a b = go (eqb n 24) (eqb n 25) (eqb n 26) (eqb n 27) (eqb n 28) refl refl refl refl refl
      where
        go : (c d e f g : Bool) → eqb n 24 ≡ c → eqb n 25 ≡ d → eqb n 26 ≡ e → eqb n 27 ≡ f → eqb n 28 ≡ g → SixForms n
        go true d e f g i j k l m = inl (eqb-true n 24 i)
        go false true e f g i j k l m = inr (inl (eqb-true n 25 j))
        go false false true f g i j k l m = inr (inr (inl (eqb-true n 26 k)))
        go false false false true g i j k l m = inr (inr (inr (inl (eqb-true n 27 l))))
        go false false false false true i j k l m = inr (inr (inr (inr (inl (eqb-true n 28 m)))))
        go false false false false false i j k l m =
            let x = eqb-false n 24 i in
            let y = eqb-false n 25 j in
            let z = eqb-false n 26 k in
            let u = eqb-false n 27 l in
            let v = eqb-false n 28 m in
            inr (inr (inr (inr (inr (omega arith)))))

    abbrev Some : Piece → List Row → Type 0
    Some p rs = (x : Expression) × Is p rs x

    by_form : (p : Piece) (r : Row) (rs : List Row) → SixForms r.form → Fits w (operator_at r) (form_line r.form) (own_items w r rs)
        → ((Headed rs) → Some p rs) → ((Headed (behind rs)) → Some p (behind rs)) → Some p (r ∷ rs)
    by_form p r rs (inl e) f g h = (name (worded.at p r.first), is_name e)
    by_form p r rs (inr (inl e)) f g h = (unfolded, is_called e)
    by_form p r rs (inr (inr (inl e))) f g h = (unfolded, is_attribute e)
    by_form p r rs (inr (inr (inr (inl e)))) f g h = (literal (worded.at p r.first), is_literal e)
    by_form p r rs (inr (inr (inr (inr (inl e))))) f g h =
        let c = on_28 (subst (λ (n : ℕ). Fits w (operator_at r) (form_line n) (own_items w r rs)) e f) in
        let x = g (one_behind (r.rows - 1) r.first (r.first + r.count) rs c) in
        (unary _ x.0, is_unary e refl x.1)
    by_form p r rs (inr (inr (inr (inr (inr e))))) f g h =
        let c = on_29 (subst (λ (n : ℕ). Fits w (operator_at r) (form_line n) (own_items w r rs)) e f) in
        let b = two_behind (r.rows - 1) r.first (r.first + r.count) rs c in
        let x = g b.0 in
        let y = h b.1 in
        (binary _ x.0 y.0, is_binary e refl x.1 y.1)

    is_expression_lem : (p : Piece) (f : ℕ) (rs : List Row) → length rs ≤ f → RowsFit w rs → Headed rs → Some p rs
    is_expression_lem p zero [] h t k = absurd k
    is_expression_lem p zero (r ∷ rs) h t k = absurd (omega arith)
    is_expression_lem p (suc f) [] h t k = absurd k
    is_expression_lem p (suc f) (r ∷ rs) h t k =
        let b = form_between r k in
        by_form p r rs (six_forms r.form b.0 b.1) t.1 (λ i. is_expression_lem p f rs (omega arith) t.2 i)
        (λ i. is_expression_lem p f (behind rs) (omega (arith, behind_less rs)) (rows_fit_behind rs t.2) i)

-- ---- items

terminals_small : (ks : List ℕ) (i : ℕ) → get_or (terminals_in ks) i 0 < 128
terminals_small [] zero = omega arith
terminals_small [] (suc i) = omega arith
terminals_small (k ∷ ks) zero = omega (arith, terminal_small k)
terminals_small (k ∷ ks) (suc i) = terminals_small ks i

module _ (p : Piece) where
  abbrev w : List ℕ
  w = terminals_in (kinds_in_piece p)

  abbrev smalls : (i : ℕ) → get_or w i 0 < 128
  smalls = terminals_small (kinds_in_piece p)

  -- what stands after the mark's row
  behind_mark : (m : List Row) (hi a : ℕ) (t : List ℕ) → children (items_in w 0 0 hi (take (length m + 2 - 1) (mark_row ∷ m))) ≡ a ∷ t
      → (lo : ℕ) × (t ≡ children (items_in w 0 lo hi (take (length m) m)))
  behind_mark m hi a t e =
      let z : length m + 2 - 1 ≡ suc (length m) = omega arith in
      let c = sym (children_first w 0 hi mark_row (take (length m) m)) ∙ subst (λ (n : ℕ). children (items_in w 0 0 hi (take n (mark_row ∷ m))) ≡ a ∷ t) z e in
      (4, cc)

  -- a constant that is read has its form
  pub constant_form : (s : State) → ItemReading form.constant unlike w s → (i : Item') × HasForm p i
  constant_form s r = by (begin_with_mark.0 unlike w s r) (constant_rows_fit unlike w s r).1
    where
      by : (m : List Row) × (state_rows s ≡ item_row 4 (length w) m ∷ (mark_row ∷ m)) → RowsFit w (state_rows s) → (i : Item') × HasForm p i
      by (m, symbol) t =
          let f = subst (RowsFit w) symbol t in
          let c = on_4 w f.1 in
          let a = behind_mark m (0 + length w) c.0 (c.1.0 ∷ []) c.1.1.0 in
          let x = is_expression_lem w smalls p (length m) m (omega arith) f.2.2 (one_behind w (length m) a.0 (0 + length w) m (c.1.0, (sym a.1, c.1.1.1))) in
          (constant _ x.0, is_constant ((constant_reading p _).1 (s, (r, symbol))) x.1)

  -- and so has a subtype
  ten : (r : Row) (s : ℕ) → sort_of w r ≡ s → s ≡ sort 10 0 → r.form ≡ 10
  ten r s e q = let h = telling_small w smalls r in let z = e ∙ q in omega arith

  ranged_form : (m : List Row) (s : State) (lo hi a : ℕ) → ItemReading form.subtype unlike w s → state_rows s ≡ item_row 5 (length w) m ∷ (mark_row ∷ m) → RowsFit w m
      → children (items_in w 0 lo hi (take (length m) m)) ≡ a ∷ [] → a ≡ sort 10 0 → (i : Item') × HasForm p i
  ranged_form m s lo hi a r e t c q =
      let o = first_of_lem w (length m) lo hi m a [] c in
      let u = subst (RowsFit w) o.is t in
      let f = subst (λ (n : ℕ). Fits w (operator_at o.one) (form_line n) (own_items w o.one o.others)) (ten o.one a o.sorted q) u.1 in
      let d = on_10 w f in
      let g = goes_10 w f in
      let b = two_behind w (o.one.rows - 1) o.one.first (o.one.first + o.one.count) o.others d in
      let x = is_expression_lem w smalls p (length o.others) o.others (omega arith) u.2 b.0 in
      let y = is_expression_lem w smalls p (length o.others) (behind o.others) (behind_less o.others) (rows_fit_behind w o.others u.2) b.1 in
      (ranged _ x.0 g.0 y.0, is_ranged ((subtype_reading p _).1 (s, (r, e ∙ ap (λ (l : List Row). item_row 5 (length w) m ∷ (mark_row ∷ l)) o.is))) (subst (λ (v : List ℕ). Goes v (own_items v o.one o.others) g.0) (sym (to_forms_lem p)) g.1) x.1 y.1)

  pub subtype_form : (s : State) → ItemReading form.subtype unlike w s → (i : Item') × HasForm p i
  subtype_form s r = by (begin_with_mark.1 unlike w s r) (subtype_rows_fit unlike w s r).1
    where
      by : (m : List Row) × (state_rows s ≡ item_row 5 (length w) m ∷ (mark_row ∷ m)) → RowsFit w (state_rows s) → (i : Item') × HasForm p i
      by (m, symbol) t = on (on_5 w f.1)
        where
          f : RowsFit w (item_row 5 (length w) m ∷ (mark_row ∷ m))
          f = subst (RowsFit w) symbol t

          on : (a : ℕ) × ((children (own_items w (item_row 5 (length w) m) (mark_row ∷ m)) ≡ a ∷ []) ⊎ ((b : ℕ) × ((children (own_items w (item_row 5 (length w) m) (mark_row ∷ m)) ≡ a ∷ (b ∷ [])) × (b ≡ sort 10 0))))
              → (i : Item') × HasForm p i
          on (a, inl c) =
              let d = behind_mark m (0 + length w) a [] c in
              let n = none_of_lem w (length m) d.0 (0 + length w) m d.1 (omega arith) in
              (subtype _, is_subtype ((subtype_reading p _).1 (s, (r, symbol ∙ ap (λ (l : List Row). item_row 5 (length w) m ∷ (mark_row ∷ l)) n))))
          on (a, inr (b, (c, q))) = let d = behind_mark m (0 + length w) a (b ∷ []) c in ranged_form m s d.0 (0 + length w) b r symbol f.2.2 (sym d.1) q

  -- a subtype's third row, where it has one, is its range's
  pub third_row : (s : State) → ItemReading form.subtype unlike w s → (item mark range : Row) (rs : List Row) → state_rows s ≡ item ∷ mark ∷ range ∷ rs → range.form ≡ 10
  third_row s r item mark range rs q = by (begin_with_mark.1 unlike w s r) (subtype_rows_fit unlike w s r).1
    where
      by : (m : List Row) × (state_rows s ≡ item_row 5 (length w) m ∷ (mark_row ∷ m)) → RowsFit w (state_rows s) → range.form ≡ 10
      by (m, symbol) t = on (on_5 w (subst (RowsFit w) symbol t).1)
        where
          third : m ≡ range ∷ rs
          third = cc

          on : (a : ℕ) × ((children (own_items w (item_row 5 (length w) m) (mark_row ∷ m)) ≡ a ∷ []) ⊎ ((b : ℕ) × ((children (own_items w (item_row 5 (length w) m) (mark_row ∷ m)) ≡ a ∷ (b ∷ [])) × (b ≡ sort 10 0))))
              → range.form ≡ 10
          on (a, inl c) =
              let d = behind_mark m (0 + length w) a [] c in
              let n = none_of_lem w (length m) d.0 (0 + length w) m d.1 (omega arith) in
              let y = third in
              let z : ◌≡◌ {A = ℕ} 0 1 = cc in
              clash z
          on (a, inr (b, (c, q))) =
              let d = behind_mark m (0 + length w) a (b ∷ []) c in
              let o = first_of_lem w (length m) d.0 (0 + length w) m b [] (sym d.1) in
              let i = o.is in
              let y = third in
              let z : o.one ≡ range = cc in
              ap (λ (x : Row). x.form) (sym z) ∙ ten o.one b o.sorted q
