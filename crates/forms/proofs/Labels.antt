-- Every label leads the statement whose row stands right before its own: in no line of the table does a label stand but first, and none
-- among a file's units. Assumes nothing.
use Prim.Native.Nat.{ℕ, zero, suc, ◌+◌, ◌-◌, ◌≤◌}
use mathlib.Core.Path.{◌≡◌, refl, sym, ◌∙◌, ap, subst}
use mathlib.Core.Bool.{Bool, true, false, not, ◌&&◌}
use mathlib.Core.List.{List, [], ◌∷◌, ◌++◌, append_assoc, append-nil}
use native.Mathlib.Omega.{arith}
use lib.Dec.{T}
use lib.ListN.{length, get_or, take}
use Rattle.grammars.proofs.Theory.{and_left, and_right}
use Rattle.forms.specs.Tree.{Row, Forest, bare, tree}
use Rattle.forms.specs.code.RuleActions.{State, state_rows, Reading}
use Rattle.forms.specs.Spellings.{is_in}
use Rattle.forms.specs.FormLines.{OwnItem, at, row, sort, Pattern, nothing, one, operand, both, either, many, lines, Fits, none, this, inside, then, left, right, no_more, more, elements, sort_of, items_in, operator_at, RowsFit}
use Rattle.forms.specs.FormLines as pattern
use Rattle.form_numbers.specs.Statements as form
use Rattle.forms.specs.Labels.{Leads, EachLeads, LabelsLead}
use Rattle.forms.proofs.Growing.{rows_forest}
use Rattle.forms.proofs.Fitting.{take_less, take_all, behind_tree, rows_fit}

abbrev labels : ℕ
labels = sort form.label 0

-- none of the items is a label; none but the first is
abbrev NoLabel : List OwnItem → Type 0
NoLabel [] = Unit {0}
NoLabel (at i ∷ x) = NoLabel x
NoLabel (row s ∷ x) = (s ≡ labels → ⊥) × NoLabel x

abbrev FirstOnly : List OwnItem → Type 0
FirstOnly [] = Unit {0}
FirstOnly (i ∷ x) = NoLabel x

-- the patterns of such items
abbrev free : Pattern → Bool
free nothing = true
free (one t K) = not (is_in labels K)
free (operand S) = not (is_in labels S)
free (both a b) = free a && free b
free (either a b) = free a && free b
free (many a) = free a

abbrev led : Pattern → Bool
led nothing = true
led (one t K) = true
led (operand S) = not (is_in labels S)
led (both a b) = led a && free b
led (either a b) = led a && led b
led (many a) = free a

no_append : (x y : List OwnItem) → NoLabel x → NoLabel y → NoLabel (x ++ y)
no_append [] y a b = b
no_append (at i ∷ x) y a b = no_append x y a b
no_append (row s ∷ x) y a b = (a.0, no_append x y a.1 b)

no_behind : (x y : List OwnItem) → NoLabel (x ++ y) → NoLabel y
no_behind [] y h = h
no_behind (at i ∷ x) y h = no_behind x y h
no_behind (row s ∷ x) y h = no_behind x y h.1

first_no : (x : List OwnItem) → NoLabel x → FirstOnly x
first_no [] h = tt
first_no (at i ∷ x) h = h
first_no (row s ∷ x) h = h.1

first_append : (x y : List OwnItem) → FirstOnly x → NoLabel y → FirstOnly (x ++ y)
first_append [] y a b = first_no y b
first_append (i ∷ x) y a b = no_append x y a b

-- a sort that is in the list is not the label's
other : (s : ℕ) (S : List ℕ) → T (is_in s S) → T (not (is_in labels S)) → s ≡ labels → ⊥
other s S a b e = by (is_in labels S) (subst (λ (x : ℕ). T (is_in x S)) e a) b
  where
    by : (t : Bool) → T t → T (not t) → ⊥
    by true a b = b
    by false a b = a

no_label : (w : List ℕ) (q : ℕ) {p : Pattern} {x : List OwnItem} → Fits w q p x → T (free p) → NoLabel x
no_label w q none h = tt
no_label w q (this {x = at i} a m) h = tt
no_label w q (this {K = K} {x = row s} a m) h = (other s K m h, tt)
no_label w q (pattern.bare {S = S} {s = s} m) h = (other s S m h, tt)
no_label w q (inside {x = y} i j a f b d) h = subst NoLabel (sym d) (no_append y (at j ∷ []) (no_label w q f tt) tt)
no_label w q (then {a = a} {b = b} {x = y} {y = z} f g d) h =
    subst NoLabel (sym d) (no_append y z (no_label w q f (and_left (free a) (free b) h)) (no_label w q g (and_right (free a) (free b) h)))
no_label w q (left {a = a} {b = b} f) h = no_label w q f (and_left (free a) (free b) h)
no_label w q (right {a = a} {b = b} f) h = no_label w q f (and_right (free a) (free b) h)
no_label w q no_more h = tt
no_label w q (more {x = y} {y = z} f g d) h = subst NoLabel (sym d) (no_append y z (no_label w q f h) (no_label w q g h))

first_only : (w : List ℕ) (q : ℕ) {p : Pattern} {x : List OwnItem} → Fits w q p x → T (led p) → FirstOnly x
first_only w q none h = tt
first_only w q (this a m) h = tt
first_only w q (pattern.bare m) h = tt
first_only w q (inside {x = y} i j a f b d) h = subst FirstOnly (sym d) (no_append y (at j ∷ []) (no_label w q f tt) tt)
first_only w q (then {a = a} {b = b} {x = y} {y = z} f g d) h =
    subst FirstOnly (sym d) (first_append y z (first_only w q f (and_left (led a) (free b) h)) (no_label w q g (and_right (led a) (free b) h)))
first_only w q (left {a = a} {b = b} f) h = first_only w q f (and_left (led a) (led b) h)
first_only w q (right {a = a} {b = b} f) h = first_only w q f (and_right (led a) (led b) h)
first_only w q no_more h = tt
first_only w q (more {x = y} {y = z} f g d) h = subst FirstOnly (sym d) (first_no (y ++ z) (no_append y z (no_label w q f h) (no_label w q g h)))

-- the test: in every line a label stands first or not at all
abbrev all_led : List Pattern → Bool
all_led [] = true
all_led (p ∷ l) = led p && all_led l

lines_led : (l : List Pattern) → T (all_led l) → (f : ℕ) → T (led (get_or l f (one 0 [])))
lines_led [] h f = tt
lines_led (p ∷ l) h zero = and_left (led p) (all_led l) h
lines_led (p ∷ l) h (suc f) = lines_led l (and_right (led p) (all_led l) h) f

each_append : (p : Row) (l m : List Row) → EachLeads p l → ((r : Row) → EachLeads r m) → EachLeads p (l ++ m)
each_append p [] m a b = b p
each_append p (r ∷ l) m a b = (a.0, each_append r l m a.1 b)

module _ (w : List ℕ) where
  sort_label : (r : Row) → r.form ≡ form.label → sort_of w r ≡ labels
  sort_label r e = rw e

  fit_behind : (l m : List Row) → RowsFit w (l ++ m) → RowsFit w m
  fit_behind [] m h = h
  fit_behind (r ∷ l) m h = fit_behind l m h.2

  -- what is known before the rows x from element lo on, whose items are i: no label is among them; or they are all that stands inside p
  abbrev Before : Bool → Row → ℕ → List Row → List OwnItem → Type 0
  Before false p lo x i = NoLabel i
  Before true p lo x i = FirstOnly i × (p.first ≡ lo) × (p.rows ≡ length x + 1)

  head : (b : Bool) (p r : Row) (lo : ℕ) (x : List Row) (X : List OwnItem) → lo ≤ r.first → Before b p lo (r ∷ x) (elements lo (r.first - lo) ++ (row (sort_of w r) ∷ X)) → (r.form ≡ form.label → Leads r p) × NoLabel X
  head false p r lo x X a h =
      let k = no_behind (elements lo (r.first - lo)) (row (sort_of w r) ∷ X) h in
      ((λ e. absurd (k.0 (sort_label r e))), k.1)
  head true p r lo x X a h = by (r.first - lo) refl h.0
    where
      by : (c : ℕ) → r.first - lo ≡ c → FirstOnly (elements lo c ++ (row (sort_of w r) ∷ X)) → (r.form ≡ form.label → Leads r p) × NoLabel X
      by zero d f = let u = h.1 in let v = h.2 in ((λ e. (omega arith, omega arith)), f)
      by (suc c) d f =
          let k = no_behind (elements (suc lo) c) (row (sort_of w r) ∷ X) f in
          ((λ e. absurd (k.0 (sort_label r e))), k.1)

  leads : (b : Bool) (p : Row) {lo hi : ℕ} {x : List Row} → Forest lo hi x → (z : List Row) → RowsFit w (x ++ z) → Before b p lo x (items_in w 0 lo hi x) → EachLeads p x
  leads b p (bare h) z f k = tt
  leads b p (tree {lo = lo} {hi = hi} {r = r} {inside = x} {after = y} {rest = l} a f e g j) z t k =
      let end : ℕ = r.first + r.count in
      let q = head b p r lo l (items_in w (r.rows - 1) end hi l) a k in
      let m : l ++ z ≡ x ++ (y ++ z) = ap (λ (u : List Row). u ++ z) (sym j) ∙ append_assoc x y z in
      let own : FirstOnly (items_in w 0 r.first end x) =
      subst (λ (u : List Row). FirstOnly (items_in w 0 r.first end u)) taken
      (first_only w (operator_at r) t.1 (lines_led lines tt r.form)) in
      let rest : RowsFit w (x ++ (y ++ z)) = subst (RowsFit w) m t.2 in
      (q.0, subst (EachLeads r) j (each_append r x y (leads true r f (y ++ z) rest (own, refl, e)) (λ o. leads false o g z (fit_behind x (y ++ z) rest) (subst NoLabel (behind_tree w r x y l end hi e j) q.1))))
    where
      taken : take (r.rows - 1) (l ++ z) ≡ x
      taken =
          let u : r.rows - 1 ≡ length x = omega arith in
          let m : l ++ z ≡ x ++ (y ++ z) = ap (λ (u : List Row). u ++ z) (sym j) ∙ append_assoc x y z in
          ap (λ (n : ℕ). take n (l ++ z)) u ∙ ap (take (length x)) m ∙ take_less (length x) x (y ++ z) (omega arith) ∙ take_all x

  -- the units, none of which is a label
  all_lead : (l : List Row) (hi : ℕ) → Forest 0 hi l → RowsFit w l → NoLabel (items_in w 0 0 hi l) → LabelsLead l
  all_lead [] hi f t k = tt
  all_lead (r ∷ l) hi f t k =
      let q = no_behind (elements 0 (r.first - 0)) (row (sort_of w r) ∷ items_in w (r.rows - 1) (r.first + r.count) hi l) k in
      let o = leads false r f [] (subst (RowsFit w) (sym (append-nil (r ∷ l))) t) k in
      ((λ e. q.0 (sort_label r e)), o.1)

pub labels_lead : (alike : ℕ → ℕ → Bool) (w : List ℕ) (s : State) → Reading alike w s → LabelsLead (state_rows s)
labels_lead alike w s r =
    let t = rows_fit alike w s r in
    all_lead w (state_rows s) (length w) (rows_forest alike w s r) t.1 (no_label w 0 t.0 tt)
