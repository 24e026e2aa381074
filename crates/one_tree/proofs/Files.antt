-- What the rules read has a tree by the table: the rules are followed with no machine, each open frame being a stretch of elements and trees whose
-- items the rules' test of the forms (`Fit`) speaks of; where a row is put, the stretch becomes one tree. Assumes nothing.
use Prim.Native.Nat.{ℕ, zero, suc, ◌+◌, ◌-◌, ◌≤◌}
use mathlib.Core.Path.{◌≡◌, refl, sym, ◌∙◌, ap, ap₂, subst}
use mathlib.Core.Bool.{Bool, true, false, cond}
use mathlib.Core.List.{List, [], ◌∷◌, ◌++◌, append_assoc, append-nil}
use native.Mathlib.Omega.{arith}
use lib.Dec.{T}
use lib.ListN.{get_or, drop, length, take, length-append}
use Rattle.laws.proofs.Laws.{clash}
use Rattle.grammars.specs.code.Grammar.{Sym, nt, act, Gen, done, eat, skip, grow}
use Rattle.grammars.proofs.Check.{imp}
use Rattle.grammars.proofs.Room.{Nest, nest_grow, nest_other}
use Rattle.forms.specs.code.Rules.{forms, body}
use Rattle.forms.specs.Tree.{Row, EachRow, Forest}
use Rattle.forms.specs.Tree as forest
use Rattle.forms.specs.FormLines.{OwnItem, at, row, operates, is_branch, sort, Pattern, form_line, Fits, elements, sort_of, items_in, operator_at, RowsFit}
use Rattle.forms.proofs.Tests.{opening, closing, frames_nest}
use Rattle.forms.proofs.Growing.{forest_append, forest_le}
use Rattle.forms.proofs.Fitting.{take_all, take_less, behind_tree}
use Rattle.forms.proofs.Summaries.{positive, first_at, last_at, Around, kind_at, telling_at, RowOk, Fit, fit_grow}
use Rattle.one_tree.specs.Trees.{ElseFirst, Stands}
use Rattle.one_tree.proofs.Laying.{Nodes, end, leaf, tree}

each_append : (P : Row → Type 0) (l m : List Row) → EachRow P l → EachRow P m → EachRow P (l ++ m)
each_append P [] m a b = b
each_append P (r ∷ l) m a b = (a.0, each_append P l m a.1 b)

module _ (W : List ℕ) where
  fit_append : (l m : List Row) → RowsFit W l → RowsFit W m → RowsFit W (l ++ m)
  fit_append [] m a b = b
  fit_append (r ∷ l) m a b =
      let n = a.0 in (
        omega (arith, length-append l m),
        subst (λ (x : List Row). Fits W (operator_at r) (form_line r.form) (items_in W 0 r.first (r.first + r.count) x)) (sym (take_less (r.rows - 1) l m (omega arith))) a.1,
        fit_append l m a.2 b,
      )

  -- one element more in front
  lower : (lo hi : ℕ) (l : List Row) → Forest (suc lo) hi l → items_in W 0 lo hi l ≡ at lo ∷ items_in W 0 (suc lo) hi l
  lower lo hi l (forest.Forest.bare h) = let z : hi - lo ≡ suc (hi - suc lo) = omega arith in ap (elements lo) z
  lower lo hi l (forest.Forest.tree {r = r} {rest = m} a f d g j) =
      let z : r.first - lo ≡ suc (r.first - suc lo) = omega arith in
      ap (λ (c : ℕ). elements lo c ++ (row (sort_of W r) ∷ items_in W (r.rows - 1) (r.first + r.count) hi m)) z

  -- what elements and trees one after the other are: rows that tile and fit, with these items
  record Stretch (lo hi : ℕ) (l : List Row) (x : List OwnItem) : Type 0 where
    within : Forest lo hi l
    fits : RowsFit W l
    columns : EachRow ElseFirst l
    items : items_in W 0 lo hi l ≡ x

  stretch : {lo hi : ℕ} {l : List Row} {x : List OwnItem} → Nodes W lo hi l x → Stretch lo hi l x
  stretch (end {lo = lo} {hi = hi} u) =
      let z : hi - lo ≡ 0 = omega arith in
      record { within = forest.Forest.bare {lo = lo} {hi = hi} (omega arith); fits = tt; columns = tt; items = ap (elements lo) z }
  stretch (leaf {lo = lo} {hi = hi} {l = l} u n) =
      let s = stretch n in
      record {
        within = forest_append (forest.Forest.bare {lo = lo} {hi = suc lo} (omega arith)) s.within;
        fits = s.fits;
        columns = s.columns;
        items = lower lo hi l s.within ∙ ap (λ (y : List OwnItem). at lo ∷ y) s.items;
      }
  stretch (tree {lo = lo} {mid = mid} {hi = hi} {r = r} {inside = i} {after = a} {rest = l} c n j) =
      let s = stretch n in
      let e₁ = c.first in
      let e₂ = c.size in
      let stop : ℕ = r.first + r.count in
      let z : r.first - lo ≡ 0 = omega arith in
      let m : r.rows - 1 ≡ length i = omega arith in
      let behind : Forest stop hi a = subst (λ (k : ℕ). Forest k hi a) (sym c.end) s.within in
      let taken : take (r.rows - 1) l ≡ i = ap (take (r.rows - 1)) (sym j) ∙ ap (λ (k : ℕ). take k (i ++ a)) m ∙ take_less (length i) i a (omega arith) ∙ take_all i in
      let size : length i + length a ≡ length l = sym (length-append i a) ∙ ap length j in
      record {
        within = forest.Forest.tree {lo = lo} {r = r} (omega arith) (subst (λ (k : ℕ). Forest k stop i) (sym c.first) (subst (λ (k : ℕ). Forest lo k i) (sym c.end) c.within)) c.size behind j;
        fits = (
          omega arith,
          subst (λ (y : List OwnItem). Fits W (operator_at r) (form_line r.form) y)
              (ap₂ (λ (u v : ℕ). items_in W 0 u v i) (sym c.first) (sym c.end) ∙ ap (items_in W 0 r.first stop) (sym taken)) c.own,
          subst (RowsFit W) j (fit_append i a c.fits s.fits),
        );
        columns = (c.column, subst (EachRow ElseFirst) j (each_append ElseFirst i a c.columns s.columns));
        items =
            ap (λ (k : ℕ). elements lo k ++ (row (sort_of W r) ∷ items_in W (r.rows - 1) stop hi l)) z
            ∙ ap (λ (y : List OwnItem). row (sort_of W r) ∷ y) (behind_tree W r i a l stop hi c.size j ∙ ap (λ (k : ℕ). items_in W 0 k hi a) c.end ∙ s.items);
      }

  joined : {lo mid hi : ℕ} {l m : List Row} {x y : List OwnItem} → Nodes W lo mid l x → Nodes W mid hi m y → Nodes W lo hi (l ++ m) (x ++ y)
  joined {hi = hi} {m = m} {y = y} (end u) n = subst (λ (k : ℕ). Nodes W k hi m y) (sym u) n
  joined (leaf u n) k = leaf u (joined n k)
  joined {m = m} (tree {inside = i} {after = a} c n j) k = tree c (joined n k) (sym (append_assoc i a m) ∙ ap (λ (z : List Row). z ++ m) j)

  first_at_lem : {lo hi : ℕ} {l : List Row} {x : List OwnItem} → Nodes W lo hi l x → T (positive (first_at x)) → first_at x ≡ suc lo
  first_at_lem (end u) h = absurd h
  first_at_lem (leaf u n) h = refl
  first_at_lem (tree c n j) h = absurd h

  -- a row over all of a stretch
  abbrev row_for : (f q lo hi : ℕ) → List Row → Row
  row_for f q lo hi l = record { form = f; first = lo; count = hi - lo; rows = length l + 1; operator = cond (operates f) (q - 1) lo }

  module _ (f q lo hi : ℕ) (l : List Row) (x : List OwnItem) (n : Nodes W lo hi l x) (ok : RowOk W f q x) (bound : hi ≤ length W) where
    marked : (i : ℕ) → T (positive i) → suc (i - 1) ≡ i
    marked zero h = absurd h
    marked (suc i) h = omega arith

    kind_is : (i : ℕ) → T (positive i) → get_or W (i - 1) 0 ≡ kind_at W i
    kind_is zero h = absurd h
    kind_is (suc i) h = let z : suc i - 1 ≡ i = omega arith in ap (λ (k : ℕ). get_or W k 0) z

    sort_is : sort_of W (row_for f q lo hi l) ≡ sort f (telling_at W (operates f) (is_branch f) q x)
    sort_is = ap (sort f) (by (operates f) (is_branch f) ok.0 ok.1.0)
      where
        by : (o c : Bool) → T (imp o (positive q)) → T (cond o true (imp c (positive (first_at x)))) → cond o (get_or W (cond o (q - 1) lo) 0) (cond c (get_or W lo 0) 0) ≡ telling_at W o c q x
        by true c h k = kind_is q h
        by false true h k = ap (kind_at W) (sym (first_at_lem n k))
        by false false h k = refl

    column_is : ElseFirst (row_for f q lo hi l)
    column_is = by (operates f)
      where
        by : (o : Bool) → cond o (Unit {0}) (cond o (q - 1) lo ≡ lo)
        by true = tt
        by false = refl

    operator_is : operator_at (row_for f q lo hi l) ≡ cond (operates f) q 0
    operator_is = by (operates f) ok.0
      where
        by : (o : Bool) → T (imp o (positive q)) → cond o (suc (cond o (q - 1) lo)) 0 ≡ cond o q 0
        by true h = marked q h
        by false h = refl

    over : Nodes W lo hi (row_for f q lo hi l ∷ l) (row (sort f (telling_at W (operates f) (is_branch f) q x)) ∷ [])
    over =
        let s = stretch n in
        let le = forest_le s.within in
        subst (λ (k : ℕ). Nodes W lo hi (row_for f q lo hi l ∷ l) (row k ∷ [])) sort_is
        (tree {mid = hi} {r = row_for f q lo hi l} {inside = l} {after = []}
        (record {
          first = refl;
          end = omega arith;
          size = refl;
          column = column_is;
          columns = s.columns;
          within = s.within;
          fits = s.fits;
          own = subst (λ (k : ℕ). Fits W k (form_line f) (items_in W 0 lo hi l)) (sym operator_is) (subst (Fits W (cond (operates f) q 0) (form_line f)) (sym s.items) ok.1.1);
          bound = bound;
        })
        (end refl) (append-nil l))

  -- the stretches of the frames that are open, the innermost up to hi, each up to where the one inside it begins
  abbrev Opened : ℕ → List OwnItem → Around → Type 0
  Opened hi x [] = (l : List Row) × Nodes W 0 hi l x
  Opened hi x (g ∷ F) = (lo : ℕ) × ((l : List Row) × (Nodes W lo hi l x × Opened lo g.0 F))

  changed : (hi hi' : ℕ) (x x' : List OwnItem) (F : Around) → ((lo : ℕ) (l : List Row) → Nodes W lo hi l x → (l' : List Row) × Nodes W lo hi' l' x') → Opened hi x F → Opened hi' x' F
  changed hi hi' x x' [] h o = h 0 o.0 o.1
  changed hi hi' x x' (g ∷ F) h o = let m = h o.0 o.1.0 o.1.1.0 in (o.0, (m.0, (m.1, o.1.1.1)))

  -- what is left of the elements when k were read
  next : (l : List ℕ) (k a : ℕ) (w : List ℕ) → drop k l ≡ a ∷ w → (get_or l k 0 ≡ a) × (drop (suc k) l ≡ w)
  next [] zero a w e = let z : ◌≡◌ {A = ℕ} 0 1 = cc in clash z
  next [] (suc k) a w e = let z : ◌≡◌ {A = ℕ} 0 1 = cc in clash z
  next (y ∷ l) zero a w e = (cc, cc)
  next (y ∷ l) (suc k) a w e = next l k a w e

  module _ (End : List OwnItem → Type 0) where
    record Ended : Type 0 where
      items : List OwnItem
      ends : End items
      rows : List Row
      nodes : Nodes W 0 (length W) rows items

    abbrev Nests : Around → List Sym → Type 0
    Nests F α = Nest opening closing 0 (length F) α

    acted : (a k : ℕ) (α : List Sym) (x : List OwnItem) (q : ℕ) (F : Around) → k ≤ length W → Opened k x F → Fit W End x q F (act a ∷ α) → Nests F (act a ∷ α)
        → ((y : List OwnItem) (i : ℕ) (G : Around) → Opened k y G → Fit W End y i G α → Nests G α → Ended) → Ended
    acted zero k α x q F l o f n go = go [] 0 ((x, q) ∷ F) (k, ([], (end refl, o))) f n
    acted (suc zero) k α x q [] l o f n go = absurd f
    acted (suc zero) k α x q (g ∷ F) l o f n go =
        let z : suc (length F) - 1 ≡ length F = omega arith in
        go (g.0 ++ x) g.1 F (changed o.0 k g.0 (g.0 ++ x) F (λ lo m y. (m ++ o.1.0, joined y o.1.1.0)) o.1.1.1) f
        (subst (λ (i : ℕ). Nest opening closing 0 i α) z n.1)
    acted (suc (suc zero)) k α x q F l o f n go = go x (last_at x) F o f.1 n
    acted (suc (suc (suc zero))) k α x q F l o f n go = go x q F o f n
    acted (suc (suc (suc (suc zero)))) k α x q F l o f n go = go x q F o f n
    acted (suc (suc (suc (suc (suc zero))))) k α x q F l o f n go = go x q F o f n
    acted (suc (suc (suc (suc (suc (suc zero)))))) k α x q F l o f n go = go x q F o f n
    acted (suc (suc (suc (suc (suc (suc (suc i))))))) k α x q F l o f n go =
        go (row (sort i (telling_at W (operates i) (is_branch i) q x)) ∷ []) q F
        (changed k k x (row (sort i (telling_at W (operates i) (is_branch i) q x)) ∷ []) F (λ lo m y. (row_for i q lo k m ∷ m, over i q lo k m x y f.0 l)) o) f.1
        (nest_other opening closing 0 (length F) (suc (suc (suc (suc (suc (suc (suc i))))))) α (λ z. absurd (omega arith)) (λ z. absurd (omega arith)) n)

    run : {α : List Sym} {w : List ℕ} → Gen forms α w → (k : ℕ) (x : List OwnItem) (q : ℕ) (F : Around) → k + length w ≡ length W → drop k W ≡ w → Opened k x F → Fit W End x q F α → Nests F α → Ended
    run done k x q [] e d o f n =
        let z : k ≡ length W = omega arith in
        record { items = x; ends = f; rows = o.0; nodes = subst (λ (i : ℕ). Nodes W 0 i o.0 x) z o.1 }
    run done k x q (g ∷ F) e d o f n = absurd (omega arith)
    run (eat {a = a} {w = w} g) k x q F e d o f n =
        let m = next W k a w d in
        run g (suc k) (x ++ (at k ∷ [])) q F (omega arith) m.1 (changed k (suc k) x (x ++ (at k ∷ [])) F (λ lo l y. (l ++ [], joined y (leaf (omega arith) (end refl)))) o) (f k m.0) n
    run (skip {a = a} {α = α} g) k x q F e d o f n = acted a k α x q F (omega arith) o f n (λ y i G p h m. run g k y i G e d p h m)
    run (grow {n = m} {α = α} p l u g) k x q F e d o f n =
        run g k x q F e d o (fit_grow W End p l m u x q F α f) (nest_grow opening closing 0 (length F) (body p) α (frames_nest p l) n)

-- from a name whose summary is the pattern
pub has_tree : (m : ℕ) (p : Pattern) → ((w : List ℕ) → Fit w (Fits w 0 p) [] 0 [] (nt m ∷ [])) → (w : List ℕ) → Gen forms (nt m ∷ []) w → (l : List Row) × Stands p w l
has_tree m p starts w g =
    let h = run w (Fits w 0 p) g 0 [] 0 [] (omega arith) refl ([], end refl) (starts w) refl in
    let s = stretch w h.nodes in
    (h.rows, (s.within, s.columns, (subst (Fits w 0 p) (sym s.items) h.ends, s.fits)))
