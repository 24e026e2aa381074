-- The table determines the tree: every tree by the table is a free reading's, and there is one of those, as the rules are LL(1); what the rules
-- read has a tree; so what is read is that tree. Assumes nothing.
use Prim.Native.Nat.{ℕ, zero, suc, ◌<◌}
use mathlib.Core.Path.{◌≡◌, refl, sym, ◌∙◌, ap, subst}
use mathlib.Core.Logic.{◌⊎◌, inl, inr}
use mathlib.Core.Bool.{true, false}
use mathlib.Core.List.{List, [], ◌∷◌, ◌++◌, append-nil}
use native.Mathlib.Omega.{arith}
use lib.Dec.{T, eqb, lit<}
use lib.ListN.{get_or, length, take, drop_of_length-le}
use borrow.Author.Tests.{eq-eqb}
use Rattle.grammars.specs.code.Grammar.{nt}
use Rattle.grammars.specs.code.Actions.{Reads, done, End, read, bad, stopped, spent}
use Rattle.grammars.proofs.Theory.{Fol, Mays, mem, or_left}
use Rattle.grammars.proofs.Acting as acting
use Rattle.forms.specs.code.Kinds.{number_of, left_paren, right_paren}
use Rattle.forms.specs.code.RuleNames.{name_count, name_number, file, constant, subtype}
use Rattle.forms.specs.code.Rules.{forms}
use Rattle.forms.specs.code.Picks.{predict}
use Rattle.forms.specs.Tree.{Row}
use Rattle.forms.specs.code.RuleActions.{State, Refusal, top, does, state_rows, Reading}
use Rattle.forms.specs.code.RuleActions as strict
use Rattle.forms.specs.code.Reading.{file_reading}
use Rattle.forms.specs.Spellings.{is_in}
use Rattle.forms.specs.FormLines.{Pattern, rows, an_expression, form_line, Fits, sort_of, operator_at}
use Rattle.forms.proofs.Tests.{tables, forms_ll}
use Rattle.forms.proofs.Meaning.{reads_files, no_file, always_answers}
use Rattle.forms.proofs.Summaries.{Fit}
use Rattle.one_tree.specs.Trees.{Stands}
use Rattle.one_tree.specs.Files.{IsTree}
use Rattle.one_tree.specs.code.Only.{TreeOf, FileTree, ConstantTree, SubtypeTree, OnlySuch, FilesHaveTrees, BeginAlike, ReadsTheTree, TreesAreRead}
use Rattle.one_tree.proofs.Free.{Frame, frame, free, Frees, bared, freed}
use Rattle.one_tree.proofs.Parts.{parts, within, covers, enough}
use Rattle.one_tree.proofs.Covers.{element, Holds, Parens, Lies, alone, covers_sound}
use Rattle.one_tree.proofs.Rows.{parens_hold, row_holds}
use Rattle.one_tree.proofs.Laying.{Child, nodes, lay}
use Rattle.one_tree.proofs.Files.{has_tree}

module _ (W : List ℕ) (t : List Frame) where
  is_in_one : (a b : ℕ) → a ≡ b → T (is_in a (b ∷ []))
  is_in_one a b d = or_left (eqb a b) false (subst T (sym (eq-eqb a b d)) tt)

  in_parens : (lo mid : ℕ) (l : List Row) → lo < length W → get_or W lo 0 ≡ number_of left_paren → Lies W t parts 0 an_expression (suc lo) mid l → mid < length W → get_or W mid 0 ≡ number_of right_paren
      → Parens W t parts lo (suc mid) l
  in_parens lo mid l a b f c d =
      parens_hold W t lo (suc mid) l
      (record {
        mid = suc lo;
        front = [];
        back = l;
        first = element refl refl a tt (is_in_one (get_or W lo 0) (number_of left_paren) b);
        last = record {
          mid = mid;
          front = l;
          back = [];
          first = f;
          last = alone W t parts 0 _ mid (suc mid) [] (element refl refl c tt (is_in_one (get_or W mid 0) (number_of right_paren) d));
          is = sym (append-nil l);
        };
        is = refl;
      })

  -- every tree is read by every part that claims its sort: by its number of rows
  trees_hold : (N lo hi : ℕ) (r : Row) (inside : List Row) → Child W lo hi r inside → length inside < N → Holds W t parts (sort_of W r) lo hi (r ∷ inside)
  trees_hold zero lo hi r inside c h = absurd (omega arith)
  trees_hold (suc N) lo hi r inside c h =
      row_holds W t r lo hi inside c.first c.end c.size c.column
      (lay W (Holds W t parts) (Parens W t parts) N (trees_hold N) in_parens (operator_at r) (form_line r.form) _ c.own (nodes W c.within c.bound c.fits c.columns) (omega arith))

abbrev rows_in : List Frame → List Row
rows_in [] = []
rows_in (f ∷ fs) = f.rows

top_rows : (s : State) → rows_in (bared s.frames) ≡ state_rows s
top_rows s = by s.frames
  where
    by : (fs : List strict.Frame) → rows_in (bared fs) ≡ (top fs).rows
    by [] = refl
    by (f ∷ fs) = refl

-- A name after which the text may end, the pattern that it reads, and that by its summary and its parts it reads just that.
module _ (m : ℕ) (p : Pattern) (known : m < name_count) (last : T (mem 0 (tables.follow m)))
    (starts : (w : List ℕ) → Fit w (Fits w 0 p) [] 0 [] (nt m ∷ [])) (covered : T (covers parts false 0 enough within true (p ∷ []) (nt m ∷ []) [] true)) where
  begun : Fol forms predict tables forms_ll (nt m ∷ [])
  begun = ((λ t h. at_end t h), known, tt)
    where
      at_end : (t : ℕ) → Mays forms predict tables forms_ll [] t → T (mem t (tables.follow m))
      at_end t (inl h) = absurd h
      at_end t (inr h) = subst (λ (x : ℕ). T (mem x (tables.follow m))) (sym h.1) last

  -- a tree is a free reading's
  freely : (W : List ℕ) (l : List Row) → Stands p W l → Frees W (frame 0 0 l ∷ []) (nt m ∷ []) 0 (frame 0 0 [] ∷ [])
  freely W l h =
      let t : List Frame = frame 0 0 l ∷ [] in
      let laid = lay W (Holds W t parts) (Parens W t parts) (length l) (trees_hold W t (length l)) (in_parens W t) 0 p _ h.2.0 (nodes W h.0 (omega arith) h.2.1 h.1) (omega arith) in
      covers_sound W t parts 0 false 0 0 0 (λ i d. absurd (omega arith)) (λ y. absurd y) enough within true (p ∷ []) (nt m ∷ []) [] true covered 0 (length W) l
      (alone W t parts 0 p 0 (length W) l laid) 0 0 [] [] [] tt (λ _. refl)
      (λ o e.
      subst (λ (w : List ℕ). Reads (List Frame) (Unit {0}) forms free [] (length W) (frame 0 o l ∷ []) w t) (sym (drop_of_length-le W {i = length W} (omega arith)))
      (subst (λ (i : ℕ). Reads (List Frame) (Unit {0}) forms free [] (length W) (frame 0 i l ∷ []) [] t) (sym (e tt)) done))

  one : (w : List ℕ) {a b : List Frame} → Reads (List Frame) (Unit {0}) forms free (nt m ∷ []) 0 (frame 0 0 [] ∷ []) w a → Reads (List Frame) (Unit {0}) forms free (nt m ∷ []) 0 (frame 0 0 [] ∷ []) w b
      → rows_in a ≡ rows_in b
  one w r r' = ap rows_in (acting.one forms predict free tables forms_ll begun r r')

  tree_of : TreeOf (nt m) (Stands p)
  tree_of = record {
    only_such = λ w l l' h h'. one w (freely w l h) (freely w l' h');
    read_exactly = λ w. (has_tree m p starts w, λ t. acting.kinds forms predict free (freely w t.0 t.1));
    reads_trees = λ alike w s r.
        let t = has_tree m p starts w (acting.kinds forms predict (does alike) r) in
        subst (Stands p w) (one w (freely w t.0 t.1) (freed alike r) ∙ top_rows s) t.1;
  }

pub file_tree : FileTree
file_tree = tree_of (name_number file) (form_line 0) (lit< tt) tt (λ w z f. f) tt

pub constant_tree : ConstantTree
constant_tree = tree_of (name_number constant) (rows (4 ∷ [])) (lit< tt) tt (λ w z f. f) tt

pub subtype_tree : SubtypeTree
subtype_tree = tree_of (name_number subtype) (rows (5 ∷ [])) (lit< tt) tt (λ w z f. f) tt

-- of a file
pub only_such : OnlySuch
only_such = file_tree.only_such

pub files_have_trees : FilesHaveTrees
files_have_trees = file_tree.read_exactly

pub reads_the_tree : ReadsTheTree
reads_the_tree alike w s l r =
    let h = file_tree.reads_trees alike w s r in
    ((λ t. only_such w l (state_rows s) t h), λ e. subst (IsTree w) (sym e) h)

pub begin_alike : BeginAlike
begin_alike w j = (
  (λ b. (b.0, (files_have_trees (take j w ++ b.0)).0 b.1)),
  λ b. (b.0, (files_have_trees (take j w ++ b.0)).1 b.1),
)

pub trees_are_read : TreesAreRead
trees_are_read alike w l h = by (file_reading alike w) refl
  where
    by : (o : End State Refusal) → file_reading alike w ≡ o → ((s : State) × (Reading alike w s × (state_rows s ≡ l))) ⊎ ((k : ℕ) × ((r : Refusal) × (file_reading alike w ≡ stopped k r)))
    by (read s) e = let r = (reads_files alike w s).0 e in inl (s, (r, sym ((reads_the_tree alike w s l r).0 h)))
    by (bad k) e = absurd (no_file alike w k e ((files_have_trees w).1 (l, h)))
    by (stopped k r) e = inr (k, (r, e))
    by spent e = absurd (always_answers alike w e)
