-- The promises of the strict reading, each by what is proved of the machine and of any LL(1) grammar. Assumes nothing.
use Rattle.std.specs.Prelude.{Ok, Err}
use Prim.Native.Nat.{ℕ, zero, suc, ◌*◌, ◌-◌, ◌/◌, ◌≤◌, ◌<◌}
use mathlib.Core.Path.{◌≡◌, refl, sym, ◌∙◌, ap, subst}
use mathlib.Core.Bool.{Bool, true, false, cond}
use mathlib.Core.List.{List, ◌++◌}
use native.Mathlib.Omega.{arith}
use lib.Dec.{leb}
use lib.ListN.{length, replicate}
use borrow.Author.Tests.{le-leb, lt-leb, leb-true, leb-false}
use Rattle.laws.proofs.Laws.{clash}
use Rattle.grammars.specs.code.Actions.{End, read, bad, stopped, spent}
use Rattle.same_names.specs.Alike.{same_name}
use Rattle.forms.specs.code.RuleActions.{State, Refusal, name_differs, too_deep, state_rows}
use Rattle.forms.specs.Files.{Tiled}
use Rattle.forms.specs.Owners.{LeavesAre}
use Rattle.forms.proofs.Meaning as meaning
use Rattle.forms.proofs.Opening as opening
use Rattle.forms.proofs.OwnOperators.{operators_right}
use Rattle.forms.proofs.Fitting.{rows_fit}
use Rattle.forms.proofs.Owners.{all_owned, owned_once}
use Rattle.forms.specs.Open.{open_after, open_from}
use Rattle.forms.proofs.Closing as closing
use Rattle.forms.proofs.Tiling.{rows_tiled}
use Rattle.forms.proofs.Leaves.{leaves_are}
use Rattle.forms.proofs.Labels.{labels_lead}
use Rattle.tree.specs.code.Answers.{reading_in, tree_answer_of, tree_table_of, no_file_answer, name_differs_answer, too_deep_answer, table_short, Answer}
use Rattle.forms.specs.RowWords.{words_of}
use Rattle.refusals.specs.Refusals.{strict_place}
use Rattle.refusals.specs.declared.StrictRefusal.TheVariants as refusal
use Rattle.tree.proofs.Lists.{terminals_size}
use Rattle.tree_promises.specs.code.Promises.{FirstElements, tree_answer, Accepts, HasRows, OneTree, NoFileExactly, NameDiffersExactly, TooDeepExactly, FileExactly, IsShort, ZerosElse, RowsNest, LeavesInOrder, OperatorColumn, RowsFitLines, EachLabelLeads}
use Rattle.tree_promises.proofs.Exactly as exactly

-- an answer comes from one end of the reading
tree_end : (room rows : ℕ) (o : End State Refusal) → tree_answer_of room o ≡ Ok rows → (s : State) × ((o ≡ read s) × (length (state_rows s) ≡ rows) × (5 * rows ≤ room))
tree_end room rows (read s) e = go (leb (5 * length (state_rows s)) room) refl e
  where
    go : (b : Bool) → leb (5 * length (state_rows s)) room ≡ b → cond b (Ok (length (state_rows s))) (table_short (room / 5)) ≡ Ok rows
        → (t : State) × ((◌≡◌ {A = End State Refusal} (read s) (read t)) × (length (state_rows t) ≡ rows) × (5 * rows ≤ room))
    go true q e = let z : length (state_rows s) ≡ rows = cc in (s, (refl, z, omega (arith, leb-true (5 * length (state_rows s)) room q)))
    go false q e = let z : ◌≡◌ {A = ℕ} 0 1 = cc in clash z
tree_end room rows (bad k) e = let z : ◌≡◌ {A = ℕ} 0 1 = cc in clash z
tree_end room rows (stopped k name_differs) e = let z : ◌≡◌ {A = ℕ} 0 1 = cc in clash z
tree_end room rows (stopped k too_deep) e = let z : ◌≡◌ {A = ℕ} 0 1 = cc in clash z
tree_end room rows spent e = let z : ◌≡◌ {A = ℕ} 0 1 = cc in clash z

answer_read : (room : ℕ) (s : State) → 5 * length (state_rows s) ≤ room → tree_answer_of room (read s) ≡ Ok (length (state_rows s))
answer_read room s l = ap (λ (b : Bool). cond b (Ok (length (state_rows s))) (table_short (room / 5))) (le-leb (5 * length (state_rows s)) room l)

-- the place of a refusal, and the rows of a tree
abbrev placed : Answer → ℕ
placed (Ok rows) = rows
placed (Err r) = strict_place r

-- refusals 1 to 4 are none of the tree's
abbrev pub elsewhere : Answer → ℕ
elsewhere (Ok rows) = 0
elsewhere (Err (refusal.Elements r)) = 1
elsewhere (Err (refusal.Unreadable e)) = 1
elsewhere (Err (refusal.NoFile e)) = 0
elsewhere (Err (refusal.NameDiffers e)) = 0
elsewhere (Err (refusal.TooDeep e)) = 0
elsewhere (Err (refusal.TreeShort rows)) = 0

pub none_elsewhere : (room : ℕ) (o : End State Refusal) → elsewhere (tree_answer_of room o) ≡ 0
none_elsewhere room (read s) = go (leb (5 * length (state_rows s)) room)
  where
    go : (b : Bool) → elsewhere (cond b (Ok (length (state_rows s))) (table_short (room / 5))) ≡ 0
    go true = refl
    go false = refl
none_elsewhere room (bad k) = refl
none_elsewhere room (stopped k name_differs) = refl
none_elsewhere room (stopped k too_deep) = refl
none_elsewhere room spent = refl

pub accepts : Accepts
accepts text table n room rows = (
  (λ e.
      let t = tree_end room rows (reading_in text table n) e in
      (t.0, ((meaning.reads_files (same_name text table) (FirstElements table n) t.0).0 t.1.0, t.1.1, t.1.2))),
  λ f.
      let r : reading_in text table n ≡ read f.0 = (meaning.reads_files (same_name text table) (FirstElements table n) f.0).1 f.1.0 in
      let l = f.1.1 in
      let m = f.1.2 in
      ap (tree_answer_of room) r ∙ answer_read room f.0 (omega arith) ∙ ap Ok l,
)

pub has_rows : HasRows
has_rows text table n room s f l =
    ap (tree_table_of room) ((meaning.reads_files (same_name text table) (FirstElements table n) s).1 f)
    ∙ ap (λ (b : Bool). cond b (words_of (state_rows s) ++ replicate (room - 5 * length (state_rows s)) 0) (replicate room 0)) (le-leb (5 * length (state_rows s)) room l)

pub one_tree : OneTree
one_tree text table n s t p q = meaning.one_reading (same_name text table) (FirstElements table n) s t p q

wrong_end : (room k : ℕ) (o : End State Refusal) → (o ≡ spent → ⊥) → tree_answer_of room o ≡ no_file_answer k → o ≡ bad k
wrong_end room k (read s) d e = go (leb (5 * length (state_rows s)) room) e
  where
    go : (b : Bool) → cond b (Ok (length (state_rows s))) (table_short (room / 5)) ≡ no_file_answer k → ◌≡◌ {A = End State Refusal} (read s) (bad k)
    go true e = let z : ◌≡◌ {A = ℕ} 0 1 = cc in clash z
    go false e = let z : ◌≡◌ {A = ℕ} 0 1 = cc in clash z
wrong_end room k (bad j) d e = ap bad (ap placed e)
wrong_end room k (stopped j name_differs) d e = let z : ◌≡◌ {A = ℕ} 0 1 = cc in clash z
wrong_end room k (stopped j too_deep) d e = let z : ◌≡◌ {A = ℕ} 0 1 = cc in clash z
wrong_end room k spent d e = absurd (d refl)

deep_end : (room k : ℕ) (o : End State Refusal) → tree_answer_of room o ≡ too_deep_answer k → (j : ℕ) × ((o ≡ stopped j too_deep) × (k ≡ j - 1))
deep_end room k (read s) e = go (leb (5 * length (state_rows s)) room) e
  where
    go : (b : Bool) → cond b (Ok (length (state_rows s))) (table_short (room / 5)) ≡ too_deep_answer k → (j : ℕ) × ((◌≡◌ {A = End State Refusal} (read s) (stopped j too_deep)) × (k ≡ j - 1))
    go true e = let z : ◌≡◌ {A = ℕ} 0 1 = cc in clash z
    go false e = let z : ◌≡◌ {A = ℕ} 0 1 = cc in clash z
deep_end room k (bad j) e = let z : ◌≡◌ {A = ℕ} 0 1 = cc in clash z
deep_end room k (stopped j name_differs) e = let z : ◌≡◌ {A = ℕ} 0 1 = cc in clash z
deep_end room k (stopped j too_deep) e = (j, (refl, sym (ap placed e)))
deep_end room k spent e = let z : ◌≡◌ {A = ℕ} 0 1 = cc in clash z

name_end : (room k : ℕ) (o : End State Refusal) → tree_answer_of room o ≡ name_differs_answer k → (j : ℕ) × ((o ≡ stopped j name_differs) × (k ≡ j - 1))
name_end room k (read s) e = go (leb (5 * length (state_rows s)) room) e
  where
    go : (b : Bool) → cond b (Ok (length (state_rows s))) (table_short (room / 5)) ≡ name_differs_answer k → (j : ℕ) × ((◌≡◌ {A = End State Refusal} (read s) (stopped j name_differs)) × (k ≡ j - 1))
    go true e = let z : ◌≡◌ {A = ℕ} 0 1 = cc in clash z
    go false e = let z : ◌≡◌ {A = ℕ} 0 1 = cc in clash z
name_end room k (bad j) e = let z : ◌≡◌ {A = ℕ} 0 1 = cc in clash z
name_end room k (stopped j name_differs) e = (j, (refl, sym (ap placed e)))
name_end room k (stopped j too_deep) e = let z : ◌≡◌ {A = ℕ} 0 1 = cc in clash z
name_end room k spent e = let z : ◌≡◌ {A = ℕ} 0 1 = cc in clash z

-- the reading that is answered by refusal 6, and by refusal 7: the element at the place is the last that was read
name_reading : (text table : List ℕ) (n room k : ℕ) → tree_answer text table n room ≡ name_differs_answer k → reading_in text table n ≡ stopped (suc k) name_differs
name_reading text table n room k e =
    let t = name_end room k (reading_in text table n) e in
    let r = closing.name_differs_at (same_name text table) (FirstElements table n) t.0 t.1.0 in
    let y = t.1.1 in
    let x = r.1.0 in
    let z : t.0 ≡ suc k = omega arith in
    t.1.0 ∙ ap (λ (j : ℕ). stopped j name_differs) z

deep_reading : (text table : List ℕ) (n room k : ℕ) → tree_answer text table n room ≡ too_deep_answer k → reading_in text table n ≡ stopped (suc k) too_deep
unfolding open_from
deep_reading text table n room k e =
    let t = deep_end room k (reading_in text table n) e in
    t.1.0 ∙ ap (λ (j : ℕ). stopped j too_deep) (by t.0 t.1.1 (opening.too_deep_at (same_name text table) (FirstElements table n) t.0 t.1.0).0)
  where
    by : (j : ℕ) → k ≡ j - 1 → open_after (FirstElements table n) j ≡ 33 → j ≡ suc k
    by zero q o = absurd (omega arith)
    by (suc j) q o = omega arith

pub no_file_exactly : NoFileExactly
no_file_exactly text table n room k =
    let x = exactly.no_file_exactly (same_name text table) (FirstElements table n) k in (
      (λ e. x.0 (wrong_end room k (reading_in text table n) (meaning.always_answers (same_name text table) (FirstElements table n)) e)),
      λ f. ap (tree_answer_of room) (x.1 f),
    )

pub name_differs_exactly : NameDiffersExactly
name_differs_exactly text table n room k =
    let x = exactly.name_exactly (same_name text table) (FirstElements table n) k in
    let z : suc k - 1 ≡ k = omega arith in
    ((λ e. x.0 (name_reading text table n room k e)), λ f. ap (tree_answer_of room) (x.1 f) ∙ ap name_differs_answer z)

pub too_deep_exactly : TooDeepExactly
too_deep_exactly text table n room k =
    let x = exactly.depth_exactly (same_name text table) (FirstElements table n) k in
    let z : suc k - 1 ≡ k = omega arith in
    ((λ e. x.0 (deep_reading text table n room k e)), λ f. ap (tree_answer_of room) (x.1 f) ∙ ap too_deep_answer z)

pub file_exactly : FileExactly
file_exactly text table n = exactly.read_exactly (same_name text table) (FirstElements table n)

short_end : (room k : ℕ) (o : End State Refusal) → tree_answer_of room o ≡ table_short k → (k ≡ room / 5) × ((s : State) × ((o ≡ read s) × (room < 5 * length (state_rows s))))
short_end room k (read s) e = go (leb (5 * length (state_rows s)) room) refl e
  where
    go : (b : Bool) → leb (5 * length (state_rows s)) room ≡ b → cond b (Ok (length (state_rows s))) (table_short (room / 5)) ≡ table_short k
        → (k ≡ room / 5) × ((t : State) × ((◌≡◌ {A = End State Refusal} (read s) (read t)) × (room < 5 * length (state_rows t))))
    go true q e = let z : ◌≡◌ {A = ℕ} 0 1 = cc in clash z
    go false q e = let z : k ≡ room / 5 = cc in (z, (s, (refl, leb-false (5 * length (state_rows s)) room q)))
short_end room k (bad j) e = let z : ◌≡◌ {A = ℕ} 0 1 = cc in clash z
short_end room k (stopped j name_differs) e = let z : ◌≡◌ {A = ℕ} 0 1 = cc in clash z
short_end room k (stopped j too_deep) e = let z : ◌≡◌ {A = ℕ} 0 1 = cc in clash z
short_end room k spent e = let z : ◌≡◌ {A = ℕ} 0 1 = cc in clash z

answer_short : (room : ℕ) (s : State) → room < 5 * length (state_rows s) → tree_answer_of room (read s) ≡ table_short (room / 5)
answer_short room s l = ap (λ (b : Bool). cond b (Ok (length (state_rows s))) (table_short (room / 5))) (lt-leb (5 * length (state_rows s)) room l)

pub is_short : IsShort
is_short text table n room k = (
  (λ e.
      let t = short_end room k (reading_in text table n) e in
      let l = t.1.1.1 in
      (t.0, (t.1.0, ((meaning.reads_files (same_name text table) (FirstElements table n) t.1.0).0 t.1.1.0, omega arith)))),
  λ f.
      let s = f.1.0 in
      let r : reading_in text table n ≡ read s = (meaning.reads_files (same_name text table) (FirstElements table n) s).1 f.1.1.0 in
      let l = f.1.1.1 in
      ap (tree_answer_of room) r ∙ answer_short room s (omega arith) ∙ ap table_short (sym f.0),
)

zeros_end : (room : ℕ) (o : End State Refusal) → ((rows : ℕ) → tree_answer_of room o ≡ Ok rows → ⊥) → tree_table_of room o ≡ replicate room 0
zeros_end room (read s) d = go (leb (5 * length (state_rows s)) room) d
  where
    go : (b : Bool) → ((rows : ℕ) → cond b (Ok (length (state_rows s))) (table_short (room / 5)) ≡ Ok rows → ⊥)
        → cond b (words_of (state_rows s) ++ replicate (room - 5 * length (state_rows s)) 0) (replicate room 0) ≡ replicate room 0
    go true d = absurd (d (length (state_rows s)) refl)
    go false d = refl
zeros_end room (bad k) d = refl
zeros_end room (stopped k r) d = refl
zeros_end room spent d = refl

pub zeros_else : ZerosElse
zeros_else text table n room d = zeros_end room (reading_in text table n) d

pub rows_nest : RowsNest
rows_nest text table n s f = subst (λ (x : ℕ). Tiled 0 x (state_rows s)) (terminals_size n table) (rows_tiled (same_name text table) (FirstElements table n) s f)

pub leaves_in_order : LeavesInOrder
leaves_in_order text table n s f = (
  subst (λ (x : ℕ). LeavesAre x (state_rows s)) (terminals_size n table) (leaves_are (same_name text table) (FirstElements table n) s f),
  all_owned (same_name text table) (FirstElements table n) s f,
  owned_once (same_name text table) (FirstElements table n) s f,
)

pub operator_column : OperatorColumn
operator_column text table n s f = operators_right (same_name text table) (FirstElements table n) s f

pub rows_fit_lines : RowsFitLines
rows_fit_lines text table n s f = rows_fit (same_name text table) (FirstElements table n) s f

pub each_label_leads : EachLabelLeads
each_label_leads text table n s f = labels_lead (same_name text table) (FirstElements table n) s f
