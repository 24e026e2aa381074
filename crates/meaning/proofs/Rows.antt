-- The rows of a piece: none has form 0, and their words give them back. Assumes nothing.
use mathlib.Core.Path.{◌≡◌, refl, ap, ◌∙◌}
use mathlib.Core.Logic.{inl, inr}
use mathlib.Core.Bool.{Bool, true, false, cond}
use mathlib.Core.List.{List, [], ◌∷◌, ◌++◌, append_assoc}
use Prim.Native.Nat.{ℕ, zero, suc, ◌+◌, ◌-◌, ◌*◌, ◌≤◌}
use native.Mathlib.Omega.{arith}
use lib.Dec.{eqb}
use borrow.Author.Tests.{ne_eqb}
use lib.ListN.{length, get_or, take, drop, replicate, length-drop}
use Rattle.laws.proofs.Laws.{clash}
use Rattle.grammars.specs.code.Actions.{End, read, bad, stopped, spent}
use Rattle.forms.specs.code.RuleNames.{constant, subtype}
use Rattle.forms.specs.Tree.{Row}
use Rattle.forms.specs.code.RuleActions.{State, Refusal, state_rows}
use Rattle.forms.specs.code.Reading.{reading_from}
use Rattle.forms.proofs.ItemReading.{reads_items}
use Rattle.forms.proofs.Positive.{Positive, all_positive, top_positive}
use Rattle.tree.specs.code.Answers.{terminals_in}
use Rattle.forms.specs.RowWords.{words_of}
use Rattle.tree.specs.code.PieceRows.{unlike, reading_by, reading_of_piece, rows_read, rows_of_piece, piece_words}
use Rattle.tree.proofs.Pieces.{rows_few}
use Rattle.items.specs.code.Items.{rows_until}
use Rattle.forms.specs.RowWords.{tree_rows_in}

-- ---- no row has form 0

module _ (w : List ℕ) (s : State) where
  read_constant : reading_from constant unlike w ≡ read s → Positive (state_rows s)
  read_constant e = top_positive s.frames (all_positive unlike ((reads_items constant (inl refl) unlike w s).0 e) tt (tt, tt))

  read_subtype : reading_from subtype unlike w ≡ read s → Positive (state_rows s)
  read_subtype e = top_positive s.frames (all_positive unlike ((reads_items subtype (inr refl) unlike w s).0 e) tt (tt, tt))

  read_positive : (a b : Bool) → cond a (reading_from constant unlike w) (cond b (reading_from subtype unlike w) (bad 0)) ≡ read s → Positive (state_rows s)
  read_positive true b e = read_constant e
  read_positive false true e = read_subtype e
  read_positive false false e = let z : ◌≡◌ {A = ℕ} 0 1 = cc in clash z

pub rows_positive : (k : List ℕ) → Positive (rows_of_piece k)
unfolding rows_of_piece reading_of_piece
rows_positive k = go (reading_of_piece k) refl
  where
    go : (o : End State Refusal) → reading_by (get_or k 0 0) (terminals_in k) ≡ o → Positive (rows_read o)
    go (read s) e = read_positive (terminals_in k) s (eqb (get_or k 0 0) 53) (eqb (get_or k 0 0) 129) e
    go (bad j) e = tt
    go (stopped j r) e = tt
    go spent e = tt

-- ---- words back

pub rows_back : (rs : List Row) (l : List ℕ) → tree_rows_in (length rs) (words_of rs ++ l) ≡ rs
unfolding tree_rows_in
rows_back [] l = refl
rows_back (r ∷ rs) l = ap (λ (qs : List Row). r ∷ qs) (rows_back rs l)

pub words_taken : (rs : List Row) (l : List ℕ) → take (5 * length rs) (words_of rs ++ l) ≡ words_of rs
words_taken [] l = refl
words_taken (r ∷ rs) l =
    let e : 5 * suc (length rs) ≡ suc (suc (suc (suc (suc (5 * length rs))))) = omega arith in
    rw e (ap (λ (m : List ℕ). r.form ∷ r.first ∷ r.count ∷ r.rows ∷ r.operator ∷ m) (words_taken rs l))

-- the rows from number a on
pub words_drop : (rs : List Row) (l : List ℕ) (a : ℕ) → a ≤ length rs → drop (5 * a) (words_of rs ++ l) ≡ words_of (drop a rs) ++ l
words_drop rs l zero h = refl
words_drop [] l (suc a) h = absurd (omega arith)
words_drop (r ∷ rs) l (suc a) h = let e : 5 * suc a ≡ suc (suc (suc (suc (suc (5 * a))))) = omega arith in rw e (words_drop rs l a (omega arith))

pub words_part : (rs : List Row) (l : List ℕ) (a : ℕ) → a ≤ length rs → take (5 * (length rs - a)) (drop (5 * a) (words_of rs ++ l)) ≡ words_of (drop a rs)
words_part rs l a h =
    rw (words_drop rs l a h, ← length-drop a rs) (words_taken (drop a rs) l)

-- ---- how many rows stand there

held_none : (m : ℕ) (l : List ℕ) → rows_until m (replicate (5 * m) 0 ++ l) ≡ 0
unfolding rows_until
held_none zero l = refl
held_none (suc m) l = let e : 5 * suc m ≡ suc (suc (suc (suc (suc (5 * m))))) = omega arith in rw e

pub held_rows : (rs : List Row) (m : ℕ) (l : List ℕ) → Positive rs → rows_until (length rs + m) (words_of rs ++ (replicate (5 * m) 0 ++ l)) ≡ length rs
unfolding rows_until
held_rows [] m l p = let e : 0 + m ≡ m = omega arith in rw e (held_none m l)
held_rows (r ∷ rs) m l p =
    let e : suc (length rs) + m ≡ suc (length rs + m) = omega arith in
    rw (e, ne_eqb r.form 0 (λ z. omega (arith, p.0))) (ap suc (held_rows rs m l p.1))

pub held_piece : (k : List ℕ) (l : List ℕ) → rows_until (length k) (piece_words k ++ l) ≡ length (rows_of_piece k)
unfolding piece_words
held_piece k l =
    let n : ℕ = length (rows_of_piece k) in
    let m : ℕ = length k - n in
    let e : length k ≡ n + m = omega (arith, rows_few k) in
    let z : 5 * length k - 5 * n ≡ 5 * m = omega arith in
    ap (λ (j : ℕ). rows_until j ((words_of (rows_of_piece k) ++ replicate (5 * length k - 5 * n) 0) ++ l)) e
    ∙ rw (z, append_assoc) (held_rows (rows_of_piece k) m l (rows_positive k))
