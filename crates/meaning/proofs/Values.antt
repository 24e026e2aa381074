-- What a piece comes to by the tables is what it comes to by its elements, given that names used do. Assumes nothing.
use mathlib.Core.Path.{◌≡◌, refl, sym, ap, ◌∙◌}
use mathlib.Core.Bool.{Bool, true, false, cond}
use mathlib.Core.List.{List, [], ◌∷◌, ◌++◌, append-nil}
use Prim.Native.Nat.{ℕ, zero, suc, ◌+◌, ◌*◌, ◌/◌, ◌≤◌, min}
use native.Mathlib.Omega.{arith}
use borrow.Author.Tests.{le-ltb, ne_eqb}
use lib.Dec.{eqb}
use lib.ListN.{length, get_or, drop, length-drop}
use lib.Seq.{drop-drop, get_or-drop}
use Rattle.element_reading.specs.Rows.{rows_of}
use Rattle.forms.specs.Tree.{Row}
use Rattle.records.specs.Records.{word_at}
use Rattle.forms.specs.RowWords.{words_of}
use Rattle.tree.specs.code.PieceRows.{rows_of_piece, item_rows}
use Rattle.tree.proofs.Pieces.{rows_few}
use Rattle.operands.specs.code.Operands.{literal_by}
use Rattle.marks.specs.code.Marks.{operand_of}
use Rattle.values.specs.declared.Value.{Value}
use Rattle.values.specs.declared.Value.TheVariants.{Without}
use Rattle.uses.specs.code.Uses.{use_in}
use Rattle.forms.specs.Tree.{behind}
use Rattle.forms.specs.RowWords.{tree_rows_in}
use Rattle.expressions.specs.Folds.{name_value, name_in, literal_at, kind_in_piece, fold_of, expression_in, element_in}
use Rattle.expressions.proofs.Expressions.{outcome_same}
use Rattle.items.specs.code.Items.{doubled_in, expression_at, range_at, bounded_at, mark_in, formed_at, value_at}
use Rattle.pieces.specs.Columns as column
use Rattle.states.specs.States as state
use Rattle.meaning.specs.Elements.{Piece, at}
use Rattle.meaning.specs.Pieces.{kinds_in_piece, pieces_of, class_of}
use Rattle.meaning.proofs.Cutting.{total, kinds_length}
use Rattle.meaning.specs.Names.{own_doubled, Done, use_of}
use Rattle.meaning.specs.code.PieceValues.{valued, bounded, formed, unless_doubled, value_of}
use Rattle.meaning.proofs.Rows.{rows_back, words_part}
use Rattle.meaning.proofs.Places.{table_of, elements, piece_within, behind_rows, rows_here, rows_held_lem, goes_down, piece_element, kind_in_lem, literal_at_lem}
use Rattle.forms.proofs.RowWords.{words_size}

-- the rows that words are, all of them
rows_all : (rs : List Row) → length rs ≤ 8192 → tree_rows_in (min (length (words_of rs) / 5) 8192) (words_of rs) ≡ rs
rows_all rs few =
    let e : min (length (words_of rs) / 5) 8192 ≡ length rs = omega (arith, words_size rs) in
    rw e (ap (tree_rows_in (length rs)) (sym (append-nil (words_of rs))) ∙ rows_back rs [])

-- the rows after those of a first bound
behind_rows_lem : (item mark range : Row) (rs : List Row) (l : List ℕ)
    → drop (min (suc (suc (suc (length rs)))) (3 + get_or (words_of (item ∷ mark ∷ range ∷ rs) ++ l) 18 0)) (item ∷ mark ∷ range ∷ rs) ≡ behind rs
behind_rows_lem item mark range [] l =
    let e : min 3 (3 + get_or l 3 0) ≡ 3 = omega arith in
    ap (λ (n : ℕ). drop n (item ∷ mark ∷ range ∷ [])) e
behind_rows_lem item mark range (r ∷ rs) l =
    let e : min (suc (suc (suc (suc (length rs))))) (3 + r.rows) ≡ suc (suc (suc (min (suc (length rs)) r.rows))) = omega arith in
    ap (λ (n : ℕ). drop n (item ∷ mark ∷ range ∷ r ∷ rs)) e ∙ least r.rows (r ∷ rs)
  where
    least : (n : ℕ) (qs : List Row) → drop (min (length qs) n) qs ≡ drop n qs
    least zero qs = let e : min (length qs) 0 ≡ 0 = omega arith in rw e
    least (suc n) [] = let e : min 0 (suc n) ≡ 0 = omega arith in rw e
    least (suc n) (q ∷ qs) = let e : min (suc (length qs)) (suc n) ≡ suc (min (length qs) n) = omega arith in rw e (least n qs)

unless_at : (d : Bool) (rs : List Row) (v : Value) → cond (eqb (length rs) 0) (Without state.broken) (cond d (Without state.doubled) v) ≡ unless_doubled d rs v
unless_at d [] v = refl
unless_at true (r ∷ rs) v = rw (ne_eqb (suc (length rs)) 0 (λ e. omega arith))
unless_at false (r ∷ rs) v = rw (ne_eqb (suc (length rs)) 0 (λ e. omega arith))

-- a piece of a text, and its record in an item table
module _ (s : List ℕ) (z : ℕ) (before after : List Piece) (p : Piece) (split : before ++ p ∷ after ≡ pieces_of s) (items : List ℕ) (i : ℕ) (w1 : word_at items i column.first ≡ total before) (w2 : word_at items i column.count ≡ length p) where
  -- what names used in it come to
  module _ (ds : List Done) (links : List ℕ) (u : (e : ℕ) → use_in s (table_of s z) items links i e ≡ use_of (pieces_of s) ds (at (elements s) e)) where
    pub name_value_lem : (j : ℕ) → name_value s (table_of s z) items links i j ≡ use_of (pieces_of s) ds (at p j)
    unfolding name_value
    name_value_lem j = u (element_in (table_of s z) items i j) ∙ ap (use_of (pieces_of s) ds) (piece_element s z before after p split items i w1 w2 j)

    pub name_in_lem : (j : ℕ) → name_in s (table_of s z) items links i j ≡ operand_of (use_of (pieces_of s) ds (at p j))
    unfolding name_in
    name_in_lem j = ap operand_of (name_value_lem j)

    pub fold_rows : (rs : List Row) → length rs ≤ 8192 → fold_of s (table_of s z) items links i (words_of rs) ≡ valued p (use_of (pieces_of s) ds) rs
    unfolding fold_of valued
    fold_rows rs few =
        ap (λ (qs : List Row). expression_in s (table_of s z) items links i qs) (rows_all rs few)
        ∙ outcome_same
        (name_in s (table_of s z) items links i) (literal_at s (table_of s z) items i)
        (λ j. operand_of (use_of (pieces_of s) ds (at p j))) (λ j. literal_by (at p j).kind (at p j).bytes)
        (kind_in_piece (table_of s z) items i) (λ j. (at p j).kind)
        name_in_lem (literal_at_lem s z before after p split items i w1 w2) (kind_in_lem s z before after p split items i w1 w2) rs

    -- its rows, from its first element's row on
    module _ (rows : List ℕ) (rs : List Row) (l : List ℕ) (here : drop (5 * total before) rows ≡ words_of rs ++ l) (few : length rs ≤ 8192) where
      pub expression_at_lem : (a : ℕ) → a ≤ length rs → expression_at s (table_of s z) items links i rows a (length rs) ≡ valued p (use_of (pieces_of s) ds) (drop a rs)
      unfolding expression_at
      expression_at_lem a h =
          let e : 5 * (total before + a) ≡ 5 * total before + 5 * a = omega arith in
          rw (w1, e, ← drop-drop (5 * a) (5 * total before) rows, here, words_part rs l a h)
          (fold_rows (drop a rs) (omega (arith, length-drop a rs)))

      row_word_lem : (k c : ℕ) → get_or rows (5 * (word_at items i column.first + k) + c) 0 ≡ get_or (words_of rs ++ l) (5 * k + c) 0
      row_word_lem k c =
          let e : 5 * (total before + k) + c ≡ 5 * total before + (5 * k + c) = omega arith in
          rw (w1, e) (sym (get_or-drop (5 * total before) rows (5 * k + c) 0) ∙ ap (λ (m : List ℕ). get_or m (5 * k + c) 0) here)

    module _ (rows : List ℕ) (l : List ℕ) where
      pub range_at_lem : (item mark range : Row) (rs : List Row) → drop (5 * total before) rows ≡ words_of (item ∷ mark ∷ range ∷ rs) ++ l → length (item ∷ mark ∷ range ∷ rs) ≤ 8192
          → drop (range_at items i rows (length (item ∷ mark ∷ range ∷ rs))) (item ∷ mark ∷ range ∷ rs) ≡ behind rs
      unfolding range_at
      range_at_lem item mark range rs here few =
          ap (λ (n : ℕ). drop (min (suc (suc (suc (length rs)))) (3 + n)) (item ∷ mark ∷ range ∷ rs)) (row_word_lem rows (item ∷ mark ∷ range ∷ rs) l here few 3 3)
          ∙ behind_rows_lem item mark range rs l

      range_within : (m : ℕ) → range_at items i rows m ≤ m
      unfolding range_at
      range_within m = omega arith

      bounded_at_lem : (item mark : Row) (rs : List Row) → drop (5 * total before) rows ≡ words_of (item ∷ mark ∷ rs) ++ l → length (item ∷ mark ∷ rs) ≤ 8192
          → (v : Value) → bounded_at s (table_of s z) items links i rows (length (item ∷ mark ∷ rs)) v ≡ bounded p (use_of (pieces_of s) ds) v rs
      unfolding bounded_at
      bounded_at_lem item mark [] here few v = refl
      bounded_at_lem item mark (range ∷ rs) here few v =
          let m : List Row = item ∷ mark ∷ range ∷ rs in
          let n : ℕ = range_at items i rows (length m) in
          let second : expression_at s (table_of s z) items links i rows n (length m) ≡ valued p (use_of (pieces_of s) ds) (behind rs) =
          expression_at_lem rows m l here few n (range_within (length m)) ∙ ap (valued p (use_of (pieces_of s) ds)) (range_at_lem item mark range rs here few) in
          rw (ne_eqb (length m) 2 (λ e. omega arith), expression_at_lem rows m l here few 3 (omega arith), second, goes_down s z before after p split items i w1 w2)

      pub formed_at_lem : word_at items i column.class ≡ class_of p → (rs : List Row) → drop (5 * total before) rows ≡ words_of rs ++ l → length rs ≤ 8192
          → formed_at s (table_of s z) items links i rows (length rs) ≡ formed p (use_of (pieces_of s) ds) rs
      unfolding formed_at mark_in
      formed_at_lem w0 [] here few = refl
      formed_at_lem w0 (item ∷ []) here few = refl
      formed_at_lem w0 (item ∷ mark ∷ rs) here few =
          let m : List Row = item ∷ mark ∷ rs in
          let named : name_value s (table_of s z) items links i (get_or rows (5 * (word_at items i column.first + 1) + 1) 0) ≡ use_of (pieces_of s) ds (at p mark.first) =
          name_value_lem (get_or rows (5 * (word_at items i column.first + 1) + 1) 0) ∙ ap (λ (j : ℕ). use_of (pieces_of s) ds (at p j)) (row_word_lem rows m l here few 1 1) in
          rw (le-ltb (length m) 2 (omega arith), w0, named, expression_at_lem rows m l here few 2 (omega arith), bounded_at_lem item mark rs here few (use_of (pieces_of s) ds (at p mark.first)))

  -- the whole value
  pub value_at_lem : (count : ℕ) → count ≡ length (rows_of s) → length (rows_of s) ≤ 8192 → word_at items i column.class ≡ class_of p → (ds : List Done) (links twins : List ℕ)
      → ((e : ℕ) → use_in s (table_of s z) items links i e ≡ use_of (pieces_of s) ds (at (elements s) e))
      → doubled_in s (table_of s z) twins items i ≡ own_doubled (pieces_of s) p
      → value_at s (table_of s z) links twins (item_rows (table_of s z) count 40960) items i ≡ value_of (pieces_of s) ds p
  unfolding value_at value_of
  value_at_lem count whole few w0 ds links twins u d =
      let rs : List Row = rows_of_piece (kinds_in_piece p) in
      rw (
        rows_held_lem s z before after p split count whole few items i w1 w2,
        d,
        formed_at_lem ds links u (item_rows (table_of s z) count 40960) (behind_rows s z before after p split count whole few) w0 rs (rows_here s z before after p split count whole few)
            (omega (arith, rows_few (kinds_in_piece p), kinds_length p, piece_within s z before after p split)),
      )
      (unless_at (own_doubled (pieces_of s) p) rs (formed p (use_of (pieces_of s) ds) rs))
