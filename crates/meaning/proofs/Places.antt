-- Where the elements, kinds and rows of a piece stand in the tables of its text. Assumes nothing.
use mathlib.Core.Path.{◌≡◌, refl, sym, ap, ◌∙◌}
use mathlib.Core.Bool.{Bool, true, false, cond}
use mathlib.Core.List.{List, [], ◌∷◌, ◌++◌, append_assoc}
use Prim.Native.Nat.{ℕ, suc, ◌+◌, ◌-◌, ◌*◌, ◌/◌, ◌≤◌, min}
use native.Mathlib.Omega.{arith}
use borrow.Author.Tests.{ltb-true, ltb-false}
use lib.Dec.{ltb}
use lib.ListN.{length, take, drop, replicate, length-append, length-replicate, take-append-drop, get_or-eq_default}
use lib.Seq.{take_at, drop_at}
use Rattle.element_reading.specs.Rows.{ElementRow, rows_of}
use Rattle.element_reading.specs.Table.{cells}
use Rattle.element_reading.proofs.TableLaws.{length_cells}
use Rattle.places.specs.Places.{kinds_of}
use Rattle.pieces.specs.Kinds as by-kinds
use Rattle.records.specs.Records.{word_at}
use Rattle.operands.specs.code.Operands.{literal_by, literal_in}
use Rattle.forms.specs.RowWords.{words_of}
use Rattle.tree.specs.code.PieceRows.{rows_of_piece, piece_words, elements_for_items, item_rows}
use Rattle.tree.proofs.ItemRows as by_rows
use Rattle.tree.proofs.ItemRows.{item_rows_at, item_rows_size}
use Rattle.expressions.specs.Folds.{element_in, literal_at, kind_in_piece}
use Rattle.items.specs.code.Items.{rows_until, rows_held, goes_down_in}
use Rattle.pieces.specs.Kinds.{any_down}
use Rattle.pieces.specs.Columns as column
use Rattle.meaning.specs.Elements.{Element, Piece, nothing, at}
use Rattle.meaning.specs.Pieces.{kinds_in_piece, elements_of, pieces_of}
use Rattle.meaning.proofs.Tables.{element_at_lem, kinds_of_lem, element_at}
use Rattle.meaning.proofs.Cutting.{kinds_each, cut_kinds, join_all, total, cut_joins, at_piece, total_append, total_joins, kinds_length}
use Rattle.meaning.proofs.Rows.{held_piece}

-- the element table of a text, and its elements
abbrev pub table_of : List ℕ → ℕ → List ℕ
table_of s z = cells (rows_of s) ++ replicate z 0

abbrev pub elements : List ℕ → List Element
elements s = elements_of s (rows_of s)

pub elements_length : (s : List ℕ) (rs : List ElementRow) → length (elements_of s rs) ≡ length rs
unfolding elements_of
elements_length s [] = refl
elements_length s (r ∷ rs) = ap suc (elements_length s rs)

pub table_length : (s : List ℕ) (z : ℕ) → length (table_of s z) ≡ 3 * length (rows_of s) + z
table_length s z = rw (length-append (cells (rows_of s)) (replicate z 0), length_cells (rows_of s), length-replicate {A = ℕ} z 0)

pub at_past : (l : List Element) (j : ℕ) → length l ≤ j → at l j ≡ nothing
unfolding at
at_past l j h = get_or-eq_default l nothing h

kinds_append : (p q : Piece) → kinds_in_piece (p ++ q) ≡ kinds_in_piece p ++ kinds_in_piece q
unfolding kinds_in_piece
kinds_append [] q = refl
kinds_append (x ∷ p) q = ap (λ (l : List ℕ). x.kind ∷ l) (kinds_append p q)

join_split : (before : List Piece) (p : Piece) (after : List Piece) → join_all (before ++ p ∷ after) ≡ join_all before ++ (p ++ join_all after)
unfolding join_all
join_split [] p after = refl
join_split (q ∷ before) p after = ap (λ (l : Piece). q ++ l) (join_split before p after) ∙ sym (append_assoc q (join_all before) (p ++ join_all after))

each_split : (before : List Piece) (p : Piece) (after : List Piece) → kinds_each (before ++ p ∷ after) ≡ kinds_each before ++ kinds_in_piece p ∷ kinds_each after
unfolding kinds_each
each_split [] p after = refl
each_split (q ∷ before) p after = ap (λ (l : List (List ℕ)). kinds_in_piece q ∷ l) (each_split before p after)

each_total : (ps : List Piece) → by_rows.total (kinds_each ps) ≡ total ps
unfolding kinds_each total
each_total [] = refl
each_total (p ∷ ps) = omega (arith, kinds_length p, each_total ps)

-- more kinds than elements
kinds_more : (text : List ℕ) (rs : List ElementRow) (m : ℕ) (l : List ℕ) → kinds_of (length rs + m) (cells rs ++ l) ≡ kinds_in_piece (elements_of text rs) ++ kinds_of m l
unfolding kinds_of cells kinds_in_piece elements_of
kinds_more text [] m l = let e : 0 + m ≡ m = omega arith in rw e
kinds_more text (r ∷ rs) m l =
    let e : suc (length rs) + m ≡ suc (length rs + m) = omega arith in
    rw (e, kinds_more text rs m l)

-- a piece of a text, those before it and those after it
module _ (s : List ℕ) (z : ℕ) (before after : List Piece) (p : Piece) (split : before ++ p ∷ after ≡ pieces_of s) where
  joined : join_all (before ++ p ∷ after) ≡ elements s
  unfolding pieces_of
  joined = ap join_all split ∙ cut_joins (elements s)

  pub piece_within : total before + length p ≤ length (rows_of s)
  unfolding total
  piece_within =
      omega (arith, elements_length s (rows_of s), ap length joined, total_joins (before ++ p ∷ after), total_append before (p ∷ after))

  room : total before + length p ≤ length (table_of s z) / 3
  room = omega (arith, piece_within, table_length s z)

  -- the kinds of the piece
  pub piece_kinds_lem : take (length p) (drop (total before) (kinds_of (length (table_of s z) / 3) (table_of s z))) ≡ kinds_in_piece p
  piece_kinds_lem =
      let n : ℕ = length (rows_of s) in
      let m : ℕ = length (table_of s z) / 3 - n in
      let a : List ℕ = kinds_in_piece (join_all before) in
      let c : List ℕ = kinds_in_piece (join_all after) in
      let rest : List ℕ = kinds_of m (replicate z 0) in
      let e : length (table_of s z) / 3 ≡ n + m = omega (arith, table_length s z) in
      ap (λ (k : ℕ). take (length p) (drop (total before) (kinds_of k (table_of s z)))) e
      ∙ ap (λ (l : List ℕ). take (length p) (drop (total before) l)) (kinds_more s (rows_of s) m (replicate z 0) ∙ ap (λ (l : List ℕ). l ++ rest) apart ∙ append_assoc a (kinds_in_piece p ++ c) rest)
      ∙ ap (take (length p)) (drop_at a ((kinds_in_piece p ++ c) ++ rest) (total before) (kinds_length (join_all before) ∙ total_joins before) ∙ append_assoc (kinds_in_piece p) c rest)
      ∙ take_at (kinds_in_piece p) (c ++ rest) (length p) (kinds_length p)
    where
      apart : kinds_in_piece (elements s) ≡ kinds_in_piece (join_all before) ++ (kinds_in_piece p ++ kinds_in_piece (join_all after))
      apart =
          ap kinds_in_piece (sym joined ∙ join_split before p after)
          ∙ kinds_append (join_all before) (p ++ join_all after)
          ∙ ap (λ (l : List ℕ). kinds_in_piece (join_all before) ++ l) (kinds_append p (join_all after))

  -- the rows of the piece, in the row table of the text
  module _ (count : ℕ) (whole : count ≡ length (rows_of s)) (few : length (rows_of s) ≤ 8192) where
    pieces_read : by-kinds.kind_pieces (kinds_of (elements_for_items (table_of s z) count 40960) (table_of s z)) ≡ kinds_each before ++ kinds_in_piece p ∷ kinds_each after
    unfolding pieces_of
    pieces_read =
        let e : elements_for_items (table_of s z) count 40960 ≡ length (rows_of s) = omega (arith, table_length s z) in
        ap (λ (k : ℕ). by-kinds.kind_pieces (kinds_of k (table_of s z))) e
        ∙ ap (λ (ks : List ℕ). by-kinds.kind_pieces ks) (kinds_of_lem s (rows_of s) (replicate z 0))
        ∙ sym (cut_kinds (elements s))
        ∙ ap kinds_each (sym split)
        ∙ each_split before p after

    pub piece_rows : take (5 * length p) (drop (5 * total before) (item_rows (table_of s z) count 40960)) ≡ piece_words (kinds_in_piece p)
    piece_rows =
        rw (← kinds_length p, ← each_total before) (item_rows_at (table_of s z) count 40960 (kinds_each before) (kinds_each after) (kinds_in_piece p) pieces_read)

    -- and what stands after them
    abbrev pub behind_rows : List ℕ
    behind_rows = replicate (5 * length (kinds_in_piece p) - 5 * length (rows_of_piece (kinds_in_piece p))) 0 ++ drop (5 * length p) (drop (5 * total before) (item_rows (table_of s z) count 40960))

    words_here : drop (5 * total before) (item_rows (table_of s z) count 40960) ≡ piece_words (kinds_in_piece p) ++ drop (5 * length p) (drop (5 * total before) (item_rows (table_of s z) count 40960))
    words_here =
        let l : List ℕ = drop (5 * total before) (item_rows (table_of s z) count 40960) in
        sym (take-append-drop (5 * length p) l) ∙ ap (λ (k : List ℕ). k ++ drop (5 * length p) l) piece_rows

    pub rows_here : drop (5 * total before) (item_rows (table_of s z) count 40960) ≡ words_of (rows_of_piece (kinds_in_piece p)) ++ behind_rows
    unfolding piece_words
    rows_here = words_here ∙ append_assoc (words_of (rows_of_piece (kinds_in_piece p))) _ _

    rows_room : min (length p) (length (item_rows (table_of s z) count 40960) / 5 - total before) ≡ length p
    rows_room = omega (arith, item_rows_size (table_of s z) count 40960, piece_within)

    pub rows_held_lem : (items : List ℕ) (i : ℕ) → word_at items i column.first ≡ total before → word_at items i column.count ≡ length p → rows_held (item_rows (table_of s z) count 40960) items i ≡ length (rows_of_piece (kinds_in_piece p))
    unfolding rows_held
    rows_held_lem items i w1 w2 =
        let l : List ℕ = drop (5 * length p) (drop (5 * total before) (item_rows (table_of s z) count 40960)) in
        rw (w1, w2, rows_room, words_here) (ap (λ (k : ℕ). rows_until k (piece_words (kinds_in_piece p) ++ l)) (sym (kinds_length p)) ∙ held_piece (kinds_in_piece p) l)

  -- the piece's record in an item table
  module _ (items : List ℕ) (i : ℕ) (w1 : word_at items i column.first ≡ total before) (w2 : word_at items i column.count ≡ length p) where
    pub goes_down : goes_down_in (table_of s z) items i ≡ any_down (kinds_in_piece p)
    unfolding goes_down_in
    goes_down = rw (w1, w2) (ap any_down piece_kinds_lem)

    element_in_lem : (j : ℕ) → element_in (table_of s z) items i j ≡ cond (ltb j (length p)) (total before + j) (length (table_of s z) / 3)
    unfolding element_in
    element_in_lem j = let e : min (length p) (length (table_of s z) / 3 - total before) ≡ length p = omega (arith, room) in rw (w1, w2, e)

    -- element j of the piece, where the tables have it
    pub piece_element : (j : ℕ) → at (elements s) (element_in (table_of s z) items i j) ≡ at p j
    piece_element j = ap (at (elements s)) (element_in_lem j) ∙ go (ltb j (length p)) refl
      where
        go : (b : Bool) → ltb j (length p) ≡ b → at (elements s) (cond b (total before + j) (length (table_of s z) / 3)) ≡ at p j
        go true h = ap (λ (l : Piece). at l (total before + j)) (sym joined) ∙ at_piece before p after j (ltb-true j (length p) h)
        go false h =
            at_past (elements s) (length (table_of s z) / 3) (omega (arith, elements_length s (rows_of s), table_length s z))
            ∙ sym (at_past p j (ltb-false j (length p) h))

    element_here : (j : ℕ) → element_at s (table_of s z) (element_in (table_of s z) items i j) ≡ at p j
    element_here j = element_at_lem s (rows_of s) z (element_in (table_of s z) items i j) ∙ piece_element j

    pub kind_in_lem : (j : ℕ) → kind_in_piece (table_of s z) items i j ≡ (at p j).kind
    unfolding kind_in_piece element_at
    kind_in_lem j = ap (λ (x : Element). x.kind) (element_here j)

    pub literal_at_lem : (j : ℕ) → literal_at s (table_of s z) items i j ≡ literal_by (at p j).kind (at p j).bytes
    unfolding literal_at literal_in element_at
    literal_at_lem j = ap (λ (x : Element). literal_by x.kind x.bytes) (element_here j)
