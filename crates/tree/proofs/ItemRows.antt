-- What a caller of `read_items` wants to know: how long the row table is, where the rows of a piece stand, and what they are by the forms.
-- Assumes nothing.
use Prim.Native.Nat.{ℕ, suc, ◌-◌, ◌*◌, ◌/◌, ◌≤◌, min, ◌+◌}
use mathlib.Core.Path.{◌≡◌, refl, sym, ◌∙◌, ap, subst}
use mathlib.Core.Logic.{◌⊎◌, inl, inr, ⊎_elim}
use mathlib.Core.Bool.{Bool, true, false, ◌||◌}
use mathlib.Core.List.{List, [], ◌∷◌, ◌++◌, append_assoc}
use native.Mathlib.Omega.{arith}
use borrow.Author.Tests.{eq-eqb, ne_eqb, eqb-true, eqb-false}
use lib.Dec.{eqb}
use lib.ListN.{length, get_or, take, drop, length-append}
use lib.Seq.{take_at, drop_at}
use Rattle.laws.proofs.Laws.{clash}
use Rattle.grammars.specs.code.Grammar.{Sym, nt}
use Rattle.grammars.specs.code.Actions.{End, read, bad, stopped, spent}
use Rattle.forms.specs.code.RuleNames.{constant, subtype, name_number}
use Rattle.forms.specs.Tree.{Row, Forest, bare}
use Rattle.forms.specs.code.RuleActions.{State, Refusal, state_rows}
use Rattle.forms.specs.code.Reading.{reading_from}
use Rattle.forms.specs.code.ItemReading.{IsItem, ItemReading, item_row, mark_row}
use Rattle.forms.proofs.ItemReading.{reads_items, kinds_alone}
use Rattle.forms.proofs.Shapes.{begin_with_mark}
use Rattle.forms.proofs.Growing.{forest_from}
use Rattle.pieces.specs.Cutting.{cut, joined, put_front}
use Rattle.pieces.specs.Kinds.{kind_pieces, closes_piece, opens_piece}
use Rattle.places.specs.Places.{kinds_of}
use Rattle.places.proofs.Laws.{kinds_length}
use Rattle.tree.specs.code.Answers.{terminals_in}
use Rattle.forms.specs.RowWords.{words_of}
use Rattle.tree.specs.code.PieceRows.{unlike, reading_of_piece, rows_read, rows_of_piece, piece_words, pieces_words, elements_for_items, item_rows}
use Rattle.tree.proofs.Zeros.{zeros, zeros_size}
use Rattle.forms.proofs.RowWords.{words_size}
use Rattle.tree.proofs.Lists.{terminals_length}
use Rattle.tree.proofs.Pieces.{rows_few}

-- five words to each element of a piece
pub piece_size_lem : (p : List ℕ) → length (piece_words p) ≡ 5 * length p
unfolding piece_words
piece_size_lem p =
    let n = 5 * length p - 5 * length (rows_of_piece p) in
    omega (arith, rows_few p, length-append (words_of (rows_of_piece p)) (zeros n), words_size (rows_of_piece p), zeros_size n)

-- how many elements pieces have
abbrev pub total : List (List ℕ) → ℕ
total [] = 0
total (p ∷ ps) = length p + total ps

pub items_size : (ps : List (List ℕ)) → length (pieces_words ps) ≡ 5 * total ps
unfolding pieces_words
items_size [] = refl
items_size (p ∷ ps) = omega (arith, length-append (piece_words p) (pieces_words ps), piece_size_lem p, items_size ps)

-- the pieces have all elements
total_front : (x : ℕ) (ps : List (List ℕ)) → total (put_front closes_piece opens_piece x ps) ≡ suc (total ps)
total_front x [] = refl
total_front x (p ∷ ps) = omega arith

total_joined : (b : Bool) (x : ℕ) (ps : List (List ℕ)) → total (joined closes_piece opens_piece b x ps) ≡ suc (total ps)
total_joined true x ps = omega arith
total_joined false x ps = total_front x ps

pub total_pieces : (ks : List ℕ) → total (kind_pieces ks) ≡ length ks
unfolding cut
total_pieces [] = refl
total_pieces (x ∷ []) = refl
total_pieces (x ∷ (y ∷ l)) = total_joined (closes_piece x || opens_piece y) x (kind_pieces (y ∷ l)) ∙ ap suc (total_pieces (y ∷ l))

-- the words of a piece, between those before it and those after it
items_split : (before after : List (List ℕ)) (p : List ℕ) → pieces_words (before ++ (p ∷ after)) ≡ pieces_words before ++ (piece_words p ++ pieces_words after)
unfolding pieces_words
items_split [] after p = refl
items_split (q ∷ before) after p = ap (λ (l : List ℕ). piece_words q ++ l) (items_split before after p) ∙ sym (append_assoc (piece_words q) (pieces_words before) (piece_words p ++ pieces_words after))

pub items_at_lem : (before after : List (List ℕ)) (p rest : List ℕ) → take (5 * length p) (drop (5 * total before) (pieces_words (before ++ (p ∷ after)) ++ rest)) ≡ piece_words p
items_at_lem before after p rest =
    ap (λ (l : List ℕ). take (5 * length p) (drop (5 * total before) (l ++ rest))) (items_split before after p)
    ∙ ap (λ (l : List ℕ). take (5 * length p) (drop (5 * total before) l)) (append_assoc (pieces_words before) (piece_words p ++ pieces_words after) rest)
    ∙ ap (take (5 * length p)) (drop_at (pieces_words before) ((piece_words p ++ pieces_words after) ++ rest) (5 * total before) (items_size before))
    ∙ ap (take (5 * length p)) (append_assoc (piece_words p) (pieces_words after) rest)
    ∙ take_at (piece_words p) (pieces_words after ++ rest) (5 * length p) (piece_size_lem p)

module _ (table : List ℕ) (count words : ℕ) where
  -- all elements count where the row table and the size allow it
  pub all_count : min count (length table / 3) ≤ 8192 → 5 * min count (length table / 3) ≤ words → elements_for_items table count words ≡ min count (length table / 3)
  all_count h k = omega arith

  -- the rows of a piece in the row table
  pub item_rows_at : (before after : List (List ℕ)) (p : List ℕ) → kind_pieces (kinds_of (elements_for_items table count words) table) ≡ before ++ (p ∷ after)
      → take (5 * length p) (drop (5 * total before) (item_rows table count words)) ≡ piece_words p
  unfolding item_rows
  item_rows_at before after p e =
      ap (λ (ps : List (List ℕ)). take (5 * length p) (drop (5 * total before) (pieces_words ps ++ zeros (words - 5 * elements_for_items table count words)))) e
      ∙ items_at_lem before after p (zeros (words - 5 * elements_for_items table count words))

  pub item_rows_size : length (item_rows table count words) ≡ words
  unfolding item_rows
  item_rows_size =
      let n = elements_for_items table count words in
      let ps = kind_pieces (kinds_of n table) in
      omega (arith, length-append (pieces_words ps) (zeros (words - 5 * n)), items_size ps, total_pieces (kinds_of n table), kinds_length n table, zeros_size (words - 5 * n))

-- what the rows of a piece are, from a symbol and its form
module _ (from : Sym) (form : ℕ) (item : IsItem from) (p : List ℕ) (is : reading_of_piece p ≡ reading_from from unlike (terminals_in p))
    (shape : (s : State) → ItemReading from unlike (terminals_in p) s → (m : List Row) × (state_rows s ≡ item_row form (length (terminals_in p)) m ∷ (mark_row ∷ m))) where
  -- a reading by the forms, however names compare, gives the rows
  rows_given : (alike : ℕ → ℕ → Bool) (s : State) → ItemReading from alike (terminals_in p) s → rows_of_piece p ≡ state_rows s
  unfolding rows_of_piece
  rows_given alike s r =
      let e = (reads_items from item alike (terminals_in p) s).1 r in
      ap rows_read (is ∙ kinds_alone from item unlike alike (terminals_in p) ∙ e)

  -- none, because no form fits; or those of a reading, its own first and its type mark's second
  rows_known : (o : End State Refusal) → reading_of_piece p ≡ o
      → ((rows_read o ≡ []) × ((alike : ℕ → ℕ → Bool) (s : State) → ItemReading from alike (terminals_in p) s → ⊥))
      ⊎ ((m : List Row) × ((rows_read o ≡ item_row form (length p) m ∷ (mark_row ∷ m)) × ((s : State) × (ItemReading from unlike (terminals_in p) s × (rows_read o ≡ state_rows s)))))
  rows_known (read s) e =
      let r = (reads_items from item unlike (terminals_in p) s).0 (sym is ∙ e) in
      let h = shape s r in
      inr (h.0, (h.1 ∙ ap (λ (n : ℕ). item_row form n h.0 ∷ (mark_row ∷ h.0)) (terminals_length p), (s, (r, refl))))
  rows_known (bad k) e = inl (refl, λ alike s r. let z : ◌≡◌ {A = ℕ} 0 1 = cc ((reads_items from item alike (terminals_in p) s).1 r, kinds_alone from item unlike alike (terminals_in p)) in clash z)
  rows_known (stopped k x) e = inl (refl, λ alike s r. let z : ◌≡◌ {A = ℕ} 0 1 = cc ((reads_items from item alike (terminals_in p) s).1 r, kinds_alone from item unlike alike (terminals_in p)) in clash z)
  rows_known spent e = inl (refl, λ alike s r. let z : ◌≡◌ {A = ℕ} 0 1 = cc ((reads_items from item alike (terminals_in p) s).1 r, kinds_alone from item unlike alike (terminals_in p)) in clash z)

-- no rows, because no form fits; or those of a reading by the forms, its own row first and its type mark's second
abbrev pub Rows : Sym → ℕ → List ℕ → Type 0
Rows from form p =
    ((rows_of_piece p ≡ []) × ((alike : ℕ → ℕ → Bool) (s : State) → ItemReading from alike (terminals_in p) s → ⊥))
    ⊎ ((m : List Row) × ((rows_of_piece p ≡ item_row form (length p) m ∷ (mark_row ∷ m)) × ((s : State) × (ItemReading from unlike (terminals_in p) s × (rows_of_piece p ≡ state_rows s)))))

by_constant : (p : List ℕ) → get_or p 0 0 ≡ 53 → reading_of_piece p ≡ reading_from constant unlike (terminals_in p)
unfolding reading_of_piece
by_constant p e = rw (eq-eqb (get_or p 0 0) 53 e)

by_subtype : (p : List ℕ) → get_or p 0 0 ≡ 129 → reading_of_piece p ≡ reading_from subtype unlike (terminals_in p)
unfolding reading_of_piece
by_subtype p e = rw (ne_eqb (get_or p 0 0) 53 (λ z. absurd (omega arith)), eq-eqb (get_or p 0 0) 129 e)

pub constant_rows : (p : List ℕ) → get_or p 0 0 ≡ 53 → Rows constant 4 p
unfolding rows_of_piece
constant_rows p e = rows_known constant 4 (inl refl) p (by_constant p e) (begin_with_mark.0 unlike (terminals_in p)) (reading_of_piece p) refl

pub subtype_rows : (p : List ℕ) → get_or p 0 0 ≡ 129 → Rows subtype 5 p
unfolding rows_of_piece
subtype_rows p e = rows_known subtype 5 (inr refl) p (by_subtype p e) (begin_with_mark.1 unlike (terminals_in p)) (reading_of_piece p) refl

pub constant_read : (p : List ℕ) → get_or p 0 0 ≡ 53 → (alike : ℕ → ℕ → Bool) (s : State) → ItemReading constant alike (terminals_in p) s → rows_of_piece p ≡ state_rows s
constant_read p e = rows_given constant 4 (inl refl) p (by_constant p e) (begin_with_mark.0 unlike (terminals_in p))

pub subtype_read : (p : List ℕ) → get_or p 0 0 ≡ 129 → (alike : ℕ → ℕ → Bool) (s : State) → ItemReading subtype alike (terminals_in p) s → rows_of_piece p ≡ state_rows s
subtype_read p e = rows_given subtype 5 (inr refl) p (by_subtype p e) (begin_with_mark.1 unlike (terminals_in p))

-- any other piece has none
pub other_rows : (p : List ℕ) → (get_or p 0 0 ≡ 53 → ⊥) → (get_or p 0 0 ≡ 129 → ⊥) → rows_of_piece p ≡ []
unfolding rows_of_piece reading_of_piece
other_rows p d e = rw (ne_eqb (get_or p 0 0) 53 d, ne_eqb (get_or p 0 0) 129 e)

-- the rows of any piece are a forest within its elements
pub piece_forest : (p : List ℕ) → Forest 0 (length p) (rows_of_piece p)
piece_forest p = go (eqb (get_or p 0 0) 53) (eqb (get_or p 0 0) 129) refl refl
  where
    none : rows_of_piece p ≡ [] → Forest 0 (length p) (rows_of_piece p)
    none e = subst (Forest 0 (length p)) (sym e) (bare (omega arith))

    some : (m : ℕ) (s : State) → ItemReading (nt m) unlike (terminals_in p) s → rows_of_piece p ≡ state_rows s → Forest 0 (length p) (rows_of_piece p)
    some m s r e = subst (λ (n : ℕ). Forest 0 n (rows_of_piece p)) (terminals_length p) (subst (Forest 0 (length (terminals_in p))) (sym e) (forest_from m unlike (terminals_in p) s r))

    go : (a b : Bool) → eqb (get_or p 0 0) 53 ≡ a → eqb (get_or p 0 0) 129 ≡ b → Forest 0 (length p) (rows_of_piece p)
    go true b e f = ⊎_elim (λ h. none h.0) (λ h. some (name_number constant) h.1.1.0 h.1.1.1.0 h.1.1.1.1) (constant_rows p (eqb-true (get_or p 0 0) 53 e))
    go false true e f = ⊎_elim (λ h. none h.0) (λ h. some (name_number subtype) h.1.1.0 h.1.1.1.0 h.1.1.1.1) (subtype_rows p (eqb-true (get_or p 0 0) 129 f))
    go false false e f = none (other_rows p (eqb-false (get_or p 0 0) 53 e) (eqb-false (get_or p 0 0) 129 f))
