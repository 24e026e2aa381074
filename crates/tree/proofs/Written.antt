-- The rows of the pieces so far, and zeros after them: the turns of `read_pieces`, in the code's terms. Assumes nothing.
use Prim.Native.Nat.{ℕ, zero, suc, ◌+◌, ◌-◌, ◌*◌, ◌/◌, ◌≤◌, ◌<◌, min}
use mathlib.Core.Path.{◌≡◌, refl, sym, ◌∙◌, ap, ap₂, subst}
use mathlib.Core.List.{List, [], ◌∷◌, ◌++◌, append_assoc, append-nil}
use native.Mathlib.Omega.{arith}
use lib.ListN.{length, get_or, take, drop, length-append, length-drop, drop_of_length-le}
use lib.Seq.{sets, drop-drop, take_at, drop_at, length-take-le}
use Rattle.classes.proofs.Laws.{part_rest}
use Rattle.pieces.specs.Cutting.{piece_size, cut}
use Rattle.pieces.specs.Kinds.{kind_pieces, closes_piece, opens_piece}
use Rattle.places.specs.Places.{rows_from, kinds_of}
use Rattle.places.proofs.Laws.{kinds_length, kinds_end}
use Rattle.pieces.proofs.Laws.{size_some, size_inside, at_less, first_piece}
use Rattle.forms.specs.RowWords.{words_of}
use Rattle.tree.specs.code.PieceRows.{rows_of_piece, piece_words, pieces_words, elements_for_items, item_rows}
use Rattle.tree.proofs.Zeros.{zeros, zeros_size, zeros_append}
use Rattle.tree.proofs.Final.{filled}
use Rattle.tree.proofs.Pieces.{rows_few}
use Rattle.tree.proofs.ItemRows.{piece_size_lem}

-- the kinds of a part of the table
kinds_drop : (n at : ℕ) (t : List ℕ) → at ≤ n → drop at (kinds_of n t) ≡ kinds_of (n - at) (drop (3 * at) t)
unfolding kinds_of
kinds_drop n zero t h = let z : n ≡ n - 0 = omega arith in ap (λ (k : ℕ). kinds_of k t) z
kinds_drop zero (suc at) t h = absurd (omega arith)
kinds_drop (suc n) (suc at) t h =
    let z : n - at ≡ suc n - suc at = omega arith in
    let y : 3 + 3 * at ≡ 3 * suc at = omega arith in
    kinds_drop n at (drop 3 t) (omega arith) ∙ ap₂ (λ (k : ℕ) (l : List ℕ). kinds_of k l) z (drop-drop (3 * at) 3 t ∙ ap (λ (k : ℕ). drop k t) y)

kinds_take : (r m : ℕ) (t : List ℕ) → r ≤ m → take r (kinds_of m t) ≡ kinds_of r t
unfolding kinds_of
kinds_take zero m t h = refl
kinds_take (suc r) zero t h = absurd (omega arith)
kinds_take (suc r) (suc m) t h = ap (λ (l : List ℕ). get_or t 0 0 ∷ l) (kinds_take r m (drop 3 t) (omega arith))

kinds_part : (n at r : ℕ) (t : List ℕ) → at + r ≤ n → kinds_of r (drop (3 * at) t) ≡ take r (drop at (kinds_of n t))
kinds_part n at r t h = sym (ap (take r) (kinds_drop n at t (omega arith)) ∙ kinds_take r (n - at) (drop (3 * at) t) (omega arith))

part_size : (l : List ℕ) (i k : ℕ) → i + k ≤ length l → k ≤ length (take (length l - i) (drop i l))
part_size l i k h = rw (part_rest l i) (omega (arith, length-drop i l))

-- the words before element `at`, and that the words of the other pieces come after them
pub record Written (n : ℕ) (t rows : List ℕ) (words at : ℕ) : Type 0 where
  pub ready : List ℕ
  pub many : length ready ≡ 5 * at
  pub stands : rows ≡ ready ++ zeros (words - 5 * at)
  pub rest : ready ++ pieces_words (kind_pieces (drop at (kinds_of n t))) ≡ pieces_words (kind_pieces (kinds_of n t))

pub written_start : (n : ℕ) (t rows : List ℕ) → rows ≡ zeros (length rows) → Written n t rows (length rows) 0
written_start n t rows e = let z : length rows ≡ length rows - 5 * 0 = omega arith in record { ready = []; many = refl; stands = e ∙ ap zeros z; rest = refl }

module _ (n : ℕ) (t : List ℕ) (at r words : ℕ) (room : 3 * n ≤ length t) (fits : 5 * n ≤ words) (l : at < n)
    (e : r ≡ piece_size closes_piece opens_piece (drop at (kinds_of (min n (length t / 3)) t))) where
  sized : r ≡ piece_size closes_piece opens_piece (drop at (kinds_of n t))
  sized = let z : min n (length t / 3) ≡ n = omega arith in e ∙ ap (λ (k : ℕ). piece_size closes_piece opens_piece (drop at (kinds_of k t))) z

  pub turn_some : 1 ≤ r
  turn_some = size_some n t at r sized l

  pub turn_inside : at + r ≤ n
  turn_inside = size_inside n t at r sized l

  pub turn_less : n - (at + r) < n - at
  turn_less = at_less n t at r sized l

  pub turn_part : (part : List ℕ) → part ≡ rows_from t at → 3 * r ≤ length part
  turn_part part q = omega (arith, turn_inside, ap length q, length-drop (3 * at) t)

  pub turn_room : (rows : List ℕ) → length rows ≡ words → 5 * r ≤ length (take (length rows - 5 * at) (drop (5 * at) rows))
  turn_room rows h = part_size rows (5 * at) (5 * r) (omega (arith, turn_inside))

  abbrev piece : List ℕ
  piece = take r (drop at (kinds_of n t))

  piece_length : length piece ≡ r
  piece_length = length-take-le r (drop at (kinds_of n t)) (omega (arith, turn_inside, length-drop at (kinds_of n t), kinds_length n t))

  piece_kinds_lem : (part : List ℕ) → part ≡ rows_from t at → kinds_of r part ≡ piece
  piece_kinds_lem part q = ap (kinds_of r) q ∙ kinds_part n at r t turn_inside

  few : length (rows_of_piece piece) ≤ r
  few = subst (λ (x : ℕ). length (rows_of_piece piece) ≤ x) piece_length (rows_few piece)

  -- the part of the row table from the piece's on, zeros, with the piece's rows stored
  stored : sets (zeros (words - 5 * at)) 0 (words_of (rows_of_piece piece)) ≡ piece_words piece ++ zeros (words - 5 * (at + r))
  unfolding piece_words
  stored =
      let i = turn_inside in
      let f = few in
      let g = piece_length in
      let a : ℕ = 5 * length piece - 5 * length (rows_of_piece piece) in
      let z : words - 5 * at - 5 * length (rows_of_piece piece) ≡ a + (words - 5 * (at + r)) = omega arith in
      filled (words - 5 * at) (rows_of_piece piece) (omega arith)
      ∙ ap (λ (k : List ℕ). words_of (rows_of_piece piece) ++ k) (ap zeros z ∙ zeros_append a (words - 5 * (at + r)))
      ∙ sym (append_assoc (words_of (rows_of_piece piece)) (zeros a) (zeros (words - 5 * (at + r))))

  module _ (part rows ys : List ℕ) (q : part ≡ rows_from t at) (h : length rows ≡ words) (g : Written n t rows words at)
      (w : ys ≡ sets (take (length rows - 5 * at) (drop (5 * at) rows)) 0 (words_of (rows_of_piece (kinds_of r part)))) where
    behind : drop (5 * at) rows ≡ zeros (words - 5 * at)
    behind = ap (drop (5 * at)) g.stands ∙ drop_at g.ready (zeros (words - 5 * at)) (5 * at) g.many

    front : take (5 * at) rows ≡ g.ready
    front = ap (take (5 * at)) g.stands ∙ take_at g.ready (zeros (words - 5 * at)) (5 * at) g.many

    filled_part : ys ≡ piece_words piece ++ zeros (words - 5 * (at + r))
    filled_part =
        w
        ∙ ap₂ (λ (x y : List ℕ). sets x 0 (words_of (rows_of_piece y))) (part_rest rows (5 * at) ∙ behind) (piece_kinds_lem part q)
        ∙ stored

    past_end : drop (length rows - 5 * at) (drop (5 * at) rows) ≡ []
    past_end = drop_of_length-le (drop (5 * at) rows) {i = length rows - 5 * at} (omega (arith, length-drop (5 * at) rows))

    now_is : take (5 * at) rows ++ (ys ++ drop (length rows - 5 * at) (drop (5 * at) rows)) ≡ (g.ready ++ piece_words piece) ++ zeros (words - 5 * (at + r))
    now_is =
        ap₂ (λ (x y : List ℕ). x ++ (ys ++ y)) front past_end
        ∙ ap (λ (x : List ℕ). g.ready ++ x) (append-nil ys ∙ filled_part)
        ∙ sym (append_assoc g.ready (piece_words piece) (zeros (words - 5 * (at + r))))

    pub turn_written : Written n t (take (5 * at) rows ++ (ys ++ drop (length rows - 5 * at) (drop (5 * at) rows))) words (at + r)
    unfolding pieces_words
    turn_written =
        record {
          ready = g.ready ++ piece_words piece;
          many = omega (arith, length-append g.ready (piece_words piece), g.many, piece_size_lem piece, piece_length);
          stands = now_is;
          rest =
              append_assoc g.ready (piece_words piece) (pieces_words (kind_pieces (drop (at + r) (kinds_of n t))))
              ∙ ap (λ (ps : List (List ℕ)). g.ready ++ pieces_words ps) (sym (first_piece n t at r sized l))
              ∙ g.rest;
        }

    pub turn_length : length (take (5 * at) rows ++ (ys ++ drop (length rows - 5 * at) (drop (5 * at) rows))) ≡ words
    turn_length =
        let i = turn_inside in
        omega (arith, ap length now_is, length-append (g.ready ++ piece_words piece) (zeros (words - 5 * (at + r))), length-append g.ready (piece_words piece), g.many, piece_size_lem piece, piece_length, zeros_size (words - 5 * (at + r)))

pub written_end : (n : ℕ) (t rows : List ℕ) (words at : ℕ) → at ≤ n → n ≤ at → Written n t rows words at → rows ≡ pieces_words (kind_pieces (kinds_of n t)) ++ zeros (words - 5 * n)
unfolding pieces_words cut
written_end n t rows words at h k g =
    let z : words - 5 * at ≡ words - 5 * n = omega arith in
    let d : g.ready ≡ pieces_words (kind_pieces (kinds_of n t)) =
    sym (append-nil g.ready) ∙ sym (ap (λ (x : List ℕ). g.ready ++ pieces_words (kind_pieces x)) (kinds_end t n at k)) ∙ g.rest in
    g.stands ∙ ap₂ (λ (x : List ℕ) (y : ℕ). x ++ zeros y) d z

-- the whole table
module _ (t : List ℕ) (count n words room : ℕ) (same : room ≡ words) (a : n ≡ min (min (min count (length t / 3)) (room / 5)) 8192) where
  pub all_rows : (rows : List ℕ) → rows ≡ pieces_words (kind_pieces (kinds_of n t)) ++ zeros (room - 5 * n) → rows ≡ item_rows t count words
  unfolding item_rows
  all_rows rows e =
      let z : n ≡ elements_for_items t count words = omega arith in
      e ∙ ap₂ (λ (k w : ℕ). pieces_words (kind_pieces (kinds_of k t)) ++ zeros (w - 5 * k)) z same
