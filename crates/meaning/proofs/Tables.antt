-- The element table of a text holds its elements: each by its number, and one of no kind past the last. Assumes nothing.
use mathlib.Core.Path.{◌≡◌, refl, sym, ap, ◌∙◌}
use mathlib.Core.Bool.{Bool, true, false}
use mathlib.Core.List.{List, [], ◌∷◌, ◌++◌}
use Prim.Native.Nat.{ℕ, zero, suc, ◌+◌, ◌*◌, ◌/◌, ◌≤◌, ◌<◌}
use native.Mathlib.Omega.{arith}
use borrow.Author.Tests.{ltb-false}
use lib.Dec.{ltb}
use lib.ListN.{length, get_or, take, drop, replicate, length-append, length-replicate}
use Rattle.places.specs.Places.{cell_at}
use Rattle.elements.specs.Kinds.{kind_number}
use Rattle.element_reading.specs.Rows.{ElementRow}
use Rattle.element_reading.specs.Table.{cells}
use Rattle.element_reading.specs.Promises.{InOrder}
use Rattle.element_reading.proofs.TableLaws.{length_cells}
use Rattle.places.specs.Places.{kinds_of}
use Rattle.operands.specs.code.Operands.{bytes_at}
use Rattle.meaning.specs.Elements.{Element, at}
use Rattle.meaning.specs.Pieces.{elements_of, kinds_in_piece}
use Rattle.laws.proofs.Laws.{zeros_at}

-- element e of a text and its element table
unfoldable pub element_at : List ℕ → List ℕ → ℕ → Element
element_at text table e = record { kind = cell_at table e 0; bytes = bytes_at text table e }

-- word j of row e, 0 past the last
unfoldable pub row_word : List ElementRow → ℕ → ℕ → ℕ
row_word [] e j = 0
row_word (r ∷ rs) zero j = get_or (kind_number r.kind ∷ r.first ∷ r.size ∷ []) j 0
row_word (r ∷ rs) (suc e) j = row_word rs e j

in_row : (j : ℕ) (a b c : ℕ) (l : List ℕ) → j < 3 → get_or (a ∷ b ∷ c ∷ l) j 0 ≡ get_or (a ∷ b ∷ c ∷ []) j 0
in_row zero a b c l h = refl
in_row (suc zero) a b c l h = refl
in_row (suc (suc zero)) a b c l h = refl
in_row (suc (suc (suc j))) a b c l h = absurd (omega arith)

word_at_lem : (rs : List ElementRow) (z e j : ℕ) → j < 3 → get_or (cells rs ++ replicate z 0) (3 * e + j) 0 ≡ row_word rs e j
unfolding cells row_word
word_at_lem [] z e j h = zeros_at z (3 * e + j)
word_at_lem (r ∷ rs) z zero j h =
    let k : 3 * zero + j ≡ j = omega arith in
    ap (λ (i : ℕ). get_or (kind_number r.kind ∷ r.first ∷ r.size ∷ (cells rs ++ replicate z 0)) i 0) k
    ∙ in_row j (kind_number r.kind) r.first r.size (cells rs ++ replicate z 0) h
word_at_lem (r ∷ rs) z (suc e) j h =
    let k : 3 * suc e + j ≡ suc (suc (suc (3 * e + j))) = omega arith in
    ap (λ (i : ℕ). get_or (kind_number r.kind ∷ r.first ∷ r.size ∷ (cells rs ++ replicate z 0)) i 0) k ∙ word_at_lem rs z e j h

past_row : (rs : List ElementRow) (e j : ℕ) → length rs ≤ e → row_word rs e j ≡ 0
unfolding row_word
past_row [] e j h = refl
past_row (r ∷ rs) zero j h = absurd (omega arith)
past_row (r ∷ rs) (suc e) j h = past_row rs e j (omega arith)

-- the words of the table
pub cell_word : (rs : List ElementRow) (z e j : ℕ) → j < 3 → cell_at (cells rs ++ replicate z 0) e j ≡ row_word rs e j
unfolding cell_at
cell_word rs z e j h = go (ltb e (length (cells rs ++ replicate z 0) / 3)) refl
  where
    long : length (cells rs ++ replicate z 0) ≡ 3 * length rs + z
    long = rw (length-append (cells rs) (replicate z 0), length_cells rs, length-replicate {A = ℕ} z 0)

    go : (b : Bool) → ltb e (length (cells rs ++ replicate z 0) / 3) ≡ b → cell_at (cells rs ++ replicate z 0) e j ≡ row_word rs e j
    go true t = rw t (word_at_lem rs z e j h)
    go false t = rw t (sym (past_row rs e j (omega (arith, ltb-false e (length (cells rs ++ replicate z 0) / 3) t, long))))

element_row : (text : List ℕ) (rs : List ElementRow) (e : ℕ) → at (elements_of text rs) e ≡ record { kind = row_word rs e 0; bytes = take (row_word rs e 2) (drop (row_word rs e 1) text) }
unfolding at elements_of row_word
element_row text [] e = refl
element_row text (r ∷ rs) zero = refl
element_row text (r ∷ rs) (suc e) = element_row text rs e

-- the table's element is the text's
pub element_at_lem : (text : List ℕ) (rs : List ElementRow) (z e : ℕ) → element_at text (cells rs ++ replicate z 0) e ≡ at (elements_of text rs) e
unfolding element_at bytes_at
element_at_lem text rs z e =
    rw (cell_word rs z e 0 (omega arith), cell_word rs z e 1 (omega arith), cell_word rs z e 2 (omega arith)) (sym (element_row text rs e))

-- every row stands in the text
pub row_within : (rs : List ElementRow) (from end e : ℕ) → InOrder from rs end → row_word rs e 1 + row_word rs e 2 ≤ end
unfolding row_word
row_within [] from end e h = omega arith
row_within (r ∷ []) from end zero h = h.2
row_within (r ∷ q ∷ rs) from end zero h = omega (arith, h.2.0, row_within (q ∷ rs) (r.first + r.size) end 0 h.2)
row_within (r ∷ rs) from end (suc e) h = row_within rs (r.first + r.size) end e h.2

-- the kinds of a table are those of its elements
pub kinds_of_lem : (text : List ℕ) (rs : List ElementRow) (l : List ℕ) → kinds_of (length rs) (cells rs ++ l) ≡ kinds_in_piece (elements_of text rs)
unfolding kinds_of cells kinds_in_piece elements_of
kinds_of_lem text [] l = refl
kinds_of_lem text (r ∷ rs) l = ap (λ (ks : List ℕ). kind_number r.kind ∷ ks) (kinds_of_lem text rs l)
