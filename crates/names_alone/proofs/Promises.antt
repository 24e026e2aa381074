-- The names of a text by themselves: from the lines of the text to its rows, elements and pieces. Assumes nothing.
use Prim.Native.Nat.{ℕ, zero, suc, pred, ◌+◌, ◌-◌, ◌≤◌}
use mathlib.Core.Path.{◌≡◌, refl, sym, ap, subst, ◌∙◌}
use mathlib.Core.Bool.{Bool, true, false, ◌||◌}
use mathlib.Core.List.{List, [], ◌∷◌, ◌++◌}
use native.Mathlib.Nat.{le_refl}
use native.Mathlib.Omega.{arith}
use lib.ListN.{length, take, drop}
use Rattle.classes.specs.Signs.{ends_line}
use Rattle.elements.specs.Kinds.{kind_number}
use Rattle.elements.specs.Element.{ticks_after, element_at}
use Rattle.elements.specs.declared.Kind.{Kind}
use Rattle.elements.specs.declared.Literal.{Literal}
use Rattle.elements.specs.declared.Front.{Front}
use Rattle.elements.specs.declared.Front.TheVariants.{Skip, Element}
use Rattle.elements.proofs.Sizes.{size_of, element_good}
use Rattle.element_reading.specs.Rows.{ElementRow, onto, lines_of, line_rows, lines_rows, rows_of}
use Rattle.element_reading.proofs.TextLaws.{lines_ended, lines_byte}
use Rattle.pieces.specs.Cutting.{cut, joined}
use Rattle.places.specs.Kinds.{identifier_kind, extended_kind}
use Rattle.meaning.specs.Elements.{Piece, at}
use Rattle.meaning.specs.Pieces.{cuts_after, cuts_before, elements_of, pieces_of}
use Rattle.meaning.specs.Together.{piece_at}
use Rattle.names_alone.specs.Alone.{ReadsAs, Alone, NamesAlone}
use Rattle.names_alone.proofs.Names.{basic_alone, extended_alone}

-- ---- one element

-- the bytes of an element of a kind, where that is a name's, read as it by themselves
abbrev Reads : Kind → List ℕ → Type 0
Reads Kind.Identifier n = ReadsAs Kind.Identifier n
Reads Kind.Extended n = ReadsAs Kind.Extended n
Reads (Kind.Literal l) n = Unit {0}
Reads Kind.Unreadable n = Unit {0}
Reads (Kind.Delimiter k) n = Unit {0}
Reads (Kind.Reserved k) n = Unit {0}

reads : (ticks : Bool) (s : List ℕ) (k : Kind) (n : ℕ) → n ≤ length s → element_at ticks s ≡ Element k n → Reads k (take n s)
reads ticks s Kind.Identifier n l e = basic_alone ticks s n l e
reads ticks s Kind.Extended n l e = extended_alone ticks s n l e
reads ticks s (Kind.Literal i) n l e = tt
reads ticks s Kind.Unreadable n l e = tt
reads ticks s (Kind.Delimiter k) n l e = tt
reads ticks s (Kind.Reserved k) n l e = tt

element_size : (ticks : Bool) (b : ℕ) (l : List ℕ) (k : Kind) (n : ℕ) → element_at ticks (b ∷ l) ≡ Element k n → n ≤ suc (length l)
element_size ticks b l k n e = subst (λ (f : Front). size_of f ≤ suc (length l)) e (element_good b l ticks).1

-- ---- the rows of a text

-- the first line is what the text begins with
take_front : (n : ℕ) (l s : List ℕ) → take (length l) s ≡ l → n ≤ length l → take n s ≡ take n l
take_front zero l s e h = refl
take_front (suc n) [] s e h = absurd (omega arith)
take_front (suc n) (b ∷ l) [] e h = let z : ◌≡◌ {A = List ℕ} [] (b ∷ l) = e in cc
take_front (suc n) (b ∷ l) (c ∷ s) e h = let z : c ≡ b = cc in let w : take (length l) s ≡ l = cc in let v = take_front n l s w (omega arith) in cc

-- rows that begin at the byte `from` or after it, where the text goes on with these bytes
abbrev Each : ℕ → List ℕ → List ElementRow → Type 0
Each from s [] = Unit {0}
Each from s (r ∷ rs) = (from ≤ r.first) × Reads r.kind (take r.size (drop (r.first - from) s)) × Each from s rs

each_next : (from b : ℕ) (s : List ℕ) (rs : List ElementRow) → Each (suc from) s rs → Each from (b ∷ s) rs
each_next from b s [] h = tt
each_next from b s (r ∷ rs) h =
    let z : r.first - from ≡ suc (r.first - suc from) = omega (arith, h.0) in
    (omega (arith, h.0), subst (λ (i : ℕ). Reads r.kind (take r.size (drop i (b ∷ s)))) (sym z) h.1, each_next from b s rs h.2)

-- the rows of lines, the first of which is the rest of one
abbrev rest_rows : ℕ → ℕ → Bool → List (List ℕ) → List ElementRow
rest_rows k from ticks [] = []
rest_rows k from ticks (l ∷ ls) = line_rows k from ticks l ++ lines_rows (suc (from + length l)) ls

-- a byte of a line: skipped, or an element's first
byte : (b : ℕ) (s l : List ℕ) (ls : List (List ℕ)) → take (length l) s ≡ l → (k from : ℕ) (ticks : Bool) → ((k : ℕ) (ticks : Bool) → Each (suc from) s (rest_rows k (suc from) ticks (l ∷ ls)))
    → Each from (b ∷ s) (rest_rows k from ticks ((b ∷ l) ∷ ls))
unfolding line_rows
byte b s l ls front k from ticks h = go k
  where
    rest : (k : ℕ) (ticks : Bool) → Each (suc from) s (line_rows k (suc from) ticks l ++ lines_rows (suc (from + suc (length l))) ls)
    rest k ticks = let z : suc (suc from + length l) ≡ suc (from + suc (length l)) = omega arith in subst (λ (i : ℕ). Each (suc from) s (line_rows k (suc from) ticks l ++ lines_rows i ls)) z (h k ticks)

    whole : take (length (b ∷ l)) (b ∷ s) ≡ b ∷ l
    whole = ap (λ (t : List ℕ). b ∷ t) front

    first : (f : Front) → element_at ticks (b ∷ l) ≡ f
        → Each from (b ∷ s) (elim f [ Skip n ↦ line_rows (pred n) (suc from) ticks l | Element k n ↦ record { kind = k; first = from; size = n } ∷ line_rows (pred n) (suc from) (ticks_after k) l ] ++ lines_rows (suc (from + suc (length l))) ls)
    first (Skip n) e = each_next from b s (line_rows (pred n) (suc from) ticks l ++ lines_rows (suc (from + suc (length l))) ls) (rest (pred n) ticks)
    first (Element k n) e =
        let z : from - from ≡ 0 = omega arith in
        let m = element_size ticks b l k n e in
        let t : take n (b ∷ s) ≡ take n (b ∷ l) = take_front n (b ∷ l) (b ∷ s) whole m in
        (le_refl from, subst (λ (i : ℕ). Reads k (take n (drop i (b ∷ s)))) (sym z) (subst (Reads k) (sym t) (reads ticks (b ∷ l) k n m e)), each_next from b s (line_rows (pred n) (suc from) (ticks_after k) l ++ lines_rows (suc (from + suc (length l))) ls) (rest (pred n) (ticks_after k)))

    go : (k : ℕ) → Each from (b ∷ s) (line_rows k from ticks (b ∷ l) ++ lines_rows (suc (from + suc (length l))) ls)
    go zero = first (element_at ticks (b ∷ l)) refl
    go (suc k) = each_next from b s (line_rows k (suc from) ticks l ++ lines_rows (suc (from + suc (length l))) ls) (rest k ticks)

-- a text's first line, and the others
record Lines (s : List ℕ) : Type 0 where
  line : List ℕ
  others : List (List ℕ)
  are : lines_of s ≡ line ∷ others
  front : take (length line) s ≡ line

lines_first : (s : List ℕ) → Lines s
unfolding lines_of
lines_first [] = record { line = []; others = []; are = refl; front = refl }
lines_first (b ∷ s) = go (ends_line b) refl (lines_first s)
  where
    go : (x : Bool) → ends_line b ≡ x → Lines s → Lines (b ∷ s)
    go true e f = record { line = []; others = lines_of s; are = lines_ended b s e; front = refl }
    go false e f = record { line = b ∷ f.line; others = f.others; are = lines_byte b s e ∙ ap (onto b) f.are; front = ap (λ (t : List ℕ). b ∷ t) f.front }

each_lines : (s : List ℕ) (k from : ℕ) (ticks : Bool) → Each from s (rest_rows k from ticks (lines_of s))
unfolding lines_of line_rows lines_rows
each_lines [] zero from ticks = tt
each_lines [] (suc k) from ticks = tt
each_lines (b ∷ s) k from ticks = go (ends_line b) refl (lines_first s) (λ k ticks. each_lines s k (suc from) ticks)
  where
    ended : (k : ℕ) (ls : List (List ℕ)) → rest_rows k from ticks ([] ∷ ls) ≡ lines_rows (suc from) ls
    ended zero ls = let z : suc (from + 0) ≡ suc from = omega arith in ap (λ (i : ℕ). lines_rows i ls) z
    ended (suc k) ls = let z : suc (from + 0) ≡ suc from = omega arith in ap (λ (i : ℕ). lines_rows i ls) z

    go : (x : Bool) → ends_line b ≡ x → Lines s → ((k : ℕ) (ticks : Bool) → Each (suc from) s (rest_rows k (suc from) ticks (lines_of s)))
        → Each from (b ∷ s) (rest_rows k from ticks (lines_of (b ∷ s)))
    go true e f ih =
        subst (λ m. Each from (b ∷ s) (rest_rows k from ticks m)) (sym (lines_ended b s e ∙ ap (λ (m : List (List ℕ)). [] ∷ m) f.are))
        (subst (λ (rs : List ElementRow). Each from (b ∷ s) rs) (sym (ended k (f.line ∷ f.others))) (each_next from b s (lines_rows (suc from) (f.line ∷ f.others)) (subst (λ m. Each (suc from) s (rest_rows 0 (suc from) false m)) f.are (ih 0 false))))
    go false e f ih =
        subst (λ m. Each from (b ∷ s) (rest_rows k from ticks m)) (sym (lines_byte b s e ∙ ap (onto b) f.are))
        (byte b s f.line f.others f.front k from ticks (λ k ticks. subst (λ m. Each (suc from) s (rest_rows k (suc from) ticks m)) f.are (ih k ticks)))

each_row : (s : List ℕ) → Each 0 s (rows_of s)
unfolding rows_of lines_rows
each_row s = go (lines_first s) (each_lines s 0 0 false)
  where
    go : Lines s → Each 0 s (rest_rows 0 0 false (lines_of s)) → Each 0 s (lines_rows 0 (lines_of s))
    go f h = subst (λ m. Each 0 s (lines_rows 0 m)) (sym f.are) (subst (λ m. Each 0 s (rest_rows 0 0 false m)) f.are h)

-- ---- elements and pieces

abbrev AllAlone : Piece → Type 0
AllAlone [] = Unit {0}
AllAlone (x ∷ p) = Alone x × AllAlone p

abbrev EachAlone : List Piece → Type 0
EachAlone [] = Unit {0}
EachAlone (p ∷ ps) = AllAlone p × EachAlone ps

by_kind_lem : (k : Kind) (n : List ℕ) → Reads k n → (kind_number k ≡ identifier_kind → ReadsAs Kind.Identifier n) × (kind_number k ≡ extended_kind → ReadsAs Kind.Extended n)
by_kind_lem Kind.Identifier n h = ((λ e. h), λ e. absurd (omega arith))
by_kind_lem Kind.Extended n h = ((λ e. absurd (omega arith)), λ e. h)
by_kind_lem (Kind.Literal Literal.Integer) n h = ((λ e. absurd (omega arith)), λ e. absurd (omega arith))
by_kind_lem (Kind.Literal Literal.Real) n h = ((λ e. absurd (omega arith)), λ e. absurd (omega arith))
by_kind_lem (Kind.Literal Literal.Character) n h = ((λ e. absurd (omega arith)), λ e. absurd (omega arith))
by_kind_lem (Kind.Literal Literal.String) n h = ((λ e. absurd (omega arith)), λ e. absurd (omega arith))
by_kind_lem Kind.Unreadable n h = ((λ e. absurd (omega arith)), λ e. absurd (omega arith))
by_kind_lem (Kind.Delimiter k) n h = ((λ e. absurd (omega arith)), λ e. absurd (omega arith))
by_kind_lem (Kind.Reserved k) n h = ((λ e. absurd (omega arith)), λ e. absurd (omega arith))

elements_alone : (s : List ℕ) (rs : List ElementRow) → Each 0 s rs → AllAlone (elements_of s rs)
unfolding elements_of
elements_alone s [] h = tt
elements_alone s (r ∷ rs) h =
    let z : r.first - 0 ≡ r.first = omega arith in
    (by_kind_lem r.kind (take r.size (drop r.first s)) (subst (λ (i : ℕ). Reads r.kind (take r.size (drop i s))) z h.1), elements_alone s rs h.2)

cut_alone : (p : Piece) → AllAlone p → EachAlone (cut cuts_after cuts_before p)
unfolding cut
cut_alone [] h = tt
cut_alone (x ∷ []) h = (h, tt)
cut_alone (x ∷ y ∷ p) h = front (cuts_after x || cuts_before y) (cut cuts_after cuts_before (y ∷ p)) (cut_alone (y ∷ p) h.1)
  where
    front : (b : Bool) (ps : List Piece) → EachAlone ps → EachAlone (joined cuts_after cuts_before b x ps)
    front true ps k = ((h.0, tt), k)
    front false [] k = ((h.0, tt), tt)
    front false (q ∷ ps) k = ((h.0, k.0), k.1)

all_at : (p : Piece) (i : ℕ) → AllAlone p → Alone (at p i)
unfolding at
all_at [] i h = ((λ e. absurd (omega arith)), λ e. absurd (omega arith))
all_at (x ∷ p) zero h = h.0
all_at (x ∷ p) (suc i) h = all_at p i h.1

each_at : (ps : List Piece) (j : ℕ) → EachAlone ps → AllAlone (piece_at ps j)
each_at [] j h = tt
each_at (p ∷ ps) zero h = h.0
each_at (p ∷ ps) (suc j) h = each_at ps j h.1

pub names_alone : NamesAlone
unfolding pieces_of
names_alone s j i = all_at (piece_at (pieces_of s) j) i (each_at (pieces_of s) j (cut_alone (elements_of s (rows_of s)) (elements_alone s (rows_of s) (each_row s))))
