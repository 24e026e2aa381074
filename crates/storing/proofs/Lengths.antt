-- A name leaves room in a text for the words of its heading: so two bytes always hold the length of a field. Assumes nothing.
use Rattle.std.proofs.Common.{Option, Some, None}
use mathlib.Core.Path.{◌≡◌, refl, sym, ap, subst, ◌∙◌}
use mathlib.Core.Bool.{Bool, true, false, cond, not, ◌&&◌}
use mathlib.Core.List.{List, [], ◌∷◌, ◌++◌}
use Prim.Native.Nat.{ℕ, zero, suc, pred, ◌+◌, ◌≤◌, ◌<◌}
use Prim.Native.String.{String}
use native.Mathlib.Omega.{arith}
use borrow.Author.Tests.{eq-eqb, eqb-true, ne_eqb}
use lib.Dec.{eqb}
use lib.ListN.{length, get_or, take, drop, length-drop}
use lib.Seq.{length-take-le}
use Rattle.laws.proofs.Laws.{clash, both_left}
use Rattle.classes.specs.Signs.{separates, is_graphic}
use Rattle.classes.specs.Bytes.{is_letter, is_digit}
use Rattle.classes.specs.Bytes as bytes
use Rattle.classes.specs.Signs as signs
use Rattle.classes.specs.Runs.{run}
use Rattle.classes.specs.declared.Run.TheVariants.{Word}
use Rattle.words.specs.Words.{bytes_of, begins, spells, place_from, place_in, reserved_words, delimiters}
use Rattle.words.proofs.Laws.{place_below}
use Rattle.numbers.specs.Numbers.{number}
use Rattle.numbers.specs.declared.Number.{Number}
use Rattle.numbers.specs.declared.Number.TheVariants as N
use Rattle.quoted.specs.Quoted.{closed}
use Rattle.elements.specs.Kinds.{kind_number}
use Rattle.elements.specs.Element.{ticks_after, first_is, first_are, unreadable_front, identifier_by, identifier_front, extended_by, extended_front, numeral_by, string_by, string_front, apostrophe_front, delimiter_by, delimiter_front, ruled, spoils, unless_spoilt, element_at}
use Rattle.elements.specs.declared.Kind.{Kind}
use Rattle.elements.specs.declared.Literal.{Literal}
use Rattle.elements.specs.declared.Front.{Front}
use Rattle.elements.specs.declared.Front.TheVariants.{Skip, Element}
use Rattle.element_reading.specs.Rows.{ElementRow, lines_of, line_rows, lines_rows, rows_of}
use Rattle.element_reading.specs.Promises.{InOrder}
use Rattle.element_reading.proofs.Promises.{stand_in_order}
use Rattle.pieces.specs.Kinds.{is_heading}
use Rattle.meaning.specs.Elements.{Piece, at}
use Rattle.meaning.specs.Pieces.{kinds_in_piece, elements_of, pieces_of}
use Rattle.meaning.specs.Elements as worded
use Rattle.meaning.proofs.Cutting.{join_all, cut_joins, kinds_length}
use Rattle.meaning.proofs.Begun.{kinds_at_lem}
use Rattle.meaning.proofs.Words.{piece_at}
use Rattle.storing.proofs.Held.{heading_parts}

-- ---- words of a list by their numbers

-- how many bytes word n of a list has, its first being number k
unfoldable size_from : ℕ → ℕ → List String → ℕ
size_from k n [] = 0
size_from k n (x ∷ xs) = cond (eqb n k) (length (bytes_of x)) (size_from (suc k) n xs)

same_place : (a b : ℕ) → Some a ≡ Some b → a ≡ b
same_place a b e = cc

place_from_lem : (xs : List String) (k n : ℕ) (w : List ℕ) → place_from k w xs ≡ Some n → k ≤ n
unfolding place_from
place_from_lem [] k n w e = let z : ◌≡◌ {A = ℕ} 0 1 = cc in clash z
place_from_lem (x ∷ xs) k n w e = go (spells w x) e (λ q. place_from_lem xs (suc k) n w q)
  where
    go : (b : Bool) → elim b [ true ↦ Some k | false ↦ place_from (suc k) w xs ] ≡ Some n → (place_from (suc k) w xs ≡ Some n → suc k ≤ n) → k ≤ n
    go true q ih = omega (arith, same_place k n q)
    go false q ih = omega (arith, ih q)

place_size : (xs : List String) (k n : ℕ) (w : List ℕ) → place_from k w xs ≡ Some n → size_from k n xs ≡ length w
unfolding place_from size_from spells
place_size [] k n w e = let z : ◌≡◌ {A = ℕ} 0 1 = cc in clash z
place_size (x ∷ xs) k n w e = go (spells w x) refl e (λ q. place_size xs (suc k) n w q)
  where
    go : (b : Bool) → spells w x ≡ b → elim b [ true ↦ Some k | false ↦ place_from (suc k) w xs ] ≡ Some n → (place_from (suc k) w xs ≡ Some n → size_from (suc k) n xs ≡ length w)
        → cond (eqb n k) (length (bytes_of x)) (size_from (suc k) n xs) ≡ length w
    go true s q ih =
        rw (eq-eqb n k (sym (same_place k n q))) (eqb-true (length (bytes_of x)) (length w) (both_left (eqb (length (bytes_of x)) (length w)) (begins w (bytes_of x)) s))
    go false s q ih = let l = place_from_lem xs (suc k) n w q in rw (ne_eqb n k (λ z. omega arith)) (ih q)

package_bytes : size_from 0 65 reserved_words ≡ 7
unfolding size_from reserved_words bytes_of
package_bytes = refl

is_bytes : size_from 0 45 reserved_words ≡ 2
unfolding size_from reserved_words bytes_of
is_bytes = refl

delimiter_count_lem : length delimiters ≡ 25
unfolding delimiters
delimiter_count_lem = refl

-- ---- one element: a reserved word has its word's bytes

abbrev Long : Kind → ℕ → Type 0
Long Kind.Identifier n = Unit {0}
Long Kind.Extended n = Unit {0}
Long (Kind.Literal l) n = Unit {0}
Long Kind.Unreadable n = Unit {0}
Long (Kind.Delimiter m) n = m < 25
Long (Kind.Reserved m) n = size_from 0 m reserved_words ≤ n

abbrev LongFront : Front → Type 0
LongFront (Skip n) = Unit {0}
LongFront (Element k n) = Long k n

long_cond : (c : Bool) (x y : Front) → LongFront x → LongFront y → LongFront (cond c x y)
long_cond true x y f g = f
long_cond false x y f g = g

long_unreadable : (s : List ℕ) → LongFront (unreadable_front s)
unfolding unreadable_front
long_unreadable s = tt

take_least : (n : ℕ) (l : List ℕ) → length (take n l) ≤ n
take_least zero l = omega arith
take_least (suc n) [] = omega arith
take_least (suc n) (x ∷ l) = omega (arith, take_least n l)

long_identifier : (s : List ℕ) → LongFront (identifier_front s)
unfolding identifier_front
long_identifier s = go (place_in (take (run Word s) s) reserved_words) refl
  where
    go : (p : Option ℕ) → place_in (take (run Word s) s) reserved_words ≡ p → LongFront (identifier_by p (run Word s))
    go (Some n) e = omega (arith, place_size reserved_words 0 n (take (run Word s) s) e, take_least (run Word s) s)
    go None e = tt

long_extended : (s : List ℕ) → LongFront (extended_front s)
unfolding extended_front
long_extended s = go (closed signs.backslash (drop 1 s))
  where
    go : (c : Option ℕ) → LongFront (extended_by c s)
    go (Some n) = long_cond (eqb n 1) (unreadable_front s) (Element Kind.Extended (n + 1)) (long_unreadable s) tt
    go None = long_unreadable s

long_numeral : (n : Number) (s : List ℕ) → LongFront (numeral_by n s)
long_numeral (N.Integer n) s = tt
long_numeral (N.Real n) s = tt
long_numeral N.Neither s = long_unreadable s

long_string : (s : List ℕ) → LongFront (string_front s)
unfolding string_front
long_string s = go (closed signs.quote (drop 1 s))
  where
    go : (c : Option ℕ) → LongFront (string_by c s)
    go (Some n) = tt
    go None = long_unreadable s

long_apostrophe : (ticks : Bool) (s : List ℕ) → LongFront (apostrophe_front ticks s)
unfolding apostrophe_front
long_apostrophe ticks s =
    long_cond (not ticks && eqb (get_or s 2 0) signs.apostrophe) _ _ (long_cond (is_graphic (get_or s 1 0)) _ (unreadable_front s) tt (long_unreadable s)) (omega arith)

long_delimiter_lem : (w : List ℕ) (p : Option ℕ) (n : ℕ) (x : Front) → place_in w delimiters ≡ p → LongFront x → LongFront (delimiter_by p n x)
long_delimiter_lem w (Some k) n x e h = omega (arith, place_below delimiters 0 k w e, delimiter_count_lem)
long_delimiter_lem w None n x e h = h

long_delimiters : (s : List ℕ) → LongFront (delimiter_front s)
unfolding delimiter_front
long_delimiters s =
    long_delimiter_lem (take 2 s) (place_in (take 2 s) delimiters) (length (take 2 s)) _ refl
    (long_delimiter_lem (take 1 s) (place_in (take 1 s) delimiters) (length (take 1 s)) (unreadable_front s) refl (long_unreadable s))

long_ruled : (ticks : Bool) (s : List ℕ) → LongFront (ruled ticks s)
unfolding ruled
long_ruled ticks s =
    let b : ℕ = get_or s 0 0 in
    long_cond (separates b) (Skip 1) _ tt
    (long_cond (first_are bytes.hyphen bytes.hyphen s) (Skip (length s)) _ tt
    (long_cond (is_letter b) (identifier_front s) _ (long_identifier s)
    (long_cond (first_is signs.backslash s) (extended_front s) _ (long_extended s)
    (long_cond (is_digit b) (numeral_by (number s) s) _ (long_numeral (number s) s)
    (long_cond (first_is signs.quote s) (string_front s) _ (long_string s)
    (long_cond (first_is signs.apostrophe s) (apostrophe_front ticks s) _ (long_apostrophe ticks s)
    (long_cond (first_are signs.slash signs.star s) (unreadable_front s) (delimiter_front s) (long_unreadable s)
    (long_delimiters s))))))))

long_unless : (s : List ℕ) (f : Front) → LongFront f → LongFront (unless_spoilt s f)
long_unless s (Skip n) h = tt
long_unless s (Element k n) h = long_cond (spoils k (get_or s n 0)) (unreadable_front s) (Element k n) (long_unreadable s) h

long : (ticks : Bool) (s : List ℕ) → LongFront (element_at ticks s)
unfolding element_at
long ticks s = long_unless s (ruled ticks s) (long_ruled ticks s)

-- ---- the rows of a text

abbrev AllLong : List ElementRow → Type 0
AllLong [] = Unit {0}
AllLong (r ∷ rs) = Long r.kind r.size × AllLong rs

all_append : (rs qs : List ElementRow) → AllLong rs → AllLong qs → AllLong (rs ++ qs)
all_append [] qs h k = k
all_append (r ∷ rs) qs h k = (h.0, all_append rs qs h.1 k)

line_long : (l : List ℕ) (k from : ℕ) (ticks : Bool) → AllLong (line_rows k from ticks l)
unfolding line_rows
line_long [] zero from ticks = tt
line_long [] (suc k) from ticks = tt
line_long (b ∷ l) k from ticks = go k (λ i u. line_long l i (suc from) u)
  where
    front : (f : Front) → LongFront f → ((i : ℕ) (u : Bool) → AllLong (line_rows i (suc from) u l))
        → AllLong (elim f [ Skip n ↦ line_rows (pred n) (suc from) ticks l | Element k n ↦ record { kind = k; first = from; size = n } ∷ line_rows (pred n) (suc from) (ticks_after k) l ])
    front (Skip n) f h = h (pred n) ticks
    front (Element k n) f h = (f, h (pred n) (ticks_after k))

    go : (k : ℕ) → ((i : ℕ) (u : Bool) → AllLong (line_rows i (suc from) u l)) → AllLong (line_rows k from ticks (b ∷ l))
    go zero h = front (element_at ticks (b ∷ l)) (long ticks (b ∷ l)) h
    go (suc k) h = h k ticks

lines_long : (ls : List (List ℕ)) (from : ℕ) → AllLong (lines_rows from ls)
unfolding lines_rows
lines_long [] from = tt
lines_long (l ∷ ls) from = all_append (line_rows 0 from false l) (lines_rows (suc (from + length l)) ls) (line_long l 0 from false) (lines_long ls (suc (from + length l)))

rows_long : (s : List ℕ) → AllLong (rows_of s)
unfolding rows_of
rows_long s = lines_long (lines_of s) 0

-- ---- elements, their sizes, and the text's

record Sized (x : worded.Element) : Type 0 where
  as_package : x.kind ≡ 98 → 7 ≤ length x.bytes
  as_is : x.kind ≡ 78 → 2 ≤ length x.bytes
  some : 1 ≤ length x.bytes

abbrev AllSized : Piece → Type 0
AllSized [] = Unit {0}
AllSized (x ∷ p) = Sized x × AllSized p

sized_by : (k : Kind) (n m : ℕ) → Long k n → m ≡ n → (kind_number k ≡ 98 → 7 ≤ m) × (kind_number k ≡ 78 → 2 ≤ m)
sized_by Kind.Identifier n m h z = ((λ e. absurd (omega arith)), λ e. absurd (omega arith))
sized_by Kind.Extended n m h z = ((λ e. absurd (omega arith)), λ e. absurd (omega arith))
sized_by (Kind.Literal Literal.Integer) n m h z = ((λ e. absurd (omega arith)), λ e. absurd (omega arith))
sized_by (Kind.Literal Literal.Real) n m h z = ((λ e. absurd (omega arith)), λ e. absurd (omega arith))
sized_by (Kind.Literal Literal.Character) n m h z = ((λ e. absurd (omega arith)), λ e. absurd (omega arith))
sized_by (Kind.Literal Literal.String) n m h z = ((λ e. absurd (omega arith)), λ e. absurd (omega arith))
sized_by Kind.Unreadable n m h z = ((λ e. absurd (omega arith)), λ e. absurd (omega arith))
sized_by (Kind.Delimiter i) n m h z = ((λ e. absurd (omega arith)), λ e. absurd (omega arith))
sized_by (Kind.Reserved i) n m h z = (
  (λ e. let w : i ≡ 65 = omega arith in let g : size_from 0 65 reserved_words ≤ n = subst (λ (j : ℕ). size_from 0 j reserved_words ≤ n) w h in omega (arith, package_bytes)),
  λ e. let w : i ≡ 45 = omega arith in let g : size_from 0 45 reserved_words ≤ n = subst (λ (j : ℕ). size_from 0 j reserved_words ≤ n) w h in omega (arith, is_bytes),
)

-- how many bytes elements have
unfoldable weight : List worded.Element → ℕ
weight [] = 0
weight (x ∷ l) = length x.bytes + weight l

elements_weigh : (s : List ℕ) (rs : List ElementRow) (from end : ℕ) → InOrder from rs end → end ≤ length s → AllLong rs
    → AllSized (elements_of s rs) × (from + weight (elements_of s rs) ≤ end)
unfolding elements_of weight
elements_weigh s [] from end o l h = (tt, omega (arith, o))
elements_weigh s (r ∷ rs) from end o l h =
    let ih = elements_weigh s rs (r.first + r.size) end o.2 l h.1 in
    let i = ih.1 in
    let d = length-drop r.first s in
    let e : length (take r.size (drop r.first s)) ≡ r.size = length-take-le r.size (drop r.first s) (omega arith) in
    let k = sized_by r.kind r.size (length (take r.size (drop r.first s))) h.0 e in
    ((record { as_package = k.0; as_is = k.1; some = omega (arith, o.1, e) }, ih.0), omega (arith, o.0, e, i))

weight_append : (p l : List worded.Element) → weight (p ++ l) ≡ weight p + weight l
unfolding weight
weight_append [] l = omega arith
weight_append (x ∷ p) l = omega (arith, weight_append p l)

sized_front : (p l : List worded.Element) → AllSized (p ++ l) → AllSized p
sized_front [] l h = tt
sized_front (x ∷ p) l h = (h.0, sized_front p l h.1)

at_weight : (p : Piece) (i : ℕ) → length (at p i).bytes ≤ weight p
unfolding at weight
at_weight [] i = omega arith
at_weight (x ∷ p) zero = omega arith
at_weight (x ∷ p) (suc i) = omega (arith, at_weight p i)

piece_weight : (ps : List Piece) (j : ℕ) → weight (piece_at ps j) ≤ weight (join_all ps)
unfolding join_all weight
piece_weight [] j = omega arith
piece_weight (p ∷ ps) zero = omega (arith, weight_append p (join_all ps))
piece_weight (p ∷ ps) (suc j) = omega (arith, weight_append p (join_all ps), piece_weight ps j)

all_at : (p : Piece) (i : ℕ) → i < length p → AllSized p → Sized (at p i)
unfolding at
all_at [] i l h = absurd (omega arith)
all_at (x ∷ p) zero l h = h.0
all_at (x ∷ p) (suc i) l h = all_at p i (omega arith) h.1

-- the heading's two words and its name
heading_weight : (p : Piece) → AllSized p → is_heading (kinds_in_piece p) ≡ true → (9 + length (at p 1).bytes ≤ weight p) × (10 ≤ weight p)
unfolding at weight
heading_weight p a h =
    let k = heading_parts (kinds_in_piece p) h in
    let l : length p ≡ 3 = sym (kinds_length p) ∙ k.0 in
    let u = (all_at p 0 (omega arith) a).as_package (sym (kinds_at_lem p 0) ∙ k.1) in
    let v = (all_at p 1 (omega arith) a).some in
    let w = (all_at p 2 (omega arith) a).as_is (sym (kinds_at_lem p 2) ∙ k.2) in
    by p l u v w
  where
    by : (q : Piece) → length q ≡ 3 → 7 ≤ length (at q 0).bytes → 1 ≤ length (at q 1).bytes → 2 ≤ length (at q 2).bytes → (9 + length (at q 1).bytes ≤ weight q) × (10 ≤ weight q)
    by [] l u v w = absurd (omega arith)
    by (x ∷ []) l u v w = absurd (omega arith)
    by (x ∷ y ∷ []) l u v w = absurd (omega arith)
    by (x ∷ y ∷ z ∷ q) l u v w = (omega arith, omega arith)

-- ---- the names of a text with a heading

behind_heading : (ps : List Piece) → AllSized (join_all ps) → is_heading (kinds_in_piece (piece_at ps 0)) ≡ true → 9 + length (at (piece_at ps 0) 1).bytes ≤ weight (join_all ps)
unfolding join_all
behind_heading [] a h = absurd (omega (arith, (heading_parts (kinds_in_piece []) h).0, kinds_length []))
behind_heading (p ∷ ps) a h = omega (arith, (heading_weight p (sized_front p (join_all ps) a) h).0, weight_append p (join_all ps))

behind_piece : (ps : List Piece) (j i : ℕ) → 1 ≤ j → AllSized (join_all ps) → is_heading (kinds_in_piece (piece_at ps 0)) ≡ true → 10 + length (at (piece_at ps j) i).bytes ≤ weight (join_all ps)
unfolding join_all
behind_piece [] j i l a h = absurd (omega (arith, (heading_parts (kinds_in_piece []) h).0, kinds_length []))
behind_piece (p ∷ ps) zero i l a h = absurd (omega arith)
behind_piece (p ∷ ps) (suc j) i l a h =
    omega (arith, (heading_weight p (sized_front p (join_all ps) a) h).1, weight_append p (join_all ps), piece_weight ps j, at_weight (piece_at ps j) i)

module _ (s : List ℕ) (few : length s ≤ 65536) (heading : is_heading (kinds_in_piece (piece_at (pieces_of s) 0)) ≡ true) where
  all : AllSized (join_all (pieces_of s)) × (weight (join_all (pieces_of s)) ≤ length s)
  unfolding pieces_of
  all =
      let w = elements_weigh s (rows_of s) 0 (length s) (stand_in_order s) (omega arith) (rows_long s) in
      let i = w.1 in
      let e = cut_joins (elements_of s (rows_of s)) in
      (subst AllSized (sym e) w.0, omega (arith, ap weight e, i))

  pub package_short : length (at (piece_at (pieces_of s) 0) 1).bytes < 65536
  package_short = omega (arith, behind_heading (pieces_of s) all.0 heading, all.1, few)

  pub name_short : (j i : ℕ) → 1 ≤ j → length (at (piece_at (pieces_of s) j) i).bytes ≤ 65526
  name_short j i l = omega (arith, behind_piece (pieces_of s) j i l all.0 heading, all.1, few)
