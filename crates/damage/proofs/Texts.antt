-- The elements around a change are the text's, each at its line and place: by the text's lines. Assumes nothing.
use Prim.Native.Nat.{ℕ, suc, ◌+◌, ◌≤◌, ◌<◌}
use mathlib.Core.Path.{◌≡◌, refl, sym, ap, ap₂, subst, ◌∙◌}
use mathlib.Core.Logic.{◌⊎◌, inl, inr}
use mathlib.Core.Bool.{Bool, true, false, ◌||◌}
use mathlib.Core.List.{List, [], ◌∷◌, ◌++◌, append-nil, append_assoc}
use native.Mathlib.Nat.{add-zero, zero-add, add-suc, suc-add, add_assoc}
use native.Mathlib.Omega.{arith}
use lib.ListN.{length, take, drop, length-drop, length-append}
use lib.Seq.{take-append-le, drop-append-le}
use Rattle.classes.specs.Signs.{ends_line}
use Rattle.elements.specs.Kinds.{kind_number}
use Rattle.element_reading.specs.Rows.{ElementRow, onto, lines_of, line_rows, lines_rows, rows_of}
use Rattle.element_reading.specs.Promises.{InsideLine, Ended, StartsLine, InOrder, moved}
use Rattle.element_reading.proofs.TextLaws.{lines_ended, lines_byte}
use Rattle.element_reading.proofs.Promises.{lines_apart, stand_in_order}
use Rattle.pieces.specs.Cutting.{cut, joined}
use Rattle.meaning.specs.Elements.{Element, Piece}
use Rattle.meaning.specs.Pieces.{cuts_after, cuts_before, elements_of, pieces_of}
use Rattle.damage.specs.PlacedElements.{In, LineNumber, Above, Changed, Below, Placed, placed_rows, placed_lines, placed, PlacedPiece, closes_part, opens_part, parts_of, bare, bare_each, lines_above, line_number, start_of, firsts_in, firsts_of}
use Rattle.damage.specs.code.Texts.{PlacesAdded, LinesAgree}
use Rattle.damage.proofs.Lines.{uppers, middles, lowers}

-- ---- how a text is made of lines

data Made : List ℕ → List (List ℕ) → Type 0 where
  last : (l : List ℕ) → Made l (l ∷ [])
  more : (l : List ℕ) (b : ℕ) (u : List ℕ) {ls : List (List ℕ)} → ends_line b ≡ true → Made u ls → Made (l ++ b ∷ u) (l ∷ ls)

made_onto : (b : ℕ) {s : List ℕ} {ls : List (List ℕ)} → Made s ls → Made (b ∷ s) (onto b ls)
made_onto b (last l) = last (b ∷ l)
made_onto b (more l c u e m) = more (b ∷ l) c u e m

made : (s : List ℕ) → Made s (lines_of s)
unfolding lines_of
made [] = last []
made (b ∷ s) = go (ends_line b) refl (made s)
  where
    go : (x : Bool) → ends_line b ≡ x → Made s (lines_of s) → Made (b ∷ s) (lines_of (b ∷ s))
    go true e m = subst (λ ls. Made (b ∷ s) ls) (sym (lines_ended b s e)) (more [] b s e m)
    go false e m = subst (λ ls. Made (b ∷ s) ls) (sym (lines_byte b s e)) (made_onto b m)

-- the lines that bytes are, with a line end after each
record Whole (before : List ℕ) : Type 0 where
  lines : List (List ℕ)
  some : before ≡ [] ⊎ ((l : List ℕ) × (ls : List (List ℕ)) × (lines ≡ l ∷ ls))
  apart : (rest : List ℕ) → lines_of (before ++ rest) ≡ lines ++ lines_of rest

whole : (before : List ℕ) → StartsLine before → Whole before
whole [] g = record { lines = []; some = inl refl; apart = λ rest. refl }
whole (b ∷ []) g = record { lines = [] ∷ []; some = inr ([], [], refl); apart = λ rest. lines_ended b rest g }
whole (b ∷ c ∷ l) g = go (ends_line b) refl (whole (c ∷ l) g)
  where
    go : (x : Bool) → ends_line b ≡ x → Whole (c ∷ l) → Whole (b ∷ c ∷ l)
    go true e w =
        record { lines = [] ∷ w.lines; some = inr ([], w.lines, refl); apart = λ rest. lines_ended b (c ∷ l ++ rest) e ∙ ap (λ (m : List (List ℕ)). [] ∷ m) (w.apart rest) }
    go false e w = byte w.some
      where
        byte : (c ∷ l ≡ []) ⊎ ((k : List ℕ) × (ks : List (List ℕ)) × (w.lines ≡ k ∷ ks)) → Whole (b ∷ c ∷ l)
        byte (inl z) = let y : ◌≡◌ {A = ℕ} 0 1 = cc in absurd (omega arith)
        byte (inr (k, ks, z)) =
            record {
              lines = (b ∷ k) ∷ ks;
              some = inr (b ∷ k, ks, refl);
              apart = λ rest. lines_byte b (c ∷ l ++ rest) e ∙ ap (onto b) (w.apart rest ∙ ap (λ (m : List (List ℕ)). m ++ lines_of rest) z);
            }

-- the lines after a line
abbrev lines_behind : List ℕ → List (List ℕ)
lines_behind [] = []
lines_behind (b ∷ u) = lines_of u

line_apart : (middle after : List ℕ) → InsideLine middle → Ended after → lines_of (middle ++ after) ≡ middle ∷ lines_behind after
unfolding lines_of
line_apart [] [] i e = refl
line_apart [] (b ∷ u) i e = lines_ended b u e
line_apart (b ∷ m) after i e = lines_byte b (m ++ after) i.0 ∙ ap (onto b) (line_apart m after i.1 e)

-- a text with one line of it: the lines of each of the three parts, an empty one at the end of the first and at the start of the last
record Split (before middle after : List ℕ) : Type 0 where
  upper : List (List ℕ)
  front : lines_of before ≡ upper ++ [] ∷ []
  here : lines_of middle ≡ middle ∷ []
  back : lines_of after ≡ [] ∷ lines_behind after
  all : lines_of (before ++ (middle ++ after)) ≡ upper ++ middle ∷ lines_behind after

splits : (before middle after : List ℕ) → StartsLine before → InsideLine middle → Ended after → Split before middle after
unfolding lines_of
splits before middle after g i e =
    let w : Whole before = whole before g in
    record {
      upper = w.lines;
      front = ap lines_of (sym (append-nil before)) ∙ w.apart [];
      here = ap lines_of (sym (append-nil middle)) ∙ line_apart middle [] i tt;
      back = line_apart [] after tt e;
      all = w.apart (middle ++ after) ∙ ap (λ (ls : List (List ℕ)). w.lines ++ ls) (line_apart middle after i e);
    }

-- ---- the elements of lines, without places

no_rows : rows_of [] ≡ []
unfolding rows_of lines_of lines_rows line_rows
no_rows = refl

pub bare_append : (p q : PlacedPiece) → bare (p ++ q) ≡ bare p ++ bare q
unfolding bare
bare_append [] q = refl
bare_append (x ∷ p) q = ap (λ (l : Piece). x.element ∷ l) (bare_append p q)

elements_append : (text : List ℕ) (rs qs : List ElementRow) → elements_of text (rs ++ qs) ≡ elements_of text rs ++ elements_of text qs
unfolding elements_of
elements_append text [] qs = refl
elements_append text (r ∷ rs) qs = ap (λ (l : List Element). record { kind = kind_number r.kind; bytes = take r.size (drop r.first text) } ∷ l) (elements_append text rs qs)

bare_rows : (n : LineNumber) (l : List ℕ) (rs : List ElementRow) → bare (placed_rows n l rs) ≡ elements_of l rs
unfolding bare placed_rows elements_of
bare_rows n l [] = refl
bare_rows n l (r ∷ rs) = ap (λ (m : List Element). record { kind = kind_number r.kind; bytes = take r.size (drop r.first l) } ∷ m) (bare_rows n l rs)

abbrev bare_lines : List (List ℕ) → Piece
bare_lines [] = []
bare_lines (l ∷ ls) = elements_of l (rows_of l) ++ bare_lines ls

bare_lines_lem : (of : ℕ → LineNumber) (n : ℕ) (ls : List (List ℕ)) → bare (placed_lines of n ls) ≡ bare_lines ls
unfolding placed_lines bare
bare_lines_lem of n [] = refl
bare_lines_lem of n (l ∷ ls) =
    bare_append (placed_rows (of n) l (rows_of l)) (placed_lines of (suc n) ls) ∙ ap₂ (λ (x y : Piece). x ++ y) (bare_rows (of n) l (rows_of l)) (bare_lines_lem of (suc n) ls)

bare_lines_append : (ls ms : List (List ℕ)) → bare_lines (ls ++ ms) ≡ bare_lines ls ++ bare_lines ms
bare_lines_append [] ms = refl
bare_lines_append (l ∷ ls) ms =
    ap (λ (x : Piece). elements_of l (rows_of l) ++ x) (bare_lines_append ls ms) ∙ sym (append_assoc (elements_of l (rows_of l)) (bare_lines ls) (bare_lines ms))

-- a line without bytes has no elements
bare_empty : (ls : List (List ℕ)) → bare_lines ([] ∷ ls) ≡ bare_lines ls
unfolding elements_of
bare_empty ls = ap (λ (rs : List ElementRow). elements_of [] rs ++ bare_lines ls) no_rows

order_within : (at end : ℕ) (rs : List ElementRow) → InOrder at rs end → at ≤ end
order_within at end [] h = h
order_within at end (r ∷ rs) h = omega (arith, h.0, order_within (r.first + r.size) end rs h.2)

-- rows within the front of a text
elements_front : (l m : List ℕ) (at : ℕ) (rs : List ElementRow) → InOrder at rs (length l) → elements_of (l ++ m) rs ≡ elements_of l rs
unfolding elements_of
elements_front l m at [] h = refl
elements_front l m at (r ∷ rs) h =
    ap₂ (λ (a : List ℕ) (b : List Element). record { kind = kind_number r.kind; bytes = a } ∷ b) (part (order_within (r.first + r.size) (length l) rs h.2))
    (elements_front l m (r.first + r.size) rs h.2)
  where
    part : r.first + r.size ≤ length l → take r.size (drop r.first (l ++ m)) ≡ take r.size (drop r.first l)
    part k =
        ap (take r.size) (drop-append-le r.first l m (omega arith)) ∙ take-append-le r.size (drop r.first l) m (omega (arith, length-drop r.first l))

drop_over : (l : List ℕ) (b : ℕ) (u : List ℕ) (i : ℕ) → drop (suc (length l) + i) (l ++ b ∷ u) ≡ drop i u
drop_over [] b u i = ap (λ (n : ℕ). drop n (b ∷ u)) (suc-add 0 i ∙ ap suc (zero-add i))
drop_over (c ∷ l) b u i = ap (λ (n : ℕ). drop n (c ∷ (l ++ b ∷ u))) (suc-add (suc (length l)) i) ∙ drop_over l b u i

-- rows after a line end
elements_behind : (l : List ℕ) (b : ℕ) (u : List ℕ) (rs : List ElementRow) → elements_of (l ++ b ∷ u) (moved (suc (length l)) rs) ≡ elements_of u rs
unfolding elements_of
elements_behind l b u [] = refl
elements_behind l b u (r ∷ rs) =
    ap₂ (λ (a : List ℕ) (c : List Element). record { kind = kind_number r.kind; bytes = take r.size a } ∷ c) (drop_over l b u r.first) (elements_behind l b u rs)

bare_made : {s : List ℕ} {ls : List (List ℕ)} → Made s ls → bare_lines ls ≡ elements_of s (rows_of s)
bare_made (last l) = append-nil (elements_of l (rows_of l))
bare_made (more l b u {ls} e m) =
    ap₂ (λ (x y : List Element). x ++ y) (sym (elements_front l (b ∷ u) 0 (rows_of l) (stand_in_order l))) (bare_made m ∙ sym (elements_behind l b u (rows_of u)))
    ∙ sym (ap (elements_of (l ++ b ∷ u)) (lines_apart l u b e) ∙ elements_append (l ++ b ∷ u) (rows_of l) (moved (suc (length l)) (rows_of u)))

-- the elements with their places are those of the text
module _ (before middle after : List ℕ) (w : Split before middle after) where
  bare_upper : bare (uppers before) ≡ bare_lines w.upper
  bare_upper =
      bare_lines_lem Above 0 (lines_of before) ∙ ap bare_lines w.front ∙ bare_lines_append w.upper ([] ∷ [])
      ∙ ap (λ (x : Piece). bare_lines w.upper ++ x) (bare_empty []) ∙ append-nil (bare_lines w.upper)

  bare_placed : bare (placed before middle after) ≡ elements_of (before ++ (middle ++ after)) (rows_of (before ++ (middle ++ after)))
  unfolding placed
  bare_placed =
      bare_append (uppers before) (middles middle ++ lowers after)
      ∙ ap₂ (λ (x y : Piece). x ++ y) bare_upper
      (bare_append (middles middle) (lowers after)
      ∙ ap₂ (λ (x y : Piece). x ++ y) (bare_lines_lem Changed 0 (lines_of middle) ∙ ap bare_lines w.here ∙ append-nil (elements_of middle (rows_of middle)))
      (bare_lines_lem Below 0 (lines_of after) ∙ ap bare_lines w.back ∙ bare_empty (lines_behind after)))
      ∙ sym (bare_lines_append w.upper (middle ∷ lines_behind after))
      ∙ ap bare_lines (sym w.all)
      ∙ bare_made (made (before ++ (middle ++ after)))

-- the pieces without places are the text's
bare_joined : (b : Bool) (x : Placed) (ps : List PlacedPiece) → bare_each (joined closes_part opens_part b x ps) ≡ joined cuts_after cuts_before b x.element (bare_each ps)
unfolding bare_each bare
bare_joined true x ps = refl
bare_joined false x [] = refl
bare_joined false x (p ∷ ps) = refl

bare_cut : (l : PlacedPiece) → bare_each (cut closes_part opens_part l) ≡ cut cuts_after cuts_before (bare l)
unfolding bare_each bare cut
bare_cut [] = refl
bare_cut (x ∷ []) = refl
bare_cut (x ∷ y ∷ l) =
    bare_joined (closes_part x || opens_part y) x (cut closes_part opens_part (y ∷ l))
    ∙ ap (λ (ps : List Piece). joined cuts_after cuts_before (closes_part x || opens_part y) x.element ps) (bare_cut (y ∷ l))

bare_parts : (before middle after : List ℕ) → Split before middle after → bare_each (parts_of (placed before middle after)) ≡ pieces_of (before ++ (middle ++ after))
unfolding parts_of pieces_of
bare_parts before middle after w = bare_cut (placed before middle after) ∙ ap (cut cuts_after cuts_before) (bare_placed before middle after w)

-- ---- the first bytes of elements, by their lines and places

-- those of rows whose line begins at a byte
abbrev firsts_at : ℕ → List ElementRow → List ℕ
firsts_at at [] = []
firsts_at at (r ∷ rs) = (at + r.first) ∷ firsts_at at rs

-- those of lines, of which the first is number n of all
abbrev firsts_from : List (List ℕ) → ℕ → List (List ℕ) → List ℕ
firsts_from all n [] = []
firsts_from all n (l ∷ ls) = firsts_at (start_of n all) (rows_of l) ++ firsts_from all (suc n) ls

firsts_empty : (all : List (List ℕ)) (n : ℕ) (ls : List (List ℕ)) → firsts_from all n ([] ∷ ls) ≡ firsts_from all (suc n) ls
firsts_empty all n ls = ap (λ (rs : List ElementRow). firsts_at (start_of n all) rs ++ firsts_from all (suc n) ls) no_rows

firsts_from_append : (all : List (List ℕ)) (n : ℕ) (ls ms : List (List ℕ)) → firsts_from all n (ls ++ ms) ≡ firsts_from all n ls ++ firsts_from all (n + length ls) ms
firsts_from_append all n [] ms = ap (λ (k : ℕ). firsts_from all k ms) (sym (add-zero n))
firsts_from_append all n (l ∷ ls) ms =
    ap (λ (x : List ℕ). firsts_at (start_of n all) (rows_of l) ++ x)
    (firsts_from_append all (suc n) ls ms ∙ ap (λ (k : ℕ). firsts_from all (suc n) ls ++ firsts_from all k ms) (suc-add n (length ls) ∙ sym (add-suc n (length ls))))
    ∙ sym (append_assoc (firsts_at (start_of n all) (rows_of l)) (firsts_from all (suc n) ls) (firsts_from all (n + suc (length ls)) ms))

firsts_append : (n : ℕ) (all : List (List ℕ)) (p q : PlacedPiece) → firsts_in n all (p ++ q) ≡ firsts_in n all p ++ firsts_in n all q
unfolding firsts_in
firsts_append n all [] q = refl
firsts_append n all (x ∷ p) q = ap (λ (l : List ℕ). (start_of (line_number n x.line) all + x.place) ∷ l) (firsts_append n all p q)

firsts_rows : (n : ℕ) (all : List (List ℕ)) (line : LineNumber) (l : List ℕ) (rs : List ElementRow) → firsts_in n all (placed_rows line l rs) ≡ firsts_at (start_of (line_number n line) all) rs
unfolding firsts_in placed_rows
firsts_rows n all line l [] = refl
firsts_rows n all line l (r ∷ rs) = ap (λ (m : List ℕ). (start_of (line_number n line) all + r.first) ∷ m) (firsts_rows n all line l rs)

-- the lines of one region, which are counted one by one
module _ (n : ℕ) (all : List (List ℕ)) (of : ℕ → LineNumber) (next : (k : ℕ) → line_number n (of (suc k)) ≡ suc (line_number n (of k))) where
  firsts_lines : (k : ℕ) (ls : List (List ℕ)) → firsts_in n all (placed_lines of k ls) ≡ firsts_from all (line_number n (of k)) ls
  unfolding placed_lines firsts_in
  firsts_lines k [] = refl
  firsts_lines k (l ∷ ls) =
      firsts_append n all (placed_rows (of k) l (rows_of l)) (placed_lines of (suc k) ls)
      ∙ ap₂ (λ (x y : List ℕ). x ++ y) (firsts_rows n all (of k) l (rows_of l)) (firsts_lines (suc k) ls ∙ ap (λ (m : ℕ). firsts_from all m ls) (next k))

-- those of a row further on
abbrev further : ℕ → List ℕ → List ℕ
further n [] = []
further n (k ∷ l) = (n + k) ∷ further n l

further_append : (n : ℕ) (k l : List ℕ) → further n (k ++ l) ≡ further n k ++ further n l
further_append n [] l = refl
further_append n (i ∷ k) l = ap (λ (m : List ℕ). (n + i) ∷ m) (further_append n k l)

firsts_further : (n at : ℕ) (rs : List ElementRow) → firsts_at (n + at) rs ≡ further n (firsts_at at rs)
firsts_further n at [] = refl
firsts_further n at (r ∷ rs) = ap₂ (λ (x : ℕ) (l : List ℕ). x ∷ l) (add_assoc n at r.first) (firsts_further n at rs)

firsts_next : (l : List ℕ) (all : List (List ℕ)) (n : ℕ) (ls : List (List ℕ)) → firsts_from (l ∷ all) (suc n) ls ≡ further (suc (length l)) (firsts_from all n ls)
unfolding start_of
firsts_next l all n [] = refl
firsts_next l all n (m ∷ ls) =
    ap₂ (λ (x y : List ℕ). x ++ y) (firsts_further (suc (length l)) (start_of n all) (rows_of m)) (firsts_next l all (suc n) ls)
    ∙ sym (further_append (suc (length l)) (firsts_at (start_of n all) (rows_of m)) (firsts_from all (suc n) ls))

-- those of a text's lines are those of its rows
firsts_of_lem : (rs : List ElementRow) → firsts_at 0 rs ≡ firsts_of rs
unfolding firsts_of
firsts_of_lem [] = refl
firsts_of_lem (r ∷ rs) = ap₂ (λ (x : ℕ) (l : List ℕ). x ∷ l) (zero-add r.first) (firsts_of_lem rs)

firsts_moved : (n : ℕ) (rs : List ElementRow) → firsts_of (moved n rs) ≡ further n (firsts_of rs)
unfolding firsts_of
firsts_moved n [] = refl
firsts_moved n (r ∷ rs) = ap (λ (l : List ℕ). (n + r.first) ∷ l) (firsts_moved n rs)

firsts_rows_append : (rs qs : List ElementRow) → firsts_of (rs ++ qs) ≡ firsts_of rs ++ firsts_of qs
unfolding firsts_of
firsts_rows_append [] qs = refl
firsts_rows_append (r ∷ rs) qs = ap (λ (l : List ℕ). r.first ∷ l) (firsts_rows_append rs qs)

firsts_made : {s : List ℕ} {ls : List (List ℕ)} → Made s ls → firsts_from ls 0 ls ≡ firsts_of (rows_of s)
unfolding start_of
firsts_made (last l) = append-nil (firsts_at 0 (rows_of l)) ∙ firsts_of_lem (rows_of l)
firsts_made (more l b u {ls} e m) =
    ap₂ (λ (x y : List ℕ). x ++ y) (firsts_of_lem (rows_of l)) (firsts_next l ls 0 ls ∙ ap (further (suc (length l))) (firsts_made m) ∙ sym (firsts_moved (suc (length l)) (rows_of u)))
    ∙ sym (ap firsts_of (lines_apart l u b e) ∙ firsts_rows_append (rows_of l) (moved (suc (length l)) (rows_of u)))

module _ (before middle after : List ℕ) (w : Split before middle after) where
  -- the number of the changed line
  above_is : lines_above before ≡ length w.upper
  above_is = omega (arith, ap length w.front, length-append w.upper ([] ∷ []))

  abbrev lines : List (List ℕ)
  lines = lines_of (before ++ (middle ++ after))

  firsts_upper : firsts_in (lines_above before) lines (uppers before) ≡ firsts_from lines 0 w.upper
  firsts_upper =
      firsts_lines (lines_above before) lines Above (λ k. refl) 0 (lines_of before)
      ∙ ap (firsts_from lines 0) w.front
      ∙ firsts_from_append lines 0 w.upper ([] ∷ [])
      ∙ ap (λ (x : List ℕ). firsts_from lines 0 w.upper ++ x) (firsts_empty lines (0 + length w.upper) [])
      ∙ append-nil (firsts_from lines 0 w.upper)

  firsts_middle : firsts_in (lines_above before) lines (middles middle) ≡ firsts_from lines (length w.upper) (middle ∷ [])
  firsts_middle =
      firsts_lines (lines_above before) lines Changed (λ k. add-suc (lines_above before) k) 0 (lines_of middle)
      ∙ ap₂ (firsts_from lines) (add-zero (lines_above before) ∙ above_is) w.here

  firsts_lower : firsts_in (lines_above before) lines (lowers after) ≡ firsts_from lines (suc (length w.upper)) (lines_behind after)
  firsts_lower =
      firsts_lines (lines_above before) lines Below (λ k. add-suc (lines_above before) k) 0 (lines_of after)
      ∙ ap₂ (firsts_from lines) (add-zero (lines_above before) ∙ above_is) w.back
      ∙ firsts_empty lines (length w.upper) (lines_behind after)

  firsts_placed : firsts_in (lines_above before) lines (placed before middle after) ≡ firsts_of (rows_of (before ++ (middle ++ after)))
  unfolding placed
  firsts_placed =
      firsts_append (lines_above before) lines (uppers before) (middles middle ++ lowers after)
      ∙ ap₂ (λ (x y : List ℕ). x ++ y) firsts_upper
      (firsts_append (lines_above before) lines (middles middle) (lowers after)
      ∙ ap₂ (λ (x y : List ℕ). x ++ y) firsts_middle firsts_lower
      ∙ append_assoc (firsts_at (start_of (length w.upper) lines) (rows_of middle)) [] (firsts_from lines (suc (length w.upper)) (lines_behind after))
      ∙ ap (λ (n : ℕ). firsts_from lines n (middle ∷ lines_behind after)) (sym (zero-add (length w.upper))))
      ∙ sym (firsts_from_append lines 0 w.upper (middle ∷ lines_behind after))
      ∙ ap (firsts_from lines 0) (sym w.all)
      ∙ firsts_made (made (before ++ (middle ++ after)))

pub places_added : PlacesAdded
places_added before middle after g i e =
    let w : Split before middle after = splits before middle after g i e in
    (bare_placed before middle after w, bare_parts before middle after w, firsts_placed before middle after w)

-- ---- the numbers of lines

-- the lines that have elements, where n lines stand above a changed one: those above it are below n, and those below it are 1 at least
abbrev Stood : ℕ → LineNumber → Type 0
Stood n (Above k) = k < n
Stood n (Changed k) = k ≡ 0
Stood n (Below k) = 1 ≤ k

abbrev AllStood : ℕ → PlacedPiece → Type 0
AllStood n [] = Unit {0}
AllStood n (x ∷ p) = Stood n x.line × AllStood n p

stood_append : (n : ℕ) (p q : PlacedPiece) → AllStood n p → AllStood n q → AllStood n (p ++ q)
stood_append n [] q f g = g
stood_append n (x ∷ p) q f g = (f.0, stood_append n p q f.1 g)

stood_in : (n : ℕ) (x : Placed) (p : PlacedPiece) → AllStood n p → In x p → Stood n x.line
stood_in n x [] h k = elim k [ ]
stood_in n x (y ∷ p) h (inl e) = subst (λ z. Stood n z.line) e h.0
stood_in n x (y ∷ p) h (inr k) = stood_in n x p h.1 k

stood_rows : (n : ℕ) (line : LineNumber) (l : List ℕ) (rs : List ElementRow) → Stood n line → AllStood n (placed_rows line l rs)
unfolding placed_rows
stood_rows n line l [] h = tt
stood_rows n line l (r ∷ rs) h = (h, stood_rows n line l rs h)

-- lines from number m on, up to number m + length ls; an empty one has none
stood_lines : (n : ℕ) (of : ℕ → LineNumber) (m : ℕ) (ls : List (List ℕ)) → ((k : ℕ) → k < length ls → Stood n (of (m + k))) → AllStood n (placed_lines of m ls)
unfolding placed_lines
stood_lines n of m [] h = tt
stood_lines n of m (l ∷ ls) h =
    stood_append n (placed_rows (of m) l (rows_of l)) (placed_lines of (suc m) ls) (stood_rows n (of m) l (rows_of l) (subst (λ (k : ℕ). Stood n (of k)) (add-zero m) (h 0 (omega arith))))
    (stood_lines n of (suc m) ls (λ k j. subst (λ (i : ℕ). Stood n (of i)) (add-suc m k ∙ sym (suc-add m k)) (h (suc k) (omega arith))))

placed_lines_append : (of : ℕ → LineNumber) (n : ℕ) (ls ms : List (List ℕ)) → placed_lines of n (ls ++ ms) ≡ placed_lines of n ls ++ placed_lines of (n + length ls) ms
unfolding placed_lines
placed_lines_append of n [] ms = ap (λ (k : ℕ). placed_lines of k ms) (sym (add-zero n))
placed_lines_append of n (l ∷ ls) ms =
    ap (λ (p : PlacedPiece). placed_rows (of n) l (rows_of l) ++ p)
    (placed_lines_append of (suc n) ls ms ∙ ap (λ (k : ℕ). placed_lines of (suc n) ls ++ placed_lines of k ms) (suc-add n (length ls) ∙ sym (add-suc n (length ls))))
    ∙ sym (append_assoc (placed_rows (of n) l (rows_of l)) (placed_lines of (suc n) ls) (placed_lines of (n + suc (length ls)) ms))

placed_empty : (of : ℕ → LineNumber) (n : ℕ) (ls : List (List ℕ)) → placed_lines of n ([] ∷ ls) ≡ placed_lines of (suc n) ls
unfolding placed_lines placed_rows
placed_empty of n ls = ap (λ (rs : List ElementRow). placed_rows (of n) [] rs ++ placed_lines of (suc n) ls) no_rows

module _ (before middle after : List ℕ) (w : Split before middle after) where
  upper_stood : AllStood (lines_above before) (uppers before)
  unfolding placed_lines
  upper_stood =
      subst (AllStood (lines_above before))
      (sym (ap (placed_lines Above 0) w.front ∙ placed_lines_append Above 0 w.upper ([] ∷ []) ∙ ap (λ (p : PlacedPiece). placed_lines Above 0 w.upper ++ p) (placed_empty Above (0 + length w.upper) []) ∙ append-nil (placed_lines Above 0 w.upper)))
      (stood_lines (lines_above before) Above 0 w.upper (λ k h. omega (arith, above_is before middle after w, zero-add k)))

  middle_stood : AllStood (lines_above before) (middles middle)
  middle_stood =
      subst (AllStood (lines_above before)) (sym (ap (placed_lines Changed 0) w.here))
      (stood_lines (lines_above before) Changed 0 (middle ∷ []) (λ k h. omega (arith, zero-add k)))

  lower_stood : AllStood (lines_above before) (lowers after)
  lower_stood =
      subst (AllStood (lines_above before)) (sym (ap (placed_lines Below 0) w.back ∙ placed_empty Below 0 (lines_behind after)))
      (stood_lines (lines_above before) Below 1 (lines_behind after) (λ k h. omega arith))

  placed_stood : AllStood (lines_above before) (placed before middle after)
  unfolding placed
  placed_stood =
      stood_append (lines_above before) (uppers before) (middles middle ++ lowers after) upper_stood (stood_append (lines_above before) (middles middle) (lowers after) middle_stood lower_stood)

-- the number from the text's start tells such lines apart
one_line : (n : ℕ) (l m : LineNumber) → Stood n l → Stood n m → line_number n l ≡ line_number n m → l ≡ m
one_line n (Above k) (Above j) a b e = ap Above e
one_line n (Above k) (Changed j) a b e = absurd (omega arith)
one_line n (Above k) (Below j) a b e = absurd (omega arith)
one_line n (Changed k) (Above j) a b e = absurd (omega arith)
one_line n (Changed k) (Changed j) a b e = ap Changed (a ∙ sym b)
one_line n (Changed k) (Below j) a b e = absurd (omega arith)
one_line n (Below k) (Above j) a b e = absurd (omega arith)
one_line n (Below k) (Changed j) a b e = absurd (omega arith)
one_line n (Below k) (Below j) a b e = let z : k ≡ j = omega arith in ap Below z

pub lines_agree : LinesAgree
lines_agree before middle changed after g i j e x y h k =
    ((λ q. ap (line_number (lines_above before)) q), one_line (lines_above before) x.line y.line (stood middle i x h) (stood changed j y k))
  where
    stood : (m : List ℕ) → InsideLine m → (z : Placed) → In z (placed before m after) → Stood (lines_above before) z.line
    stood m inside z q = stood_in (lines_above before) z (placed before m after) (placed_stood before m after (splits before m after g inside e)) q
