-- The promises of the element reader, proved. Assumes nothing.
use mathlib.Core.Path.{◌≡◌, refl, sym, ap, ap₂, ◌∙◌, subst}
use mathlib.Core.Bool.{Bool, true, false, cond, ◌&&◌, and-false}
use mathlib.Core.Logic.{⊎_elim}
use mathlib.Core.List.{List, [], ◌∷◌, ◌++◌, append-nil, append_assoc}
use Prim.Native.Nat.{ℕ, zero, suc, pred, ◌+◌, ◌≤◌, zero-le, suc-le-suc}
use native.Mathlib.Nat.{not-suc-le-zero, le_of_suc-le-suc, add-zero, zero-add, add-suc, suc-add, add_assoc, add-sub_cancel_left, le_refl}
use native.Mathlib.Numerals.{add-one}
use native.Mathlib.Omega.{arith}
use borrow.Author.Tests.{ltb-true, ltb-false, lt-ltb, le-ltb, lt-leb, le-leb}
use lib.Dec.{leb, ltb}
use lib.ListN.{length, take, drop, get_or, take-append-drop, length-append, length-drop, drop_of_length-le}
use lib.Seq.{length-take-le, drop-cons}
use Rattle.classes.specs.Signs.{ends_line, separates}
use Rattle.classes.specs.Runs.{count_while}
use Rattle.classes.proofs.Laws.{count_le}
use Rattle.elements.specs.Element.{element_at, ticks_after}
use Rattle.elements.specs.declared.Kind.{Kind}
use Rattle.elements.specs.declared.Front.{Front}
use Rattle.elements.specs.declared.Front.TheVariants.{Skip, Element}
use Rattle.elements.proofs.Sizes.{element_good}
use Rattle.elements.proofs.Skips.{skip_is}
use Rattle.element_reading.specs.Rows.{ElementRow, onto, lines_of, line_rows, lines_rows, rows_of}
use Rattle.element_reading.specs.code.LineEnds.{in_line}
use Rattle.element_reading.specs.Promises.{NoChoice, Answered, ReadExactly, RefusedExactly, InsideLine, Ended, Laid, nothing, line_end, separator, comment, element, NothingLost, InOrder, StandInOrder, moved, LinesApart, StartsLine, HasLine, placed_from, elements_in, LineAlone}
use Rattle.std.specs.Prelude.{Ok}
use Rattle.element_reading.proofs.Answers.{given_as, as_given, permitted_is, permitted_one, ReadingSays, reading_says, taken_read, refused_reading}
use Rattle.element_reading.proofs.LineLaws.{front_skip, front_element}
use Rattle.element_reading.proofs.TextLaws.{count_ended, count_byte, lines_ended, lines_byte, lines_none, text_first}

pub no_choice : NoChoice
no_choice s words r r' t t' p p' =
    let a = permitted_is s words r t p in
    let b = permitted_is s words r' t' p' in
    (a.0 ∙ sym b.0, a.1 ∙ sym b.1)

pub answered : Answered
answered = permitted_one

pub read_exactly : ReadExactly
read_exactly s words n = ((λ e. subst (ReadingSays s words) e (reading_says s words)), λ x. taken_read s words x.1 ∙ ap (λ (k : ℕ). Ok (record { 0 = k })) (sym x.0))

pub refused_exactly : RefusedExactly
refused_exactly s words r = (
  (λ e. as_given s words r (subst (ReadingSays s words) e (reading_says s words))),
  λ g. refused_reading s words r (given_as s words r g),
)

-- a part of what holds no line end holds none
inside_take : (n : ℕ) (l : List ℕ) → InsideLine l → InsideLine (take n l)
inside_take zero l h = tt
inside_take (suc n) [] h = tt
inside_take (suc n) (b ∷ l) h = (h.0, inside_take n l h.1)

inside_drop : (n : ℕ) (l : List ℕ) → InsideLine l → InsideLine (drop n l)
inside_drop zero l h = h
inside_drop (suc n) [] h = tt
inside_drop (suc n) (b ∷ l) h = inside_drop n l h.1

-- a line, and u after it, whose rows are rs: first what stands at the front of a rest that is not empty, then the whole line
abbrev Behind : List ℕ → List ElementRow → List ℕ → Type 0
Behind u rs l = (at : ℕ) (ticks : Bool) → InsideLine l → Laid (at + length l) u rs → Laid at (l ++ u) (line_rows 0 at ticks l ++ rs)

module _ (u : List ℕ) (rs : List ElementRow) (e : Ended u) (b : ℕ) (l : List ℕ) (at : ℕ) (ticks : Bool) (i : InsideLine (b ∷ l)) (d : Laid (at + length (b ∷ l)) u rs) where
  abbrev rest : List ℕ
  rest = b ∷ l

  front_separator : (n : ℕ) → element_at ticks rest ≡ Skip n → separates b ≡ true → n ≡ 1 → Behind u rs l → Laid at (rest ++ u) (line_rows 0 at ticks rest ++ rs)
  front_separator n q p one ih =
      let r : line_rows 0 at ticks rest ≡ line_rows 0 (suc at) ticks l = front_skip rest at n ticks (suc-le-suc zero-le) q ∙ rw (one, add-one) in
      rw r (separator p (ih (suc at) ticks i.1 (rw (add-suc, ← suc-add) at d)))

  front_comment : (n : ℕ) → element_at ticks rest ≡ Skip n → b ≡ 45 → get_or rest 1 0 ≡ 45 → n ≡ length rest → Laid at (rest ++ u) (line_rows 0 at ticks rest ++ rs)
  unfolding line_rows
  front_comment n q p p' all =
      let r : line_rows 0 at ticks rest ≡ [] = front_skip rest at n ticks (suc-le-suc zero-le) q ∙ ap (λ (x : List ℕ). line_rows 0 (at + n) ticks x) (drop_of_length-le rest {i = n} (omega (arith, all))) in
      rw r (comment rest refl (p, p') i e d)

  front_any : (k : Kind) (n : ℕ) → element_at ticks rest ≡ Element k n → Behind u rs (drop n rest) → Laid at (rest ++ u) (line_rows 0 at ticks rest ++ rs)
  front_any k n q ih =
      let g : (1 ≤ n) × (n ≤ length rest) = rw q at (element_good b l ticks) in
      let m : length (take n rest) ≡ n = length-take-le n rest g.1 in
      let w : rest ++ u ≡ take n rest ++ (drop n rest ++ u) = ap (λ (x : List ℕ). x ++ u) (sym (take-append-drop n rest)) ∙ append_assoc (take n rest) (drop n rest) u in
      let z : at + length (take n rest) + length (drop n rest) ≡ at + length rest = omega (arith, m, length-drop n rest, g.1) in
      let t = ih (at + length (take n rest)) (ticks_after k) (inside_drop n rest i) (rw (← z) at d) in
      rw (front_element rest at n ticks k (suc-le-suc zero-le) q) (rw m at (element k (take n rest) w (rw m g.0) (inside_take n rest i) t))

line_none : (u : List ℕ) (rs : List ElementRow) (l : List ℕ) → length l ≤ 0 → Behind u rs l
unfolding line_rows
line_none u rs [] h at ticks i d = rw add-zero at d
line_none u rs (b ∷ l) h at ticks i d = absurd (not-suc-le-zero h)

line_some : (f : ℕ) (u : List ℕ) (rs : List ElementRow) → Ended u → ((l : List ℕ) → length l ≤ f → Behind u rs l) → (l : List ℕ) → length l ≤ suc f → Behind u rs l
unfolding line_rows
line_some f u rs e ih [] h at ticks i d = rw add-zero at d
line_some f u rs e ih (b ∷ l) h at ticks i d = go (element_at ticks (b ∷ l)) refl
  where
    go : (x : Front) → element_at ticks (b ∷ l) ≡ x → Laid at ((b ∷ l) ++ u) (line_rows 0 at ticks (b ∷ l) ++ rs)
    go (Skip n) q =
        ⊎_elim (λ w. front_separator u rs e b l at ticks i d n q w.0 w.1 (ih l (le_of_suc-le-suc h)))
        (λ w. front_comment u rs e b l at ticks i d n q w.0 w.1 w.2) (rw q at (skip_is (b ∷ l) ticks))
    go (Element k n) q =
        let g : (1 ≤ n) × (n ≤ length (b ∷ l)) = rw q at (element_good b l ticks) in
        front_any u rs e b l at ticks i d k n q (ih (drop n (b ∷ l)) (omega (arith, h, g, length-drop n (b ∷ l))))

laid_line : (f : ℕ) (u : List ℕ) (rs : List ElementRow) → Ended u → (l : List ℕ) → length l ≤ f → Behind u rs l
laid_line zero u rs e = line_none u rs
laid_line (suc f) u rs e = line_some f u rs e (laid_line f u rs e)

-- the first line of a text holds no line end, and one stands after it, or the text ends
first_inside : (s : List ℕ) → InsideLine (take (count_while in_line s) s)
first_inside [] = inside_take (count_while in_line []) [] tt
first_inside (b ∷ s) = go (ends_line b) refl (first_inside s)
  where
    go : (x : Bool) → ends_line b ≡ x → InsideLine (take (count_while in_line s) s) → InsideLine (take (count_while in_line (b ∷ s)) (b ∷ s))
    go true e h = rw (count_ended b s e) tt
    go false e h = rw (count_byte b s e) (e, h)

first_ended : (s : List ℕ) → Ended (drop (count_while in_line s) s)
first_ended [] = rw (drop_of_length-le [] {i = count_while in_line []} zero-le) tt
first_ended (b ∷ s) = go (ends_line b) refl (first_ended s)
  where
    go : (x : Bool) → ends_line b ≡ x → Ended (drop (count_while in_line s) s) → Ended (drop (count_while in_line (b ∷ s)) (b ∷ s))
    go true e h = rw (count_ended b s e) e
    go false e h = rw (count_byte b s e) h

-- the rest of a text after its first line: nothing, or a line end and the lines after it
laid_rest : (at n : ℕ) (s : List ℕ) → Ended (drop n s) → Laid (suc (at + n)) (drop (suc n) s) (lines_rows (suc (at + n)) (lines_of (drop (suc n) s))) → Laid (at + n) (drop n s) (lines_rows (suc (at + n)) (lines_of (drop (suc n) s)))
laid_rest at n s e d = go (ltb n (length s)) refl
  where
    go : (x : Bool) → ltb n (length s) ≡ x → Laid (at + n) (drop n s) (lines_rows (suc (at + n)) (lines_of (drop (suc n) s)))
    go true t =
        let c = drop-cons s n 0 (ltb-true n (length s) t) in
        rw c (line_end (rw c at e) d)
    go false t =
        let h = ltb-false n (length s) t in
        rw (drop_of_length-le s {i = n} h, drop_of_length-le s {i = suc n} (omega arith), lines_none (suc (at + n))) nothing

text_none : (s : List ℕ) → length s ≤ 0 → (at : ℕ) → Laid at s (lines_rows at (lines_of s))
text_none [] h at = rw (lines_none at) nothing
text_none (b ∷ s) h at = absurd (not-suc-le-zero h)

text_some : (f : ℕ) → ((s : List ℕ) → length s ≤ f → (at : ℕ) → Laid at s (lines_rows at (lines_of s))) → (s : List ℕ) → length s ≤ suc f → (at : ℕ) → Laid at s (lines_rows at (lines_of s))
text_some f ih s h at =
    let n : ℕ = count_while in_line s in
    let r = laid_rest at n s (first_ended s) (ih (drop (suc n) s) (omega (arith, h, length-drop (suc n) s)) (suc (at + n))) in
    let m : length (take n s) ≡ n = length-take-le n s (count_le in_line s) in
    let t = laid_line (length (take n s)) (drop n s) (lines_rows (suc (at + n)) (lines_of (drop (suc n) s))) (first_ended s) (take n s) (le_refl _) at false (first_inside s) (rw m r) in
    rw (text_first s at n refl) (rw take-append-drop at t)

laid_text : (f : ℕ) (s : List ℕ) → length s ≤ f → (at : ℕ) → Laid at s (lines_rows at (lines_of s))
laid_text zero = text_none
laid_text (suc f) = text_some f (laid_text f)

pub nothing_lost : NothingLost
unfolding rows_of
nothing_lost s = laid_text (length s) s (le_refl _) 0

-- rows that are laid out stand in order
in_order : {at : ℕ} {s : List ℕ} {rs : List ElementRow} → Laid at s rs → (low : ℕ) → low ≤ at → InOrder low rs (at + length s)
in_order nothing low h = omega arith
in_order {at} (line_end {s = s} e d) low h = rw (add-suc at (length s), ← suc-add at (length s)) (in_order d low (omega arith))
in_order {at} (separator {s = s} e d) low h = rw (add-suc at (length s), ← suc-add at (length s)) (in_order d low (omega arith))
in_order {at} (comment {s = s} c p q i e d) low h = rw (p, length-append c s, ← add_assoc) (in_order d low (omega arith))
in_order {at} (element {s = s} k c p n i d) low h = (h, n, rw (p, length-append c s, ← add_assoc) (in_order d (at + length c) (le_refl _)))

pub stand_in_order : StandInOrder
stand_in_order s = rw zero-add at (in_order (nothing_lost s) 0 (le_refl _))

-- rows moved: of a line, of lines, of a text
moved_append : (n : ℕ) (xs ys : List ElementRow) → moved n (xs ++ ys) ≡ moved n xs ++ moved n ys
moved_append n [] ys = refl
moved_append n (r ∷ xs) ys = ap (λ (t : List ElementRow). record { kind = r.kind; first = n + r.first; size = r.size } ∷ t) (moved_append n xs ys)

line_moves : (l : List ℕ) (k n at : ℕ) (ticks : Bool) → line_rows k (n + at) ticks l ≡ moved n (line_rows k at ticks l)
unfolding line_rows
line_moves [] zero n at ticks = refl
line_moves [] (suc k) n at ticks = refl
line_moves (b ∷ l) (suc k) n at ticks = rw (← add-suc) (line_moves l k n (suc at) ticks)
line_moves (b ∷ l) zero n at ticks = go (element_at ticks (b ∷ l)) refl (λ (k : ℕ) (t : Bool). line_moves l k n (suc at) t)
  where
    go : (x : Front) → element_at ticks (b ∷ l) ≡ x → ((k : ℕ) (t : Bool) → line_rows k (n + suc at) t l ≡ moved n (line_rows k (suc at) t l)) → line_rows 0 (n + at) ticks (b ∷ l) ≡ moved n (line_rows 0 at ticks (b ∷ l))
    go (Skip m) e ih = rw (e, line_rows, ← add-suc) (ih (pred m) ticks)
    go (Element k m) e ih = rw (e, line_rows, ← add-suc) (ap (λ (t : List ElementRow). record { kind = k; first = n + at; size = m } ∷ t) (ih (pred m) (ticks_after k)))

lines_move : (ls : List (List ℕ)) (n at : ℕ) → lines_rows (n + at) ls ≡ moved n (lines_rows at ls)
unfolding lines_rows
lines_move [] n at = refl
lines_move (l ∷ ls) n at =
    let z : suc (n + at + length l) ≡ n + suc (at + length l) = omega arith in
    rw (line_moves l 0 n at false, moved_append) (ap (λ (t : List ElementRow). moved n (line_rows 0 at false l) ++ t) (rw z (lines_move ls n (suc (at + length l)))))

-- a text has a line at least
lines_shape : (s : List ℕ) → (l : List ℕ) × ((ls : List (List ℕ)) × (lines_of s ≡ l ∷ ls))
unfolding lines_of
lines_shape [] = ([], ([], refl))
lines_shape (b ∷ s) = go (ends_line b) refl (lines_shape s)
  where
    go : (x : Bool) → ends_line b ≡ x → (l : List ℕ) × ((ls : List (List ℕ)) × (lines_of s ≡ l ∷ ls)) → (l : List ℕ) × ((ls : List (List ℕ)) × (lines_of (b ∷ s) ≡ l ∷ ls))
    go true e h = ([], (lines_of s, lines_ended b s e))
    go false e h = (b ∷ h.0, (h.1.0, lines_byte b s e ∙ ap (onto b) h.1.1))

onto_apart : (x : ℕ) (s : List ℕ) (more : List (List ℕ)) → onto x (lines_of s ++ more) ≡ onto x (lines_of s) ++ more
onto_apart x s more = let h = lines_shape s in rw h.1.1

-- the lines of a text with a line end in it
lines_apart_at : (s t : List ℕ) (b : ℕ) → ends_line b ≡ true → lines_of (s ++ b ∷ t) ≡ lines_of s ++ lines_of t
unfolding lines_of
lines_apart_at [] t b e = lines_ended b t e
lines_apart_at (x ∷ s) t b e = go (ends_line x) refl (lines_apart_at s t b e)
  where
    go : (y : Bool) → ends_line x ≡ y → lines_of (s ++ b ∷ t) ≡ lines_of s ++ lines_of t → lines_of (x ∷ (s ++ b ∷ t)) ≡ lines_of (x ∷ s) ++ lines_of t
    go true f h = lines_ended x (s ++ b ∷ t) f ∙ ap (λ (ls : List (List ℕ)). [] ∷ ls) h ∙ sym (ap (λ (ls : List (List ℕ)). ls ++ lines_of t) (lines_ended x s f))
    go false f h = lines_byte x (s ++ b ∷ t) f ∙ ap (onto x) h ∙ onto_apart x s (lines_of t) ∙ sym (ap (λ (ls : List (List ℕ)). ls ++ lines_of t) (lines_byte x s f))

-- how many bytes lines take, each with the one that ends it
abbrev width : List (List ℕ) → ℕ
width [] = 0
width (l ∷ ls) = suc (length l + width ls)

width_onto : (x : ℕ) (l : List ℕ) (ls : List (List ℕ)) → width (onto x (l ∷ ls)) ≡ suc (width (l ∷ ls))
width_onto x l ls = omega arith

width_lines : (s : List ℕ) → width (lines_of s) ≡ suc (length s)
unfolding lines_of
width_lines [] = refl
width_lines (b ∷ s) = go (ends_line b) refl (width_lines s)
  where
    go : (x : Bool) → ends_line b ≡ x → width (lines_of s) ≡ suc (length s) → width (lines_of (b ∷ s)) ≡ suc (suc (length s))
    go true e h = ap width (lines_ended b s e) ∙ omega (arith, h)
    go false e h = let z = lines_shape s in ap width (lines_byte b s e ∙ ap (onto b) z.1.1) ∙ width_onto b z.0 z.1.0 ∙ ap suc (sym (ap width z.1.1) ∙ h)

rows_append : (xs ys : List (List ℕ)) (at : ℕ) → lines_rows at (xs ++ ys) ≡ lines_rows at xs ++ lines_rows (at + width xs) ys
unfolding lines_rows
rows_append [] ys at = rw add-zero
rows_append (l ∷ xs) ys at =
    let z : suc (at + length l) + width xs ≡ at + suc (length l + width xs) = omega arith in
    rw append_assoc (ap (λ (t : List ElementRow). line_rows 0 at false l ++ t) (rows_append xs ys (suc (at + length l)) ∙ ap (λ (k : ℕ). lines_rows (suc (at + length l)) xs ++ lines_rows k ys) z))

pub lines_apart : LinesApart
unfolding rows_of
lines_apart s t b e =
    ap (lines_rows 0) (lines_apart_at s t b e)
    ∙ rows_append (lines_of s) (lines_of t) 0
    ∙ ap (λ (r : List ElementRow). lines_rows 0 (lines_of s) ++ r) (ap (λ (k : ℕ). lines_rows k (lines_of t)) (zero-add (width (lines_of s)) ∙ width_lines s ∙ sym (add-zero (suc (length s)))) ∙ lines_move (lines_of t) (suc (length s)) 0)

-- a text that is one line
pub one_line : (l : List ℕ) → InsideLine l → lines_of l ≡ l ∷ []
unfolding lines_of
one_line [] h = refl
one_line (b ∷ l) h = lines_byte b l h.0 ∙ ap (onto b) (one_line l h.1)

-- the elements of a stretch of rows: none that stand before or after, all that stand in it
in_append : (at n : ℕ) (xs ys : List ElementRow) → elements_in at n (xs ++ ys) ≡ elements_in at n xs ++ elements_in at n ys
unfolding elements_in
in_append at n [] ys = refl
in_append at n (r ∷ xs) ys = go (leb at r.first && ltb r.first (at + n)) (in_append at n xs ys)
  where
    go : (x : Bool) → elements_in at n (xs ++ ys) ≡ elements_in at n xs ++ elements_in at n ys → cond x (placed_from at r ∷ elements_in at n (xs ++ ys)) (elements_in at n (xs ++ ys)) ≡ cond x (placed_from at r ∷ elements_in at n xs) (elements_in at n xs) ++ elements_in at n ys
    go true h = ap (λ (t : List ElementRow). placed_from at r ∷ t) h
    go false h = h

order_le : (rs : List ElementRow) (low end : ℕ) → InOrder low rs end → low ≤ end
order_le [] low end h = h
order_le (r ∷ rs) low end h = omega (arith, order_le rs (r.first + r.size) end h.2)

none_before : (at n : ℕ) (rs : List ElementRow) (low end : ℕ) → InOrder low rs end → end ≤ at → elements_in at n rs ≡ []
unfolding elements_in
none_before at n [] low end h l = refl
none_before at n (r ∷ rs) low end h l =
    rw (lt-leb at r.first (omega (arith, order_le rs (r.first + r.size) end h.2))) (none_before at n rs (r.first + r.size) end h.2 l)

none_behind : (at n k : ℕ) (rs : List ElementRow) → n ≤ k → elements_in at n (moved at (moved k rs)) ≡ []
unfolding elements_in
none_behind at n k [] l = refl
none_behind at n k (r ∷ rs) l =
    rw (le-ltb (at + (k + r.first)) (at + n) (omega arith), and-false (leb at (at + (k + r.first)))) (none_behind at n k rs l)

placed_back : (at : ℕ) (r : ElementRow) → placed_from at (record { kind = r.kind; first = at + r.first; size = r.size }) ≡ r
placed_back at r = ap (λ (f : ℕ). record { kind = r.kind; first = f; size = r.size }) (add-sub_cancel_left at r.first)

all_in : (at n : ℕ) (rs : List ElementRow) (low : ℕ) → InOrder low rs n → elements_in at n (moved at rs) ≡ rs
unfolding elements_in
all_in at n [] low h = refl
all_in at n (r ∷ rs) low h =
    let e = order_le rs (r.first + r.size) n h.2 in
    rw (le-leb at (at + r.first) (omega arith), lt-ltb (at + r.first) (at + n) (omega arith)) (ap₂ (λ (x : ElementRow) (t : List ElementRow). x ∷ t) (placed_back at r) (all_in at n rs (r.first + r.size) h.2))

-- rows before, those of a line of n bytes that begins at `at`, and rows after it
in_line_lem : (at n k : ℕ) (before line behind : List ElementRow) (end : ℕ) → InOrder 0 before end → end ≤ at → InOrder 0 line n → n ≤ k → elements_in at n (before ++ moved at (line ++ moved k behind)) ≡ line
in_line_lem at n k before line behind end b l i m =
    in_append at n before (moved at (line ++ moved k behind))
    ∙ ap (λ (t : List ElementRow). t ++ elements_in at n (moved at (line ++ moved k behind))) (none_before at n before 0 end b l)
    ∙ ap (elements_in at n) (moved_append at line (moved k behind))
    ∙ in_append at n (moved at line) (moved at (moved k behind))
    ∙ ap (λ (t : List ElementRow). elements_in at n (moved at line) ++ t) (none_behind at n k behind m)
    ∙ append-nil (elements_in at n (moved at line))
    ∙ all_in at n line 0 i

moved_none : (rs : List ElementRow) → moved 0 rs ≡ rs
moved_none [] = refl
moved_none (r ∷ rs) = rw zero-add (ap (λ (t : List ElementRow). r ∷ t) (moved_none rs))

-- what stands before a line ends with a line end
last_end : (b : ℕ) (s : List ℕ) → StartsLine (b ∷ s) → (p : List ℕ) × ((c : ℕ) × ((b ∷ s ≡ p ++ c ∷ []) × (ends_line c ≡ true)))
last_end b [] h = ([], (b, (refl, h)))
last_end b (d ∷ s) h = let r = last_end d s h in (b ∷ r.0, (r.1.0, (ap (λ (t : List ℕ). b ∷ t) r.1.1.0, r.1.1.1)))

-- the rows of a text that begins with a line
line_first : (line behind : List ℕ) → Ended behind → (rs : List ElementRow) × (rows_of (line ++ behind) ≡ rows_of line ++ moved (suc (length line)) rs)
line_first line [] e = ([], ap rows_of (append-nil line) ∙ sym (append-nil (rows_of line)))
line_first line (b ∷ u) e = (rows_of u, lines_apart line u b e)

line_there : (before line behind : List ℕ) → StartsLine before → Ended behind → elements_in (length before) (length line) (rows_of (before ++ (line ++ behind))) ≡ rows_of line
line_there [] line behind h e = let f = line_first line behind e in
    ap (elements_in 0 (length line)) (f.1 ∙ sym (moved_none (rows_of line ++ moved (suc (length line)) f.0)))
    ∙ in_line_lem 0 (length line) (suc (length line)) [] (rows_of line) f.0 0 (le_refl _) (le_refl _) (stand_in_order line) (omega arith)
line_there (b ∷ s) line behind h e = let f = line_first line behind e in
    let p = last_end b s h in
    let n : length (b ∷ s) ≡ suc (length p.0) = ap length p.1.1.0 ∙ length-append p.0 (p.1.0 ∷ []) ∙ add-one (length p.0) in
    rw n (ap (λ (t : List ℕ). elements_in (suc (length p.0)) (length line) (rows_of (t ++ (line ++ behind)))) p.1.1.0
    ∙ ap (λ (t : List ℕ). elements_in (suc (length p.0)) (length line) (rows_of t)) (append_assoc p.0 (p.1.0 ∷ []) (line ++ behind))
    ∙ ap (elements_in (suc (length p.0)) (length line)) (lines_apart p.0 (line ++ behind) p.1.0 p.1.1.1 ∙ ap (λ (t : List ElementRow). rows_of p.0 ++ moved (suc (length p.0)) t) f.1)
    ∙ in_line_lem (suc (length p.0)) (length line) (suc (length line)) (rows_of p.0) (rows_of line) f.0 (length p.0) (stand_in_order p.0) (omega arith) (stand_in_order line) (omega arith))

line_own : (text line : List ℕ) (at : ℕ) → HasLine text line at → elements_in at (length line) (rows_of text) ≡ rows_of line
line_own text line at h = rw (h.whole, h.place) (line_there h.before line h.behind h.starts h.ended)

pub line_alone : LineAlone
line_alone text text' line at at' h h' = line_own text line at h ∙ sym (line_own text' line at' h')
