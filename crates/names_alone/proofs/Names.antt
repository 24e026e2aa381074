-- What an identifier and an extended identifier are by the rules of elements, that they are so with nothing behind them, and that such bytes
-- are read so. Assumes nothing.
use Rattle.std.proofs.Common.{Option, Some, None}
use Prim.Native.Nat.{ℕ, zero, suc, ◌+◌, ◌≤◌}
use mathlib.Core.Path.{◌≡◌, refl, sym, ap, subst, ◌∙◌}
use mathlib.Core.Bool.{Bool, true, false, cond, not, ◌&&◌, ◌||◌, false≢true}
use mathlib.Core.List.{List, [], ◌∷◌}
use native.Mathlib.Nat.{le_refl}
use native.Mathlib.Omega.{arith}
use borrow.Author.Tests.{eqb-true, ne_eqb}
use lib.Dec.{eqb}
use lib.ListN.{length, get_or, take, drop, get_or-eq_default}
use lib.Seq.{take-take, length-take-le}
use Rattle.laws.proofs.Laws.{clash, both_right}
use Rattle.classes.specs.Signs.{separates, is_graphic}
use Rattle.classes.specs.Bytes.{is_letter, is_digit}
use Rattle.classes.specs.Bytes as bytes
use Rattle.classes.specs.Signs as signs
use Rattle.classes.specs.Runs.{in_run, count_while, goes_on, run}
use Rattle.classes.specs.declared.Run.{Run}
use Rattle.classes.specs.declared.Run.TheVariants.{Word}
use Rattle.classes.proofs.Laws.{count_more, count_none, run_some, letter_in_word}
use Rattle.words.specs.Words.{place_in, reserved_words, delimiters}
use Rattle.numbers.specs.Numbers.{number}
use Rattle.numbers.specs.declared.Number.{Number}
use Rattle.numbers.specs.declared.Number.TheVariants as N
use Rattle.quoted.specs.Quoted.{closed_from, closed}
use Rattle.quoted.proofs.Laws.{closed_in}
use Rattle.elements.specs.Element.{first_is, first_are, unreadable_front, identifier_by, identifier_front, extended_by, extended_front, numeral_by, string_by, string_front, apostrophe_front, delimiter_by, delimiter_front, ruled, spoils, unless_spoilt, element_at}
use Rattle.elements.specs.declared.Kind.{Kind}
use Rattle.elements.specs.declared.Front.{Front}
use Rattle.elements.specs.declared.Front.TheVariants.{Skip, Element}
use Rattle.names_alone.specs.Alone.{ReadsAs}

-- ---- what they are

-- an identifier of n bytes at the front
pub record Basic (s : List ℕ) (n : ℕ) : Type 0 where
  pub letter : is_letter (get_or s 0 0) ≡ true
  pub size : run Word s ≡ n
  pub free : place_in (take n s) reserved_words ≡ None

-- an extended one
pub record Extended (s : List ℕ) (n : ℕ) : Type 0 where
  pub first : get_or s 0 0 ≡ signs.backslash
  pub inside : ℕ
  pub closes : closed signs.backslash (drop 1 s) ≡ Some inside
  pub some : eqb inside 1 ≡ false
  pub size : inside + 1 ≡ n

abbrev KindIs : List ℕ → ℕ → Kind → Type 0
KindIs s n Kind.Identifier = Basic s n
KindIs s n Kind.Extended = Extended s n
KindIs s n (Kind.Literal l) = Unit {0}
KindIs s n Kind.Unreadable = Unit {0}
KindIs s n (Kind.Delimiter k) = Unit {0}
KindIs s n (Kind.Reserved k) = Unit {0}

abbrev FrontIs : List ℕ → Front → Type 0
FrontIs s (Skip n) = Unit {0}
FrontIs s (Element k n) = KindIs s n k

is_when : (s : List ℕ) (c : Bool) (x y : Front) → (c ≡ true → FrontIs s x) → FrontIs s y → FrontIs s (cond c x y)
is_when s true x y f g = f refl
is_when s false x y f g = g

is_unless : (s : List ℕ) (c : Bool) (x y : Front) → FrontIs s x → (c ≡ false → FrontIs s y) → FrontIs s (cond c x y)
is_unless s true x y f g = f
is_unless s false x y f g = g refl

is_unreadable : (s : List ℕ) → FrontIs s (unreadable_front s)
unfolding unreadable_front
is_unreadable s = tt

is_identifier_lem : (s : List ℕ) → is_letter (get_or s 0 0) ≡ true → FrontIs s (identifier_front s)
unfolding identifier_front
is_identifier_lem s h = go (place_in (take (run Word s) s) reserved_words) refl
  where
    go : (p : Option ℕ) → place_in (take (run Word s) s) reserved_words ≡ p → FrontIs s (identifier_by p (run Word s))
    go (Some n) e = tt
    go None e = record { letter = h; size = refl; free = e }

is_extended : (s : List ℕ) → get_or s 0 0 ≡ signs.backslash → FrontIs s (extended_front s)
unfolding extended_front
is_extended s h = go (closed signs.backslash (drop 1 s)) refl
  where
    go : (c : Option ℕ) → closed signs.backslash (drop 1 s) ≡ c → FrontIs s (extended_by c s)
    go (Some n) e =
        is_unless s (eqb n 1) (unreadable_front s) (Element Kind.Extended (n + 1)) (is_unreadable s)
        (λ m. record { first = h; inside = n; closes = e; some = m; size = refl })
    go None e = is_unreadable s

is_numeral : (n : Number) (s : List ℕ) → FrontIs s (numeral_by n s)
is_numeral (N.Integer n) s = tt
is_numeral (N.Real n) s = tt
is_numeral N.Neither s = is_unreadable s

is_string : (s : List ℕ) → FrontIs s (string_front s)
unfolding string_front
is_string s = go (closed signs.quote (drop 1 s))
  where
    go : (c : Option ℕ) → FrontIs s (string_by c s)
    go (Some n) = tt
    go None = is_unreadable s

is_apostrophe : (ticks : Bool) (s : List ℕ) → FrontIs s (apostrophe_front ticks s)
unfolding apostrophe_front
is_apostrophe ticks s =
    is_when s (not ticks && eqb (get_or s 2 0) signs.apostrophe) _ _ (λ _. is_when s (is_graphic (get_or s 1 0)) _ (unreadable_front s) (λ _. tt) (is_unreadable s)) tt

is_delimiter : (s : List ℕ) (p : Option ℕ) (n : ℕ) (x : Front) → FrontIs s x → FrontIs s (delimiter_by p n x)
is_delimiter s (Some k) n x h = tt
is_delimiter s None n x h = h

is_delimiters : (s : List ℕ) → FrontIs s (delimiter_front s)
unfolding delimiter_front
is_delimiters s =
    is_delimiter s (place_in (take 2 s) delimiters) (length (take 2 s)) _
    (is_delimiter s (place_in (take 1 s) delimiters) (length (take 1 s)) (unreadable_front s) (is_unreadable s))

is_ruled : (ticks : Bool) (s : List ℕ) → FrontIs s (ruled ticks s)
unfolding ruled
is_ruled ticks s =
    let b : ℕ = get_or s 0 0 in
    is_when s (separates b) (Skip 1) _ (λ _. tt)
    (is_when s (first_are bytes.hyphen bytes.hyphen s) (Skip (length s)) _ (λ _. tt)
    (is_when s (is_letter b) (identifier_front s) _ (is_identifier_lem s)
    (is_when s (first_is signs.backslash s) (extended_front s) _ (λ e. is_extended s (eqb-true b signs.backslash e))
    (is_when s (is_digit b) (numeral_by (number s) s) _ (λ _. is_numeral (number s) s)
    (is_when s (first_is signs.quote s) (string_front s) _ (λ _. is_string s)
    (is_when s (first_is signs.apostrophe s) (apostrophe_front ticks s) _ (λ _. is_apostrophe ticks s)
    (is_when s (first_are signs.slash signs.star s) (unreadable_front s) (delimiter_front s) (λ _. is_unreadable s)
    (is_delimiters s))))))))

is_unspoilt : (s : List ℕ) (f : Front) → FrontIs s f → FrontIs s (unless_spoilt s f)
is_unspoilt s (Skip n) h = tt
is_unspoilt s (Element k n) h = is_when s (spoils k (get_or s n 0)) (unreadable_front s) (Element k n) (λ _. is_unreadable s) h

front_is : (ticks : Bool) (s : List ℕ) → FrontIs s (element_at ticks s)
unfolding element_at
front_is ticks s = is_unspoilt s (ruled ticks s) (is_ruled ticks s)

pub basic_is : (ticks : Bool) (s : List ℕ) (n : ℕ) → element_at ticks s ≡ Element Kind.Identifier n → Basic s n
basic_is ticks s n e = subst (FrontIs s) e (front_is ticks s)

pub extended_is : (ticks : Bool) (s : List ℕ) (n : ℕ) → element_at ticks s ≡ Element Kind.Extended n → Extended s n
extended_is ticks s n e = subst (FrontIs s) e (front_is ticks s)

-- ---- with nothing behind them

-- a run, cut off where it ends
count_on : (c : Run) (b : ℕ) (s : List ℕ) → goes_on c (b ∷ s) ≡ true → run c (b ∷ s) ≡ suc (run c s)
unfolding run
count_on c b s h = count_more (goes_on c) b s h

count_off : (c : Run) (b : ℕ) (s : List ℕ) → goes_on c (b ∷ s) ≡ false → run c (b ∷ s) ≡ 0
unfolding run
count_off c b s h = count_none (goes_on c) b s h

run_none : (c : Run) → run c [] ≡ 0
unfolding run count_while
run_none c = refl

-- the byte after an underscore is still there
goes_cut : (c : Run) (b : ℕ) (s : List ℕ) → goes_on c (b ∷ s) ≡ true → goes_on c (b ∷ take (run c s) s) ≡ true
unfolding goes_on run count_while
goes_cut c b s h = go (in_run c b) s h
  where
    go : (x : Bool) (t : List ℕ) → (x || eqb b bytes.underscore && in_run c (get_or t 0 0)) ≡ true → (x || eqb b bytes.underscore && in_run c (get_or (take (run c t) t) 0 0)) ≡ true
    go true t e = refl
    go false [] e = e
    go false (d ∷ t) e =
        let some = run_some c d t (both_right (eqb b bytes.underscore) (in_run c d) e) in
        subst (λ (k : ℕ). (eqb b bytes.underscore && in_run c (get_or (take k (d ∷ t)) 0 0)) ≡ true) (first (run c (d ∷ t)) some).1 e
      where
        first : (k : ℕ) → 1 ≤ k → (m : ℕ) × (suc m ≡ k)
        first zero l = absurd (omega arith)
        first (suc m) l = (m, refl)

run_cut : (c : Run) (s : List ℕ) → run c (take (run c s) s) ≡ run c s
unfolding run count_while
run_cut c [] = refl
run_cut c (b ∷ s) = go (goes_on c (b ∷ s)) refl (run_cut c s)
  where
    go : (x : Bool) → goes_on c (b ∷ s) ≡ x → run c (take (run c s) s) ≡ run c s → run c (take (run c (b ∷ s)) (b ∷ s)) ≡ run c (b ∷ s)
    go true e ih =
        ap (λ (k : ℕ). run c (take k (b ∷ s))) (count_on c b s e) ∙ count_on c b (take (run c s) s) (goes_cut c b s e) ∙ ap suc ih ∙ sym (count_on c b s e)
    go false e ih = ap (λ (k : ℕ). run c (take k (b ∷ s))) (count_off c b s e) ∙ run_none c ∙ sym (count_off c b s e)

-- the first byte is still there
first_cut : (n : ℕ) (s : List ℕ) → 1 ≤ n → get_or (take n s) 0 0 ≡ get_or s 0 0
first_cut zero s l = absurd (omega arith)
first_cut (suc n) [] l = refl
first_cut (suc n) (b ∷ s) l = refl

letter_there : is_letter 0 ≡ true → ⊥
unfolding is_letter
letter_there h = false≢true h

basic_some : (s : List ℕ) (n : ℕ) → Basic s n → 1 ≤ n
basic_some [] n h = absurd (letter_there h.letter)
basic_some (b ∷ s) n h = omega (arith, run_some Word b s (letter_in_word b h.letter), h.size)

basic_cut : (s : List ℕ) (n : ℕ) → Basic s n → Basic (take n s) n
basic_cut s n h = record {
  letter = ap is_letter (first_cut n s (basic_some s n h)) ∙ h.letter;
  size = ap (λ (k : ℕ). run Word (take k s)) (sym h.size) ∙ run_cut Word s ∙ h.size;
  free = ap (λ (w : List ℕ). place_in w reserved_words) (take-take n n s (le_refl n)) ∙ h.free;
}

-- a quoted stretch, cut off behind its closing quote
same_after : (a b : ℕ) → Some a ≡ Some b → a ≡ b
same_after a b e = cc

never_after : {A : Type 0} (n : ℕ) → None ≡ Some n → A
never_after n e = let z : ◌≡◌ {A = ℕ} 0 1 = cc in clash z

closed_cut : (q m d : ℕ) (s : List ℕ) → closed_from q m s ≡ Some (m + d) → closed_from q m (take d s) ≡ Some (m + d)
unfolding closed_from
closed_cut q m d [] e = never_after (m + d) e
closed_cut q m zero (b ∷ s) e = absurd (omega (arith, (closed_in q (b ∷ s) m (m + 0) e).0))
closed_cut q m (suc d) (b ∷ []) e = ap (closed_from q m) (all d) ∙ e
  where
    all : (k : ℕ) → take (suc k) (b ∷ []) ≡ b ∷ []
    all zero = refl
    all (suc k) = refl
closed_cut q m (suc d) (b ∷ c ∷ s) e = go (eqb b q) (eqb c q) (is_graphic b) d refl refl refl e (λ k w. closed_cut q (suc (suc m)) k s w) (λ k w. closed_cut q (suc m) k (c ∷ s) w)
  where
    go : (x y z : Bool) (d : ℕ) → eqb b q ≡ x → eqb c q ≡ y → is_graphic b ≡ z
        → cond x (cond y (closed_from q (suc (suc m)) s) (Some (suc m))) (cond z (closed_from q (suc m) (c ∷ s)) None) ≡ Some (m + suc d)
        → ((k : ℕ) → closed_from q (suc (suc m)) s ≡ Some (suc (suc m) + k) → closed_from q (suc (suc m)) (take k s) ≡ Some (suc (suc m) + k))
        → ((k : ℕ) → closed_from q (suc m) (c ∷ s) ≡ Some (suc m + k) → closed_from q (suc m) (take k (c ∷ s)) ≡ Some (suc m + k))
        → closed_from q m (take (suc d) (b ∷ c ∷ s)) ≡ Some (m + suc d)
    go true true z zero p r g e two one = absurd (omega (arith, (closed_in q s (suc (suc m)) (m + 1) e).0))
    go true true z (suc d) p r g e two one =
        let w : m + suc (suc d) ≡ suc (suc m) + d = omega arith in
        rw (p, r) (two d (e ∙ ap Some w) ∙ ap Some (sym w))
    go true false z zero p r g e two one = rw p e
    go true false z (suc d) p r g e two one = absurd (omega (arith, same_after (suc m) (m + suc (suc d)) e))
    go false y true zero p r g e two one = absurd (omega (arith, (closed_in q (c ∷ s) (suc m) (m + 1) e).0))
    go false y true (suc d) p r g e two one =
        let w : m + suc (suc d) ≡ suc m + suc d = omega arith in
        rw (p, g) (one (suc d) (e ∙ ap Some w) ∙ ap Some (sym w))
    go false y false d p r g e two one = never_after (m + suc d) e

extended_cut : (s : List ℕ) (n : ℕ) → Extended s n → Extended (take n s) n
extended_cut s n h = record {
  first = first_cut n s (omega (arith, h.size)) ∙ h.first;
  inside = h.inside;
  closes =
      ap (closed signs.backslash) (sym (behind h.inside n s h.size))
      ∙ closed_cut signs.backslash 0 h.inside (drop 1 s) (h.closes ∙ ap Some (zero_plus h.inside)) ∙ ap Some (sym (zero_plus h.inside));
  some = h.some;
  size = h.size;
}
  where
    zero_plus : (k : ℕ) → k ≡ 0 + k
    zero_plus k = omega arith

    behind : (k n : ℕ) (t : List ℕ) → k + 1 ≡ n → take k (drop 1 t) ≡ drop 1 (take n t)
    behind k zero t e = absurd (omega arith)
    behind k (suc n) [] e = go k
      where
        go : (k : ℕ) → take {A = ℕ} k [] ≡ []
        go zero = refl
        go (suc k) = refl
    behind k (suc n) (b ∷ t) e = let w : k ≡ n = omega arith in ap (λ (i : ℕ). take i t) w

-- ---- such bytes are read so

no_separator : (b : ℕ) → is_letter b ≡ true → separates b ≡ false
unfolding is_letter separates
no_separator b h = rw (ne_eqb b 9 (λ e. lettered 9 e refl), ne_eqb b 32 (λ e. lettered 32 e refl), ne_eqb b 160 (λ e. lettered 160 e refl))
  where
    lettered : (k : ℕ) → b ≡ k → is_letter k ≡ false → ⊥
    lettered k e f = false≢true (sym f ∙ ap is_letter (sym e) ∙ h)

no_comment : (b : ℕ) (s : List ℕ) → is_letter b ≡ true → (eqb b bytes.hyphen && eqb (get_or s 1 0) bytes.hyphen) ≡ false
unfolding is_letter
no_comment b s h = rw (ne_eqb b bytes.hyphen (λ e. false≢true (ap is_letter (sym e) ∙ h)))

past_end : (s : List ℕ) (n : ℕ) → length s ≡ n → get_or s n 0 ≡ 0
past_end s n e = get_or-eq_default s 0 (omega arith)

pub basic_reads : (s : List ℕ) → Basic s (length s) → ReadsAs Kind.Identifier s
unfolding element_at ruled identifier_front
basic_reads s h = rw (no_separator (get_or s 0 0) h.letter, no_comment (get_or s 0 0) s h.letter, h.letter, h.size, h.free, past_end s (length s) refl)

pub extended_reads : (s : List ℕ) → Extended s (length s) → ReadsAs Kind.Extended s
unfolding element_at ruled extended_front separates is_letter
extended_reads s h = rw (h.first, h.closes, h.some, h.size, past_end s (length s) refl)

-- ---- so an element of a text, cut out, is read as it was

pub basic_alone : (ticks : Bool) (s : List ℕ) (n : ℕ) → n ≤ length s → element_at ticks s ≡ Element Kind.Identifier n → ReadsAs Kind.Identifier (take n s)
basic_alone ticks s n l e = basic_reads (take n s) (subst (Basic (take n s)) (sym (length-take-le n s l)) (basic_cut s n (basic_is ticks s n e)))

pub extended_alone : (ticks : Bool) (s : List ℕ) (n : ℕ) → n ≤ length s → element_at ticks s ≡ Element Kind.Extended n → ReadsAs Kind.Extended (take n s)
extended_alone ticks s n l e = extended_reads (take n s) (subst (Extended (take n s)) (sym (length-take-le n s l)) (extended_cut s n (extended_is ticks s n e)))
