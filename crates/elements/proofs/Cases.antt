-- The ways of the definitions of `Element`, in the code's terms: each premise is what a call, a test or a match gives. Assumes nothing.
use Rattle.std.proofs.Common.{Option, Some, None}
use mathlib.Core.Path.{◌≡◌, refl, sym, ap, ◌∙◌}
use mathlib.Core.Bool.{Bool, true, false, ◌&&◌, ◌||◌}
use mathlib.Core.List.{List, [], ◌∷◌}
use Prim.Native.Nat.{ℕ, ◌+◌, ◌-◌, ◌^◌, ◌≤◌, ◌<◌}
use native.Mathlib.Omega.{arith}
use borrow.Author.Tests.{eq-eqb, ne_eqb, lt-ltb, le-ltb}
use mir.Val.{Fits}
use mir.Syntax.{w8, w64}
use lib.Dec.{eqb}
use lib.ListN.{length, take, drop, get_or, length-drop}
use Rattle.classes.specs.Bytes.{is_letter, is_digit}
use Rattle.classes.specs.Signs.{separates, is_graphic}
use Rattle.classes.specs.Runs.{run}
use Rattle.classes.specs.declared.Run.TheVariants.{Word}
use Rattle.classes.proofs.Laws.{part_rest, run_le}
use Rattle.words.specs.Words.{place_in, reserved_words, delimiters, bytes_of, begins, spells, place_from}
use Rattle.words.proofs.Laws.{place_below}
use Rattle.numbers.specs.Numbers.{number}
use Rattle.numbers.specs.declared.Number.{Number}
use Rattle.numbers.specs.declared.Number.TheVariants.{Integer, Real, Neither}
use Rattle.quoted.proofs.Laws.{closed_in}
use Rattle.quoted.specs.Quoted.{closed_from}
use Rattle.elements.specs.Element.{unreadable_front, string_front, string_by, apostrophe_front, spoils_number, delimiter_front, ruled, element_at}
use Rattle.elements.proofs.Rules.{found_ruled}
use Rattle.elements.specs.code.Ways.{identifier_at, letters_at, extended_at, extended_from, numeral_at, numeral_from, single_at, delimiter_at, other_at, opens_of, found_at, opened_by}
use Rattle.elements.specs.declared.Kind.{Kind}
use Rattle.elements.specs.declared.Literal.{Literal}
use Rattle.elements.specs.declared.Opens.{Opens}
use Rattle.elements.specs.declared.Front.{Front}
use Rattle.elements.specs.declared.Front.TheVariants.{Skip, Element}

-- a place in either list fits a byte
pub reserved_fits : (p : Option ℕ) (w : List ℕ) (k : ℕ) → p ≡ place_in w reserved_words → p ≡ Some k → Fits w8 k
unfolding reserved_words
reserved_fits p w k e m = omega (arith, place_below reserved_words 0 k w (sym e ∙ m))

pub delimiter_fits : (p : Option ℕ) (w : List ℕ) (k : ℕ) → p ≡ place_in w delimiters → p ≡ Some k → Fits w8 k
unfolding delimiters
delimiter_fits p w k e m = omega (arith, place_below delimiters 0 k w (sym e ∙ m))

-- a mark closes within the text
pub closed_fits : (q : ℕ) (s : List ℕ) (cl : Option ℕ) (n : ℕ) → cl ≡ closed_from q 0 (take (length s - 1) (drop 1 s)) → cl ≡ Some n → 0 < length s → length s < 2 ^ 64 → Fits w64 (n + 1)
closed_fits q s cl n e m l h = omega (arith, closed_in q (drop 1 s) 0 n (sym (rw (part_rest s 1) at e) ∙ m), length-drop 1 s)

-- identifiers and reserved words: n bytes, and `next` after them
module _ (s : List ℕ) (n next : ℕ) (h : n ≡ run Word s) (q : next ≡ get_or s n 0) where
  pub word_part : n ≤ length s
  word_part = omega (arith, h, run_le Word s)

  pub word_broken : (f : Front) → next ≡ 95 → f ≡ unreadable_front s → f ≡ letters_at s
  unfolding letters_at
  word_broken f e g = simp (← h, ← q, eq-eqb next 95 e, g)

  module _ (p : Option ℕ) (x : next ≡ 95 → ⊥) (e : p ≡ place_in (take n s) reserved_words) where
    pub word_reserved : (k : ℕ) → p ≡ Some k → Element (Kind.Reserved k) n ≡ letters_at s
    unfolding letters_at
    word_reserved k m = simp (← h, ← q, ne_eqb next 95 x, ← e, m)

    pub word_quote : (f : Front) → p ≡ None → next ≡ 34 → f ≡ unreadable_front s → f ≡ letters_at s
    unfolding letters_at identifier_at
    word_quote f m y g = simp (← h, ← q, ne_eqb next 95 x, ← e, m, eq-eqb next 34 y, g)

    pub word_name : p ≡ None → (next ≡ 34 → ⊥) → Element Kind.Identifier n ≡ letters_at s
    unfolding letters_at identifier_at
    word_name m y = simp (← h, ← q, ne_eqb next 95 x, ← e, m, ne_eqb next 34 y)

-- what stands between marks: the mark at 0, then the answer of `closing`
module _ (s : List ℕ) (cl : Option ℕ) (e : cl ≡ closed_from 92 0 (take (length s - 1) (drop 1 s))) where
  extended_is : extended_at s ≡ extended_from cl s
  unfolding extended_at
  extended_is = rw (e, part_rest s 1)

  pub extended_open : (f : Front) → cl ≡ None → f ≡ unreadable_front s → f ≡ extended_at s
  extended_open f m g = g ∙ sym (rw m at extended_is)

  module _ (n next : ℕ) (x : Bool) (m : cl ≡ Some n) (q : next ≡ get_or s (n + 1) 0) (y : x ≡ (eqb n 1 || eqb next 95 || eqb next 34)) where
    pub extended_spoilt : (f : Front) → x ≡ true → f ≡ unreadable_front s → f ≡ extended_at s
    extended_spoilt f t g = g ∙ sym (rw (m, ← q, ← y, t) at extended_is)

    pub extended_whole : x ≡ false → Element Kind.Extended (n + 1) ≡ extended_at s
    extended_whole t = sym (rw (m, ← q, ← y, t) at extended_is)

module _ (s : List ℕ) (cl : Option ℕ) (e : cl ≡ closed_from 34 0 (take (length s - 1) (drop 1 s))) where
  string_is : string_front s ≡ string_by cl s
  unfolding string_front
  string_is = rw (e, part_rest s 1)

  pub string_open : (f : Front) → cl ≡ None → f ≡ unreadable_front s → f ≡ string_front s
  string_open f m g = g ∙ sym (rw m at string_is)

  pub string_whole : (n : ℕ) → cl ≡ Some n → Element (Kind.Literal Literal.String) (n + 1) ≡ string_front s
  string_whole n m = sym (rw m at string_is)

-- numbers, and what stands after them
module _ (s : List ℕ) (r : Number) (e : r ≡ number s) where
  numeral_is : numeral_at s ≡ numeral_from r s
  unfolding numeral_at
  numeral_is = rw e

  pub numeral_none : (f : Front) → r ≡ Neither → f ≡ unreadable_front s → f ≡ numeral_at s
  numeral_none f m g = g ∙ sym (rw m at numeral_is)

  module _ (n b : ℕ) (x : Bool) (q : b ≡ get_or s n 0) (y : x ≡ spoils_number b) where
    pub integer_spoilt : (f : Front) → r ≡ Integer n → x ≡ true → f ≡ unreadable_front s → f ≡ numeral_at s
    integer_spoilt f m t g = g ∙ sym (rw (m, ← q, ← y, t) at numeral_is)

    pub integer_whole : r ≡ Integer n → x ≡ false → Element (Kind.Literal Literal.Integer) n ≡ numeral_at s
    integer_whole m t = sym (rw (m, ← q, ← y, t) at numeral_is)

    pub real_spoilt : (f : Front) → r ≡ Real n → x ≡ true → f ≡ unreadable_front s → f ≡ numeral_at s
    real_spoilt f m t g = g ∙ sym (rw (m, ← q, ← y, t) at numeral_is)

    pub real_whole : r ≡ Real n → x ≡ false → Element (Kind.Literal Literal.Real) n ≡ numeral_at s
    real_whole m t = sym (rw (m, ← q, ← y, t) at numeral_is)

-- the apostrophe
module _ (s : List ℕ) (ticks : Bool) where
  pub tick_after : ticks ≡ true → Element (Kind.Delimiter 8) 1 ≡ apostrophe_front ticks s
  unfolding apostrophe_front
  tick_after t = simp t

  module _ (b : ℕ) (t : ticks ≡ false) (q : b ≡ get_or s 2 0) where
    pub tick_alone : (b ≡ 39 → ⊥) → Element (Kind.Delimiter 8) 1 ≡ apostrophe_front ticks s
    unfolding apostrophe_front
    tick_alone n = simp (t, ← q, ne_eqb b 39 n)

    module _ (d : ℕ) (x : Bool) (e : b ≡ 39) (q' : d ≡ get_or s 1 0) (y : x ≡ is_graphic d) where
      pub character_whole : x ≡ true → Element (Kind.Literal Literal.Character) 3 ≡ apostrophe_front ticks s
      unfolding apostrophe_front
      character_whole u = simp (t, ← q, eq-eqb b 39 e, ← q', ← y, u)

      pub character_broken : (f : Front) → x ≡ false → f ≡ unreadable_front s → f ≡ apostrophe_front ticks s
      unfolding apostrophe_front
      character_broken f u g = simp (t, ← q, eq-eqb b 39 e, ← q', ← y, u, g)

-- delimiters
take_one : (s : List ℕ) → 0 < length s → take 1 s ≡ get_or s 0 0 ∷ []
take_one [] h = absurd (omega (arith, h))
take_one (b ∷ s) h = refl

take_two : (s : List ℕ) → 2 ≤ length s → take 2 s ≡ get_or s 0 0 ∷ get_or s 1 0 ∷ []
take_two [] h = absurd (omega (arith, h))
take_two (b ∷ []) h = absurd (omega (arith, h))
take_two (b ∷ d ∷ s) h = refl

module _ (s : List ℕ) (p : Option ℕ) (b : ℕ) (q : b ≡ get_or s 0 0) where
  module _ (h : 0 < length s) (e : p ≡ place_in (b ∷ []) delimiters) where
    one_as : p ≡ place_in (take 1 s) delimiters
    one_as = rw (take_one s h, ← q) e

    pub single_found : (k : ℕ) → p ≡ Some k → Element (Kind.Delimiter k) 1 ≡ single_at s
    unfolding single_at
    single_found k m = simp (← one_as, m)

    pub single_none : (f : Front) → p ≡ None → f ≡ unreadable_front s → f ≡ single_at s
    unfolding single_at
    single_none f m g = simp (← one_as, m, g)

  module _ (d : ℕ) (q' : d ≡ get_or s 1 0) (l : 2 ≤ length s) (e : p ≡ place_in (b ∷ d ∷ []) delimiters) where
    two_as : p ≡ place_in (take 2 s) delimiters
    two_as = rw (take_two s l, ← q, ← q') e

    pub double_found : (k : ℕ) → p ≡ Some k → Element (Kind.Delimiter k) 2 ≡ delimiter_at s
    unfolding delimiter_at
    double_found k m = simp (le-ltb (length s) 2 l, ← two_as, m)

    pub double_none : (f : Front) → p ≡ None → f ≡ single_at s → f ≡ delimiter_at s
    unfolding delimiter_at
    double_none f m g = simp (le-ltb (length s) 2 l, ← two_as, m, g)

pub double_short : (s : List ℕ) (f : Front) → length s < 2 → f ≡ single_at s → f ≡ delimiter_at s
unfolding delimiter_at
double_short s f l g = simp (lt-ltb (length s) 2 l, g)

-- comments and the rest
module _ (s : List ℕ) (b d : ℕ) (q : b ≡ get_or s 0 0) (q' : d ≡ get_or s 1 0) where
  pub other_comment : (eqb b 45 && eqb d 45) ≡ true → Skip (length s) ≡ other_at s
  unfolding other_at
  other_comment t = simp (← q, ← q', t)

  pub other_delimited : (f : Front) → (eqb b 45 && eqb d 45) ≡ false → (eqb b 47 && eqb d 42) ≡ true → f ≡ unreadable_front s → f ≡ other_at s
  unfolding other_at
  other_delimited f t u g = simp (← q, ← q', t, u, g)

  pub other_plain : (f : Front) → (eqb b 45 && eqb d 45) ≡ false → (eqb b 47 && eqb d 42) ≡ false → f ≡ delimiter_at s → f ≡ other_at s
  unfolding other_at
  other_plain f t u g = simp (← q, ← q', t, u, g)

-- with what a byte opens
module _ (b : ℕ) (x : Bool) (e : x ≡ separates b) where
  pub opens_separator : x ≡ true → Opens.Separator ≡ opens_of b
  unfolding opens_of
  opens_separator t = simp (← e, t)

  module _ (y : Bool) (t : x ≡ false) (f : y ≡ is_letter b) where
    pub opens_letter : y ≡ true → Opens.Letter ≡ opens_of b
    unfolding opens_of
    opens_letter u = simp (← e, t, ← f, u)

    module _ (z : Bool) (u : y ≡ false) (g : z ≡ is_digit b) where
      pub opens_digit : z ≡ true → Opens.Digit ≡ opens_of b
      unfolding opens_of
      opens_digit v = simp (← e, t, ← f, u, ← g, v)

      pub opens_quote : z ≡ false → b ≡ 34 → Opens.Quote ≡ opens_of b
      unfolding opens_of
      opens_quote v w = simp (← e, t, ← f, u, ← g, v, eq-eqb b 34 w)

      pub opens_backslash : z ≡ false → (b ≡ 34 → ⊥) → b ≡ 92 → Opens.Backslash ≡ opens_of b
      unfolding opens_of
      opens_backslash v n w = simp (← e, t, ← f, u, ← g, v, ne_eqb b 34 n, eq-eqb b 92 w)

      pub opens_apostrophe : z ≡ false → (b ≡ 34 → ⊥) → (b ≡ 92 → ⊥) → b ≡ 39 → Opens.Apostrophe ≡ opens_of b
      unfolding opens_of
      opens_apostrophe v n m w = simp (← e, t, ← f, u, ← g, v, ne_eqb b 34 n, ne_eqb b 92 m, eq-eqb b 39 w)

      pub opens_other : z ≡ false → (b ≡ 34 → ⊥) → (b ≡ 92 → ⊥) → (b ≡ 39 → ⊥) → Opens.Other ≡ opens_of b
      unfolding opens_of
      opens_other v n m w = simp (← e, t, ← f, u, ← g, v, ne_eqb b 34 n, ne_eqb b 92 m, ne_eqb b 39 w)

-- what stands there, by what its first byte opens
module _ (s : List ℕ) (ticks : Bool) (b : ℕ) (o : Opens) (q : b ≡ get_or s 0 0) (e : o ≡ opens_of b) where
  opened : (k : Opens) → o ≡ k → opened_by k ticks s ≡ element_at ticks s
  unfolding found_at
  opened k m = ap (λ (x : Opens). opened_by x ticks s) (sym m ∙ e ∙ ap opens_of q) ∙ found_ruled ticks s

  pub opened_separator : o ≡ Opens.Separator → Skip 1 ≡ element_at ticks s
  opened_separator m = opened Opens.Separator m

  pub opened_letter : (f : Front) → o ≡ Opens.Letter → f ≡ letters_at s → f ≡ element_at ticks s
  opened_letter f m g = g ∙ opened Opens.Letter m

  pub opened_digit : (f : Front) → o ≡ Opens.Digit → f ≡ numeral_at s → f ≡ element_at ticks s
  opened_digit f m g = g ∙ opened Opens.Digit m

  pub opened_quote : (f : Front) → o ≡ Opens.Quote → f ≡ string_front s → f ≡ element_at ticks s
  opened_quote f m g = g ∙ opened Opens.Quote m

  pub opened_backslash : (f : Front) → o ≡ Opens.Backslash → f ≡ extended_at s → f ≡ element_at ticks s
  opened_backslash f m g = g ∙ opened Opens.Backslash m

  pub opened_apostrophe : (f : Front) → o ≡ Opens.Apostrophe → f ≡ apostrophe_front ticks s → f ≡ element_at ticks s
  opened_apostrophe f m g = g ∙ opened Opens.Apostrophe m

  pub opened_other : (f : Front) → o ≡ Opens.Other → f ≡ other_at s → f ≡ element_at ticks s
  opened_other f m g = g ∙ opened Opens.Other m

-- an empty rest
pub by_nothing : (s : List ℕ) (ticks : Bool) (f : Front) → length s ≡ 0 → f ≡ unreadable_front s → f ≡ element_at ticks s
unfolding element_at ruled delimiter_front unreadable_front separates is_letter is_digit place_from delimiters spells begins bytes_of
by_nothing [] ticks f e g = g
by_nothing (b ∷ s) ticks f e g = absurd (omega (arith, e))
