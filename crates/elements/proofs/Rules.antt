-- The code's way to what stands at the front of a line's rest finds what the rules say. Assumes nothing.
use Rattle.std.proofs.Common.{Option, Some, None}
use mathlib.Core.Path.{◌≡◌, refl, sym, ap, ◌∙◌}
use mathlib.Core.Bool.{Bool, true, false, cond, not, ◌&&◌, ◌||◌, false≢true}
use mathlib.Core.List.{List, [], ◌∷◌}
use Prim.Native.Nat.{ℕ, zero-le, suc-le-suc}
use borrow.Author.Tests.{eqb-true, le-ltb}
use lib.Dec.{eqb}
use lib.ListN.{length, take, drop, get_or}
use Rattle.classes.specs.Bytes.{is_letter, is_digit}
use Rattle.classes.specs.Signs.{separates, is_graphic}
use Rattle.classes.specs.Runs.{run}
use Rattle.classes.specs.declared.Run.TheVariants.{Word}
use Rattle.classes.proofs.Laws.{by_test}
use Rattle.words.specs.Words.{place_in, reserved_words, delimiters, bytes_of, begins, spells, place_from}
use Rattle.numbers.specs.Numbers.{number}
use Rattle.numbers.specs.declared.Number.{Number}
use Rattle.numbers.specs.declared.Number.TheVariants.{Integer, Real, Neither}
use Rattle.quoted.specs.Quoted.{closed}
use Rattle.elements.specs.Element.{unreadable_front, identifier_by, identifier_front, extended_by, extended_front, numeral_by, string_by, string_front, apostrophe_front, delimiter_by, delimiter_front, ruled, unless_spoilt, element_at}
use Rattle.elements.specs.code.Ways.{identifier_at, word_by, letters_at, extended_from, extended_at, numeral_from, numeral_at, single_at, delimiter_at, other_at, opens_of, opened_by, found_at}
use Rattle.elements.specs.declared.Opens.{Opens}
use Rattle.elements.specs.declared.Front.{Front}
use Rattle.elements.specs.declared.Front.TheVariants.{Skip}

-- a byte that a test tells is none that it does not tell
apart : (p : ℕ → Bool) (m b : ℕ) → p b ≡ true → p m ≡ false → eqb b m ≡ false
apart p m b h g = go (eqb b m) refl
  where
    go : (x : Bool) → eqb b m ≡ x → eqb b m ≡ false
    go true e = absurd (false≢true (sym g ∙ ap p (sym (eqb-true b m e)) ∙ h))
    go false e = e

either : (x y : Bool) (u v : Front) → cond x u (cond y u v) ≡ cond (x || y) u v
either true y u v = refl
either false y u v = refl

-- each rule with the byte after its element
module _ (s : List ℕ) where
  unreadable_as : unreadable_front s ≡ unless_spoilt s (unreadable_front s)
  unfolding unreadable_front
  unreadable_as = refl

  word_as : letters_at s ≡ unless_spoilt s (identifier_front s)
  unfolding letters_at identifier_at identifier_front
  word_as = go (place_in (take (run Word s) s) reserved_words)
    where
      go : (p : Option ℕ) → cond (eqb (get_or s (run Word s) 0) 95) (unreadable_front s) (word_by p s) ≡ unless_spoilt s (identifier_by p (run Word s))
      go (Some k) = refl
      go None = either (eqb (get_or s (run Word s) 0) 95) (eqb (get_or s (run Word s) 0) 34) _ _

  extended_as : extended_at s ≡ unless_spoilt s (extended_front s)
  unfolding extended_at extended_front
  extended_as = go (closed 92 (drop 1 s))
    where
      go : (c : Option ℕ) → extended_from c s ≡ unless_spoilt s (extended_by c s)
      go (Some n) = of_one (eqb n 1) refl
        where
          of_one : (x : Bool) → eqb n 1 ≡ x → extended_from (Some n) s ≡ unless_spoilt s (extended_by (Some n) s)
          of_one true e = rw e unreadable_as
          of_one false e = rw e
      go None = unreadable_as

  numeral_as : numeral_at s ≡ unless_spoilt s (numeral_by (number s) s)
  unfolding numeral_at
  numeral_as = go (number s)
    where
      go : (n : Number) → numeral_from n s ≡ unless_spoilt s (numeral_by n s)
      go (Integer n) = refl
      go (Real n) = refl
      go Neither = unreadable_as

  string_as : string_front s ≡ unless_spoilt s (string_front s)
  unfolding string_front
  string_as = go (closed 34 (drop 1 s))
    where
      go : (c : Option ℕ) → string_by c s ≡ unless_spoilt s (string_by c s)
      go (Some n) = refl
      go None = unreadable_as

  apostrophe_as : (ticks : Bool) → apostrophe_front ticks s ≡ unless_spoilt s (apostrophe_front ticks s)
  unfolding apostrophe_front
  apostrophe_as ticks =
      by_test Kept (not ticks && eqb (get_or s 2 0) 39) (λ _. by_test Kept (is_graphic (get_or s 1 0)) (λ _. refl) (λ _. unreadable_as)) (λ _. refl)
    where
      Kept : Front → Type 0
      Kept f = f ≡ unless_spoilt s f

delimiter_as : (s : List ℕ) → delimiter_at s ≡ unless_spoilt s (delimiter_front s)
unfolding delimiter_at single_at delimiter_front place_from delimiters spells bytes_of
delimiter_as [] = unreadable_as []
delimiter_as (b ∷ []) = go (place_in (b ∷ []) delimiters)
  where
    go : (p : Option ℕ) → delimiter_by p 1 (unreadable_front (b ∷ [])) ≡ unless_spoilt (b ∷ []) (delimiter_by p 1 (delimiter_by p 1 (unreadable_front (b ∷ []))))
    go (Some k) = refl
    go None = unreadable_as (b ∷ [])
delimiter_as (b ∷ d ∷ t) = rw (le-ltb (length (b ∷ d ∷ t)) 2 (suc-le-suc (suc-le-suc zero-le))) (go (place_in (b ∷ d ∷ []) delimiters) (place_in (b ∷ []) delimiters))
  where
    go : (p q : Option ℕ) → delimiter_by p 2 (delimiter_by q 1 (unreadable_front (b ∷ d ∷ t))) ≡ unless_spoilt (b ∷ d ∷ t) (delimiter_by p 2 (delimiter_by q 1 (unreadable_front (b ∷ d ∷ t))))
    go (Some k) q = refl
    go None (Some k) = refl
    go None None = unreadable_as (b ∷ d ∷ t)

-- what a first byte opens is what the rules say of it
module _ (ticks : Bool) (b : ℕ) (t : List ℕ) where
  abbrev s : List ℕ
  s = b ∷ t

  of_separator : separates b ≡ true → Skip 1 ≡ element_at ticks s
  unfolding element_at ruled
  of_separator x = rw x

  module _ (x : separates b ≡ false) where
    of_letter : is_letter b ≡ true → letters_at s ≡ element_at ticks s
    unfolding element_at ruled is_letter
    of_letter y = rw (x, apart is_letter 45 b y refl, y) (word_as s)

    module _ (y : is_letter b ≡ false) where
      of_backslash : eqb b 92 ≡ true → extended_at s ≡ element_at ticks s
      unfolding element_at ruled
      of_backslash v = rw (x, apart (λ (n : ℕ). eqb n 92) 45 b v refl, y, v) (extended_as s)

      of_digit : is_digit b ≡ true → numeral_at s ≡ element_at ticks s
      unfolding element_at ruled is_digit
      of_digit z = rw (x, apart is_digit 45 b z refl, y, apart is_digit 92 b z refl, z) (numeral_as s)

      module _ (z : is_digit b ≡ false) where
        of_quote : eqb b 34 ≡ true → string_front s ≡ element_at ticks s
        unfolding element_at ruled
        of_quote u = rw (x, apart (λ (n : ℕ). eqb n 34) 45 b u refl, y, apart (λ (n : ℕ). eqb n 34) 92 b u refl, z, u) (string_as s)

        module _ (u : eqb b 34 ≡ false) (v : eqb b 92 ≡ false) where
          of_apostrophe : eqb b 39 ≡ true → apostrophe_front ticks s ≡ element_at ticks s
          unfolding element_at ruled
          of_apostrophe w = rw (x, apart (λ (n : ℕ). eqb n 39) 45 b w refl, y, v, z, u, w) (apostrophe_as s ticks)

          of_other : eqb b 39 ≡ false → other_at s ≡ element_at ticks s
          unfolding element_at ruled other_at
          of_other w = rw (x, y, v, z, u, w) (go (eqb b 45 && eqb (get_or t 0 0) 45) (eqb b 47 && eqb (get_or t 0 0) 42))
            where
              go : (c d : Bool) → cond c (Skip (length s)) (cond d (unreadable_front s) (delimiter_at s)) ≡ unless_spoilt s (cond c (Skip (length s)) (cond d (unreadable_front s) (delimiter_front s)))
              go true d = refl
              go false true = unreadable_as s
              go false false = delimiter_as s

  abbrev Opened : Opens → Type 0
  Opened o = opened_by o ticks s ≡ element_at ticks s

  front : found_at ticks s ≡ element_at ticks s
  unfolding found_at opens_of
  front =
      by_test Opened (separates b) of_separator
      (λ x. by_test Opened (is_letter b) (of_letter x)
      (λ y. by_test Opened (is_digit b) (of_digit x y)
      (λ z. by_test Opened (eqb b 34) (of_quote x y z)
      (λ u. by_test Opened (eqb b 92) (of_backslash x y)
      (λ v. by_test Opened (eqb b 39) (of_apostrophe x y z u v) (of_other x y z u v))))))

pub found_ruled : (ticks : Bool) (s : List ℕ) → found_at ticks s ≡ element_at ticks s
unfolding found_at opens_of other_at delimiter_at single_at element_at ruled delimiter_front unreadable_front separates is_letter is_digit place_from delimiters spells begins bytes_of
found_ruled ticks [] = refl
found_ruled ticks (b ∷ t) = front ticks b t
