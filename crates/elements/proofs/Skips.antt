-- What is passed over is a separator, one byte, or a comment, the whole rest of the line. Assumes nothing.
use Rattle.std.proofs.Common.{Option, Some, None}
use mathlib.Core.Path.{◌≡◌, refl}
use mathlib.Core.Bool.{Bool, true, not, ◌&&◌, ◌||◌}
use mathlib.Core.Logic.{◌⊎◌, inl, inr}
use mathlib.Core.List.{List}
use Prim.Native.Nat.{ℕ, ◌+◌}
use borrow.Author.Tests.{eqb-true}
use lib.Dec.{eqb, ltb}
use lib.ListN.{length, take, drop, get_or}
use Rattle.laws.proofs.Laws.{both_left, both_right}
use Rattle.classes.specs.Bytes.{is_letter, is_digit}
use Rattle.classes.specs.Signs.{separates, is_graphic}
use Rattle.classes.specs.Runs.{run}
use Rattle.classes.specs.declared.Run.TheVariants.{Word}
use Rattle.classes.proofs.Laws.{by_test}
use Rattle.words.specs.Words.{place_in, reserved_words, delimiters}
use Rattle.numbers.specs.Numbers.{number}
use Rattle.numbers.specs.declared.Number.{Number}
use Rattle.numbers.specs.declared.Number.TheVariants.{Integer, Real, Neither}
use Rattle.quoted.specs.Quoted.{closed}
use Rattle.elements.specs.Element.{unreadable_front, string_front, string_by, apostrophe_front, delimiter_by, spoils_number, element_at}
use Rattle.elements.proofs.Rules.{found_ruled}
use Rattle.elements.specs.code.Ways.{identifier_at, letters_at, word_by, extended_at, extended_from, numeral_at, numeral_from, single_at, delimiter_at, other_at, opens_of, found_at, opened_by}
use Rattle.elements.specs.declared.Opens.{Opens}
use Rattle.elements.specs.declared.Front.{Front}
use Rattle.elements.specs.declared.Front.TheVariants.{Skip, Element}

-- an element, or a separator, or a comment
abbrev pub SkipIs : List ℕ → Front → Type 0
SkipIs s (Skip n) = ((separates (get_or s 0 0) ≡ true) × (n ≡ 1)) ⊎ ((get_or s 0 0 ≡ 45) × (get_or s 1 0 ≡ 45) × (n ≡ length s))
SkipIs s (Element k n) = Unit {0}

module _ (s : List ℕ) where
  none_unreadable : SkipIs s (unreadable_front s)
  unfolding unreadable_front
  none_unreadable = tt

  none_word : SkipIs s (letters_at s)
  unfolding letters_at identifier_at
  none_word = by_test (SkipIs s) (eqb (get_or s (run Word s) 0) 95) (λ _. none_unreadable) (λ _. go (place_in (take (run Word s) s) reserved_words))
    where
      go : (p : Option ℕ) → SkipIs s (word_by p s)
      go (Some k) = tt
      go None = by_test (SkipIs s) (eqb (get_or s (run Word s) 0) 34) (λ _. none_unreadable) (λ _. tt)

  none_extended : (c : Option ℕ) → SkipIs s (extended_from c s)
  none_extended (Some n) = by_test (SkipIs s) (eqb n 1 || eqb (get_or s (n + 1) 0) 95 || eqb (get_or s (n + 1) 0) 34) (λ _. none_unreadable) (λ _. tt)
  none_extended None = none_unreadable

  none_string : (c : Option ℕ) → SkipIs s (string_by c s)
  none_string (Some n) = tt
  none_string None = none_unreadable

  none_numeral : (r : Number) → SkipIs s (numeral_from r s)
  none_numeral (Integer n) = by_test (SkipIs s) (spoils_number (get_or s n 0)) (λ _. none_unreadable) (λ _. tt)
  none_numeral (Real n) = by_test (SkipIs s) (spoils_number (get_or s n 0)) (λ _. none_unreadable) (λ _. tt)
  none_numeral Neither = none_unreadable

  none_apostrophe : (ticks : Bool) → SkipIs s (apostrophe_front ticks s)
  unfolding apostrophe_front
  none_apostrophe ticks =
      by_test (SkipIs s) (not ticks && eqb (get_or s 2 0) 39) (λ _. by_test (SkipIs s) (is_graphic (get_or s 1 0)) (λ _. tt) (λ _. none_unreadable)) (λ _. tt)

  none_by : (p : Option ℕ) (n : ℕ) (f : Front) → SkipIs s f → SkipIs s (delimiter_by p n f)
  none_by (Some k) n f h = tt
  none_by None n f h = h

  none_single : SkipIs s (single_at s)
  unfolding single_at
  none_single = none_by (place_in (take 1 s) delimiters) 1 (unreadable_front s) none_unreadable

  none_delimiter : SkipIs s (delimiter_at s)
  unfolding delimiter_at
  none_delimiter = by_test (SkipIs s) (ltb (length s) 2) (λ _. none_single) (λ _. none_by (place_in (take 2 s) delimiters) 2 (single_at s) none_single)

  is_comment : SkipIs s (other_at s)
  unfolding other_at
  is_comment =
      by_test (SkipIs s) (eqb (get_or s 0 0) 45 && eqb (get_or s 1 0) 45)
      (λ e. inr (eqb-true _ _ (both_left (eqb (get_or s 0 0) 45) _ e), eqb-true _ _ (both_right (eqb (get_or s 0 0) 45) (eqb (get_or s 1 0) 45) e), refl))
      (λ _. by_test (SkipIs s) (eqb (get_or s 0 0) 47 && eqb (get_or s 1 0) 42) (λ _. none_unreadable) (λ _. none_delimiter))

  abbrev By : Bool → Opens → Type 0
  By ticks o = SkipIs s (opened_by o ticks s)

  found_is : (ticks : Bool) → SkipIs s (found_at ticks s)
  unfolding found_at opens_of extended_at string_front numeral_at
  found_is ticks =
      by_test (By ticks) (separates (get_or s 0 0)) (λ e. inl (e, refl))
      (λ _. by_test (By ticks) (is_letter (get_or s 0 0)) (λ _. none_word)
      (λ _. by_test (By ticks) (is_digit (get_or s 0 0)) (λ _. none_numeral (number s))
      (λ _. by_test (By ticks) (eqb (get_or s 0 0) 34) (λ _. none_string (closed 34 (drop 1 s)))
      (λ _. by_test (By ticks) (eqb (get_or s 0 0) 92) (λ _. none_extended (closed 92 (drop 1 s)))
      (λ _. by_test (By ticks) (eqb (get_or s 0 0) 39) (λ _. none_apostrophe ticks)
      (λ _. is_comment))))))

  pub skip_is : (ticks : Bool) → SkipIs s (element_at ticks s)
  skip_is ticks = rw (found_ruled ticks s) at (found_is ticks)
