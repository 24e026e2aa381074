-- What stands at the front of a rest that is not empty has a byte at least, and no more than there are. Assumes nothing.
use Rattle.std.proofs.Common.{Option, Some, None}
use mathlib.Core.Path.{◌≡◌, refl}
use mathlib.Core.Bool.{Bool, true, not, ◌&&◌, ◌||◌}
use mathlib.Core.List.{List, ◌∷◌}
use Prim.Native.Nat.{ℕ, ◌+◌, ◌≤◌, zero-le, suc-le-suc}
use native.Mathlib.Omega.{arith}
use borrow.Author.Tests.{eqb-true, ltb-false}
use lib.Dec.{eqb, ltb}
use lib.ListN.{length, take, get_or}
use Rattle.laws.proofs.Laws.{both_right}
use Rattle.classes.specs.Bytes.{is_letter, is_digit}
use Rattle.classes.specs.Signs.{separates, is_graphic}
use Rattle.classes.specs.Runs.{run}
use Rattle.classes.specs.declared.Run.TheVariants.{Word}
use Rattle.classes.proofs.Laws.{by_test, run_le, run_some, letter_in_word, byte_inside}
use Rattle.words.specs.Words.{place_in, reserved_words, delimiters}
use Rattle.numbers.specs.Numbers.{number}
use Rattle.numbers.specs.declared.Number.{Number}
use Rattle.numbers.specs.declared.Number.TheVariants.{Integer, Real, Neither}
use Rattle.numbers.proofs.Laws.{NumberIn, number_in}
use Rattle.quoted.specs.Quoted.{closed_from}
use Rattle.quoted.proofs.Laws.{closed_in}
use Rattle.elements.specs.Element.{unreadable_front, string_front, string_by, apostrophe_front, delimiter_by, spoils_number, element_at}
use Rattle.elements.proofs.Rules.{found_ruled}
use Rattle.elements.specs.code.Ways.{identifier_at, letters_at, word_by, extended_at, extended_from, numeral_at, numeral_from, single_at, delimiter_at, other_at, opens_of, found_at, opened_by}
use Rattle.elements.specs.declared.Opens.{Opens}
use Rattle.elements.specs.declared.Front.{Front}
use Rattle.elements.specs.declared.Front.TheVariants.{Skip, Element}

abbrev pub size_of : Front → ℕ
size_of (Skip n) = n
size_of (Element k n) = n

abbrev pub Good : List ℕ → Front → Type 0
Good s f = (1 ≤ size_of f) × (size_of f ≤ length s)

module _ (b : ℕ) (t : List ℕ) where
  abbrev s : List ℕ
  s = b ∷ t

  one : (1 ≤ 1) × (1 ≤ length s)
  one = (omega arith, suc-le-suc zero-le)

  unreadable_good : Good s (unreadable_front s)
  unfolding unreadable_front
  unreadable_good = (suc-le-suc zero-le, omega arith)

  word_good : is_letter b ≡ true → Good s (letters_at s)
  unfolding letters_at identifier_at
  word_good e = let n = run_some Word b t (letter_in_word b e) in
      let m = run_le Word s in
      by_test (Good s) (eqb (get_or s (run Word s) 0) 95) (λ _. unreadable_good)
      (λ _. go (place_in (take (run Word s) s) reserved_words) (n, m))
    where
      go : (p : Option ℕ) → (1 ≤ run Word s) × (run Word s ≤ length s) → Good s (word_by p s)
      go (Some k) h = h
      go None h = by_test (Good s) (eqb (get_or s (run Word s) 0) 34) (λ _. unreadable_good) (λ _. h)

  closed_good : (q n : ℕ) → closed_from q 0 t ≡ Some n → (1 ≤ n + 1) × (n + 1 ≤ length s)
  closed_good q n e = let h = closed_in q t 0 n e in (omega arith, omega arith)

  extended_good : Good s (extended_at s)
  unfolding extended_at
  extended_good = go (closed_from 92 0 t) refl
    where
      go : (c : Option ℕ) → closed_from 92 0 t ≡ c → Good s (extended_from c s)
      go (Some n) e = by_test (Good s) (eqb n 1 || eqb (get_or s (n + 1) 0) 95 || eqb (get_or s (n + 1) 0) 34) (λ _. unreadable_good) (λ _. closed_good 92 n e)
      go None e = unreadable_good

  string_good : Good s (string_front s)
  unfolding string_front
  string_good = go (closed_from 34 0 t) refl
    where
      go : (c : Option ℕ) → closed_from 34 0 t ≡ c → Good s (string_by c s)
      go (Some n) e = closed_good 34 n e
      go None e = unreadable_good

  numeral_good : Good s (numeral_at s)
  unfolding numeral_at
  numeral_good = go (number s) (number_in s)
    where
      go : (r : Number) → NumberIn (length s) r → Good s (numeral_from r s)
      go (Integer n) h = by_test (Good s) (spoils_number (get_or s n 0)) (λ _. unreadable_good) (λ _. h)
      go (Real n) h = by_test (Good s) (spoils_number (get_or s n 0)) (λ _. unreadable_good) (λ _. h)
      go Neither h = unreadable_good

  apostrophe_good : (ticks : Bool) → Good s (apostrophe_front ticks s)
  unfolding apostrophe_front
  apostrophe_good ticks =
      by_test (Good s) (not ticks && eqb (get_or s 2 0) 39)
      (λ e. by_test (Good s) (is_graphic (get_or s 1 0)) (λ _. (omega arith, omega (arith, byte_inside s 2 (λ z. omega (arith, eqb-true (get_or s 2 0) 39 (both_right (not ticks) (eqb (get_or s 2 0) 39) e), z))))) (λ _. unreadable_good))
      (λ _. one)

  delimiter_good : Good s (delimiter_at s)
  unfolding delimiter_at single_at
  delimiter_good =
      by_test (Good s) (ltb (length s) 2) (λ _. by_one (place_in (take 1 s) delimiters))
      (λ e. by_two (place_in (take 2 s) delimiters) (ltb-false (length s) 2 e))
    where
      by_one : (p : Option ℕ) → Good s (delimiter_by p 1 (unreadable_front s))
      by_one (Some k) = one
      by_one None = unreadable_good

      by_two : (p : Option ℕ) → 2 ≤ length s → Good s (delimiter_by p 2 (delimiter_by (place_in (take 1 s) delimiters) 1 (unreadable_front s)))
      by_two (Some k) h = (omega arith, h)
      by_two None h = by_one (place_in (take 1 s) delimiters)

  other_good : Good s (other_at s)
  unfolding other_at
  other_good =
      by_test (Good s) (eqb (get_or s 0 0) 45 && eqb (get_or s 1 0) 45) (λ _. (suc-le-suc zero-le, omega arith))
      (λ _. by_test (Good s) (eqb (get_or s 0 0) 47 && eqb (get_or s 1 0) 42) (λ _. unreadable_good) (λ _. delimiter_good))

  abbrev By : Bool → Opens → Type 0
  By ticks o = Good s (opened_by o ticks s)

  found_good : (ticks : Bool) → Good s (found_at ticks s)
  unfolding found_at opens_of
  found_good ticks =
      by_test (By ticks) (separates b) (λ _. one)
      (λ _. by_test (By ticks) (is_letter b) (λ e. word_good e)
      (λ _. by_test (By ticks) (is_digit b) (λ _. numeral_good)
      (λ _. by_test (By ticks) (eqb b 34) (λ _. string_good)
      (λ _. by_test (By ticks) (eqb b 92) (λ _. extended_good)
      (λ _. by_test (By ticks) (eqb b 39) (λ _. apostrophe_good ticks)
      (λ _. other_good))))))

  pub element_good : (ticks : Bool) → Good s (element_at ticks s)
  element_good ticks = rw (found_ruled ticks s) at (found_good ticks)
