-- The turns of `lookup_items`: what an item says of the name, its eight words say. Assumes nothing.
use mathlib.Core.Path.{◌≡◌, refl, sym, ap, ◌∙◌}
use mathlib.Core.Bool.{true, false}
use mathlib.Core.List.{List, [], ◌∷◌}
use Prim.Native.Nat.{ℕ, zero, suc, ◌+◌, ◌*◌, ◌/◌, ◌<◌}
use native.Mathlib.Nat.{not-suc-le-zero, le_of_suc-le-suc}
use native.Mathlib.Omega.{arith}
use borrow.Author.Tests.{lt-ltb}
use lib.ListN.{length, get_or}
use Rattle.std.specs.Prelude.{Option, Some, None, MatchOption}
use Rattle.std.specs.List.{AllWithin, HoldsAt}
use Rattle.records.specs.Records.{word_at}
use Rattle.pieces.specs.Columns as column
use Rattle.pieces.specs.Columns.{record_words}
use Rattle.lookup.specs.Lookup.{claims_name}
use Rattle.lookup.specs.Structs.{struct_words, no_item, claims_by}
use Rattle.lookup.specs.declared.Item.{Item}
use Rattle.lookup.specs.Finds.{Finds}
use Rattle.lookup.proofs.Laws.{finds_by}

words_length : (xs : List Item) → length (struct_words xs) ≡ record_words * length xs
unfolding struct_words
words_length [] = refl
words_length (x ∷ xs) = let h = words_length xs in omega arith

words_count : (xs : List Item) → length (struct_words xs) / record_words ≡ length xs
words_count xs = let h = words_length xs in omega arith

-- word j of the i-th
module _ (j : ℕ) (f : Item → ℕ) (front : (x : Item) (xs : List Item) → get_or (struct_words (x ∷ xs)) j 0 ≡ f x)
    (behind : (x : Item) (xs : List Item) (k : ℕ) → get_or (struct_words (x ∷ xs)) (suc (suc (suc (suc (suc (suc (suc (suc k)))))))) 0 ≡ get_or (struct_words xs) k 0) where
  word_at_lem : (xs : List Item) (i : ℕ) → i < length xs → get_or (struct_words xs) (record_words * i + j) 0 ≡ f (get_or xs i no_item)
  word_at_lem [] i h = absurd (not-suc-le-zero h)
  word_at_lem (x ∷ xs) zero h = let e : record_words * 0 + j ≡ j = omega arith in ap (λ (k : ℕ). get_or (struct_words (x ∷ xs)) k 0) e ∙ front x xs
  word_at_lem (x ∷ xs) (suc i) h =
      let e : record_words * suc i + j ≡ suc (suc (suc (suc (suc (suc (suc (suc (record_words * i + j)))))))) = omega arith in
      ap (λ (k : ℕ). get_or (struct_words (x ∷ xs)) k 0) e ∙ behind x xs (record_words * i + j) ∙ word_at_lem xs i (le_of_suc-le-suc h)

behind_first : (x : Item) (xs : List Item) (k : ℕ) → get_or (struct_words (x ∷ xs)) (suc (suc (suc (suc (suc (suc (suc (suc k)))))))) 0 ≡ get_or (struct_words xs) k 0
unfolding struct_words
behind_first x xs k = refl

class_first : (x : Item) (xs : List Item) → get_or (struct_words (x ∷ xs)) 0 0 ≡ x.class
unfolding struct_words
class_first x xs = refl

name_first_lem : (x : Item) (xs : List Item) → get_or (struct_words (x ∷ xs)) column.name 0 ≡ x.name
unfolding struct_words
name_first_lem x xs = refl

module _ (text elements name : List ℕ) (xs : List Item) where
  class_at_lem : (i : ℕ) → i < length xs → word_at (struct_words xs) i column.class ≡ (get_or xs i no_item).class
  unfolding word_at
  class_at_lem i h = rw (words_count xs, lt-ltb i (length xs) h) (word_at_lem 0 (λ (x : Item). x.class) class_first behind_first xs i h)

  name_at_lem : (i : ℕ) → i < length xs → word_at (struct_words xs) i column.name ≡ (get_or xs i no_item).name
  unfolding word_at
  name_at_lem i h = rw (words_count xs, lt-ltb i (length xs) h) (word_at_lem column.name (λ (x : Item). x.name) name_first_lem behind_first xs i h)

  same_claim : (i : ℕ) → i < length xs → claims_by text elements name (get_or xs i no_item) ≡ claims_name text elements name (struct_words xs) i
  unfolding claims_by claims_name
  same_claim i h = rw (class_at_lem i h, name_at_lem i h)

  -- the first item that claims the name, or none, by the test on each
  pub finds_items : (r : Option ℕ)
      → MatchOption r
      (AllWithin (λ x. claims_by text elements name x ≡ false) xs 0 (length xs))
      (λ i. (i < length xs) × HoldsAt (λ x. claims_by text elements name x ≡ true) xs i × AllWithin (λ x. claims_by text elements name x ≡ false) xs 0 i)
      → Finds text elements name (struct_words xs) r
  finds_items (Some i) h = finds_by text elements name (struct_words xs) (Some i) (
    omega arith,
    omega (arith, words_count xs),
    sym (same_claim i h.0) ∙ h.1 no_item,
    λ k l m. sym (same_claim k (omega arith)) ∙ h.2 k no_item l m,
  )
  finds_items None h = finds_by text elements name (struct_words xs) None (λ k l m. let within : k < length xs = omega (arith, words_count xs) in sym (same_claim k within) ∙ h k no_item l within)
