-- The rows of a text: those of its first line, then those of the lines after it. Assumes nothing.
use mathlib.Core.Path.{◌≡◌, refl, ap, ◌∙◌}
use mathlib.Core.Bool.{Bool, true, false}
use mathlib.Core.List.{List, [], ◌∷◌, ◌++◌}
use Prim.Native.Nat.{ℕ, suc, ◌+◌, ◌≤◌, ◌<◌}
use native.Mathlib.Nat.{not-suc-le-zero}
use native.Mathlib.Omega.{arith}
use lib.ListN.{length, take, drop, drop_of_length-le}
use lib.Seq.{length-take-le, take_all}
use lib.Dec.{ltb}
use borrow.Author.Tests.{ltb-true, ltb-false}
use Rattle.classes.specs.Signs.{ends_line}
use Rattle.classes.specs.Runs.{count_while}
use Rattle.classes.proofs.Laws.{count_more, count_none}
use Rattle.element_reading.specs.Rows.{onto, lines_of, line_rows, lines_rows}
use Rattle.element_reading.specs.code.LineEnds.{in_line}

module _ (b : ℕ) (s : List ℕ) where
  pub count_ended : ends_line b ≡ true → count_while in_line (b ∷ s) ≡ 0
  unfolding in_line
  count_ended e = count_none in_line b s (rw e)

  pub count_byte : ends_line b ≡ false → count_while in_line (b ∷ s) ≡ suc (count_while in_line s)
  unfolding in_line
  count_byte e = count_more in_line b s (rw e)

  pub lines_ended : ends_line b ≡ true → lines_of (b ∷ s) ≡ [] ∷ lines_of s
  unfolding lines_of
  lines_ended e = rw (e, lines_of)

  pub lines_byte : ends_line b ≡ false → lines_of (b ∷ s) ≡ onto b (lines_of s)
  unfolding lines_of
  lines_byte e = rw (e, lines_of)

-- a line that is ended, and one that the text ends
pub lines_more : (s : List ℕ) → count_while in_line s < length s → lines_of s ≡ take (count_while in_line s) s ∷ lines_of (drop (suc (count_while in_line s)) s)
lines_more [] h = absurd (not-suc-le-zero h)
lines_more (b ∷ s) h = go (ends_line b) refl (lines_more s)
  where
    go : (x : Bool) → ends_line b ≡ x → (count_while in_line s < length s → lines_of s ≡ take (count_while in_line s) s ∷ lines_of (drop (suc (count_while in_line s)) s)) → lines_of (b ∷ s) ≡ take (count_while in_line (b ∷ s)) (b ∷ s) ∷ lines_of (drop (suc (count_while in_line (b ∷ s))) (b ∷ s))
    go true e r = lines_ended b s e ∙ rw (count_ended b s e)
    go false e r = lines_byte b s e ∙ ap (onto b) (r (omega (arith, h, count_byte b s e))) ∙ rw (count_byte b s e)

pub lines_last : (s : List ℕ) → length s ≤ count_while in_line s → lines_of s ≡ s ∷ []
unfolding lines_of
lines_last [] h = refl
lines_last (b ∷ s) h = go (ends_line b) refl (lines_last s)
  where
    go : (x : Bool) → ends_line b ≡ x → (length s ≤ count_while in_line s → lines_of s ≡ s ∷ []) → lines_of (b ∷ s) ≡ (b ∷ s) ∷ []
    go true e r = absurd (omega (arith, h, count_ended b s e))
    go false e r = lines_byte b s e ∙ ap (onto b) (r (omega (arith, h, count_byte b s e)))

pub lines_none : (at : ℕ) → lines_rows at (lines_of []) ≡ []
unfolding lines_of lines_rows line_rows
lines_none at = refl

-- the rows of the first line, then those after it
first_more : (s : List ℕ) (at n : ℕ) → n ≡ count_while in_line s → n < length s → lines_rows at (lines_of s) ≡ line_rows 0 at false (take n s) ++ lines_rows (suc (at + n)) (lines_of (drop (suc n) s))
unfolding lines_rows
first_more s at n e h =
    let m : lines_of s ≡ take n s ∷ lines_of (drop (suc n) s) = rw e (lines_more s (rw e at h)) in
    ap (lines_rows at) m ∙ rw (length-take-le n s (omega arith))

first_last : (s : List ℕ) (at n : ℕ) → n ≡ count_while in_line s → length s ≤ n → lines_rows at (lines_of s) ≡ line_rows 0 at false (take n s) ++ lines_rows (suc (at + n)) (lines_of (drop (suc n) s))
unfolding lines_rows
first_last s at n e h =
    ap (lines_rows at) (lines_last s (rw e at h))
    ∙ rw (take_all n s h, drop_of_length-le s {i = suc n} (omega arith), lines_none (suc (at + n)))

pub text_first : (s : List ℕ) (at n : ℕ) → n ≡ count_while in_line s → lines_rows at (lines_of s) ≡ line_rows 0 at false (take n s) ++ lines_rows (suc (at + n)) (lines_of (drop (suc n) s))
text_first s at n e = go (ltb n (length s)) refl
  where
    go : (x : Bool) → ltb n (length s) ≡ x → lines_rows at (lines_of s) ≡ line_rows 0 at false (take n s) ++ lines_rows (suc (at + n)) (lines_of (drop (suc n) s))
    go true t = first_more s at n e (ltb-true n (length s) t)
    go false t = first_last s at n e (ltb-false n (length s) t)
