-- What is computed of a text's records is said of the table that a survey leaves: no example computes a survey. Assumes nothing.
use Prim.Native.Nat.{ℕ, ◌-◌, ◌*◌}
use mathlib.Core.Path.{◌≡◌, ap, ◌∙◌}
use mathlib.Core.Bool.{Bool, true, ◌&&◌}
use mathlib.Core.List.{List, [], ◌∷◌, ◌++◌}
use native.Mathlib.Omega.{arith}
use borrow.Author.Tests.{leb-true}
use lib.Dec.{leb}
use lib.ListN.{length, replicate}
use Rattle.laws.proofs.Laws.{both_left, both_right}
use Rattle.places.specs.Sizes.{most_bytes, most_elements, most_pieces}
use Rattle.places.specs.Places.{row_words}
use Rattle.pieces.specs.Records.{record_words}
use Rattle.element_reading.specs.Rows.{rows_of}
use Rattle.meaning.specs.Pieces.{pieces_of}
use Rattle.meaning.specs.code.PieceValues.{records_of}
use Rattle.survey_reading.specs.code.Survey.{item_table}
use Rattle.survey_reading.proofs.Promises.{surveyed_exactly, says_of_records}
use Rattle.survey_reading.proofs.Permits.{permitted_is}
use Rattle.edges.specs.Left.{OfTable, lasts_from, ItemLine, package_of, line_words, LeavesWords, LeavesEach}

-- none of 1, 3 and 9 refuses the text
unfoldable pub fits : List ℕ → Bool
fits text = leb (length text) most_bytes && (leb (length (rows_of text)) most_elements && leb (length (pieces_of text)) most_pieces)

-- a record's words, or those of several
pub left : (f : List ℕ → List ℕ) (text words : List ℕ) → fits text ≡ true → ((rest : List ℕ) → f (records_of text ++ rest) ≡ words) → OfTable text (λ items. f items ≡ words)
unfolding fits item_table
left f text words h g x t u p =
    let few : Bool = leb (length (rows_of text)) most_elements in
    let all : Bool = leb (length (pieces_of text)) most_pieces in
    let rest = both_right (leb (length text) most_bytes) (few && all) h in
    let bytes = leb-true (length text) most_bytes (both_left (leb (length text) most_bytes) (few && all) h) in
    let rows = leb-true (length (rows_of text)) most_elements (both_left few all rest) in
    let pieces = leb-true (length (pieces_of text)) most_pieces (both_right few all rest) in
    let done = (surveyed_exactly text (row_words * most_elements) (record_words * most_pieces)).1 ((bytes, rows, omega arith), pieces, omega arith) in
    let said = says_of_records text (row_words * most_elements) (record_words * most_pieces) done.0 done.1 in
    let after = permitted_is text (row_words * most_elements) (record_words * most_pieces) x t u p in
    ap f (after.2 ∙ said.0) ∙ g (replicate (record_words * most_pieces - record_words * length (pieces_of text)) 0)

-- the words of the items of a package
pub leaves : (ls : List ItemLine) → fits (package_of ls) ≡ true → ((rest : List ℕ) → lasts_from 1 (length ls) (records_of (package_of ls) ++ rest) ≡ line_words ls) → LeavesWords ls
leaves ls h g = left (lasts_from 1 (length ls)) (package_of ls) (line_words ls) h g

-- of each item in a package of its own
unfoldable pub each_fits : List ItemLine → Bool
each_fits [] = true
each_fits (l ∷ ls) = fits (package_of (l ∷ [])) && each_fits ls

unfoldable pub each_ends : List ItemLine → List ℕ → List (List ℕ)
each_ends [] rest = []
each_ends (l ∷ ls) rest = lasts_from 1 1 (records_of (package_of (l ∷ [])) ++ rest) ∷ each_ends ls rest

abbrev pub each_words : List ItemLine → List (List ℕ)
each_words [] = []
each_words (l ∷ ls) = line_words (l ∷ []) ∷ each_words ls

same_head : (x y : List ℕ) (xs ys : List (List ℕ)) → x ∷ xs ≡ y ∷ ys → x ≡ y
same_head x y xs ys e = cc

same_tail : (x y : List ℕ) (xs ys : List (List ℕ)) → x ∷ xs ≡ y ∷ ys → xs ≡ ys
same_tail x y xs ys e = cc

pub leaves_each : (ls : List ItemLine) → each_fits ls ≡ true → ((rest : List ℕ) → each_ends ls rest ≡ each_words ls) → LeavesEach ls
unfolding each_fits each_ends
leaves_each [] h g = tt
leaves_each (l ∷ ls) h g = (
  leaves (l ∷ []) (both_left (fits (package_of (l ∷ []))) (each_fits ls) h) (λ rest. same_head _ _ _ _ (g rest)),
  leaves_each ls (both_right (fits (package_of (l ∷ []))) (each_fits ls) h) (λ rest. same_tail _ _ _ _ (g rest)),
)
