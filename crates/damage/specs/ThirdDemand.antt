-- The third demand over what a caller of the survey sees: the item tables that it leaves. proofs/ThirdDemand.antt proves it. Assumes nothing.
use Rattle.std.specs.Prelude.{ℕ, ◌≤◌, ◌≡◌, List}
use Rattle.records.specs.Records.{word_at}
use Rattle.pieces.specs.Columns as column
use Rattle.survey_reading.specs.Permitted.{LeavesTables}
use Rattle.damage.specs.PlacedElements.{PlacedPiece, SameEach, PieceOf, record_after}
use Rattle.damage.specs.Damage.{OneLine, olds, news, NoneChanged, Undisturbed}

-- "Take two package texts that the survey doesn't refuse and that differ only inside one line, line ends kept. Consider an item made of the
-- same elements, none of that line, in both texts. If neither its own name nor any name it uses, directly or through other items, is claimed
-- in either text by a piece not common to both, it has the same state, kind and number in both." The surveys are any two that the contract
-- permits, with lent tables of any sizes; the item is the piece after `above` others, and the words of a record from its state to its high end
-- are state, kind and the two numbers.
abbrev pub ThirdDemand : Type 0
ThirdDemand =
    (s t elements items elements' items' : List ℕ) → LeavesTables s elements items → LeavesTables t elements' items'
    → (d : OneLine s t) (p q : PlacedPiece) (i : PieceOf (olds d) p) (j : PieceOf (news d) q) → SameEach p q → NoneChanged p
    → Undisturbed (olds d) (news d) p
    → (k : ℕ) → column.state ≤ k → k ≤ column.high → word_at items (record_after i.above) k ≡ word_at items' (record_after j.above) k
