-- "The frame is good when the first piece is a heading, the last a closing, no other is either, and a closing name agrees. The survey is whole
-- when the frame is good and every item is in state 0." Assumes nothing.
use Rattle.std.specs.Prelude.{ℕ, zero, suc, ◌-◌, Bool, true, false, ◌&&◌, List, eqb, get_or, Option, Some, None}
use Rattle.places.specs.declared.ElementNumber.{ElementNumber}
use Rattle.same_names.specs.Alike.{same_name}
use Rattle.pieces.specs.Records.{pieces_in}
use Rattle.pieces.specs.Frames.{frame_of}
use Rattle.pieces.specs.declared.Frame.{Frame}
use Rattle.states.specs.States.{states}
use Rattle.records.specs.declared.Tally.{Tally}

-- the closing's name, if it has one, is the heading's
unfoldable pub name_agrees : List ℕ → List ℕ → ℕ → Option ElementNumber → Bool
name_agrees text elements heading (Some closing) = same_name text elements heading closing.0
name_agrees text elements heading None = true

-- what the pieces say of the frame, and their names of each other
unfoldable pub good_in : List ℕ → List ℕ → Option Frame → Bool
good_in text elements (Some f) = name_agrees text elements f.heading.0 f.closing
good_in text elements None = false

-- the pieces of the elements make a good frame
unfoldable pub frame_good : List ℕ → List ℕ → ℕ → Bool
frame_good text elements count = good_in text elements (frame_of (pieces_in elements count))

-- "The survey is whole when the frame is good and every item is in state 0": no item is in one of the m states from the k-th on
abbrev pub none_from : List ℕ → ℕ → ℕ → Bool
none_from counts k zero = true
none_from counts k (suc m) = eqb (get_or counts k 0) 0 && none_from counts (suc k) m

unfoldable pub whole_of : Bool → Tally → Bool
whole_of frame t = frame && none_from t.counts 1 (states - 1)
