-- Where a line goes on: the code's way to its end. Assumes nothing.
use Rattle.std.specs.Prelude.{ℕ, Bool, not, List, get_or}
use Rattle.classes.specs.Signs.{ends_line}

-- the byte at the front is of the line
unfoldable pub in_line : List ℕ → Bool
in_line s = not (ends_line (get_or s 0 0))
