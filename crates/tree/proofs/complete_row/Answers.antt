-- `tree::complete_row` meets its contract. The row by the words of the innermost frame. Assumes nothing.
use Rattle.tree.proofs.complete_row.Goals as goal

pub returns : goal.returns
returns c = let stored = c.put_row.ensures in
    (rw c.saturating_sub.ensures at stored.0, stored.1, stored.2)
