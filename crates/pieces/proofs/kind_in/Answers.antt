-- A row's kind, or 0 past the piece. Assumes nothing.
use Rattle.pieces.proofs.Classing.{piece_kind, piece_past}
use Rattle.pieces.proofs.kind_in.Goals as goal

pub returns-then-i-count : goal.returns-then-i-count
returns-then-i-count c = search piece_kind

pub returns-else-i-count : goal.returns-else-i-count
returns-else-i-count c = search piece_past
