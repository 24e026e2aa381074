-- When two records claim one name, and the first pair that does (01, "Pieces, items, states"). Assumes nothing.
use Rattle.std.specs.Prelude.{ℕ, Bool, ◌&&◌, List, Option}
use Rattle.same_names.specs.Alike.{same_name}
use Rattle.pieces.specs.Columns as column
use Rattle.records.specs.Records.{word_at, is_claim}
use Rattle.pairs.specs.code.Pairs.{pair_from}

-- records i and j claim one name, broken or not
unfoldable pub share : List ℕ → List ℕ → List ℕ → ℕ → ℕ → Bool
share text table items i j =
    (is_claim (word_at items i column.class) && is_claim (word_at items j column.class)) && same_name text table (word_at items i column.name) (word_at items j column.name)

-- "the first pair of own items that share a name", of n records
unfoldable pub shared_pair : List ℕ → List ℕ → List ℕ → ℕ → Option (ℕ × ℕ)
shared_pair text table items n = pair_from (share text table items) 0 n
