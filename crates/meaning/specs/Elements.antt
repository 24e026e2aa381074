-- Elements as the survey sees them, each its kind and its bytes. Assumes nothing.
use Rattle.std.specs.Prelude.{ℕ, List, [], get_or}

pub record Element : Type 0 where
  pub kind : ℕ
  pub bytes : List ℕ

abbrev pub Piece : Type 0
Piece = List Element

-- element i of a piece; past its last, one of no kind
abbrev pub nothing : Element
nothing = record { kind = 0; bytes = [] }

unfoldable pub at : Piece → ℕ → Element
at p i = get_or p i nothing
