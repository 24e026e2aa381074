-- How many words rows have. Assumes nothing.
use Prim.Native.Nat.{◌*◌}
use mathlib.Core.Path.{◌≡◌, refl}
use mathlib.Core.List.{List, [], ◌∷◌}
use native.Mathlib.Omega.{arith}
use lib.ListN.{length}
use Rattle.forms.specs.Tree.{Row}
use Rattle.forms.specs.RowWords.{row_numbers, words_of}

pub words_size : (rows : List Row) → length (words_of rows) ≡ row_numbers * length rows
words_size [] = refl
words_size (r ∷ rows) = omega (arith, words_size rows)
