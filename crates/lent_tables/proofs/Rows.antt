-- The ways of a word of a row: that it is there, and that there is no such column or row. Assumes nothing.
use Prim.Native.Nat.{ℕ, ◌+◌, ◌*◌, ◌/◌, ◌≤◌, ◌<◌}
use mathlib.Core.Path.{◌≡◌}
use mathlib.Core.List.{List}
use lib.ListN.{length, get_or}
use borrow.Author.Tests.{lt-ltb, le-ltb}
use Rattle.lent_tables.specs.TableWords.{word_in}

module _ (width : ℕ) (table : List ℕ) (row column : ℕ) where
  pub word_there : column < width → row < length table / width → get_or table (width * row + column) 0 ≡ word_in width table row column
  unfolding word_in
  word_there h k = rw (lt-ltb column width h, lt-ltb row (length table / width) k)

  pub no_column : width ≤ column → 0 ≡ word_in width table row column
  unfolding word_in
  no_column h = rw (le-ltb column width h)

  pub no_row : column < width → length table / width ≤ row → 0 ≡ word_in width table row column
  unfolding word_in
  no_row h k = rw (lt-ltb column width h, le-ltb row (length table / width) k)
