-- The ways of a state and of a frame, in the code's terms. Assumes nothing.
use mathlib.Core.Path.{◌≡◌, ap}
use mathlib.Core.Bool.{Bool, true, false, ◌&&◌}
use mathlib.Core.List.{List, []}
use Prim.Native.Nat.{ℕ, zero, suc, ◌+◌, ◌*◌, ◌/◌, ◌≤◌, ◌<◌}
use native.Mathlib.Omega.{arith}
use borrow.Author.Tests.{lt-ltb, le-ltb}
use lib.Dec.{eqb}
use lib.ListN.{length, get_or, drop, drop_of_length-le}
use lib.Seq.{drop-cons}
use Rattle.std.specs.List.{list_all}
use Rattle.pieces.specs.Columns as column
use Rattle.pieces.specs.Columns.{record_words}
use Rattle.states.specs.States.{states}
use Rattle.records.specs.Records.{word_at, is_item, item_state}
use Rattle.records.specs.Frames.{none_from}

module _ (items : List ℕ) (i class : ℕ) (x : Bool) (p : class ≡ word_at items i column.class) (q : x ≡ is_item class) where
  pub state_item : (s : ℕ) → x ≡ true → s ≡ word_at items i column.state → s ≡ item_state items i
  unfolding item_state
  state_item s h e = rw (← p, ← q, h) e

  pub state_other : x ≡ false → ◌≡◌ {A = ℕ} states (item_state items i)
  unfolding item_state
  state_other h = rw (← p, ← q, h)

-- no count from the k-th on is more than 0, where all of m counts are 0
pub none_all : (l : List ℕ) (k m : ℕ) → length l ≡ k + m → none_from l k m ≡ list_all (λ c. eqb c 0) (drop k l)
none_all l k zero h = let e : drop k l ≡ [] = drop_of_length-le l (omega arith) in rw e
none_all l k (suc m) h = let here : k < length l = omega arith in rw (drop-cons l k 0) (ap (λ (b : Bool). eqb (get_or l k 0) 0 && b) (none_all l (suc k) m (omega arith)))
