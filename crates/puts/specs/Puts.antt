-- What it is to put bytes into a buffer at a place. Assumes nothing.
use Rattle.std.specs.Prelude.{ℕ, ◌+◌, min, ◌≡◌, List, length}
use Rattle.std.proofs.lemmas.List.Edits.{sets}

-- `t` became `t'` as the bytes were put from `at` on, those past its end dropped, and `r` is the place after them, or the end.
-- A record, so that a law reads every argument off it, and total, so that two puts make one with no condition.
pub record Wrote (t : List ℕ) (at : ℕ) (bs t' : List ℕ) (r : ℕ) : Type 0 where
  pub bytes : t' ≡ sets t at bs
  pub reach : r ≡ min (at + length bs) (length t)
