-- How many parentheses, branches, loops, processes and blocks stand open after each element, said of the elements alone (01, "What the
-- reader covers": each opens at its first word or `(` and closes at its end or `)`; elsif and else close one and open one).
-- Assumes nothing: these are definitions.
use Rattle.std.specs.Prelude.{ℕ, zero, suc, ◌+◌, ◌-◌, cond, List, [], ◌∷◌}
use Rattle.forms.specs.Spellings.{spelled_among}

pub data Role : Type 0 where
  opening : Role
  closing : Role
  neither : Role

-- What an element of kind t does after one of kind p. A word after end closes. The word loop opens one where a statement begins; after
-- a range or a condition it belongs to its for or while.
abbrev pub role : ℕ → ℕ → Role
role p t =
    cond (spelled_among t ("(" ∷ "for" ∷ "while" ∷ [])) opening
    (cond (spelled_among t (")" ∷ [])) closing
    (cond (spelled_among t ("if" ∷ "process" ∷ "block" ∷ [])) (cond (spelled_among p ("end" ∷ [])) closing opening)
    (cond (spelled_among t ("loop" ∷ []))
    (cond (spelled_among p ("end" ∷ [])) closing
    (cond (spelled_among p ("begin" ∷ "then" ∷ "else" ∷ "loop" ∷ ";" ∷ ":" ∷ [])) opening neither))
    neither)))

abbrev pub after : Role → ℕ → ℕ
after opening d = d + 1
after closing d = d - 1
after neither d = d

-- how many are open after k more elements of w, d being open after one of kind p
unfoldable pub open_from : ℕ → ℕ → List ℕ → ℕ → ℕ
open_from p d w zero = d
open_from p d [] (suc k) = d
open_from p d (t ∷ w) (suc k) = open_from t (after (role p t) d) w k

-- how many are open after the first k elements
abbrev pub open_after : List ℕ → ℕ → ℕ
open_after w k = open_from 0 0 w k
