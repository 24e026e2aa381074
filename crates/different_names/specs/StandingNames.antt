-- Names that stand in a text, each by its first byte and its size in two tables. Assumes nothing.
use Rattle.std.specs.Prelude.{ℕ, zero, suc, List, [], ◌∷◌, get_or, take, drop}

-- name k
unfoldable pub name_at : List ℕ → List ℕ → List ℕ → ℕ → List ℕ
name_at s firsts sizes k = take (get_or sizes k 0) (drop (get_or firsts k 0) s)

-- n names from number k on
unfoldable pub names_from : (ℕ → List ℕ) → ℕ → ℕ → List (List ℕ)
names_from f k zero = []
names_from f k (suc n) = f k ∷ names_from f (suc k) n
