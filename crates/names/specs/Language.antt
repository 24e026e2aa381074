-- "The names integer, natural, positive, boolean, true, false are claimed by the language already." Assumes nothing.
use Rattle.std.specs.Prelude.{ℕ, suc, Bool, cond, List, [], ◌∷◌}
use Rattle.words.specs.Words.{bytes_of}

-- the six names, in bytes
abbrev pub language_names : List (List ℕ)
language_names = bytes_of "integer" ∷ bytes_of "natural" ∷ bytes_of "positive" ∷ bytes_of "boolean" ∷ bytes_of "true" ∷ bytes_of "false" ∷ []

-- the number of the first of the names that passes, counted from k; 0 where none does
abbrev pub language_number : (List ℕ → Bool) → ℕ → List (List ℕ) → ℕ
language_number p k [] = 0
language_number p k (w ∷ ws) = cond (p w) k (language_number p (suc k) ws)
