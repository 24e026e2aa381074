-- The lists of words as the code holds them: one string of bytes, each word after its length. Assumes nothing.
use Rattle.std.specs.Prelude.{ℕ, zero, suc, true, false, ◌&&◌, List, [], ◌∷◌, eqb, length, Option, Some, None}
use Rattle.words.specs.Words.{begins}

-- how many delimiters there are
abbrev pub delimiter_count : ℕ
delimiter_count = 25

-- the search in such a string: the next word is number k, once so many bytes are passed over
unfoldable pub searched : ℕ → ℕ → List ℕ → List ℕ → Option ℕ
searched zero k w [] = None
searched (suc n) k w [] = None
searched (suc n) k w (x ∷ t) = searched n k w t
searched zero k w (n ∷ t) = elim (eqb n (length w) && begins w t) [ true ↦ Some k | false ↦ searched n (suc k) w t ]

-- the search for a byte in a list of bytes, the first of which is number k
unfoldable pub byte_from : ℕ → ℕ → List ℕ → Option ℕ
byte_from k b [] = None
byte_from k b (x ∷ t) = elim (eqb x b) [ true ↦ Some k | false ↦ byte_from (suc k) b t ]
