-- The arguments of a program: what a value is, and when two words are the same. Assumes nothing.
use Rattle.std.specs.Prelude.{ℕ, ◌+◌, ◌*◌, min, Bool, true, false, cond, ◌&&◌, List, [], ◌∷◌, Option, Some, None, eqb, length}
use Rattle.classes.specs.Bytes.{ten, is_digit, digit_value}

-- digits alone, after those that spell v; a value above the most counts as the most
unfoldable pub value_from : ℕ → ℕ → List ℕ → Option ℕ
value_from most v [] = Some v
value_from most v (b ∷ s) = elim (is_digit b) [ true ↦ value_from most (min most (v * ten + digit_value b)) s | false ↦ None ]

unfoldable pub amount_of : ℕ → List ℕ → Option ℕ
amount_of most s = cond (eqb (length s) 0) None (value_from most 0 s)

-- the same bytes
unfoldable pub same_argument : List ℕ → List ℕ → Bool
same_argument [] [] = true
same_argument [] (x ∷ t) = false
same_argument (b ∷ s) [] = false
same_argument (b ∷ s) (x ∷ t) = eqb b x && same_argument s t
