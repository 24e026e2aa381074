-- Where the quote that opened a string or an extended identifier closes it. The text is what stands after the opening quote. Assumes nothing.
use Rattle.std.specs.Prelude.{ℕ, suc, cond, List, [], ◌∷◌, eqb, Option, Some, None}
use Rattle.classes.specs.Signs.{is_graphic}

-- "a doubled quote for one", "a doubled backslash for one"; what stands between are "bytes 32-126 and 160-255": after how many bytes it
-- closes, the closing quote with them, where n were passed
unfoldable pub closed_from : ℕ → ℕ → List ℕ → Option ℕ
closed_from quote n [] = None
closed_from quote n (b ∷ []) = cond (eqb b quote) (Some (suc n)) None
closed_from quote n (b ∷ d ∷ s) =
    cond (eqb b quote)
    (cond (eqb d quote) (closed_from quote (suc (suc n)) s) (Some (suc n)))
    (cond (is_graphic b) (closed_from quote (suc n) (d ∷ s)) None)

abbrev pub closed : ℕ → List ℕ → Option ℕ
closed quote s = closed_from quote 0 s
