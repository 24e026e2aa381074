-- What the code sees next between two quotes. Past the end of a list `get_or` gives 0. Assumes nothing.
use Rattle.std.specs.Prelude.{ℕ, cond, List, eqb, ltb, length, get_or}
use Rattle.classes.specs.Signs.{is_graphic}
use Rattle.quoted.specs.declared.Next.{Next}
use Rattle.quoted.specs.declared.Next.TheVariants.{Doubled, Closes, Inside, Breaks}

-- a doubled quote
abbrev pub two_quotes : ℕ
two_quotes = 2

unfoldable pub next_at : ℕ → List ℕ → Next
next_at quote s =
    cond (eqb (get_or s 0 0) quote) (cond (ltb (length s) two_quotes) Closes (cond (eqb (get_or s 1 0) quote) Doubled Closes))
    (cond (is_graphic (get_or s 0 0)) Inside Breaks)
