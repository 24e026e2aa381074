-- A refusal's line, and the lines of an answer that may be one. An answer is lent as its words (include/kawhiluhe.h): the refusal's number, 0
-- for none, its place, and then what was counted. Assumes nothing.
use Rattle.std.specs.Prelude.{ℕ, ◌≡◌, false, cond, List, [], ◌∷◌, ◌++◌, eqb, get_or}
use Rattle.words.specs.Words.{bytes_of}
use Rattle.puts.specs.Puts.{Wrote}
use Rattle.puts.specs.Decimals.{decimal_of, line_feed}

-- where the first words of an answer stand
abbrev pub refusal : ℕ
refusal = 0

abbrev pub place : ℕ
place = 1

-- how many elements, rows or pieces were counted
abbrev pub counted : ℕ
counted = 2

-- where a survey's has whether it is whole
abbrev pub whole : ℕ
whole = 4

-- "a refusal as `refused NO at PLACE`": its end
unfoldable pub place_text : ℕ → List ℕ
place_text at = bytes_of " at " ++ (decimal_of at ++ (line_feed ∷ []))

-- and all of it
unfoldable pub refused_of : ℕ → ℕ → List ℕ
refused_of number at = bytes_of "refused " ++ (decimal_of number ++ place_text at)

-- "A refusal is one line, `refused NO at PLACE`, and nothing else.": the lines of an answer, by their numbers, and how many there are
unfoldable pub line_by : List ℕ → (ℕ → List ℕ) → ℕ → List ℕ
line_by answer line i = cond (eqb (get_or answer refusal 0) 0) (line i) (refused_of (get_or answer refusal 0) (get_or answer place 0))

unfoldable pub lines_by : List ℕ → ℕ → ℕ
lines_by answer lines = cond (eqb (get_or answer refusal 0) 0) lines 1

-- an answer that is no refusal, of which nothing is put yet: the buffer is as it was
pub record Unrefused (answer t t' : List ℕ) : Type 0 where
  pub given : get_or answer refusal 0 ≡ 0
  pub same : t' ≡ t

-- an answer that is one: its line is put, which stands for whatever line the answer would have
pub record Refusing (answer t : List ℕ) (at : ℕ) (t' : List ℕ) (r : ℕ) : Type 0 where
  pub given : eqb (get_or answer refusal 0) 0 ≡ false
  pub put : Wrote t at (refused_of (get_or answer refusal 0) (get_or answer place 0)) t' r

-- "pieces 6 whole no": how a survey's first line ends
unfoldable pub whole_text : ℕ → List ℕ
whole_text w = cond (eqb w 1) (bytes_of " whole yes\n") (bytes_of " whole no\n")
