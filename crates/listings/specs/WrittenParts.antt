-- What a caller writes that takes part after part of a listing into its buffer, and writes the bytes that are used, until no line is left:
-- proofs/Parts.antt proves that it is the whole listing. Assumes nothing: these are definitions.
use Rattle.std.specs.Prelude.{ℕ, ◌+◌, ◌≤◌, ◌<◌, ◌≡◌, List, ◌++◌, length, get_or, take}
use Rattle.puts.specs.declared.Filled.{Filled}
use Rattle.puts.specs.Decimals.{word_end}
use Rattle.puts.specs.Lines.{lines_from, Part}
use Rattle.item_lines.specs.Lines.{survey_line}

-- the bytes written, of the lines from one on up to another, through a buffer of so many bytes
pub data Written (line : ℕ → List ℕ) (to size : ℕ) : ℕ → List ℕ → Type 0 where
  last : (from : ℕ) (r : Filled) (out : List ℕ) → Part line from to size r out → r.left ≡ 0 → Written line to size from (take r.used out)
  more : (from : ℕ) (r : Filled) (out rest : List ℕ) → Part line from to size r out → Written line to size r.next rest
      → Written line to size from (take r.used out ++ rest)

-- What is written in parts is the listing, whatever the buffer: each line whole, none twice, none left out.
abbrev pub WrittenWhole : Type 0
WrittenWhole =
    (line : ℕ → List ℕ) (to size : ℕ) (bytes : List ℕ) → Written line to size 0 bytes → bytes ≡ lines_from line 0 to

-- A part comes further where the buffer is larger than the next line.
abbrev pub ComesFurther : Type 0
ComesFurther =
    (line : ℕ → List ℕ) (from to size : ℕ) (r : Filled) (out : List ℕ) → Part line from to size r out → from < to → length (line from) < size → from < r.next

-- Two parts of the same lines coincide, and so do the buffers.
abbrev pub OnePart : Type 0
OnePart =
    (line : ℕ → List ℕ) (from to size : ℕ) (r r' : Filled) (out out' : List ℕ) → Part line from to size r out → Part line from to size r' out'
    → (r ≡ r') × (out ≡ out')

-- No line of a survey's listing is longer than its text by more than this, whatever the tables hold: so a buffer of that size takes every line.
abbrev pub beside_text : ℕ
beside_text = 100

abbrev pub LinesFit : Type 0
LinesFit =
    (text elements items answer : List ℕ) (i : ℕ) → i < word_end → ((k : ℕ) → get_or items k 0 < word_end) → ((k : ℕ) → get_or answer k 0 < word_end)
    → length (survey_line text elements items answer i) ≤ length text + beside_text
