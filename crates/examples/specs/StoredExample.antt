-- A package stored as 02's request 01 has it, worked out by hand: its bytes, and what a caller sees of its items. proofs/StoredExample.antt computes both
-- from the package's own bytes. Assumes nothing: these are definitions.
use Rattle.std.specs.Prelude.{ℕ, ◌≡◌, List, [], ◌∷◌, ◌++◌}
use Rattle.words.specs.Words.{bytes_of}
use Rattle.meaning.specs.Pieces.{pieces_of}
use Rattle.meaning.specs.Names.{Done}
use Rattle.meaning.specs.Meaning.{Come}
use Rattle.meaning.specs.Together.{IsWhole}
use Rattle.storing.specs.SurveyItems.{survey_bytes}
use Rattle.stored_back.specs.Shown.{Shown, survey_shows}

abbrev pub stored_gas : List ℕ
stored_gas =
    bytes_of "package Gas is\n  constant Ch4 : integer := -1;\n  constant \\Lit\\ : boolean := true;\n  subtype Share is natural range 0 to 300;\n  subtype flag is boolean;\nend package Gas;\n"

-- its package name and four items, a field to each, and the end: "Names are stored in lower case unless extended"
abbrev pub gas_bytes : List ℕ
gas_bytes =
    1 ∷ 0 ∷ 3 ∷ bytes_of "gas"
    ++ (2 ∷ 0 ∷ 7 ∷ 255 ∷ 255 ∷ 255 ∷ 255 ∷ bytes_of "ch4"
    ++ (3 ∷ 0 ∷ 6 ∷ 1 ∷ bytes_of "\\Lit\\"
    ++ (4 ∷ 0 ∷ 14 ∷ 0 ∷ 0 ∷ 0 ∷ 0 ∷ 0 ∷ 0 ∷ 0 ∷ 1 ∷ 44 ∷ bytes_of "share"
    ++ (4 ∷ 0 ∷ 13 ∷ 1 ∷ 0 ∷ 0 ∷ 0 ∷ 0 ∷ 0 ∷ 0 ∷ 0 ∷ 1 ∷ bytes_of "flag" ++ (0 ∷ 0 ∷ 0 ∷ [])))))

-- two constants, class 3, and two subtypes, class 4; kind 1 integer, 2 truth; -1 as a word
abbrev pub gas_shown : List Shown
gas_shown =
    record { class = 3; name = bytes_of "ch4"; kind = 1; low = 18446744073709551615; high = 0 }
    ∷ record { class = 3; name = bytes_of "\\Lit\\"; kind = 2; low = 1; high = 0 }
    ∷ record { class = 4; name = bytes_of "share"; kind = 1; low = 0; high = 300 }
    ∷ record { class = 4; name = bytes_of "flag"; kind = 2; low = 0; high = 1 }
    ∷ []

abbrev pub StoredByHand : Type 0
StoredByHand =
    (dones : List Done) → Come (pieces_of stored_gas) [] (pieces_of stored_gas) dones → IsWhole (pieces_of stored_gas) dones × (survey_bytes stored_gas dones ≡ gas_bytes) × (survey_shows dones ≡ gas_shown)
