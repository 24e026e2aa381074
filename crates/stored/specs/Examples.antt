-- Stored tables written out by hand, and bytes that are no legal name. Assumes nothing: these are definitions.
use Rattle.std.specs.Prelude.{ℕ, ◌≡◌, true, false, List, [], ◌∷◌, pos, negsuc}
use Rattle.words.specs.Words.{bytes_of}
use Rattle.stored.specs.StoredItems.{StoredItem}
use Rattle.stored.specs.LegalNames.{legal_name}
use Rattle.stored.specs.Stored.{Stored, form_one}
use Rattle.stored.specs.declared.StoredValue.TheVariants.{Number, Truth, Range, Truths}

-- five fields: the package `p`, the constants `ch4`, -1, and `lit`, true, the subtypes `share`, 0 to 300, and `flag`, boolean
abbrev pub five_items : List StoredItem
five_items =
    record { value = Number (negsuc 0); name = bytes_of "ch4" }
    ∷ record { value = Truth true; name = bytes_of "lit" }
    ∷ record { value = Range (pos 0) (pos 300); name = bytes_of "share" }
    ∷ record { value = Truths; name = bytes_of "flag" }
    ∷ []

abbrev pub five_bytes : List ℕ
five_bytes =
    1 ∷ 0 ∷ 1 ∷ 112
    ∷ 2 ∷ 0 ∷ 7 ∷ 255 ∷ 255 ∷ 255 ∷ 255 ∷ 99 ∷ 104 ∷ 52
    ∷ 3 ∷ 0 ∷ 4 ∷ 1 ∷ 108 ∷ 105 ∷ 116
    ∷ 4 ∷ 0 ∷ 14 ∷ 0 ∷ 0 ∷ 0 ∷ 0 ∷ 0 ∷ 0 ∷ 0 ∷ 1 ∷ 44 ∷ 115 ∷ 104 ∷ 97 ∷ 114 ∷ 101
    ∷ 4 ∷ 0 ∷ 13 ∷ 1 ∷ 0 ∷ 0 ∷ 0 ∷ 0 ∷ 0 ∷ 0 ∷ 0 ∷ 1 ∷ 102 ∷ 108 ∷ 97 ∷ 103
    ∷ 0 ∷ 0 ∷ 0 ∷ []

abbrev pub FiveFields : Type 0
FiveFields = Stored form_one five_bytes (bytes_of "p") five_items

-- an extended name keeps its backslashes and its case: `\A\`, false, in the package `\P\`
abbrev pub ExtendedName : Type 0
ExtendedName =
    Stored form_one (1 ∷ 0 ∷ 3 ∷ 92 ∷ 80 ∷ 92 ∷ 3 ∷ 0 ∷ 4 ∷ 0 ∷ 92 ∷ 65 ∷ 92 ∷ 0 ∷ 0 ∷ 0 ∷ []) (92 ∷ 80 ∷ 92 ∷ []) (record { value = Truth false; name = 92 ∷ 65 ∷ 92 ∷ [] } ∷ [])

-- a package without items; its name may be the language's
abbrev pub NoItems : Type 0
NoItems = Stored form_one (1 ∷ 0 ∷ 4 ∷ 116 ∷ 114 ∷ 117 ∷ 101 ∷ 0 ∷ 0 ∷ 0 ∷ []) (bytes_of "true") []

-- no legal names: upper case, a reserved word, nothing, two elements, an underscore at the end, an extended identifier that holds nothing
abbrev pub NoNames : Type 0
NoNames =
    (legal_name (bytes_of "Ch4") ≡ false) × (legal_name (bytes_of "end") ≡ false) × (legal_name [] ≡ false) × (legal_name (bytes_of "a b") ≡ false)
    × (legal_name (bytes_of "a_") ≡ false) × (legal_name (92 ∷ 92 ∷ []) ≡ false)
