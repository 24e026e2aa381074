-- "Reading a stored table gives the items back": what holds of every survey that is stored, as statements. proofs/Promises.antt proves each.
-- Assumes nothing: these are definitions.
use Rattle.std.specs.Prelude.{ℕ, ◌≤◌, ◌<◌, ◌≡◌, List, [], length, take, replicate, Ok, Err}
use Rattle.stored.specs.Stored as stored
use Rattle.stored.specs.Stored.{form_one}
use Rattle.stored_reading.specs.Permitted.{stored_rows_in}
use Rattle.stored_reading.specs.Permitted as reading
use Rattle.stored_reading.specs.declared.StoredRefusal.TheVariants.{ItemsShort}
use Rattle.stored_reading.specs.Permitted.{StoredReading}
use Rattle.meaning.specs.Pieces.{pieces_of}
use Rattle.meaning.specs.Names.{Done}
use Rattle.meaning.specs.Meaning.{Come}
use Rattle.meaning.specs.Together.{IsWhole}
use Rattle.storing.specs.SurveyItems.{package_name, stored_items, survey_bytes}
use Rattle.storing.specs.Given.{Surveyed}
use Rattle.storing.specs.Permitted as storing
use Rattle.stored_back.specs.Shown.{survey_shows, GivesBack}

-- Whatever whole survey is stored, its bytes are a legal stored table of its items: the names are legal, all different and none the language's,
-- the numbers fit, there are at most 1,024 items, and two bytes hold each length. So no reader of stored tables refuses them with 24.
abbrev pub StoresTable : Type 0
StoresTable =
    (text : List ℕ) (element_words item_words : ℕ) (dones : List Done) → Surveyed text element_words item_words dones → IsWhole (pieces_of text) dones
    → stored.Stored form_one (survey_bytes text dones) (package_name (pieces_of text)) (stored_items dones)

-- Whoever stores a survey and reads the stored bytes into a table with a row to each item gets back the package's name and exactly the items of
-- the survey, in order: class, name, kind and both numbers of each. With fewer rows the answer is refusal 10, at the rows that there are.
abbrev pub ReadsBack : Type 0
ReadsBack =
    (text : List ℕ) (dones : List Done) → Come (pieces_of text) [] (pieces_of text) dones
    → (element_words item_words out_bytes n : ℕ) (elements items out : List ℕ) → storing.Permitted text element_words item_words out_bytes (Ok n) elements items out
    → (words : ℕ) (answer : StoredReading) (rows : List ℕ) → reading.Permitted (take n out) words answer rows
    → (length (survey_shows dones) ≤ stored_rows_in words → GivesBack (take n out) answer rows (package_name (pieces_of text)) (survey_shows dones))
    × (stored_rows_in words < length (survey_shows dones) → (answer ≡ Err (ItemsShort (stored_rows_in words))) × (rows ≡ replicate words 0))
