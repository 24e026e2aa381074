-- What storing again what was read may answer, and leave in the item table of so many words and the output of so many bytes that it is lent: one
-- predicate, which is the contract. Assumes nothing: these are definitions.
use Rattle.std.specs.Prelude.{ℕ, ◌-◌, ◌≤◌, ◌<◌, ◌≡◌, List, ◌++◌, length, replicate, Ok, Err}
use Rattle.places.specs.declared.BytePlace.{BytePlace}
use Rattle.stored.specs.Stored.{form_one, stored_bytes}
use Rattle.stored_reading.specs.Permitted as reading
use Rattle.storing_again.specs.Refusals.{Again}
use Rattle.storing_again.specs.declared.AgainRefusal.TheVariants as again

-- a table that is read, with what reading answers and the rows that it leaves
pub record WasRead (s : List ℕ) (words : ℕ) (rows : List ℕ) : Type 0 where
  pub first : BytePlace
  pub size : ℕ
  pub count : ℕ
  pub back : reading.Back s words first size count rows

-- the bytes that are stored of what was read
abbrev pub again_bytes : {s : List ℕ} {words : ℕ} {rows : List ℕ} → WasRead s words rows → List ℕ
again_bytes w = stored_bytes form_one w.back.name w.back.items

-- what was read is stored, in n bytes: the rows are as reading leaves them, and what the output has besides is zeros
pub record KeptAgain (s : List ℕ) (words room n : ℕ) (rows out : List ℕ) : Type 0 where
  pub was_read : WasRead s words rows
  pub size : n ≡ length (again_bytes was_read)
  pub fits : n ≤ room
  pub out_is : out ≡ again_bytes was_read ++ replicate (room - n) 0

-- "22, output short": bytes for which the output has too little room
pub record ShortOutput (s : List ℕ) (words room place : ℕ) : Type 0 where
  pub rows : List ℕ
  pub was_read : WasRead s words rows
  pub short : room < length (again_bytes was_read)
  pub place_is : place ≡ room

-- reading's refusals are given as reading gives them; "The output is zeros after any."
abbrev pub Permitted : List ℕ → ℕ → ℕ → Again → List ℕ → List ℕ → Type 0
Permitted s words room (Err (again.Reading r)) rows out = reading.Permitted s words (Err r) rows × (out ≡ replicate room 0)
Permitted s words room (Err (again.OutputShort place)) rows out = ShortOutput s words room place × (rows ≡ replicate words 0) × (out ≡ replicate room 0)
Permitted s words room (Ok n) rows out = KeptAgain s words room n rows out
