-- "Refusals: .. on reading 24, .. then 10. .. A new refusal's place .. is the room there is where room is short, else 0." Assumes nothing.
use Rattle.std.specs.Prelude.{ℕ}
use Rattle.refusals.specs.Refusals.{not_stored_number, items_short_number}
use Rattle.stored_reading.specs.declared.StoredRefusal.{StoredRefusal}
use Rattle.stored_reading.specs.declared.StoredRefusal.TheVariants.{NotStored, ItemsShort}

abbrev pub stored_number : StoredRefusal → ℕ
stored_number NotStored = not_stored_number
stored_number (ItemsShort rows) = items_short_number

abbrev pub stored_place : StoredRefusal → ℕ
stored_place NotStored = 0
stored_place (ItemsShort rows) = rows
