-- The statements of specs/Promises.antt. Assumes nothing.
use mathlib.Core.Path.{◌≡◌, ap, subst, ◌∙◌}
use mathlib.Core.List.{List, ◌++◌, map}
use Prim.Native.Nat.{ℕ, ◌+◌}
use native.Mathlib.Nat.{le_refl}
use lib.ListN.{length, take, drop}
use lib.Seq.{take-append_seam}
use Rattle.stored.specs.Fields.{field_bytes, fields_bytes}
use Rattle.stored.specs.StoredItems.{StoredItem, item_field}
use Rattle.stored.specs.Stored.{Stored, form_one, stored_bytes}
use Rattle.stored.proofs.Inverse.{found}
use Rattle.stored_reading.specs.Permitted.{Permitted}
use Rattle.stored_reading.specs.Promises.{NoChoice, RefusedExactly, NamesStand}
use Rattle.stored_reading.specs.Permitted.{StoredReading}
use Rattle.stored_reading.proofs.Whole.{opened}
use Rattle.stored_reading.proofs.Names.{names_there}
use Rattle.stored_reading.proofs.Permits.{one_permitted, not_stored_when, short_when}

pub no_choice : NoChoice
no_choice s w r q t u a b = one_permitted s w r q t u a b

pub refused_exactly : RefusedExactly
refused_exactly s w r t p = (
  ((λ e. (subst (λ (x : StoredReading). Permitted s w x t) e p).0), λ h. not_stored_when s w r t p h),
  ((λ e. let d = (subst (λ (x : StoredReading). Permitted s w x t) e p).0 in (d.name, d.items, d.stored, d.short)), λ h. short_when s w r t p h.0 h.1 h.2 h.3),
)

package_name_lem : (s n : List ℕ) (is : List StoredItem) → Stored form_one s n is → take (length n) (drop 3 s) ≡ n
unfolding stored_bytes fields_bytes field_bytes form_one
package_name_lem s n is h = let rest = fields_bytes (map item_field is) in let p : drop 3 s ≡ n ++ rest = ap (drop 3) h.bytes in ap (take (length n)) p ∙ take-append_seam n rest

pub names_stand : NamesStand
names_stand s n is h =
    (package_name_lem s n is h, names_there (length (drop (3 + length n) s)) s (3 + length n) is (le_refl (length (drop (3 + length n) s))) (opened s n is (found form_one s n is h)))
