-- The package stored by hand, computed from its bytes. Assumes nothing.
use Prim.Native.Nat.{ℕ, zero, suc, ◌≤◌, ◌<◌}
use mathlib.Core.Path.{◌≡◌, refl, sym, subst}
use mathlib.Core.Logic.{inr}
use mathlib.Core.Bool.{false, false≢true}
use mathlib.Core.List.{List, []}
use native.Mathlib.Omega.{arith}
use lib.ListN.{length}
use Rattle.pieces.specs.Classes.{is_either}
use Rattle.meaning.specs.Pieces.{pieces_of, class_of}
use Rattle.meaning.specs.Names.{Done}
use Rattle.meaning.specs.Together.{piece_at, GoodFrame, AllFold, IsWhole}
use Rattle.meaning.specs.code.PieceValues.{dones_from}
use Rattle.meaning.proofs.Comes.{come_exactly}
use Rattle.stored.specs.Fields.{field_bytes, fields_bytes}
use Rattle.stored.specs.StoredItems.{four_bytes, number_bytes, value_bytes, item_field}
use Rattle.stored.specs.Stored.{stored_bytes, form_one}
use Rattle.stored_writing.specs.Written.{as_stored}
use Rattle.storing.specs.SurveyItems.{stored_name, items_named, stored_items, package_name, survey_bytes}
use Rattle.stored_back.specs.Shown.{survey_shows}
use Rattle.edges.proofs.Computing.{computing}
use Rattle.examples.specs.StoredExample.{stored_gas, gas_bytes, gas_shown, StoredByHand}

abbrev dones : List Done
dones = dones_from (pieces_of stored_gas) [] (pieces_of stored_gas)

pieces : length (pieces_of stored_gas) ≡ 6
unfolding computing
pieces = refl

others : (i : ℕ) → 1 ≤ i → i < 5 → is_either (class_of (piece_at (pieces_of stored_gas) i)) ≡ false
unfolding computing
others zero l h = absurd (omega arith)
others (suc zero) l h = refl
others (suc (suc zero)) l h = refl
others (suc (suc (suc zero))) l h = refl
others (suc (suc (suc (suc zero)))) l h = refl
others (suc (suc (suc (suc (suc i))))) l h = absurd (omega arith)

frame : GoodFrame (pieces_of stored_gas)
unfolding computing
frame = record { first = refl; last = refl; others = λ i l h. others i l (omega (arith, pieces)); agrees = inr refl }

folds : AllFold dones
unfolding computing
folds = ((λ h. absurd (false≢true h)), ((λ h. refl), ((λ h. refl), ((λ h. refl), ((λ h. refl), ((λ h. absurd (false≢true h)), tt))))))

bytes : survey_bytes stored_gas dones ≡ gas_bytes
unfolding computing stored_bytes form_one fields_bytes field_bytes item_field value_bytes number_bytes four_bytes as_stored stored_name items_named stored_items package_name
bytes = refl

shown : survey_shows dones ≡ gas_shown
unfolding computing survey_shows as_stored stored_name
shown = refl

pub stored_by_hand : StoredByHand
stored_by_hand ds come =
    subst (λ (es : List Done). IsWhole (pieces_of stored_gas) es × (survey_bytes stored_gas es ≡ gas_bytes) × (survey_shows es ≡ gas_shown)) (sym ((come_exactly (pieces_of stored_gas) [] (pieces_of stored_gas) ds).0 come)) ((frame, folds), bytes, shown)
