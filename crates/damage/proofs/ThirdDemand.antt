-- The third demand over the item tables: a table begins with the text's records. Assumes nothing.
use mathlib.Core.Path.{◌≡◌, sym, ap, ◌∙◌}
use mathlib.Core.List.{List, ◌++◌}
use Prim.Native.Nat.{ℕ, ◌-◌, ◌*◌}
use lib.ListN.{length, replicate}
use Rattle.records.specs.Records.{word_at}
use Rattle.meaning.specs.Pieces.{pieces_of}
use Rattle.meaning.specs.code.PieceValues.{records_of}
use Rattle.survey_reading.specs.code.Survey.{survey_of, items_after, item_table}
use Rattle.survey_reading.specs.declared.Summary.{Summary}
use Rattle.std.specs.Prelude.{Ok}
use Rattle.survey_reading.proofs.Promises.{says_of_records}
use Rattle.pieces.specs.Columns.{record_words}
use Rattle.survey_reading.proofs.Permits.{left_so}
use Rattle.damage.specs.ThirdDemand.{ThirdDemand}
use Rattle.damage.proofs.Promises.{same_answer}

-- the table of a text that is surveyed
table_is : (s : List ℕ) (e w : ℕ) (x : Summary) → survey_of s e w ≡ Ok x → items_after s e w ≡ records_of s ++ replicate (w - record_words * length (pieces_of s)) 0
unfolding item_table
table_is s e w x h = (says_of_records s e w x h).0

pub third_demand : ThirdDemand
third_demand s t elements items elements' items' l m d p q i j same none calm k a b =
    let x = left_so s elements items l in
    let y = left_so t elements' items' m in
    ap (λ (u : List ℕ). word_at u (length i.above) k) (x.items_are ∙ table_is s x.element_words x.item_words x.summary x.done)
    ∙ same_answer s t d p q i j same none calm (replicate (x.item_words - record_words * length (pieces_of s)) 0) (replicate (y.item_words - record_words * length (pieces_of t)) 0) k a b
    ∙ ap (λ (u : List ℕ). word_at u (length j.above) k) (sym (y.items_are ∙ table_is t y.element_words y.item_words y.summary y.done))
