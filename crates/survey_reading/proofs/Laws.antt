-- The survey's steps, in the code's terms: each premise is what a call or a match gives. Assumes nothing.
use mathlib.Core.Path.{◌≡◌, sym, ap, ◌∙◌}
use mathlib.Core.Bool.{Bool, true, false}
use mathlib.Core.List.{List}
use Prim.Native.Nat.{ℕ}
use lib.ListN.{length, replicate}
use Rattle.std.specs.Prelude.{Option, None, Result, Ok, Err}
use Rattle.pieces.specs.Records.{pieces_in, recording, record_table}
use Rattle.pieces.specs.declared.NotRecorded.{NotRecorded}
use Rattle.pieces.specs.declared.NotRecorded.TheVariants as M
use Rattle.records.specs.Tallies.{tally_of}
use Rattle.records.specs.Frames.{frame_good, whole_of}
use Rattle.records.specs.declared.Tally.{Tally}
use Rattle.pairs.specs.code.Pairs.{pair_of}
use Rattle.names.specs.code.Links.{links_table, owns_table, twins_table, any_twin}
use Rattle.tree.specs.code.PieceRows.{item_rows}
use Rattle.items.specs.code.Items.{completed}
use Rattle.survey_reading.specs.code.Tables.{pair_by, items_completed, items_survey, pieces_survey, pieces_items, kept_by_survey}
use Rattle.std.specs.Prelude.{Ok, Err}
use Rattle.survey_reading.specs.code.Survey.{summed_of}
use Rattle.survey_reading.specs.declared.Summary.{Summary}
use Rattle.refusals.specs.declared.SurveyRefusal.TheVariants.{TooMany, ItemsShort}

pub pair_there : (any : Bool) (owns : List ℕ) (n : ℕ) (r : Option (ℕ × ℕ)) → any ≡ true → r ≡ pair_of owns n → r ≡ pair_by any owns n
pair_there any owns n r h z = rw h z

pub pair_none : (any : Bool) (owns : List ℕ) (n : ℕ) → any ≡ false → None ≡ pair_by any owns n
pair_none any owns n h = rw h

pub sums : (text table items : List ℕ) (count n : ℕ) (pair : Option (ℕ × ℕ)) (frame whole : Bool) (tally : Tally) → frame ≡ frame_good text table count → tally ≡ tally_of items n → whole ≡ whole_of frame tally
    → ◌≡◌ {A = Summary} (record { pieces = n; frame = frame; whole = whole; pair = pair; tally = tally }) (summed_of text table count items n pair)
unfolding summed_of
sums text table items count n pair frame whole tally p q e = rw (e, p, q)

module _ (text table items items' rows links owns twins : List ℕ) (count n a b c d : ℕ) (any : Bool) (pair : Option (ℕ × ℕ)) (r : Summary)
    (u : a ≡ 40960) (v : b ≡ 8192) (w : c ≡ 1024) (x : d ≡ 1024)
    (e : rows ≡ item_rows table count a) (f : any ≡ any_twin text table items) (g : links ≡ links_table text table count items b)
    (h : owns ≡ owns_table text table items c) (k : twins ≡ twins_table text table items d)
    (l : items' ≡ completed text table links twins rows items n) where
  pub completes : items' ≡ items_completed text table count items n
  unfolding items_completed
  completes = l ∙ rw (g, k, e, u, v, x)

  pub surveys : pair ≡ pair_by any owns n → r ≡ summed_of text table count items' n pair → r ≡ items_survey text table count items n
  unfolding items_survey
  surveys m z = z ∙ rw (m, f, h, w, completes)

-- the pieces marked, too many, or more than the table has room for
module _ (text table items : List ℕ) (count words : ℕ) (m : Result ℕ NotRecorded) (p : m ≡ recording (length (pieces_in table count)) words) (q : items ≡ record_table (pieces_in table count) words) where
  marks_done : (n : ℕ) → m ≡ Ok n → (pieces_survey text table count words ≡ Ok (items_survey text table count items n)) × (pieces_items text table count words ≡ items_completed text table count items n)
  unfolding pieces_survey pieces_items
  marks_done n e = (rw (← p, e, ← q), rw (← p, e, ← q))

  pub way_done : (n : ℕ) (items' : List ℕ) (r : Summary) → m ≡ Ok n → r ≡ items_survey text table count items n → items' ≡ items_completed text table count items n
      → (Ok r ≡ pieces_survey text table count words) × ((table ≡ kept_by_survey (pieces_survey text table count words) table) × (items' ≡ pieces_items text table count words))
  unfolding items_survey summed_of
  way_done n items' r e y z = let o = marks_done n e in (ap Ok y ∙ sym o.0, (rw o.0, z ∙ sym o.1))

  pub way_many : (table' : List ℕ) → m ≡ Err M.TooMany → table' ≡ replicate (length table) 0
      → (Err TooMany ≡ pieces_survey text table count words) × ((table' ≡ kept_by_survey (pieces_survey text table count words) table) × (items ≡ pieces_items text table count words))
  unfolding pieces_survey pieces_items
  way_many table' e y = (rw (← p, e), (rw (← p, e) y, rw (← p, e) q))

  pub way_short : (rows : ℕ) (table' : List ℕ) → m ≡ Err (M.TableShort rows) → table' ≡ replicate (length table) 0
      → (Err (ItemsShort rows) ≡ pieces_survey text table count words) × ((table' ≡ kept_by_survey (pieces_survey text table count words) table) × (items ≡ pieces_items text table count words))
  unfolding pieces_survey pieces_items
  way_short rows table' e y = (rw (← p, e), (rw (← p, e) y, rw (← p, e) q))
