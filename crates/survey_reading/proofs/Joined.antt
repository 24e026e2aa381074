-- The survey's steps over a text's own tables give what the survey of the text is. Assumes nothing.
use mathlib.Core.Path.{◌≡◌, refl, sym, ap, ap₂, ◌∙◌}
use mathlib.Core.Bool.{Bool, true, false, cond}
use mathlib.Core.List.{List, [], ◌∷◌, ◌++◌}
use Prim.Native.Nat.{ℕ, suc, ◌+◌, ◌-◌, ◌*◌, ◌/◌, ◌≤◌, min}
use native.Mathlib.Omega.{arith}
use borrow.Author.Tests.{ltb-false}
use lib.Dec.{ltb}
use lib.ListN.{length, replicate, length-append, length-replicate}
use Rattle.std.specs.Prelude.{Result, Ok, Err}
use Rattle.laws.proofs.Laws.{clash}
use Rattle.element_reading.specs.Rows.{rows_of}
use Rattle.element_reading.specs.Reading.{reading_of}
use Rattle.element_reading.specs.Reading as elements
use Rattle.std.specs.Prelude.{Result, Ok, Err}
use Rattle.refusals.specs.declared.Refusal.{Refusal}
use Rattle.places.specs.declared.ElementNumber.{ElementNumber}
use Rattle.element_reading.proofs.Answers.{table_read, table_refused, table_length, read_count, read_few}
use Rattle.pieces.specs.Records.{pieces_in, recording, record_table}
use Rattle.pieces.specs.declared.NotRecorded.{NotRecorded}
use Rattle.pieces.specs.declared.NotRecorded.TheVariants as M
use Rattle.names.specs.code.Names.{shared_pair}
use Rattle.names.specs.code.Links.{records_in, links_table, owns_table, twins_table, any_twin}
use Rattle.names.proofs.Promises.{first_shared, none_shared}
use Rattle.meaning.specs.Elements.{Piece}
use Rattle.meaning.specs.Pieces.{pieces_of}
use Rattle.meaning.proofs.Cutting.{kinds_each}
use Rattle.meaning.proofs.Frames.{pieces_are}
use Rattle.meaning.specs.Records.{records_from}
use Rattle.meaning.proofs.Records.{pendings, pieces_pending, pieces_length, records_length, marked_records}
use Rattle.meaning.proofs.Places.{table_of}
use Rattle.meaning.proofs.Stages.{completed_all}
use Rattle.pieces.specs.Columns.{record_words}
use Rattle.survey_reading.proofs.Told.{told_all, pairs_same}
use Rattle.survey_reading.specs.code.Tables.{pair_by, items_completed, items_survey, pieces_survey, pieces_items, kept_by_survey}
use Rattle.survey_reading.specs.code.Tables as tables
use Rattle.survey_reading.specs.code.Survey.{item_table, summary, left, survey_of, elements_after_survey, items_after, summed_of}
use Rattle.survey_reading.specs.code.Survey as survey
use Rattle.survey_reading.specs.declared.Summary.{Summary}
use Rattle.refusals.specs.declared.SurveyRefusal.{SurveyRefusal}
use Rattle.refusals.specs.declared.SurveyRefusal.TheVariants.{Elements}

each_length : (ps : List Piece) → length (kinds_each ps) ≡ length ps
unfolding kinds_each
each_length [] = refl
each_length (p ∷ ps) = ap suc (each_length ps)

-- pieces that are marked are few enough, and the table has room for them
pub marked_room : (n words k : ℕ) → recording n words ≡ Ok k → (k ≡ n) × (n ≤ 1024) × (record_words * n ≤ words)
unfolding recording
marked_room n words k = go (ltb 1024 n) (ltb (words / record_words) n) refl refl
  where
    go : (a b : Bool) → ltb 1024 n ≡ a → ltb (words / record_words) n ≡ b → cond a (Err M.TooMany) (cond b (Err (M.TableShort (words / record_words))) (Ok n)) ≡ Ok k → (k ≡ n) × (n ≤ 1024) × (record_words * n ≤ words)
    go true b p q e = let z : ◌≡◌ {A = ℕ} 0 1 = cc in clash z
    go false true p q e = let z : ◌≡◌ {A = ℕ} 0 1 = cc in clash z
    go false false p q e = let z : n ≡ k = cc in (sym z, ltb-false 1024 n p, omega (arith, ltb-false (words / record_words) n q))

module _ (s : List ℕ) (z : ℕ) where
  abbrev t : List ℕ
  t = table_of s z

  abbrev n : ℕ
  n = length (rows_of s)

  abbrev ps : List Piece
  ps = pieces_of s

  module _ (words : ℕ) where
    marking_is : recording (length (pieces_in t n)) words ≡ recording (length ps) words
    marking_is = rw (pieces_are s z, each_length ps)

    abbrev rest : List ℕ
    rest = replicate (words - record_words * length ps) 0

    -- what recording leaves
    abbrev waiting : List ℕ
    waiting = records_from 0 (pendings ps) ++ rest

    waiting_is : (k : ℕ) → recording (length ps) words ≡ Ok k → record_table (pieces_in t n) words ≡ waiting
    unfolding record_table
    waiting_is k e =
        rw (marking_is, e, pieces_are s z, marked_records 0 ps)
        (ap (λ (m : ℕ). records_from 0 (pendings ps) ++ replicate (words - m) 0) long)
      where
        long : length (records_from 0 (pendings ps)) ≡ record_words * length ps
        long = records_length 0 (pendings ps) ∙ ap (λ (m : ℕ). record_words * m) (sym (pieces_length (pendings ps)) ∙ ap length (pieces_pending ps))

    zeros_many : recording (length ps) words ≡ Err M.TooMany → record_table (pieces_in t n) words ≡ replicate words 0
    unfolding record_table
    zeros_many e = rw (marking_is, e)

    zeros_short : (k : ℕ) → recording (length ps) words ≡ Err (M.TableShort k) → record_table (pieces_in t n) words ≡ replicate words 0
    unfolding record_table
    zeros_short k e = rw (marking_is, e)

    waiting_size : length waiting ≡ record_words * length ps + (words - record_words * length ps)
    waiting_size =
        length-append (records_from 0 (pendings ps)) rest
        ∙ ap₂ (λ (a b : ℕ). a + b) (records_length 0 (pendings ps) ∙ ap (λ (m : ℕ). record_words * m) (sym (pieces_length (pendings ps)) ∙ ap length (pieces_pending ps))) (length-replicate {A = ℕ} (words - record_words * length ps) 0)

    module _ (small : n ≤ 8192) where
      pairs : shared_pair s t waiting (length ps) ≡ shared_pair s t (item_table s words) (length ps)
      pairs = pairs_same s z words (length ps)

      completed_is : length ps ≤ 1024 → items_completed s t n waiting (length ps) ≡ item_table s words
      unfolding items_completed item_table
      completed_is few =
          completed_all s z (links_table s t n waiting 8192) (twins_table s t waiting 1024) rest n refl small (told_all s z (words - record_words * length ps) few small)

      pair_is : length ps ≤ 1024 → record_words * length ps ≤ words → pair_by (any_twin s t waiting) (owns_table s t waiting 1024) (length ps) ≡ shared_pair s t (item_table s words) (length ps)
      unfolding records_in
      pair_is a b = go (any_twin s t waiting) refl ∙ pairs
        where
          room : length ps ≤ min (length waiting / record_words) 1024
          room = omega (arith, waiting_size)

          go : (x : Bool) → any_twin s t waiting ≡ x → pair_by x (owns_table s t waiting 1024) (length ps) ≡ shared_pair s t waiting (length ps)
          go true e = first_shared s t waiting (length ps) 1024 room a
          go false e = sym (none_shared s t waiting (length ps) 1024 room e)

      survey_is : length ps ≤ 1024 → record_words * length ps ≤ words → items_survey s t n waiting (length ps) ≡ summary s t n (item_table s words) (length ps)
      unfolding items_survey summary
      survey_is a b = rw (completed_is a, pair_is a b)

      by_marking : (m : Result ℕ NotRecorded) → recording (length ps) words ≡ m
          → (tables.items_by_recording m s t n (record_table (pieces_in t n) words) ≡ survey.survey_by_recording m s t n (item_table s words))
          × (tables.items_by_marking m s t n (record_table (pieces_in t n) words) ≡ left (survey.survey_by_recording m s t n (item_table s words)) words (item_table s words))
      unfolding summary summed_of
      by_marking (Ok k) e =
          let r = marked_room (length ps) words k e in
          let h : k ≡ length ps = r.0 in
          (rw (waiting_is k e, h) (ap Ok (survey_is r.1 r.2)), rw (waiting_is k e, h) (completed_is r.1))
      by_marking (Err M.TooMany) e = (refl, zeros_many e)
      by_marking (Err (M.TableShort k)) e = (refl, zeros_short k e)

      pub joined : (pieces_survey s t n words ≡ survey.survey_by_recording (recording (length ps) words) s t n (item_table s words))
          × (pieces_items s t n words ≡ left (survey.survey_by_recording (recording (length ps) words) s t n (item_table s words)) words (item_table s words))
      unfolding pieces_survey pieces_items
      joined = rw marking_is (by_marking (recording (length ps) words) refl)

-- a text that the element reader took
module _ (s : List ℕ) (w words : ℕ) (r : Result ElementNumber Refusal) (c : ElementNumber) (table : List ℕ) (e : r ≡ reading_of s w) (f : table ≡ elements.table_of s w) (g : r ≡ Ok c) where
  z : ℕ
  z = w - 3 * length (rows_of s)

  read_is : reading_of s w ≡ Ok c
  read_is = sym e ∙ g

  table_is : table ≡ table_of s z
  unfolding z
  table_is = f ∙ table_read s w read_is

  count_is : c.0 ≡ length (rows_of s)
  count_is = read_count s w c read_is

  steps : (pieces_survey s table c.0 words ≡ survey.survey_by_recording (recording (length (pieces_of s)) words) s (table_of s z) (length (rows_of s)) (item_table s words))
      × (pieces_items s table c.0 words ≡ left (survey.survey_by_recording (recording (length (pieces_of s)) words) s (table_of s z) (length (rows_of s)) (item_table s words)) words (item_table s words))
  steps =
      let j = joined s z words (read_few s w c read_is) in (
        ap₂ (λ (u : List ℕ) (k : ℕ). pieces_survey s u k words) table_is count_is ∙ j.0,
        ap₂ (λ (u : List ℕ) (k : ℕ). pieces_items s u k words) table_is count_is ∙ j.1,
      )

  whole : survey_of s w words ≡ pieces_survey s table c.0 words
  unfolding survey_of
  whole = rw (read_is) (ap (λ (t : List ℕ). survey.survey_by_recording (recording (length (pieces_of s)) words) s t (length (rows_of s)) (item_table s words)) (sym f ∙ table_is) ∙ sym steps.0)

  pub way_read : (x : Result Summary SurveyRefusal) (table' items' : List ℕ) → x ≡ pieces_survey s table c.0 words → table' ≡ kept_by_survey (pieces_survey s table c.0 words) table → items' ≡ pieces_items s table c.0 words
      → (x ≡ survey_of s w words) × ((table' ≡ elements_after_survey s w words) × (items' ≡ items_after s w words))
  unfolding elements_after_survey items_after
  way_read x table' items' p q h = (
    p ∙ sym whole,
    (
      q ∙ kept_left (pieces_survey s table c.0 words) ∙ ap (λ (v : Result Summary SurveyRefusal). left v w (elements.table_of s w)) (sym whole),
      h ∙ steps.1 ∙ ap (λ (v : Result Summary SurveyRefusal). left v words (item_table s words)) (sym steps.0 ∙ sym whole),
    ),
  )
    where
      kept_left : (o : Result Summary SurveyRefusal) → kept_by_survey o table ≡ left o w (elements.table_of s w)
      kept_left (Ok y) = f
      kept_left (Err y) = ap (λ (k : ℕ). replicate k 0) (ap length f ∙ table_length s w)

pub way_refused : (s : List ℕ) (w words : ℕ) (r : Result ElementNumber Refusal) (y : Refusal) (table items' : List ℕ) → r ≡ reading_of s w → table ≡ elements.table_of s w → r ≡ Err y
    → items' ≡ replicate words 0 → (Err (Elements y) ≡ survey_of s w words) × ((table ≡ elements_after_survey s w words) × (items' ≡ items_after s w words))
unfolding survey_of elements_after_survey items_after
way_refused s w words r y table items' e f g h =
    let z : reading_of s w ≡ Err y = sym e ∙ g in
    (rw z, (rw z (f ∙ table_refused s w z), rw z h))
