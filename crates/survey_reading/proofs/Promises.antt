-- The promises of the survey, proved. Assumes nothing.
use mathlib.Core.Path.{◌≡◌, refl, sym, ap, subst, ◌∙◌}
use mathlib.Core.Logic.{◌↔◌}
use mathlib.Core.Bool.{Bool, true, false, cond}
use mathlib.Core.List.{List}
use Prim.Native.Nat.{ℕ, ◌*◌, ◌/◌, ◌≤◌, ◌<◌}
use native.Mathlib.Omega.{arith}
use native.Mathlib.Nat.{zero-add}
use borrow.Author.Tests.{le-ltb, lt-ltb, ltb-true, ltb-false}
use lib.Dec.{eqb, ltb}
use lib.ListN.{length, get_or}
use Rattle.std.specs.Prelude.{Result, Ok, Err}
use Rattle.laws.proofs.Laws.{clash}
use Rattle.records.specs.Tallies.{in_state, tally_of}
use Rattle.records.specs.Frames.{frame_good}
use Rattle.records.proofs.Counting.{counts_at}
use Rattle.records.proofs.Wholes.{whole_exactly}
use Rattle.names.specs.code.Names.{shared_pair}
use Rattle.pieces.specs.declared.NotRecorded.{NotRecorded}
use Rattle.pieces.specs.declared.NotRecorded.TheVariants as M
use Rattle.element_reading.specs.Rows.{rows_of}
use Rattle.element_reading.specs.Reading.{reading_of}
use Rattle.element_reading.specs.Reading as elements
use Rattle.std.specs.Prelude.{Result, Ok, Err}
use Rattle.places.specs.declared.ElementNumber.{ElementNumber}
use Rattle.refusals.specs.declared.Refusal.{Refusal}
use Rattle.meaning.specs.Pieces.{pieces_of}
use Rattle.places.specs.Sizes.{most_pieces}
use Rattle.pieces.specs.Records.{record_words, recording}
use Rattle.pieces.specs.Columns.{record_words}
use Rattle.survey_reading.specs.code.Survey.{item_table, summary, survey_by_recording, survey_by_reading, survey_of, elements_after_survey, items_after, summed_of}
use Rattle.element_reading.specs.Given.{Taken}
use Rattle.element_reading.specs.Given as goal
use Rattle.element_reading.proofs.Answers as reading
use Rattle.element_reading.proofs.Answers.{ReadingSays, reading_says, taken_read, refused_reading}
use Rattle.survey_reading.specs.Given.{Given, of_elements, too_many, items_short}
use Rattle.survey_reading.specs.code.Promises.{ZerosOnRefusal, SurveyedExactly, RefusedExactly, SaysOfRecords}
use Rattle.survey_reading.specs.declared.Summary.{Summary}
use Rattle.refusals.specs.Refusals.{survey_number, survey_place}
use Rattle.refusals.specs.declared.Refusal.TheVariants as E
use Rattle.refusals.specs.declared.SurveyRefusal.{SurveyRefusal}
use Rattle.refusals.specs.declared.SurveyRefusal.TheVariants.{Elements, TooMany, ItemsShort}
use Rattle.survey_reading.proofs.Joined.{marked_room}

pub zeros_on_refusal : ZerosOnRefusal
unfolding elements_after_survey items_after survey_of
zeros_on_refusal s e i r h = (rw h, rw h)

-- what each outcome says of the text and the tables
abbrev Said : List ℕ → ℕ → ℕ → Result Summary SurveyRefusal → Type 0
Said s e i (Ok y) = Taken s e × (length (pieces_of s) ≤ 1024) × (record_words * length (pieces_of s) ≤ i)
Said s e i (Err (Elements r)) = reading.GivenAs s e r
Said s e i (Err TooMany) = Taken s e × (1024 < length (pieces_of s))
Said s e i (Err (ItemsShort k)) = Taken s e × (length (pieces_of s) ≤ 1024) × (i / record_words < length (pieces_of s)) × (k ≡ i / record_words)

said_marked : (s table : List ℕ) (e i : ℕ) → Taken s e → Said s e i (survey_by_recording (recording (length (pieces_of s)) i) s table (length (rows_of s)) (item_table s i))
unfolding recording summary summed_of
said_marked s table e i t = go (ltb 1024 n) (ltb (i / record_words) n) refl refl
  where
    n : ℕ
    n = length (pieces_of s)

    go : (a b : Bool) → ltb 1024 n ≡ a → ltb (i / record_words) n ≡ b → Said s e i (survey_by_recording (cond a (Err M.TooMany) (cond b (Err (M.TableShort (i / record_words))) (Ok n))) s table (length (rows_of s)) (item_table s i))
    go true b p q = (t, ltb-true 1024 n p)
    go false true p q = (t, ltb-false 1024 n p, ltb-true (i / record_words) n q, refl)
    go false false p q = (t, ltb-false 1024 n p, omega (arith, ltb-false (i / record_words) n q))

said : (s : List ℕ) (e i : ℕ) (o : Result Summary SurveyRefusal) → (survey_of s e i) ≡ o → Said s e i o
unfolding survey_of
said s e i o h = subst (Said s e i) h (go (reading_of s e) refl)
  where
    go : (x : Result ElementNumber Refusal) → reading_of s e ≡ x → Said s e i (survey_by_reading x s (elements.table_of s e) i)
    go (Err r) q = subst (ReadingSays s e) q (reading_says s e)
    go (Ok n) q = said_marked s (elements.table_of s e) e i (subst (ReadingSays s e) q (reading_says s e)).1

pub surveyed_exactly : SurveyedExactly
unfolding survey_of recording summary summed_of
surveyed_exactly s e i = (
  (λ d. said s e i (Ok d.0) d.1),
  λ x.
      let few = x.1 in
      let room = x.2 in
      rw (taken_read s e x.0, le-ltb 1024 (length (pieces_of s)) few, le-ltb (i / record_words) (length (pieces_of s)) (omega arith)) (_, refl),
)

-- the same, by the numbers of 01's table
module _ (s : List ℕ) (e i : ℕ) where
  abbrev At : ℕ → ℕ → Type 0
  At n k =
      cond (eqb n 9) ((k ≡ most_pieces) × Taken s e × (most_pieces < length (pieces_of s)))
      (cond (eqb n 10) (Taken s e × (length (pieces_of s) ≤ most_pieces) × (i / record_words < length (pieces_of s)) × (k ≡ i / record_words)) (goal.Given s e n k))

  numbered : {n k : ℕ} → Given s e i n k → At n k
  numbered (of_elements (goal.too_long h)) = goal.too_long h
  numbered (of_elements (goal.too_many a h)) = goal.too_many a h
  numbered (of_elements (goal.short a b h)) = goal.short a b h
  numbered (too_many t h) = (refl, t, h)
  numbered (items_short t a h) = (t, a, omega arith, refl)

  given_as : (r : SurveyRefusal) → Given s e i (survey_number r) (survey_place r) → Said s e i (Err r)
  given_as (Elements (E.TextTooLong p)) g = reading.given_as s e (E.TextTooLong p) (numbered g)
  given_as (Elements (E.TooManyElements n)) g = reading.given_as s e (E.TooManyElements n) (numbered g)
  given_as (Elements (E.TableShort n)) g = reading.given_as s e (E.TableShort n) (numbered g)
  given_as TooMany g = let x = numbered g in (x.1, x.2)
  given_as (ItemsShort k) g = numbered g

  as_given : (r : SurveyRefusal) → Said s e i (Err r) → Given s e i (survey_number r) (survey_place r)
  as_given (Elements r) x = of_elements (reading.as_given s e r x)
  as_given TooMany x = too_many x.0 x.1
  as_given (ItemsShort k) x = let l = x.2 in subst (λ (n : ℕ). Given s e i 10 n) (sym x.3) (items_short x.0 x.1 (omega arith))

  -- and the refusal by what is said
  refused_by_lem : (r : SurveyRefusal) → Said s e i (Err r) → (survey_of s e i) ≡ Err r
  unfolding survey_of recording
  refused_by_lem (Elements r) x = rw (refused_reading s e r x)
  refused_by_lem TooMany x = rw (taken_read s e x.0, lt-ltb 1024 (length (pieces_of s)) x.1)
  refused_by_lem (ItemsShort k) x = rw (taken_read s e x.0, le-ltb 1024 (length (pieces_of s)) x.1, lt-ltb (i / record_words) (length (pieces_of s)) x.2, x.3)

pub refused_exactly : RefusedExactly
refused_exactly s e i r = ((λ h. as_given s e i r (said s e i (Err r) h)), λ g. refused_by_lem s e i r (given_as s e i r g))

-- what a survey says of n records
abbrev Says : List ℕ → List ℕ → ℕ → List ℕ → ℕ → Summary → Type 0
Says s table count items n y =
    (y.pieces ≡ n) × (y.frame ≡ frame_good s table count) × (y.pair ≡ shared_pair s table items n)
    × ((k : ℕ) → k ≤ 10 → get_or y.tally.counts k 0 ≡ in_state k items 0 n)
    × ((y.whole ≡ true) ↔ ((y.frame ≡ true) × ((k : ℕ) → 1 ≤ k → k ≤ 10 → in_state k items 0 n ≡ 0)))

summary_says : (s table : List ℕ) (count : ℕ) (items : List ℕ) (n : ℕ) → Says s table count items n (summary s table count items n)
unfolding summary summed_of tally_of
summary_says s table count items n = (
  refl,
  refl,
  refl,
  (λ k l. counts_at items n 0 11 k (omega arith) ∙ ap (λ (x : ℕ). in_state x items 0 n) (zero-add k)),
  whole_exactly (frame_good s table count) items n,
)

pub same_done : (a b : Summary) → ◌≡◌ {A = Result Summary SurveyRefusal} (Ok a) (Ok b) → a ≡ b
same_done a b e = cc

by_marking_done : (m : Result ℕ NotRecorded) (s table : List ℕ) (count : ℕ) (items : List ℕ) (n words : ℕ) (y : Summary) → recording n words ≡ m → survey_by_recording m s table count items ≡ Ok y
    → Says s table count items n y
by_marking_done (Ok k) s table count items n words y e h =
    subst (Says s table count items n) (same_done _ y h)
    (subst (λ (x : ℕ). Says s table count items x (summary s table count items k)) (marked_room n words k e).0 (summary_says s table count items k))
by_marking_done (Err M.TooMany) s table count items n words y e h = let z : ◌≡◌ {A = ℕ} 0 1 = cc in clash z
by_marking_done (Err (M.TableShort k)) s table count items n words y e h = let z : ◌≡◌ {A = ℕ} 0 1 = cc in clash z

by_reading_done : (x : Result ElementNumber Refusal) (s table : List ℕ) (words : ℕ) (y : Summary) → survey_by_reading x s table words ≡ Ok y → Says s table (length (rows_of s)) (item_table s words) (length (pieces_of s)) y
by_reading_done (Err r) s table words y h = let z : ◌≡◌ {A = ℕ} 0 1 = cc in clash z
by_reading_done (Ok n) s table words y h = by_marking_done (recording (length (pieces_of s)) words) s table (length (rows_of s)) (item_table s words) (length (pieces_of s)) words y refl h

pub says_of_records : SaysOfRecords
unfolding elements_after_survey items_after survey_of
says_of_records s e i y h =
    let r = by_reading_done (reading_of s e) s (elements.table_of s e) i y h in
    (rw h, rw h, r.0, r.1, r.2, r.3, r.4)
