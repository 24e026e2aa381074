-- The survey of a text, as the code has it, is permitted, and nothing else is. Assumes nothing.
use mathlib.Core.Path.{◌≡◌, refl, sym, ap, ap₂, subst, ◌∙◌}
use mathlib.Core.Logic.{◌↔◌}
use mathlib.Core.Bool.{Bool, true}
use mathlib.Core.List.{List, [], ◌∷◌, ◌++◌}
use Prim.Native.Nat.{ℕ, zero, suc, ◌-◌, ◌*◌, ◌≤◌}
use native.Mathlib.Omega.{arith}
use lib.ListN.{length, replicate}
use lib.Seq.{ext_get_or}
use Rattle.std.specs.Prelude.{Option, Result, Ok, Err}
use Rattle.laws.proofs.Laws.{clash}
use Rattle.records.specs.Tallies.{in_state, counts_from, tally_of}
use Rattle.records.specs.Frames.{frame_good}
use Rattle.records.specs.declared.Tally.{Tally}
use Rattle.names.specs.code.Names.{shared_pair}
use Rattle.pieces.specs.declared.NotRecorded.{NotRecorded}
use Rattle.pieces.specs.declared.NotRecorded.TheVariants as M
use Rattle.pieces.specs.Records.{recording}
use Rattle.element_reading.specs.Reading as elements
use Rattle.element_reading.specs.Rows.{rows_of}
use Rattle.std.specs.Prelude.{Result, Ok, Err}
use Rattle.places.specs.declared.ElementNumber.{ElementNumber}
use Rattle.refusals.specs.declared.Refusal.{Refusal}
use Rattle.element_reading.specs.Given.{Taken}
use Rattle.element_reading.proofs.Answers.{taken_read, table_read}
use Rattle.refusals.specs.declared.SurveyRefusal.{SurveyRefusal}
use Rattle.meaning.specs.Elements.{Piece}
use Rattle.meaning.specs.Pieces.{pieces_of}
use Rattle.meaning.specs.Names.{Done}
use Rattle.meaning.specs.code.PieceValues.{value_of, done_of, dones_from, dones_of, records_of}
use Rattle.meaning.specs.Records.{records_from}
use Rattle.meaning.specs.Together.{GoodFrame, FirstPair, count_in, IsWhole}
use Rattle.meaning.proofs.Records.{pieces_done, pieces_length}
use Rattle.meaning.proofs.Words as held
use Rattle.meaning.proofs.Places.{table_of}
use Rattle.meaning.proofs.Sameness.{both_ways}
use Rattle.meaning.proofs.Promises.{state_known}
use Rattle.meaning.proofs.Comes.{come_exactly}
use Rattle.meaning.proofs.Together.{Known, state_count, folds_none, none_folds, one_pair, pair_is}
use Rattle.meaning.proofs.Frames.{frame_is}
use Rattle.pieces.specs.Columns.{record_words}
use Rattle.survey_reading.specs.code.Survey.{item_table, summary, summed_of, survey_by_recording, survey_by_reading, survey_of, elements_after_survey, items_after}
use Rattle.survey_reading.specs.Permitted.{Finished, Permitted, LeavesTables}
use Rattle.survey_reading.specs.code.Promises.{NoChoice}
use Rattle.survey_reading.specs.declared.Summary.{Summary}
use Rattle.survey_reading.proofs.Told.{dones_pieces}
use Rattle.survey_reading.proofs.Promises.{same_done, zeros_on_refusal, surveyed_exactly, refused_exactly, says_of_records}

-- ---- the eleven counts

counts_eleven : (items : List ℕ) (n k m : ℕ) → length (counts_from items n k m) ≡ m
unfolding counts_from
counts_eleven items n k zero = refl
counts_eleven items n k (suc m) = ap suc (counts_eleven items n (suc k) m)

eleven_marked : (m : Result ℕ NotRecorded) (s table : List ℕ) (count : ℕ) (items : List ℕ) (y : Summary) → survey_by_recording m s table count items ≡ Ok y → length y.tally.counts ≡ 11
unfolding summary summed_of tally_of
eleven_marked (Ok n) s table count items y h = subst (λ (x : Summary). length x.tally.counts ≡ 11) (same_done _ y h) (counts_eleven items n 0 11)
eleven_marked (Err M.TooMany) s table count items y h = let z : ◌≡◌ {A = ℕ} 0 1 = cc in clash z
eleven_marked (Err (M.TableShort n)) s table count items y h = let z : ◌≡◌ {A = ℕ} 0 1 = cc in clash z

eleven_read : (r : Result ElementNumber Refusal) (s table : List ℕ) (words : ℕ) (y : Summary) → survey_by_reading r s table words ≡ Ok y → length y.tally.counts ≡ 11
eleven_read (Err r) s table words y h = let z : ◌≡◌ {A = ℕ} 0 1 = cc in clash z
eleven_read (Ok n) s table words y h = eleven_marked (recording (length (pieces_of s)) words) s table (length (rows_of s)) (item_table s words) y h

eleven : (s : List ℕ) (e i : ℕ) (y : Summary) → survey_of s e i ≡ Ok y → length y.tally.counts ≡ 11
unfolding survey_of
eleven s e i y h = eleven_read (elements.reading_of s e) s (elements.table_of s e) i y h

-- ---- the states of what pieces come to

known_from : (all : List Piece) (above : List Done) (ps : List Piece) → Known (dones_from all above ps)
unfolding dones_from
known_from all above [] = tt
known_from all above (p ∷ ps) = (state_known all above p (value_of all above p) refl, known_from all (above ++ done_of all above p ∷ []) ps)

-- ---- a survey that is done

module _ (s : List ℕ) (e i : ℕ) (y : Summary) (h : survey_of s e i ≡ Ok y) where
  ps : List Piece
  ps = pieces_of s

  room : Taken s e × (length (pieces_of s) ≤ 1024) × (record_words * length (pieces_of s) ≤ i)
  room = (surveyed_exactly s e i).0 (y, h)

  abbrev ds : List Done
  ds = dones_of (pieces_of s)

  cuts : pieces_done ds ≡ pieces_of s
  unfolding dones_of
  cuts = dones_pieces (pieces_of s) [] (pieces_of s)

  size : length ds ≡ length (pieces_of s)
  size = sym (pieces_length ds) ∙ ap length cuts

  abbrev z : ℕ
  z = e - 3 * length (rows_of s)

  table_is : elements.table_of s e ≡ table_of s z
  table_is = table_read s e (taken_read s e room.0)

  items_is : item_table s i ≡ held.item_table ds (i - record_words * length (pieces_of s))
  unfolding item_table records_of
  items_is = refl

  frame : (y.frame ≡ true) ↔ GoodFrame (pieces_of s)
  frame =
      let f = (says_of_records s e i y h).3 ∙ ap (λ (t : List ℕ). frame_good s t (length (rows_of s))) table_is in
      let g = frame_is s z in
      ((λ a. g.0 (sym f ∙ a)), λ a. f ∙ g.1 a)

  counted : (k : ℕ) → k ≤ 10 → in_state k (item_table s i) 0 (length (pieces_of s)) ≡ count_in k ds
  counted k l =
      ap₂ (λ (t : List ℕ) (n : ℕ). in_state k t 0 n) items_is (sym size) ∙ state_count k l ds (replicate (i - record_words * length (pieces_of s)) 0)

  whole : (y.whole ≡ true) ↔ IsWhole (pieces_of s) ds
  unfolding dones_of
  whole =
      let w = (says_of_records s e i y h).6 in (
        (λ a. let b = w.0 a in (frame.0 b.0, none_folds ds (known_from (pieces_of s) [] (pieces_of s)) (λ k l m. sym (counted k m) ∙ b.1 k l m))),
        λ a. w.1 (frame.1 a.0, λ k l m. counted k m ∙ folds_none ds a.1 k l),
      )

  finished : Finished s e i y (elements_after_survey s e i) (items_after s e i)
  unfolding dones_of
  finished =
      let r = says_of_records s e i y h in
      record {
        taken = room.0;
        few = room.1;
        room = room.2;
        dones = ds;
        come = (come_exactly (pieces_of s) [] (pieces_of s) ds).1 refl;
        elements_are = r.1 ∙ table_is;
        items_are = r.0 ∙ items_is;
        pieces = r.2;
        frame = frame;
        pair = subst (FirstPair (pieces_of s)) (sym (r.4 ∙ ap₂ (λ (t u : List ℕ). shared_pair s t u (length (pieces_of s))) table_is items_is)) (pair_is s z (i - record_words * length (pieces_of s)) ds cuts room.1);
        eleven = eleven s e i y h;
        counts = λ k l. r.5 k l ∙ counted k l;
        whole = whole;
      }

pub permits : (s : List ℕ) (e i : ℕ) → Permitted s e i (survey_of s e i) (elements_after_survey s e i) (items_after s e i)
permits s e i = go (survey_of s e i) refl
  where
    go : (x : Result Summary SurveyRefusal) → survey_of s e i ≡ x → Permitted s e i x (elements_after_survey s e i) (items_after s e i)
    go (Ok y) h = finished s e i y h
    go (Err r) h = let q = zeros_on_refusal s e i r h in ((refused_exactly s e i r).0 h, q.0, q.1)

pub permits_these : (s : List ℕ) (e i : ℕ) (x : Result Summary SurveyRefusal) (t u : List ℕ) → (x ≡ survey_of s e i) × ((t ≡ elements_after_survey s e i) × (u ≡ items_after s e i)) → Permitted s e i x t u
permits_these s e i x t u (p, (q, r)) =
    subst (λ (v : Result Summary SurveyRefusal). Permitted s e i v t u) (sym p) (subst (λ (v : List ℕ). Permitted s e i (survey_of s e i) v u) (sym q) (subst (Permitted s e i (survey_of s e i) (elements_after_survey s e i)) (sym r) (permits s e i)))

-- ---- any two answers that are permitted coincide

same_summary : (a b : Summary) → a.pieces ≡ b.pieces → a.frame ≡ b.frame → a.whole ≡ b.whole → a.pair ≡ b.pair → a.tally ≡ b.tally → a ≡ b
same_summary a b p f w q l =
    ap (λ (x : ℕ). record { pieces = x; frame = a.frame; whole = a.whole; pair = a.pair; tally = a.tally }) p
    ∙ ap (λ (x : Bool). record { pieces = b.pieces; frame = x; whole = a.whole; pair = a.pair; tally = a.tally }) f
    ∙ ap (λ (x : Bool). record { pieces = b.pieces; frame = b.frame; whole = x; pair = a.pair; tally = a.tally }) w
    ∙ ap (λ (x : Option (ℕ × ℕ)). record { pieces = b.pieces; frame = b.frame; whole = b.whole; pair = x; tally = a.tally }) q
    ∙ ap (λ (x : Tally). record { pieces = b.pieces; frame = b.frame; whole = b.whole; pair = b.pair; tally = x }) l

module _ (s : List ℕ) (e i : ℕ) where
  same_finished : (y y' : Summary) (t t' u u' : List ℕ) → Finished s e i y t u → Finished s e i y' t' u' → (y ≡ y') × (t ≡ t') × (u ≡ u')
  same_finished y y' t t' u u' a b =
      let d : a.dones ≡ b.dones = (come_exactly (pieces_of s) [] (pieces_of s) a.dones).0 a.come ∙ sym ((come_exactly (pieces_of s) [] (pieces_of s) b.dones).0 b.come) in
      let w = both_ways y.whole y'.whole
      (λ g. b.whole.1 (subst (IsWhole (pieces_of s)) d (a.whole.0 g)))
      (λ g. a.whole.1 (subst (IsWhole (pieces_of s)) (sym d) (b.whole.0 g))) in (
        same_summary y y' (a.pieces ∙ sym b.pieces) (both_ways y.frame y'.frame (λ g. b.frame.1 (a.frame.0 g)) (λ g. a.frame.1 (b.frame.0 g))) w
            (one_pair (pieces_of s) y.pair y'.pair a.pair b.pair)
            (ap (λ (c : List ℕ). record { counts = c })
            (ext_get_or 0 y.tally.counts y'.tally.counts (a.eleven ∙ sym b.eleven) (λ k h. let x = a.eleven in a.counts k (omega arith) ∙ ap (count_in k) d ∙ sym (b.counts k (omega arith))))),
        a.elements_are ∙ sym b.elements_are,
        a.items_are ∙ ap (λ (c : List Done). records_from 0 c ++ replicate (i - record_words * length (pieces_of s)) 0) d ∙ sym b.items_are,
      )

  not_both : (r : SurveyRefusal) (y : Summary) (t u : List ℕ) → survey_of s e i ≡ Err r → Finished s e i y t u → ⊥
  not_both r y t u h a = let d = (surveyed_exactly s e i).1 (a.taken, a.few, a.room) in let q = d.1 in let z : ◌≡◌ {A = ℕ} 0 1 = cc in clash z

  pub one_permitted : (x x' : Result Summary SurveyRefusal) (t t' u u' : List ℕ) → Permitted s e i x t u → Permitted s e i x' t' u' → (x ≡ x') × (t ≡ t') × (u ≡ u')
  one_permitted (Ok y) (Ok y') t t' u u' a b = let q = same_finished y y' t t' u u' a b in (ap Ok q.0, q.1, q.2)
  one_permitted (Ok y) (Err r) t t' u u' a b = absurd (not_both r y t u ((refused_exactly s e i r).1 b.0) a)
  one_permitted (Err r) (Ok y) t t' u u' a b = absurd (not_both r y t' u' ((refused_exactly s e i r).1 a.0) b)
  one_permitted (Err r) (Err r') t t' u u' a b = (sym ((refused_exactly s e i r).1 a.0) ∙ (refused_exactly s e i r').1 b.0, a.1 ∙ sym b.1, a.2 ∙ sym b.2)

  -- the equalities that callers use
  pub permitted_is : (x : Result Summary SurveyRefusal) (t u : List ℕ) → Permitted s e i x t u → (x ≡ survey_of s e i) × (t ≡ elements_after_survey s e i) × (u ≡ items_after s e i)
  permitted_is x t u a = one_permitted x (survey_of s e i) t (elements_after_survey s e i) u (items_after s e i) a (permits s e i)

pub no_choice : NoChoice
no_choice s e i x x' t t' u u' a b = one_permitted s e i x x' t t' u u' a b

-- what a survey that is done leaves is what the code's definitions say
pub record Left (s t u : List ℕ) : Type 0 where
  pub element_words : ℕ
  pub item_words : ℕ
  pub summary : Summary
  pub done : survey_of s element_words item_words ≡ Ok summary
  pub elements_are : t ≡ elements_after_survey s element_words item_words
  pub items_are : u ≡ items_after s element_words item_words

pub left_so : (s t u : List ℕ) → LeavesTables s t u → Left s t u
left_so s t u (e, i, y, p) =
    let q = permitted_is s e i (Ok y) t u p in
    record { element_words = e; item_words = i; summary = y; done = sym q.0; elements_are = q.1; items_are = q.2 }

-- and such a survey is done for every text and every two tables that 01 does not refuse
pub leaves_so : (s : List ℕ) (e i : ℕ) (y : Summary) → survey_of s e i ≡ Ok y → LeavesTables s (elements_after_survey s e i) (items_after s e i)
leaves_so s e i y h = (e, i, y, subst (λ (x : Result Summary SurveyRefusal). Permitted s e i x (elements_after_survey s e i) (items_after s e i)) h (permits s e i))
