-- The promises of specs/Promises.antt, proved. Assumes nothing.
use Rattle.std.specs.Prelude.{Ok, Err}
use mathlib.Core.Path.{◌≡◌, refl, sym, ap, ap₂, subst, ◌∙◌}
use mathlib.Core.Logic.{◌↔◌}
use mathlib.Core.Bool.{Bool, true, false, cond}
use mathlib.Core.List.{List, [], ◌++◌}
use Prim.Native.Nat.{ℕ, ◌+◌, ◌-◌, ◌*◌, ◌<◌, min}
use native.Mathlib.Omega.{arith}
use borrow.Author.Tests.{ltb-true, ltb-false}
use lib.Dec.{eqb, ltb}
use lib.ListN.{length, replicate, length-replicate}
use lib.Seq.{sets}
use Rattle.laws.proofs.Laws.{clash}
use Rattle.refusals.specs.Refusals.{survey_number, survey_place}
use Rattle.refusals.specs.declared.Refusal.TheVariants as E
use Rattle.refusals.specs.declared.SurveyRefusal.{SurveyRefusal}
use Rattle.refusals.specs.declared.SurveyRefusal.TheVariants.{Elements, TooMany, ItemsShort}
use Rattle.element_reading.specs.Given as goal
use Rattle.pieces.specs.Records.{record_words}
use Rattle.meaning.specs.Pieces.{pieces_of}
use Rattle.meaning.specs.Names.{Done}
use Rattle.meaning.specs.Records.{records_from}
use Rattle.meaning.specs.Together.{IsWhole}
use Rattle.meaning.proofs.Comes.{come_exactly}
use Rattle.survey_reading.specs.Given as survey
use Rattle.survey_reading.specs.Permitted as permitted
use Rattle.survey_reading.specs.code.Survey.{survey_of, elements_after_survey, items_after}
use Rattle.std.specs.Prelude.{Result, Ok, Err}
use Rattle.survey_reading.specs.declared.Summary.{Summary}
use Rattle.survey_reading.proofs.Promises.{surveyed_exactly, refused_exactly}
use Rattle.survey_reading.proofs.Permits.{permits}
use Rattle.storing.specs.SurveyItems.{survey_bytes}
use Rattle.storing.specs.Given.{Surveyed, Given, of_survey, not_whole, output_short}
use Rattle.storing.specs.Permitted.{Kept, Permitted}
use Rattle.storing.specs.Promises.{Answered, NoChoice, RefusalsExact, LengthsSuffice, ItemsFew, NumbersSized}
use Rattle.storing.specs.code.Tables.{put_table, size_table}
use Rattle.storing.specs.Refusals.{Storing}
use Rattle.storing.specs.declared.StoringRefusal.TheVariants as refusal
use Rattle.storing.proofs.Sizes.{from_pieces}
use Rattle.storing.proofs.Whole.{few_items, dones_size, lengths_here, way_refused, way_not_whole, way_short, way_stored}

pub lengths_suffice : LengthsSuffice
lengths_suffice s e i ds d w = lengths_here s 0 0 ds d.come d.taken.0 w.0

pub items_few : ItemsFew
items_few s e i ds d = omega (arith, few_items ds, dones_size s ds d.come, d.few)

pub numbers_sized : NumbersSized
numbers_sized s e i ds d = from_pieces (pieces_of s) (pieces_of s) ds ((come_exactly (pieces_of s) [] (pieces_of s) ds).0 d.come)

module _ (s : List ℕ) (e i o : ℕ) where
  -- what each of the two new refusals says
  record Unwhole (k : ℕ) : Type 0 where
    dones : List Done
    done : Surveyed s e i dones
    unwhole : IsWhole (pieces_of s) dones → ⊥
    place : k ≡ 0

  record Short (k : ℕ) : Type 0 where
    dones : List Done
    done : Surveyed s e i dones
    whole : IsWhole (pieces_of s) dones
    short : o < length (survey_bytes s dones)
    place : k ≡ o

  abbrev At : ℕ → ℕ → Type 0
  At n k = cond (eqb n 21) (Unwhole k) (cond (eqb n 22) (Short k) (survey.Given s e i n k))

  numbered : {n k : ℕ} → Given s e i o n k → At n k
  numbered (of_survey (survey.of_elements (goal.too_long h))) = survey.of_elements (goal.too_long h)
  numbered (of_survey (survey.of_elements (goal.too_many a h))) = survey.of_elements (goal.too_many a h)
  numbered (of_survey (survey.of_elements (goal.short a b h))) = survey.of_elements (goal.short a b h)
  numbered (of_survey (survey.too_many t h)) = survey.too_many t h
  numbered (of_survey (survey.items_short t a h)) = survey.items_short t a h
  numbered (not_whole {dones = ds} d n) = record { dones = ds; done = d; unwhole = n; place = refl }
  numbered (output_short {dones = ds} d w l) = record { dones = ds; done = d; whole = w; short = l; place = refl }

  own : (r : SurveyRefusal) → Given s e i o (survey_number r) (survey_place r) → survey.Given s e i (survey_number r) (survey_place r)
  own (Elements (E.TextTooLong p)) g = numbered g
  own (Elements (E.TooManyElements n)) g = numbered g
  own (Elements (E.TableShort n)) g = numbered g
  own TooMany g = numbered g
  own (ItemsShort k) g = numbered g

  unwhole_at : {k : ℕ} → Given s e i o 21 k → Unwhole k
  unwhole_at g = numbered g

  short_at : {k : ℕ} → Given s e i o 22 k → Short k
  short_at g = numbered g

  refused_not : (r : SurveyRefusal) (ds : List Done) → Given s e i o (survey_number r) (survey_place r) → Surveyed s e i ds → ⊥
  refused_not r ds g d =
      let a = (refused_exactly s e i r).1 (own r g) in
      let b = (surveyed_exactly s e i).1 (d.taken, d.few, d.room) in
      let q = b.1 in
      let z : ◌≡◌ {A = ℕ} 0 1 = cc in clash z

  same_dones : (ds es : List Done) → Surveyed s e i ds → Surveyed s e i es → ds ≡ es
  same_dones ds es a b = (come_exactly (pieces_of s) [] (pieces_of s) ds).0 a.come ∙ sym ((come_exactly (pieces_of s) [] (pieces_of s) es).0 b.come)

  both_whole : (ds es : List Done) → Surveyed s e i ds → Surveyed s e i es → IsWhole (pieces_of s) es → IsWhole (pieces_of s) ds
  both_whole ds es a b w = subst (IsWhole (pieces_of s)) (sym (same_dones ds es a b)) w

  same_refusal : (r r' : SurveyRefusal) → ◌≡◌ {A = Result Summary SurveyRefusal} (Err r) (Err r') → r ≡ r'
  same_refusal r r' q = cc

  abbrev Same : (a a' : Storing) (t t' u u' v v' : List ℕ) → Type 0
  Same a a' t t' u u' v v' = (a ≡ a') × (t ≡ t') × (u ≡ u') × (v ≡ v')

  kept_short : {n k : ℕ} {t u v : List ℕ} → Kept s e i o n t u v → Short k → ⊥
  kept_short a b =
      let d = same_dones a.dones b.dones a.surveyed b.done in
      let m = ap (λ (ds : List Done). length (survey_bytes s ds)) d in
      let x = a.size in
      let y = a.fits in
      let w = b.short in
      omega arith

  same : (a a' : Storing) (t t' u u' v v' : List ℕ) → Permitted s e i o a t u v → Permitted s e i o a' t' u' v' → Same a a' t t' u u' v v'
  same (Err (refusal.Survey r)) (Err (refusal.Survey r')) t t' u u' v v' p q = (
    ap (λ (x : SurveyRefusal). Err (refusal.Survey x)) (same_refusal r r' (sym ((refused_exactly s e i r).1 (own r p.0)) ∙ (refused_exactly s e i r').1 (own r' q.0))),
    p.1 ∙ sym q.1,
    p.2 ∙ sym q.2,
    p.3 ∙ sym q.3,
  )
  same (Err (refusal.Survey r)) (Err refusal.NotWhole) t t' u u' v v' p q = let k = unwhole_at q.0 in absurd (refused_not r k.dones p.0 k.done)
  same (Err (refusal.Survey r)) (Err (refusal.OutputShort n)) t t' u u' v v' p q = let k = short_at q.0 in absurd (refused_not r k.dones p.0 k.done)
  same (Err (refusal.Survey r)) (Ok n) t t' u u' v v' p q = absurd (refused_not r q.dones p.0 q.surveyed)
  same (Err refusal.NotWhole) (Err (refusal.Survey r)) t t' u u' v v' p q = let k = unwhole_at p.0 in absurd (refused_not r k.dones q.0 k.done)
  same (Err refusal.NotWhole) (Err refusal.NotWhole) t t' u u' v v' p q = (refl, p.1 ∙ sym q.1, p.2 ∙ sym q.2, p.3 ∙ sym q.3)
  same (Err refusal.NotWhole) (Err (refusal.OutputShort n)) t t' u u' v v' p q =
      let k = unwhole_at p.0 in let l = short_at q.0 in absurd (k.unwhole (both_whole k.dones l.dones k.done l.done l.whole))
  same (Err refusal.NotWhole) (Ok n) t t' u u' v v' p q =
      let k = unwhole_at p.0 in absurd (k.unwhole (both_whole k.dones q.dones k.done q.surveyed q.whole))
  same (Err (refusal.OutputShort n)) (Err (refusal.Survey r)) t t' u u' v v' p q = let k = short_at p.0 in absurd (refused_not r k.dones q.0 k.done)
  same (Err (refusal.OutputShort n)) (Err refusal.NotWhole) t t' u u' v v' p q =
      let k = unwhole_at q.0 in let l = short_at p.0 in absurd (k.unwhole (both_whole k.dones l.dones k.done l.done l.whole))
  same (Err (refusal.OutputShort n)) (Err (refusal.OutputShort m)) t t' u u' v v' p q =
      (ap (λ (x : ℕ). Err (refusal.OutputShort x)) ((short_at p.0).place ∙ sym (short_at q.0).place), p.1 ∙ sym q.1, p.2 ∙ sym q.2, p.3 ∙ sym q.3)
  same (Err (refusal.OutputShort n)) (Ok m) t t' u u' v v' p q = absurd (kept_short q (short_at p.0))
  same (Ok n) (Err (refusal.Survey r)) t t' u u' v v' p q = absurd (refused_not r p.dones q.0 p.surveyed)
  same (Ok n) (Err refusal.NotWhole) t t' u u' v v' p q =
      let k = unwhole_at q.0 in absurd (k.unwhole (both_whole k.dones p.dones k.done p.surveyed p.whole))
  same (Ok n) (Err (refusal.OutputShort m)) t t' u u' v v' p q = absurd (kept_short p (short_at q.0))
  same (Ok n) (Ok m) t t' u u' v v' p q =
      let d = same_dones p.dones q.dones p.surveyed q.surveyed in
      let k : n ≡ m = p.size ∙ ap (λ (ds : List Done). length (survey_bytes s ds)) d ∙ sym q.size in (
        ap Ok k,
        p.elements_are ∙ sym q.elements_are,
        p.items_are ∙ ap (λ (ds : List Done). records_from 0 ds ++ replicate (i - record_words * length (pieces_of s)) 0) d ∙ sym q.items_are,
        p.out_is ∙ ap₂ (λ (ds : List Done) (j : ℕ). survey_bytes s ds ++ replicate (o - j) 0) d k ∙ sym q.out_is,
      )

pub no_choice : NoChoice
no_choice s e i o a a' t t' u u' v v' p q = same s e i o a a' t t' u u' v v' p q

-- ---- a refusal, exactly

module _ (s : List ℕ) (e i o : ℕ) (a : Storing) (t u v : List ℕ) (p : Permitted s e i o a t u v) where
  taken_as : (b : Storing) → a ≡ b → Permitted s e i o b t u v
  taken_as b q = subst (λ (c : Storing). Permitted s e i o c t u v) q p

  is : (b : Storing) → Permitted s e i o b (replicate e 0) (replicate i 0) (replicate o 0) → a ≡ b
  is b q = (same s e i o a b t (replicate e 0) u (replicate i 0) v (replicate o 0) p q).0

  own_exactly : (r : SurveyRefusal) → (a ≡ Err (refusal.Survey r)) ↔ survey.Given s e i (survey_number r) (survey_place r)
  own_exactly r = ((λ q. own s e i o r (taken_as (Err (refusal.Survey r)) q).0), λ g. is (Err (refusal.Survey r)) (of_survey g, refl, refl, refl))

  whole_exactly : (a ≡ Err refusal.NotWhole) ↔ Given s e i o 21 0
  whole_exactly = ((λ q. (taken_as (Err refusal.NotWhole) q).0), λ g. is (Err refusal.NotWhole) (g, refl, refl, refl))

  short_exactly : (a ≡ Err (refusal.OutputShort o)) ↔ Given s e i o 22 o
  short_exactly = ((λ q. (taken_as (Err (refusal.OutputShort o)) q).0), λ g. is (Err (refusal.OutputShort o)) (g, refl, refl, refl))

pub refusals_exact : RefusalsExact
refusals_exact s e i o a t u v p = (own_exactly s e i o a t u v p, whole_exactly s e i o a t u v p, short_exactly s e i o a t u v p)

-- ---- an answer to every text

module _ (s : List ℕ) (e i o : ℕ) (x : Result Summary SurveyRefusal) (t u : List ℕ) (p : permitted.Permitted s e i x t u) where
  abbrev Some : Type 0
  Some = (a : Storing) × (t : List ℕ) × (u : List ℕ) × (v : List ℕ) × Permitted s e i o a t u v

  wholly : (y : Summary) → x ≡ Ok y → y.whole ≡ true → Some
  wholly y h w = go (ltb o (size_table s t u y.pieces)) refl
    where
      go : (b : Bool) → ltb o (size_table s t u y.pieces) ≡ b → Some
      go true q =
          let l = ltb-true o (size_table s t u y.pieces) q in
          let n : length {A = ℕ} (replicate o 0) ≡ o = length-replicate o 0 in
          (Err (refusal.OutputShort (length {A = ℕ} (replicate o 0))), replicate (length t) 0, replicate (length u) 0, replicate o 0, way_short s e i o x t u p y h (size_table s t u y.pieces) (replicate (length t) 0) (replicate (length u) 0) (replicate o 0) w refl (omega arith) refl refl refl)
      go false q =
          let l = ltb-false o (size_table s t u y.pieces) q in
          let n : length {A = ℕ} (replicate o 0) ≡ o = length-replicate o 0 in
          (Ok (size_table s t u y.pieces), t, u, sets (replicate o 0) 0 (put_table s t u y.pieces), way_stored s e i o x t u p y h (size_table s t u y.pieces) (min (0 + length (put_table s t u y.pieces)) (length {A = ℕ} (replicate o 0))) (replicate o 0) (sets (replicate o 0) 0 (put_table s t u y.pieces)) w refl (omega arith) refl (record { bytes = refl; reach = refl }))

  by_survey : (a : Result Summary SurveyRefusal) → x ≡ a → Some
  by_survey (Err r) h = (Err (refusal.Survey r), t, u, replicate o 0, way_refused s e i o x t u p r (Err (refusal.Survey r)) (replicate o 0) h refl refl)
  by_survey (Ok y) h = go y.whole refl
    where
      go : (b : Bool) → y.whole ≡ b → Some
      go true w = wholly y h w
      go false w =
          ((Err refusal.NotWhole), replicate (length t) 0, replicate (length u) 0, replicate o 0, way_not_whole s e i o x t u p y h (replicate (length t) 0) (replicate (length u) 0) (replicate o 0) w refl refl refl)

pub answered : Answered
answered s e i o = by_survey s e i o (survey_of s e i) (elements_after_survey s e i) (items_after s e i) (permits s e i) (survey_of s e i) refl
