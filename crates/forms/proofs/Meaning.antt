-- What the machine's answers mean by the forms alone. Each follows from the theory of any LL(1) grammar and the computed tests.
-- Assumes nothing.
use Prim.Native.Nat.{ℕ, suc, ◌≤◌, ◌<◌}
use mathlib.Core.Path.{◌≡◌, refl, sym, ◌∙◌, ap, subst}
use mathlib.Core.Logic.{inl, inr, ⊎_elim}
use mathlib.Core.List.{List, [], ◌∷◌, ◌++◌, append_assoc}
use mathlib.Core.Bool.{Bool}
use native.Mathlib.Omega.{arith}
use lib.Dec.{T, lit<}
use lib.ListN.{length, take, drop, take-append-drop}
use lib.Seq.{take-take}
use Rattle.laws.proofs.Laws.{clash}
use Rattle.grammars.proofs.Running.{Out, good, run}
use Rattle.grammars.proofs.Running as plain
use Rattle.grammars.specs.code.Actions.{End, bad, stopped, spent}
use Rattle.grammars.proofs.Theory as theory
use Rattle.grammars.proofs.Budget as budget
use Rattle.grammars.proofs.Acting as acting
use Rattle.grammars.proofs.Trail.{Trail, trail}
use Rattle.forms.specs.code.RuleNames.{file}
use Rattle.forms.specs.code.Rules.{forms, body}
use Rattle.forms.specs.code.Picks.{predict}
use Rattle.forms.specs.code.RuleActions.{State, Refusal, does, start, IsFile}
use Rattle.forms.specs.code.Reading.{steps, reading_from, file_reading, BeginsFile, ReadsFiles, OneFileReading, FirstWrong, StillBegins, AlwaysAnswers}
use Rattle.forms.proofs.Tests.{tables, forms_ll, weight, leads, steps_paid}

pub begun : theory.Fol forms predict tables forms_ll (file ∷ [])
begun = ((λ t m. go t m), lit< tt, tt)
  where
    go : (t : ℕ) → theory.Mays forms predict tables forms_ll [] t → T (theory.mem t (0 ∷ []))
    go t (inl h) = absurd h
    go t (inr h) = subst (λ (x : ℕ). T (theory.mem x (0 ∷ []))) (sym h.1) tt

-- the machine without actions
abbrev alone : List ℕ → Out
alone w = run body predict (steps (length w)) (file ∷ []) w 0

agrees : (alike : ℕ → ℕ → Bool) (w : List ℕ) (o : End State Refusal) → file_reading alike w ≡ o → acting.Agree forms predict (does alike) o (alone w)
unfolding reading_from
agrees alike w o e =
    subst (λ (x : End State Refusal). acting.Agree forms predict (does alike) x (alone w)) e
    (acting.agree forms predict (does alike) (steps (length w)) (file ∷ []) w 0 start)

never : (w : List ℕ) → alone w ≡ plain.Out.spent → ⊥
never w = budget.stops body predict weight leads steps_paid (steps (length w)) (file ∷ []) w 0 (omega arith)

pub always_answers : AlwaysAnswers
always_answers alike w e = never w (agrees alike w spent e)

-- what the machine did on its way to its answer
pub trailed : (alike : ℕ → ℕ → Bool) (w : List ℕ) → Trail State Refusal forms (does alike) (file ∷ []) 0 start w (file_reading alike w)
unfolding reading_from
trailed alike w = trail forms predict (does alike) forms_ll.table (steps (length w)) (file ∷ []) w 0 start (always_answers alike w)

pub one_reading : OneFileReading
one_reading alike w s t p q = acting.one forms predict (does alike) tables forms_ll begun p q

pub reads_files : ReadsFiles
unfolding reading_from
reads_files alike w s = (
  acting.is_read forms predict (does alike) tables forms_ll (steps (length w)) (file ∷ []) w 0 start s,
  λ r. ⊎_elim (λ e. e) (λ e. absurd (always_answers alike w e)) (acting.found forms predict (does alike) tables forms_ll (steps (length w)) r begun),
)

wrong_at : (w : List ℕ) (j : ℕ) → alone w ≡ plain.Out.bad j → (j ≤ length w) × BeginsFile w j × (j < length w → BeginsFile w (suc j) → ⊥) × (j ≡ length w → IsFile w → ⊥)
wrong_at w j e =
    let r = theory.viable forms predict tables forms_ll (steps (length w)) (file ∷ []) w 0 j begun e in
    let z : r.more ≡ j = omega (arith, r.place) in (
      subst (λ (x : ℕ). x ≤ length w) z r.inside_text,
      subst (λ (x : ℕ). BeginsFile w x) z (r.rest, r.begins),
      (λ l b. r.no_more b.0 (omega arith) (subst (λ (x : ℕ). IsFile (take (suc x) w ++ b.0)) (sym z) b.1)),
      λ l g. ⊎_elim (λ q. let y : ◌≡◌ {A = ℕ} 0 1 = cc in clash y) (never w) (theory.complete forms predict tables forms_ll (steps (length w)) 0 g begun),
    )

pub first_wrong : FirstWrong
first_wrong alike w j e = wrong_at w j (agrees alike w (bad j) e)

-- what begins a file begins it with less
pub shorter : (w : List ℕ) (i j : ℕ) → j ≤ i → BeginsFile w i → BeginsFile w j
shorter w i j l b = (
  drop j (take i w) ++ b.0,
  subst IsFile
      (ap (λ (x : List ℕ). x ++ b.0) (sym (take-append-drop j (take i w)) ∙ ap (λ (x : List ℕ). x ++ drop j (take i w)) (take-take j i w l))
      ∙ append_assoc (take j w) (drop j (take i w)) b.0)
      b.1,
)

pub still_begins : StillBegins
still_begins alike w j r e = go (alone w) refl
  where
    go : (o : Out) → alone w ≡ o → BeginsFile w j
    go plain.Out.good q = (drop j w, subst IsFile (sym (take-append-drop j w)) (theory.sound forms predict forms_ll.table (steps (length w)) (file ∷ []) w 0 q))
    go (plain.Out.bad i) q = shorter w i j (agrees alike w (stopped j r) e i q) (wrong_at w i q).1
    go plain.Out.spent q = absurd (never w q)

-- where refusal 5 comes there is no file
pub no_file : (alike : ℕ → ℕ → Bool) (w : List ℕ) (j : ℕ) → file_reading alike w ≡ bad j → IsFile w → ⊥
no_file alike w j e g =
    ⊎_elim (λ q. let y : ◌≡◌ {A = ℕ} 0 1 = cc (agrees alike w (bad j) e) in clash y) (never w) (theory.complete forms predict tables forms_ll (steps (length w)) 0 g begun)
