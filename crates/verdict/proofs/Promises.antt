-- The verdict's promises. What the code asks of each row, by its form and that of the row before, is what 01 asks of it; the first row that
-- fails is one. Assumes nothing.
use Prim.Native.Nat.{ℕ, zero, suc, ◌+◌, ◌/◌, ◌<◌, min}
use mathlib.Core.Path.{◌≡◌, refl, sym, ◌∙◌, ap, subst}
use mathlib.Core.Logic.{◌⊎◌, inl, inr, ⊎_elim}
use mathlib.Core.Bool.{Bool, true, false, ◌&&◌, ◌||◌, cond}
use mathlib.Core.List.{List, [], ◌∷◌}
use native.Mathlib.Nat.{lt_of_not-le}
use native.Mathlib.Omega.{arith}
use lib.Dec.{T, eqb, eqb→eq}
use lib.ListN.{length, get_or, drop}
use Rattle.laws.proofs.Laws.{clash}
use Rattle.forms.specs.Tree.{Row}
use Rattle.forms.specs.RowWords.{row_numbers, tree_rows_in}
use Rattle.form_numbers.specs.Statements as form_number
use Rattle.forms.specs.Labels.{EachLeads, LabelsLead}
use Rattle.verdict.specs.declared.Verdict.{Verdict}
use Rattle.verdict.specs.declared.Verdict.TheVariants.{Passes, NotSupported}
use Rattle.verdict.specs.Verdict.{IsRow, FormFails, while_loops, bare_loops, guards, block_is_words, LabelFails, on_next, on_exit, on_null, Unsupported, form, labelled, Judged, passes, names}
use Rattle.verdict.specs.code.Judging.{unsupported, verdict_from, forms_in, verdict_of}
use Rattle.verdict.specs.code.Promises.{rows_had, JudgedExactly, OneVerdict}

-- what the code asks of a row is what 01 asks
fails_by : (b n : ℕ) → T (unsupported b n) → FormFails n ⊎ ((n ≡ form_number.label) × LabelFails b)
fails_by b n h =
    go (eqb n form_number.while_loop) (eqb n form_number.bare_loop) (eqb n form_number.guard) (eqb n form_number.block_is) (eqb n form_number.label) (eqb b form_number.next_statement) (eqb b form_number.exit_statement) (eqb b form_number.null_statement)
    (eqb→eq n form_number.while_loop) (eqb→eq n form_number.bare_loop) (eqb→eq n form_number.guard) (eqb→eq n form_number.block_is) (eqb→eq n form_number.label) (eqb→eq b form_number.next_statement) (eqb→eq b form_number.exit_statement) (eqb→eq b form_number.null_statement) h
  where
    go : (p q r s l x y z : Bool) → (T p → n ≡ form_number.while_loop) → (T q → n ≡ form_number.bare_loop) → (T r → n ≡ form_number.guard) → (T s → n ≡ form_number.block_is) → (T l → n ≡ form_number.label)
        → (T x → b ≡ form_number.next_statement) → (T y → b ≡ form_number.exit_statement) → (T z → b ≡ form_number.null_statement) → T (p || q || r || s || l && (x || y || z)) → FormFails n ⊎ ((n ≡ form_number.label) × LabelFails b)
    go true q r s l x y z P Q R S L X Y Z h = inl (subst FormFails (sym (P tt)) while_loops)
    go false true r s l x y z P Q R S L X Y Z h = inl (subst FormFails (sym (Q tt)) bare_loops)
    go false false true s l x y z P Q R S L X Y Z h = inl (subst FormFails (sym (R tt)) guards)
    go false false false true l x y z P Q R S L X Y Z h = inl (subst FormFails (sym (S tt)) block_is_words)
    go false false false false false x y z P Q R S L X Y Z h = absurd h
    go false false false false true true y z P Q R S L X Y Z h = inr (L tt, subst LabelFails (sym (X tt)) on_next)
    go false false false false true false true z P Q R S L X Y Z h = inr (L tt, subst LabelFails (sym (Y tt)) on_exit)
    go false false false false true false false true P Q R S L X Y Z h = inr (L tt, subst LabelFails (sym (Z tt)) on_null)
    go false false false false true false false false P Q R S L X Y Z h = absurd h

by_form : (b n : ℕ) → FormFails n → T (unsupported b n)
by_form b n while_loops = tt
by_form b n bare_loops = tt
by_form b n guards = tt
by_form b n block_is_words = tt

by_label : (b n : ℕ) → n ≡ form_number.label → LabelFails b → T (unsupported b n)
by_label b n e f = subst (λ (x : ℕ). T (unsupported b x)) (sym e) (on b f)
  where
    on : (b : ℕ) → LabelFails b → T (unsupported b form_number.label)
    on b on_next = tt
    on b on_exit = tt
    on b on_null = tt

-- row j of these fails, b being the form of the row before them
abbrev FailsFrom : ℕ → List Row → ℕ → Type 0
FailsFrom b [] j = ⊥
FailsFrom b (r ∷ l) zero = T (unsupported b r.form)
FailsFrom b (r ∷ l) (suc j) = FailsFrom r.form l j

module _ (text table : List ℕ) where
  further : (x : Row) (l : List Row) (j : ℕ) → Unsupported text table l j → Unsupported text table (x ∷ l) (suc j)
  further x l j (form r i f) = form r i f
  further x l j (labelled r s i e k a f) = labelled r s i e k a f

  behind : (s : Row) (l : List Row) → EachLeads s l → (j : ℕ) → FailsFrom s.form l j → Unsupported text table (s ∷ l) (suc j)
  behind s [] h j f = absurd f
  behind s (r ∷ l) h zero f = ⊎_elim (λ k. form r refl k) (λ k. labelled r s refl k.0 refl (h.0 k.0) k.1) (fails_by s.form r.form f)
  behind s (r ∷ l) h (suc j) f = further s (r ∷ l) (suc j) (behind r l h.1 j f)

  there : (l : List Row) → LabelsLead l → (j : ℕ) → FailsFrom 0 l j → Unsupported text table l j
  there [] h j f = absurd f
  there (r ∷ l) h zero f = ⊎_elim (λ k. form r refl k) (λ k. absurd (h.0 k.0)) (fails_by 0 r.form f)
  there (r ∷ l) h (suc j) f = behind r l h.1 j f

  form_at : (b : ℕ) (l : List Row) (j : ℕ) (r : Row) → IsRow l j r → FormFails r.form → FailsFrom b l j
  form_at b [] j r i f = absurd i
  form_at b (x ∷ l) zero r i f = subst (λ (y : Row). T (unsupported b y.form)) (sym i) (by_form b r.form f)
  form_at b (x ∷ l) (suc j) r i f = form_at x.form l j r i f

  label_at : (b : ℕ) (l : List Row) (j : ℕ) (r s : Row) → IsRow l (suc j) r → r.form ≡ form_number.label → IsRow l j s → LabelFails s.form → FailsFrom b l (suc j)
  label_at b [] j r s i e k f = absurd i
  label_at b (x ∷ []) zero r s i e k f = absurd i
  label_at b (x ∷ y ∷ l) zero r s i e k f =
      by_label x.form y.form (ap (λ (z : Row). z.form) i ∙ e) (subst (λ (z : Row). LabelFails z.form) (sym k) f)
  label_at b (x ∷ l) (suc j) r s i e k f = label_at x.form l j r s i e k f

  back : (l : List Row) (j : ℕ) → Unsupported text table l j → FailsFrom 0 l j
  back l j (form r i f) = form_at 0 l j r i f
  back l j (labelled {j = k} r s i e m a f) = label_at 0 l k r s i e m f

-- the forms of rows
abbrev forms_of : List Row → List ℕ
forms_of [] = []
forms_of (r ∷ l) = r.form ∷ forms_of l

forms_rows : (n : ℕ) (words : List ℕ) → forms_in n words ≡ forms_of (tree_rows_in n words)
unfolding forms_in tree_rows_in
forms_rows zero words = refl
forms_rows (suc n) words = ap (λ (l : List ℕ). get_or words 0 0 ∷ l) (forms_rows n (drop row_numbers words))

-- what a verdict says of rows of which the first is number i
abbrev Tells : ℕ → ℕ → List Row → Verdict → Type 0
Tells b i l Passes = (j : ℕ) → FailsFrom b l j → ⊥
Tells b i l (NotSupported k) = (m : ℕ) × ((k ≡ i + m) × FailsFrom b l m × ((j : ℕ) → j < m → FailsFrom b l j → ⊥))

tells : (b i : ℕ) (l : List Row) → Tells b i l (verdict_from b i (forms_of l))
unfolding verdict_from
tells b i [] = λ j f. f
tells b i (r ∷ l) = go (unsupported b r.form) refl (tells r.form (suc i) l)
  where
    not_here : (t : Bool) → t ≡ false → T t → ⊥
    not_here true e h = let z : ◌≡◌ {A = ℕ} 0 1 = cc in clash z
    not_here false e h = h

    later : (v : Verdict) → (T (unsupported b r.form) → ⊥) → Tells r.form (suc i) l v → Tells b i (r ∷ l) v
    later Passes d h = none
      where
        none : (j : ℕ) → FailsFrom b (r ∷ l) j → ⊥
        none zero f = d f
        none (suc j) f = h j f
    later (NotSupported k) d h = let e = h.1.0 in (suc h.0, (omega arith, h.1.1, λ j m f. before j m f))
      where
        before : (j : ℕ) → j < suc h.0 → FailsFrom b (r ∷ l) j → ⊥
        before zero m f = d f
        before (suc j) m f = h.1.2 j (omega arith) f

    go : (t : Bool) → unsupported b r.form ≡ t → Tells r.form (suc i) l (verdict_from r.form (suc i) (forms_of l))
        → Tells b i (r ∷ l) (cond t (NotSupported i) (verdict_from r.form (suc i) (forms_of l)))
    go true e h = (0, (omega arith, subst T (sym e) tt, λ j m f. absurd (omega arith)))
    go false e h = later (verdict_from r.form (suc i) (forms_of l)) (not_here (unsupported b r.form) e) h

judged : (text table : List ℕ) (l : List Row) → LabelsLead l → (v : Verdict) → Tells 0 0 l v → Judged text table l v
judged text table l h Passes t = passes (λ j u. t j (back text table l j u))
judged text table l h (NotSupported k) t =
    let z : t.0 ≡ k = (let e = t.1.0 in omega arith) in
    names (subst (Unsupported text table l) z (there text table l h t.0 t.1.1)) (λ j m u. t.1.2 j (omega arith) (back text table l j u))

-- the first place at which something holds is one
pub one_verdict : OneVerdict
one_verdict text table rows Passes Passes p q = refl
one_verdict text table rows Passes (NotSupported k) (passes f) (names u g) = absurd (f k u)
one_verdict text table rows (NotSupported k) Passes (names u g) (passes f) = absurd (f k u)
one_verdict text table rows (NotSupported k) (NotSupported j) (names u f) (names t g) =
    let a : k < suc j = lt_of_not-le (λ l. f j (omega arith) t) in
    let b : j < suc k = lt_of_not-le (λ l. g k (omega arith) u) in
    let z : k ≡ j = omega arith in
    ap NotSupported z

pub judged_exactly : JudgedExactly
unfolding verdict_of
judged_exactly text table words n v h =
    let m : ℕ = min n (length words / row_numbers) in
    let d : Judged text table (rows_had words n) (verdict_of words n) =
    judged text table (rows_had words n) h (verdict_of words n) (subst (λ (l : List ℕ). Tells 0 0 (rows_had words n) (verdict_from 0 0 l)) (sym (forms_rows m words)) (tells 0 0 (rows_had words n))) in
    ((λ e. subst (Judged text table (rows_had words n)) e d), λ j. one_verdict text table (rows_had words n) (verdict_of words n) v d j)
