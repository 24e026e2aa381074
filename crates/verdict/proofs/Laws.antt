-- What the loop cites: the verdict on the rows left, with what was passed, is the whole verdict. Assumes nothing.
use Prim.Native.Nat.{ℕ, zero, suc, ◌+◌, ◌*◌, ◌/◌, ◌≤◌, ◌<◌, min}
use mathlib.Core.Path.{◌≡◌, refl, sym, ◌∙◌, ap}
use mathlib.Core.Bool.{Bool, true, false, cond}
use mathlib.Core.List.{List, ◌∷◌}
use native.Mathlib.Omega.{arith}
use native.Mathlib.Numerals.{add-one}
use lib.ListN.{length, get_or, drop, drop_of_length-le}
use lib.Seq.{drop-cons, get_or-drop}
use Rattle.verdict.specs.declared.Verdict.TheVariants.{Passes, NotSupported}
use Rattle.verdict.specs.code.Judging.{unsupported, verdict_from, forms_in, verdict_of}

pub forms_size : (n : ℕ) (l : List ℕ) → length (forms_in n l) ≡ n
unfolding forms_in
forms_size zero l = refl
forms_size (suc n) l = ap suc (forms_size n (drop 5 l))

pub forms_get : (n : ℕ) (l : List ℕ) (i : ℕ) → i < n → get_or (forms_in n l) i 0 ≡ get_or l (5 * i) 0
unfolding forms_in
forms_get zero l i h = absurd (omega arith)
forms_get (suc n) l zero h = refl
forms_get (suc n) l (suc i) h =
    let z : 5 + 5 * i ≡ 5 * suc i = omega arith in
    forms_get n (drop 5 l) i (omega arith) ∙ get_or-drop 5 l (5 * i) 0 ∙ ap (λ (j : ℕ). get_or l j 0) z

abbrev rows_in : List ℕ → ℕ → ℕ
rows_in l n = min n (length l / 5)

-- what is left after i rows
abbrev pub Whole : List ℕ → ℕ → ℕ → ℕ → Type 0
Whole l n before i = verdict_from before i (drop i (forms_in (rows_in l n) l)) ≡ verdict_of l n

pub all_left : (l : List ℕ) (n : ℕ) → Whole l n 0 0
unfolding verdict_of
all_left l n = refl

module _ (l : List ℕ) (n before i : ℕ) (inv : Whole l n before i) where
  here : i < rows_in l n → verdict_of l n ≡ cond (unsupported before (get_or l (5 * i) 0)) (NotSupported i) (verdict_from (get_or l (5 * i) 0) (suc i) (drop (suc i) (forms_in (rows_in l n) l)))
  unfolding verdict_from
  here k =
      sym inv
      ∙ ap (verdict_from before i) (drop-cons (forms_in (rows_in l n) l) i 0 (omega (arith, forms_size (rows_in l n) l)) ∙ ap (λ (x : ℕ). x ∷ drop (suc i) (forms_in (rows_in l n) l)) (forms_get (rows_in l n) l i k))

  pub all_passed : rows_in l n ≤ i → Passes ≡ verdict_of l n
  unfolding verdict_from
  all_passed h = sym (sym inv ∙ ap (verdict_from before i) (drop_of_length-le (forms_in (rows_in l n) l) {i = i} (omega (arith, forms_size (rows_in l n) l))))

  pub first_fails : (r : Bool) → i < rows_in l n → r ≡ unsupported before (get_or l (5 * i) 0) → r ≡ true → NotSupported i ≡ verdict_of l n
  first_fails r h e t =
      sym (here h ∙ ap (λ (b : Bool). cond b (NotSupported i) (verdict_from (get_or l (5 * i) 0) (suc i) (drop (suc i) (forms_in (rows_in l n) l)))) (sym e ∙ t))

  pub goes_on_lem : (r : Bool) → i < rows_in l n → r ≡ unsupported before (get_or l (5 * i) 0) → r ≡ false → Whole l n (get_or l (5 * i) 0) (i + 1)
  goes_on_lem r h e t =
      ap (λ (j : ℕ). verdict_from (get_or l (5 * i) 0) j (drop j (forms_in (rows_in l n) l))) (add-one i)
      ∙ sym (here h ∙ ap (λ (b : Bool). cond b (NotSupported i) (verdict_from (get_or l (5 * i) 0) (suc i) (drop (suc i) (forms_in (rows_in l n) l)))) (sym e ∙ t))
