-- The tests of `LL` as one Boolean that antt computes, and `LL` from it. Assumes nothing.
use Prim.Native.Nat.{ℕ, zero, suc, ◌+◌, ◌<◌}
use mathlib.Core.Path.{◌≡◌, refl, sym, ◌∙◌, subst}
use mathlib.Core.Logic.{⊎_elim}
use mathlib.Core.List.{List, [], ◌∷◌}
use mathlib.Core.Bool.{Bool, true, false, ◌&&◌}
use native.Mathlib.Omega.{arith}
use native.Mathlib.Nat.{eq-or-lt_of_le, le_of_suc-le-suc}
use lib.Dec.{T, eqb, ltb, eqb→eq, leb→le}
use lib.ListN.{get_or}
use Rattle.grammars.specs.code.Grammar.{Sym, tok, nt, act, Grammar, predict_by}
use Rattle.grammars.proofs.Running.{Out, good, bad, spent, run}
use Rattle.grammars.proofs.Theory.{or_cases, and_left, and_right, mem, inits, nullb, Inside, Tables, LL, sound}

abbrev pub below : ℕ → (ℕ → Bool) → Bool
below zero f = true
below (suc n) f = f n && below n f

pub below_at : (n : ℕ) (f : ℕ → Bool) → T (below n f) → (k : ℕ) → k < n → T (f k)
below_at zero f h k l = absurd (omega arith)
below_at (suc n) f h k l =
    ⊎_elim (λ e. subst (λ (x : ℕ). T (f x)) (sym e) (and_left (f n) (below n f) h)) (λ m. below_at n f (and_right (f n) (below n f) h) k m)
    (eq-or-lt_of_le (le_of_suc-le-suc l))

abbrev pub every : (ℕ → Bool) → List ℕ → Bool
every f [] = true
every f (x ∷ l) = f x && every f l

pub every_at : (f : ℕ → Bool) (l : List ℕ) → T (every f l) → (t : ℕ) → T (mem t l) → T (f t)
every_at f [] h t m = absurd m
every_at f (x ∷ l) h t m =
    ⊎_elim (λ e. subst (λ (y : ℕ). T (f y)) (sym (eqb→eq t x e)) (and_left (f x) (every f l) h)) (every_at f l (and_right (f x) (every f l) h) t)
    (or_cases (eqb t x) (mem t l) m)

abbrev pub imp : Bool → Bool → Bool
imp true b = b
imp false b = true

pub imp_at : (a b : Bool) → T (imp a b) → T a → T b
imp_at true b h k = h
imp_at false b h k = absurd k

abbrev pub is_good : Out → Bool
is_good good = true
is_good (bad k) = false
is_good spent = false

good_is : (o : Out) → T (is_good o) → o ≡ good
good_is good h = refl
good_is (bad k) h = absurd h
good_is spent h = absurd h

module _ (G : Grammar) (predict : ℕ → ℕ → ℕ) (S : Tables) where
  -- a cell of the table is empty, or has a rule of the line's name
  abbrev pub cell_ok : ℕ → ℕ → Bool
  cell_ok n zero = true
  cell_ok n (suc p) = ltb p G.count && eqb (G.lhs p) n

  abbrev pub cells_ok : ℕ → List (List ℕ) → Bool
  cells_ok n [] = true
  cells_ok n (r ∷ rs) = every (cell_ok n) r && cells_ok (suc n) rs

  cell_fits : (n p c : ℕ) → c ≡ suc p → T (cell_ok n c) → (p < G.count) × (G.lhs p ≡ n)
  cell_fits n p zero e h = absurd (omega arith)
  cell_fits n p (suc q) e h =
      let z : q ≡ p = omega arith in
      subst (λ (x : ℕ). (x < G.count) × (G.lhs x ≡ n)) z (
        leb→le (suc q) G.count (and_left (ltb q G.count) (eqb (G.lhs q) n) h),
        eqb→eq (G.lhs q) n (and_right (ltb q G.count) (eqb (G.lhs q) n) h),
      )

  row_at : (n : ℕ) (r : List ℕ) → T (every (cell_ok n) r) → (t : ℕ) → T (cell_ok n (get_or r t 0))
  row_at n [] h t = tt
  row_at n (x ∷ r) h zero = and_left (cell_ok n x) (every (cell_ok n) r) h
  row_at n (x ∷ r) h (suc t) = row_at n r (and_right (cell_ok n x) (every (cell_ok n) r) h) t

  cells_from : (m : ℕ) (rs : List (List ℕ)) → T (cells_ok m rs) → (n t : ℕ) → T (cell_ok (m + n) (predict_by rs n t))
  cells_from m [] h n t = tt
  cells_from m (r ∷ rs) h zero t =
      let z : m ≡ m + 0 = omega arith in
      subst (λ (x : ℕ). T (cell_ok x (get_or r t 0))) z (row_at m r (and_left (every (cell_ok m) r) (cells_ok (suc m) rs) h) t)
  cells_from m (r ∷ rs) h (suc n) t =
      let z : suc m + n ≡ m + suc n = omega arith in
      subst (λ (x : ℕ). T (cell_ok x (predict_by rs n t))) z (cells_from (suc m) rs (and_right (every (cell_ok m) r) (cells_ok (suc m) rs) h) n t)

  cells_at : (rs : List (List ℕ)) → T (cells_ok 0 rs) → (n t : ℕ) → T (cell_ok n (predict_by rs n t))
  cells_at rs h n t =
      let z : 0 + n ≡ n = omega arith in
      subst (λ (x : ℕ). T (cell_ok x (predict_by rs n t))) z (cells_from 0 rs h n t)

  abbrev pub insideb : ℕ → List Sym → Bool
  insideb n [] = true
  insideb n (tok a ∷ β) = insideb n β
  insideb n (act a ∷ β) = insideb n β
  insideb n (nt m ∷ β) =
      every (λ t. mem t (S.follow m)) (inits S.first S.null β)
      && (imp (nullb S.null β) (every (λ t. mem t (S.follow m)) (S.follow n)) && (ltb m S.nts && insideb n β))

  insideb_is : (n : ℕ) (β : List Sym) → T (insideb n β) → Inside S.first S.null S.follow S.nts n β
  insideb_is n [] h = tt
  insideb_is n (tok a ∷ β) h = insideb_is n β h
  insideb_is n (act a ∷ β) h = insideb_is n β h
  insideb_is n (nt m ∷ β) h =
      let A = every (λ t. mem t (S.follow m)) (inits S.first S.null β) in
      let B = imp (nullb S.null β) (every (λ t. mem t (S.follow m)) (S.follow n)) in
      let C = ltb m S.nts in
      let D = insideb n β in
      let r = and_right A _ h in
      let s = and_right B (C && D) r in (
        every_at (λ t. mem t (S.follow m)) (inits S.first S.null β) (and_left A _ h),
        (λ z t. every_at (λ t. mem t (S.follow m)) (S.follow n) (imp_at (nullb S.null β) _ (and_left B (C && D) r) z) t),
        leb→le (suc m) S.nts (and_left C D s),
        insideb_is n β (and_right C D s),
      )

  abbrev starts : ℕ → List ℕ
  starts p = inits S.first S.null (G.body p)

  -- one test to a rule p, or a name n
  abbrev first_ok : ℕ → Bool
  first_ok p = every (λ t. mem t (S.first (G.lhs p))) (starts p)

  abbrev by_first : ℕ → Bool
  by_first p = every (λ t. eqb (predict (G.lhs p) t) (suc p)) (starts p)

  abbrev null_ok : ℕ → Bool
  null_ok p = imp (nullb S.null (G.body p)) (S.null (G.lhs p))

  abbrev by_null : ℕ → Bool
  by_null p = imp (nullb S.null (G.body p)) (every (λ t. eqb (predict (G.lhs p) t) (suc p)) (S.follow (G.lhs p)))

  abbrev inside_ok : ℕ → Bool
  inside_ok p = insideb (G.lhs p) (G.body p)

  abbrev owner_ok : ℕ → Bool
  owner_ok p = ltb (G.lhs p) S.nts

  abbrev pub word_ok : ℕ → Bool
  word_ok n = is_good (run G.body predict 1000 (nt n ∷ []) (S.word n) 0)

  -- what is to be computed: every cell of the table, every rule, and a word for every name
  abbrev pub Passes : List (List ℕ) → Type 0
  Passes picks =
      T (cells_ok 0 picks)
      × T (below G.count owner_ok)
      × T (below G.count first_ok)
      × T (below G.count by_first)
      × T (below G.count null_ok)
      × T (below G.count by_null)
      × T (below G.count inside_ok)
      × T (below S.nts word_ok)

  pub ll : (picks : List (List ℕ)) → ((n t : ℕ) → predict n t ≡ predict_by picks n t) → Passes picks → LL G predict S
  ll picks e h =
      let table : (n t p : ℕ) → predict n t ≡ suc p → (p < G.count) × (G.lhs p ≡ n) = λ n t p q. cell_fits n p (predict_by picks n t) (sym (e n t) ∙ q) (cells_at picks h.0 n t) in
      record {
        owners = λ p l. leb→le (suc (G.lhs p)) S.nts (below_at G.count owner_ok h.1 p l);
        table = table;
        firsts = λ p l. every_at (λ t. mem t (S.first (G.lhs p))) (starts p) (below_at G.count first_ok h.2 p l);
        nulls = λ p l. imp_at (nullb S.null (G.body p)) (S.null (G.lhs p)) (below_at G.count null_ok h.4 p l);
        by_first = λ p l t m. eqb→eq _ _ (every_at (λ t. eqb (predict (G.lhs p) t) (suc p)) (starts p) (below_at G.count by_first h.3 p l) t m);
        by_null = λ p l z t m. eqb→eq _ _ (every_at (λ t. eqb (predict (G.lhs p) t) (suc p)) (S.follow (G.lhs p)) (imp_at (nullb S.null (G.body p)) _ (below_at G.count by_null h.5 p l) z) t m);
        inside = λ p l. insideb_is (G.lhs p) (G.body p) (below_at G.count inside_ok h.6 p l);
        words = λ n l. sound G predict table 1000 (nt n ∷ []) (S.word n) 0 (good_is (run G.body predict 1000 (nt n ∷ []) (S.word n) 0) (below_at S.nts word_ok h.7 n l));
      }
