-- What the machine's answers mean when it starts at a constant or a subtype: by the same theory and the same tests as a file's. No rule
-- that these reach compares names. Assumes nothing.
use Prim.Native.Nat.{ℕ, zero, suc, ◌+◌, ◌-◌, ◌≤◌, ◌<◌}
use mathlib.Core.Path.{◌≡◌, refl, sym, ◌∙◌, ap, subst}
use mathlib.Core.Logic.{inl, inr, ⊎_elim}
use mathlib.Core.List.{List, [], ◌∷◌, ◌++◌}
use mathlib.Core.Bool.{Bool, true, false, not, ◌&&◌, cond}
use native.Mathlib.Omega.{arith}
use lib.Dec.{T, eqb, ltb}
use lib.ListN.{length, length-append}
use borrow.Author.Tests.{le-leb}
use Rattle.grammars.specs.code.Grammar.{Sym, tok, nt, act, look}
use Rattle.grammars.proofs.Running.{run}
use Rattle.grammars.specs.code.Actions.{Step, go, stop, Reads, done, eat, acts, grow, End, read, bad, spent, choose_end, go_on, runs}
use Rattle.grammars.proofs.Theory as theory
use Rattle.grammars.proofs.Theory.{mem, and_left, and_right}
use Rattle.grammars.proofs.Check.{below_at, imp, imp_at}
use Rattle.grammars.proofs.Budget as budget
use Rattle.grammars.proofs.Acting as acting
use Rattle.grammars.proofs.Spare.{Fewer, credit, debit, fewer_grow, fewer_done}
use Rattle.forms.specs.code.RuleNames.{constant, subtype, subtype_range, range, direction, name, name_rest, attribute, expression, logic, and_chain, or_chain, xor_chain, xnor_chain, relation, compared, relational, simple, first_term, sign, added, adding, term, multiplied, multiplying, factor, raised, primary, literal, mark, name_count, name_number, name_numbers, first_row}
use Rattle.forms.specs.code.Rules.{forms, body}
use Rattle.forms.specs.code.Picks.{predict}
use Rattle.forms.specs.code.RuleActions.{Frame, State, Refusal, name_differs, too_deep, fresh, top, on_top, joined, marked, named, rowed, frame_is_named, does, start}
use Rattle.forms.specs.code.Reading.{steps, reading_from}
use Rattle.forms.specs.code.ItemReading.{IsItem, ItemReading, ReadsItems, KindsAlone, OneItem, FewerRows}
use Rattle.forms.proofs.Positive.{picked}
use Rattle.forms.proofs.Tests.{tables, forms_ll, weight, leads, steps_paid, is_row, spare, rows_spare}

-- from a name that costs less than an element pays for, and after which the text may end
module _ (m : ℕ) (light : weight m < 128) (known : m < name_count) (last : T (mem 0 (theory.Tables.follow tables m))) where
  begun : theory.Fol forms predict tables forms_ll (nt m ∷ [])
  begun = ((λ t h. at_end t h), known, tt)
    where
      at_end : (t : ℕ) → theory.Mays forms predict tables forms_ll [] t → T (mem t (theory.Tables.follow tables m))
      at_end t (inl h) = absurd h
      at_end t (inr h) = subst (λ (x : ℕ). T (mem x (theory.Tables.follow tables m))) (sym h.1) last

  answers : (alike : ℕ → ℕ → Bool) (w : List ℕ) → reading_from (nt m) alike w ≡ spent → ⊥
  unfolding reading_from
  answers alike w e =
      budget.stops body predict weight leads steps_paid (steps (length w)) (nt m ∷ []) w 0 (omega arith)
      (subst (λ (x : End State Refusal). acting.Agree forms predict (does alike) x (run body predict (steps (length w)) (nt m ∷ []) w 0)) e
      (acting.agree forms predict (does alike) (steps (length w)) (nt m ∷ []) w 0 start))

  there : (alike : ℕ → ℕ → Bool) (w : List ℕ) (s : State) → reading_from (nt m) alike w ≡ read s → ItemReading (nt m) alike w s
  unfolding reading_from
  there alike w s = acting.is_read forms predict (does alike) tables forms_ll (steps (length w)) (nt m ∷ []) w 0 start s

  back : (alike : ℕ → ℕ → Bool) (w : List ℕ) (s : State) → ItemReading (nt m) alike w s → reading_from (nt m) alike w ≡ read s
  unfolding reading_from
  back alike w s r = ⊎_elim (λ e. e) (λ e. absurd (answers alike w e)) (acting.found forms predict (does alike) tables forms_ll (steps (length w)) r begun)

-- what holds of both
by_item : (P : Sym → Type 0) → P constant → P subtype → (from : Sym) → IsItem from → P from
by_item P a b from (inl e) = subst P (sym e) a
by_item P a b from (inr e) = subst P (sym e) b

reads_one : (from : Sym) → IsItem from → (alike : ℕ → ℕ → Bool) (w : List ℕ) (s : State) → reading_from from alike w ≡ read s → ItemReading from alike w s
reads_one =
    by_item (λ from. (alike : ℕ → ℕ → Bool) (w : List ℕ) (s : State) → reading_from from alike w ≡ read s → ItemReading from alike w s)
    (there (name_number constant) (omega arith) (omega arith) tt) (there (name_number subtype) (omega arith) (omega arith) tt)

reads_all : (from : Sym) → IsItem from → (alike : ℕ → ℕ → Bool) (w : List ℕ) (s : State) → ItemReading from alike w s → reading_from from alike w ≡ read s
reads_all =
    by_item (λ from. (alike : ℕ → ℕ → Bool) (w : List ℕ) (s : State) → ItemReading from alike w s → reading_from from alike w ≡ read s)
    (back (name_number constant) (omega arith) (omega arith) tt) (back (name_number subtype) (omega arith) (omega arith) tt)

pub reads_items : ReadsItems
reads_items from i alike w s = (reads_one from i alike w s, reads_all from i alike w s)

-- the names that the two reach: none of their rules compares names
abbrev pub reached : List ℕ
reached =
    name_numbers
    (constant ∷ subtype ∷ subtype_range ∷ range ∷ direction ∷ name ∷ name_rest ∷ attribute ∷ expression ∷ logic ∷ and_chain ∷ or_chain ∷ xor_chain ∷ xnor_chain ∷ relation ∷
    compared ∷ relational ∷ simple ∷ first_term ∷ sign ∷ added ∷ adding ∷ term ∷ multiplied ∷ multiplying ∷ factor ∷ raised ∷ primary ∷ literal ∷ mark ∷ [])

abbrev quiet : List Sym → Bool
quiet [] = true
quiet (tok a ∷ α) = quiet α
quiet (act a ∷ α) = not (eqb a 4) && quiet α
quiet (nt n ∷ α) = mem n reached && quiet α

quiet_append : (β α : List Sym) → T (quiet β) → T (quiet α) → T (quiet (β ++ α))
quiet_append [] α b a = a
quiet_append (tok x ∷ β) α b a = quiet_append β α b a
quiet_append (act x ∷ β) α b a = both (not (eqb x 4)) (quiet β) (quiet (β ++ α)) b (λ c. quiet_append β α c a)
  where
    both : (p q r : Bool) → T (p && q) → (T q → T r) → T (p && r)
    both true q r h f = f h
    both false q r h f = h
quiet_append (nt n ∷ β) α b a = both (mem n reached) (quiet β) (quiet (β ++ α)) b (λ c. quiet_append β α c a)
  where
    both : (p q r : Bool) → T (p && q) → (T q → T r) → T (p && r)
    both true q r h f = f h
    both false q r h f = h

rule_quiet : (p : ℕ) → p < forms.count → T (mem (forms.lhs p) reached) → T (quiet (body p))
rule_quiet p l h = imp_at (mem (forms.lhs p) reached) (quiet (body p)) (below_at forms.count (λ p. imp (mem (forms.lhs p) reached) (quiet (body p))) tt p l) h

does_quiet : (a b : ℕ → ℕ → Bool) (x k : ℕ) (s : State) → T (not (eqb x 4)) → does a x k s ≡ does b x k s
unfolding does
does_quiet a b zero k s h = refl
does_quiet a b (suc zero) k s h = refl
does_quiet a b (suc (suc zero)) k s h = refl
does_quiet a b (suc (suc (suc zero))) k s h = refl
does_quiet a b (suc (suc (suc (suc zero)))) k s h = absurd h
does_quiet a b (suc (suc (suc (suc (suc zero))))) k s h = refl
does_quiet a b (suc (suc (suc (suc (suc (suc zero)))))) k s h = refl
does_quiet a b (suc (suc (suc (suc (suc (suc (suc f))))))) k s h = refl

module _ (a b : ℕ → ℕ → Bool) where
  same_runs : (f : ℕ) (α : List Sym) (w : List ℕ) (k : ℕ) (s : State) → T (quiet α) → runs body predict (does a) f α w k s ≡ runs body predict (does b) f α w k s
  unfolding runs
  same_runs zero α w k s q = refl
  same_runs (suc f) [] [] k s q = refl
  same_runs (suc f) [] (t ∷ w) k s q = refl
  same_runs (suc f) (tok x ∷ α) [] k s q = refl
  same_runs (suc f) (tok x ∷ α) (t ∷ w) k s q = ap (λ (e : End State Refusal). cond (eqb x t) e (bad k)) (same_runs f α w (suc k) s q)
  same_runs (suc f) (act x ∷ α) w k s q =
      ap (λ (z : Step State Refusal). go_on z k (λ t. runs body predict (does a) f α w k t)) (does_quiet a b x k s (and_left (not (eqb x 4)) (quiet α) q))
      ∙ on (does b x k s) (λ t. same_runs f α w k t (and_right (not (eqb x 4)) (quiet α) q))
    where
      on : (z : Step State Refusal) → ((t : State) → runs body predict (does a) f α w k t ≡ runs body predict (does b) f α w k t)
          → go_on z k (λ t. runs body predict (does a) f α w k t) ≡ go_on z k (λ t. runs body predict (does b) f α w k t)
      on (go t) h = h t
      on (stop r) h = refl
  same_runs (suc f) (nt n ∷ α) w k s q =
      by (predict n (look w)) refl (λ p e. same_runs f (body p ++ α) w k s (quiet_append (body p) α (here p e) (and_right (mem n reached) (quiet α) q)))
    where
      here : (p : ℕ) → predict n (look w) ≡ suc p → T (quiet (body p))
      here p e =
          let h = forms_ll.table n (look w) p e in
          rule_quiet p h.0 (subst (λ (x : ℕ). T (mem x reached)) (sym h.1) (and_left (mem n reached) (quiet α) q))

      by : (c : ℕ) → predict n (look w) ≡ c → ((p : ℕ) → predict n (look w) ≡ suc p → runs body predict (does a) f (body p ++ α) w k s ≡ runs body predict (does b) f (body p ++ α) w k s)
          → choose_end c k (λ p. runs body predict (does a) f (body p ++ α) w k s) ≡ choose_end c k (λ p. runs body predict (does b) f (body p ++ α) w k s)
      by zero e h = refl
      by (suc p) e h = h p e

pub kinds_alone : KindsAlone
unfolding reading_from
kinds_alone =
    by_item (λ from. (alike other : ℕ → ℕ → Bool) (w : List ℕ) → reading_from from alike w ≡ reading_from from other w)
    (λ a b w. same_runs a b (steps (length w)) (constant ∷ []) w 0 start tt) (λ a b w. same_runs a b (steps (length w)) (subtype ∷ []) w 0 start tt)

pub one_item : OneItem
one_item from i alike other w s t p q =
    let e = reads_all from i alike w s p in
    let f = reads_all from i other w t q in
    let g = kinds_alone from i alike other w in
    cc

-- the rows of all frames
abbrev rows_in : List Frame → ℕ
rows_in [] = 0
rows_in (f ∷ fs) = length f.rows + rows_in fs

rows_joined : (fs : List Frame) → rows_in (joined fs) ≡ rows_in fs
rows_joined [] = refl
rows_joined (f ∷ []) = refl
rows_joined (f ∷ g ∷ fs) = omega (arith, length-append g.rows f.rows)

rows_marked : (k : ℕ) (fs : List Frame) → rows_in (on_top (marked k) fs) ≡ rows_in fs
rows_marked k [] = refl
rows_marked k (f ∷ fs) = refl

rows_named : (k : ℕ) (fs : List Frame) → rows_in (on_top (named k) fs) ≡ rows_in fs
rows_named k [] = refl
rows_named k (f ∷ fs) = refl

rows_rowed : (n k : ℕ) (fs : List Frame) → rows_in (on_top (rowed n k) fs) ≤ rows_in fs + 1
rows_rowed n k [] = omega arith
rows_rowed n k (f ∷ fs) = omega arith

few_act : (alike : ℕ → ℕ → Bool) (a k : ℕ) (s t : State) (α : List Sym) → does alike a k s ≡ go t → Fewer is_row spare (rows_in s.frames) k (act a ∷ α) → Fewer is_row spare (rows_in t.frames) k α
unfolding does
few_act alike zero k s t α e h =
    let z : ◌≡◌ {A = State} (record { frames = fresh k ∷ s.frames; depth = s.depth }) t = cc in
    omega (arith, ap (λ (x : State). rows_in x.frames) z)
few_act alike (suc zero) k s t α e h =
    let z : ◌≡◌ {A = State} (record { frames = joined s.frames; depth = s.depth }) t = cc in
    omega (arith, ap (λ (x : State). rows_in x.frames) z, rows_joined s.frames)
few_act alike (suc (suc zero)) k s t α e h =
    let z : ◌≡◌ {A = State} (record { frames = on_top (marked (k - 1)) s.frames; depth = s.depth }) t = cc in
    omega (arith, ap (λ (x : State). rows_in x.frames) z, rows_marked (k - 1) s.frames)
few_act alike (suc (suc (suc zero))) k s t α e h =
    let z : ◌≡◌ {A = State} (record { frames = on_top (named k) s.frames; depth = s.depth }) t = cc in
    omega (arith, ap (λ (x : State). rows_in x.frames) z, rows_named k s.frames)
few_act alike (suc (suc (suc (suc zero)))) k s t α e h =
    let z : s ≡ t = picked (frame_is_named alike (top s.frames).name (k - 1)) s name_differs t e in
    omega (arith, ap (λ (x : State). rows_in x.frames) z)
few_act alike (suc (suc (suc (suc (suc zero))))) k s t α e h =
    let z = picked (ltb s.depth 32) (record { frames = s.frames; depth = s.depth + 1 }) too_deep t e in
    omega (arith, ap (λ (x : State). rows_in x.frames) z)
few_act alike (suc (suc (suc (suc (suc (suc zero)))))) k s t α e h =
    let z : ◌≡◌ {A = State} (record { frames = s.frames; depth = s.depth - 1 }) t = cc in
    omega (arith, ap (λ (x : State). rows_in x.frames) z)
few_act alike (suc (suc (suc (suc (suc (suc (suc f))))))) k s t α e h =
    let z : ◌≡◌ {A = State} (record { frames = on_top (rowed f k) s.frames; depth = s.depth }) t = cc in
    let b : is_row (suc (suc (suc (suc (suc (suc (suc f))))))) ≡ true = le-leb first_row (suc (suc (suc (suc (suc (suc (suc f))))))) (omega arith) in
    omega (arith, ap (λ (x : State). rows_in x.frames) z, rows_rowed f k s.frames, fewer_done is_row spare (rows_in s.frames) k (suc (suc (suc (suc (suc (suc (suc f))))))) α b h)

few_reads : (alike : ℕ → ℕ → Bool) {α : List Sym} {k : ℕ} {s t : State} {w : List ℕ} → Reads State Refusal forms (does alike) α k s w t
    → Fewer is_row spare (rows_in s.frames) k α → Fewer is_row spare (rows_in t.frames) (k + length w) []
few_reads alike done h = omega arith
few_reads alike (eat r) h = omega (arith, few_reads alike r (omega arith))
few_reads alike (acts {a = a} {k = k} {α = α} {s = s} {t = t} e r) h = few_reads alike r (few_act alike a k s t α e h)
few_reads alike (grow {n = n} {k = k} {α = α} {s = s} p l e r) h =
    few_reads alike r
    (fewer_grow is_row spare (rows_in s.frames) k n (body p) α
    (subst (λ (x : ℕ). debit is_row spare (body p) + 1 ≤ credit (body p) + spare x) e (rows_spare p l)) h)

few_top : (fs : List Frame) → length (top fs).rows ≤ rows_in fs
few_top [] = omega arith
few_top (f ∷ fs) = omega arith

pub fewer_rows : FewerRows
fewer_rows from (inl i) alike w s r =
    omega (arith, few_top s.frames, few_reads alike (subst (λ (x : Sym). ItemReading x alike w s) i r) (omega arith))
fewer_rows from (inr i) alike w s r =
    omega (arith, few_top s.frames, few_reads alike (subst (λ (x : Sym). ItemReading x alike w s) i r) (omega arith))
