-- The machine's count of what stands open is that of the elements alone. What may stand before each element follows from two hint tables,
-- and a computed test to a rule says that each element opens and closes by its kind and the one before it. Assumes nothing.
use Prim.Native.Nat.{ℕ, zero, suc, ◌+◌, ◌-◌, ◌≤◌, ◌<◌}
use mathlib.Core.Path.{◌≡◌, refl, sym, ◌∙◌, ap, subst}
use mathlib.Core.Logic.{◌⊎◌, inl, inr, ⊎_elim}
use mathlib.Core.Bool.{Bool, true, false, ◌&&◌, cond}
use mathlib.Core.List.{List, [], ◌∷◌, ◌++◌}
use native.Mathlib.Omega.{arith}
use lib.Dec.{T, eqb, ltb, eqb→eq}
use lib.ListN.{get_or}
use borrow.Author.Tests.{ne_eqb, ltb-true, ltb-false}
use Rattle.laws.proofs.Laws.{clash}
use Rattle.grammars.specs.code.Grammar.{Sym, tok, nt, act}
use Rattle.grammars.specs.code.Actions.{Step, go, stop, End, read, bad, stopped, spent}
use Rattle.grammars.proofs.Theory.{mem, keep, nullb, and_left, and_right, and_both, or_cases, mem_append, mem_left, mem_right, mem_keep, keep_mem, is_one_lem}
use Rattle.grammars.proofs.Check.{below_at, every, every_at}
use Rattle.grammars.proofs.Trail.{Trail, whole, more, other, none, refuses, eats, acts, grows}
use Rattle.forms.specs.code.RuleNames.{file}
use Rattle.forms.specs.code.Rules.{forms, body}
use Rattle.forms.specs.code.RuleActions.{State, Refusal, name_differs, too_deep, fresh, top, on_top, joined, marked, named, rowed, frame_is_named, does}
use Rattle.forms.specs.code.Reading.{file_reading}
use Rattle.forms.specs.Open.{Role, opening, closing, neither, role, after, open_from, open_after}
use Rattle.forms.proofs.Hints as hints
use Rattle.forms.proofs.Tests as tests
use Rattle.forms.proofs.Meaning.{trailed}
use Rattle.forms.proofs.Steps.{same_name_lem, one_deeper}

abbrev last : ℕ → List ℕ
last n = get_or hints.lasts n []

abbrev before : ℕ → List ℕ
before n = get_or hints.befores n []

abbrev null : ℕ → Bool
null n = (tests.tables).null n

abbrev pub same_role : Role → Role → Bool
same_role opening opening = true
same_role opening closing = false
same_role opening neither = false
same_role closing opening = false
same_role closing closing = true
same_role closing neither = false
same_role neither opening = false
same_role neither closing = false
same_role neither neither = true

pub same_role_lem : (a b : Role) → T (same_role a b) → a ≡ b
same_role_lem opening opening h = refl
same_role_lem opening closing h = absurd h
same_role_lem opening neither h = absurd h
same_role_lem closing opening h = absurd h
same_role_lem closing closing h = refl
same_role_lem closing neither h = absurd h
same_role_lem neither opening h = absurd h
same_role_lem neither closing h = absurd h
same_role_lem neither neither h = refl

-- what the next action does to the count
abbrev pub head_role : List Sym → Role
head_role [] = neither
head_role (tok a ∷ α) = neither
head_role (nt n ∷ α) = neither
head_role (act a ∷ α) = cond (eqb a 5) opening (cond (eqb a 6) closing neither)

abbrev pub plain : List Sym → Bool
plain α = same_role (head_role α) neither

pub head_append : (β α : List Sym) → T (plain α) → head_role (β ++ α) ≡ head_role β
head_append [] α h = same_role_lem (head_role α) neither h
head_append (tok a ∷ β) α h = refl
head_append (nt n ∷ β) α h = refl
head_append (act a ∷ β) α h = refl

pub plain_append : (β α : List Sym) → T (plain α) → T (plain β) → T (plain (β ++ α))
plain_append β α h g = subst (λ (x : Role). T (same_role x neither)) (sym (head_append β α h)) g

-- the kinds that may stand after β, if those of S may stand before it
abbrev ends : List ℕ → List Sym → List ℕ
ends S [] = S
ends S (tok a ∷ β) = ends (a ∷ []) β
ends S (act a ∷ β) = ends S β
ends S (nt n ∷ β) = ends (last n ++ keep (null n) S) β

abbrev Sub : List ℕ → List ℕ → Type 0
Sub S S' = (t : ℕ) → T (mem t S) → T (mem t S')

sub_through : (n : ℕ) (S S' : List ℕ) → Sub S S' → Sub (last n ++ keep (null n) S) (last n ++ keep (null n) S')
sub_through n S S' h t m =
    ⊎_elim (λ l. mem_left t (last n) (keep (null n) S') l)
    (λ k. let r = mem_keep (null n) t S k in mem_right t (last n) (keep (null n) S') (keep_mem (null n) t S' r.0 (h t r.1)))
    (mem_append t (last n) (keep (null n) S) m)

ends_mono : (β : List Sym) (S S' : List ℕ) → Sub S S' → Sub (ends S β) (ends S' β)
ends_mono [] S S' h = h
ends_mono (tok a ∷ β) S S' h = λ t m. m
ends_mono (act a ∷ β) S S' h = ends_mono β S S' h
ends_mono (nt n ∷ β) S S' h = ends_mono β (last n ++ keep (null n) S) (last n ++ keep (null n) S') (sub_through n S S' h)

ends_null : (β : List Sym) (S : List ℕ) → T (nullb null β) → Sub S (ends S β)
ends_null [] S h t m = m
ends_null (tok a ∷ β) S h t m = absurd h
ends_null (act a ∷ β) S h t m = ends_null β S h t m
ends_null (nt n ∷ β) S h t m =
    ends_null β (last n ++ keep (null n) S) (and_right (null n) (nullb null β) h) t
    (mem_right t (last n) (keep (null n) S) (keep_mem (null n) t S (and_left (null n) (nullb null β) h) m))

ends_from : (β : List Sym) (S : List ℕ) (t : ℕ) → T (mem t (ends S β)) → T (mem t (ends [] β)) ⊎ (T (nullb null β) × T (mem t S))
ends_from [] S t m = inr (tt, m)
ends_from (tok a ∷ β) S t m = inl m
ends_from (act a ∷ β) S t m = ends_from β S t m
ends_from (nt n ∷ β) S t m =
    ⊎_elim (λ l. inl (ends_mono β [] (last n ++ keep (null n) []) (λ t k. absurd k) t l))
    (λ r.
    ⊎_elim (λ l. inl (ends_null β (last n ++ keep (null n) []) r.0 t (mem_left t (last n) (keep (null n) []) l)))
    (λ k. let q = mem_keep (null n) t S k in inr (and_both (null n) (nullb null β) q.0 r.0, q.1))
    (mem_append t (last n) (keep (null n) S) r.1))
    (ends_from β (last n ++ keep (null n) S) t m)

-- With a kind of S before it: every element of α does by its kind and the one before what the action after it does, and no other action
-- touches the count.
abbrev Fine : List ℕ → List Sym → Type 0
Fine S [] = Unit {0}
Fine S (tok a ∷ α) = ((p : ℕ) → T (mem p S) → role p a ≡ head_role α) × Fine (a ∷ []) α
Fine S (act a ∷ α) = T (plain α) × Fine S α
Fine S (nt n ∷ α) = T (plain α) × Sub S (before n) × Fine (last n ++ keep (null n) S) α

fine_sub : (α : List Sym) (S S' : List ℕ) → Sub S S' → Fine S' α → Fine S α
fine_sub [] S S' h f = tt
fine_sub (tok a ∷ α) S S' h f = ((λ p m. f.0 p (h p m)), f.1)
fine_sub (act a ∷ α) S S' h f = (f.0, fine_sub α S S' h f.1)
fine_sub (nt n ∷ α) S S' h f = (f.0, (λ t m. f.1 t (h t m)), fine_sub α (last n ++ keep (null n) S) (last n ++ keep (null n) S') (sub_through n S S' h) f.2)

-- a rule's test
abbrev fine_ok : List ℕ → List Sym → Bool
fine_ok S [] = true
fine_ok S (tok a ∷ β) = every (λ p. same_role (role p a) (head_role β)) S && fine_ok (a ∷ []) β
fine_ok S (act a ∷ β) = plain β && fine_ok S β
fine_ok S (nt n ∷ β) = plain β && (every (λ p. mem p (before n)) S && fine_ok (last n ++ keep (null n) S) β)

fine_append : (β α : List Sym) (S S' : List ℕ) → Sub S S' → T (fine_ok S' β) → T (plain α) → Fine (ends S β) α → Fine S (β ++ α)
fine_append [] α S S' h t p f = f
fine_append (tok a ∷ β) α S S' h t p f =
    let A = every (λ p. same_role (role p a) (head_role β)) S' in (
      (λ q m. same_role_lem (role q a) (head_role β) (every_at (λ p. same_role (role p a) (head_role β)) S' (and_left A (fine_ok (a ∷ []) β) t) q (h q m)) ∙ sym (head_append β α p)),
      fine_append β α (a ∷ []) (a ∷ []) (λ t m. m) (and_right A (fine_ok (a ∷ []) β) t) p f,
    )
fine_append (act a ∷ β) α S S' h t p f =
    (plain_append β α p (and_left (plain β) (fine_ok S' β) t), fine_append β α S S' h (and_right (plain β) (fine_ok S' β) t) p f)
fine_append (nt n ∷ β) α S S' h t p f =
    let B = every (λ p. mem p (before n)) S' in
    let C = fine_ok (last n ++ keep (null n) S') β in
    let u = and_right (plain β) (B && C) t in (
      plain_append β α p (and_left (plain β) (B && C) t),
      (λ q m. every_at (λ p. mem p (before n)) S' (and_left B C u) q (h q m)),
      fine_append β α (last n ++ keep (null n) S) (last n ++ keep (null n) S') (sub_through n S S' h) (and_right B C u) p f,
    )

rule_fine : (p : ℕ) → p < forms.count → T (fine_ok (before (forms.lhs p)) (body p))
rule_fine p l = below_at forms.count (λ p. fine_ok (before (forms.lhs p)) (body p)) tt p l

rule_plain : (p : ℕ) → p < forms.count → T (plain (body p))
rule_plain p l = below_at forms.count (λ p. plain (body p)) tt p l

rule_lasts : (p : ℕ) → p < forms.count → T (every (λ t. mem t (last (forms.lhs p))) (ends [] (body p)))
rule_lasts p l = below_at forms.count (λ p. every (λ t. mem t (last (forms.lhs p))) (ends [] (body p))) tt p l

-- the kind just read
abbrev one : ℕ → List ℕ
one q = q ∷ []

fine_grow : (p : ℕ) → p < forms.count → (n : ℕ) → forms.lhs p ≡ n → (q : ℕ) (α : List Sym) → Fine (one q) (nt n ∷ α) → Fine (one q) (body p ++ α)
fine_grow p l n e q α f =
    fine_append (body p) α (one q) (before n) f.1 (subst (λ (x : ℕ). T (fine_ok (before x) (body p))) e (rule_fine p l)) f.0
    (fine_sub α (ends (one q) (body p)) (last n ++ keep (null n) (one q))
    (λ t m.
    ⊎_elim (λ k. mem_left t (last n) (keep (null n) (one q)) (subst (λ (x : ℕ). T (mem t (last x))) e (every_at (λ t. mem t (last (forms.lhs p))) (ends [] (body p)) (rule_lasts p l) t k)))
    (λ k. mem_right t (last n) (keep (null n) (one q)) (keep_mem (null n) t (one q) (subst (λ (x : ℕ). T (null x)) e ((tests.forms_ll).nulls p l k.0)) k.1))
    (ends_from (body p) (one q) t m))
    f.2)

-- what an action leaves of the count
module _ (alike : ℕ → ℕ → Bool) (k : ℕ) (s t : State) (α : List Sym) where
  of : (u : State) → u ≡ t → u.depth ≡ t.depth
  of u e = ap (λ (x : State). x.depth) e

  pub counted : (a : ℕ) → does alike a k s ≡ go t → after (head_role (act a ∷ α)) s.depth ≡ t.depth
  unfolding does
  counted zero e = of (record { frames = fresh k ∷ s.frames; depth = s.depth }) (cc)
  counted (suc zero) e = of (record { frames = joined s.frames; depth = s.depth }) (cc)
  counted (suc (suc zero)) e = of (record { frames = on_top (marked (k - 1)) s.frames; depth = s.depth }) (cc)
  counted (suc (suc (suc zero))) e = of (record { frames = on_top (named k) s.frames; depth = s.depth }) (cc)
  counted (suc (suc (suc (suc zero)))) e = ap (λ (x : State). x.depth) (same_name_lem s t (frame_is_named alike (top s.frames).name (k - 1)) e)
  counted (suc (suc (suc (suc (suc zero))))) e = ap (λ (x : State). x.depth) (one_deeper s t (ltb s.depth 32) e)
  counted (suc (suc (suc (suc (suc (suc zero)))))) e = of (record { frames = s.frames; depth = s.depth - 1 }) (cc)
  counted (suc (suc (suc (suc (suc (suc (suc f))))))) e =
      ap (λ (r : Role). after r s.depth) (other (suc (suc (suc (suc (suc (suc (suc f))))))) (λ z. absurd (omega arith)) (λ z. absurd (omega arith)))
      ∙ of (record { frames = on_top (rowed f k) s.frames; depth = s.depth }) (cc)
    where
      other : (a : ℕ) → (a ≡ 5 → ⊥) → (a ≡ 6 → ⊥) → cond (eqb a 5) opening (cond (eqb a 6) closing neither) ≡ neither
      other a d e = rw (ne_eqb a 5 d, ne_eqb a 6 e)

  low_deeper : (c : Bool) → ltb s.depth 32 ≡ c → cond {A = Step State Refusal} c (go (record { frames = s.frames; depth = s.depth + 1 })) (stop too_deep) ≡ go t → t.depth ≤ 32
  low_deeper true q e =
      let z : ◌≡◌ {A = State} (record { frames = s.frames; depth = s.depth + 1 }) t = cc in
      let y : s.depth + 1 ≡ t.depth = ap (λ (x : State). x.depth) z in
      omega (arith, ltb-true s.depth 32 q)
  low_deeper false q e = let z : ◌≡◌ {A = ℕ} 0 1 = cc in clash z

  pub low_kept : (a : ℕ) → does alike a k s ≡ go t → s.depth ≤ 32 → t.depth ≤ 32
  unfolding does
  low_kept zero e l = omega (arith, of (record { frames = fresh k ∷ s.frames; depth = s.depth }) (cc))
  low_kept (suc zero) e l = omega (arith, of (record { frames = joined s.frames; depth = s.depth }) (cc))
  low_kept (suc (suc zero)) e l = omega (arith, of (record { frames = on_top (marked (k - 1)) s.frames; depth = s.depth }) (cc))
  low_kept (suc (suc (suc zero))) e l = omega (arith, of (record { frames = on_top (named k) s.frames; depth = s.depth }) (cc))
  low_kept (suc (suc (suc (suc zero)))) e l = omega (arith, ap (λ (x : State). x.depth) (same_name_lem s t (frame_is_named alike (top s.frames).name (k - 1)) e))
  low_kept (suc (suc (suc (suc (suc zero))))) e l = low_deeper (ltb s.depth 32) refl e
  low_kept (suc (suc (suc (suc (suc (suc zero)))))) e l = omega (arith, of (record { frames = s.frames; depth = s.depth - 1 }) (cc))
  low_kept (suc (suc (suc (suc (suc (suc (suc f))))))) e l = omega (arith, of (record { frames = on_top (rowed f k) s.frames; depth = s.depth }) (cc))

-- an action refuses for depth only at the opening action
named_not_deep : (s : State) (c : Bool) → cond c (go s) (stop name_differs) ≡ stop too_deep → ⊥
named_not_deep s true e = let z : ◌≡◌ {A = ℕ} 0 1 = cc in clash z
named_not_deep s false e = let z : ◌≡◌ {A = ℕ} 0 1 = cc in clash z

full : (s : State) (c : Bool) → ltb s.depth 32 ≡ c → cond {A = Step State Refusal} c (go (record { frames = s.frames; depth = s.depth + 1 })) (stop too_deep) ≡ stop too_deep → 32 ≤ s.depth
full s true q e = let z : ◌≡◌ {A = ℕ} 0 1 = cc in clash z
full s false q e = ltb-false s.depth 32 q

pub deepens : (alike : ℕ → ℕ → Bool) (k : ℕ) (s : State) (a : ℕ) → does alike a k s ≡ stop too_deep → (a ≡ 5) × (32 ≤ s.depth)
unfolding does
deepens alike k s zero e = let z : ◌≡◌ {A = ℕ} 0 1 = cc in clash z
deepens alike k s (suc zero) e = let z : ◌≡◌ {A = ℕ} 0 1 = cc in clash z
deepens alike k s (suc (suc zero)) e = let z : ◌≡◌ {A = ℕ} 0 1 = cc in clash z
deepens alike k s (suc (suc (suc zero))) e = let z : ◌≡◌ {A = ℕ} 0 1 = cc in clash z
deepens alike k s (suc (suc (suc (suc zero)))) e = absurd (named_not_deep s (frame_is_named alike (top s.frames).name (k - 1)) e)
deepens alike k s (suc (suc (suc (suc (suc zero))))) e = (refl, full s (ltb s.depth 32) refl e)
deepens alike k s (suc (suc (suc (suc (suc (suc zero)))))) e = let z : ◌≡◌ {A = ℕ} 0 1 = cc in clash z
deepens alike k s (suc (suc (suc (suc (suc (suc (suc f))))))) e = let z : ◌≡◌ {A = ℕ} 0 1 = cc in clash z

-- an action refuses for a name only at the comparing action
deep_not_named : (s : State) (c : Bool) → cond {A = Step State Refusal} c (go (record { frames = s.frames; depth = s.depth + 1 })) (stop too_deep) ≡ stop name_differs → ⊥
deep_not_named s true e = let z : ◌≡◌ {A = ℕ} 0 1 = cc in clash z
deep_not_named s false e = let z : ◌≡◌ {A = ℕ} 0 1 = cc in clash z

pub compares : (alike : ℕ → ℕ → Bool) (k : ℕ) (s : State) (a : ℕ) → does alike a k s ≡ stop name_differs → a ≡ 4
unfolding does
compares alike k s zero e = let z : ◌≡◌ {A = ℕ} 0 1 = cc in clash z
compares alike k s (suc zero) e = let z : ◌≡◌ {A = ℕ} 0 1 = cc in clash z
compares alike k s (suc (suc zero)) e = let z : ◌≡◌ {A = ℕ} 0 1 = cc in clash z
compares alike k s (suc (suc (suc zero))) e = let z : ◌≡◌ {A = ℕ} 0 1 = cc in clash z
compares alike k s (suc (suc (suc (suc zero)))) e = refl
compares alike k s (suc (suc (suc (suc (suc zero))))) e = absurd (deep_not_named s (ltb s.depth 32) e)
compares alike k s (suc (suc (suc (suc (suc (suc zero)))))) e = let z : ◌≡◌ {A = ℕ} 0 1 = cc in clash z
compares alike k s (suc (suc (suc (suc (suc (suc (suc f))))))) e = let z : ◌≡◌ {A = ℕ} 0 1 = cc in clash z

pub grown_role : (q : ℕ) → q < forms.count → (α : List Sym) → T (plain α) → head_role (body q ++ α) ≡ neither
grown_role q l α h = head_append (body q) α h ∙ same_role_lem (head_role (body q)) neither (rule_plain q l)

-- a reading that ends so found no more than 32 open after its first m elements
abbrev pub Within : End State Refusal → ℕ → Type 0
Within (read s) m = Unit {0}
Within (bad j) m = m ≤ j
Within (stopped j name_differs) m = m ≤ j
Within (stopped j too_deep) m = m < j
Within spent m = ⊥

module _ (alike : ℕ → ℕ → Bool) where
  abbrev Way : List Sym → ℕ → State → List ℕ → End State Refusal → Type 0
  Way = Trail State Refusal forms (does alike)

  -- with d open after an element of kind p, what stands open further on
  low : {α : List Sym} {k : ℕ} {s : State} {w : List ℕ} {o : End State Refusal} (p d : ℕ) → Way α k s w o → Fine (one p) α → after (head_role α) s.depth ≡ d → s.depth ≤ 32
      → (i : ℕ) → Within o (k + i) → open_from p d w i ≤ 32
  unfolding open_from
  low p d whole fi c l zero m = omega arith
  low p d whole fi c l (suc i) m = omega arith
  low p d more fi c l zero m = omega arith
  low p d more fi c l (suc i) m = absurd (omega arith)
  low p d other fi c l zero m = omega arith
  low p d other fi c l (suc i) m = absurd (omega arith)
  low p d none fi c l zero m = omega arith
  low p d none fi c l (suc i) m = absurd (omega arith)
  low p d (refuses {a = a} {k = k} {α = α} {s = s} {r = name_differs} q) fi c l zero m =
      let z : after neither s.depth ≡ d = ap (λ (x : ℕ). after (head_role (act x ∷ α)) s.depth) (sym (compares alike k s a q)) ∙ c in
      omega arith
  low p d (refuses {r = name_differs} q) fi c l (suc i) m = absurd (omega arith)
  low p d (refuses {r = too_deep} q) fi c l i m = absurd (omega arith)
  low p d (eats r) fi c l zero m = omega arith
  low p d (eats {a = a} {k = k} {α = α} {w = w} {s = s} {o = o} r) fi c l (suc i) m =
      let z : k + suc i ≡ suc k + i = omega arith in
      subst (λ (x : ℕ). open_from a x w i ≤ 32) (ap (λ (x : Role). after x s.depth) (sym (fi.0 p (is_one_lem p))) ∙ ap (after (role p a)) c)
      (low a (after (head_role α) s.depth) r fi.1 refl l i (subst (Within o) z m))
  low p d (acts {a = a} {k = k} {α = α} {s = s} {t = t} q r) fi c l i m =
      low p d r fi.1 (ap (λ (x : Role). after x t.depth) (same_role_lem (head_role α) neither fi.0) ∙ sym (counted alike k s t α a q) ∙ c) (low_kept alike k s t α a q l) i m
  low p d (grows {n = n} {α = α} {s = s} q b e r) fi c l i m =
      low p d r (fine_grow q b n e p α fi) (ap (λ (x : Role). after x s.depth) (grown_role q b α fi.0) ∙ c) l i m

  -- a refusal for depth at j
  deep : {α : List Sym} {k : ℕ} {s : State} {w : List ℕ} {o : End State Refusal} (p d j : ℕ) → Way α k s w o → o ≡ stopped j too_deep → Fine (one p) α → after (head_role α) s.depth ≡ d → s.depth ≤ 32
      → (i : ℕ) × ((j ≡ k + i) × (open_from p d w i ≡ 33))
  unfolding open_from
  deep p d j whole u fi c l = let z : ◌≡◌ {A = ℕ} 0 1 = cc in clash z
  deep p d j more u fi c l = let z : ◌≡◌ {A = ℕ} 0 1 = cc in clash z
  deep p d j other u fi c l = let z : ◌≡◌ {A = ℕ} 0 1 = cc in clash z
  deep p d j none u fi c l = let z : ◌≡◌ {A = ℕ} 0 1 = cc in clash z
  deep p d j (refuses {r = name_differs} q) u fi c l = let z : ◌≡◌ {A = ℕ} 0 1 = cc in clash z
  deep p d j (refuses {a = a} {k = k} {α = α} {s = s} {r = too_deep} q) u fi c l =
      let r = deepens alike k s a q in
      let z : k ≡ j = cc in
      let y : after opening s.depth ≡ d = ap (λ (x : ℕ). after (head_role (act x ∷ α)) s.depth) (sym r.0) ∙ c in
      let m = r.1 in
      (0, (omega arith, omega arith))
  deep p d j (eats {a = a} {k = k} {α = α} {w = w} {s = s} r) u fi c l =
      let h = deep a (after (head_role α) s.depth) j r u fi.1 refl l in
      let i = h.0 in
      let z = h.1.0 in (
        suc i,
        (omega arith, ap (λ (x : ℕ). open_from a x w i) (ap (after (role p a)) (sym c) ∙ ap (λ (x : Role). after x s.depth) (fi.0 p (is_one_lem p))) ∙ h.1.1),
      )
  deep p d j (acts {a = a} {k = k} {α = α} {s = s} {t = t} q r) u fi c l =
      deep p d j r u fi.1 (ap (λ (x : Role). after x t.depth) (same_role_lem (head_role α) neither fi.0) ∙ sym (counted alike k s t α a q) ∙ c) (low_kept alike k s t α a q l)
  deep p d j (grows {n = n} {α = α} {s = s} q b e r) u fi c l =
      deep p d j r u (fine_grow q b n e p α fi) (ap (λ (x : Role). after x s.depth) (grown_role q b α fi.0) ∙ c) l

-- before the first element: no kind
begun : Fine (one 0) (file ∷ [])
begun = (tt, (λ t m. ⊎_elim (λ e. subst (λ (x : ℕ). T (mem x (before 0))) (sym (eqb→eq t 0 e)) tt) (λ z. absurd z) (or_cases (eqb t 0) false m)), tt)

-- after every element that the reading got past, no more than 32 stand open
pub within : (alike : ℕ → ℕ → Bool) (w : List ℕ) (o : End State Refusal) → file_reading alike w ≡ o → (i : ℕ) → Within o i → open_after w i ≤ 32
within alike w o e i m =
    let z : i ≡ 0 + i = omega arith in
    low alike 0 0 (trailed alike w) begun refl (omega arith) i (subst (λ (x : End State Refusal). Within x (0 + i)) (sym e) (subst (Within o) z m))

-- refusal 7, when j elements were read: they leave 33 open, and none before them did
pub too_deep_at : (alike : ℕ → ℕ → Bool) (w : List ℕ) (j : ℕ) → file_reading alike w ≡ stopped j too_deep → (open_after w j ≡ 33) × ((i : ℕ) → i < j → open_after w i ≤ 32)
too_deep_at alike w j e =
    let r = deep alike 0 0 j (trailed alike w) e begun refl (omega arith) in
    let l = r.1.0 in
    let z : r.0 ≡ j = omega arith in
    (subst (λ (x : ℕ). open_after w x ≡ 33) z r.1.1, within alike w (stopped j too_deep) e)
