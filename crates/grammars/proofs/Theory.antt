-- For any grammar whose tables pass the tests of `LL`, the machine `run` reads exactly what the grammar generates, and refuses at
-- the first element that no sentence with the same beginning has. Assumes nothing.
use Prim.Native.Nat.{ℕ, zero, suc, ◌+◌, ◌≤◌, ◌<◌}
use mathlib.Core.Path.{◌≡◌, refl, sym, ◌∙◌, subst}
use mathlib.Core.Logic.{◌⊎◌, inl, inr, ⊎_elim}
use mathlib.Core.List.{List, [], ◌∷◌, ◌++◌, append_assoc}
use mathlib.Core.Bool.{Bool, true, false, ◌||◌, ◌&&◌, cond}
use native.Mathlib.Omega.{arith}
use lib.Dec.{T, eqb, eqb→eq}
use lib.ListN.{length, take}
use borrow.Author.Tests.{eq-eqb, eqb-true, eqb-false}
use Rattle.grammars.specs.code.Grammar.{Sym, tok, nt, act, Grammar, Gen, done, eat, skip, grow, look}
use Rattle.grammars.proofs.Running.{Out, good, bad, spent, choose, run}

pub or_cases : (a b : Bool) → T (a || b) → T a ⊎ T b
or_cases true b h = inl tt
or_cases false b h = inr h

pub or_left : (a b : Bool) → T a → T (a || b)
or_left true b h = tt
or_left false b h = absurd h

or_right : (a b : Bool) → T b → T (a || b)
or_right true b h = tt
or_right false b h = h

pub and_left : (a b : Bool) → T (a && b) → T a
and_left true b h = tt
and_left false b h = absurd h

pub and_right : (a b : Bool) → T (a && b) → T b
and_right true b h = h
and_right false b h = absurd h

pub and_both : (a b : Bool) → T a → T b → T (a && b)
and_both true b h k = k
and_both false b h k = absurd h

abbrev pub mem : ℕ → List ℕ → Bool
mem t [] = false
mem t (x ∷ l) = eqb t x || mem t l

-- one alone
pub one_of : (t q : ℕ) → T (mem t (q ∷ [])) → t ≡ q
one_of t q h = ⊎_elim (eqb→eq t q) (λ z. absurd z) (or_cases (eqb t q) false h)

pub is_one_lem : (q : ℕ) → T (mem q (q ∷ []))
is_one_lem q = or_left (eqb q q) false (subst T (sym (eq-eqb q q refl)) tt)

pub mem_append : (t : ℕ) (a b : List ℕ) → T (mem t (a ++ b)) → T (mem t a) ⊎ T (mem t b)
mem_append t [] b h = inr h
mem_append t (x ∷ a) b h =
    ⊎_elim (λ e. inl (or_left (eqb t x) (mem t a) e))
    (λ m. ⊎_elim (λ l. inl (or_right (eqb t x) (mem t a) l)) inr (mem_append t a b m))
    (or_cases (eqb t x) (mem t (a ++ b)) h)

pub mem_left : (t : ℕ) (a b : List ℕ) → T (mem t a) → T (mem t (a ++ b))
mem_left t [] b h = absurd h
mem_left t (x ∷ a) b h =
    ⊎_elim (or_left (eqb t x) (mem t (a ++ b))) (λ m. or_right (eqb t x) (mem t (a ++ b)) (mem_left t a b m)) (or_cases (eqb t x) (mem t a) h)

pub mem_right : (t : ℕ) (a b : List ℕ) → T (mem t b) → T (mem t (a ++ b))
mem_right t [] b h = h
mem_right t (x ∷ a) b h = or_right (eqb t x) (mem t (a ++ b)) (mem_right t a b h)

abbrev pub keep : Bool → List ℕ → List ℕ
keep true l = l
keep false l = []

pub mem_keep : (b : Bool) (t : ℕ) (l : List ℕ) → T (mem t (keep b l)) → T b × T (mem t l)
mem_keep true t l h = (tt, h)
mem_keep false t l h = absurd h

pub keep_mem : (b : Bool) (t : ℕ) (l : List ℕ) → T b → T (mem t l) → T (mem t (keep b l))
keep_mem true t l h m = m
keep_mem false t l h m = absurd h

-- by the kinds that each name may begin with, and whether it may be empty: the kinds that a row of symbols may begin with; whether it may be empty
abbrev pub inits : (ℕ → List ℕ) → (ℕ → Bool) → List Sym → List ℕ
inits first null [] = []
inits first null (tok a ∷ α) = a ∷ []
inits first null (act a ∷ α) = inits first null α
inits first null (nt n ∷ α) = first n ++ keep (null n) (inits first null α)

abbrev pub nullb : (ℕ → Bool) → List Sym → Bool
nullb null [] = true
nullb null (tok a ∷ α) = false
nullb null (act a ∷ α) = nullb null α
nullb null (nt n ∷ α) = null n && nullb null α

-- inside a rule of n: what may follow each name of β is among its followers
abbrev pub Inside : (ℕ → List ℕ) → (ℕ → Bool) → (ℕ → List ℕ) → ℕ → ℕ → List Sym → Type 0
Inside first null follow nts n [] = Unit {0}
Inside first null follow nts n (tok a ∷ β) = Inside first null follow nts n β
Inside first null follow nts n (act a ∷ β) = Inside first null follow nts n β
Inside first null follow nts n (nt m ∷ β) =
    ((t : ℕ) → T (mem t (inits first null β)) → T (mem t (follow m)))
    × (T (nullb null β) → (t : ℕ) → T (mem t (follow n)) → T (mem t (follow m)))
    × (m < nts)
    × Inside first null follow nts n β

pub record Tables : Type 0 where
  pub first : ℕ → List ℕ
  pub null : ℕ → Bool
  pub follow : ℕ → List ℕ
  pub nts : ℕ
  pub word : ℕ → List ℕ

pub record LL (G : Grammar) (predict : ℕ → ℕ → ℕ) (S : Tables) : Type 0 where
  pub owners : (p : ℕ) → p < G.count → G.lhs p < S.nts
  pub table : (n t p : ℕ) → predict n t ≡ suc p → (p < G.count) × (G.lhs p ≡ n)
  pub firsts : (p : ℕ) → p < G.count → (t : ℕ) → T (mem t (inits S.first S.null (G.body p))) → T (mem t (S.first (G.lhs p)))
  pub nulls : (p : ℕ) → p < G.count → T (nullb S.null (G.body p)) → T (S.null (G.lhs p))
  pub by_first : (p : ℕ) → p < G.count → (t : ℕ) → T (mem t (inits S.first S.null (G.body p))) → predict (G.lhs p) t ≡ suc p
  pub by_null : (p : ℕ) → p < G.count → T (nullb S.null (G.body p)) → (t : ℕ) → T (mem t (S.follow (G.lhs p))) → predict (G.lhs p) t ≡ suc p
  pub inside : (p : ℕ) → p < G.count → Inside S.first S.null S.follow S.nts (G.lhs p) (G.body p)
  pub words : (n : ℕ) → n < S.nts → Gen G (nt n ∷ []) (S.word n)

good≢bad : {A : Type 0} (k : ℕ) → bad k ≡ good → A
good≢bad k e = let z : ◌≡◌ {A = ℕ} 0 1 = cc in absurd (omega arith)

module _ (G : Grammar) (predict : ℕ → ℕ → ℕ) where
  -- soundness needs the table alone
  module _ (table : (n t p : ℕ) → predict n t ≡ suc p → (p < G.count) × (G.lhs p ≡ n)) where
    sound_tok : (a t : ℕ) (α : List Sym) (w : List ℕ) (k : ℕ) (o : Out) → (o ≡ good → Gen G α w) → (b : Bool) → eqb a t ≡ b → cond b o (bad k) ≡ good → Gen G (tok a ∷ α) (t ∷ w)
    sound_tok a t α w k o ih true q e = subst (λ (x : ℕ). Gen G (tok a ∷ α) (x ∷ w)) (eqb-true a t q) (eat (ih e))
    sound_tok a t α w k o ih false q e = good≢bad k e

    sound_nt : (n : ℕ) (α : List Sym) (w : List ℕ) (k : ℕ) (f : ℕ → Out) → ((p : ℕ) → f p ≡ good → Gen G (G.body p ++ α) w)
        → (c : ℕ) → predict n (look w) ≡ c → choose c k f ≡ good → Gen G (nt n ∷ α) w
    sound_nt n α w k f ih zero q e = good≢bad k e
    sound_nt n α w k f ih (suc p) q e = let h = table n (look w) p q in grow p h.0 h.1 (ih p e)

    pub sound : (f : ℕ) (α : List Sym) (w : List ℕ) (k : ℕ) → run G.body predict f α w k ≡ good → Gen G α w
    unfolding run
    sound zero α w k e = let z : ◌≡◌ {A = ℕ} 0 1 = cc in absurd (omega arith)
    sound (suc f) [] [] k e = done
    sound (suc f) [] (t ∷ w) k e = good≢bad k e
    sound (suc f) (tok a ∷ α) [] k e = good≢bad k e
    sound (suc f) (tok a ∷ α) (t ∷ w) k e = sound_tok a t α w k (run G.body predict f α w (suc k)) (sound f α w (suc k)) (eqb a t) refl e
    sound (suc f) (act a ∷ α) w k e = skip (sound f α w k e)
    sound (suc f) (nt n ∷ α) w k e =
        sound_nt n α w k (λ p. run G.body predict f (G.body p ++ α) w k) (λ p. sound f (G.body p ++ α) w k) (predict n (look w)) refl e

-- the word of a row of symbols, put together
gen_append : (G : Grammar) {α β : List Sym} {u v : List ℕ} → Gen G α u → Gen G β v → Gen G (α ++ β) (u ++ v)
gen_append G done h = h
gen_append G (eat g) h = eat (gen_append G g h)
gen_append G (skip g) h = skip (gen_append G g h)
gen_append G {β = β} {v = v} (grow {α = α} {w = w} p l e g) h =
    grow p l e (subst (λ (x : List Sym). Gen G x (w ++ v)) (append_assoc (G.body p) α β) (gen_append G g h))

module _ (first : ℕ → List ℕ) (null : ℕ → Bool) where
  -- the next kind, 0 at the end, that a word of α may have
  abbrev pub May : List Sym → ℕ → Type 0
  May α t = T (mem t (inits first null α)) ⊎ (T (nullb null α) × (t ≡ 0))

  inits_append : (t : ℕ) (β α : List Sym) → T (mem t (inits first null (β ++ α))) → T (mem t (inits first null β)) ⊎ (T (nullb null β) × T (mem t (inits first null α)))
  inits_append t [] α h = inr (tt, h)
  inits_append t (tok a ∷ β) α h = inl h
  inits_append t (act a ∷ β) α h = inits_append t β α h
  inits_append t (nt n ∷ β) α h =
      ⊎_elim (λ m. inl (mem_left t (first n) (keep (null n) (inits first null β)) m))
      (λ m.
      let k = mem_keep (null n) t (inits first null (β ++ α)) m in
      ⊎_elim (λ i. inl (mem_right t (first n) (keep (null n) (inits first null β)) (keep_mem (null n) t (inits first null β) k.0 i)))
      (λ r. inr (and_both (null n) (nullb null β) k.0 r.0, r.1))
      (inits_append t β α k.1))
      (mem_append t (first n) (keep (null n) (inits first null (β ++ α))) h)

  nullb_append : (β α : List Sym) → T (nullb null (β ++ α)) → T (nullb null β) × T (nullb null α)
  nullb_append [] α h = (tt, h)
  nullb_append (tok a ∷ β) α h = absurd h
  nullb_append (act a ∷ β) α h = nullb_append β α h
  nullb_append (nt n ∷ β) α h =
      let r = nullb_append β α (and_right (null n) (nullb null (β ++ α)) h) in
      (and_both (null n) (nullb null β) (and_left (null n) (nullb null (β ++ α)) h) r.0, r.1)

  may_append : (t : ℕ) (β α : List Sym) → May (β ++ α) t → T (mem t (inits first null β)) ⊎ (T (nullb null β) × May α t)
  may_append t β α (inl h) = ⊎_elim inl (λ r. inr (r.0, inl r.1)) (inits_append t β α h)
  may_append t β α (inr h) = let r = nullb_append β α h.0 in inr (r.0, inr (r.1, h.1))

module _ (G : Grammar) (predict : ℕ → ℕ → ℕ) (S : Tables) (L : LL G predict S) where
  abbrev pub Mays : List Sym → ℕ → Type 0
  Mays = May S.first S.null

  may_grow : (p : ℕ) → p < G.count → (n : ℕ) → G.lhs p ≡ n → (α : List Sym) (t : ℕ) → Mays (G.body p ++ α) t → Mays (nt n ∷ α) t
  may_grow p l n e α t h =
      ⊎_elim (λ m. inl (mem_left t (S.first n) _ (subst (λ (x : ℕ). T (mem t (S.first x))) e (L.firsts p l t m))))
      (λ r.
      let z : T (S.null n) = subst (λ (x : ℕ). T (S.null x)) e (L.nulls p l r.0) in
      ⊎_elim (λ i. inl (mem_right t (S.first n) _ (keep_mem (S.null n) t _ z i)))
      (λ i. inr (and_both (S.null n) _ z i.0, i.1))
      r.1)
      (may_append S.first S.null t (G.body p) α h)

  may_gen : {α : List Sym} {w : List ℕ} → Gen G α w → Mays α (look w)
  may_gen done = inr (tt, refl)
  may_gen (eat {a = a} g) = inl (or_left (eqb a a) false (subst T (sym (eq-eqb a a refl)) tt))
  may_gen (skip g) = may_gen g
  may_gen (grow {n = n} {α = α} {w = w} p l e g) = may_grow p l n e α (look w) (may_gen g)

  -- what the machine keeps true of what is left to read
  abbrev pub Fol : List Sym → Type 0
  Fol [] = Unit {0}
  Fol (tok a ∷ α) = Fol α
  Fol (act a ∷ α) = Fol α
  Fol (nt n ∷ α) = ((t : ℕ) → Mays α t → T (mem t (S.follow n))) × (n < S.nts) × Fol α

  fol_append : (n : ℕ) (β α : List Sym) → Inside S.first S.null S.follow S.nts n β → ((t : ℕ) → Mays α t → T (mem t (S.follow n))) → Fol α → Fol (β ++ α)
  fol_append n [] α i h f = f
  fol_append n (tok a ∷ β) α i h f = fol_append n β α i h f
  fol_append n (act a ∷ β) α i h f = fol_append n β α i h f
  fol_append n (nt m ∷ β) α i h f = (
    (λ t y. ⊎_elim (i.0 t) (λ r. i.1 r.0 t (h t r.1)) (may_append S.first S.null t β α y)),
    i.2,
    fol_append n β α i.3 h f,
  )

  pub fol_grow : (p : ℕ) → p < G.count → (n : ℕ) → G.lhs p ≡ n → (α : List Sym) → Fol (nt n ∷ α) → Fol (G.body p ++ α)
  fol_grow p l n e α f =
      fol_append n (G.body p) α (subst (λ (x : ℕ). Inside S.first S.null S.follow S.nts x (G.body p)) e (L.inside p l)) f.0 f.2

  -- the rule that a derivation takes is the one that the table names
  pub picked : (p : ℕ) → p < G.count → (n : ℕ) → G.lhs p ≡ n → (α : List Sym) (w : List ℕ) → Fol (nt n ∷ α) → Gen G (G.body p ++ α) w → predict n (look w) ≡ suc p
  picked p l n e α w f g =
      subst (λ (x : ℕ). predict x (look w) ≡ suc p) e
      (⊎_elim (L.by_first p l (look w))
      (λ r. L.by_null p l r.0 (look w) (subst (λ (x : ℕ). T (mem (look w) (S.follow x))) (sym e) (f.0 (look w) r.1)))
      (may_append S.first S.null (look w) (G.body p) α (may_gen g)))

  -- a word that the grammar reads is never refused: it is read, or the steps run out
  pub complete : (f : ℕ) {α : List Sym} {w : List ℕ} (k : ℕ) → Gen G α w → Fol α → (run G.body predict f α w k ≡ good) ⊎ (run G.body predict f α w k ≡ spent)
  unfolding run
  complete zero k g φ = inr refl
  complete (suc f) k done φ = inl refl
  complete (suc f) k (eat {a = a} g) φ = rw (eq-eqb a a refl) (complete f (suc k) g φ)
  complete (suc f) k (skip g) φ = complete f k g φ
  complete (suc f) k (grow {n = n} {α = α} {w = w} p l e g) φ = rw (picked p l n e α w φ g) (complete f k g (fol_grow p l n e α φ))

  -- some word can follow whatever is left to read
  alive : (α : List Sym) → Fol α → (v : List ℕ) × Gen G α v
  alive [] φ = ([], done)
  alive (tok a ∷ α) φ = let r = alive α φ in (a ∷ r.0, eat r.1)
  alive (act a ∷ α) φ = let r = alive α φ in (r.0, skip r.1)
  alive (nt n ∷ α) φ = let r = alive α φ.2 in (S.word n ++ r.0, gen_append G (L.words n φ.1) r.1)

  -- A refusal at j, k elements having been read and w being left: j is k + i, what was read and i elements more begin a sentence, and
  -- those with one element more begin none.
  pub record Viable (α : List Sym) (w : List ℕ) (k j : ℕ) : Type 0 where
    pub more : ℕ
    pub place : j ≡ k + more
    pub inside_text : more ≤ length w
    pub rest : List ℕ
    pub begins : Gen G α (take more w ++ rest)
    pub no_more : (v : List ℕ) → more < length w → Gen G α (take (suc more) w ++ v) → ⊥

  -- a refusal here, where no word of α begins with the next element
  here : (α : List Sym) (w : List ℕ) (k j : ℕ) → Fol α → bad k ≡ bad j → ((v : List ℕ) → 0 < length w → Gen G α (take 1 w ++ v) → ⊥) → Viable α w k j
  here α w k j φ e h =
      let a = alive α φ in
      let z : k ≡ j = cc in
      record { more = 0; place = omega arith; inside_text = omega arith; rest = a.0; begins = a.1; no_more = h }

  not_tok : (a t : ℕ) (α : List Sym) {u : List ℕ} → eqb a t ≡ false → Gen G (tok a ∷ α) (t ∷ u) → ⊥
  not_tok a t α q (eat g) = eqb-false a a q refl

  viable_tok : (a t : ℕ) (α : List Sym) (w : List ℕ) (k j : ℕ) (o : Out) → Fol α → (o ≡ bad j → Viable α w (suc k) j)
      → (b : Bool) → eqb a t ≡ b → cond b o (bad k) ≡ bad j → Viable (tok a ∷ α) (t ∷ w) k j
  viable_tok a t α w k j o φ ih true q e =
      let r = ih e in
      let pl = r.place in
      let it = r.inside_text in
      let s : a ≡ t = eqb-true a t q in
      record {
        more = suc r.more;
        place = omega arith;
        inside_text = omega arith;
        rest = r.rest;
        begins = subst (λ (x : ℕ). Gen G (tok a ∷ α) (x ∷ take r.more w ++ r.rest)) s (eat r.begins);
        no_more = λ v l g. r.no_more v (omega arith) (uneat g);
      }
    where
      uneat : {b : ℕ} {u : List ℕ} → Gen G (tok a ∷ α) (b ∷ u) → Gen G α u
      uneat (eat g) = g
  viable_tok a t α w k j o φ ih false q e = here (tok a ∷ α) (t ∷ w) k j φ e (λ v l g. not_tok a t α q g)

  -- no rule at the next element: no word begins with it
  no_rule : (n t : ℕ) (α : List Sym) (u : List ℕ) → Fol (nt n ∷ α) → predict n t ≡ zero → Gen G (nt n ∷ α) (t ∷ u) → ⊥
  no_rule n t α u φ q (grow p l e g) =
      let c = picked p l n e α (t ∷ u) φ g in
      let z : ◌≡◌ {A = ℕ} zero (suc p) = sym q ∙ c in
      omega arith

  -- the table's rule is the derivation's
  same_rule : (n t p : ℕ) (α : List Sym) (u : List ℕ) → Fol (nt n ∷ α) → predict n t ≡ suc p → Gen G (nt n ∷ α) (t ∷ u) → Gen G (G.body p ++ α) (t ∷ u)
  same_rule n t p α u φ q (grow p' l e g) =
      let c = picked p' l n e α (t ∷ u) φ g in
      let z : p' ≡ p = suc_same (sym c ∙ q) in
      subst (λ (x : ℕ). Gen G (G.body x ++ α) (t ∷ u)) z g
    where
      suc_same : {x y : ℕ} → suc x ≡ suc y → x ≡ y
      suc_same h = omega arith

  viable_nt : (n : ℕ) (α : List Sym) (w : List ℕ) (k j : ℕ) (f : ℕ → Out) → Fol (nt n ∷ α) → ((p : ℕ) → Fol (G.body p ++ α) → f p ≡ bad j → Viable (G.body p ++ α) w k j)
      → (c : ℕ) → predict n (look w) ≡ c → choose c k f ≡ bad j → Viable (nt n ∷ α) w k j
  viable_nt n α [] k j f φ ih zero q e = here (nt n ∷ α) [] k j φ e (λ v l g. absurd (omega arith))
  viable_nt n α (t ∷ w) k j f φ ih zero q e = here (nt n ∷ α) (t ∷ w) k j φ e (λ v l g. no_rule n t α v φ q g)
  viable_nt n α [] k j f φ ih (suc p) q e =
      let h = L.table n 0 p q in
      let r = ih p (fol_grow p h.0 n h.1 α φ) e in
      record { more = r.more; place = r.place; inside_text = r.inside_text; rest = r.rest; begins = grow p h.0 h.1 r.begins; no_more = λ v l g. absurd (omega arith) }
  viable_nt n α (t ∷ w) k j f φ ih (suc p) q e =
      let h = L.table n t p q in
      let r = ih p (fol_grow p h.0 n h.1 α φ) e in
      record {
        more = r.more;
        place = r.place;
        inside_text = r.inside_text;
        rest = r.rest;
        begins = grow p h.0 h.1 r.begins;
        no_more = λ v l g. r.no_more v l (same_rule n t p α (take r.more w ++ v) φ q g);
      }

  pub viable : (f : ℕ) (α : List Sym) (w : List ℕ) (k j : ℕ) → Fol α → run G.body predict f α w k ≡ bad j → Viable α w k j
  unfolding run
  viable zero α w k j φ e = let z : ◌≡◌ {A = ℕ} 0 1 = cc in absurd (omega arith)
  viable (suc f) [] [] k j φ e = let z : ◌≡◌ {A = ℕ} 0 1 = cc in absurd (omega arith)
  viable (suc f) [] (t ∷ w) k j φ e = here [] (t ∷ w) k j φ e (λ v l g. none g)
    where
      none : {x : ℕ} {u : List ℕ} → Gen G [] (x ∷ u) → ⊥
      none = λ g. elim g [ ]
  viable (suc f) (tok a ∷ α) [] k j φ e = here (tok a ∷ α) [] k j φ e (λ v l g. absurd (omega arith))
  viable (suc f) (tok a ∷ α) (t ∷ w) k j φ e =
      viable_tok a t α w k j (run G.body predict f α w (suc k)) φ (viable f α w (suc k) j φ) (eqb a t) refl e
  viable (suc f) (act a ∷ α) w k j φ e =
      let r = viable f α w k j φ e in
      record { more = r.more; place = r.place; inside_text = r.inside_text; rest = r.rest; begins = skip r.begins; no_more = λ v l g. r.no_more v l (unskip g) }
    where
      unskip : {u : List ℕ} → Gen G (act a ∷ α) u → Gen G α u
      unskip (skip g) = g
  viable (suc f) (nt n ∷ α) w k j φ e =
      viable_nt n α w k j (λ p. run G.body predict f (G.body p ++ α) w k) φ (λ p. viable f (G.body p ++ α) w k j) (predict n (look w)) refl e
