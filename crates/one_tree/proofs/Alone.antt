-- A constant or a subtype read alone: of what the rules count as open, these reach parentheses alone, so a reading is a tree by the table in which
-- no more than 32 parentheses ever stand open; and no more than one to or downto. A computed test to a rule says both. Assumes nothing.
use Prim.Native.Nat.{ℕ, zero, suc, ◌+◌, ◌-◌, ◌≤◌, ◌<◌}
use mathlib.Core.Path.{◌≡◌, refl, sym, ◌∙◌, ap, subst}
use mathlib.Core.Bool.{Bool, true, false, not, ◌&&◌, ◌||◌, cond}
use mathlib.Core.List.{List, [], ◌∷◌, ◌++◌}
use native.Mathlib.Omega.{arith}
use lib.Dec.{T, eqb, leb, leb→le}
use lib.ListN.{get_or}
use borrow.Author.Tests.{lt-ltb}
use Rattle.grammars.specs.code.Grammar.{Sym, tok, nt, act, Gen}
use Rattle.grammars.specs.code.Grammar as plainly
use Rattle.grammars.specs.code.Actions.{go, Reads, done, eat, acts, grow}
use Rattle.grammars.proofs.Theory.{mem, and_left, and_right, and_both}
use Rattle.grammars.proofs.Check.{below_at, imp, imp_at}
use Rattle.forms.specs.code.Kinds.{number_of, left_paren, right_paren, word_to, word_downto}
use Rattle.forms.specs.code.RuleNames.{subtype, subtype_range, range, direction, name_numbers}
use Rattle.forms.specs.code.Rules.{forms, body}
use Rattle.forms.specs.Tree.{Row}
use Rattle.forms.specs.code.RuleActions.{State, Refusal, does, start, state_rows}
use Rattle.forms.specs.Open.{Role, opening, closing, neither, after}
use Rattle.forms.proofs.Opening.{same_role, same_role_lem, head_role, plain, head_append, plain_append, grown_role, counted, low_kept}
use Rattle.forms.proofs.ItemReading.{reached}
use Rattle.one_tree.specs.Trees.{IsConstant, IsSubtype, parens_after, Shallow}
use Rattle.one_tree.specs.code.Only.{TreeOf, ReadAlone, ConstantAlone, SubtypeAlone}
use Rattle.one_tree.proofs.Only.{constant_tree, subtype_tree}

-- ---- parentheses

-- what an element does to the count
abbrev does_to : ℕ → Role
does_to t = cond (eqb t (number_of left_paren)) opening (cond (eqb t (number_of right_paren)) closing neither)

counts : (t d : ℕ) → after (does_to t) d ≡ parens_after t d
counts t d = by (eqb t (number_of left_paren)) (eqb t (number_of right_paren))
  where
    by : (a b : Bool) → after (cond a opening (cond b closing neither)) d ≡ cond a (d + 1) (cond b (d - 1) d)
    by true b = refl
    by false true = refl
    by false false = refl

-- Every element does by its kind what the action after it does, no other action touches the count and none compares names; what is named is
-- reached from a constant or a subtype.
abbrev fine : List Sym → Bool
fine [] = true
fine (tok a ∷ α) = same_role (does_to a) (head_role α) && fine α
fine (act a ∷ α) = (plain α && not (eqb a 4)) && fine α
fine (nt n ∷ α) = (plain α && mem n reached) && fine α

fine_append : (β α : List Sym) → T (fine β) → T (plain α) → T (fine α) → T (fine (β ++ α))
fine_append [] α b p a = a
fine_append (tok x ∷ β) α b p a =
    and_both (same_role (does_to x) (head_role (β ++ α))) (fine (β ++ α))
    (subst (λ (r : Role). T (same_role (does_to x) r)) (sym (head_append β α p)) (and_left (same_role (does_to x) (head_role β)) (fine β) b))
    (fine_append β α (and_right (same_role (does_to x) (head_role β)) (fine β) b) p a)
fine_append (act x ∷ β) α b p a =
    let h = and_left (plain β && not (eqb x 4)) (fine β) b in
    and_both (plain (β ++ α) && not (eqb x 4)) (fine (β ++ α))
    (and_both (plain (β ++ α)) (not (eqb x 4)) (plain_append β α p (and_left (plain β) (not (eqb x 4)) h)) (and_right (plain β) (not (eqb x 4)) h))
    (fine_append β α (and_right (plain β && not (eqb x 4)) (fine β) b) p a)
fine_append (nt n ∷ β) α b p a =
    let h = and_left (plain β && mem n reached) (fine β) b in
    and_both (plain (β ++ α) && mem n reached) (fine (β ++ α))
    (and_both (plain (β ++ α)) (mem n reached) (plain_append β α p (and_left (plain β) (mem n reached) h)) (and_right (plain β) (mem n reached) h))
    (fine_append β α (and_right (plain β && mem n reached) (fine β) b) p a)

rule_fine : (p : ℕ) → p < forms.count → T (mem (forms.lhs p) reached) → T (fine (body p))
rule_fine p l h = imp_at (mem (forms.lhs p) reached) (fine (body p)) (below_at forms.count (λ p. imp (mem (forms.lhs p) reached) (fine (body p))) tt p l) h

-- a name is plain before what follows it, and reached
module _ (n : ℕ) (α : List Sym) (h : T (fine (nt n ∷ α))) where
  name_plain : T (plain α)
  name_plain = and_left (plain α) (mem n reached) (and_left (plain α && mem n reached) (fine α) h)

  name_reached : T (mem n reached)
  name_reached = and_right (plain α) (mem n reached) (and_left (plain α && mem n reached) (fine α) h)

  fine_grow : (p : ℕ) → p < forms.count → forms.lhs p ≡ n → T (fine (body p ++ α))
  fine_grow p l e =
      fine_append (body p) α (rule_fine p l (subst (λ (x : ℕ). T (mem x reached)) (sym e) name_reached)) name_plain (and_right (plain α && mem n reached) (fine α) h)

-- d is never more than 32 where these are shallow
low : (d : ℕ) (w : List ℕ) → Shallow d w → d ≤ 32
low d [] h = h
low d (t ∷ w) h = h.0

module _ (alike : ℕ → ℕ → Bool) where
  -- the count after an action, its next being plain
  acted : (a k : ℕ) (s t : State) (α : List Sym) (d : ℕ) → T (plain α) → does alike a k s ≡ go t → after (head_role (act a ∷ α)) s.depth ≡ d → after (head_role α) t.depth ≡ d
  acted a k s t α d p q c = ap (λ (r : Role). after r t.depth) (same_role_lem (head_role α) neither p) ∙ sym (counted alike k s t α a q) ∙ c

  grown : (n p : ℕ) (s : State) (α : List Sym) (d : ℕ) → T (fine (nt n ∷ α)) → p < forms.count → s.depth ≡ d → after (head_role (body p ++ α)) s.depth ≡ d
  grown n p s α d h l c = ap (λ (r : Role). after r s.depth) (grown_role p l α (name_plain n α h)) ∙ c

  -- ---- what is read is shallow

  shallow : {α : List Sym} {k : ℕ} {s s' : State} {w : List ℕ} → Reads State Refusal forms (does alike) α k s w s' → T (fine α) → (d : ℕ) → after (head_role α) s.depth ≡ d → s.depth ≤ 32
      → Shallow d w
  shallow done f d c l = omega arith
  shallow (eat {a = a} {α = α} {w = w} {s = s} r) f d c l =
      let e : after (head_role α) s.depth ≡ parens_after a d =
      ap (λ (x : Role). after x s.depth) (sym (same_role_lem (does_to a) (head_role α) (and_left (same_role (does_to a) (head_role α)) (fine α) f))) ∙ counts a s.depth ∙ ap (parens_after a) c in
      (omega arith, subst (λ (x : ℕ). Shallow x w) e (shallow r (and_right (same_role (does_to a) (head_role α)) (fine α) f) (after (head_role α) s.depth) refl l))
  shallow (acts {a = a} {k = k} {α = α} {s = s} {t = t} q r) f d c l =
      shallow r (and_right (plain α && not (eqb a 4)) (fine α) f) d
      (acted a k s t α d (and_left (plain α) (not (eqb a 4)) (and_left (plain α && not (eqb a 4)) (fine α) f)) q c) (low_kept alike k s t α a q l)
  shallow (grow {n = n} {α = α} {s = s} p b e r) f d c l = shallow r (fine_grow n α f p b e) d (grown n p s α d f b c) l

  -- ---- and what is shallow is read

  -- an action goes on that compares no names, and opens nothing where 32 stand open
  goes : (a k : ℕ) (s : State) → T (not (eqb a 4)) → (a ≡ 5 → s.depth < 32) → (t : State) × (does alike a k s ≡ go t)
  unfolding does
  goes zero k s h g = (_, refl)
  goes (suc zero) k s h g = (_, refl)
  goes (suc (suc zero)) k s h g = (_, refl)
  goes (suc (suc (suc zero))) k s h g = (_, refl)
  goes (suc (suc (suc (suc zero)))) k s h g = absurd h
  goes (suc (suc (suc (suc (suc zero))))) k s h g = (record { frames = s.frames; depth = s.depth + 1 }, rw (lt-ltb s.depth 32 (g refl)))
  goes (suc (suc (suc (suc (suc (suc zero)))))) k s h g = (_, refl)
  goes (suc (suc (suc (suc (suc (suc (suc f))))))) k s h g = (_, refl)

  reads : {α : List Sym} {w : List ℕ} → Gen forms α w → T (fine α) → (k : ℕ) (s : State) (d : ℕ) → after (head_role α) s.depth ≡ d → Shallow d w
      → (s' : State) × Reads State Refusal forms (does alike) α k s w s'
  reads plainly.Gen.done f k s d c h = (s, done)
  reads (plainly.Gen.eat {a = a} {α = α} {w = w} g) f k s d c h =
      let e : after (head_role α) s.depth ≡ parens_after a d =
      ap (λ (x : Role). after x s.depth) (sym (same_role_lem (does_to a) (head_role α) (and_left (same_role (does_to a) (head_role α)) (fine α) f))) ∙ counts a s.depth ∙ ap (parens_after a) c in
      let r = reads g (and_right (same_role (does_to a) (head_role α)) (fine α) f) (suc k) s (parens_after a d) e h.1 in
      (r.0, eat r.1)
  reads (plainly.Gen.skip {a = a} {α = α} {w = w} g) f k s d c h =
      let p = and_left (plain α) (not (eqb a 4)) (and_left (plain α && not (eqb a 4)) (fine α) f) in
      let q = and_right (plain α) (not (eqb a 4)) (and_left (plain α && not (eqb a 4)) (fine α) f) in
      let t = goes a k s q (λ e. opens e) in
      let r = reads g (and_right (plain α && not (eqb a 4)) (fine α) f) k t.0 d (acted a k s t.0 α d p t.1 c) h in
      (r.0, acts t.1 r.1)
    where
      opens : a ≡ 5 → s.depth < 32
      opens e = let z : after opening s.depth ≡ d = ap (λ (x : ℕ). after (head_role (act x ∷ α)) s.depth) (sym e) ∙ c in omega (arith, low d w h)
  reads (plainly.Gen.grow {n = n} {α = α} p l e g) f k s d c h =
      let r = reads g (fine_grow n α f p l e) k s d (grown n p s α d f l c) h in
      (r.0, grow p l e r.1)

-- ---- to and downto

abbrev is_direction : ℕ → Bool
is_direction t = eqb t (number_of word_to) || eqb t (number_of word_downto)

abbrev one : Bool → ℕ
one true = 1
one false = 0

-- how many of these elements are to or downto
abbrev directions : List ℕ → ℕ
directions [] = 0
directions (t ∷ w) = one (is_direction t) + directions w

-- how many a name may read, and a row of symbols
abbrev of_name : ℕ → ℕ
of_name n = one (mem n (name_numbers (subtype ∷ subtype_range ∷ range ∷ direction ∷ [])))

abbrev allowed : List Sym → ℕ
allowed [] = 0
allowed (tok a ∷ α) = one (is_direction a) + allowed α
allowed (act a ∷ α) = allowed α
allowed (nt n ∷ α) = of_name n + allowed α

allowed_append : (β α : List Sym) → allowed (β ++ α) ≡ allowed β + allowed α
allowed_append [] α = omega arith
allowed_append (tok a ∷ β) α = omega (arith, allowed_append β α)
allowed_append (act a ∷ β) α = allowed_append β α
allowed_append (nt n ∷ β) α = omega (arith, allowed_append β α)

rule_allows : (p : ℕ) → p < forms.count → T (mem (forms.lhs p) reached) → allowed (body p) ≤ of_name (forms.lhs p)
rule_allows p l h =
    leb→le (allowed (body p)) (of_name (forms.lhs p))
    (imp_at (mem (forms.lhs p) reached) (leb (allowed (body p)) (of_name (forms.lhs p)))
    (below_at forms.count (λ p. imp (mem (forms.lhs p) reached) (leb (allowed (body p)) (of_name (forms.lhs p)))) tt p l) h)

few : {α : List Sym} {w : List ℕ} → Gen forms α w → T (fine α) → directions w ≤ allowed α
few plainly.Gen.done f = omega arith
few (plainly.Gen.eat {a = a} {α = α} g) f = omega (arith, few g (and_right (same_role (does_to a) (head_role α)) (fine α) f))
few (plainly.Gen.skip {a = a} {α = α} g) f = few g (and_right (plain α && not (eqb a 4)) (fine α) f)
few (plainly.Gen.grow {n = n} {α = α} p l e g) f =
    let h = subst (λ (x : ℕ). T (mem x reached)) (sym e) (name_reached n α f) in
    let b = subst (λ (x : ℕ). allowed (body p) ≤ of_name x) e (rule_allows p l h) in
    omega (arith, few g (fine_grow n α f p l e), allowed_append (body p) α)

-- one that stands there counts
there : (w : List ℕ) (i : ℕ) → T (is_direction (get_or w i 0)) → 1 ≤ directions w
there [] zero h = absurd h
there [] (suc i) h = absurd h
there (t ∷ w) zero h = by (is_direction t) h
  where
    by : (b : Bool) → T b → 1 ≤ one b + directions w
    by true h = omega arith
    by false h = absurd h
there (t ∷ w) (suc i) h = omega (arith, there w i h)

counted_here : (b : Bool) (w : List ℕ) → T b → one b + directions w ≤ 1 → directions w ≤ 0
counted_here true w h l = omega arith
counted_here false w h l = absurd h

same_one : (w : List ℕ) (i j : ℕ) → directions w ≤ 1 → T (is_direction (get_or w i 0)) → T (is_direction (get_or w j 0)) → get_or w i 0 ≡ get_or w j 0
same_one [] zero j l h k = absurd h
same_one [] (suc i) j l h k = absurd h
same_one (t ∷ w) zero zero l h k = refl
same_one (t ∷ w) zero (suc j) l h k = absurd (omega (arith, counted_here (is_direction t) w h l, there w j k))
same_one (t ∷ w) (suc i) zero l h k = absurd (omega (arith, counted_here (is_direction t) w k l, there w i h))
same_one (t ∷ w) (suc i) (suc j) l h k = same_one w i j (omega arith) h k

-- a subtype's elements have to or downto, and not both
pub one_direction : (w : List ℕ) (l : List Row) → IsSubtype w l → (i j : ℕ) → get_or w i 0 ≡ number_of word_to → get_or w j 0 ≡ number_of word_downto → ⊥
one_direction w l t i j a b =
    let s = same_one w i j (few ((subtype_tree.read_exactly w).1 (l, t)) tt) (subst (λ (x : ℕ). T (is_direction x)) (sym a) tt) (subst (λ (x : ℕ). T (is_direction x)) (sym b) tt) in
    absurd (omega arith)

-- ---- the two, by their trees

alone : (n : ℕ) (Is : List ℕ → List Row → Type 0) → TreeOf (nt n) Is → T (fine (nt n ∷ [])) → ReadAlone (nt n) Is
alone n Is t f alike w l = (
  (λ h. let r = reads alike ((t.read_exactly w).1 (l, h.0)) f 0 start 0 refl h.1 in (r.0, (r.1, t.only_such w (state_rows r.0) l (t.reads_trees alike w r.0 r.1) h.0))),
  λ r. (subst (Is w) r.1.1 (t.reads_trees alike w r.0 r.1.0), shallow alike r.1.0 f 0 refl (omega arith)),
)

pub constant_alone : ConstantAlone
constant_alone = alone _ IsConstant constant_tree tt

pub subtype_alone : SubtypeAlone
subtype_alone = alone _ IsSubtype subtype_tree tt
