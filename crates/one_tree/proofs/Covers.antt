-- The test of Parts is right: elements and rows that are laid as the patterns say are read by the symbols. Assumes nothing.
use Prim.Native.Nat.{ℕ, zero, suc, ◌-◌, ◌<◌}
use mathlib.Core.Path.{◌≡◌, refl, sym, ◌∙◌, ap, subst}
use mathlib.Core.Logic.{◌⊎◌, inl, inr, ⊎_elim}
use mathlib.Core.Bool.{Bool, true, false, not, ◌&&◌, ◌||◌}
use mathlib.Core.List.{List, [], ◌∷◌, ◌++◌, append_assoc, append-nil}
use native.Mathlib.Omega.{arith}
use lib.Dec.{T, eqb, eqb→eq}
use lib.ListN.{get_or, length, drop}
use borrow.Author.Tests.{eq-eqb}
use Rattle.grammars.specs.code.Grammar.{Sym, tok, nt, act}
use Rattle.grammars.specs.code.Actions.{acts, grow}
use Rattle.grammars.proofs.Theory.{and_left, and_right, and_both, or_cases, or_left}
use Rattle.grammars.proofs.Check.{imp, imp_at}
use Rattle.forms.specs.code.RuleNames.{marks}
use Rattle.forms.specs.code.Rules.{forms, rules}
use Rattle.forms.specs.Tree.{Row}
use Rattle.forms.specs.Spellings.{is_in}
use Rattle.forms.specs.FormLines.{at, row, Pattern, nothing, one, operand, both, either, many, IsOf}
use Rattle.one_tree.proofs.Free.{Frame, frame, Frees, eaten}
use Rattle.one_tree.proofs.Parts.{Part, same_sym, same, prefix, subset, some_rule, possible, Where, before, fresh, within, is_before, is_fresh, is_within, Test, turn, eats, marked, taken, child_by, operand_by, item, items, apart, again, step, covers}

pub or_right : (a b : Bool) → T b → T (a || b)
or_right true b h = tt
or_right false b h = h

-- symbols
sym_same : (s t : Sym) → T (same_sym s t) → s ≡ t
sym_same (tok a) (tok b) h = ap tok (eqb→eq a b h)
sym_same (tok a) (nt b) h = absurd h
sym_same (tok a) (act b) h = absurd h
sym_same (nt a) (tok b) h = absurd h
sym_same (nt a) (nt b) h = ap nt (eqb→eq a b h)
sym_same (nt a) (act b) h = absurd h
sym_same (act a) (tok b) h = absurd h
sym_same (act a) (nt b) h = absurd h
sym_same (act a) (act b) h = ap act (eqb→eq a b h)

all_same : (α β : List Sym) → T (same α β) → α ≡ β
all_same [] [] h = refl
all_same [] (t ∷ β) h = absurd h
all_same (s ∷ α) [] h = absurd h
all_same (s ∷ α) (t ∷ β) h =
    let d = sym_same s t (and_left (same_sym s t) (same α β) h) in
    let f = all_same α β (and_right (same_sym s t) (same α β) h) in
    cc

prefix_is : (α β : List Sym) → T (prefix α β) → β ≡ α ++ drop (length α) β
prefix_is [] β h = refl
prefix_is (s ∷ α) [] h = absurd h
prefix_is (s ∷ α) (t ∷ β) h =
    let d = sym_same s t (and_left (same_sym s t) (prefix α β) h) in
    let f = prefix_is α β (and_right (same_sym s t) (prefix α β) h) in
    ap (λ (x : Sym). x ∷ β) (sym d) ∙ ap (λ (x : List Sym). s ∷ x) f

subset_at : (m l : List ℕ) → T (subset m l) → (t : ℕ) → T (is_in t m) → T (is_in t l)
subset_at [] l h t i = absurd i
subset_at (k ∷ m) l h t i =
    ⊎_elim (λ z. subst (λ (x : ℕ). T (is_in x l)) (sym (eqb→eq t k z)) (and_left (is_in k l) (subset m l) h))
    (λ z. subset_at m l (and_right (is_in k l) (subset m l) h) t z)
    (or_cases (eqb t k) (is_in t m) i)

-- a rule of the name
record Rule (n : ℕ) (rs : List (ℕ × List Sym)) (f : List Sym → Bool) : Type 0 where
  pub number : ℕ
  pub below : number < length rs
  pub names : (get_or rs number (0, [])).0 ≡ n
  pub holds : T (f (get_or rs number (0, [])).1)

some_rule_lem : (n : ℕ) (rs : List (ℕ × List Sym)) (f : List Sym → Bool) → T (some_rule n rs f) → Rule n rs f
some_rule_lem n [] f h = absurd h
some_rule_lem n (r ∷ rs) f h = by (or_cases (eqb r.0 n && f r.1) (some_rule n rs f) h) (λ z. some_rule_lem n rs f z)
  where
    by : T (eqb r.0 n && f r.1) ⊎ T (some_rule n rs f) → (T (some_rule n rs f) → Rule n rs f) → Rule n (r ∷ rs) f
    by (inl z) ih = record { number = 0; below = omega arith; names = eqb→eq r.0 n (and_left (eqb r.0 n) (f r.1) z); holds = and_right (eqb r.0 n) (f r.1) z }
    by (inr z) ih = let i = ih z in let l = i.below in record { number = suc i.number; below = omega arith; names = i.names; holds = i.holds }

-- Elements and rows from lo to hi as a pattern says: Q holds of each child by its sort, B of each expression in parentheses.
pub data Laid (W : List ℕ) (Q : ℕ → ℕ → ℕ → List Row → Type 0) (B : ℕ → ℕ → List Row → Type 0) (q : ℕ) : Pattern → ℕ → ℕ → List Row → Type 0 where
  none : {lo hi : ℕ} {l : List Row} → lo ≡ hi → l ≡ [] → Laid W Q B q nothing lo hi l
  element : {t : ℕ} {K : List ℕ} {lo hi : ℕ} {l : List Row} → hi ≡ suc lo → l ≡ [] → lo < length W → IsOf q t (at lo) → T (is_in (get_or W lo 0) K) → Laid W Q B q (one t K) lo hi l
  child : {t : ℕ} {K : List ℕ} {lo hi : ℕ} {l : List Row} (s : ℕ) → IsOf q t (row s) → T (is_in s K) → Q s lo hi l → Laid W Q B q (one t K) lo hi l
  bare : {S : List ℕ} {lo hi : ℕ} {l : List Row} (s : ℕ) → T (is_in s S) → Q s lo hi l → Laid W Q B q (operand S) lo hi l
  inside : {S : List ℕ} {lo hi : ℕ} {l : List Row} → B lo hi l → Laid W Q B q (operand S) lo hi l
  then : {a b : Pattern} {lo hi : ℕ} {z : List Row} (mid : ℕ) (l m : List Row) → Laid W Q B q a lo mid l → Laid W Q B q b mid hi m → z ≡ l ++ m → Laid W Q B q (both a b) lo hi z
  left : {a b : Pattern} {lo hi : ℕ} {l : List Row} → Laid W Q B q a lo hi l → Laid W Q B q (either a b) lo hi l
  right : {a b : Pattern} {lo hi : ℕ} {l : List Row} → Laid W Q B q b lo hi l → Laid W Q B q (either a b) lo hi l
  no_more : {a : Pattern} {lo hi : ℕ} {l : List Row} → lo ≡ hi → l ≡ [] → Laid W Q B q (many a) lo hi l
  more : {a : Pattern} {lo hi : ℕ} {z : List Row} (mid : ℕ) (l m : List Row) → Laid W Q B q a lo mid l → Laid W Q B q (many a) mid hi m → z ≡ l ++ m → Laid W Q B q (many a) lo hi z

pub record Cut (A B : ℕ → ℕ → List Row → Type 0) (lo hi : ℕ) (l : List Row) : Type 0 where
  pub mid : ℕ
  pub front : List Row
  pub back : List Row
  pub first : A lo mid front
  pub last : B mid hi back
  pub is : l ≡ front ++ back

module _ (W : List ℕ) (t : List Frame) where
  -- what a part does: in a frame of any first element and operator and rows, it reads lo to hi and puts the rows l after
  abbrev pub Does : Part → ℕ → ℕ → List Row → Type 0
  Does p lo hi l =
      (a o : ℕ) (z : List Row) (β : List Sym) (fs : List Frame) → (T p.begins → (a ≡ lo) × (o ≡ lo) × (z ≡ []))
      → ((o' : ℕ) → (T p.exact → o' ≡ o) → Frees W t (p.leaves ++ β) hi (frame a o' (z ++ l) ∷ fs)) → Frees W t (p.reads ++ β) lo (frame a o z ∷ fs)

  abbrev pub Holds : List Part → ℕ → ℕ → ℕ → List Row → Type 0
  Holds [] s lo hi l = Unit {0}
  Holds (p ∷ ps) s lo hi l = (T (is_in s p.what) → Does p lo hi l) × Holds ps s lo hi l

  abbrev pub Parens : List Part → ℕ → ℕ → List Row → Type 0
  Parens [] lo hi l = Unit {0}
  Parens (p ∷ ps) lo hi l = (T p.parens → Does p lo hi l) × Parens ps lo hi l

  module _ (es : List Part) (q : ℕ) where
    abbrev pub Lies : Pattern → ℕ → ℕ → List Row → Type 0
    Lies = Laid W (Holds es) (Parens es) q

    abbrev pub All : List Pattern → ℕ → ℕ → List Row → Type 0
    All [] lo hi l = (lo ≡ hi) × (l ≡ [])
    All (p ∷ P) lo hi l = Cut (Lies p) (All P) lo hi l

    pub alone : (p : Pattern) (lo hi : ℕ) (l : List Row) → Lies p lo hi l → All (p ∷ []) lo hi l
    alone p lo hi l h = record { mid = hi; front = l; back = []; first = h; last = (refl, refl); is = sym (append-nil l) }

    -- a row told by k, with the operator v, first element F
    module _ (c : Bool) (k v F : ℕ) (told : (i : ℕ) → suc i ≡ q → (get_or W i 0 ≡ k) × (i ≡ v)) (opened : T c → get_or W F 0 ≡ k) where
      abbrev Stand : Where → ℕ → ℕ → ℕ → List Row → Type 0
      Stand before lo a o z = (lo ≡ F) × (a ≡ F) × (o ≡ F) × (z ≡ [])
      Stand fresh lo a o z = (lo ≡ F) × (a ≡ F) × (o ≡ F) × (z ≡ [])
      Stand within lo a o z = Unit {0}

      abbrev over : Where → ℕ → ℕ → List Row → List Frame → List Frame
      over before a o z fs = fs
      over fresh a o z fs = frame a o z ∷ fs
      over within a o z fs = frame a o z ∷ fs

      abbrev pub Goes : Where → Bool → List Sym → List Sym → Bool → ℕ → ℕ → List Row → Type 0
      Goes m b α μ x lo hi l =
          (a o : ℕ) (z : List Row) (β : List Sym) (fs : List Frame) → Stand m lo a o z → (T b → o ≡ v)
          → ((o' : ℕ) → (T x → o' ≡ v) → Frees W t (μ ++ β) hi (frame a o' (z ++ l) ∷ fs)) → Frees W t (α ++ β) lo (over m a o z fs)

      abbrev Sound : Test → Type 0
      Sound s = (m : Where) (b : Bool) (P : List Pattern) (α μ : List Sym) (x : Bool) → T (s m b P α μ x) → (lo hi : ℕ) (l : List Row) → All P lo hi l → Goes m b α μ x lo hi l

      possible_is : (p : Pattern) {lo hi : ℕ} {l : List Row} → Lies p lo hi l → T (possible k p)
      possible_is nothing h = tt
      possible_is (one zero K) h = tt
      possible_is (one (suc zero) K) (element {lo = lo} d e u i m) = subst (λ (x : ℕ). T (is_in x K)) (told lo i).0 m
      possible_is (one (suc zero) K) (child s i m h) = absurd i
      possible_is (one (suc (suc j)) K) h = tt
      possible_is (operand S) h = tt
      possible_is (both a b) (then mid l m f g d) = and_both (possible k a) (possible k b) (possible_is a f) (possible_is b g)
      possible_is (either a b) (left f) = or_left (possible k a) (possible k b) (possible_is a f)
      possible_is (either a b) (right f) = or_right (possible k a) (possible k b) (possible_is b f)
      possible_is (many a) h = tt

      -- an item of several kinds is of the first or of the others
      one_none : (j : ℕ) {lo hi : ℕ} {l : List Row} → Lies (one j []) lo hi l → ⊥
      one_none j (element d e u i m) = m
      one_none j (child s i m h) = m

      one_of : (j i : ℕ) (K : List ℕ) {lo hi : ℕ} {l : List Row} → Lies (one j (i ∷ K)) lo hi l → Lies (one j (i ∷ [])) lo hi l ⊎ Lies (one j K) lo hi l
      one_of j i K (element {lo = lo} d e u c m) =
          ⊎_elim (λ z. inl (element d e u c (or_left (eqb (get_or W lo 0) i) false z))) (λ z. inr (element d e u c z)) (or_cases (eqb (get_or W lo 0) i) (is_in (get_or W lo 0) K) m)
      one_of j i K (child s c m h) = ⊎_elim (λ z. inl (child s c (or_left (eqb s i) false z) h)) (λ z. inr (child s c z h)) (or_cases (eqb s i) (is_in s K) m)

      operand_of_lem : (i : ℕ) (S : List ℕ) {lo hi : ℕ} {l : List Row} → Lies (operand (i ∷ S)) lo hi l → Lies (one 2 (i ∷ [])) lo hi l ⊎ Lies (operand S) lo hi l
      operand_of_lem i S (bare s m h) = ⊎_elim (λ z. inl (child s tt (or_left (eqb s i) false z) h)) (λ z. inr (bare s z h)) (or_cases (eqb s i) (is_in s S) m)
      operand_of_lem i S (inside h) = inr (inside h)

      is_one_lem : (x j : ℕ) → T (is_in x (j ∷ [])) → x ≡ j
      is_one_lem x j h = ⊎_elim (eqb→eq x j) (λ z. absurd z) (or_cases (eqb x j) false h)

      unlike : (j : ℕ) → T (not (eqb k j)) → k ≡ j → ⊥
      unlike j n e = subst (λ (y : Bool). T (not y)) (eq-eqb k j e) n

      module _ (s : Test) (sound : Sound s) where
        turn_sound : Sound (turn es c k s)
        turn_sound m b P [] μ x h lo hi l f = absurd h
        turn_sound m b P (tok a ∷ α) μ x h lo hi l f = absurd h
        turn_sound m b P (nt n ∷ α) μ x h lo hi l f =
            let r = some_rule_lem n rules (λ β. s m b P (β ++ α) μ x) h in
            λ a o z β fs st ob g.
            grow r.number r.below r.names
            (subst (λ (y : List Sym). Frees W t y lo (over m a o z fs)) (append_assoc (forms.body r.number) α β)
            (sound m b P (forms.body r.number ++ α) μ x r.holds lo hi l f a o z β fs st ob g))
        turn_sound before b P (act zero ∷ α) μ x h lo hi l f =
            λ a o z β fs st ob g.
            acts refl (subst (λ (y : List Frame). Frees W t (α ++ β) lo y) (same_frame a o z fs st) (sound fresh b P α μ x h lo hi l f a o z β fs st ob g))
          where
            same_frame : (a o : ℕ) (z : List Row) (fs : List Frame) → (lo ≡ F) × (a ≡ F) × (o ≡ F) × (z ≡ []) → ◌≡◌ {A = List Frame} (frame a o z ∷ fs) (frame lo lo [] ∷ fs)
            same_frame a o z fs st =
                let e₁ : a ≡ lo = cc in
                let e₂ : o ≡ lo = cc in
                let e₃ = st.3 in
                rw (e₁, e₂, e₃)
        turn_sound fresh b P (act zero ∷ α) μ x h lo hi l f = absurd h
        turn_sound within b P (act zero ∷ α) μ x h lo hi l f = absurd h
        turn_sound m b P (act (suc zero) ∷ α) μ x h lo hi l f = absurd h
        turn_sound m b P (act (suc (suc zero)) ∷ α) μ x h lo hi l f = absurd h
        turn_sound m b P (act (suc (suc (suc zero))) ∷ α) μ x h lo hi l f = λ a o z β fs st ob g. acts refl (sound m b P α μ x h lo hi l f a o z β fs st ob g)
        turn_sound m b P (act (suc (suc (suc (suc zero)))) ∷ α) μ x h lo hi l f = λ a o z β fs st ob g. acts refl (sound m b P α μ x h lo hi l f a o z β fs st ob g)
        turn_sound m b P (act (suc (suc (suc (suc (suc zero))))) ∷ α) μ x h lo hi l f = λ a o z β fs st ob g. acts refl (sound m b P α μ x h lo hi l f a o z β fs st ob g)
        turn_sound m b P (act (suc (suc (suc (suc (suc (suc zero)))))) ∷ α) μ x h lo hi l f = λ a o z β fs st ob g. acts refl (sound m b P α μ x h lo hi l f a o z β fs st ob g)
        turn_sound m b P (act (suc (suc (suc (suc (suc (suc (suc n))))))) ∷ α) μ x h lo hi l f = absurd h

        -- an element, whatever is done with it; what comes after it stands inside the frame
        read_one : (m : Where) (a j : ℕ) (α : List Sym) (lo : ℕ) (z : List Row) (o d : ℕ) (fs : List Frame) → T (not (is_before m)) → a ≡ j → lo < length W → T (is_in (get_or W lo 0) (j ∷ []))
            → Frees W t α (suc lo) (frame d o z ∷ fs) → Frees W t (tok a ∷ α) lo (over m d o z fs)
        read_one before a j α lo z o d fs n e u i r = absurd n
        read_one fresh a j α lo z o d fs n e u i r = eaten W t α lo a (frame d o z ∷ fs) u (is_one_lem (get_or W lo 0) j i ∙ sym e) r
        read_one within a j α lo z o d fs n e u i r = eaten W t α lo a (frame d o z ∷ fs) u (is_one_lem (get_or W lo 0) j i ∙ sym e) r

        rest_of : (P : List Pattern) (lo mid hi : ℕ) (front back l : List Row) → mid ≡ suc lo → front ≡ [] → l ≡ front ++ back → All P mid hi back → All P (suc lo) hi l
        rest_of P lo mid hi front back l e d i f =
            subst (λ (y : List Row). All P (suc lo) hi y) (sym (i ∙ ap (λ (y : List Row). y ++ back) d)) (subst (λ (n : ℕ). All P n hi back) e f)

        eats_sound : (j : ℕ) (m : Where) (b : Bool) (P : List Pattern) (α μ : List Sym) (x : Bool) → T (eats es c k s j m b P α μ x)
            → (lo hi : ℕ) (l : List Row) → lo < length W → T (is_in (get_or W lo 0) (j ∷ [])) → All P (suc lo) hi l → Goes m b α μ x lo hi l
        eats_sound j m b P [] μ x h lo hi l u i f = absurd h
        eats_sound j m b P (nt n ∷ α) μ x h lo hi l u i f = absurd h
        eats_sound j m b P (act n ∷ α) μ x h lo hi l u i f = absurd h
        eats_sound j m b P (tok a ∷ α) μ x h lo hi l u i f =
            let r = s within b P α μ x in
            let h₁ = and_right (not (is_before m)) (eqb a j && r) h in
            λ d o z β fs st ob g.
            read_one m a j (α ++ β) lo z o d fs (and_left (not (is_before m)) (eqb a j && r) h) (eqb→eq a j (and_left (eqb a j) r h₁)) u i
            (sound within b P α μ x (and_right (eqb a j) r h₁) (suc lo) hi l f d o z β fs tt ob g)

        marked_sound : (j : ℕ) (m : Where) (b : Bool) (P : List Pattern) (α μ : List Sym) (x : Bool) → T (marked es c k s j m b P α μ x)
            → (lo hi : ℕ) (l : List Row) → lo < length W → T (is_in (get_or W lo 0) (j ∷ [])) → suc lo ≡ q → All P (suc lo) hi l → Goes m b α μ x lo hi l
        marked_sound j m b P [] μ x h lo hi l u i e f = absurd h
        marked_sound j m b P (nt n ∷ α) μ x h lo hi l u i e f = absurd h
        marked_sound j m b P (act n ∷ α) μ x h lo hi l u i e f = absurd h
        marked_sound j m b P (tok a ∷ []) μ x h lo hi l u i e f = absurd h
        marked_sound j m b P (tok a ∷ tok n ∷ α) μ x h lo hi l u i e f = absurd h
        marked_sound j m b P (tok a ∷ nt n ∷ α) μ x h lo hi l u i e f = absurd h
        marked_sound j m b P (tok a ∷ act n ∷ α) μ x h lo hi l u i e f =
            let r = s within true P α μ x in
            let M = same_sym (act n) marks in
            let h₁ = and_right (not (is_before m)) (M && (eqb a j && r)) h in
            let h₂ = and_right M (eqb a j && r) h₁ in
            let is-marks = sym_same (act n) marks (and_left M (eqb a j && r) h₁) in
            λ d o z β fs st ob g.
            let y : suc lo - 1 ≡ lo = omega arith in
            read_one m a j (act n ∷ α ++ β) lo z o d fs (and_left (not (is_before m)) (M && (eqb a j && r)) h) (eqb→eq a j (and_left (eqb a j) r h₂)) u i
            (subst (λ (y : Sym). Frees W t (y ∷ α ++ β) (suc lo) (frame d o z ∷ fs)) (sym is-marks)
            (acts refl (subst (λ (i : ℕ). Frees W t (α ++ β) (suc lo) (frame d i z ∷ fs)) (sym y)
            (sound within true P α μ x (and_right (eqb a j) r h₂) (suc lo) hi l f d lo z β fs tt (λ _. (told lo e).1) g))))

        taken_sound : (p : Part) (m : Where) (b : Bool) (P : List Pattern) (α μ : List Sym) (x : Bool) → T (taken es c k s p m b P α μ x)
            → (lo mid hi : ℕ) (front back l : List Row) → Does p lo mid front → All P mid hi back → l ≡ front ++ back → Goes m b α μ x lo hi l
        taken_sound p m b P α μ x h lo mid hi front back l does f i =
            let rest = drop (length p.reads) α in
            let r = s within (b && p.exact) P (p.leaves ++ rest) μ x in
            let h₁ = and_right (prefix p.reads α) (not (is_before m) && (imp p.begins (is_fresh m) && r)) h in
            let h₂ = and_right (not (is_before m)) (imp p.begins (is_fresh m) && r) h₁ in
            λ a o z β fs st ob g.
            opens m a o z fs (α ++ β) (and_left (not (is_before m)) (imp p.begins (is_fresh m) && r) h₁)
            (subst (λ (y : List Sym). Frees W t y lo (frame a o z ∷ fs)) (sym (ap (λ (y : List Sym). y ++ β) (prefix_is p.reads α (and_left (prefix p.reads α) (not (is_before m) && (imp p.begins (is_fresh m) && r)) h)) ∙ append_assoc p.reads rest β))
            (does a o z (rest ++ β) fs (λ n. first m a o z (imp_at p.begins (is_fresh m) (and_left (imp p.begins (is_fresh m)) r h₂) n) st)
            (λ o' ex.
            subst (λ (y : List Sym). Frees W t y mid (frame a o' (z ++ front) ∷ fs)) (append_assoc p.leaves rest β)
            (sound within (b && p.exact) P (p.leaves ++ rest) μ x (and_right (imp p.begins (is_fresh m)) r h₂) mid hi back f a o' (z ++ front) β fs tt
            (λ n. ex (and_right b p.exact n) ∙ ob (and_left b p.exact n))
            (λ o'' n. subst (λ (y : List Row). Frees W t (μ ++ β) hi (frame a o'' y ∷ fs)) (sym (append_assoc z front back ∙ ap (λ (y : List Row). z ++ y) (sym i))) (g o'' n))))))
          where
            opens : (m : Where) (a o : ℕ) (z : List Row) (fs : List Frame) (γ : List Sym) → T (not (is_before m)) → Frees W t γ lo (frame a o z ∷ fs) → Frees W t γ lo (over m a o z fs)
            opens before a o z fs γ n r = absurd n
            opens fresh a o z fs γ n r = r
            opens within a o z fs γ n r = r

            first : (m : Where) (a o : ℕ) (z : List Row) → T (is_fresh m) → Stand m lo a o z → (a ≡ lo) × (o ≡ lo) × (z ≡ [])
            first before a o z n st = absurd n
            first fresh a o z n st = (st.1 ∙ sym st.0, st.2 ∙ sym st.0, st.3)
            first within a o z n st = absurd n

        child_sound : (ps : List Part) (j : ℕ) (m : Where) (b : Bool) (P : List Pattern) (α μ : List Sym) (x : Bool) → T (child_by es c k ps s j m b P α μ x)
            → (lo mid hi : ℕ) (front back l : List Row) → Holds ps j lo mid front → All P mid hi back → l ≡ front ++ back → Goes m b α μ x lo hi l
        child_sound [] j m b P α μ x h lo mid hi front back l q f i = absurd h
        child_sound (p ∷ ps) j m b P α μ x h lo mid hi front back l q f i =
            let r = taken es c k s p m b P α μ x in
            ⊎_elim (λ z. taken_sound p m b P α μ x (and_right (is_in j p.what) r z) lo mid hi front back l (q.0 (and_left (is_in j p.what) r z)) f i)
            (λ z. child_sound ps j m b P α μ x z lo mid hi front back l q.1 f i)
            (or_cases (is_in j p.what && r) (child_by es c k ps s j m b P α μ x) h)

        operand_sound : (ps : List Part) (S : List ℕ) (m : Where) (b : Bool) (P : List Pattern) (α μ : List Sym) (x : Bool) → T (operand_by es c k ps s S m b P α μ x)
            → (lo mid hi : ℕ) (front back l : List Row) → ((j : ℕ) × (T (is_in j S) × Holds ps j lo mid front)) ⊎ Parens ps lo mid front → All P mid hi back → l ≡ front ++ back → Goes m b α μ x lo hi l
        operand_sound [] S m b P α μ x h lo mid hi front back l q f i = absurd h
        operand_sound (p ∷ ps) S m b P α μ x h lo mid hi front back l q f i =
            let r = taken es c k s p m b P α μ x in
            ⊎_elim (λ z.
            let z₁ = and_right p.parens (subset S p.what && r) z in
            taken_sound p m b P α μ x (and_right (subset S p.what) r z₁) lo mid hi front back l
            (⊎_elim (λ y. y.1.1.0 (subset_at S p.what (and_left (subset S p.what) r z₁) y.0 y.1.0)) (λ y. y.0 (and_left p.parens (subset S p.what && r) z)) q) f i)
            (λ z. operand_sound ps S m b P α μ x z lo mid hi front back l (⊎_elim (λ y. inl (y.0, (y.1.0, y.1.1.1))) (λ y. inr y.1) q) f i)
            (or_cases (p.parens && (subset S p.what && r)) (operand_by es c k ps s S m b P α μ x) h)

        item_sound : (t' j : ℕ) (m : Where) (b : Bool) (P : List Pattern) (α μ : List Sym) (x : Bool) → T (item es c k s t' j m b P α μ x)
            → (lo hi : ℕ) (l : List Row) → All (one t' (j ∷ []) ∷ P) lo hi l → Goes m b α μ x lo hi l
        item_sound zero j m b P α μ x h lo hi l f = by f.mid f.front f.first f.last f.is
          where
            not_first : T (c && not (eqb k j)) → T (is_in (get_or W lo 0) (j ∷ [])) → lo ≡ F → ⊥
            not_first n i e = unlike j (and_right c (not (eqb k j)) n) (sym (opened (and_left c (not (eqb k j)) n)) ∙ ap (λ (y : ℕ). get_or W y 0) (sym e) ∙ is_one_lem (get_or W lo 0) j i)

            skipped : (m : Where) → T (c && (not (is_within m) && not (eqb k j))) → T (is_in (get_or W lo 0) (j ∷ [])) → Goes m b α μ x lo hi l
            skipped within n i = absurd (and_right c false n)
            skipped before n i = λ a o z β fs st ob g. absurd (not_first n i st.0)
            skipped fresh n i = λ a o z β fs st ob g. absurd (not_first n i st.0)

            by : (mid : ℕ) (front : List Row) → Lies (one 0 (j ∷ [])) lo mid front → All P mid hi f.back → l ≡ front ++ f.back → Goes m b α μ x lo hi l
            by mid front (child r i n y) g d = absurd i
            by mid front (element e₁ e₂ u i n) g d =
                let A = c && (not (is_within m) && not (eqb k j)) in
                let B = eats es c k s j m b P α μ x in
                let C = turn es c k s m b (one 0 (j ∷ []) ∷ P) α μ x in
                ⊎_elim (λ z. skipped m z n)
                (λ y. ⊎_elim (λ z. eats_sound j m b P α μ x z lo hi l u n (rest_of P lo mid hi front f.back l e₁ e₂ d g))
                (λ z. turn_sound m b (one 0 (j ∷ []) ∷ P) α μ x z lo hi l f)
                (or_cases B C y))
                (or_cases A (B || C) h)
        item_sound (suc zero) j m b P α μ x h lo hi l f = by f.mid f.front f.first f.last f.is
          where
            by : (mid : ℕ) (front : List Row) → Lies (one 1 (j ∷ [])) lo mid front → All P mid hi f.back → l ≡ front ++ f.back → Goes m b α μ x lo hi l
            by mid front (child r i n y) g d = absurd i
            by mid front (element e₁ e₂ u i n) g d =
                let B = marked es c k s j m b P α μ x in
                let C = turn es c k s m b (one 1 (j ∷ []) ∷ P) α μ x in
                ⊎_elim (λ z. absurd (unlike j z (sym (told lo i).0 ∙ is_one_lem (get_or W lo 0) j n)))
                (λ y. ⊎_elim (λ z. marked_sound j m b P α μ x z lo hi l u n i (rest_of P lo mid hi front f.back l e₁ e₂ d g))
                (λ z. turn_sound m b (one 1 (j ∷ []) ∷ P) α μ x z lo hi l f)
                (or_cases B C y))
                (or_cases (not (eqb k j)) (B || C) h)
        item_sound (suc (suc t')) j m b P α μ x h lo hi l f = by f.mid f.front f.first f.last f.is
          where
            by : (mid : ℕ) (front : List Row) → Lies (one (suc (suc t')) (j ∷ [])) lo mid front → All P mid hi f.back → l ≡ front ++ f.back → Goes m b α μ x lo hi l
            by mid front (element e₁ e₂ u i n) g d = absurd i
            by mid front (child r i n y) g d =
                let B = child_by es c k es s j m b P α μ x in
                let C = turn es c k s m b (one (suc (suc t')) (j ∷ []) ∷ P) α μ x in
                ⊎_elim (λ z. child_sound es j m b P α μ x z lo mid hi front f.back l (subst (λ (v : ℕ). Holds es v lo mid front) (is_one_lem r j n) y) g d)
                (λ z. turn_sound m b (one (suc (suc t')) (j ∷ []) ∷ P) α μ x z lo hi l f)
                (or_cases B C h)

        -- the first pattern replaced
        headed : (p : Pattern) (P : List Pattern) (lo hi : ℕ) (l : List Row) (mid : ℕ) (front back : List Row) → Lies p lo mid front → All P mid hi back → l ≡ front ++ back → All (p ∷ P) lo hi l
        headed p P lo hi l mid front back f g d = record { mid = mid; front = front; back = back; first = f; last = g; is = d }

        items_sound : (t' : ℕ) (K : List ℕ) (m : Where) (b : Bool) (P : List Pattern) (α μ : List Sym) (x : Bool) → T (items es c k s t' K m b P α μ x)
            → (lo hi : ℕ) (l : List Row) → All (one t' K ∷ P) lo hi l → Goes m b α μ x lo hi l
        items_sound t' [] m b P α μ x h lo hi l f = absurd (one_none t' f.first)
        items_sound t' (j ∷ []) m b P α μ x h lo hi l f = item_sound t' j m b P α μ x h lo hi l f
        items_sound t' (j ∷ i ∷ K) m b P α μ x h lo hi l f =
            let A = item es c k s t' j m b P α μ x in
            let B = s m b (one t' (i ∷ K) ∷ P) α μ x in
            ⊎_elim (λ z. item_sound t' j m b P α μ x (and_left A B h) lo hi l (headed (one t' (j ∷ [])) P lo hi l f.mid f.front f.back z f.last f.is))
            (λ z. sound m b (one t' (i ∷ K) ∷ P) α μ x (and_right A B h) lo hi l (headed (one t' (i ∷ K)) P lo hi l f.mid f.front f.back z f.last f.is))
            (one_of t' j (i ∷ K) f.first)

        apart_sound : (S : List ℕ) (m : Where) (b : Bool) (P : List Pattern) (α μ : List Sym) (x : Bool) → T (apart es c k s S m b P α μ x)
            → (lo hi : ℕ) (l : List Row) → All (operand S ∷ P) lo hi l → Goes m b α μ x lo hi l
        apart_sound [] m b P α μ x h lo hi l f = absurd h
        apart_sound (j ∷ S) m b P α μ x h lo hi l f =
            let A = s m b (one 2 (j ∷ []) ∷ P) α μ x in
            let B = s m b (operand S ∷ P) α μ x in
            ⊎_elim (λ z. sound m b (one 2 (j ∷ []) ∷ P) α μ x (and_left A B h) lo hi l (headed (one 2 (j ∷ [])) P lo hi l f.mid f.front f.back z f.last f.is))
            (λ z. sound m b (operand S ∷ P) α μ x (and_right A B h) lo hi l (headed (operand S) P lo hi l f.mid f.front f.back z f.last f.is))
            (operand_of_lem j S f.first)

        -- one after the other by a name that comes again
        loop : (p : Pattern) (n : ℕ) (b : Bool) (P : List Pattern) (α μ : List Sym) (x : Bool) → T (s within b (p ∷ []) (nt n ∷ []) (nt n ∷ []) b) → T (s within b P (nt n ∷ α) μ x)
            → {lo mid : ℕ} {front : List Row} (hi : ℕ) (back l : List Row) → Lies (many p) lo mid front → All P mid hi back → l ≡ front ++ back → Goes within b (nt n ∷ α) μ x lo hi l
        loop p n b P α μ x u v {lo = lo} {mid = mid} hi back l (no_more e d) g i =
            sound within b P (nt n ∷ α) μ x v lo hi l
            (subst (λ (y : ℕ). All P y hi l) (sym e) (subst (λ (y : List Row). All P mid hi y) (sym (i ∙ ap (λ (y : List Row). y ++ back) d)) g))
        loop p n b P α μ x u v {lo = lo} hi back l (more mid₁ l₁ l₂ f h d) g i =
            λ a o z β fs st ob k'.
            sound within b (p ∷ []) (nt n ∷ []) (nt n ∷ []) b u lo mid₁ l₁ (alone p lo mid₁ l₁ f) a o z (α ++ β) fs tt ob
            (λ o' e.
            loop p n b P α μ x u v hi back (l₂ ++ back) h g refl a o' (z ++ l₁) β fs tt e
            (λ o'' r. subst (λ (y : List Row). Frees W t (μ ++ β) hi (frame a o'' y ∷ fs)) (ap (λ (y : List Row). z ++ y) (i ∙ ap (λ (y : List Row). y ++ back) d ∙ append_assoc l₁ l₂ back) ∙ sym (append_assoc z l₁ (l₂ ++ back))) (k' o'' r)))

        again_sound : (p : Pattern) (m : Where) (b : Bool) (P : List Pattern) (α μ : List Sym) (x : Bool) → T (again es c k s m b p α) → T (s m b P α μ x)
            → (lo hi : ℕ) (l : List Row) → All (many p ∷ P) lo hi l → Goes m b α μ x lo hi l
        again_sound p m b P [] μ x h v lo hi l f = absurd h
        again_sound p m b P (tok a ∷ α) μ x h v lo hi l f = absurd h
        again_sound p m b P (act a ∷ α) μ x h v lo hi l f = absurd h
        again_sound p before b P (nt n ∷ α) μ x h v lo hi l f = absurd h
        again_sound p fresh b P (nt n ∷ α) μ x h v lo hi l f = absurd h
        again_sound p within b P (nt n ∷ α) μ x h v lo hi l f = loop p n b P α μ x h v hi f.back l f.first f.last f.is

        step_sound : Sound (step es c k s)
        step_sound m b [] α μ x h lo hi l f =
            ⊎_elim (λ z. ended m (and_left (not (is_before m)) (same α μ && imp x b) z) (all_same α μ (and_left (same α μ) (imp x b) (and_right (not (is_before m)) (same α μ && imp x b) z))) (and_right (same α μ) (imp x b) (and_right (not (is_before m)) (same α μ && imp x b) z)))
            (λ z. turn_sound m b [] α μ x z lo hi l f)
            (or_cases (not (is_before m) && (same α μ && imp x b)) (turn es c k s m b [] α μ x) h)
          where
            at_end : (a o : ℕ) (z : List Row) (β : List Sym) (fs : List Frame) → α ≡ μ → Frees W t (μ ++ β) hi (frame a o (z ++ l) ∷ fs) → Frees W t (α ++ β) lo (frame a o z ∷ fs)
            at_end a o z β fs e r =
                subst (λ (y : List Sym). Frees W t (y ++ β) lo (frame a o z ∷ fs)) (sym e)
                (subst (λ (y : ℕ). Frees W t (μ ++ β) y (frame a o z ∷ fs)) (sym f.0)
                (subst (λ (y : List Row). Frees W t (μ ++ β) hi (frame a o y ∷ fs)) (ap (λ (y : List Row). z ++ y) f.1 ∙ append-nil z) r))

            ended : (m : Where) → T (not (is_before m)) → α ≡ μ → T (imp x b) → Goes m b α μ x lo hi l
            ended before n e i = absurd n
            ended fresh n e i = λ a o z β fs st ob g. at_end a o z β fs e (g o (λ y. ob (imp_at x b i y)))
            ended within n e i = λ a o z β fs st ob g. at_end a o z β fs e (g o (λ y. ob (imp_at x b i y)))
        step_sound m b (nothing ∷ P) α μ x h lo hi l f = by f.mid f.front f.first f.last f.is
          where
            by : (mid : ℕ) (front : List Row) → Lies nothing lo mid front → All P mid hi f.back → l ≡ front ++ f.back → Goes m b α μ x lo hi l
            by mid front (none e d) g i =
                sound m b P α μ x h lo hi l (subst (λ (y : ℕ). All P y hi l) (sym e) (subst (λ (y : List Row). All P mid hi y) (sym (i ∙ ap (λ (y : List Row). y ++ f.back) d)) g))
        step_sound m b (one t' K ∷ P) α μ x h lo hi l f = items_sound t' K m b P α μ x h lo hi l f
        step_sound m b (operand S ∷ P) α μ x h lo hi l f =
            let A = operand_by es c k es s S m b P α μ x in
            let B = turn es c k s m b (operand S ∷ P) α μ x in
            let C = apart es c k s S m b P α μ x in
            ⊎_elim (λ z. operand_sound es S m b P α μ x z lo f.mid hi f.front f.back l (known f.first) f.last f.is)
            (λ y. ⊎_elim (λ z. turn_sound m b (operand S ∷ P) α μ x z lo hi l f) (λ z. apart_sound S m b P α μ x z lo hi l f) (or_cases B C y))
            (or_cases A (B || C) h)
          where
            known : {lo mid : ℕ} {front : List Row} → Lies (operand S) lo mid front → ((j : ℕ) × (T (is_in j S) × Holds es j lo mid front)) ⊎ Parens es lo mid front
            known (bare j i q) = inl (j, (i, q))
            known (inside q) = inr q
        step_sound m b (both p r ∷ P) α μ x h lo hi l f = by f.mid f.front f.first f.last f.is
          where
            by : (mid : ℕ) (front : List Row) → Lies (both p r) lo mid front → All P mid hi f.back → l ≡ front ++ f.back → Goes m b α μ x lo hi l
            by mid front (then mid₁ l₁ l₂ u v d) g i =
                sound m b (p ∷ r ∷ P) α μ x h lo hi l
                (headed p (r ∷ P) lo hi l mid₁ l₁ (l₂ ++ f.back) u (headed r P mid₁ hi (l₂ ++ f.back) mid l₂ f.back v g refl) (i ∙ ap (λ (y : List Row). y ++ f.back) d ∙ append_assoc l₁ l₂ f.back))
        step_sound m b (either p r ∷ P) α μ x h lo hi l f = by f.mid f.front f.first f.last f.is
          where
            A : Bool
            A = imp (possible k p) (s m b (p ∷ P) α μ x)

            B : Bool
            B = imp (possible k r) (s m b (r ∷ P) α μ x)

            by : (mid : ℕ) (front : List Row) → Lies (either p r) lo mid front → All P mid hi f.back → l ≡ front ++ f.back → Goes m b α μ x lo hi l
            by mid front (left u) g i =
                sound m b (p ∷ P) α μ x (imp_at (possible k p) (s m b (p ∷ P) α μ x) (and_left A B h) (possible_is p u)) lo hi l (headed p P lo hi l mid front f.back u g i)
            by mid front (right u) g i =
                sound m b (r ∷ P) α μ x (imp_at (possible k r) (s m b (r ∷ P) α μ x) (and_right A B h) (possible_is r u)) lo hi l (headed r P lo hi l mid front f.back u g i)
        step_sound m b (many p ∷ P) α μ x h lo hi l f =
            let A = s m b P α μ x in
            let B = again es c k s m b p α in
            let C = turn es c k s m b (many p ∷ P) α μ x in
            ⊎_elim (λ z. again_sound p m b P α μ x (and_left B A z) (and_right B A z) lo hi l f) (λ z. turn_sound m b (many p ∷ P) α μ x z lo hi l f) (or_cases (B && A) C h)

      pub covers_sound : (n : ℕ) → Sound (covers es c k n)
      covers_sound zero m b P α μ x h lo hi l f = absurd h
      covers_sound (suc n) m b P α μ x h lo hi l f = step_sound (covers es c k n) (covers_sound n) m b P α μ x h lo hi l f
