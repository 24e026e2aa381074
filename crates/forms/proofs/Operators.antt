-- Every row's operator is of its span and of a kind that its form has, and is its first element in any form but 28 and 29. A frame's operator is told by its kind, 0 as long as it is the first element; two hint tables say
-- which kinds a frame may have where a name begins and ends, and a computed test to a rule says that they hold. Assumes nothing.
use Prim.Native.Nat.{ℕ, zero, suc, ◌+◌, ◌-◌, ◌≤◌, ◌<◌}
use Prim.Native.String.{String}
use mathlib.Core.Path.{◌≡◌, refl, sym, ◌∙◌, ap, subst}
use mathlib.Core.Bool.{Bool, true, false, ◌&&◌, cond}
use mathlib.Core.List.{List, [], ◌∷◌, ◌++◌}
use native.Mathlib.Omega.{arith}
use lib.Dec.{T, eqb, ltb, eqb→eq}
use lib.ListN.{get_or, drop}
use Rattle.laws.proofs.Laws.{clash, is_true}
use Rattle.grammars.specs.code.Grammar.{Sym, tok, nt, act}
use Rattle.grammars.specs.code.Actions.{go, Reads, done, eat, acts, grow}
use Rattle.grammars.proofs.Theory.{mem, and_left, and_right, one_of, is_one_lem}
use Rattle.grammars.proofs.Check.{below_at, every, every_at}
use Rattle.forms.specs.code.Rules.{forms, body}
use Rattle.forms.specs.Tree.{Row, EachRow}
use Rattle.forms.specs.code.RuleActions.{Frame, State, Refusal, fresh, top, on_top, joined, marked, named, frame_row, rowed, frame_is_named, does, state_rows, Reading}
use Rattle.forms.specs.Spellings.{spelled_among}
use Rattle.forms.specs.OperatorElements.{unary_operators, binary_operators}
use Rattle.forms.proofs.Hints as hints
use Rattle.forms.proofs.Steps.{named_frames, deeper_frames}

-- the row's operator is within the row's span, and of one of these kinds
abbrev pub Within : List ℕ → List String → Row → Type 0
Within w kinds r = (r.first ≤ r.operator) × (r.operator < r.first + r.count) × (spelled_among (get_or w r.operator 0) kinds ≡ true)

abbrev pub MarkRight : List ℕ → Row → Type 0
MarkRight w r = cond (eqb r.form 28) (Within w unary_operators r) (cond (eqb r.form 29) (Within w binary_operators r) (r.operator ≡ r.first))

-- the kinds that the frame's operator may have when a name begins; the kind just read when it ends, 0 where that is not told
abbrev enter : ℕ → List ℕ
enter n = get_or hints.enters n []

abbrev ending : ℕ → List ℕ
ending n = get_or hints.reads n []

-- and those it may have when the name ends, if it was one of l
abbrev or_kept : List ℕ → List ℕ → List ℕ
or_kept [] l = l
or_kept (x ∷ m) l = x ∷ m

abbrev leave : ℕ → List ℕ → List ℕ
leave n l = or_kept (get_or hints.leaves n []) l

kept_in_lem : (m l : List ℕ) (q t : ℕ) → T (mem q l) → T (mem t (or_kept m (q ∷ []))) → T (mem t (or_kept m l))
kept_in_lem [] l q t h k = subst (λ (x : ℕ). T (mem x l)) (sym (one_of t q k)) h
kept_in_lem (x ∷ m) l q t h k = k

-- a row of form f in a frame whose operator has the kind q
abbrev row_fits : ℕ → ℕ → Bool
row_fits f q = cond (eqb f 28) (spelled_among q unary_operators) (cond (eqb f 29) (spelled_among q binary_operators) (eqb q 0))

-- With p just read (0: not told), q the kind of the innermost frame's operator and F those of the frames around it: α marks and puts rows as it may.
abbrev Marks : ℕ → ℕ → List ℕ → List Sym → Type 0
Marks p q F [] = Unit {0}
Marks p q F (tok a ∷ α) = Marks a q F α
Marks p q F (nt n ∷ α) = T (mem q (enter n)) × ((p' q' : ℕ) → T (mem p' (ending n)) → T (mem q' (leave n (q ∷ []))) → Marks p' q' F α)
Marks p q F (act zero ∷ α) = Marks 0 0 (q ∷ F) α
Marks p q [] (act (suc zero) ∷ α) = ⊥
Marks p q (f ∷ F) (act (suc zero) ∷ α) = Marks p f F α
Marks p q F (act (suc (suc zero)) ∷ α) = T (ltb 0 p) × Marks p p F α
Marks p q F (act (suc (suc (suc zero))) ∷ α) = Marks p q F α
Marks p q F (act (suc (suc (suc (suc zero)))) ∷ α) = Marks p q F α
Marks p q F (act (suc (suc (suc (suc (suc zero))))) ∷ α) = Marks p q F α
Marks p q F (act (suc (suc (suc (suc (suc (suc zero)))))) ∷ α) = Marks p q F α
Marks p q F (act (suc (suc (suc (suc (suc (suc (suc f))))))) ∷ α) = T (row_fits f q) × Marks p q F α

-- A rule's test, n being what it names and q the operator's kind when it begins: P are the kinds that may be just read, Q those of the
-- innermost frame's operator, R those of the frames around it that the rule itself began.
abbrev marks_ok : ℕ → ℕ → List ℕ → List ℕ → List (List ℕ) → List Sym → Bool
marks_ok n q P Q [] [] = every (λ t. mem t (leave n (q ∷ []))) Q && every (λ t. mem t (ending n)) P
marks_ok n q P Q (X ∷ R) [] = false
marks_ok n q P Q R (tok a ∷ β) = marks_ok n q (a ∷ []) Q R β
marks_ok n q P Q R (nt m ∷ β) = every (λ t. mem t (enter m)) Q && marks_ok n q (ending m) (leave m Q) R β
marks_ok n q P Q R (act zero ∷ β) = marks_ok n q (0 ∷ []) (0 ∷ []) (Q ∷ R) β
marks_ok n q P Q [] (act (suc zero) ∷ β) = false
marks_ok n q P Q (X ∷ R) (act (suc zero) ∷ β) = marks_ok n q P X R β
marks_ok n q P Q R (act (suc (suc zero)) ∷ β) = every (λ t. ltb 0 t) P && marks_ok n q P P R β
marks_ok n q P Q R (act (suc (suc (suc zero))) ∷ β) = marks_ok n q P Q R β
marks_ok n q P Q R (act (suc (suc (suc (suc zero)))) ∷ β) = marks_ok n q P Q R β
marks_ok n q P Q R (act (suc (suc (suc (suc (suc zero))))) ∷ β) = marks_ok n q P Q R β
marks_ok n q P Q R (act (suc (suc (suc (suc (suc (suc zero)))))) ∷ β) = marks_ok n q P Q R β
marks_ok n q P Q R (act (suc (suc (suc (suc (suc (suc (suc f))))))) ∷ β) = every (row_fits f) Q && marks_ok n q P Q R β

-- the frames around: those that the rule began, and then G
abbrev Begun : List ℕ → List (List ℕ) → List ℕ → Type 0
Begun F [] G = F ≡ G
Begun [] (X ∷ R) G = ⊥
Begun (f ∷ F) (X ∷ R) G = T (mem f X) × Begun F R G

module _ (n q₀ : ℕ) (G : List ℕ) (α : List Sym) (goes : (p q : ℕ) → T (mem p (ending n)) → T (mem q (leave n (q₀ ∷ []))) → Marks p q G α) where
  marks_append : (β : List Sym) (p q : ℕ) (F P Q : List ℕ) (R : List (List ℕ)) → T (mem p P) → T (mem q Q) → Begun F R G → T (marks_ok n q₀ P Q R β) → Marks p q F (β ++ α)
  marks_append [] p q F P Q [] h k b t =
      let A = every (λ t. mem t (leave n (q₀ ∷ []))) Q in
      let B = every (λ t. mem t (ending n)) P in
      subst (λ (l : List ℕ). Marks p q l α) (sym b)
      (goes p q (every_at (λ t. mem t (ending n)) P (and_right A B t) p h) (every_at (λ t. mem t (leave n (q₀ ∷ []))) Q (and_left A B t) q k))
  marks_append [] p q F P Q (X ∷ R) h k b t = absurd t
  marks_append (tok a ∷ β) p q F P Q R h k b t = marks_append β a q F (a ∷ []) Q R (is_one_lem a) k b t
  marks_append (nt m ∷ β) p q F P Q R h k b t =
      let A = every (λ t. mem t (enter m)) Q in
      let B = marks_ok n q₀ (ending m) (leave m Q) R β in (
        every_at (λ t. mem t (enter m)) Q (and_left A B t) q k,
        λ p' q' h' k'. marks_append β p' q' F (ending m) (leave m Q) R h' (kept_in_lem (get_or hints.leaves m []) Q q q' k k') b (and_right A B t),
      )
  marks_append (act zero ∷ β) p q F P Q R h k b t = marks_append β 0 0 (q ∷ F) (0 ∷ []) (0 ∷ []) (Q ∷ R) tt tt (k, b) t
  marks_append (act (suc zero) ∷ β) p q F P Q [] h k b t = absurd t
  marks_append (act (suc zero) ∷ β) p q [] P Q (X ∷ R) h k b t = absurd b
  marks_append (act (suc zero) ∷ β) p q (f ∷ F) P Q (X ∷ R) h k b t = marks_append β p f F P X R h b.0 b.1 t
  marks_append (act (suc (suc zero)) ∷ β) p q F P Q R h k b t =
      let A = every (λ t. ltb 0 t) P in
      let B = marks_ok n q₀ P P R β in
      (every_at (λ t. ltb 0 t) P (and_left A B t) p h, marks_append β p p F P P R h h b (and_right A B t))
  marks_append (act (suc (suc (suc zero))) ∷ β) p q F P Q R h k b t = marks_append β p q F P Q R h k b t
  marks_append (act (suc (suc (suc (suc zero)))) ∷ β) p q F P Q R h k b t = marks_append β p q F P Q R h k b t
  marks_append (act (suc (suc (suc (suc (suc zero))))) ∷ β) p q F P Q R h k b t = marks_append β p q F P Q R h k b t
  marks_append (act (suc (suc (suc (suc (suc (suc zero)))))) ∷ β) p q F P Q R h k b t = marks_append β p q F P Q R h k b t
  marks_append (act (suc (suc (suc (suc (suc (suc (suc f))))))) ∷ β) p q F P Q R h k b t =
      let A = every (row_fits f) Q in
      let B = marks_ok n q₀ P Q R β in
      (every_at (row_fits f) Q (and_left A B t) q k, marks_append β p q F P Q R h k b (and_right A B t))

abbrev rule_ok : ℕ → Bool
rule_ok p = every (λ q. marks_ok (forms.lhs p) q (0 ∷ []) (q ∷ []) [] (body p)) (enter (forms.lhs p))

rules_mark : (p : ℕ) → p < forms.count → T (rule_ok p)
rules_mark p l = below_at forms.count rule_ok tt p l

marks_grow : (p : ℕ) → p < forms.count → (n : ℕ) → forms.lhs p ≡ n → (q k : ℕ) (F : List ℕ) (α : List Sym) → Marks k q F (nt n ∷ α) → Marks 0 q F (body p ++ α)
marks_grow p l n e q k F α m =
    marks_append n q F α m.1 (body p) 0 q F (0 ∷ []) (q ∷ []) [] tt (is_one_lem q) refl
    (subst (λ (x : ℕ). T (marks_ok x q (0 ∷ []) (q ∷ []) [] (body p))) e
    (every_at (λ q. marks_ok (forms.lhs p) q (0 ∷ []) (q ∷ []) [] (body p)) (enter (forms.lhs p)) (rules_mark p l) q
    (subst (λ (x : ℕ). T (mem q (enter x))) (sym e) m.0)))

module _ (W : List ℕ) where
  -- when k elements of W were read: a frame's operator is its first element, or it is one that was read since and has this kind
  abbrev Operates : ℕ → ℕ → ℕ → ℕ → Type 0
  Operates k first operator zero = operator ≡ first
  Operates k first operator (suc q) = (first ≤ operator) × (operator < k) × (get_or W operator 0 ≡ suc q)

  -- the element just read is the frame's and has this kind
  abbrev Just : ℕ → ℕ → ℕ → Type 0
  Just k first zero = Unit {0}
  Just k first (suc p) = (first < k) × (get_or W (k - 1) 0 ≡ suc p)

  -- the frames, none beginning before the one around it, with the kinds of their operators; their rows are right
  abbrev Stand : ℕ → ℕ → List Frame → List ℕ → Type 0
  Stand k hi [] [] = Unit {0}
  Stand k hi [] (q ∷ F) = ⊥
  Stand k hi (f ∷ fs) [] = ⊥
  Stand k hi (f ∷ fs) (q ∷ F) = (f.first ≤ hi) × Operates k f.first f.operator q × EachRow (MarkRight W) f.rows × Stand k f.first fs F

  record Held (k : ℕ) (s : State) (α : List Sym) : Type 0 where
    just_read : ℕ
    operator : ℕ
    around : List ℕ
    marks : Marks just_read operator around α
    stand : Stand k k s.frames (operator ∷ around)
    just : Just k (top s.frames).first just_read

  operates_more : (k a b q : ℕ) → Operates k a b q → Operates (suc k) a b q
  operates_more k a b zero o = o
  operates_more k a b (suc q) o = (o.0, omega (arith, o.1), o.2)

  stand_more : (k hi : ℕ) (fs : List Frame) (F : List ℕ) → Stand k hi fs F → (hi' : ℕ) → hi ≤ hi' → Stand (suc k) hi' fs F
  stand_more k hi [] [] s hi' l = tt
  stand_more k hi [] (q ∷ F) s hi' l = absurd s
  stand_more k hi (f ∷ fs) [] s hi' l = absurd s
  stand_more k hi (f ∷ fs) (q ∷ F) s hi' l = (omega (arith, s.0), operates_more k f.first f.operator q s.1, s.2, stand_more k f.first fs F s.3 f.first (omega arith))

  first_le : (k q : ℕ) (fs : List Frame) (F : List ℕ) → Stand k k fs (q ∷ F) → (top fs).first ≤ k
  first_le k q [] F s = absurd s
  first_le k q (f ∷ fs) F s = s.0

  each_append : (l m : List Row) → EachRow (MarkRight W) l → EachRow (MarkRight W) m → EachRow (MarkRight W) (l ++ m)
  each_append [] m a b = b
  each_append (r ∷ l) m a b = (a.0, each_append l m a.1 b)

  held_eat : (k a : ℕ) (s : State) (α : List Sym) → get_or W k 0 ≡ a → Held k s (tok a ∷ α) → Held (suc k) s α
  held_eat k a s α e h =
      record {
        just_read = a;
        operator = h.operator;
        around = h.around;
        marks = h.marks;
        stand = stand_more k k s.frames (h.operator ∷ h.around) h.stand (suc k) (omega arith);
        just = by a e;
      }
    where
      by : (a : ℕ) → get_or W k 0 ≡ a → Just (suc k) (top s.frames).first a
      by zero e = tt
      by (suc a) e =
          let z : suc k - 1 ≡ k = omega arith in
          (omega (arith, first_le k h.operator s.frames h.around h.stand), ap (λ (i : ℕ). get_or W i 0) z ∙ e)

  held_grow : (p : ℕ) → p < forms.count → (n : ℕ) → forms.lhs p ≡ n → (k : ℕ) (s : State) (α : List Sym) → Held k s (nt n ∷ α) → Held k s (body p ++ α)
  held_grow p l n e k s α h =
      record {
        just_read = 0;
        operator = h.operator;
        around = h.around;
        marks = marks_grow p l n e h.operator h.just_read h.around α h.marks;
        stand = h.stand;
        just = tt;
      }

  -- a frame that only takes another operator, name or rows
  stand_top : (g : Frame → Frame) (k q q' : ℕ) (fs : List Frame) (F : List ℕ) → ((f : Frame) → (g f).first ≡ f.first)
      → ((f : Frame) → f.first ≡ (top fs).first → Operates k f.first f.operator q → EachRow (MarkRight W) f.rows → Operates k f.first (g f).operator q' × EachRow (MarkRight W) (g f).rows)
      → Stand k k fs (q ∷ F) → Stand k k (on_top g fs) (q' ∷ F)
  stand_top g k q q' [] F e h s = absurd s
  stand_top g k q q' (f ∷ fs) F e h s =
      let r = h f refl s.1 s.2 in
      (omega (arith, s.0, e f), subst (λ (x : ℕ). Operates k x (g f).operator q') (sym (e f)) r.0, r.1, subst (λ (x : ℕ). Stand k x fs F) (sym (e f)) s.3)

  top_first : (g : Frame → Frame) (fs : List Frame) → ((f : Frame) → (g f).first ≡ f.first) → (top fs).first ≡ (top (on_top g fs)).first
  top_first g [] e = refl
  top_first g (f ∷ fs) e = sym (e f)

  stand_joined : (k q f : ℕ) (fs : List Frame) (F : List ℕ) → Stand k k fs (q ∷ f ∷ F) → Stand k k (joined fs) (f ∷ F) × ((top (joined fs)).first ≤ (top fs).first)
  stand_joined k q f [] F s = absurd s
  stand_joined k q f (x ∷ []) F s = absurd s.3
  stand_joined k q f (x ∷ y ∷ fs) F s = ((omega (arith, s.0, s.3.0), s.3.1, each_append y.rows x.rows s.3.2 s.2, s.3.3), s.3.0)

  just_less : (k a b p : ℕ) → b ≤ a → Just k a p → Just k b p
  just_less k a b zero l j = tt
  just_less k a b (suc p) l j = (omega (arith, j.0), j.1)

  -- the operator just marked
  mark_fits : (k p first : ℕ) → T (ltb 0 p) → Just k first p → Operates k first (k - 1) p
  mark_fits k zero first t j = absurd t
  mark_fits k (suc p) first t j = (omega (arith, j.0), omega (arith, j.0), j.1)

  -- the row just put
  has : (kinds : List String) (n k q : ℕ) (f : Frame) → spelled_among 0 kinds ≡ false → T (spelled_among q kinds) → Operates k f.first f.operator q → Within W kinds (frame_row n k f)
  has kinds n k zero f d t o = absurd (subst T d t)
  has kinds n k (suc q) f d t o = (o.0, omega (arith, o.0, o.1), ap (λ (x : ℕ). spelled_among x kinds) o.2 ∙ is_true (spelled_among (suc q) kinds) t)

  has_none : (n k q : ℕ) (f : Frame) → T (eqb q 0) → Operates k f.first f.operator q → (frame_row n k f).operator ≡ (frame_row n k f).first
  has_none n k zero f t o = o
  has_none n k (suc q) f t o = absurd (omega (arith, eqb→eq (suc q) 0 t))

  row_right : (n k q : ℕ) (f : Frame) → T (row_fits n q) → Operates k f.first f.operator q → MarkRight W (frame_row n k f)
  row_right n k q f t o = by (eqb n 28) (eqb n 29) t
    where
      by : (a b : Bool) → T (cond a (spelled_among q unary_operators) (cond b (spelled_among q binary_operators) (eqb q 0)))
          → cond a (Within W unary_operators (frame_row n k f)) (cond b (Within W binary_operators (frame_row n k f)) (f.operator ≡ f.first))
      by true b t = has unary_operators n k q f refl t o
      by false true t = has binary_operators n k q f refl t o
      by false false t = has_none n k q f t o

  module _ (alike : ℕ → ℕ → Bool) (k : ℕ) (s t : State) (α : List Sym) where
    -- the frames as they stand after an action
    to : (fs : List Frame) → fs ≡ t.frames → (p q : ℕ) (F : List ℕ) → Marks p q F α → Stand k k fs (q ∷ F) → Just k (top fs).first p → Held k t α
    to fs e p q F m h j =
        record {
          just_read = p;
          operator = q;
          around = F;
          marks = m;
          stand = subst (λ (x : List Frame). Stand k k x (q ∷ F)) e h;
          just = subst (λ (x : List Frame). Just k (top x).first p) e j;
        }

    of : (u : State) → u ≡ t → u.frames ≡ t.frames
    of u e = ap (λ (x : State). x.frames) e

    close : (p q : ℕ) (F : List ℕ) → joined s.frames ≡ t.frames → Marks p q F (act 1 ∷ α) → Stand k k s.frames (q ∷ F) → Just k (top s.frames).first p → Held k t α
    close p q [] e m h j = absurd m
    close p q (f ∷ F) e m h j =
        let r = stand_joined k q f s.frames F h in
        to (joined s.frames) e p f F m r.0 (just_less k (top s.frames).first (top (joined s.frames)).first p r.1 j)

    over : (a : ℕ) (g : Frame → Frame) → ((f : Frame) → (g f).first ≡ f.first) → on_top g s.frames ≡ t.frames → (h : Held k s (act a ∷ α)) (q' : ℕ)
        → ((f : Frame) → f.first ≡ (top s.frames).first → Operates k f.first f.operator h.operator → EachRow (MarkRight W) f.rows → Operates k f.first (g f).operator q' × EachRow (MarkRight W) (g f).rows)
        → Marks h.just_read q' h.around α → Held k t α
    over a g e z h q' fits m =
        to (on_top g s.frames) z h.just_read q' h.around m (stand_top g k h.operator q' s.frames h.around e fits h.stand)
        (subst (λ (x : ℕ). Just k x h.just_read) (top_first g s.frames e) h.just)

    held_act : (a : ℕ) → does alike a k s ≡ go t → Held k s (act a ∷ α) → Held k t α
    unfolding does
    held_act zero e h =
        to (fresh k ∷ s.frames) (of (record { frames = fresh k ∷ s.frames; depth = s.depth }) (cc)) 0 0 (h.operator ∷ h.around) h.marks (omega arith, refl, tt, h.stand) tt
    held_act (suc zero) e h = close h.just_read h.operator h.around (of (record { frames = joined s.frames; depth = s.depth }) (cc)) h.marks h.stand h.just
    held_act (suc (suc zero)) e h =
        over 2 (marked (k - 1)) (λ f. refl) (of (record { frames = on_top (marked (k - 1)) s.frames; depth = s.depth }) (cc)) h h.just_read
        (λ f z o r. (mark_fits k h.just_read f.first h.marks.0 (subst (λ (x : ℕ). Just k x h.just_read) (sym z) h.just), r)) h.marks.1
    held_act (suc (suc (suc zero))) e h =
        over 3 (named k) (λ f. refl) (of (record { frames = on_top (named k) s.frames; depth = s.depth }) (cc)) h h.operator (λ f z o r. (o, r)) h.marks
    held_act (suc (suc (suc (suc zero)))) e h =
        to s.frames (named_frames s t (frame_is_named alike (top s.frames).name (k - 1)) e) h.just_read h.operator h.around h.marks h.stand h.just
    held_act (suc (suc (suc (suc (suc zero))))) e h =
        to s.frames (deeper_frames s t (ltb s.depth 32) e) h.just_read h.operator h.around h.marks h.stand h.just
    held_act (suc (suc (suc (suc (suc (suc zero)))))) e h =
        to s.frames (of (record { frames = s.frames; depth = s.depth - 1 }) (cc)) h.just_read h.operator h.around h.marks h.stand h.just
    held_act (suc (suc (suc (suc (suc (suc (suc n))))))) e h =
        over (suc (suc (suc (suc (suc (suc (suc n))))))) (rowed n k) (λ f. refl) (of (record { frames = on_top (rowed n k) s.frames; depth = s.depth }) (cc)) h h.operator
        (λ f z o r. (o, (row_right n k h.operator f h.marks.0 o, r))) h.marks.1

  -- what is left of the elements when k were read
  next : (l : List ℕ) (k a : ℕ) (w : List ℕ) → drop k l ≡ a ∷ w → (get_or l k 0 ≡ a) × (drop (suc k) l ≡ w)
  next [] zero a w e = let z : ◌≡◌ {A = ℕ} 0 1 = cc in clash z
  next [] (suc k) a w e = let z : ◌≡◌ {A = ℕ} 0 1 = cc in clash z
  next (x ∷ l) zero a w e = (cc, cc)
  next (x ∷ l) (suc k) a w e = next l k a w e

  only : (k : ℕ) (fs : List Frame) (q : ℕ) (F : List ℕ) → Stand k k fs (q ∷ F) → EachRow (MarkRight W) (top fs).rows
  only k [] q F s = absurd s
  only k (f ∷ fs) q F s = s.2

  held : (alike : ℕ → ℕ → Bool) {α : List Sym} {k : ℕ} {s t : State} {w : List ℕ} → Reads State Refusal forms (does alike) α k s w t → drop k W ≡ w → Held k s α → EachRow (MarkRight W) (state_rows t)
  held alike (done {k = k} {s = s}) e h = only k s.frames h.operator h.around h.stand
  held alike (eat {a = a} {k = k} {α = α} {w = w} {s = s} r) e h = let n = next W k a w e in held alike r n.1 (held_eat k a s α n.0 h)
  held alike (acts {a = a} {k = k} {α = α} {s = s} {t = t} q r) e h = held alike r e (held_act alike k s t α a q h)
  held alike (grow {n = n} {k = k} {α = α} {s = s} p l q r) e h = held alike r e (held_grow p l n q k s α h)

pub operators_marked : (alike : ℕ → ℕ → Bool) (w : List ℕ) (s : State) → Reading alike w s → EachRow (MarkRight w) (state_rows s)
operators_marked alike w s r = held w alike r refl (record { just_read = 0; operator = 0; around = []; marks = (tt, λ p q h k. tt); stand = (omega arith, refl, tt, tt); just = tt })
