-- How the rows of a constant or a subtype begin: its own row, over all its elements, and its type mark's. What is read after the mark
-- puts its rows into frames of its own. Assumes nothing.
use Prim.Native.Nat.{ℕ, zero, suc, ◌+◌, ◌-◌, ◌<◌}
use mathlib.Core.Path.{◌≡◌, refl, sym as flip, ◌∙◌, ap, subst}
use mathlib.Core.List.{List, [], ◌∷◌, ◌++◌}
use mathlib.Core.Bool.{Bool, true, false, ◌&&◌}
use native.Mathlib.Omega.{arith}
use lib.Dec.{T, eqb, ltb, eqb→eq}
use lib.ListN.{length}
use borrow.Author.Tests.{eq-eqb, ne_eqb}
use Rattle.laws.proofs.Laws.{clash}
use Rattle.grammars.specs.code.Grammar.{Sym, tok, nt, act}
use Rattle.grammars.specs.code.Actions.{go, Reads, done, eat, acts, grow}
use Rattle.grammars.proofs.Theory.{mem, and_left, and_right}
use Rattle.grammars.proofs.Check.{below, below_at, imp, imp_at}
use Rattle.grammars.proofs.Room as room
use Rattle.forms.specs.code.Kinds.{number_of, identifier, word_constant, word_is, word_subtype, colon}
use Rattle.forms.specs.code.RuleNames.{constant, subtype, subtype_range, range, expression, mark, name_number, name_numbers}
use Rattle.forms.specs.code.Rules.{forms, body, rule_of}
use Rattle.forms.specs.Tree.{Row}
use Rattle.forms.specs.code.RuleActions.{Frame, State, Refusal, name_differs, too_deep, fresh, top, on_top, joined, marked, named, rowed, frame_is_named, does, start, state_rows}
use Rattle.forms.specs.code.ItemReading.{ItemReading, item_row, mark_row, BeginWithMark}
use Rattle.forms.proofs.Positive.{picked}
use Rattle.forms.proofs.Tests as tests

-- the names after the mark whose rows stand in frames of their own
abbrev framed : List ℕ
framed = name_numbers (subtype_range ∷ range ∷ expression ∷ [])

-- What is left of an item whose form is f, i frames inside its own: its own frame has no row of its own before its last two actions.
abbrev Tail : ℕ → ℕ → List Sym → Type 0
Tail f i [] = ⊥
Tail f i (tok a ∷ α) = Tail f i α
Tail f zero (nt n ∷ α) = T (mem n framed) × Tail f zero α
Tail f (suc i) (nt n ∷ α) = Tail f (suc i) α
Tail f i (act zero ∷ α) = Tail f (suc i) α
Tail f zero (act (suc zero) ∷ α) = ⊥
Tail f (suc i) (act (suc zero) ∷ α) = Tail f i α
Tail f zero (act (suc (suc a)) ∷ α) = (a ≡ suc (suc (suc (suc (suc f))))) × (α ≡ act 1 ∷ [])
Tail f (suc i) (act (suc (suc a)) ∷ α) = Tail f (suc i) α

-- a rule's test: i frames inside it puts no row into the frame that it found, and leaves that one
abbrev apart : ℕ → List Sym → Bool
apart zero [] = true
apart (suc i) [] = false
apart i (tok a ∷ β) = apart i β
apart zero (nt n ∷ β) = mem n framed && apart zero β
apart (suc i) (nt n ∷ β) = apart (suc i) β
apart i (act zero ∷ β) = apart (suc i) β
apart zero (act (suc a) ∷ β) = false
apart (suc i) (act (suc zero) ∷ β) = apart i β
apart (suc i) (act (suc (suc a)) ∷ β) = apart (suc i) β

rule_apart : (p : ℕ) → p < forms.count → T (mem (forms.lhs p) framed) → T (apart 0 (body p))
rule_apart p l h = imp_at (mem (forms.lhs p) framed) (apart 0 (body p)) (below_at forms.count (λ p. imp (mem (forms.lhs p) framed) (apart 0 (body p))) tt p l) h

tail_apart : (f i : ℕ) (β α : List Sym) → T (apart i β) → Tail f 0 α → Tail f i (β ++ α)
tail_apart f zero [] α h t = t
tail_apart f (suc i) [] α h t = absurd h
tail_apart f i (tok a ∷ β) α h t = tail_apart f i β α h t
tail_apart f zero (nt n ∷ β) α h t = (and_left (mem n framed) (apart 0 β) h, tail_apart f zero β α (and_right (mem n framed) (apart 0 β) h) t)
tail_apart f (suc i) (nt n ∷ β) α h t = tail_apart f (suc i) β α h t
tail_apart f i (act zero ∷ β) α h t = tail_apart f (suc i) β α h t
tail_apart f zero (act (suc a) ∷ β) α h t = absurd h
tail_apart f (suc i) (act (suc zero) ∷ β) α h t = tail_apart f i β α h t
tail_apart f (suc i) (act (suc (suc a)) ∷ β) α h t = tail_apart f (suc i) β α h t

-- e more
abbrev above : ℕ → ℕ → ℕ
above zero i = i
above (suc e) i = suc (above e i)

-- any rule, inside another frame
tail_nested : (f e i : ℕ) (β α : List Sym) → T (room.nested tests.opening tests.closing 0 e β) → Tail f (suc i) α → Tail f (suc (above e i)) (β ++ α)
tail_nested f e i [] α h t = subst (λ (x : ℕ). Tail f (suc (above x i)) α) (flip (eqb→eq e 0 h)) t
tail_nested f e i (tok a ∷ β) α h t = tail_nested f e i β α h t
tail_nested f e i (nt n ∷ β) α h t = tail_nested f e i β α h t
tail_nested f e i (act zero ∷ β) α h t = tail_nested f (suc e) i β α h t
tail_nested f zero i (act (suc zero) ∷ β) α h t = absurd h
tail_nested f (suc e) i (act (suc zero) ∷ β) α h t =
    let z : suc e - 1 ≡ e = omega arith in
    tail_nested f e i β α (subst (λ (x : ℕ). T (room.nested tests.opening tests.closing 0 x β)) z (and_right (ltb 0 (suc e)) (room.nested tests.opening tests.closing 0 (suc e - 1) β) h)) t
tail_nested f e i (act (suc (suc a)) ∷ β) α h t =
    tail_nested f e i β α
    (neither (eqb (suc (suc a)) 0) (eqb (suc (suc a)) 1) (ltb 0 e && room.nested tests.opening tests.closing 0 (e - 1) β) (ne_eqb (suc (suc a)) 0 (λ z. absurd (omega arith))) (ne_eqb (suc (suc a)) 1 (λ z. absurd (omega arith))) h)
    t
  where
    neither : (p q : Bool) (x : Bool) → p ≡ false → q ≡ false
        → T (room.pick_b p (room.nested tests.opening tests.closing 0 (suc e) β) (room.pick_b q x (room.nested tests.opening tests.closing 0 e β))) → T (room.nested tests.opening tests.closing 0 e β)
    neither true q x d g h = let z : ◌≡◌ {A = ℕ} 0 1 = cc in clash z
    neither false true x d g h = let z : ◌≡◌ {A = ℕ} 0 1 = cc in clash z
    neither false false x d g h = h

tail_grow : (f i n p : ℕ) (α : List Sym) → p < forms.count → forms.lhs p ≡ n → Tail f i (nt n ∷ α) → Tail f i (body p ++ α)
tail_grow f zero n p α l e t = tail_apart f 0 (body p) α (rule_apart p l (subst (λ (x : ℕ). T (mem x framed)) (flip e) t.0)) t.1
tail_grow f (suc i) n p α l e t = tail_nested f 0 i (body p) α (tests.frames_nest p l) t

-- i frames, and then the item's, whose rows begin with the mark's, in the outermost
abbrev Keeps : ℕ → List Frame → Type 0
Keeps i [] = ⊥
Keeps zero (g ∷ fs) = (m : List Row) × ((g.rows ≡ mark_row ∷ m) × ((g.first ≡ 0) × ((g.operator ≡ 0) × (fs ≡ fresh 0 ∷ []))))
Keeps (suc i) (g ∷ fs) = Keeps i fs

keeps_joined : (i : ℕ) (fs : List Frame) → Keeps (suc i) fs → Keeps i (joined fs)
keeps_joined i [] h = absurd h
keeps_joined i (g ∷ []) h = absurd h
keeps_joined zero (g ∷ g' ∷ fs) h = (h.0 ++ g.rows, (ap (λ (l : List Row). l ++ g.rows) h.1.0, h.1.1))
keeps_joined (suc i) (g ∷ g' ∷ fs) h = h

keeps_top : (i : ℕ) (u : Frame → Frame) (fs : List Frame) → Keeps (suc i) fs → Keeps (suc i) (on_top u fs)
keeps_top i u [] h = absurd h
keeps_top i u (g ∷ fs) h = h

-- where a name has one rule, a rule of it is that one
pub only : (n q : ℕ) → T (below forms.count (λ p. imp (eqb (forms.lhs p) n) (eqb p q))) → (p : ℕ) → p < forms.count → forms.lhs p ≡ n → p ≡ q
only n q h p l e =
    eqb→eq p q (imp_at (eqb (forms.lhs p) n) (eqb p q) (below_at forms.count (λ p. imp (eqb (forms.lhs p) n) (eqb p q)) h p l) (subst T (flip (eq-eqb (forms.lhs p) n e)) tt))

module _ (alike : ℕ → ℕ → Bool) where
  keeps_opens : (i k : ℕ) (s t : State) → does alike 0 k s ≡ go t → Keeps i s.frames → Keeps (suc i) t.frames
  unfolding does
  keeps_opens i k s t e h =
      let z : ◌≡◌ {A = State} (record { frames = fresh k ∷ s.frames; depth = s.depth }) t = cc in
      subst (λ (x : State). Keeps (suc i) x.frames) z h

  keeps_closes : (i k : ℕ) (s t : State) → does alike 1 k s ≡ go t → Keeps (suc i) s.frames → Keeps i t.frames
  unfolding does
  keeps_closes i k s t e h =
      let z : ◌≡◌ {A = State} (record { frames = joined s.frames; depth = s.depth }) t = cc in
      subst (λ (x : State). Keeps i x.frames) z (keeps_joined i s.frames h)

  keeps_act : (i a k : ℕ) (s t : State) → does alike (suc (suc a)) k s ≡ go t → Keeps (suc i) s.frames → Keeps (suc i) t.frames
  unfolding does
  keeps_act i zero k s t e h =
      let z : ◌≡◌ {A = State} (record { frames = on_top (marked (k - 1)) s.frames; depth = s.depth }) t = cc in
      subst (λ (x : State). Keeps (suc i) x.frames) z (keeps_top i (marked (k - 1)) s.frames h)
  keeps_act i (suc zero) k s t e h =
      let z : ◌≡◌ {A = State} (record { frames = on_top (named k) s.frames; depth = s.depth }) t = cc in
      subst (λ (x : State). Keeps (suc i) x.frames) z (keeps_top i (named k) s.frames h)
  keeps_act i (suc (suc zero)) k s t e h =
      subst (λ (x : State). Keeps (suc i) x.frames) (picked (frame_is_named alike (top s.frames).name (k - 1)) s name_differs t e) h
  keeps_act i (suc (suc (suc zero))) k s t e h =
      subst (λ (x : State). Keeps (suc i) x.frames) (picked (ltb s.depth 32) (record { frames = s.frames; depth = s.depth + 1 }) too_deep t e) h
  keeps_act i (suc (suc (suc (suc zero)))) k s t e h =
      let z : ◌≡◌ {A = State} (record { frames = s.frames; depth = s.depth - 1 }) t = cc in
      subst (λ (x : State). Keeps (suc i) x.frames) z h
  keeps_act i (suc (suc (suc (suc (suc f))))) k s t e h =
      let z : ◌≡◌ {A = State} (record { frames = on_top (rowed f k) s.frames; depth = s.depth }) t = cc in
      subst (λ (x : State). Keeps (suc i) x.frames) z (keeps_top i (rowed f k) s.frames h)

  abbrev Marked : ℕ → ℕ → State → Type 0
  Marked f n s = (m : List Row) × (state_rows s ≡ item_row f n m ∷ (mark_row ∷ m))

  -- the last two actions
  closed : (f k : ℕ) (fs : List Frame) → Keeps 0 fs → (m : List Row) × ((top (joined (on_top (rowed f k) fs))).rows ≡ item_row f k m ∷ (mark_row ∷ m))
  closed f k [] h = absurd h
  closed f k (g ∷ fs) h = (h.0, rw (h.1.1.1.1, h.1.0, h.1.1.0, h.1.1.1.0) same)
    where
      z : k - 0 ≡ k
      z = omega arith

      y : (m : List Row) → suc (length m) + 1 ≡ length m + 2
      y m = omega arith

      same : (record { form = f; first = 0; count = k - 0; rows = suc (length h.0) + 1; operator = 0 } ∷ (mark_row ∷ h.0)) ≡ item_row f k h.0 ∷ (mark_row ∷ h.0)
      same = rw (z, y h.0)

  ends : (f k : ℕ) {w : List ℕ} (s t : State) {s' : State} → does alike (suc (suc (suc (suc (suc (suc (suc f))))))) k s ≡ go t
      → Reads State Refusal forms (does alike) (act 1 ∷ []) k t w s' → Keeps 0 s.frames → Marked f (k + length w) s'
  unfolding does
  ends f k s t {s' = s'} e (acts d done) h =
      let z : ◌≡◌ {A = State} (record { frames = on_top (rowed f k) s.frames; depth = s.depth }) t = cc in
      let y : ◌≡◌ {A = State} (record { frames = joined t.frames; depth = t.depth }) s' = cc in
      let c = closed f k s.frames h in
      let n : k ≡ k + 0 = omega arith in
      (c.0, ap state_rows (flip y) ∙ ap (λ (x : State). (top (joined x.frames)).rows) (flip z) ∙ c.1 ∙ ap (λ (x : ℕ). item_row f x c.0 ∷ (mark_row ∷ c.0)) n)

  tail_act : (f i a k : ℕ) (s t : State) (α : List Sym) (w : List ℕ) (s' : State) → does alike a k s ≡ go t → Reads State Refusal forms (does alike) α k t w s'
      → Tail f i (act a ∷ α) → Keeps i s.frames → ((j : ℕ) → Tail f j α → Keeps j t.frames → Marked f (k + length w) s') → Marked f (k + length w) s'
  tail_act f i zero k s t α w s' e r x h ih = ih (suc i) x (keeps_opens i k s t e h)
  tail_act f zero (suc zero) k s t α w s' e r x h ih = absurd x
  tail_act f (suc i) (suc zero) k s t α w s' e r x h ih = ih i x (keeps_closes i k s t e h)
  tail_act f zero (suc (suc a)) k s t α w s' e r x h ih =
      ends f k s t (subst (λ (b : ℕ). does alike (suc (suc b)) k s ≡ go t) x.0 e) (subst (λ (β : List Sym). Reads State Refusal forms (does alike) β k t w s') x.1 r) h
  tail_act f (suc i) (suc (suc a)) k s t α w s' e r x h ih = ih (suc i) x (keeps_act i a k s t e h)

  tail_reads : (f i : ℕ) {α : List Sym} {k : ℕ} {s s' : State} {w : List ℕ} → Reads State Refusal forms (does alike) α k s w s' → Tail f i α → Keeps i s.frames → Marked f (k + length w) s'
  tail_reads f i done x h = absurd x
  tail_reads f i (eat {k = k} {w = w} {s' = s'} r) x h =
      let z : suc k + length w ≡ k + suc (length w) = omega arith in
      subst (λ (n : ℕ). Marked f n s') z (tail_reads f i r x h)
  tail_reads f i (acts {a = a} {k = k} {α = α} {w = w} {s = s} {t = t} {s' = s'} e r) x h = tail_act f i a k s t α w s' e r x h (λ j y g. tail_reads f j r y g)
  tail_reads f i (grow {n = n} {α = α} p l e r) x h = tail_reads f i r (tail_grow f i n p α l e x) h

  -- the mark
  abbrev after_mark : ℕ → State → State
  after_mark k s = record { frames = joined (on_top (rowed 31 (suc k)) (fresh k ∷ s.frames)); depth = s.depth }

  mark_body : (k : ℕ) (s : State) {α : List Sym} {w : List ℕ} {s' : State} → Reads State Refusal forms (does alike) (body (rule_of (name_number mark)) ++ α) k s w s'
      → (v : List ℕ) × ((length w ≡ suc (length v)) × Reads State Refusal forms (does alike) α (suc k) (after_mark k s) v s')
  unfolding does
  mark_body k s {α = α} {s' = s'} (acts {t = t} d (eat {w = v} (acts {t = u} e (acts {t = x} g r)))) =
      let z : ◌≡◌ {A = State} (record { frames = fresh k ∷ s.frames; depth = s.depth }) t = cc in
      let y : ◌≡◌ {A = State} (record { frames = on_top (rowed 31 (suc k)) t.frames; depth = t.depth }) u = cc in
      let q : ◌≡◌ {A = State} (record { frames = joined u.frames; depth = u.depth }) x = cc in
      let n : x ≡ after_mark k s =
      flip q ∙ ap (λ (o : State). record { frames = joined o.frames; depth = o.depth }) (flip y) ∙ ap (λ (o : State). record { frames = joined (on_top (rowed 31 (suc k)) o.frames); depth = o.depth }) (flip z) in
      (v, (refl, subst (λ (o : State). Reads State Refusal forms (does alike) α (suc k) o v s') n r))

  mark_read : (k : ℕ) (s : State) {α : List Sym} {w : List ℕ} {s' : State} → Reads State Refusal forms (does alike) (mark ∷ α) k s w s'
      → (v : List ℕ) × ((length w ≡ suc (length v)) × Reads State Refusal forms (does alike) α (suc k) (after_mark k s) v s')
  mark_read k s {α = α} {w = w} {s' = s'} (grow p l e r) =
      mark_body k s {α = α} (subst (λ (x : ℕ). Reads State Refusal forms (does alike) (body x ++ α) k s w s') (only (name_number mark) (rule_of (name_number mark)) tt p l e) r)

  -- an item: its word, its name, a mark of its own, and its type mark
  begins : (f a b c : ℕ) {α : List Sym} {w : List ℕ} {s : State} → Reads State Refusal forms (does alike) (act 0 ∷ tok a ∷ tok b ∷ tok c ∷ mark ∷ α) 0 start w s → Tail f 0 α → Marked f (length w) s
  unfolding does
  begins f a b c {α = α} {s = s} (acts {t = t} e (eat (eat (eat {w = w} r)))) x =
      let z : ◌≡◌ {A = State} (record { frames = fresh 0 ∷ fresh 0 ∷ []; depth = 0 }) t = cc in
      let m = mark_read 3 (record { frames = fresh 0 ∷ fresh 0 ∷ []; depth = 0 }) {α = α} (subst (λ (o : State). Reads State Refusal forms (does alike) (mark ∷ α) 3 o w s) (flip z) r) in
      let n : 4 + length m.0 ≡ suc (suc (suc (length w))) = omega (arith, m.1.0) in
      subst (λ (k : ℕ). Marked f k s) n (tail_reads f 0 m.1.1 x ([], (refl, (refl, (refl, refl)))))

  constant_begins : (w : List ℕ) (s : State) → ItemReading constant alike w s → Marked 4 (length w) s
  constant_begins w s (grow p l e r) =
      begins 4 (number_of word_constant) (number_of identifier) (number_of colon) (subst (λ (x : ℕ). Reads State Refusal forms (does alike) (body x ++ []) 0 start w s) (only (name_number constant) (rule_of (name_number constant)) tt p l e) r) (tt, (refl, refl))

  subtype_begins : (w : List ℕ) (s : State) → ItemReading subtype alike w s → Marked 5 (length w) s
  subtype_begins w s (grow p l e r) =
      begins 5 (number_of word_subtype) (number_of identifier) (number_of word_is) (subst (λ (x : ℕ). Reads State Refusal forms (does alike) (body x ++ []) 0 start w s) (only (name_number subtype) (rule_of (name_number subtype)) tt p l e) r) (tt, (refl, refl))

pub begin_with_mark : BeginWithMark
begin_with_mark = (λ alike w s r. constant_begins alike w s r, λ alike w s r. subtype_begins alike w s r)
