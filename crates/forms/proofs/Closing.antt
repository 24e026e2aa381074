-- The machine's refusal 6 is that of the elements alone: along every trail the innermost frame's name, where a name is compared, is the
-- name of what that closes. Assumes nothing.
use Prim.Native.Nat.{ℕ, zero, suc, ◌+◌, ◌-◌, ◌≤◌, ◌<◌}
use mathlib.Core.Path.{◌≡◌, refl, sym, ◌∙◌, ap, subst}
use mathlib.Core.Logic.{◌⊎◌, inl, inr, ⊎_elim}
use mathlib.Core.Bool.{Bool, true, false, cond}
use mathlib.Core.List.{List, [], ◌∷◌}
use native.Mathlib.Omega.{arith}
use lib.Dec.{ltb}
use lib.ListN.{get_or}
use Rattle.laws.proofs.Laws.{clash}
use Rattle.grammars.specs.code.Grammar.{Sym, act}
use Rattle.grammars.specs.code.Actions.{go, stop, End, read, bad, stopped, spent}
use Rattle.grammars.proofs.Trail.{Trail, whole, more, other, none, refuses, eats, acts, grows}
use Rattle.forms.specs.code.RuleNames.{file}
use Rattle.forms.specs.code.Rules.{forms}
use Rattle.forms.specs.code.RuleActions.{Frame, State, Refusal, name_differs, too_deep, fresh, top, on_top, joined, marked, rowed, frame_is_named, does}
use Rattle.forms.specs.code.RuleActions as machine
use Rattle.forms.specs.code.Reading.{file_reading}
use Rattle.forms.specs.Closing.{Name, is_named_as}
use Rattle.forms.specs.Closing as paper
use Rattle.forms.proofs.Walking.{Closed, nothing, named, Walk, walked, walk_over, unwalked, closed_by, name_of, closes_there, closes_back, named_as}
use Rattle.forms.proofs.Meaning.{trailed}
use Rattle.forms.proofs.Opening.{compares, deepens}
use Rattle.forms.proofs.Telling.{Good}
use Rattle.forms.proofs.Comparing.{good_grow}

-- the frames' names
abbrev names_in : List Frame → List ℕ
names_in [] = []
names_in (f ∷ fs) = f.name ∷ names_in fs

top_name : (fs : List Frame) (g : ℕ) (G : List ℕ) → names_in fs ≡ g ∷ G → (top fs).name ≡ g
top_name [] g G e = let z : ◌≡◌ {A = ℕ} 0 1 = cc in clash z
top_name (f ∷ fs) g G e = cc

joined_names : (fs : List Frame) (g h : ℕ) (G : List ℕ) → names_in fs ≡ g ∷ h ∷ G → names_in (joined fs) ≡ h ∷ G
joined_names [] g h G e = let z : ◌≡◌ {A = ℕ} 0 1 = cc in clash z
joined_names (f ∷ []) g h G e = let z : ◌≡◌ {A = ℕ} 0 1 = cc in clash z
joined_names (f ∷ f' ∷ fs) g h G e = cc

kept_names : (u : Frame → Frame) (fs : List Frame) → ((f : Frame) → (u f).name ≡ f.name) → names_in (on_top u fs) ≡ names_in fs
kept_names u [] e = refl
kept_names u (f ∷ fs) e = ap (λ (y : ℕ). y ∷ names_in fs) (e f)

new_name : (k : ℕ) (fs : List Frame) (g : ℕ) (G : List ℕ) → names_in fs ≡ g ∷ G → names_in (on_top (machine.named k) fs) ≡ k ∷ G
new_name k [] g G e = let z : ◌≡◌ {A = ℕ} 0 1 = cc in clash z
new_name k (f ∷ fs) g G e = cc

module _ (alike : ℕ → ℕ → Bool) (k : ℕ) (s t : State) (x : Walk) (r : Closed) (g : ℕ) (G : List ℕ) (α : List Sym) (here : x.count ≡ k) (are : names_in s.frames ≡ g ∷ G) where
  -- an action that goes on: what is left is good, and a name that is to be compared is the one that it closes
  record Goes : Type 0 where
    name : ℕ
    others : List ℕ
    good : Good x nothing name others α
    are_named : names_in t.frames ≡ name ∷ others
    agreed : (h : ℕ) → r ≡ named h → frame_is_named alike h (k - 1) ≡ true

  plainly : r ≡ nothing → (h : ℕ) → r ≡ named h → frame_is_named alike h (k - 1) ≡ true
  plainly e h q = let z : ◌≡◌ {A = ℕ} 0 1 = cc in clash z

  to : (name : ℕ) (others : List ℕ) → Good x nothing name others α → names_in t.frames ≡ name ∷ others → ((h : ℕ) → r ≡ named h → frame_is_named alike h (k - 1) ≡ true) → Goes
  to name others h e a = record { name = name; others = others; good = h; are_named = e; agreed = a }

  of : (u : State) → u ≡ t → (l : List ℕ) → names_in u.frames ≡ l → names_in t.frames ≡ l
  of u e l h = ap (λ (y : State). names_in y.frames) (sym e) ∙ h

  compared : (b : Bool) → frame_is_named alike (top s.frames).name (k - 1) ≡ b → cond b (go s) (stop name_differs) ≡ go t → r ≡ named g → Good x nothing g G α → Goes
  compared true q e n h =
      let z : s ≡ t = cc in
      to g G h (of s z (g ∷ G) are)
      (λ v y.
      let i : g ≡ v = cc in
      ap (λ (m : ℕ). frame_is_named alike m (k - 1)) (sym i ∙ sym (top_name s.frames g G are)) ∙ q)
  compared false q e n h = let z : ◌≡◌ {A = ℕ} 0 1 = cc in clash z

  deeper : (b : Bool) → cond b (go (record { frames = s.frames; depth = s.depth + 1 })) (stop too_deep) ≡ go t → names_in t.frames ≡ g ∷ G
  deeper true e = of (record { frames = s.frames; depth = s.depth + 1 }) (cc) (g ∷ G) are
  deeper false e = let z : ◌≡◌ {A = ℕ} 0 1 = cc in clash z

  goes_on_lem : (a : ℕ) → does alike a k s ≡ go t → Good x r g G (act a ∷ α) → Goes
  unfolding does
  goes_on_lem zero e h = to 0 (g ∷ G) h.1 (of (record { frames = fresh k ∷ s.frames; depth = s.depth }) (cc) (0 ∷ g ∷ G) (ap (λ (l : List ℕ). 0 ∷ l) are)) (plainly h.0)
  goes_on_lem (suc zero) e h = close G (cc) are h
    where
      close : (H : List ℕ) → ◌≡◌ {A = State} (record { frames = joined s.frames; depth = s.depth }) t → names_in s.frames ≡ g ∷ H → Good x r g H (act 1 ∷ α) → Goes
      close [] z q h = absurd h
      close (v ∷ H) z q h = to v H h.1 (of (record { frames = joined s.frames; depth = s.depth }) z (v ∷ H) (joined_names s.frames g v H q)) (plainly h.0)
  goes_on_lem (suc (suc zero)) e h =
      to g G h.1 (of (record { frames = on_top (marked (k - 1)) s.frames; depth = s.depth }) (cc) (g ∷ G) (kept_names (marked (k - 1)) s.frames (λ f. refl) ∙ are)) (plainly h.0)
  goes_on_lem (suc (suc (suc zero))) e h =
      to x.count G h.1
      (of (record { frames = on_top (machine.named k) s.frames; depth = s.depth }) (cc) (x.count ∷ G) (new_name k s.frames g G are ∙ ap (λ (y : ℕ). y ∷ G) (sym here))) (plainly h.0)
  goes_on_lem (suc (suc (suc (suc zero)))) e h = compared (frame_is_named alike (top s.frames).name (k - 1)) refl e h.0 h.1
  goes_on_lem (suc (suc (suc (suc (suc zero))))) e h = to g G h.1 (deeper (ltb s.depth 32) e) (plainly h.0)
  goes_on_lem (suc (suc (suc (suc (suc (suc zero)))))) e h = to g G h.1 (of (record { frames = s.frames; depth = s.depth - 1 }) (cc) (g ∷ G) are) (plainly h.0)
  goes_on_lem (suc (suc (suc (suc (suc (suc (suc n))))))) e h =
      to g G h.1 (of (record { frames = on_top (rowed n k) s.frames; depth = s.depth }) (cc) (g ∷ G) (kept_names (rowed n k) s.frames (λ f. refl) ∙ are)) (plainly h.0)

  differing : (b : Bool) → frame_is_named alike (top s.frames).name (k - 1) ≡ b → cond b (go s) (stop name_differs) ≡ stop name_differs → frame_is_named alike g (k - 1) ≡ false
  differing true q e = let z : ◌≡◌ {A = ℕ} 0 1 = cc in clash z
  differing false q e = ap (λ (m : ℕ). frame_is_named alike m (k - 1)) (sym (top_name s.frames g G are)) ∙ q

  stops : (a : ℕ) → does alike a k s ≡ stop name_differs → Good x r g G (act a ∷ α) → (r ≡ named g) × (frame_is_named alike g (k - 1) ≡ false)
  unfolding does
  stops a e h =
      let z : a ≡ 4 = compares alike k s a e in
      ((subst (λ (y : ℕ). Good x r g G (act y ∷ α)) z h).0, differing (frame_is_named alike (top s.frames).name (k - 1)) refl (subst (λ (y : ℕ). does alike y k s ≡ stop name_differs) z e))

-- a reading that ends so compared each closing name among its first m elements
abbrev pub Compared : End State Refusal → ℕ → Type 0
Compared (read s) m = Unit {0}
Compared (bad j) m = m ≤ j
Compared (stopped j name_differs) m = m < j
Compared (stopped j too_deep) m = m ≤ j
Compared spent m = ⊥

module _ (alike : ℕ → ℕ → Bool) where
  abbrev Way : List Sym → ℕ → State → List ℕ → End State Refusal → Type 0
  Way = Trail State Refusal forms (does alike)

  -- what the next elements close by name
  abbrev closes : Walk → List ℕ → ℕ → Closed
  closes x w i = closed_by (walk_over x w i) (get_or w i 0)

  record Agree (k : ℕ) (x : Walk) (r : Closed) (w : List ℕ) (o : End State Refusal) : Type 0 where
    now : (h : ℕ) → r ≡ named h → Compared o k → frame_is_named alike h (k - 1) ≡ true
    later : (i h : ℕ) → closes x w i ≡ named h → Compared o (k + suc i) → frame_is_named alike h (k + i) ≡ true

  silent : {A : Type 0} (r : Closed) (h : ℕ) → r ≡ nothing → r ≡ named h → A
  silent r h e q = let z : ◌≡◌ {A = ℕ} 0 1 = cc in clash z

  agree : {α : List Sym} {k : ℕ} {s : State} {w : List ℕ} {o : End State Refusal} (x : Walk) (r : Closed) (g : ℕ) (G : List ℕ) → Way α k s w o → Good x r g G α → x.count ≡ k → names_in s.frames ≡ g ∷ G
      → Agree k x r w o
  unfolding walk_over
  agree x r g G whole h c e = record { now = λ v q m. silent r v h q; later = λ i v q m. silent nothing v refl q }
  agree x r g G more h c e = record { now = λ v q m. silent r v h q; later = λ i v q m. absurd (omega arith) }
  agree x r g G other h c e = record { now = λ v q m. silent r v h.0 q; later = λ i v q m. absurd (omega arith) }
  agree x r g G none h c e = record { now = λ v q m. silent r v h.0 q; later = λ i v q m. absurd (omega arith) }
  agree x r g G (refuses {r = name_differs} d) h c e = record { now = λ v q m. absurd (omega arith); later = λ i v q m. absurd (omega arith) }
  agree x r g G (refuses {a = a} {k = k} {α = α} {s = s} {r = too_deep} d) h c e =
      record {
        now = λ v q m. silent r v (subst (λ (y : ℕ). Good x r g G (act y ∷ α)) (deepens alike k s a d).0 h).0 q;
        later = λ i v q m. absurd (omega arith);
      }
  agree x r g G (eats {a = a} {k = k} {α = α} {w = w} {s = s} {o = o} way) h c e =
      let rec = agree (walked x a) (closed_by x a) g G way h.1 (ap suc c) e in
      record { now = λ v q m. silent r v h.0 q; later = λ i v q m. by rec i v q m }
    where
      by : Agree (suc k) (walked x a) (closed_by x a) w o → (i v : ℕ) → closes x (a ∷ w) i ≡ named v → Compared o (k + suc i) → frame_is_named alike v (k + i) ≡ true
      by rec zero v q m =
          let y : k + 1 ≡ suc k = omega arith in
          let z : suc k - 1 ≡ k + 0 = omega arith in
          subst (λ (n : ℕ). frame_is_named alike v n ≡ true) z (rec.now v q (subst (Compared o) y m))
      by rec (suc i) v q m =
          let y : k + suc (suc i) ≡ suc k + suc i = omega arith in
          let z : suc k + i ≡ k + suc i = omega arith in
          subst (λ (n : ℕ). frame_is_named alike v n ≡ true) z (rec.later i v q (subst (Compared o) y m))
  agree x r g G (acts {a = a} {k = k} {α = α} {s = s} {t = t} d way) h c e =
      let u = goes_on_lem alike k s t x r g G α c e a d h in
      let rec = agree x nothing u.name u.others way u.good c u.are_named in
      record { now = λ v q m. u.agreed v q; later = rec.later }
  agree x r g G (grows {n = n} {α = α} p l q way) h c e = agree x r g G way (good_grow p l n q x r g G α h) c e

  -- a refusal for a name at j: at the element just read, or at one of the next
  abbrev Differs : ℕ → Walk → Closed → List ℕ → ℕ → Type 0
  Differs k x r w j =
      (v : ℕ) × ((frame_is_named alike v (j - 1) ≡ false) × (((r ≡ named v) × (j ≡ k)) ⊎ ((i : ℕ) × ((closes x w i ≡ named v) × (j ≡ k + suc i)))))

  differs : {α : List Sym} {k : ℕ} {s : State} {w : List ℕ} {o : End State Refusal} (j : ℕ) (x : Walk) (r : Closed) (g : ℕ) (G : List ℕ) → Way α k s w o → o ≡ stopped j name_differs → Good x r g G α → x.count ≡ k
      → names_in s.frames ≡ g ∷ G → Differs k x r w j
  unfolding walk_over
  differs j x r g G whole u h c e = let z : ◌≡◌ {A = ℕ} 0 1 = cc in clash z
  differs j x r g G more u h c e = let z : ◌≡◌ {A = ℕ} 0 1 = cc in clash z
  differs j x r g G other u h c e = let z : ◌≡◌ {A = ℕ} 0 1 = cc in clash z
  differs j x r g G none u h c e = let z : ◌≡◌ {A = ℕ} 0 1 = cc in clash z
  differs j x r g G (refuses {r = too_deep} d) u h c e = let z : ◌≡◌ {A = ℕ} 0 1 = cc in clash z
  differs j x r g G (refuses {a = a} {k = k} {α = α} {s = s} {r = name_differs} d) u h c e =
      let z : k ≡ j = cc in
      let f = stops alike k s s x r g G α c e a d h in
      (g, (subst (λ (y : ℕ). frame_is_named alike g (y - 1) ≡ false) z f.1, inl (f.0, sym z)))
  differs j x r g G (eats {a = a} {k = k} {w = w} way) u h c e =
      let rec = differs j (walked x a) (closed_by x a) g G way u h.1 (ap suc c) e in
      let v = rec.0 in
      (v, (rec.1.0, ⊎_elim (λ f. inr (0, (f.0, first f.1))) (λ f. inr (suc f.0, (f.1.0, further f.0 f.1.1))) rec.1.1))
    where
      first : j ≡ suc k → j ≡ k + 1
      first q = omega arith

      further : (i : ℕ) → j ≡ suc k + suc i → j ≡ k + suc (suc i)
      further i q = omega arith
  differs j x r g G (acts {a = a} {k = k} {α = α} {s = s} {t = t} d way) u h c e =
      let f = goes_on_lem alike k s t x r g G α c e a d h in
      let rec = differs j x nothing f.name f.others way u f.good c f.are_named in
      (rec.0, (rec.1.0, ⊎_elim (λ y. silent nothing rec.0 refl y.0) (λ y. inr y) rec.1.1))
  differs j x r g G (grows {n = n} {α = α} p l q way) u h c e = differs j x r g G way u (good_grow p l n q x r g G α h) c e

-- before the first element
begun : Good unwalked nothing 0 [] (file ∷ [])
begun = (refl, record { at = tt; end = refl; known = tt }, λ x g l. refl)

-- refusal 6, when j elements were read: the last of them is a closing name, and what it closes had none, or another
pub name_differs_at : (alike : ℕ → ℕ → Bool) (w : List ℕ) (j : ℕ) → file_reading alike w ≡ stopped j name_differs
    → (k : ℕ) × ((j ≡ suc k) × ((name : Name) × ((paper.closes_at w k ≡ paper.named name) × (is_named_as alike name k ≡ false))))
name_differs_at alike w j e =
    let r = differs alike j unwalked nothing 0 [] (trailed alike w) e begun refl refl in
    ⊎_elim (λ f. silent alike nothing r.0 refl f.0)
    (λ f.
    let z = f.1.1 in
    let y : j ≡ suc f.0 = omega arith in
    let y' : j - 1 ≡ f.0 = omega arith in
    (f.0, (y, (name_of r.0, (closes_there w f.0 r.0 f.1.0, named_as alike r.0 f.0 ∙ subst (λ (m : ℕ). frame_is_named alike r.0 m ≡ false) y' r.1.0)))))
    r.1.1

-- every closing name that the reading got past is the name of what it closes
pub names_agree : (alike : ℕ → ℕ → Bool) (w : List ℕ) (o : End State Refusal) → file_reading alike w ≡ o → (k : ℕ) (name : Name) → paper.closes_at w k ≡ paper.named name → Compared o (suc k)
    → is_named_as alike name k ≡ true
names_agree alike w o e k name q m =
    let r = agree alike unwalked nothing 0 [] (trailed alike w) begun refl refl in
    let b = closes_back w k name q in
    let y : suc k ≡ 0 + suc k = omega arith in
    let y' : 0 + k ≡ k = omega arith in
    ap (λ (n : Name). is_named_as alike n k) (sym b.1.1)
    ∙ named_as alike b.0 k
    ∙ subst (λ (n : ℕ). frame_is_named alike b.0 n ≡ true) y' (r.later k b.0 b.1.0 (subst (λ (x : End State Refusal). Compared x (0 + suc k)) (sym e) (subst (Compared o) y m)))
