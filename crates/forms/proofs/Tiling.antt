-- The units of a file stand one right after the other: outside a unit's frame no element is read, and a unit's frame closes under one
-- row over all of it. Both are computed tests of the rules. Assumes nothing.
use Prim.Native.Nat.{ℕ, zero, suc, ◌+◌, ◌-◌, ◌≤◌}
use mathlib.Core.Path.{◌≡◌, refl, sym, ◌∙◌, ap, subst}
use mathlib.Core.Bool.{Bool, true, false, ◌&&◌}
use mathlib.Core.List.{List, [], ◌∷◌, ◌++◌, append_assoc, append-nil}
use native.Mathlib.Omega.{arith}
use lib.Dec.{T, eqb, ltb, eqb→eq, leb→le}
use lib.ListN.{length}
use borrow.Author.Tests.{eq-eqb, ne_eqb, le-leb}
use Rattle.laws.proofs.Laws.{clash}
use Rattle.grammars.specs.code.Grammar.{Sym, tok, nt, act}
use Rattle.grammars.specs.code.Actions.{go, Reads, done, eat, acts, grow}
use Rattle.grammars.proofs.Theory.{mem, and_left, and_right}
use Rattle.grammars.proofs.Check.{below_at, imp, imp_at}
use Rattle.grammars.proofs.Room.{pick_t, pick_b, nested, nest_down}
use Rattle.forms.specs.code.RuleNames.{file, units, unit, package_unit, entity_unit, architecture_unit, name_numbers, first_row}
use Rattle.forms.specs.code.Rules.{forms, body}
use Rattle.forms.specs.Tree.{Row, Forest, bare}
use Rattle.forms.specs.code.RuleActions.{Frame, State, Refusal, fresh, top, on_top, joined, marked, named, frame_row, rowed, does, frame_is_named, state_rows, Reading}
use Rattle.forms.specs.Files.{Tiled, none}
use Rattle.forms.specs.Files as files
use Rattle.forms.proofs.Tests as tests
use Rattle.forms.proofs.Nesting.{top_size, joined_less, one_frame, Nested, nested_eat, nested_act, nested_grow, nested_start}
use Rattle.forms.proofs.Growing.{Standing, kept, standing_eat, forest_le, forest_more}
use Rattle.forms.proofs.Steps.{named_frames, deeper_frames}

-- the names that stand outside every unit's frame
abbrev outer : ℕ → Bool
outer n = mem n (name_numbers (file ∷ units ∷ unit ∷ package_unit ∷ entity_unit ∷ architecture_unit ∷ []))

-- With f frames open inside the file's, and b true where the innermost has a row over all of it: α reads elements inside a unit's frame
-- alone, and closes that frame only under such a row.
abbrev Units : ℕ → Bool → List Sym → Type 0
Units f b [] = Unit {0}
Units f b (tok a ∷ α) = (1 ≤ f) × Units f false α
Units f b (nt n ∷ α) = (f ≡ 0 → T (outer n)) × Units f false α
Units f b (act a ∷ α) =
    pick_t (eqb a 0) (Units (suc f) false α)
    (pick_t (eqb a 1) ((f ≡ 1 → T b) × Units (f - 1) false α)
    (pick_t (tests.is_row a) ((1 ≤ f) × Units f true α) (Units f b α)))

raise : (f : ℕ) (α : List Sym) → Units f false α → Units f true α
raise f [] h = tt
raise f (tok a ∷ α) h = h
raise f (nt n ∷ α) h = h
raise f (act a ∷ α) h = by (eqb a 0) (eqb a 1) (tests.is_row a) h (raise f α)
  where
    by : (p q r : Bool) → pick_t p (Units (suc f) false α) (pick_t q ((f ≡ 1 → ⊥) × Units (f - 1) false α) (pick_t r ((1 ≤ f) × Units f true α) (Units f false α))) → (Units f false α → Units f true α)
        → pick_t p (Units (suc f) false α) (pick_t q ((f ≡ 1 → Unit {0}) × Units (f - 1) false α) (pick_t r ((1 ≤ f) × Units f true α) (Units f true α)))
    by true q r h ih = h
    by false true r h ih = ((λ _. tt), h.1)
    by false false true h ih = h
    by false false false h ih = ih h

either : (f : ℕ) (b : Bool) (α : List Sym) → Units f false α → Units f b α
either f true α h = raise f α h
either f false α h = h

-- a rule inside a unit
within : (g f : ℕ) (c : Bool) (β α : List Sym) → T (nested 0 1 0 g β) → 1 ≤ f → Units f false α → Units (g + f) c (β ++ α)
within g f c [] α t l h = let z : f ≡ g + f = omega (arith, eqb→eq g 0 t) in subst (λ (x : ℕ). Units x c α) z (either f c α h)
within g f c (tok a ∷ β) α t l h = (omega arith, within g f false β α t l h)
within g f c (nt n ∷ β) α t l h = ((λ z. absurd (omega arith)), within g f false β α t l h)
within g f c (act a ∷ β) α t l h = by (eqb a 0) (eqb a 1) (tests.is_row a) t (λ g c u. within g f c β α u l h)
  where
    by : (p q r : Bool) → T (pick_b p (nested 0 1 0 (suc g) β) (pick_b q (ltb 0 g && nested 0 1 0 (g - 1) β) (nested 0 1 0 g β)))
        → ((g : ℕ) (c : Bool) → T (nested 0 1 0 g β) → Units (g + f) c (β ++ α))
        → pick_t p (Units (suc (g + f)) false (β ++ α)) (pick_t q ((g + f ≡ 1 → T c) × Units (g + f - 1) false (β ++ α)) (pick_t r ((1 ≤ g + f) × Units (g + f) true (β ++ α)) (Units (g + f) c (β ++ α))))
    by true q r t ih = let z : suc g + f ≡ suc (g + f) = omega arith in subst (λ (x : ℕ). Units x false (β ++ α)) z (ih (suc g) false t)
    by false true r t ih =
        let m : 1 ≤ g = leb→le 1 g (and_left (ltb 0 g) (nested 0 1 0 (g - 1) β) t) in
        let z : g - 1 + f ≡ g + f - 1 = omega arith in
        ((λ e. absurd (omega arith)), subst (λ (x : ℕ). Units x false (β ++ α)) z (ih (g - 1) false (and_right (ltb 0 g) (nested 0 1 0 (g - 1) β) t)))
    by false false true t ih = (omega arith, ih g true t)
    by false false false t ih = ih g c t

-- a rule of an outer name, by its test
abbrev units_ok : ℕ → Bool → List Sym → Bool
units_ok f b [] = eqb f 0
units_ok f b (tok a ∷ β) = ltb 0 f && units_ok f false β
units_ok f b (nt n ∷ β) = imp (eqb f 0) (outer n) && units_ok f false β
units_ok f b (act a ∷ β) =
    pick_b (eqb a 0) (units_ok (suc f) false β)
    (pick_b (eqb a 1) (imp (eqb f 1) b && units_ok (f - 1) false β)
    (pick_b (tests.is_row a) (ltb 0 f && units_ok f true β) (units_ok f b β)))

outside : (f : ℕ) (b : Bool) (β α : List Sym) → T (units_ok f b β) → Units 0 false α → Units f b (β ++ α)
outside f b [] α t h = subst (λ (x : ℕ). Units x b α) (sym (eqb→eq f 0 t)) (either 0 b α h)
outside f b (tok a ∷ β) α t h = (leb→le 1 f (and_left (ltb 0 f) (units_ok f false β) t), outside f false β α (and_right (ltb 0 f) (units_ok f false β) t) h)
outside f b (nt n ∷ β) α t h = (
  (λ e. imp_at (eqb f 0) (outer n) (and_left (imp (eqb f 0) (outer n)) (units_ok f false β) t) (subst T (sym (eq-eqb f 0 e)) tt)),
  outside f false β α (and_right (imp (eqb f 0) (outer n)) (units_ok f false β) t) h,
)
outside f b (act a ∷ β) α t h = by (eqb a 0) (eqb a 1) (tests.is_row a) t (λ f b u. outside f b β α u h)
  where
    by : (p q r : Bool) → T (pick_b p (units_ok (suc f) false β) (pick_b q (imp (eqb f 1) b && units_ok (f - 1) false β) (pick_b r (ltb 0 f && units_ok f true β) (units_ok f b β))))
        → ((f : ℕ) (b : Bool) → T (units_ok f b β) → Units f b (β ++ α))
        → pick_t p (Units (suc f) false (β ++ α)) (pick_t q ((f ≡ 1 → T b) × Units (f - 1) false (β ++ α)) (pick_t r ((1 ≤ f) × Units f true (β ++ α)) (Units f b (β ++ α))))
    by true q r t ih = ih (suc f) false t
    by false true r t ih = (
      (λ e. imp_at (eqb f 1) b (and_left (imp (eqb f 1) b) (units_ok (f - 1) false β) t) (subst T (sym (eq-eqb f 1 e)) tt)),
      ih (f - 1) false (and_right (imp (eqb f 1) b) (units_ok (f - 1) false β) t),
    )
    by false false true t ih = (leb→le 1 f (and_left (ltb 0 f) (units_ok f true β) t), ih f true (and_right (ltb 0 f) (units_ok f true β) t))
    by false false false t ih = ih f b t

outer_rules : (p : ℕ) → suc p ≤ forms.count → T (outer (forms.lhs p)) → T (units_ok 0 false (body p))
outer_rules p l o = imp_at (outer (forms.lhs p)) (units_ok 0 false (body p)) (below_at forms.count (λ p. imp (outer (forms.lhs p)) (units_ok 0 false (body p))) tt p l) o

units_grow : (f : ℕ) (b : Bool) (p n : ℕ) (α : List Sym) → suc p ≤ forms.count → forms.lhs p ≡ n → Units f b (nt n ∷ α) → Units f false (body p ++ α)
units_grow zero b p n α l e h = outside 0 false (body p) α (outer_rules p l (subst (λ (x : ℕ). T (outer x)) (sym e) (h.0 refl))) h.1
units_grow (suc f) b p n α l e h =
    let z : 0 + suc f ≡ suc f = omega arith in
    subst (λ (x : ℕ). Units x false (body p ++ α)) z (within 0 (suc f) false (body p) α (tests.frames_nest p l) (omega arith) h.1)

-- a frame with a row over all of it
record Whole (d : Frame) (k : ℕ) : Type 0 where
  pub r : Row
  pub inside : List Row
  pub is : d.rows ≡ r ∷ inside
  pub begins : r.first ≡ d.first
  pub ends : r.first + r.count ≡ k
  pub size : r.rows ≡ length inside + 1
  pub within : Forest r.first (r.first + r.count) inside

tiled_append : {lo mid hi : ℕ} {l m : List Row} → Tiled lo mid l → Tiled mid hi m → Tiled lo hi (l ++ m)
tiled_append {hi = hi} {m = m} (none e) g = subst (λ (x : ℕ). Tiled x hi m) (sym e) g
tiled_append {m = m} (files.Tiled.unit {inside = x} {after = y} a f e g j) h =
    files.Tiled.unit a f e (tiled_append g h) (sym (append_assoc x y m) ∙ ap (λ (z : List Row). z ++ m) j)

-- The file's rows are tiled, up to where the unit begins that is being read, if one is.
abbrev Tiling : Bool → ℕ → List Frame → Type 0
Tiling b k [] = ⊥
Tiling b k (o ∷ []) = Tiled 0 k o.rows
Tiling b k (d ∷ o ∷ []) = Tiled 0 d.first o.rows × (T b → Whole d k)
Tiling b k (x ∷ d ∷ o ∷ fs) = Tiling false k (d ∷ o ∷ fs)

later : (b : Bool) (k k' : ℕ) (fs : List Frame) → 2 ≤ length fs → Tiling b k fs → Tiling false k' fs
later b k k' [] l h = absurd (omega arith)
later b k k' (o ∷ []) l h = absurd (omega arith)
later b k k' (d ∷ o ∷ []) l h = (h.0, λ z. absurd z)
later b k k' (x ∷ d ∷ o ∷ fs) l h = later false k k' (d ∷ o ∷ fs) (omega arith) h

tiling_opens : (b : Bool) (k : ℕ) (fs : List Frame) → Tiling b k fs → Tiling false k (fresh k ∷ fs)
tiling_opens b k [] h = absurd h
tiling_opens b k (o ∷ []) h = (h, λ z. absurd z)
tiling_opens b k (d ∷ o ∷ fs) h = later b k k (d ∷ o ∷ fs) (omega arith) h

tiling_closes : (b : Bool) (k : ℕ) (fs : List Frame) (i : ℕ) → length fs ≡ suc i → 1 ≤ i → (i ≡ 1 → T b) → Tiling b k fs → Tiling false k (joined fs)
tiling_closes b k [] i e l t h = absurd h
tiling_closes b k (o ∷ []) i e l t h = absurd (omega arith)
tiling_closes b k (d ∷ o ∷ []) i e l t h =
    let w = h.1 (t (omega arith)) in
    tiled_append h.0
    (subst (λ (x : List Row). Tiled d.first k x) (sym w.is)
    (files.Tiled.unit {r = w.r} w.begins w.within w.size (none w.ends) (append-nil w.inside)))
tiling_closes b k (x ∷ d ∷ o ∷ []) i e l t h = (h.0, λ z. absurd z)
tiling_closes b k (x ∷ d ∷ o ∷ u ∷ fs) i e l t h = h

tiling_top : (b : Bool) (k : ℕ) (g : Frame → Frame) (fs : List Frame) → ((f : Frame) → (g f).rows ≡ f.rows) → ((f : Frame) → (g f).first ≡ f.first) → Tiling b k fs → Tiling b k (on_top g fs)
tiling_top b k g [] er ef h = absurd h
tiling_top b k g (o ∷ []) er ef h = subst (Tiled 0 k) (sym (er o)) h
tiling_top b k g (d ∷ o ∷ []) er ef h = (
  subst (λ (x : ℕ). Tiled 0 x o.rows) (sym (ef d)) h.0,
  λ t. let w = h.1 t in record { r = w.r; inside = w.inside; is = er d ∙ w.is; begins = w.begins ∙ sym (ef d); ends = w.ends; size = w.size; within = w.within },
)
tiling_top b k g (x ∷ d ∷ o ∷ fs) er ef h = h

tiling_row : (b : Bool) (n k : ℕ) (fs : List Frame) (i : ℕ) → length fs ≡ suc i → 1 ≤ i → Standing k fs → Tiling b k fs → Tiling true k (on_top (rowed n k) fs)
tiling_row b n k [] i e l s h = absurd h
tiling_row b n k (o ∷ []) i e l s h = absurd (omega arith)
tiling_row b n k (d ∷ o ∷ []) i e l s h =
    let m = forest_le s.0 in
    let z : d.first + (k - d.first) ≡ k = omega arith in (
      h.0,
      λ _. record {
        r = frame_row n k d;
        inside = d.rows;
        is = refl;
        begins = refl;
        ends = z;
        size = refl;
        within = forest_more (d.first + (k - d.first)) s.0 (omega arith);
      },
    )
tiling_row b n k (x ∷ d ∷ o ∷ fs) i e l s h = h

-- an action
record Step-on (i : ℕ) (k : ℕ) (t : State) (α : List Sym) : Type 0 where
  pub flag : Bool
  pub size : length t.frames ≡ suc i
  pub left : Units i flag α
  pub tiling : Tiling flag k t.frames

module _ (alike : ℕ → ℕ → Bool) (k : ℕ) (s t : State) (α : List Sym) (b : Bool) (i : ℕ) (size : length s.frames ≡ suc i) (standing : Standing k s.frames) (tiling : Tiling b k s.frames) where
  to : (j : ℕ) (c : Bool) (u : State) → u ≡ t → length u.frames ≡ suc j → Units j c α → Tiling c k u.frames → Step-on j k t α
  to j c u e l h g = record { flag = c; size = subst (λ (x : State). length x.frames ≡ suc j) e l; left = h; tiling = subst (λ (x : State). Tiling c k x.frames) e g }

  still : s.frames ≡ t.frames → Units i b α → Step-on i k t α
  still e h = record { flag = b; size = subst (λ (x : List Frame). length x ≡ suc i) e size; left = h; tiling = subst (Tiling b k) e tiling }

  past_row : (a : ℕ) → 7 ≤ a → Units i b (act a ∷ α) → (1 ≤ i) × Units i true α
  past_row a l h = by (eqb a 0) (eqb a 1) (tests.is_row a) (ne_eqb a 0 (λ z. absurd (omega arith))) (ne_eqb a 1 (λ z. absurd (omega arith))) (le-leb first_row a l) h
    where
      by : (p q r : Bool) → p ≡ false → q ≡ false → r ≡ true → pick_t p (Units (suc i) false α) (pick_t q ((i ≡ 1 → T b) × Units (i - 1) false α) (pick_t r ((1 ≤ i) × Units i true α) (Units i b α))) → (1 ≤ i) × Units i true α
      by true q r u v w h = let z : ◌≡◌ {A = ℕ} 0 1 = cc in clash z
      by false true r u v w h = let z : ◌≡◌ {A = ℕ} 0 1 = cc in clash z
      by false false true u v w h = h
      by false false false u v w h = let z : ◌≡◌ {A = ℕ} 0 1 = cc in clash z

  -- the count of inner frames afterwards
  abbrev after : ℕ → ℕ
  after zero = suc i
  after (suc zero) = i - 1
  after (suc (suc a)) = i

  step : (a : ℕ) → does alike a k s ≡ go t → (a ≡ 1 → 1 ≤ i) → Units i b (act a ∷ α) → Step-on (after a) k t α
  unfolding does
  step zero e l h = to (suc i) false (record { frames = fresh k ∷ s.frames; depth = s.depth }) (cc) (ap suc size) h (tiling_opens b k s.frames tiling)
  step (suc zero) e l h = to (i - 1) false (record { frames = joined s.frames; depth = s.depth }) (cc) (let m = l refl in omega (arith, joined_less s.frames (omega arith))) h.1 (tiling_closes b k s.frames i size (l refl) h.0 tiling)
  step (suc (suc zero)) e l h = to i b (record { frames = on_top (marked (k - 1)) s.frames; depth = s.depth }) (cc) (top_size (marked (k - 1)) s.frames ∙ size) h (tiling_top b k (marked (k - 1)) s.frames (λ f. refl) (λ f. refl) tiling)
  step (suc (suc (suc zero))) e l h = to i b (record { frames = on_top (named k) s.frames; depth = s.depth }) (cc) (top_size (named k) s.frames ∙ size) h (tiling_top b k (named k) s.frames (λ f. refl) (λ f. refl) tiling)
  step (suc (suc (suc (suc zero)))) e l h = still (named_frames s t (frame_is_named alike (top s.frames).name (k - 1)) e) h
  step (suc (suc (suc (suc (suc zero))))) e l h = still (deeper_frames s t (ltb s.depth 32) e) h
  step (suc (suc (suc (suc (suc (suc zero)))))) e l h = to i b (record { frames = s.frames; depth = s.depth - 1 }) (cc) size h tiling
  step (suc (suc (suc (suc (suc (suc (suc n))))))) e l h =
      let g = past_row (suc (suc (suc (suc (suc (suc (suc n))))))) (omega arith) h in
      to i true (record { frames = on_top (rowed n k) s.frames; depth = s.depth }) (cc) (top_size (rowed n k) s.frames ∙ size) g.1 (tiling_row b n k s.frames i size g.0 standing tiling)

record Ended (k : ℕ) (t : State) : Type 0 where
  pub flag : Bool
  pub tiling : Tiling flag k t.frames

lowered : (b : Bool) (k : ℕ) (fs : List Frame) → Tiling b k fs → Tiling false k fs
lowered b k [] h = absurd h
lowered b k (o ∷ []) h = h
lowered b k (d ∷ o ∷ []) h = (h.0, λ z. absurd z)
lowered b k (x ∷ d ∷ o ∷ fs) h = h

inner_one : (a i : ℕ) (α : List Sym) (s : State) → Nested s (act a ∷ α) → length s.frames ≡ suc i → a ≡ 1 → 1 ≤ i
inner_one a i α s n e z =
    let m = (nest_down 0 1 0 n.inner a α (λ y. absurd (omega arith)) z n.frame_nest).0 in
    let q = n.inner_is in
    omega arith

tiles : (alike : ℕ → ℕ → Bool) {α : List Sym} {k : ℕ} {s t : State} {w : List ℕ} → Reads State Refusal forms (does alike) α k s w t → Nested s α
    → (i : ℕ) → length s.frames ≡ suc i → (b : Bool) → Units i b α → Standing k s.frames → Tiling b k s.frames → Ended (k + length w) t
tiles alike {k = k} {t = t} done n i e b u st ti = let z : k ≡ k + 0 = omega arith in record { flag = b; tiling = subst (λ (x : ℕ). Tiling b x t.frames) z ti }
tiles alike (eat {a = a} {k = k} {α = α} {w = w} {s = s} {s' = t} r) n i e b u st ti =
    let z : suc k + length w ≡ k + suc (length w) = omega arith in
    let l = u.0 in
    subst (λ (x : ℕ). Ended x t) z
    (tiles alike r (nested_eat a α s n) i e false u.1 (standing_eat k s.frames st (omega arith)) (later b k (suc k) s.frames (omega arith) ti))
tiles alike (acts {a = a} {k = k} {α = α} {s = s} {t = v} q r) n i e b u st ti =
    let m = step alike k s v α b i e st ti a q (inner_one a i α s n e) u in
    tiles alike r (nested_act alike k a α s v q n) _ m.size m.flag m.left (kept alike k s v a q st) m.tiling
tiles alike (grow {n = m} {k = k} {α = α} {s = s} p l q r) n i e b u st ti =
    tiles alike r (nested_grow p l m α s n) i e false (units_grow i b p m α l q u) st (lowered b k s.frames ti)

-- the units of a file tile its elements
pub rows_tiled : (alike : ℕ → ℕ → Bool) (w : List ℕ) (s : State) → Reading alike w s → Tiled 0 (length w) (state_rows s)
rows_tiled alike w s r =
    let z : 0 + length w ≡ length w = omega arith in
    let m = tiles alike r nested_start 0 refl false ((λ _. tt), tt) (bare {lo = 0} {hi = 0} (omega arith), refl) (none refl) in
    only m.flag s.frames (one_frame alike w s r) (subst (λ (x : ℕ). Tiling m.flag x s.frames) z m.tiling)
  where
    only : (b : Bool) (fs : List Frame) → length fs ≡ 1 → Tiling b (length w) fs → Tiled 0 (length w) (top fs).rows
    only b [] e h = absurd (omega arith)
    only b (o ∷ []) e h = h
    only b (d ∷ o ∷ fs) e h = absurd (omega arith)
