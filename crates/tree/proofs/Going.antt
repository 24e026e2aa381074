-- What the scan keeps true, turn by turn: the arrays hold a state from which the machine ends as it does from the start, and what is left
-- to read is within its bounds of steps, stack, frames and rows. Assumes nothing.
use Rattle.std.specs.Prelude.{Ok, Err}
use Prim.Native.Nat.{ℕ, suc, ◌+◌, ◌*◌, ◌-◌, ◌≤◌, ◌<◌}
use mathlib.Core.Path.{◌≡◌, refl, sym as flip, ◌∙◌, ap, ap₂, subst}
use mathlib.Core.Bool.{Bool, true, false}
use mathlib.Core.List.{List, [], ◌∷◌, ◌++◌}
use native.Mathlib.Omega.{arith}
use native.Mathlib.Numerals.{add-one}
use lib.Dec.{T, leb}
use lib.ListN.{length, get_or, drop, length-drop, drop_of_length-le}
use lib.Seq.{drop-cons, get_or-drop}
use borrow.Author.Tests.{eq-eqb, ne_eqb}
use Rattle.grammars.specs.code.Grammar.{Sym, tok, nt, act, look}
use Rattle.grammars.specs.code.Actions.{Step, go, stop, End, runs}
use Rattle.grammars.proofs.Room as room
use Rattle.grammars.proofs.Spare as spare
use Rattle.grammars.proofs.Budget as budget
use Rattle.same_names.specs.Alike.{same_name}
use Rattle.forms.specs.code.Rules.{forms, body}
use Rattle.forms.specs.code.Picks.{predict}
use Rattle.forms.specs.code.RuleActions.{State, Refusal, does, start}
use Rattle.forms.specs.code.Reading.{reading_from, steps}
use Rattle.forms.proofs.Tests as tests
use Rattle.forms.proofs.Nesting.{Nested, nested_grow, nested_eat, nested_act}
use Rattle.tree.specs.code.Room.{bottom, outermost, frames_words}
use Rattle.tree.specs.declared.Moved.{Moved}
use Rattle.refusals.specs.declared.StrictRefusal.{StrictRefusal}
use Rattle.tree.specs.code.Answers.{terminals_of, no_file_answer}
use Rattle.tree.specs.code.Held.{Frames, Held, ActionDone, Tells, used_after, pick_used}
use Rattle.tree.proofs.Lists.{terminals_size, look_at}
use Rattle.tree.proofs.Holding as holding

module _ (text elements : List ℕ) (n : ℕ) (goal : End State Refusal) where
  abbrev alike : ℕ → ℕ → Bool
  alike = same_name text elements

  -- what the elements are to the forms
  abbrev kinds : List ℕ
  kinds = terminals_of n elements

  -- α is left to read
  pub record Going (α : List Sym) (frames cells next heads : List ℕ) (fp depth used at : ℕ) : Type 0 where
    pub state : State
    pub left : ℕ
    pub same : goal ≡ runs body predict (does alike) left α (drop at kinds) at state
    pub paid : budget.due tests.weight tests.leads α (n - at) < left
    pub held : Held frames cells next heads fp used state.frames
    pub deep : state.depth ≡ depth
    pub lies : room.Lies tests.ending tests.height tests.height_pos α
    pub near : room.Near tests.deepening α
    pub nested : Nested state α
    pub fewer : spare.Fewer tests.is_row tests.spare used at α

  module _ {α : List Sym} {frames cells next heads : List ℕ} {fp depth used at : ℕ} (g : Going α frames cells next heads fp depth used at) where
    -- the bounds: the stack, the frames, the rows
    pub stack_bound : length α ≤ bottom
    stack_bound =
        let t = g.nested.most in
        omega (
          arith,
          room.lies_length tests.ending tests.height tests.height_pos α g.lies,
          room.nest_waits tests.deepening tests.ending 0 g.state.depth α (λ z. absurd (omega arith)) g.nested.open_nest,
          room.near_one tests.deepening α g.near,
        )

    pub frames_bound : fp + 4 ≤ length frames
    frames_bound =
        let r = g.held.room in
        let i = g.nested.inner_is in
        omega arith

    pub frames_room : length frames ≤ fp + 4 * length α + 4
    frames_room =
        let r = g.held.room in
        let i = g.nested.inner_is in
        omega (
          arith,
          room.nest_count tests.opening tests.closing 0 g.nested.inner α g.nested.frame_nest,
          room.times_length tests.closing α,
        )

    pub rows_bound : used + 1 ≤ at + length α
    rows_bound = spare.fewer_bound tests.is_row tests.spare used at α g.fewer

    pub base_bound : get_or frames (fp + 2) 0 ≤ used
    base_bound = subst (λ (x : ℕ). x ≤ used) (get_or-drop fp frames 2 0) (holding.base_low g.held.framed)

    pub depth_bound : depth ≤ 32
    depth_bound = subst (λ (x : ℕ). x ≤ 32) g.deep g.nested.most

    -- a turn is left
    turns : (w : List ℕ) → drop at kinds ≡ w → goal ≡ runs body predict (does alike) (suc (g.left - 1)) α w at g.state
    turns w e =
        let p = g.paid in
        let z : g.left ≡ suc (g.left - 1) = omega arith in
        g.same ∙ ap₂ (λ (l : ℕ) (x : List ℕ). runs body predict (does alike) l α x at g.state) z e

    more_left : at < n → drop at kinds ≡ get_or kinds at 0 ∷ drop (suc at) kinds
    more_left l = drop-cons kinds at 0 (omega (arith, terminals_size n elements))

    none_left : n ≤ at → drop at kinds ≡ []
    none_left l = drop_of_length-le kinds {i = at} (omega (arith, terminals_size n elements))

    left_size : length (drop at kinds) ≡ n - at
    left_size = length-drop at kinds ∙ ap (λ (x : ℕ). x - at) (terminals_size n elements)

  module _ {frames cells next heads : List ℕ} {fp depth used at : ℕ} where
    -- all read, or too much
    pub ends : (g : Going [] frames cells next heads fp depth used at) → n ≤ at → at ≤ n → n ≤ 8192 → Tells (Ok used) cells next heads goal
    unfolding runs
    ends g l m b =
        let f = holding.framed_end g.held.framed (g.nested.inner_is ∙ ap suc g.nested.frame_nest) in
        let r = rows_bound g in
        subst (Tells (Ok used) cells next heads) (flip (turns g [] (none_left g l))) (f.0, f.1, omega arith, g.held.within)

    pub too_much : (g : Going [] frames cells next heads fp depth used at) → at < n → Tells (no_file_answer at) cells next heads goal
    unfolding runs
    too_much g l = subst (Tells (no_file_answer at) cells next heads) (flip (turns g _ (more_left g l))) refl

    -- an element wanted
    module _ {a : ℕ} {α : List Sym} (g : Going (tok a ∷ α) frames cells next heads fp depth used at) where
      pub ends_early : n ≤ at → Tells (no_file_answer at) cells next heads goal
      unfolding runs
      ends_early l = subst (Tells (no_file_answer at) cells next heads) (flip (turns g [] (none_left g l))) refl

      pub wrong_kind : (t : ℕ) → at < n → t ≡ look (drop at kinds) → (a ≡ t → ⊥) → Tells (no_file_answer at) cells next heads goal
      unfolding runs
      wrong_kind t l e d =
          let q : t ≡ get_or kinds at 0 = e ∙ look_at kinds at (omega (arith, terminals_size n elements)) in
          subst (Tells (no_file_answer at) cells next heads) (flip (turns g _ (more_left g l))) (rw (ne_eqb a (get_or kinds at 0) (λ z. d (z ∙ flip q))) refl)

      pub right_kind : (t : ℕ) → at < n → t ≡ look (drop at kinds) → a ≡ t → Going α frames cells next heads fp depth used (at + 1)
      unfolding runs
      right_kind t l e d =
          let q : t ≡ get_or kinds at 0 = e ∙ look_at kinds at (omega (arith, terminals_size n elements)) in
          let p = g.paid in
          let z : n - at ≡ suc (n - (at + 1)) = omega arith in
          record {
            state = g.state;
            left = g.left - 1;
            same =
                turns g _ (more_left g l)
                ∙ rw (eq-eqb a (get_or kinds at 0) (d ∙ q)) refl
                ∙ ap (λ (x : ℕ). runs body predict (does alike) (g.left - 1) α (drop x kinds) x g.state) (flip (add-one at));
            paid = omega arith;
            held = g.held;
            deep = g.deep;
            lies = room.lies_eat tests.ending tests.height tests.height_pos a α g.lies;
            near = g.near;
            nested = nested_eat a α g.state g.nested;
            fewer = spare.fewer_eat tests.is_row tests.spare used at a α g.fewer;
          }

    -- a name to read
    module _ {m : ℕ} {α : List Sym} (g : Going (nt m ∷ α) frames cells next heads fp depth used at) where
      pub no_rule : predict m (look (drop at kinds)) ≡ 0 → Tells (no_file_answer at) cells next heads goal
      unfolding runs
      no_rule e = subst (Tells (no_file_answer at) cells next heads) (flip (turns g (drop at kinds) refl)) (rw e refl)

      pub by_rule : (p : ℕ) → predict m (look (drop at kinds)) ≡ suc p → Going (body p ++ α) frames cells next heads fp depth used at
      unfolding runs
      by_rule p e =
          let h = (tests.forms_ll).table m (look (drop at kinds)) p e in
          let b : p < forms.count = h.0 in
          let pd = g.paid in
          let dg : budget.due tests.weight tests.leads (body p ++ α) (n - at) < budget.due tests.weight tests.leads (nt m ∷ α) (n - at) =
          subst (λ (x : ℕ). budget.due tests.weight tests.leads (body p ++ α) x < budget.due tests.weight tests.leads (nt m ∷ α) x) (left_size g)
          (budget.due_grow body predict tests.weight tests.leads tests.steps_paid m p α (drop at kinds) e) in
          record {
            state = g.state;
            left = g.left - 1;
            same = turns g (drop at kinds) refl ∙ rw e refl;
            paid = omega arith;
            held = g.held;
            deep = g.deep;
            lies =
                room.lies_grow tests.ending tests.height tests.height_pos m (body p) α
                (subst (λ (x : ℕ). T (room.part tests.ending tests.height tests.height_pos x (body p))) h.1 (tests.stretch p b))
                (subst (λ (x : ℕ). T (room.parts tests.ending tests.height tests.height_pos x (body p))) h.1 (tests.stretches p b))
                g.lies;
            near = room.near_append tests.deepening (body p) α (tests.open_near p b) g.near;
            nested = nested_grow p b m α g.state g.nested;
            fewer =
                spare.fewer_grow tests.is_row tests.spare used at m (body p) α
                (subst (λ (x : ℕ). spare.debit tests.is_row tests.spare (body p) + 1 ≤ spare.credit (body p) + tests.spare x) h.1 (tests.rows_spare p b))
                g.fewer;
          }

    -- an action to do
    module _ {a : ℕ} {α : List Sym} (g : Going (act a ∷ α) frames cells next heads fp depth used at) where
      rows_after : (u : ℕ) → u ≡ used_after a used → spare.Fewer tests.is_row tests.spare u at α
      rows_after u e = by (leb 7 a) refl e
        where
          by : (b : Bool) → leb 7 a ≡ b → u ≡ pick_used b used → spare.Fewer tests.is_row tests.spare u at α
          by true q e = subst (λ (x : ℕ). spare.Fewer tests.is_row tests.spare x at α) (flip e) (spare.fewer_done tests.is_row tests.spare used at a α q g.fewer)
          by false q e = subst (λ (x : ℕ). spare.Fewer tests.is_row tests.spare x at α) (flip e) (spare.fewer_other tests.is_row tests.spare used at a α g.fewer)

      went : (fp' depth' used' : ℕ) (frames' cells' next' heads' : List ℕ) → (x : Step State Refusal) → does alike a at g.state ≡ x
          → ActionDone (Ok (record { fp = fp'; depth = depth'; used = used' })) frames' cells' next' heads' (used_after a used) at x → Going α frames' cells' next' heads' fp' depth' used' at
      unfolding runs
      went fp' depth' used' frames' cells' next' heads' (go t) e h =
          let p = g.paid in
          record {
            state = t;
            left = g.left - 1;
            same = turns g (drop at kinds) refl ∙ rw e refl;
            paid = omega arith;
            held = h.0;
            deep = h.1;
            lies = room.lies_act tests.ending tests.height tests.height_pos a α g.lies;
            near = room.near_act tests.deepening a α g.near;
            nested = nested_act alike at a α g.state t e g.nested;
            fewer = rows_after used' h.2;
          }
      went fp' depth' used' frames' cells' next' heads' (stop r) e h = absurd h

      pub goes_by : (m : Moved) (frames' cells' next' heads' : List ℕ) → ActionDone (Ok m) frames' cells' next' heads' (used_after a used) at (does alike a at g.state)
          → Going α frames' cells' next' heads' m.fp m.depth m.used at
      goes_by m frames' cells' next' heads' d = went m.fp m.depth m.used frames' cells' next' heads' (does alike a at g.state) refl d

      stops : (r : StrictRefusal) (f c k h c' k' h' : List ℕ) (x : Step State Refusal) → does alike a at g.state ≡ x → ActionDone (Err r) f c k h (used_after a used) at x
          → Tells (Err r) c' k' h' goal
      unfolding runs
      stops r f c k h c' k' h' (stop x) e d = subst (Tells (Err r) c' k' h') (flip (turns g (drop at kinds) refl)) (rw e d)
      stops r f c k h c' k' h' (go t) e d = absurd d

      pub stops_here : (x : StrictRefusal) (f c k h c' k' h' : List ℕ) → ActionDone (Err x) f c k h (used_after a used) at (does alike a at g.state) → Tells (Err x) c' k' h' goal
      stops_here x f c k h c' k' h' d = stops x f c k h c' k' h' (does alike a at g.state) refl d

  -- at the start, from a name that lies low enough, has no row to spare and costs less than an element pays for
  pub begins : (m : ℕ) → tests.height m ≤ 63 → tests.spare m ≡ 0 → tests.weight m < 128 → goal ≡ reading_from (nt m) alike kinds
      → (frames cells next heads : List ℕ) → length frames ≡ frames_words → drop outermost frames ≡ 0 ∷ 0 ∷ 0 ∷ 0 ∷ [] → get_or heads 0 0 ≡ 0
      → Going (nt m ∷ []) frames cells next heads outermost 0 0 0
  unfolding reading_from
  begins m low none light is frames cells next heads l e z =
      record {
        state = start;
        left = steps (length kinds);
        same = is;
        paid = omega (arith, terminals_size n elements);
        held =
            record {
              framed = subst (λ (x : List ℕ). Frames cells next heads 0 x start.frames) (flip e) (holding.framed_opens 0 holding.framed_none);
              room = omega arith;
              within = λ i u. let y : i ≡ 0 = omega arith in omega (arith, ap (λ (x : ℕ). get_or heads x 0) y);
              bare = z;
            };
        deep = refl;
        lies = record { now_low = omega arith; then_low = tt };
        near = refl;
        nested = record { inner = 0; inner_is = refl; frame_nest = refl; open_nest = refl; most = omega arith };
        fewer = omega arith;
      }
