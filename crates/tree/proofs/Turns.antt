-- The scan's turns in the code's own terms: what stands on top of the stack, and what each turn makes of it. Assumes nothing.
use Prim.Native.Nat.{ℕ, suc, ◌+◌, ◌-◌, ◌≤◌, ◌<◌}
use mathlib.Core.Path.{◌≡◌, refl, sym as flip, ◌∙◌, ap, subst}
use mathlib.Core.Logic.{inl, inr}
use mathlib.Core.List.{List, [], ◌∷◌, ◌++◌}
use native.Mathlib.Omega.{arith}
use native.Mathlib.Numerals.{add-one}
use lib.ListN.{length, get_or, drop, set, length-append, length-drop, drop_of_length-le}
use lib.Seq.{drop-cons}
use borrow.Author.Tests.{lt-ltb, le-ltb}
use Rattle.grammars.specs.code.Grammar.{Sym, tok, nt, act, look}
use Rattle.grammars.specs.code.Actions.{End}
use Rattle.grammars.proofs.Budget.{due, due_grow}
use Rattle.forms.specs.code.Kinds.{kind_count}
use Rattle.forms.specs.code.Rules.{forms, body}
use Rattle.forms.specs.code.RuleNames.{file, constant, subtype, name_number}
use Rattle.forms.specs.code.Picks.{predict}
use Rattle.forms.specs.code.RuleActions.{State, Refusal}
use Rattle.forms.specs.code.Reading.{reading_from}
use Rattle.forms.proofs.Tests as tests
use Rattle.same_names.specs.Alike.{same_name}
use Rattle.form_table.specs.code.Symbols.{first_action, sym_of, syms}
use Rattle.tree.specs.code.Room.{bottom, stack_words, outermost, frames_words, most_rows}
use Rattle.tree.specs.code.Answers.{terminals_of}
use Rattle.tree.specs.code.Held.{ScanStarts}
use Rattle.tree.proofs.Lists.{length_syms, terminals_size, drop_set_here, four_pushed}
use Rattle.tree.proofs.Going as going
use Rattle.tree.proofs.Going.{Going}

pub outer_frame : (frames : List ℕ) → length frames ≡ frames_words → drop outermost (set (set (set (set frames outermost 0) (outermost + 1) 0) (outermost + 2) 0) (outermost + 3) 0) ≡ 0 ∷ 0 ∷ 0 ∷ 0 ∷ []
outer_frame frames e =
    four_pushed frames outermost frames_words 0 0 0 0 refl (omega arith) ∙ ap (λ (l : List ℕ). 0 ∷ 0 ∷ 0 ∷ 0 ∷ l) (drop_of_length-le frames {i = frames_words} (omega arith))

pub first_stack : (stk : List ℕ) (from : ℕ) → length stk ≡ stack_words → syms (drop bottom (set stk bottom from)) ≡ sym_of from ∷ []
first_stack stk from e = ap syms (drop_set_here stk bottom from (omega arith) ∙ ap (λ (l : List ℕ). from ∷ l) (drop_of_length-le stk {i = stack_words} (omega arith)))

-- the measure
abbrev pub to_do : ℕ → List ℕ → ℕ → ℕ → ℕ
to_do n stk sp at = due tests.weight tests.leads (syms (drop sp stk)) (n - at)

module _ (text elements : List ℕ) (n : ℕ) (stk : List ℕ) (sp : ℕ) (size : length stk ≡ stack_words) where
  abbrev left : List Sym
  left = syms (drop sp stk)

  abbrev rest : List Sym
  rest = syms (drop (sp + 1) stk)

  on_top_lem : sp < stack_words → left ≡ sym_of (get_or stk sp 0) ∷ rest
  on_top_lem l = ap syms (drop-cons stk sp 0 (omega arith) ∙ ap (λ (i : ℕ). get_or stk sp 0 ∷ drop i stk) (flip (add-one sp)))

  on_tok : sp < stack_words → get_or stk sp 0 < kind_count → left ≡ tok (get_or stk sp 0) ∷ rest
  on_tok l h = on_top_lem l ∙ rw (lt-ltb (get_or stk sp 0) kind_count h)

  on_nt : sp < stack_words → kind_count ≤ get_or stk sp 0 → get_or stk sp 0 < first_action → left ≡ nt (get_or stk sp 0 - kind_count) ∷ rest
  on_nt l h m = on_top_lem l ∙ rw (le-ltb (get_or stk sp 0) kind_count h, lt-ltb (get_or stk sp 0) first_action m)

  on_act : sp < stack_words → first_action ≤ get_or stk sp 0 → left ≡ act (get_or stk sp 0 - first_action) ∷ rest
  on_act l h = on_top_lem l ∙ rw (le-ltb (get_or stk sp 0) kind_count (omega arith), le-ltb (get_or stk sp 0) first_action h)

  rest_size : sp < stack_words → length rest ≡ bottom - sp
  rest_size l = length_syms (drop (sp + 1) stk) ∙ length-drop (sp + 1) stk ∙ numbers (omega arith)
    where
      numbers : {x y : ℕ} → x ≡ y → x ≡ y
      numbers e = e

  left_size : sp ≤ stack_words → length left ≡ stack_words - sp
  left_size l = length_syms (drop sp stk) ∙ length-drop sp stk ∙ ap (λ (x : ℕ). x - sp) size

  module _ {goal : End State Refusal} {frames cells next heads : List ℕ} {fp depth used at : ℕ} (g : Going text elements n goal left frames cells next heads fp depth used at) where
    pub at_end : stack_words ≤ sp → Going text elements n goal [] frames cells next heads fp depth used at
    at_end l = subst (λ (α : List Sym). Going text elements n goal α frames cells next heads fp depth used at) (ap syms (drop_of_length-le stk {i = sp} (omega arith))) g

    pub at_tok : sp < stack_words → get_or stk sp 0 < kind_count → Going text elements n goal (tok (get_or stk sp 0) ∷ rest) frames cells next heads fp depth used at
    at_tok l h = subst (λ (α : List Sym). Going text elements n goal α frames cells next heads fp depth used at) (on_tok l h) g

    pub at_nt : sp < stack_words → kind_count ≤ get_or stk sp 0 → get_or stk sp 0 < first_action → Going text elements n goal (nt (get_or stk sp 0 - kind_count) ∷ rest) frames cells next heads fp depth used at
    at_nt l h m = subst (λ (α : List Sym). Going text elements n goal α frames cells next heads fp depth used at) (on_nt l h m) g

    pub at_act : sp < stack_words → first_action ≤ get_or stk sp 0 → Going text elements n goal (act (get_or stk sp 0 - first_action) ∷ rest) frames cells next heads fp depth used at
    at_act l h = subst (λ (α : List Sym). Going text elements n goal α frames cells next heads fp depth used at) (on_act l h) g

    -- what the action needs
    pub room_frames : sp < stack_words → length frames ≡ frames_words → first_action ≤ get_or stk sp 0 → 4 ≤ fp
    room_frames l e h = omega (arith, going.frames_room text elements n goal g, going.stack_bound text elements n goal g)

    pub room_rows : sp < stack_words → at ≤ 8192 → used + 1 < most_rows
    room_rows l h = omega (arith, going.rows_bound text elements n goal g, going.stack_bound text elements n goal g)

  pub less_eat : (at : ℕ) → sp < stack_words → get_or stk sp 0 < kind_count → at < n → due tests.weight tests.leads rest (n - (at + 1)) < to_do n stk sp at
  less_eat at l h m =
      let z : n - at ≡ suc (n - (at + 1)) = omega arith in
      subst (λ (α : List Sym). due tests.weight tests.leads rest (n - (at + 1)) < due tests.weight tests.leads α (n - at)) (flip (on_tok l h)) (omega arith)

  pub less_act : (at : ℕ) → sp < stack_words → first_action ≤ get_or stk sp 0 → due tests.weight tests.leads rest (n - at) < to_do n stk sp at
  less_act at l h =
      subst (λ (α : List Sym). due tests.weight tests.leads rest (n - at) < due tests.weight tests.leads α (n - at)) (flip (on_act l h)) (omega arith)

  -- a rule
  module _ (at t p : ℕ) (l : sp < stack_words) (h : kind_count ≤ get_or stk sp 0) (m : get_or stk sp 0 < first_action) (et : t ≡ look (drop at (terminals_of n elements))) (eq : predict (get_or stk sp 0 - kind_count) t ≡ p + 1) where
    pub rule_is : predict (get_or stk sp 0 - kind_count) (look (drop at (terminals_of n elements))) ≡ suc p
    rule_is = ap (predict (get_or stk sp 0 - kind_count)) (flip et) ∙ eq ∙ add-one p

    pub rule_in : p < forms.count
    rule_in = ((tests.forms_ll).table (get_or stk sp 0 - kind_count) (look (drop at (terminals_of n elements))) p rule_is).0

    module _ {goal : End State Refusal} {frames cells next heads : List ℕ} {fp depth used : ℕ} (g : Going text elements n goal left frames cells next heads fp depth used at) where
      grown : Going text elements n goal (body p ++ rest) frames cells next heads fp depth used at
      grown = going.by_rule text elements n goal (at_nt g l h m) p rule_is

      pub rule_room : (k : ℕ) → k ≡ length (body p) → k ≤ sp + 1
      rule_room k e = omega (arith, going.stack_bound text elements n goal grown, length-append (body p) rest, rest_size l)

      pub rule_on : (k : ℕ) (stk' : List ℕ) → k ≡ length (body p) → syms (drop (sp + 1 - k) stk') ≡ body p ++ rest
          → Going text elements n goal (syms (drop (sp + 1 - k) stk')) frames cells next heads fp depth used at
      rule_on k stk' e r = subst (λ (α : List Sym). Going text elements n goal α frames cells next heads fp depth used at) (flip r) grown

    pub rule_less : (α : List Sym) → α ≡ body p ++ rest → due tests.weight tests.leads α (n - at) < to_do n stk sp at
    rule_less α r =
        subst (λ (β : List Sym). due tests.weight tests.leads β (n - at) < to_do n stk sp at) (flip r)
        (subst (λ (β : List Sym). due tests.weight tests.leads (body p ++ rest) (n - at) < due tests.weight tests.leads β (n - at)) (flip (on_nt l h m))
        (subst (λ (x : ℕ). due tests.weight tests.leads (body p ++ rest) x < due tests.weight tests.leads (nt (get_or stk sp 0 - kind_count) ∷ rest) x)
        (length-drop at (terminals_of n elements) ∙ ap (λ (x : ℕ). x - at) (terminals_size n elements))
        (due_grow body predict tests.weight tests.leads tests.steps_paid (get_or stk sp 0 - kind_count) p rest (drop at (terminals_of n elements)) rule_is)))

-- the first turn
module _ (text elements : List ℕ) (n from : ℕ) (stk frames cells next heads : List ℕ) (stack : syms (drop bottom stk) ≡ sym_of from ∷ []) (size : length frames ≡ frames_words)
    (outer : drop outermost frames ≡ 0 ∷ 0 ∷ 0 ∷ 0 ∷ []) (empty : get_or heads 0 0 ≡ 0) where
  abbrev Goal : End State Refusal
  Goal = reading_from (sym_of from) (same_name text elements) (terminals_of n elements)

  first_at_lem : (m : ℕ) → sym_of from ≡ nt m → tests.height m ≤ 63 → tests.spare m ≡ 0 → tests.weight m < 128
      → Going text elements n Goal (syms (drop bottom stk)) frames cells next heads outermost 0 0 0
  first_at_lem m e low none light =
      subst (λ (α : List Sym). Going text elements n Goal α frames cells next heads outermost 0 0 0) (flip (stack ∙ ap (λ (x : Sym). x ∷ []) e))
      (going.begins text elements n Goal m low none light (ap (λ (x : Sym). reading_from x (same_name text elements) (terminals_of n elements)) e) frames cells next heads size outer empty)

  pub first_turn : ScanStarts from → Going text elements n Goal (syms (drop bottom stk)) frames cells next heads outermost 0 0 0
  first_turn (inl e) = first_at_lem (name_number file) (ap sym_of e) (omega arith) refl (omega arith)
  first_turn (inr (inl e)) = first_at_lem (name_number constant) (ap sym_of e) (omega arith) refl (omega arith)
  first_turn (inr (inr e)) = first_at_lem (name_number subtype) (ap sym_of e) (omega arith) refl (omega arith)
