-- What the actions of the rules do: the tree of a file, row by row, and refusals 6 and 7 (01, "Forms of the strict reading" and "Refusals
-- and their order"). `IsFile` says what a file is and which rows it has. Assumes nothing: these are definitions.
use Rattle.std.specs.Prelude.{ℕ, zero, suc, ◌+◌, ◌-◌, List, [], ◌∷◌, ◌++◌, Bool, false, cond, ltb, length}
use Rattle.grammars.specs.code.Grammar.{Gen}
use Rattle.grammars.specs.code.Actions.{Step, go, stop, Reads}
use Rattle.forms.specs.code.RuleNames.{file}
use Rattle.forms.specs.code.Rules.{forms}
use Rattle.forms.specs.Tree.{Row, most_open}

-- A frame is a stretch of the text that is being read: its first element, its operator element (the first one as long as there is none),
-- its name's element and one more (0 as long as there is none), and its rows so far, parent first.
pub record Frame : Type 0 where
  pub first : ℕ
  pub operator : ℕ
  pub name : ℕ
  pub rows : List Row

-- what has been read: the frames that are open, the innermost first and the file's own last; and how many parentheses, branches, loops,
-- processes and blocks stand open
pub record State : Type 0 where
  pub frames : List Frame
  pub depth : ℕ

-- why an action refuses: a closing name or label differs, or closes what had none (6); more than 32 open (7)
pub data Refusal : Type 0 where
  name_differs : Refusal
  too_deep : Refusal

pub data Action : Type 0 where
  opens : Action
  closes : Action
  marks : Action
  names : Action
  same : Action
  deeper : Action
  shallower : Action
  row : ℕ → Action

-- the actions by their numbers in the rules
abbrev pub action_of : ℕ → Action
action_of zero = opens
action_of (suc zero) = closes
action_of (suc (suc zero)) = marks
action_of (suc (suc (suc zero))) = names
action_of (suc (suc (suc (suc zero)))) = same
action_of (suc (suc (suc (suc (suc zero))))) = deeper
action_of (suc (suc (suc (suc (suc (suc zero)))))) = shallower
action_of (suc (suc (suc (suc (suc (suc (suc f))))))) = row f

abbrev pub fresh : ℕ → Frame
fresh k = record { first = k; operator = k; name = 0; rows = [] }

abbrev pub top : List Frame → Frame
top [] = fresh 0
top (f ∷ fs) = f

abbrev pub on_top : (Frame → Frame) → List Frame → List Frame
on_top g [] = []
on_top g (f ∷ fs) = g f ∷ fs

-- the innermost frame's rows become those of the frame around it
abbrev pub joined : List Frame → List Frame
joined [] = []
joined (f ∷ []) = f ∷ []
joined (f ∷ g ∷ fs) = record { first = g.first; operator = g.operator; name = g.name; rows = g.rows ++ f.rows } ∷ fs

abbrev pub marked : ℕ → Frame → Frame
marked k f = record { first = f.first; operator = k; name = f.name; rows = f.rows }

abbrev pub named : ℕ → Frame → Frame
named k f = record { first = f.first; operator = f.operator; name = k; rows = f.rows }

-- the row of form n that a frame has when k elements were read: over all its rows, parentheses around its operands included
abbrev pub frame_row : ℕ → ℕ → Frame → Row
frame_row n k f = record { form = n; first = f.first; count = k - f.first; rows = length f.rows + 1; operator = f.operator }

abbrev pub rowed : ℕ → ℕ → Frame → Frame
rowed n k f = record { first = f.first; operator = f.operator; name = f.name; rows = frame_row n k f ∷ f.rows }

-- a frame's name is that of element j
abbrev pub frame_is_named : (ℕ → ℕ → Bool) → ℕ → ℕ → Bool
frame_is_named alike zero j = false
frame_is_named alike (suc n) j = alike n j

-- an action when k elements were read, so that k - 1 is the one just read; `alike` tells whether two elements are the same name
abbrev pub do_action : (ℕ → ℕ → Bool) → Action → ℕ → State → Step State Refusal
do_action alike opens k s = go (record { frames = fresh k ∷ s.frames; depth = s.depth })
do_action alike closes k s = go (record { frames = joined s.frames; depth = s.depth })
do_action alike marks k s = go (record { frames = on_top (marked (k - 1)) s.frames; depth = s.depth })
do_action alike names k s = go (record { frames = on_top (named k) s.frames; depth = s.depth })
do_action alike same k s = cond (frame_is_named alike (top s.frames).name (k - 1)) (go s) (stop name_differs)
do_action alike deeper k s = cond (ltb s.depth most_open) (go (record { frames = s.frames; depth = s.depth + 1 })) (stop too_deep)
do_action alike shallower k s = go (record { frames = s.frames; depth = s.depth - 1 })
do_action alike (row n) k s = go (record { frames = on_top (rowed n k) s.frames; depth = s.depth })

unfoldable pub does : (ℕ → ℕ → Bool) → ℕ → ℕ → State → Step State Refusal
does alike a k s = do_action alike (action_of a) k s

-- before the first element: the file's own frame
abbrev pub start : State
start = record { frames = fresh 0 ∷ []; depth = 0 }

-- the rows of what was read
abbrev pub state_rows : State → List Row
state_rows s = (top s.frames).rows

-- The elements, of these kinds, are a file by the forms alone.
abbrev pub IsFile : List ℕ → Type 0
IsFile w = Gen forms (file ∷ []) w

-- The elements are a file, no closing name differs and no more than 32 ever stand open; what was read is s.
abbrev pub Reading : (ℕ → ℕ → Bool) → List ℕ → State → Type 0
Reading alike w s = Reads State Refusal forms (does alike) (file ∷ []) 0 start w s
