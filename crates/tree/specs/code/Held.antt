-- What the code's arrays hold. A row is appended when it is complete, and put in front of the list of its base, which is how many rows
-- there were when its frame began: `heads` has each base's list, `next` the links, 0 ending one, a row's number and one more else. The
-- rows of a frame are the lists of the bases from its own to that of the frame inside it. What stands after the base of the next row is
-- of no account: the arrays are lent, and hold any words at the start. Assumes nothing: these are definitions.
use Rattle.refusals.specs.declared.StrictRefusal.{StrictRefusal}
use Rattle.tree.specs.declared.Moved.{Moved}
use Rattle.std.specs.Prelude.{ℕ, suc, ◌+◌, ◌*◌, ◌≤◌, ◌≡◌, ◌⊎◌, Bool, true, false, List, [], ◌∷◌, ◌++◌, leb, length, get_or, drop, Result, Ok, Err}
use Rattle.places.specs.Sizes.{most_elements}
use Rattle.grammars.specs.code.Actions.{Step, go, stop, End, read, bad, stopped, spent}
use Rattle.forms.specs.code.RuleNames.{first_row, file, constant, subtype}
use Rattle.forms.specs.RowWords.{row_at}
use Rattle.forms.specs.Tree.{Row}
use Rattle.forms.specs.code.RuleActions.{Frame, State, Refusal, state_rows}
use Rattle.form_table.specs.code.FormBytes.{encode}
use Rattle.refusals.specs.declared.StrictRefusal.TheVariants as refusal
use Rattle.tree.specs.code.Answers.{stopped_at, Answer}
use Rattle.tree.specs.code.Room.{frame_words}

-- the list of rows that begins at h
pub data Linked (cells next : List ℕ) : ℕ → List Row → Type 0 where
  none : Linked cells next 0 []
  more : {r h : ℕ} {l : List Row} → get_or next r 0 ≡ h → h ≤ r → Linked cells next h l → Linked cells next (suc r) (row_at cells r ∷ l)

-- the lists of the bases from lo to hi
pub data Spans (cells next heads : List ℕ) (hi : ℕ) : ℕ → List Row → Type 0 where
  empty : {lo : ℕ} → lo ≡ hi → Spans cells next heads hi lo []
  join : {lo h : ℕ} {l m all : List Row} → get_or heads lo 0 ≡ h → Linked cells next h l → Spans cells next heads hi (suc lo) m → l ++ m ≡ all → Spans cells next heads hi lo all

-- the frames, four words to a frame: first element, operator element, base, name and one more
pub data Frames (cells next heads : List ℕ) : ℕ → List ℕ → List Frame → Type 0 where
  outermost : Frames cells next heads 0 [] []
  inside : {first operator base name top : ℕ} {words : List ℕ} {fs : List Frame} {rows : List Row}
      → Spans cells next heads top base rows → base + length rows ≡ top → Frames cells next heads base words fs
      → Frames cells next heads top (first ∷ operator ∷ base ∷ name ∷ words) (record { first = first; operator = operator; name = name; rows = rows } ∷ fs)

-- the arrays hold the frames fs, from fp on, and `used` rows
pub record Held (frames cells next heads : List ℕ) (fp used : ℕ) (fs : List Frame) : Type 0 where
  pub framed : Frames cells next heads used (drop fp frames) fs
  pub room : fp + frame_words * length fs ≡ length frames
  pub within : (i : ℕ) → i ≤ used → get_or heads i 0 ≤ used
  pub bare : get_or heads used 0 ≡ 0

-- the code of a symbol at which the scan may start: file, constant, subtype
abbrev pub ScanStarts : ℕ → Type 0
ScanStarts from = (from ≡ encode file) ⊎ ((from ≡ encode constant) ⊎ (from ≡ encode subtype))

-- how many rows there are after an action
abbrev pub pick_used : Bool → ℕ → ℕ
pick_used true u = u + 1
pick_used false u = u

abbrev pub used_after : ℕ → ℕ → ℕ
used_after a u = pick_used (leb first_row a) u

-- what an action did: the machine goes on, or refusal 6 or 7
abbrev pub Did : Type 0
Did = Result Moved StrictRefusal

-- what an action of the code did, when k elements were read, is what the action makes of the state
abbrev pub ActionDone : Did → List ℕ → List ℕ → List ℕ → List ℕ → (used k : ℕ) → Step State Refusal → Type 0
ActionDone (Ok m) frames cells next heads used k (go t) = Held frames cells next heads m.fp m.used t.frames × (t.depth ≡ m.depth) × (m.used ≡ used)
ActionDone (Err r) frames cells next heads used k (stop x) = r ≡ stopped_at k x
ActionDone (Ok m) frames cells next heads used k (stop x) = ⊥
ActionDone (Err r) frames cells next heads used k (go t) = ⊥

-- what the scan answers is how the reading ends
abbrev pub Tells : Answer → List ℕ → List ℕ → List ℕ → End State Refusal → Type 0
Tells (Ok used) cells next heads (read s) =
    Spans cells next heads used 0 (state_rows s) × (length (state_rows s) ≡ used) × (used ≤ most_elements) × ((i : ℕ) → i ≤ used → get_or heads i 0 ≤ used)
Tells (Err r) cells next heads (bad j) = r ≡ refusal.NoFile (record { 0 = j })
Tells (Err r) cells next heads (stopped j x) = r ≡ stopped_at j x
Tells (Ok used) cells next heads (bad j) = ⊥
Tells (Ok used) cells next heads (stopped j x) = ⊥
Tells (Ok used) cells next heads spent = ⊥
Tells (Err r) cells next heads (read s) = ⊥
Tells (Err r) cells next heads spent = ⊥
