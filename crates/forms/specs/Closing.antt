-- Which name or label closes what, said of the elements alone (01, refusal 6: "closing name or label differs, or closes what had none"). The
-- names of the units, blocks, processes, loops and ifs that stand open are a stack, and each end closes the innermost.
-- Assumes nothing: these are definitions.
use Rattle.std.specs.Prelude.{ℕ, zero, suc, Bool, true, false, ◌&&◌, cond, List, [], ◌∷◌, eqb, get_or}
use Prim.Native.String.{String}
use Rattle.forms.specs.Spellings.{identifier, spelled_among}
use Rattle.forms.specs.Open.{Role, opening, closing, neither, role}

-- the name or label of what stands open: an element, or none
pub data Name : Type 0 where
  no_name : Name
  element : ℕ → Name

-- what an element closes by name: nothing; or what has this name
pub data Closed : Type 0 where
  nothing : Closed
  named : Name → Closed

-- What is known when some elements were read: how many; the kind of the last, 0 if there is none; the names of what stands open, the
-- innermost first; and after end, or after end and its word, what that end closes.
pub record Walk : Type 0 where
  pub count : ℕ
  pub last : ℕ
  pub names : List Name
  pub ends : Closed

abbrev pub is_nothing : Closed → Bool
is_nothing nothing = true
is_nothing (named n) = false

abbrev pub is_opening : Role → Bool
is_opening opening = true
is_opening closing = false
is_opening neither = false

-- a unit has the name right after its word
abbrev pub unit_words : List String
unit_words = "package" ∷ "entity" ∷ "architecture" ∷ []

-- the words that may stand between end and a name
abbrev pub closed_words : List String
closed_words = "package" ∷ "entity" ∷ "architecture" ∷ "block" ∷ "process" ∷ "loop" ∷ []

abbrev pub is_identifier : ℕ → Bool
is_identifier t = eqb t identifier

abbrev pub is_end : ℕ → Bool
is_end t = spelled_among t ("end" ∷ [])

abbrev pub is_colon : ℕ → Bool
is_colon t = spelled_among t (":" ∷ [])

-- an identifier after a unit's word
abbrev pub behind_unit : ℕ → ℕ → Bool
behind_unit p t = is_identifier t && spelled_among p unit_words

-- the word of a block, process, loop or if that opens
abbrev pub opens_one : ℕ → ℕ → Bool
opens_one p t = is_opening (cond (spelled_among t ("(" ∷ [])) neither (role p t))

-- a word right after end, of what may be closed by name
abbrev pub behind_end : ℕ → ℕ → Bool
behind_end p t = is_end p && spelled_among t closed_words

-- The three steps. A unit opens, with its name, which is element k.
abbrev pub opens_named : ℕ → List Name → List Name
opens_named k names = element k ∷ names

-- the element before the last of k
abbrev pub before_last : ℕ → Name
before_last zero = no_name
before_last (suc zero) = no_name
before_last (suc (suc k)) = element k

-- A block, process, loop or if opens after the last of k elements, of kind p: with its label, the identifier before the colon, or with none.
abbrev pub opens_labelled : ℕ → ℕ → List Name → List Name
opens_labelled p k names = cond (is_colon p) (before_last k) no_name ∷ names

-- An end closes the innermost: its name, and what stands open around it.
abbrev pub innermost : List Name → Name
innermost [] = no_name
innermost (n ∷ names) = n

abbrev pub closes_innermost : List Name → List Name
closes_innermost [] = []
closes_innermost (n ∷ names) = names

-- the names of what stands open after one more element, of kind t; after end and its word an identifier is no unit's name
abbrev pub names_after : Walk → ℕ → List Name
names_after x t =
    cond (is_end t) (closes_innermost x.names)
    (cond (behind_unit x.last t && is_nothing x.ends) (opens_named x.count x.names)
    (cond (opens_one x.last t) (opens_labelled x.last x.count x.names)
    x.names))

-- what the end closes after which that element stands, with nothing but its word between
abbrev pub ends_after : Walk → ℕ → Closed
ends_after x t = cond (is_end t) (named (innermost x.names)) (cond (behind_end x.last t) x.ends nothing)

abbrev pub walked : Walk → ℕ → Walk
walked x t = record { count = suc x.count; last = t; names = names_after x t; ends = ends_after x t }

-- after k more elements of w
unfoldable pub walk_over : Walk → List ℕ → ℕ → Walk
walk_over x w zero = x
walk_over x [] (suc k) = x
walk_over x (t ∷ w) (suc k) = walk_over (walked x t) w k

-- before the first element
abbrev pub unwalked : Walk
unwalked = record { count = 0; last = 0; names = []; ends = nothing }

-- what an element of kind t closes by name: a closing name is an identifier right after end, or after end and its word
abbrev pub closed_by : Walk → ℕ → Closed
closed_by x t = cond (is_identifier t) x.ends nothing

-- what element k closes by name
abbrev pub closes_at : List ℕ → ℕ → Closed
closes_at w k = closed_by (walk_over unwalked w k) (get_or w k 0)

-- what has this name is named as element k, where `alike` tells whether two elements are the same name
abbrev pub is_named_as : (ℕ → ℕ → Bool) → Name → ℕ → Bool
is_named_as alike no_name k = false
is_named_as alike (element n) k = alike n k
