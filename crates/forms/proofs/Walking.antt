-- The walk over the elements as the machine's frames have it: a name is told by its element's number and one more, 0 where there is none. It
-- closes what the walk of specs/Closing.antt closes. Assumes nothing.
use Prim.Native.Nat.{ℕ, zero, suc, ◌-◌}
use mathlib.Core.Path.{◌≡◌, refl, sym, ◌∙◌, ap, ap₂}
use mathlib.Core.Bool.{Bool, true, false, ◌&&◌, cond}
use mathlib.Core.List.{List, [], ◌∷◌}
use native.Mathlib.Omega.{arith}
use lib.ListN.{get_or}
use Rattle.laws.proofs.Laws.{clash}
use Rattle.forms.specs.code.RuleActions.{frame_is_named}
use Rattle.forms.specs.Closing.{Name, no_name, element, is_identifier, is_end, is_colon, behind_unit, opens_one, behind_end, before_last, is_named_as}
use Rattle.forms.specs.Closing as paper

-- what is closed by name: nothing; or what has this name
pub data Closed : Type 0 where
  nothing : Closed
  named : ℕ → Closed

pub record Walk : Type 0 where
  pub count : ℕ
  pub last : ℕ
  pub names : List ℕ
  pub ends : Closed

abbrev pub innermost : List ℕ → ℕ
innermost [] = 0
innermost (n ∷ ns) = n

abbrev pub around : List ℕ → List ℕ
around [] = []
around (n ∷ ns) = ns

abbrev pub is_nothing : Closed → Bool
is_nothing nothing = true
is_nothing (named n) = false

-- the label of what opens after an element of kind p, k elements having been read: the identifier before the colon
abbrev pub label_of : ℕ → ℕ → ℕ
label_of p k = cond (is_colon p) (k - 1) 0

-- the names of what stands open after one more element, of kind t
abbrev pub names_after : Walk → ℕ → List ℕ
names_after x t =
    cond (is_end t) (around x.names)
    (cond (behind_unit x.last t && is_nothing x.ends) (suc x.count ∷ x.names)
    (cond (opens_one x.last t) (label_of x.last x.count ∷ x.names)
    x.names))

-- what the end closes after which that element stands, with nothing but its word between
abbrev pub ends_after : Walk → ℕ → Closed
ends_after x t = cond (is_end t) (named (innermost x.names)) (cond (behind_end x.last t) x.ends nothing)

abbrev pub walked : Walk → ℕ → Walk
walked x t = record { count = suc x.count; last = t; names = names_after x t; ends = ends_after x t }

-- after k more elements of w
unfoldable pub walk_over : Walk → List ℕ → ℕ → Walk
walk_over x w zero = x
walk_over x [] (suc k) = x
walk_over x (t ∷ w) (suc k) = walk_over (walked x t) w k

-- before the first element
abbrev pub unwalked : Walk
unwalked = record { count = 0; last = 0; names = []; ends = nothing }

-- what an element of kind t closes by name: a closing name is an identifier right after end, or after end and its word
abbrev pub closed_by : Walk → ℕ → Closed
closed_by x t = cond (is_identifier t) x.ends nothing

-- what element k closes by name
abbrev pub closes_at : List ℕ → ℕ → Closed
closes_at w k = closed_by (walk_over unwalked w k) (get_or w k 0)

-- a name told by its number
abbrev pub name_of : ℕ → Name
name_of zero = no_name
name_of (suc n) = element n

abbrev closed_of : Closed → paper.Closed
closed_of nothing = paper.nothing
closed_of (named n) = paper.named (name_of n)

abbrev names_of : List ℕ → List Name
names_of [] = []
names_of (n ∷ ns) = name_of n ∷ names_of ns

abbrev walk_of : Walk → paper.Walk
walk_of x = record { count = x.count; last = x.last; names = names_of x.names; ends = closed_of x.ends }

through : {A B : Type 0} (f : A → B) (b : Bool) (x y : A) → f (cond b x y) ≡ cond b (f x) (f y)
through f true x y = refl
through f false x y = refl

innermost_of : (l : List ℕ) → name_of (innermost l) ≡ paper.innermost (names_of l)
innermost_of [] = refl
innermost_of (n ∷ l) = refl

around_of : (l : List ℕ) → names_of (around l) ≡ paper.closes_innermost (names_of l)
around_of [] = refl
around_of (n ∷ l) = refl

nothing_of : (c : Closed) → is_nothing c ≡ paper.is_nothing (closed_of c)
nothing_of nothing = refl
nothing_of (named n) = refl

before_last_lem : (k : ℕ) → name_of (k - 1) ≡ before_last k
before_last_lem zero = refl
before_last_lem (suc zero) = refl
before_last_lem (suc (suc k)) = let z : suc (suc k) - 1 ≡ suc k = omega arith in ap name_of z

label_of_lem : (p k : ℕ) → name_of (label_of p k) ≡ cond (is_colon p) (before_last k) no_name
label_of_lem p k = through name_of (is_colon p) (k - 1) 0 ∙ ap (λ (n : Name). cond (is_colon p) n no_name) (before_last_lem k)

names_of_lem : (x : Walk) (t : ℕ) → names_of (names_after x t) ≡ paper.names_after (walk_of x) t
names_of_lem x t =
    through names_of (is_end t) (around x.names) _
    ∙ ap₂ (cond (is_end t)) (around_of x.names)
    (through names_of (behind_unit x.last t && is_nothing x.ends) (suc x.count ∷ x.names) _
    ∙ ap (λ (b : Bool). cond (behind_unit x.last t && b) (element x.count ∷ names_of x.names) (names_of (cond (opens_one x.last t) (label_of x.last x.count ∷ x.names) x.names))) (nothing_of x.ends)
    ∙ ap (cond (behind_unit x.last t && paper.is_nothing (closed_of x.ends)) (element x.count ∷ names_of x.names))
    (through names_of (opens_one x.last t) (label_of x.last x.count ∷ x.names) x.names
    ∙ ap (λ (n : Name). cond (opens_one x.last t) (n ∷ names_of x.names) (names_of x.names)) (label_of_lem x.last x.count)))

ends_of : (x : Walk) (t : ℕ) → closed_of (ends_after x t) ≡ paper.ends_after (walk_of x) t
ends_of x t =
    through closed_of (is_end t) (named (innermost x.names)) _
    ∙ ap₂ (cond (is_end t)) (ap paper.named (innermost_of x.names)) (through closed_of (behind_end x.last t) x.ends nothing)

walked_of : (x : Walk) (t : ℕ) → walk_of (walked x t) ≡ paper.walked (walk_of x) t
walked_of x t = ap₂ (λ (l : List Name) (c : paper.Closed). record { count = suc x.count; last = t; names = l; ends = c }) (names_of_lem x t) (ends_of x t)

walk_of_lem : (x : Walk) (w : List ℕ) (k : ℕ) → walk_of (walk_over x w k) ≡ paper.walk_over (walk_of x) w k
unfolding walk_over paper.walk_over
walk_of_lem x w zero = refl
walk_of_lem x [] (suc k) = refl
walk_of_lem x (t ∷ w) (suc k) = walk_of_lem (walked x t) w k ∙ ap (λ (y : paper.Walk). paper.walk_over y w k) (walked_of x t)

-- the two close the same
pub closes_of : (w : List ℕ) (k : ℕ) → closed_of (closes_at w k) ≡ paper.closes_at w k
closes_of w k =
    through closed_of (is_identifier (get_or w k 0)) (walk_over unwalked w k).ends nothing
    ∙ ap (λ (y : paper.Walk). paper.closed_by y (get_or w k 0)) (walk_of_lem unwalked w k)

pub named_as : (alike : ℕ → ℕ → Bool) (n k : ℕ) → is_named_as alike (name_of n) k ≡ frame_is_named alike n k
named_as alike zero k = refl
named_as alike (suc n) k = refl

-- there
pub closes_there : (w : List ℕ) (k n : ℕ) → closes_at w k ≡ named n → paper.closes_at w k ≡ paper.named (name_of n)
closes_there w k n e = sym (closes_of w k) ∙ ap closed_of e

-- and back
pub closes_back : (w : List ℕ) (k : ℕ) (o : Name) → paper.closes_at w k ≡ paper.named o → (n : ℕ) × ((closes_at w k ≡ named n) × (name_of n ≡ o))
closes_back w k o e = by (closes_at w k) refl (closes_of w k ∙ e)
  where
    by : (c : Closed) → closes_at w k ≡ c → closed_of (closes_at w k) ≡ paper.named o → (n : ℕ) × ((closes_at w k ≡ named n) × (name_of n ≡ o))
    by nothing q d = let z : ◌≡◌ {A = paper.Closed} paper.nothing (paper.named o) = sym (ap closed_of q) ∙ d in let y : ◌≡◌ {A = ℕ} 0 1 = cc in clash y
    by (named n) q d = let z : ◌≡◌ {A = paper.Closed} (paper.named (name_of n)) (paper.named o) = sym (ap closed_of q) ∙ d in (n, (q, cc))
