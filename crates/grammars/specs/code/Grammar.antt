-- A grammar as data, and what it generates. No grammar in particular stands here. Assumes nothing: these are definitions.
use Rattle.std.specs.Prelude.{ℕ, ◌<◌, ◌≡◌, List, [], ◌∷◌, ◌++◌, get_or}

-- a symbol of a rule: an element of a kind, what another rule names, or an action, which reads nothing
pub data Sym : Type 0 where
  tok : ℕ → Sym
  nt : ℕ → Sym
  act : ℕ → Sym

-- rule p, of `count`, says that `nt (lhs p)` may read `body p`
pub record Grammar : Type 0 where
  pub count : ℕ
  pub lhs : ℕ → ℕ
  pub body : ℕ → List Sym

-- the row of symbols α can be read as the kinds w
pub data Gen (G : Grammar) : List Sym → List ℕ → Type 0 where
  done : Gen G [] []
  eat : {a : ℕ} {α : List Sym} {w : List ℕ} → Gen G α w → Gen G (tok a ∷ α) (a ∷ w)
  skip : {a : ℕ} {α : List Sym} {w : List ℕ} → Gen G α w → Gen G (act a ∷ α) w
  grow : {n : ℕ} {α : List Sym} {w : List ℕ} (p : ℕ) → p < G.count → G.lhs p ≡ n → Gen G (G.body p ++ α) w → Gen G (nt n ∷ α) w

-- the next element's kind, 0 at the end
abbrev pub look : List ℕ → ℕ
look [] = 0
look (t ∷ w) = t

-- A table of rules: a line to each name, a column to each next kind, in it the rule's number and one more, or 0.
abbrev pub predict_by : List (List ℕ) → ℕ → ℕ → ℕ
predict_by picks n t = get_or (get_or picks n []) t 0
