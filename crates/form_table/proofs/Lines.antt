-- The rules' symbols in lines of sixteen, and their sizes. Assumes nothing.
use Prim.Native.Nat.{ℕ, zero, suc, ◌+◌, ◌*◌, ◌-◌, ◌≤◌, ◌<◌}
use mathlib.Core.Path.{◌≡◌, refl, ◌∙◌, ap}
use mathlib.Core.List.{List, [], ◌∷◌}
use mathlib.Core.Bool.{Bool, true, false, ◌&&◌}
use native.Mathlib.Omega.{arith}
use lib.Dec.{T, ltb, leb, leb→le}
use lib.ListN.{length, get_or}
use borrow.Author.Tests.{lt-ltb, le-ltb, ltb-true, ltb-false}
use Rattle.grammars.specs.code.Grammar.{Sym, tok, nt, act}
use Rattle.grammars.proofs.Theory.{and_left, and_right}
use Rattle.grammars.proofs.Check.{below_at}
use Rattle.forms.specs.code.Kinds.{kind_count}
use Rattle.forms.specs.code.RuleNames.{name_count}
use Rattle.forms.specs.code.Rules.{forms, body, rules}
use Rattle.form_table.specs.code.Symbols.{sym_of, first_action}
use Rattle.form_table.specs.code.FormBytes.{Rule, rule_sizes, encode, padded, lined, size_bytes, body_bytes, form_bytes}
use Rattle.form_table.proofs.Tables.{sizes_at, bodies_at, forms_end, in_front, behind, past_picks, flat_at}

abbrev none : Rule
none = (0, [])

-- a symbol that the code can have
abbrev fits : Sym → Bool
fits (tok a) = ltb a kind_count
fits (nt n) = ltb n name_count
fits (act a) = true

sym_of_encode : (s : Sym) → T (fits s) → sym_of (encode s) ≡ s
sym_of_encode (tok a) h = rw (lt-ltb a kind_count (leb→le (suc a) kind_count h))
sym_of_encode (nt n) h =
    let l : n < name_count = leb→le (suc n) name_count h in
    let z : kind_count + n - kind_count ≡ n = omega arith in
    rw (le-ltb (kind_count + n) kind_count (omega arith), lt-ltb (kind_count + n) first_action (omega arith), z)
sym_of_encode (act a) h =
    let z : first_action + a - first_action ≡ a = omega arith in
    rw (le-ltb (first_action + a) kind_count (omega arith), le-ltb (first_action + a) first_action (omega arith), z)

abbrev all_fit : List Sym → Bool
all_fit [] = true
all_fit (s ∷ l) = fits s && all_fit l

size_at : (rs : List Rule) (p : ℕ) → get_or (rule_sizes rs) p 0 ≡ length (get_or rs p none).1
size_at [] p = refl
size_at (r ∷ rs) zero = refl
size_at (r ∷ rs) (suc p) = size_at rs p

pub size_is : {l : List ℕ} → l ≡ form_bytes → (p : ℕ) → p < forms.count → get_or l (sizes_at + p) 0 ≡ length (body p)
size_is e p h = past_picks e p ∙ in_front size_bytes body_bytes forms.count p refl h ∙ size_at rules p

padded_at : (n : ℕ) (l : List Sym) → T (all_fit l) → (i : ℕ) → i < n → sym_of (get_or (padded n l) i 0) ≡ get_or l i (tok 0)
padded_at zero l h i m = absurd (omega arith)
padded_at (suc n) [] h zero m = refl
padded_at (suc n) [] h (suc i) m = padded_at n [] tt i (omega arith)
padded_at (suc n) (s ∷ l) h zero m = sym_of_encode s (and_left (fits s) (all_fit l) h)
padded_at (suc n) (s ∷ l) h (suc i) m = padded_at n l (and_right (fits s) (all_fit l) h) i (omega arith)

abbrev all_fits : List Rule → Bool
all_fits [] = true
all_fits (r ∷ rs) = all_fit r.1 && all_fits rs

lined_at : (rs : List Rule) → T (all_fits rs) → (p i : ℕ) → p < length rs → i < 16 → sym_of (get_or (get_or (lined rs) p []) i 0) ≡ get_or (get_or rs p none).1 i (tok 0)
lined_at [] h p i l m = absurd (omega arith)
lined_at (r ∷ rs) h zero i l m = padded_at 16 r.1 (and_left (all_fit r.1) (all_fits rs) h) i m
lined_at (r ∷ rs) h (suc p) i l m = lined_at rs (and_right (all_fit r.1) (all_fits rs) h) p i (omega arith) m

-- no rule is longer
short : (p : ℕ) → p < forms.count → length (body p) ≤ 16
short p l = leb→le (length (body p)) 16 (below_at forms.count (λ p. leb (length (body p)) 16) tt p l)

none_past : (rs : List Rule) (p : ℕ) → length rs ≤ p → get_or rs p none ≡ none
none_past [] p h = refl
none_past (r ∷ rs) zero h = absurd (omega arith)
none_past (r ∷ rs) (suc p) h = none_past rs p (omega arith)

-- a rule that has a symbol is one of the grammar
pub ruled : (p i : ℕ) → i < length (body p) → (p < forms.count) × (i < 16)
ruled p i h = by (ltb p forms.count) refl
  where
    by : (b : Bool) → ltb p forms.count ≡ b → (p < forms.count) × (i < 16)
    by true e =
        let l : p < forms.count = ltb-true p forms.count e in
        (l, omega (arith, short p l))
    by false e =
        let z : length (body p) ≡ 0 = ap (λ (r : Rule). length r.1) (none_past rules p (ltb-false p forms.count e)) in
        absurd (omega arith)

pub body_place : (p i : ℕ) → i < length (body p) → bodies_at + p * 16 + i < forms_end
body_place p i h = let r = ruled p i h in omega (arith, r.0, r.1)

pub body_is : {l : List ℕ} → l ≡ form_bytes → (p i : ℕ) → i < length (body p) → sym_of (get_or l (bodies_at + p * 16 + i) 0) ≡ get_or (body p) i (tok 0)
body_is {l} e p i h =
    let r = ruled p i h in
    let z : bodies_at + p * 16 + i ≡ sizes_at + (forms.count + (p * 16 + i)) = omega arith in
    ap (λ (k : ℕ). sym_of (get_or l k 0)) z
    ∙ ap sym_of (past_picks e (forms.count + (p * 16 + i)) ∙ behind size_bytes body_bytes forms.count (p * 16 + i) refl ∙ flat_at 16 (lined rules) tt p i r.0 r.1)
    ∙ lined_at rules tt p i r.0 r.1
