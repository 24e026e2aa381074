-- The table's bytes against the definitions, each by one test that antt computes. Assumes nothing.
use Prim.Native.Nat.{ℕ, zero, suc, ◌+◌, ◌*◌, ◌≤◌, ◌<◌}
use mathlib.Core.Path.{◌≡◌, refl, sym as flip, ◌∙◌, ap, ap₂}
use mathlib.Core.List.{List, [], ◌∷◌, ◌++◌}
use mathlib.Core.Bool.{Bool, true, ◌&&◌}
use native.Mathlib.Omega.{arith}
use native.Mathlib.Nat.{suc-mul, zero-mul}
use lib.Dec.{T, ltb, eqb, leb→le, eqb→eq}
use lib.ListN.{length, get_or, get_or-append}
use lib.Seq.{get_or-append-add}
use Rattle.grammars.specs.code.Grammar.{Sym}
use Rattle.grammars.proofs.Theory.{and_left, and_right}
use Rattle.forms.specs.code.Kinds.{symbols_by_kind, number_of, kind_count, terminal_of, other}
use Rattle.forms.specs.code.RuleNames.{name_count}
use Rattle.forms.specs.code.Rules.{forms}
use Rattle.forms.specs.code.Picks.{picks, predict}
use Rattle.form_table.specs.code.FormBytes.{numbers, flatten, kind_bytes, pick_bytes, size_bytes, body_bytes, form_bytes}

-- how long the table of rules is, and where the parts begin and end
abbrev pub picks_size : ℕ
picks_size = name_count * kind_count

abbrev pub picks_at : ℕ
picks_at = length symbols_by_kind

abbrev pub sizes_at : ℕ
sizes_at = picks_at + picks_size

abbrev pub bodies_at : ℕ
bodies_at = sizes_at + forms.count

abbrev pub forms_end : ℕ
forms_end = bodies_at + forms.count * 16

-- the kinds
numbers_at_lem : (l : List Sym) (k : ℕ) → k < length l → get_or (numbers l) k 0 ≡ number_of (get_or l k other)
numbers_at_lem [] k h = absurd (omega arith)
numbers_at_lem (s ∷ l) zero h = refl
numbers_at_lem (s ∷ l) (suc k) h = numbers_at_lem l k (omega arith)

-- a place in the front part, or in what stands after it
pub in_front : (a b : List ℕ) (n i : ℕ) → length a ≡ n → i < n → get_or (a ++ b) i 0 ≡ get_or a i 0
in_front a b n i e h = get_or-append a b 0 i (omega arith)

pub behind : (a b : List ℕ) (n i : ℕ) → length a ≡ n → get_or (a ++ b) (n + i) 0 ≡ get_or b i 0
behind a b n i e = ap (λ (k : ℕ). get_or (a ++ b) (k + i) 0) (flip e) ∙ get_or-append-add a b i 0

pub forms_size : {l : List ℕ} → l ≡ form_bytes → length l ≡ forms_end
unfolding form_bytes
forms_size e = ap length e

pub kind_at : {l : List ℕ} → l ≡ form_bytes → (k : ℕ) → k < picks_at → get_or l k 0 ≡ terminal_of k
unfolding terminal_of form_bytes
kind_at e k h = ap (λ (l : List ℕ). get_or l k 0) e ∙ in_front kind_bytes (pick_bytes ++ (size_bytes ++ body_bytes)) picks_at k refl h ∙ numbers_at_lem symbols_by_kind k h

past : (l : List Sym) (k : ℕ) → length l ≤ k → get_or l k other ≡ other
past [] k h = refl
past (s ∷ l) zero h = absurd (omega arith)
past (s ∷ l) (suc k) h = past l k (omega arith)

pub kind_past : (k : ℕ) → picks_at ≤ k → number_of other ≡ terminal_of k
unfolding terminal_of
kind_past k h = flip (ap number_of (past symbols_by_kind k h))

abbrev all_small : List Sym → Bool
all_small [] = true
all_small (s ∷ l) = ltb (number_of s) kind_count && all_small l

small_at : (l : List Sym) → T (all_small l) → (k : ℕ) → number_of (get_or l k other) < kind_count
small_at [] h k = omega arith
small_at (s ∷ l) h zero = leb→le (suc (number_of s)) kind_count (and_left (ltb (number_of s) kind_count) (all_small l) h)
small_at (s ∷ l) h (suc k) = small_at l (and_right (ltb (number_of s) kind_count) (all_small l) h) k

pub terminal_small : (k : ℕ) → terminal_of k < kind_count
unfolding terminal_of
terminal_small k = small_at symbols_by_kind tt k

-- the table of rules
abbrev wide : ℕ → List (List ℕ) → Bool
wide K [] = true
wide K (r ∷ rs) = eqb (length r) K && wide K rs

pub flat_at : (K : ℕ) (rows : List (List ℕ)) → T (wide K rows) → (n t : ℕ) → n < length rows → t < K → get_or (flatten rows) (n * K + t) 0 ≡ get_or (get_or rows n []) t 0
flat_at K [] h n t l m = absurd (omega arith)
flat_at K (r ∷ rs) h zero t l m =
    let e : length r ≡ K = eqb→eq (length r) K (and_left (eqb (length r) K) (wide K rs) h) in
    let z : zero * K + t ≡ t = omega (arith, zero-mul K) in
    ap (λ (i : ℕ). get_or (r ++ flatten rs) i 0) z ∙ get_or-append r (flatten rs) 0 t (omega arith)
flat_at K (r ∷ rs) h (suc n) t l m =
    let e : length r ≡ K = eqb→eq (length r) K (and_left (eqb (length r) K) (wide K rs) h) in
    let z : suc n * K + t ≡ length r + (n * K + t) = omega (arith, suc-mul n K) in
    ap (λ (i : ℕ). get_or (r ++ flatten rs) i 0) z ∙ get_or-append-add r (flatten rs) (n * K + t) 0 ∙ flat_at K rs (and_right (eqb (length r) K) (wide K rs) h) n t (omega arith) m

pub pick_at : {l : List ℕ} → l ≡ form_bytes → (n t : ℕ) → n < name_count → t < kind_count → get_or l (picks_at + n * kind_count + t) 0 ≡ predict n t
unfolding form_bytes
pick_at e n t h m =
    let z : picks_at + n * kind_count + t ≡ picks_at + (n * kind_count + t) = omega arith in
    ap₂ (λ (l : List ℕ) (i : ℕ). get_or l i 0) e z
    ∙ behind kind_bytes (pick_bytes ++ (size_bytes ++ body_bytes)) picks_at (n * kind_count + t) refl
    ∙ in_front pick_bytes (size_bytes ++ body_bytes) picks_size (n * kind_count + t) refl (omega arith)
    ∙ flat_at kind_count picks tt n t h m

-- the parts after the table of rules
pub past_picks : {l : List ℕ} → l ≡ form_bytes → (i : ℕ) → get_or l (sizes_at + i) 0 ≡ get_or (size_bytes ++ body_bytes) i 0
unfolding form_bytes
past_picks e i =
    let z : sizes_at + i ≡ picks_at + (picks_size + i) = omega arith in
    ap₂ (λ (l : List ℕ) (k : ℕ). get_or l k 0) e z
    ∙ behind kind_bytes (pick_bytes ++ (size_bytes ++ body_bytes)) picks_at (picks_size + i) refl
    ∙ behind pick_bytes (size_bytes ++ body_bytes) picks_size i refl
