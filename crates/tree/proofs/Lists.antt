-- Lists that the code's arrays are: elements read off the element table, the stack, five words stored. Assumes nothing.
use Prim.Native.Nat.{ℕ, zero, suc, ◌+◌, ◌*◌, ◌-◌, ◌≤◌, ◌<◌}
use mathlib.Core.Path.{◌≡◌, refl, sym as flip, ◌∙◌, ap, ap₂, subst}
use mathlib.Core.List.{List, [], ◌∷◌, ◌++◌, append_assoc}
use native.Mathlib.Omega.{arith}
use lib.ListN.{length, get_or, take, drop, set, length-set, drop_of_length-le}
use lib.Seq.{drop-cons, drop-length, get_or-set_same, drop-set-lt, sets, sets-eq, drop_at, length-take-le}
use Rattle.grammars.specs.code.Grammar.{Sym, tok, look}
use Rattle.forms.specs.code.Kinds.{kind_count, terminal_of}
use Rattle.form_table.specs.code.Symbols.{sym_of, syms}
use Rattle.form_table.proofs.Tables.{terminal_small}
use Rattle.places.specs.Places.{cell_at, kinds_of}
use Rattle.places.proofs.Laws.{kinds_length, kind_at}
use Rattle.tree.specs.code.Answers.{terminals_in, terminals_of}

pub look_at : (l : List ℕ) (i : ℕ) → i < length l → look (drop i l) ≡ get_or l i 0
look_at l i h = rw (drop-cons l i 0 h)

pub look_end : (l : List ℕ) (i : ℕ) → length l ≤ i → 0 ≡ look (drop i l)
look_end l i h = rw (drop_of_length-le l h)

pub terminals_length : (ks : List ℕ) → length (terminals_in ks) ≡ length ks
terminals_length [] = refl
terminals_length (k ∷ ks) = ap suc (terminals_length ks)

pub terminals_size : (n : ℕ) (l : List ℕ) → length (terminals_of n l) ≡ n
unfolding terminals_of
terminals_size n l = terminals_length (kinds_of n l) ∙ kinds_length n l

terminals_get : (ks : List ℕ) (i : ℕ) → i < length ks → get_or (terminals_in ks) i 0 ≡ terminal_of (get_or ks i 0)
terminals_get [] i h = absurd (omega arith)
terminals_get (k ∷ ks) zero h = refl
terminals_get (k ∷ ks) (suc i) h = terminals_get ks i (omega arith)

pub terminals_at : (n : ℕ) (l : List ℕ) (i k r : ℕ) → 3 * n ≤ length l → i < n → k ≡ cell_at l i 0 → r ≡ terminal_of k → r ≡ look (drop i (terminals_of n l))
unfolding terminals_of
terminals_at n l i k r s h q e =
    e
    ∙ ap terminal_of (q ∙ kind_at l n i s h)
    ∙ flip (look_at (terminals_of n l) i (omega (arith, terminals_size n l)) ∙ terminals_get (kinds_of n l) i (omega (arith, kinds_length n l)))

pub terminals_end : (n : ℕ) (l : List ℕ) (i : ℕ) → n ≤ i → 0 ≡ look (drop i (terminals_of n l))
terminals_end n l i h = look_end (terminals_of n l) i (omega (arith, terminals_size n l))

terminals_small : (ks : List ℕ) (i : ℕ) → look (drop i (terminals_in ks)) < kind_count
terminals_small [] zero = omega arith
terminals_small [] (suc i) = omega arith
terminals_small (k ∷ ks) zero = terminal_small k
terminals_small (k ∷ ks) (suc i) = terminals_small ks i

pub kind_small : (n : ℕ) (l : List ℕ) (i r : ℕ) → r ≡ look (drop i (terminals_of n l)) → r < kind_count
unfolding terminals_of
kind_small n l i r e = subst (λ (x : ℕ). x < kind_count) (flip e) (terminals_small (kinds_of n l) i)

pub drop_set_here : (l : List ℕ) (k x : ℕ) → k < length l → drop k (set l k x) ≡ x ∷ drop (suc k) l
drop_set_here l k x h =
    let h' : k < length (set l k x) = simp length-set (omega arith) in
    drop-cons (set l k x) k 0 h' ∙ ap₂ (λ (a : ℕ) (b : List ℕ). a ∷ b) (get_or-set_same l k x 0 h) (drop-set-lt (suc k) l k x (omega arith))

-- the stack
pub push_more : (stk : List ℕ) (b rest : List Sym) (base i j x : ℕ) → i ≡ suc j → i ≤ length b → base + j < length stk → sym_of x ≡ get_or b j (tok 0)
    → syms (drop (base + i) stk) ≡ drop i b ++ rest → syms (drop (base + j) (set stk (base + j) x)) ≡ drop j b ++ rest
push_more stk b rest base i j x e l r s t =
    let k : suc (base + j) ≡ base + i = omega arith in
    let d : drop j b ≡ get_or b j (tok 0) ∷ drop i b = drop-cons b j (tok 0) (omega arith) ∙ ap (λ (n : ℕ). get_or b j (tok 0) ∷ drop n b) (flip e) in
    ap syms (drop_set_here stk (base + j) x r ∙ ap (λ (n : ℕ). x ∷ drop n stk) k)
    ∙ ap₂ (λ (a : Sym) (l : List Sym). a ∷ l) s t
    ∙ ap (λ (l : List Sym). l ++ rest) (flip d)

pub push_end : (stk : List ℕ) (b rest : List Sym) (base i : ℕ) → i ≡ 0 → syms (drop (base + i) stk) ≡ drop i b ++ rest → syms (drop base stk) ≡ b ++ rest
push_end stk b rest base i e t =
    let k : base ≡ base + i = omega arith in
    ap (λ (n : ℕ). syms (drop n stk)) k ∙ t ∙ ap (λ (n : ℕ). drop n b ++ rest) e

pub length_syms : (l : List ℕ) → length (syms l) ≡ length l
length_syms [] = refl
length_syms (x ∷ l) = ap suc (length_syms l)

-- five words stored
pub five_stored : (T : List ℕ) (at f i n s o : ℕ) → set (set (set (set (set T at f) (at + 1) i) (at + 2) n) (at + 3) s) (at + 4) o ≡ sets T at (f ∷ i ∷ n ∷ s ∷ o ∷ [])
five_stored T at f i n s o = step (omega arith) (omega arith) (omega arith) (omega arith)
  where
    step : {p q r t : ℕ} → p ≡ suc at → q ≡ suc (suc at) → r ≡ suc (suc (suc at)) → t ≡ suc (suc (suc (suc at)))
        → set (set (set (set (set T at f) p i) q n) r s) t o ≡ sets T at (f ∷ i ∷ n ∷ s ∷ o ∷ [])
    step e1 e2 e3 e4 = rw (e1, e2, e3, e4)

-- four words pushed
pub four_pushed : (T : List ℕ) (p fp a b c d : ℕ) → fp ≡ p + 4 → fp ≤ length T → drop p (set (set (set (set T p a) (p + 1) b) (p + 2) c) (p + 3) d) ≡ a ∷ b ∷ c ∷ d ∷ drop fp T
four_pushed T p fp a b c d e l =
    ap (drop p) (step (omega arith) (omega arith) (omega arith))
    ∙ ap (drop p) (sets-eq (a ∷ b ∷ c ∷ d ∷ []) T p (omega arith) ∙ append_assoc (take p T) (a ∷ b ∷ c ∷ d ∷ []) (drop (p + 4) T))
    ∙ drop_at (take p T) ((a ∷ b ∷ c ∷ d ∷ []) ++ drop (p + 4) T) p (length-take-le p T (omega arith))
    ∙ ap (λ (n : ℕ). a ∷ b ∷ c ∷ d ∷ drop n T) (flip e)
  where
    step : {q r t : ℕ} → q ≡ suc p → r ≡ suc (suc p) → t ≡ suc (suc (suc p)) → set (set (set (set T p a) q b) r c) t d ≡ sets T p (a ∷ b ∷ c ∷ d ∷ [])
    step e1 e2 e3 = rw (e1, e2, e3)
