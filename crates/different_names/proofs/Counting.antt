-- Names that are all different and all among others are no more than those; so as many names as there are, each once, are all of them, each once.
-- Assumes nothing.
use mathlib.Core.Path.{◌≡◌, refl, sym, ap, ◌∙◌}
use mathlib.Core.Bool.{Bool, true, false, cond, not, ◌&&◌, ◌||◌}
use mathlib.Core.List.{List, [], ◌∷◌}
use Prim.Native.Nat.{ℕ, zero, suc, ◌+◌, ◌-◌, ◌≤◌, ◌<◌, zero-le}
use native.Mathlib.Omega.{arith}
use lib.ListN.{length}
use Rattle.laws.proofs.Laws.{clash, both_left, both_right}
use Rattle.stored.specs.Stored.{same_bytes, among, distinct}
use Rattle.stored.proofs.Names.{same_is, same_self}
use Rattle.different_names.specs.StandingNames.{names_from}
use Rattle.different_names.specs.code.Orders.{order_of}
use Rattle.std.specs.declared.cmp.Ordering.TheVariants.{Less}
use Rattle.different_names.proofs.Orders.{below_next, below_other}

abbrev pub AllIn : List (List ℕ) → List (List ℕ) → Type 0
AllIn ms ls = (x : List ℕ) → among x ms ≡ true → among x ls ≡ true

-- one of two
either_one : (p q : Bool) → (p || q) ≡ true → {B : Type 0} → (p ≡ true → B) → (p ≡ false → q ≡ true → B) → B
either_one true q e f g = f refl
either_one false q e f g = g refl e

among_first : (x m : List ℕ) (ms : List (List ℕ)) → same_bytes x m ≡ true → among x (m ∷ ms) ≡ true
unfolding among
among_first x m ms e = rw e

among_later : (x m : List ℕ) (ms : List (List ℕ)) → among x ms ≡ true → among x (m ∷ ms) ≡ true
unfolding among
among_later x m ms e = go (same_bytes x m)
  where
    go : (t : Bool) → (t || among x ms) ≡ true
    go true = refl
    go false = e

among_by : (x m : List ℕ) (ms : List (List ℕ)) → among x (m ∷ ms) ≡ true → {B : Type 0} → (x ≡ m → B) → (same_bytes x m ≡ false → among x ms ≡ true → B) → B
unfolding among
among_by x m ms e f g = either_one (same_bytes x m) (among x ms) e (λ h. f (same_is x m h)) g

-- all but the first that is m
without : List ℕ → List (List ℕ) → List (List ℕ)
without m [] = []
without m (l ∷ ls) = cond (same_bytes m l) ls (l ∷ without m ls)

without_length : (m : List ℕ) (ls : List (List ℕ)) → among m ls ≡ true → length ls ≡ suc (length (without m ls))
unfolding among without
without_length m [] e = clash (cc)
without_length m (l ∷ ls) e = go (same_bytes m l) (λ h. without_length m ls h) e
  where
    go : (t : Bool) → (among m ls ≡ true → length ls ≡ suc (length (without m ls))) → (t || among m ls) ≡ true → suc (length ls) ≡ suc (length (cond t ls (l ∷ without m ls)))
    go true h e = refl
    go false h e = ap suc (h e)

without_among : (x m : List ℕ) (ls : List (List ℕ)) → same_bytes x m ≡ false → among x ls ≡ true → among x (without m ls) ≡ true
unfolding without
without_among x m [] n e = e
without_among x m (l ∷ ls) n e = go (same_bytes m l) refl (λ h. without_among x m ls n h)
  where
    go : (t : Bool) → same_bytes m l ≡ t → (among x ls ≡ true → among x (without m ls) ≡ true) → among x (cond t ls (l ∷ without m ls)) ≡ true
    go true p r = among_by x l ls e (λ q. let w : same_bytes x m ≡ true = rw (q, same_is m l p) (same_self l) in clash (cc)) (λ _ h. h)
    go false p r = among_by x l ls e (λ q. among_first x l (without m ls) (rw q (same_self l))) (λ _ h. among_later x l (without m ls) (r h))

pub no_more : (ms ls : List (List ℕ)) → distinct ms ≡ true → AllIn ms ls → length ms ≤ length ls
unfolding distinct
no_more [] ls d a = zero-le
no_more (m ∷ ms) ls d a =
    let h = a m (among_first m m ms (same_self m)) in
    let n = both_left (not (among m ms)) (distinct ms) d in
    let l = without_length m ls h in
    let r = no_more ms (without m ls) (both_right (not (among m ms)) (distinct ms) d) (λ x e. without_among x m ls (other x n e) (a x (among_later x m ms e))) in
    omega arith
  where
    other : (x : List ℕ) → not (among m ms) ≡ true → among x ms ≡ true → same_bytes x m ≡ false
    other x n e = go (same_bytes x m) refl
      where
        go : (t : Bool) → same_bytes x m ≡ t → t ≡ false
        go true p = let w : among m ms ≡ true = rw (← same_is x m p) e in let v = (rw w at n) in clash (cc)
        go false p = refl

-- names that are not all different are among fewer
pub fewer : (ns : List (List ℕ)) → distinct ns ≡ false → (ls : List (List ℕ)) × ((length ls < length ns) × AllIn ns ls)
unfolding distinct
fewer [] e = clash (cc)
fewer (n ∷ ns) e = go (among n ns) refl (λ h. fewer ns h) e
  where
    go : (t : Bool) → among n ns ≡ t → (distinct ns ≡ false → (ls : List (List ℕ)) × ((length ls < length ns) × AllIn ns ls))
        → (not t && distinct ns) ≡ false → (ls : List (List ℕ)) × ((length ls < suc (length ns)) × AllIn (n ∷ ns) ls)
    go true p h q = (ns, (omega arith, λ x a. among_by x n ns a (λ w. rw w p) (λ _ b. b)))
    go false p h q =
        let r = h q in
        (n ∷ r.0, (let l = r.1.0 in omega arith, λ x a. among_by x n ns a (λ w. among_first x n r.0 (rw w (same_self n))) (λ _ b. among_later x n r.0 (r.1.1 x b))))

-- as many names as these, all different and all among these: these are all different
pub all_met : (ns ms : List (List ℕ)) → length ms ≡ length ns → distinct ms ≡ true → AllIn ms ns → distinct ns ≡ true
all_met ns ms l d a = go (distinct ns) refl
  where
    go : (t : Bool) → distinct ns ≡ t → t ≡ true
    go true e = refl
    go false e = let r = fewer ns e in let k = r.1.0 in let m = no_more ms r.0 d (λ x h. r.1.1 x (a x h)) in absurd (omega arith)

-- ---- names by their numbers
pub names_length : (f : ℕ → List ℕ) (k n : ℕ) → length (names_from f k n) ≡ n
unfolding names_from
names_length f k zero = refl
names_length f k (suc n) = ap suc (names_length f (suc k) n)

pub name_among : (f : ℕ → List ℕ) (k n a : ℕ) → k ≤ a → a < k + n → among (f a) (names_from f k n) ≡ true
unfolding names_from
name_among f k zero a l m = absurd (omega arith)
name_among f k (suc n) a l m = go (a - k) refl (λ h i. name_among f (suc k) n a h i)
  where
    go : (d : ℕ) → a - k ≡ d → (suc k ≤ a → a < suc k + n → among (f a) (names_from f (suc k) n) ≡ true) → among (f a) (f k ∷ names_from f (suc k) n) ≡ true
    go zero e r = let w : a ≡ k = omega arith in among_first (f a) (f k) (names_from f (suc k) n) (rw w (same_self (f k)))
    go (suc d) e r = among_later (f a) (f k) (names_from f (suc k) n) (r (omega arith) (omega arith))

-- two numbers, one name
pub twice_in : (f : ℕ → List ℕ) (k n a b : ℕ) → k ≤ a → a < b → b < k + n → f a ≡ f b → distinct (names_from f k n) ≡ false
unfolding names_from distinct
twice_in f k zero a b l m h e = absurd (omega arith)
twice_in f k (suc n) a b l m h e = go (a - k) refl (λ i j. twice_in f (suc k) n a b i m j e)
  where
    ends : (t : Bool) → distinct (names_from f (suc k) n) ≡ false → (not t && distinct (names_from f (suc k) n)) ≡ false
    ends true q = refl
    ends false q = q

    go : (d : ℕ) → a - k ≡ d → (suc k ≤ a → b < suc k + n → distinct (names_from f (suc k) n) ≡ false) → (not (among (f k) (names_from f (suc k) n)) && distinct (names_from f (suc k) n)) ≡ false
    go zero p r =
        let w : a ≡ k = omega arith in
        let v : among (f k) (names_from f (suc k) n) ≡ true = ap (λ (x : List ℕ). among x (names_from f (suc k) n)) (ap f (sym w) ∙ e) ∙ name_among f (suc k) n b (omega arith) (omega arith) in
        rw v
    go (suc d) p r = ends (among (f k) (names_from f (suc k) n)) (r (omega arith) (omega arith))

-- ---- names that rise, the last of them first
pub data Climbs (f : ℕ → List ℕ) (n : ℕ) : ℕ → ℕ → Type 0 where
  start : (a : ℕ) → a < n → Climbs f n a 1
  climb : {a i : ℕ} (b : ℕ) → Climbs f n a i → b < n → order_of (f a) (f b) ≡ Less → Climbs f n b (i + 1)

met : {f : ℕ → List ℕ} {n a i : ℕ} → Climbs f n a i → List (List ℕ)
met {f} (start a l) = f a ∷ []
met {f} (climb b r l o) = f b ∷ met r

met_length : {f : ℕ → List ℕ} {n a i : ℕ} (r : Climbs f n a i) → length (met r) ≡ i
unfolding met
met_length (start a l) = refl
met_length (climb b r l o) = let w = met_length r in omega arith

met_below : {f : ℕ → List ℕ} {n a i : ℕ} (r : Climbs f n a i) (y : List ℕ) → order_of (f a) y ≡ Less → among y (met r) ≡ false
unfolding among met
met_below {f} (start a l) y o = rw (below_other (f a) y o)
met_below {f} (climb {a = c} b r l e) y o = rw (below_other (f b) y o) (met_below r y (below_next (f c) (f b) y e o))

met_distinct : {f : ℕ → List ℕ} {n a i : ℕ} (r : Climbs f n a i) → distinct (met r) ≡ true
unfolding distinct among met
met_distinct (start a l) = refl
met_distinct {f} (climb b r l e) = rw (met_below r (f b) e) (met_distinct r)

none_there : (x : List ℕ) → among x [] ≡ true → ◌≡◌ {A = ℕ} 0 1
unfolding among
none_there x h = cc

met_in : {f : ℕ → List ℕ} {n a i : ℕ} (r : Climbs f n a i) → AllIn (met r) (names_from f 0 n)
unfolding met
met_in {f} {n} (start a l) x e = among_by x (f a) [] e (λ w. rw w (name_among f 0 n a zero-le (omega arith))) (λ _ h. let v = none_there x h in clash v)
met_in {f} {n} (climb b r l o) x e = among_by x (f b) (met r) e (λ w. rw w (name_among f 0 n b zero-le (omega arith))) (λ _ h. met_in r x h)

pub climbed : {f : ℕ → List ℕ} {n a : ℕ} → Climbs f n a n → distinct (names_from f 0 n) ≡ true
climbed {f} {n} r = all_met (names_from f 0 n) (met r) (met_length r ∙ sym (names_length f 0 n)) (met_distinct r) (met_in r)
