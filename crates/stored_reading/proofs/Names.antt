-- The names stand in the bytes where the items' fields say, and the tables of their places and lengths give them back. Assumes nothing.
use Rattle.std.specs.Prelude.{Option, Some, None}
use mathlib.Core.Path.{◌≡◌, refl, sym, ap, subst, ◌∙◌}
use mathlib.Core.Bool.{Bool, true}
use mathlib.Core.List.{List, [], ◌∷◌, ◌++◌}
use Prim.Native.Nat.{ℕ, zero, suc, ◌+◌, ◌-◌, ◌≤◌}
use native.Mathlib.Nat.{le_refl}
use native.Mathlib.Omega.{arith}
use lib.ListN.{length, get_or, take, drop, replicate, length-drop, length-replicate}
use lib.Seq.{drop-drop, length-take-le, sets, sets-eq}
use Rattle.laws.proofs.Laws.{clash}
use Rattle.stored.specs.StoredItems.{StoredItem, value_size}
use Rattle.stored.specs.Stored.{form_one, distinct, item_names}
use Rattle.stored.proofs.FieldLaws.{before_some}
use Rattle.different_names.specs.StandingNames.{name_at, names_from}
use Rattle.stored_reading.specs.StoredRows.{size_of}
use Rattle.stored_reading.specs.Promises.{NamesAt}
use Rattle.stored_reading.specs.code.Turns.{turn_of, items_at, there, items_counted, distinct_items}
use Rattle.stored_reading.specs.code.Answers.{firsts_from, firsts_at, sizes_from, sizes_at}
use Rattle.stored_reading.specs.declared.ItemTurn.{ItemTurn}
use Rattle.stored_reading.specs.declared.ItemTurn.TheVariants.{Wrong, Ends, Gives}
use Rattle.stored_reading.proofs.StepLaws.{item_of, Turned, turn_is}
use Rattle.stored_reading.proofs.Whole.{drop_replicate}

-- a part of a part
drop_of_take : (h n : ℕ) (l : List ℕ) → drop h (take n l) ≡ take (n - h) (drop h l)
drop_of_take zero n l = let e : n ≡ n - 0 = omega arith in ap (λ (k : ℕ). take k l) e
drop_of_take (suc h) zero l = rw (zero_part h) refl
  where
    zero_part : (h : ℕ) → 0 - suc h ≡ 0
    zero_part h = omega arith
drop_of_take (suc h) (suc n) [] = nothing_left (suc n - suc h)
  where
    nothing_left : (k : ℕ) → ◌≡◌ {A = List ℕ} [] (take k [])
    nothing_left zero = refl
    nothing_left (suc k) = refl
drop_of_take (suc h) (suc n) (x ∷ l) = let e : n - h ≡ suc n - suc h = omega arith in drop_of_take h n l ∙ ap (λ (k : ℕ). take k (drop h l)) e

-- an item's name, from the bytes' beginning
name_stands : (s : List ℕ) (at h n : ℕ) → h ≤ n → 3 + n ≤ length (drop at s)
    → take (length (drop h (take n (drop 3 (drop at s))))) (drop (at + (3 + h)) s) ≡ drop h (take n (drop 3 (drop at s)))
name_stands s at h n l m =
    let a : length (take n (drop 3 (drop at s))) ≡ n = length-take-le n (drop 3 (drop at s)) (rw (length-drop 3 (drop at s)) (omega arith)) in
    let b : length (drop h (take n (drop 3 (drop at s)))) ≡ n - h = length-drop h (take n (drop 3 (drop at s))) ∙ rw a in
    let d : drop h (drop 3 (drop at s)) ≡ drop (at + (3 + h)) s = drop-drop h 3 (drop at s) ∙ drop-drop (3 + h) at s in
    ap (λ (k : ℕ). take k (drop (at + (3 + h)) s)) b ∙ ap (take (n - h)) (sym d) ∙ sym (drop_of_take h n (drop 3 (drop at s)))

abbrev pub Ahead : List ℕ → ℕ → Type 0
Ahead s fuel = (at : ℕ) (is : List StoredItem) → length (drop at s) ≤ fuel → items_at form_one (drop at s) ≡ Some is → NamesAt s at is

names_turn : (fuel : ℕ) (s : List ℕ) → Ahead s fuel → (at : ℕ) (is : List StoredItem) → length (drop at s) ≤ suc fuel → items_at form_one (drop at s) ≡ Some is
    → (tn : ItemTurn) → Turned form_one (drop at s) tn → NamesAt s at is
names_turn fuel s r at is l e Wrong t = clash (cc)
names_turn fuel s r at is l e Ends t = let w : [] ≡ is = cc in subst (NamesAt s at) w tt
names_turn fuel s r at is l e (Gives v n) (m, (k, t)) =
    let b = before_some (item_of v n (drop at s)) (items_at form_one (drop (3 + n) (drop at s))) is (sym t ∙ e) in
    let a : length (take n (drop 3 (drop at s))) ≡ n = length-take-le n (drop 3 (drop at s)) (rw (length-drop 3 (drop at s)) (omega arith)) in
    let z : length (drop (value_size v) (take n (drop 3 (drop at s)))) ≡ n - value_size v = length-drop (value_size v) (take n (drop 3 (drop at s))) ∙ rw a in
    let y : at + (3 + (value_size v + length (drop (value_size v) (take n (drop 3 (drop at s)))))) ≡ at + (3 + n) = rw z (omega arith) in
    let g : items_at form_one (drop (at + (3 + n)) s) ≡ Some b.0 = ap (items_at form_one) (sym (drop-drop (3 + n) at s)) ∙ b.1.0 in
    let f : length (drop (at + (3 + n)) s) ≤ fuel = rw (← drop-drop (3 + n) at s, length-drop (3 + n) (drop at s)) (omega arith) in
    subst (NamesAt s at) (sym b.1.1) (name_stands s at (value_size v) n k m, subst (λ (x : ℕ). NamesAt s x b.0) (sym y) (r (at + (3 + n)) b.0 f g))

pub names_there : (fuel : ℕ) (s : List ℕ) → Ahead s fuel
names_there zero s at is l e = nothing_ahead (turn_of form_one (drop at s)) (turn_is form_one (drop at s)) e
  where
    nothing_ahead : (tn : ItemTurn) → Turned form_one (drop at s) tn → items_at form_one (drop at s) ≡ Some is → NamesAt s at is
    nothing_ahead Wrong t e = clash (cc)
    nothing_ahead Ends t e = let w : [] ≡ is = cc in subst (NamesAt s at) w tt
    nothing_ahead (Gives v n) t e = absurd (let m = t.0 in omega arith)
names_there (suc fuel) s at is l e = names_turn fuel s (names_there fuel s) at is l e (turn_of form_one (drop at s)) (turn_is form_one (drop at s))

-- ---- the tables give the names back
shifted : (s f z : List ℕ) (x y k n : ℕ) → names_from (name_at s (x ∷ f) (y ∷ z)) (suc k) n ≡ names_from (name_at s f z) k n
unfolding names_from name_at
shifted s f z x y k zero = refl
shifted s f z x y k (suc n) = ap (λ (l : List (List ℕ)). take (get_or z k 0) (drop (get_or f k 0) s) ∷ l) (shifted s f z x y (suc k) n)

cons_same : {a b : List ℕ} {l m : List (List ℕ)} → a ≡ b → l ≡ m → a ∷ l ≡ b ∷ m
cons_same p q = cc

pub noted : (s : List ℕ) (at : ℕ) (is : List StoredItem) (y z : List ℕ) → NamesAt s at is → names_from (name_at s (firsts_from at is ++ y) (sizes_from is ++ z)) 0 (length is) ≡ item_names is
unfolding names_from name_at firsts_from sizes_from
noted s at [] y z h = refl
noted s at (i ∷ is) y z h =
    cons_same h.0
    (shifted s (firsts_from (at + size_of i) is ++ y) (sizes_from is ++ z) (at + (3 + value_size i.value)) (length i.name) 0 (length is) ∙ noted s (at + size_of i) is y z h.1)

length_firsts : (at : ℕ) (is : List StoredItem) → length (firsts_from at is) ≡ length is
unfolding firsts_from
length_firsts at [] = refl
length_firsts at (i ∷ is) = ap suc (length_firsts (at + size_of i) is)

length_sizes : (is : List StoredItem) → length (sizes_from is) ≡ length is
unfolding sizes_from
length_sizes [] = refl
length_sizes (i ∷ is) = ap suc (length_sizes is)

-- a list put over the front of zeros
put_front_lem : (l : List ℕ) (w : ℕ) → length l ≤ w → sets (replicate w 0) 0 l ≡ l ++ replicate (w - length l) 0
put_front_lem l w h =
    let e : 0 + length l ≡ length l = omega arith in
    sets-eq l (replicate w 0) 0 (rw (e, length-replicate) h) ∙ rw (e, drop_replicate)

there_some : (x : Option (List StoredItem)) → there x ≡ true → (is : List StoredItem) × (x ≡ Some is)
unfolding there
there_some None e = clash (cc)
there_some (Some is) e = (is, refl)

differ_by : (s : List ℕ) (from n : ℕ) (f z f₀ z₀ : List ℕ) (r : Bool) (is : List StoredItem) → NamesAt s from is → n ≡ length is → n ≤ 1024 → r ≡ distinct (names_from (name_at s f z) 0 n)
    → f ≡ sets f₀ 0 (firsts_from from is) → z ≡ sets z₀ 0 (sizes_from is) → f₀ ≡ replicate 1024 0 → z₀ ≡ replicate 1024 0 → r ≡ distinct (item_names is)
differ_by s from n f z f₀ z₀ r is h m l e p q u v =
    let a : f ≡ firsts_from from is ++ replicate (1024 - length (firsts_from from is)) 0 = p ∙ rw u (put_front_lem (firsts_from from is) 1024 (rw (length_firsts from is) (omega arith))) in
    let b : z ≡ sizes_from is ++ replicate (1024 - length (sizes_from is)) 0 = q ∙ rw v (put_front_lem (sizes_from is) 1024 (rw (length_sizes is) (omega arith))) in
    let g = noted s from is (replicate (1024 - length (firsts_from from is)) 0) (replicate (1024 - length (sizes_from is)) 0) h in
    e ∙ rw (a, b, m) (ap distinct g)

pub names_differ : (s : List ℕ) (from n : ℕ) (f z f₀ z₀ : List ℕ) (r : Bool) → there (items_at form_one (drop from s)) ≡ true → n ≡ items_counted (items_at form_one (drop from s)) → n ≤ 1024
    → r ≡ distinct (names_from (name_at s f z) 0 n) → f ≡ sets f₀ 0 (firsts_at from (items_at form_one (drop from s))) → z ≡ sets z₀ 0 (sizes_at (items_at form_one (drop from s)))
    → f₀ ≡ replicate 1024 0 → z₀ ≡ replicate 1024 0 → r ≡ distinct_items (items_at form_one (drop from s))
unfolding items_counted firsts_at sizes_at distinct_items
names_differ s from n f z f₀ z₀ r t c l e p q u v =
    let w = there_some (items_at form_one (drop from s)) t in
    let h = names_there (length (drop from s)) s from w.0 (le_refl (length (drop from s))) w.1 in
    differ_by s from n f z f₀ z₀ r w.0 h (c ∙ ap items_counted w.1) l e
    (p ∙ ap (λ (x : Option (List StoredItem)). sets f₀ 0 (firsts_at from x)) w.1)
    (q ∙ ap (λ (x : Option (List StoredItem)). sets z₀ 0 (sizes_at x)) w.1) u v
    ∙ sym (ap distinct_items w.1)
