-- The turns of the search for the closing quote, in the code's terms, and that it closes within the text. Assumes nothing.
use Rattle.std.proofs.Common.{Option, Some, None}
use mathlib.Core.Path.{◌≡◌, refl, sym, ap, ◌∙◌}
use mathlib.Core.Bool.{Bool, true, false, cond}
use mathlib.Core.List.{List, [], ◌∷◌}
use Prim.Native.Nat.{ℕ, suc, ◌+◌, ◌-◌, ◌≤◌, ◌<◌, zero-le, suc-le-suc}
use native.Mathlib.Numerals.{add-one, add-two}
use native.Mathlib.Omega.{arith}
use borrow.Author.Tests.{eq-eqb, ne_eqb, lt-ltb, le-ltb}
use lib.Dec.{eqb}
use lib.ListN.{length, take, drop, get_or, drop_of_length-le}
use lib.Seq.{drop-cons, drop-drop}
use Rattle.classes.specs.Signs.{is_graphic}
use Rattle.classes.proofs.Laws.{part_rest}
use Rattle.quoted.specs.Quoted.{closed_from}
use Rattle.quoted.specs.code.Next.{next_at}
use Rattle.quoted.specs.declared.Next.{Next}
use Rattle.quoted.specs.declared.Next.TheVariants.{Doubled, Closes, Inside, Breaks}

-- the ways of `next_at`
module _ (q : ℕ) (s : List ℕ) (b : ℕ) (p : b ≡ get_or s 0 0) where
  pub is_last : b ≡ q → length s < 2 → Closes ≡ next_at q s
  unfolding next_at
  is_last e l = simp (← p, eq-eqb b q e, lt-ltb (length s) 2 l)

  pub is_doubled_lem : (d : ℕ) → b ≡ q → 2 ≤ length s → d ≡ get_or s 1 0 → d ≡ q → Doubled ≡ next_at q s
  unfolding next_at
  is_doubled_lem d e l p' f = simp (← p, eq-eqb b q e, le-ltb (length s) 2 l, ← p', eq-eqb d q f)

  pub is_closing_lem : (d : ℕ) → b ≡ q → 2 ≤ length s → d ≡ get_or s 1 0 → (d ≡ q → ⊥) → Closes ≡ next_at q s
  unfolding next_at
  is_closing_lem d e l p' f = simp (← p, eq-eqb b q e, le-ltb (length s) 2 l, ← p', ne_eqb d q f)

  pub is_inside : (x : Bool) → (b ≡ q → ⊥) → x ≡ is_graphic b → x ≡ true → Inside ≡ next_at q s
  unfolding next_at
  is_inside x e g t = simp (← p, ne_eqb b q e, ← g, t)

  pub is_breaking : (x : Bool) → (b ≡ q → ⊥) → x ≡ is_graphic b → x ≡ false → Breaks ≡ next_at q s
  unfolding next_at
  is_breaking x e g t = simp (← p, ne_eqb b q e, ← g, t)

-- what each step makes of a list that is not empty
abbrev steps : Next → ℕ → ℕ → List ℕ → Option ℕ
steps Doubled q n s = closed_from q (suc (suc n)) (drop 1 s)
steps Closes q n s = Some (suc n)
steps Inside q n s = closed_from q (suc n) s
steps Breaks q n s = None

step : (q n b : ℕ) (s : List ℕ) → closed_from q n (b ∷ s) ≡ steps (next_at q (b ∷ s)) q n s
unfolding closed_from next_at
step q n b [] = go (eqb b q) (is_graphic b) refl refl
  where
    go : (x y : Bool) → eqb b q ≡ x → is_graphic b ≡ y → closed_from q n (b ∷ []) ≡ steps (next_at q (b ∷ [])) q n []
    go true y e f = rw e
    go false true e f = rw (e, f)
    go false false e f = rw (e, f)
step q n b (d ∷ s) = go (eqb b q) (eqb d q) (is_graphic b) refl refl refl
  where
    more : 2 ≤ length (b ∷ d ∷ s)
    more = suc-le-suc (suc-le-suc zero-le)

    go : (x y z : Bool) → eqb b q ≡ x → eqb d q ≡ y → is_graphic b ≡ z → closed_from q n (b ∷ d ∷ s) ≡ steps (next_at q (b ∷ d ∷ s)) q n (d ∷ s)
    go true true z e f g = rw (e, f, le-ltb (length (b ∷ d ∷ s)) 2 more)
    go true false z e f g = rw (e, f, le-ltb (length (b ∷ d ∷ s)) 2 more)
    go false y true e f g = rw (e, g)
    go false y false e f g = rw (e, g)

-- the same at a place; st is what `next_at` answers
module _ (q : ℕ) (s : List ℕ) (n : ℕ) (st : Next) (whole : Option ℕ) (v : closed_from q n (drop n s) ≡ whole) (h : n < length s) (e : st ≡ next_at q (take (length s - n) (drop n s))) where
  began : (m : Next) → st ≡ m → steps m q n (drop (suc n) s) ≡ whole
  began m t =
      let k : next_at q (get_or s n 0 ∷ drop (suc n) s) ≡ m = ap (next_at q) (sym (drop-cons s n 0 h)) ∙ sym (rw (part_rest s n) at e) ∙ t in
      ap (λ (x : Next). steps x q n (drop (suc n) s)) (sym k) ∙ sym (step q n (get_or s n 0) (drop (suc n) s)) ∙ ap (closed_from q n) (sym (drop-cons s n 0 h)) ∙ v

  pub turn_doubled : st ≡ Doubled → closed_from q (n + 2) (drop (n + 2) s) ≡ whole
  turn_doubled t = rw add-two (ap (closed_from q (suc (suc n))) (sym (drop-drop 1 (suc n) s ∙ rw add-one)) ∙ began Doubled t)

  pub turn_inside : st ≡ Inside → closed_from q (n + 1) (drop (n + 1) s) ≡ whole
  turn_inside t = rw add-one (began Inside t)

  pub turn_closes : st ≡ Closes → Some (n + 1) ≡ whole
  turn_closes t = rw add-one (began Closes t)

  pub turn_breaks : st ≡ Breaks → None ≡ whole
  turn_breaks t = began Breaks t

pub turns_end : (q : ℕ) (s : List ℕ) (n : ℕ) (whole : Option ℕ) → closed_from q n (drop n s) ≡ whole → length s ≤ n → None ≡ whole
unfolding closed_from
turns_end q s n whole v h = rw (drop_of_length-le s h) at v

-- what closes does so within the text, by a byte at least
abbrev Within : ℕ → ℕ → Option ℕ → Type 0
Within low high (Some n) = (low < n) × (n ≤ high)
Within low high None = Unit {0}

wider : (low low' high high' : ℕ) (c : Option ℕ) → Within low high c → low' ≤ low → high ≤ high' → Within low' high' c
wider low low' high high' (Some n) h l g = (omega arith, omega arith)
wider low low' high high' None h l g = tt

closes_in : (q : ℕ) (s : List ℕ) (m : ℕ) → Within m (m + length s) (closed_from q m s)
unfolding closed_from
closes_in q [] m = tt
closes_in q (b ∷ []) m = go (eqb b q)
  where
    go : (x : Bool) → Within m (m + 1) (cond x (Some (suc m)) None)
    go true = (omega arith, omega arith)
    go false = tt
closes_in q (b ∷ d ∷ s) m = go (eqb b q) (eqb d q) (is_graphic b) refl refl refl (closes_in q s (suc (suc m))) (closes_in q (d ∷ s) (suc m))
  where
    go : (x y z : Bool) → eqb b q ≡ x → eqb d q ≡ y → is_graphic b ≡ z → Within (suc (suc m)) (suc (suc m) + length s) (closed_from q (suc (suc m)) s) → Within (suc m) (suc m + length (d ∷ s)) (closed_from q (suc m) (d ∷ s)) → Within m (m + length (b ∷ d ∷ s)) (closed_from q m (b ∷ d ∷ s))
    go true true z e f g h k = rw (e, f) (wider (suc (suc m)) m (suc (suc m) + length s) (m + length (b ∷ d ∷ s)) (closed_from q (suc (suc m)) s) h (omega arith) (omega arith))
    go true false z e f g h k = rw (e, f) (omega arith, omega arith)
    go false y true e f g h k = rw (e, g) (wider (suc m) m (suc m + length (d ∷ s)) (m + length (b ∷ d ∷ s)) (closed_from q (suc m) (d ∷ s)) k (omega arith) (omega arith))
    go false y false e f g h k = rw (e, g) tt

pub closed_in : (q : ℕ) (s : List ℕ) (m n : ℕ) → closed_from q m s ≡ Some n → (m < n) × (n ≤ m + length s)
closed_in q s m n e = rw e at (closes_in q s m)
