-- What it is for two elements to be one name, and that it goes both ways and on. Assumes nothing.
use Prim.Native.Nat.{ℕ, zero, suc, ◌+◌, ◌≤◌}
use mathlib.Core.Path.{◌≡◌, refl, sym, ◌∙◌}
use mathlib.Core.Bool.{Bool, true, false, not, cond, ◌&&◌, false≢true}
use mathlib.Core.List.{List}
use native.Mathlib.Omega.{arith}
use lib.Dec.{eqb}
use lib.ListN.{length, get_or}
use borrow.Author.Tests.{eq-eqb, eqb-true, le-leb, leb-true}
use Rattle.laws.proofs.Laws.{both_left, both_right}
use Rattle.same_names.specs.Alike.{agree, spelled_same, same_name}
use Rattle.same_names.specs.Spelling.{counts, by_kind}
use Rattle.places.specs.Places.{cell_at, within}

module _ (t : Bool) (s : List ℕ) where
  head : (x y n : ℕ) → agree t s x y (suc n) ≡ true → counts t (get_or s x 0) ≡ counts t (get_or s y 0)
  unfolding agree
  head x y n h = eqb-true _ _ (both_left (eqb (counts t (get_or s x 0)) (counts t (get_or s y 0))) (agree t s (suc x) (suc y) n) h)

  rest : (x y n : ℕ) → agree t s x y (suc n) ≡ true → agree t s (suc x) (suc y) n ≡ true
  unfolding agree
  rest x y n h = both_right (eqb (counts t (get_or s x 0)) (counts t (get_or s y 0))) (agree t s (suc x) (suc y) n) h

  pub agree_opens : (x y n : ℕ) → agree t s x y (suc n) ≡ true → (counts t (get_or s x 0) ≡ counts t (get_or s y 0)) × (agree t s (suc x) (suc y) n ≡ true)
  agree_opens x y n h = (head x y n h, rest x y n h)

  both : (x y n : ℕ) → counts t (get_or s x 0) ≡ counts t (get_or s y 0) → agree t s (suc x) (suc y) n ≡ true → agree t s x y (suc n) ≡ true
  unfolding agree
  both x y n e h = rw (eq-eqb (counts t (get_or s x 0)) (counts t (get_or s y 0)) e) h

  none : (x y : ℕ) → agree t s x y 0 ≡ true
  unfolding agree
  none x y = refl

  agree_flip : (x y n : ℕ) → agree t s x y n ≡ true → agree t s y x n ≡ true
  agree_flip x y zero h = none y x
  agree_flip x y (suc n) h = both y x n (sym (head x y n h)) (agree_flip (suc x) (suc y) n (rest x y n h))

  agree_on : (x y z n : ℕ) → agree t s x y n ≡ true → agree t s y z n ≡ true → agree t s x z n ≡ true
  agree_on x y z zero h g = none x z
  agree_on x y z (suc n) h g = both x z n (head x y n h ∙ head y z n g) (agree_on (suc x) (suc y) (suc z) n (rest x y n h) (rest y z n g))

-- what it is for two elements to be one name
pub record OneName (s l : List ℕ) (a b : ℕ) : Type 0 where
  pub basic : Bool
  pub kind : by_kind (cell_at l a 0) basic (not basic) ≡ true
  pub kinds : cell_at l a 0 ≡ cell_at l b 0
  pub sizes : cell_at l a 2 ≡ cell_at l b 2
  pub first_in : cell_at l a 1 + cell_at l a 2 ≤ length s
  pub second_in : cell_at l b 1 + cell_at l b 2 ≤ length s
  pub agrees : agree basic s (cell_at l a 1) (cell_at l b 1) (cell_at l a 2) ≡ true

-- a choice that holds
chosen : (t : Bool) {x : Bool} → cond t x false ≡ true → (t ≡ true) × (x ≡ true)
chosen true h = (refl, h)
chosen false h = absurd (false≢true h)

by_kind_lem : (k : ℕ) (x y : Bool) → by_kind k x y ≡ true → (b : Bool) × (by_kind k b (not b) ≡ true) × (cond b x y ≡ true)
by_kind_lem zero x y h = absurd (false≢true h)
by_kind_lem (suc zero) x y h = (true, refl, h)
by_kind_lem (suc (suc zero)) x y h = (false, refl, h)
by_kind_lem (suc (suc (suc k))) x y h = absurd (false≢true h)

kind_of_lem : (k : ℕ) (b x y : Bool) → by_kind k b (not b) ≡ true → by_kind k x y ≡ cond b x y
kind_of_lem zero b x y h = absurd (false≢true h)
kind_of_lem (suc zero) true x y h = refl
kind_of_lem (suc zero) false x y h = absurd (false≢true h)
kind_of_lem (suc (suc zero)) true x y h = absurd (false≢true h)
kind_of_lem (suc (suc zero)) false x y h = refl
kind_of_lem (suc (suc (suc k))) b x y h = absurd (false≢true h)

-- one kind decides how bytes count
one_kind : (k : ℕ) (b c : Bool) → by_kind k b (not b) ≡ true → by_kind k c (not c) ≡ true → b ≡ c
one_kind zero b c h g = absurd (false≢true h)
one_kind (suc zero) b c h g = h ∙ sym g
one_kind (suc (suc zero)) true true h g = refl
one_kind (suc (suc zero)) true false h g = absurd (false≢true h)
one_kind (suc (suc zero)) false true h g = absurd (false≢true g)
one_kind (suc (suc zero)) false false h g = refl
one_kind (suc (suc (suc k))) b c h g = absurd (false≢true h)

picked : (s l : List ℕ) (a b : ℕ) (t : Bool) → cond t (spelled_same true s l a b) (spelled_same false s l a b) ≡ spelled_same t s l a b
picked s l a b true = refl
picked s l a b false = refl

module _ (s l : List ℕ) (a b : ℕ) where
  pub same_opens : same_name s l a b ≡ true → OneName s l a b
  unfolding same_name spelled_same
  same_opens h =
      let k = chosen (eqb (cell_at l a 0) (cell_at l b 0)) h in
      let d = by_kind_lem (cell_at l a 0) (spelled_same true s l a b) (spelled_same false s l a b) k.1 in
      let n = chosen (eqb (cell_at l a 2) (cell_at l b 2)) (sym (picked s l a b d.0) ∙ d.2) in
      let i = chosen (within s (cell_at l a 1) (cell_at l a 2) && within s (cell_at l b 1) (cell_at l a 2)) n.1 in
      let x = both_left (within s (cell_at l a 1) (cell_at l a 2)) (within s (cell_at l b 1) (cell_at l a 2)) i.0 in
      let y = both_right (within s (cell_at l a 1) (cell_at l a 2)) (within s (cell_at l b 1) (cell_at l a 2)) i.0 in
      let z = eqb-true (cell_at l a 2) (cell_at l b 2) n.0 in record {
        basic = d.0;
        kind = d.1;
        kinds = eqb-true (cell_at l a 0) (cell_at l b 0) k.0;
        sizes = z;
        first_in = leb-true (cell_at l a 1 + cell_at l a 2) (length s) x;
        second_in = omega (arith, leb-true (cell_at l b 1 + cell_at l a 2) (length s) y, z);
        agrees = i.1;
      }

  pub same_closes : OneName s l a b → same_name s l a b ≡ true
  unfolding same_name spelled_same
  same_closes o =
      rw (eq-eqb (cell_at l a 0) (cell_at l b 0) o.kinds, kind_of_lem (cell_at l a 0) o.basic (spelled_same true s l a b) (spelled_same false s l a b) o.kind)
      (picked s l a b o.basic
      ∙ rw (
        eq-eqb (cell_at l a 2) (cell_at l b 2) o.sizes,
        le-leb (cell_at l a 1 + cell_at l a 2) (length s) o.first_in,
        le-leb (cell_at l b 1 + cell_at l a 2) (length s) (omega (arith, o.second_in, o.sizes)),
      ) o.agrees)

pub same_flips : (s l : List ℕ) (a b : ℕ) → same_name s l a b ≡ true → same_name s l b a ≡ true
same_flips s l a b h =
    let o = same_opens s l a b h in
    same_closes s l b a record {
      basic = o.basic;
      kind = rw (← o.kinds) o.kind;
      kinds = sym o.kinds;
      sizes = sym o.sizes;
      first_in = o.second_in;
      second_in = o.first_in;
      agrees = rw (← o.sizes) (agree_flip o.basic s (cell_at l a 1) (cell_at l b 1) (cell_at l a 2) o.agrees);
    }

pub same_goes_on : (s l : List ℕ) (a b c : ℕ) → same_name s l a b ≡ true → same_name s l b c ≡ true → same_name s l a c ≡ true
same_goes_on s l a b c h g =
    let o = same_opens s l a b h in
    let p = same_opens s l b c g in
    let k : p.basic ≡ o.basic = one_kind (cell_at l b 0) p.basic o.basic p.kind (rw o.kinds at o.kind) in
    let q : agree o.basic s (cell_at l b 1) (cell_at l c 1) (cell_at l a 2) ≡ true = rw (o.sizes, ← k) p.agrees in
    same_closes s l a c record {
      basic = o.basic;
      kind = o.kind;
      kinds = o.kinds ∙ p.kinds;
      sizes = o.sizes ∙ p.sizes;
      first_in = o.first_in;
      second_in = p.second_in;
      agrees = agree_on o.basic s (cell_at l a 1) (cell_at l b 1) (cell_at l c 1) (cell_at l a 2) o.agrees q;
    }

-- an element of another kind is no name
pub same_kindless : (s l : List ℕ) (a b : ℕ) → (cell_at l b 0 ≡ 1 → ⊥) → (cell_at l b 0 ≡ 2 → ⊥) → same_name s l a b ≡ true → ⊥
same_kindless s l a b f g h =
    let o = same_opens s l a b h in
    kindless (cell_at l b 0) o.basic f g (rw o.kinds at o.kind)
  where
    kindless : (k : ℕ) (t : Bool) → (k ≡ 1 → ⊥) → (k ≡ 2 → ⊥) → by_kind k t (not t) ≡ true → ⊥
    kindless zero t f g e = false≢true e
    kindless (suc zero) t f g e = f refl
    kindless (suc (suc zero)) t f g e = g refl
    kindless (suc (suc (suc k))) t f g e = false≢true e
