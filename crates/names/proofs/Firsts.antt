-- Laws of the first number that passes, and of whether one does. Assumes nothing.
use mathlib.Core.Path.{◌≡◌, refl, sym, ap, ◌∙◌, subst}
use mathlib.Core.Bool.{Bool, true, false, false≢true}
use Prim.Native.Nat.{ℕ, zero, suc, ◌+◌, ◌-◌, ◌≤◌, ◌<◌}
use native.Mathlib.Decide.{ℕ_discrete}
use native.Mathlib.Omega.{arith}
use Rattle.names.specs.code.Links.{first_from, any_from}

module _ (p : ℕ → Bool) where
  hit : (j m : ℕ) → p j ≡ true → first_from p j (suc m) ≡ suc j
  unfolding first_from
  hit j m e = rw e

  miss : (j m : ℕ) → p j ≡ false → first_from p j (suc m) ≡ first_from p (suc j) m
  unfolding first_from
  miss j m e = rw e

  pub first_none_left : (j : ℕ) → first_from p j 0 ≡ 0
  unfolding first_from
  first_none_left j = refl

  -- what the first is
  abbrev pub IsFirst : ℕ → ℕ → ℕ → Type 0
  IsFirst j m f = (j ≤ f) × (f < j + m) × (p f ≡ true) × ((k : ℕ) → j ≤ k → k < f → p k ≡ false)

  pub first_found : (j m f : ℕ) → first_from p j m ≡ suc f → IsFirst j m f
  unfolding first_from
  first_found j zero f h = absurd (omega arith)
  first_found j (suc m) f h = go (p j) refl (λ e. first_found (suc j) m f (sym (miss j m e) ∙ h))
    where
      go : (t : Bool) → p j ≡ t → (t ≡ false → IsFirst (suc j) m f) → IsFirst j (suc m) f
      go true e g =
          let z : suc j ≡ suc f = sym (hit j m e) ∙ h in
          let y : j ≡ f = omega arith in
          (omega arith, omega arith, subst (λ (k : ℕ). p k ≡ true) y e, λ k a b. absurd (omega arith))
      go false e g =
          let w = g refl in
          let a = w.0 in
          let b = w.1 in
          (omega arith, omega arith, w.2, λ k c d. step k c d (ℕ_discrete j k))
        where
          step : (k : ℕ) → j ≤ k → k < f → Dec (j ≡ k) → p k ≡ false
          step k c d (yes y) = subst (λ (x : ℕ). p x ≡ false) y e
          step k c d (no y) = (g refl).3 k (omega arith) d

  pub first_none : (j m : ℕ) → first_from p j m ≡ 0 → (k : ℕ) → j ≤ k → k < j + m → p k ≡ false
  first_none j zero h k a b = absurd (omega arith)
  first_none j (suc m) h k a b = go (p j) refl (ℕ_discrete j k) (λ e l. first_none (suc j) m (sym (miss j m e) ∙ h) k l (omega arith))
    where
      go : (t : Bool) → p j ≡ t → Dec (j ≡ k) → (p j ≡ false → j < k → p k ≡ false) → p k ≡ false
      go true e d g = absurd (let z : suc j ≡ 0 = sym (hit j m e) ∙ h in omega arith)
      go false e (yes y) g = subst (λ (x : ℕ). p x ≡ false) y e
      go false e (no y) g = g e (omega arith)

  -- what none of d numbers passes, the ones after them decide
  pub first_later : (j d m : ℕ) → ((k : ℕ) → j ≤ k → k < j + d → p k ≡ false) → first_from p j (d + m) ≡ first_from p (j + d) m
  first_later j zero m h = let e : j + 0 ≡ j = omega arith in let g : 0 + m ≡ m = omega arith in rw (e, g)
  first_later j (suc d) m h =
      let e : j + suc d ≡ suc j + d = omega arith in
      let g : suc d + m ≡ suc (d + m) = omega arith in
      rw (e, g) (miss j (d + m) (h j (omega arith) (omega arith)) ∙ first_later (suc j) d m (λ k a b. h k (omega arith) (omega arith)))

  -- the turns of a loop over the records j to n - 1
  module _ (n j : ℕ) where
    pub first_hit : j < n → p j ≡ true → first_from p j (n - j) ≡ j + 1
    first_hit l e = let z : n - j ≡ suc (n - (j + 1)) = omega arith in let y : suc j ≡ j + 1 = omega arith in ap (first_from p j) z ∙ hit j (n - (j + 1)) e ∙ y

    pub first_miss : j < n → p j ≡ false → first_from p j (n - j) ≡ first_from p (j + 1) (n - (j + 1))
    first_miss l e = let z : n - j ≡ suc (n - (j + 1)) = omega arith in let y : j + 1 ≡ suc j = omega arith in rw (z, y) (miss j (n - suc j) e)

    pub first_end : n ≤ j → first_from p j (n - j) ≡ 0
    first_end l = let z : n - j ≡ 0 = omega arith in rw z (first_none_left j)

    -- from the j-th to the f-th, none of them passing
    pub first_skip : (f : ℕ) → j ≤ f → f ≤ n → ((k : ℕ) → j ≤ k → k < f → p k ≡ false) → first_from p j (n - j) ≡ first_from p f (n - f)
    first_skip f a b h =
        let z : n - j ≡ (f - j) + (n - f) = omega arith in
        let y : j + (f - j) ≡ f = omega arith in
        rw z (first_later j (f - j) (n - f) (λ k c d. h k c (omega arith)) ∙ ap (λ (x : ℕ). first_from p x (n - f)) y)

  any_now : (j m : ℕ) → p j ≡ true → any_from p j (suc m) ≡ true
  unfolding any_from
  any_now j m e = rw e

  any_past : (j m : ℕ) → p j ≡ false → any_from p j (suc m) ≡ any_from p (suc j) m
  unfolding any_from
  any_past j m e = rw e

  -- one that passes
  abbrev pub Some : ℕ → ℕ → Type 0
  Some j m = (k : ℕ) × (j ≤ k) × (k < j + m) × (p k ≡ true)

  pub any_found : (j m : ℕ) → any_from p j m ≡ true → Some j m
  unfolding any_from
  any_found j zero h = absurd (false≢true h)
  any_found j (suc m) h = go (p j) refl (λ e. any_found (suc j) m (sym (any_past j m e) ∙ h))
    where
      go : (t : Bool) → p j ≡ t → (t ≡ false → Some (suc j) m) → Some j (suc m)
      go true e g = (j, omega arith, omega arith, e)
      go false e g = let w = g refl in let a = w.1 in let b = w.2 in (w.0, omega arith, omega arith, w.3)

  pub any_at : (j m k : ℕ) → j ≤ k → k < j + m → p k ≡ true → any_from p j m ≡ true
  any_at j zero k a b e = absurd (omega arith)
  any_at j (suc m) k a b e = go (p j) refl (ℕ_discrete j k) (λ l. any_at (suc j) m k l (omega arith) e)
    where
      go : (t : Bool) → p j ≡ t → Dec (j ≡ k) → (j < k → any_from p (suc j) m ≡ true) → any_from p j (suc m) ≡ true
      go true g d f = any_now j m g
      go false g (yes y) f = absurd (false≢true (sym g ∙ subst (λ (x : ℕ). p x ≡ true) (sym y) e))
      go false g (no y) f = any_past j m g ∙ f (omega arith)

  pub any_none : (j m : ℕ) → (Some j m → ⊥) → any_from p j m ≡ false
  any_none j m h = go (any_from p j m) refl
    where
      go : (t : Bool) → any_from p j m ≡ t → any_from p j m ≡ false
      go true e = absurd (h (any_found j m e))
      go false e = e

-- two tests that agree find the same
pub first_same : (p q : ℕ → Bool) (j m : ℕ) → ((k : ℕ) → j ≤ k → k < j + m → p k ≡ q k) → first_from p j m ≡ first_from q j m
unfolding first_from
first_same p q j zero h = refl
first_same p q j (suc m) h =
    let e : p j ≡ q j = h j (omega arith) (omega arith) in
    let g : first_from p (suc j) m ≡ first_from q (suc j) m = first_same p q (suc j) m (λ k a b. h k (omega arith) (omega arith)) in
    rw (e, g)

-- a search along the numbers that pass q, of which those that pass p are some
module _ (p q : ℕ → Bool) (some : (k : ℕ) → p k ≡ true → q k ≡ true) (n at h whole : ℕ) (found : h ≡ first_from q at (n - at)) (left : first_from p at (n - at) ≡ whole) where
  not_p : (k : ℕ) → q k ≡ false → p k ≡ false
  not_p k e = go (p k) refl
    where
      go : (t : Bool) → p k ≡ t → p k ≡ false
      go true g = absurd (false≢true (sym e ∙ some k g))
      go false g = g

  pub search_over : h ≡ 0 → 0 ≡ whole
  search_over e = sym (go (first_from p at (n - at)) refl)
    where
      go : (f : ℕ) → first_from p at (n - at) ≡ f → whole ≡ 0
      go zero g = sym left ∙ g
      go (suc f) g =
          absurd (let w = first_found p at (n - at) f g in false≢true (sym (first_none q at (n - at) (sym found ∙ e) f w.0 w.1) ∙ some f w.2))

  module _ (j : ℕ) (e : h ≡ suc j) where
    is : IsFirst q at (n - at) j
    is = first_found q at (n - at) j (sym found ∙ e)

    pub search_inside : j < n
    search_inside = let a = is.0 in let b = is.1 in omega arith

    pub search_in : q j ≡ true
    search_in = is.2

    here : first_from p j (n - j) ≡ whole
    here = sym (first_skip p n at j is.0 (let a = is.0 in let b = is.1 in omega arith) (λ k a b. not_p k (is.3 k a b))) ∙ left

    pub search_hit : p j ≡ true → h ≡ whole
    search_hit g = let y : j + 1 ≡ suc j = omega arith in e ∙ sym y ∙ sym (first_hit p n j search_inside g) ∙ here

    pub search_turn : p j ≡ false → first_from p (j + 1) (n - (j + 1)) ≡ whole
    search_turn g = sym (first_miss p n j search_inside g) ∙ here
