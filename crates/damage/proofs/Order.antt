-- Lists whose members stand in order, each before all after it. Assumes nothing.
use mathlib.Core.Path.{◌≡◌, refl, sym, ap, subst, ◌∙◌}
use mathlib.Core.Logic.{◌⊎◌, inl, inr}
use mathlib.Core.Bool.{Bool, true, false, cond}
use mathlib.Core.List.{List, [], ◌∷◌, ◌++◌}
use Rattle.damage.specs.PlacedElements.{In}

pub in_left : {A : Type 0} (x : A) (l m : List A) → In x l → In x (l ++ m)
in_left x [] m h = elim h [ ]
in_left x (y ∷ l) m (inl e) = inl e
in_left x (y ∷ l) m (inr h) = inr (in_left x l m h)

pub in_right : {A : Type 0} (x : A) (l m : List A) → In x m → In x (l ++ m)
in_right x [] m h = h
in_right x (y ∷ l) m h = inr (in_right x l m h)

pub in_either : {A : Type 0} (x : A) (l m : List A) → In x (l ++ m) → In x l ⊎ In x m
in_either x [] m h = inr h
in_either x (y ∷ l) m (inl e) = inl (inl e)
in_either x (y ∷ l) m (inr h) = go (in_either x l m h)
  where
    go : In x l ⊎ In x m → In x (y ∷ l) ⊎ In x m
    go (inl k) = inl (inr k)
    go (inr k) = inr k

-- a list split at a member
pub in_split : {A : Type 0} (x : A) (l : List A) → In x l → (a : List A) × (b : List A) × (l ≡ a ++ x ∷ b)
in_split x [] h = elim h [ ]
in_split x (y ∷ l) (inl e) = ([], l, ap (λ z. z ∷ l) e)
in_split x (y ∷ l) (inr h) = let s = in_split x l h in (y ∷ s.0, s.1, ap (λ z. y ∷ z) s.2)

pub in_middle : {A : Type 0} (x : A) (a b : List A) → In x (a ++ x ∷ b)
in_middle x [] b = inl refl
in_middle x (y ∷ a) b = inr (in_middle x a b)

module _ {A : Type 0} (Before : A → A → Type 0) where
  -- x stands before all
  abbrev pub First : A → List A → Type 0
  First x [] = Unit {0}
  First x (y ∷ l) = Before x y × First x l

  abbrev pub Rising : List A → Type 0
  Rising [] = Unit {0}
  Rising (x ∷ l) = First x l × Rising l

  -- all of one list before all of another
  abbrev pub Apart : List A → List A → Type 0
  Apart [] m = Unit {0}
  Apart (x ∷ l) m = First x m × Apart l m

  pub first_in_lem : (x y : A) (l : List A) → First x l → In y l → Before x y
  first_in_lem x y [] f h = elim h [ ]
  first_in_lem x y (z ∷ l) f (inl e) = subst (λ w. Before x w) e f.0
  first_in_lem x y (z ∷ l) f (inr h) = first_in_lem x y l f.1 h

  pub first_append : (x : A) (l m : List A) → First x l → First x m → First x (l ++ m)
  first_append x [] m f g = g
  first_append x (y ∷ l) m f g = (f.0, first_append x l m f.1 g)

  pub rising_append : (l m : List A) → Rising l → Rising m → Apart l m → Rising (l ++ m)
  rising_append [] m r q a = q
  rising_append (x ∷ l) m r q a = (first_append x l m r.0 a.0, rising_append l m r.1 q a.1)

  pub rising_left : (l m : List A) → Rising (l ++ m) → Rising l
  rising_left [] m r = tt
  rising_left (x ∷ l) m r = (first_left l r.0, rising_left l m r.1)
    where
      first_left : (k : List A) → First x (k ++ m) → First x k
      first_left [] f = tt
      first_left (y ∷ k) f = (f.0, first_left k f.1)

  pub rising_right : (l m : List A) → Rising (l ++ m) → Rising m
  rising_right [] m r = r
  rising_right (x ∷ l) m r = rising_right l m r.1

  -- what stands in the first list stands before what stands in the second
  pub rising_between : (l m : List A) (x y : A) → Rising (l ++ m) → In x l → In y m → Before x y
  rising_between [] m x y r h k = elim h [ ]
  rising_between (z ∷ l) m x y r (inl e) k = subst (λ w. Before w y) e (first_in_lem z y (l ++ m) r.0 (in_right y l m k))
  rising_between (z ∷ l) m x y r (inr h) k = rising_between l m x y r.1 h k

  module _ (never : (x : A) → Before x x → ⊥) (both : (x y z : A) → Before x y → Before y z → Before x z) where
    -- two members stand one before the other, or are one
    pub ordered : (l : List A) (x y : A) → Rising l → In x l → In y l → Before x y ⊎ ((x ≡ y) ⊎ Before y x)
    ordered [] x y r h k = elim h [ ]
    ordered (z ∷ l) x y r (inl e) (inl f) = inr (inl (sym e ∙ f))
    ordered (z ∷ l) x y r (inl e) (inr k) = inl (subst (λ w. Before w y) e (first_in_lem z y l r.0 k))
    ordered (z ∷ l) x y r (inr h) (inl f) = inr (inr (subst (λ w. Before w x) f (first_in_lem z x l r.0 h)))
    ordered (z ∷ l) x y r (inr h) (inr k) = ordered l x y r.1 h k

    -- a member before p stands in the part before p
    pub earlier : (a b : List A) (p x : A) → Rising (a ++ p ∷ b) → In x (a ++ p ∷ b) → Before x p → In x a
    earlier a b p x r h k = go (in_either x a (p ∷ b) h)
      where
        go : In x a ⊎ In x (p ∷ b) → In x a
        go (inl m) = m
        go (inr (inl e)) = absurd (never p (subst (λ w. Before w p) (sym e) k))
        go (inr (inr m)) = absurd (never p (both p x p (first_in_lem p x b (rising_right a (p ∷ b) r).0 m) k))

    -- how many members pass a test
    abbrev pub passing : (A → Bool) → List A → List A
    passing f [] = []
    passing f (x ∷ l) = cond (f x) (x ∷ passing f l) (passing f l)

    pub passing_in : (f : A → Bool) (x : A) (l : List A) → In x (passing f l) → In x l × (f x ≡ true)
    passing_in f x [] h = elim h [ ]
    passing_in f x (y ∷ l) h = go (f y) refl (λ k. passing_in f x l k) h
      where
        go : (b : Bool) → f y ≡ b → (In x (passing f l) → In x l × (f x ≡ true)) → In x (cond b (y ∷ passing f l) (passing f l)) → In x (y ∷ l) × (f x ≡ true)
        go true e ih (inl k) = (inl k, ap f (sym k) ∙ e)
        go true e ih (inr k) = let m = ih k in (inr m.0, m.1)
        go false e ih k = let m = ih k in (inr m.0, m.1)

    pub in_passing : (f : A → Bool) (x : A) (l : List A) → In x l → f x ≡ true → In x (passing f l)
    in_passing f x [] h t = elim h [ ]
    in_passing f x (y ∷ l) (inl e) t = let z : f y ≡ true = ap f e ∙ t in rw z (inl e)
    in_passing f x (y ∷ l) (inr h) t = go (f y) (in_passing f x l h t)
      where
        go : (b : Bool) → In x (passing f l) → In x (cond b (y ∷ passing f l) (passing f l))
        go true k = inr k
        go false k = k

    first_passing : (f : A → Bool) (x : A) (l : List A) → First x l → First x (passing f l)
    first_passing f x [] h = tt
    first_passing f x (y ∷ l) h = go (f y) (first_passing f x l h.1)
      where
        go : (b : Bool) → First x (passing f l) → First x (cond b (y ∷ passing f l) (passing f l))
        go true k = (h.0, k)
        go false k = k

    pub rising_passing : (f : A → Bool) (l : List A) → Rising l → Rising (passing f l)
    rising_passing f [] r = tt
    rising_passing f (y ∷ l) r = go (f y) (rising_passing f l r.1)
      where
        go : (b : Bool) → Rising (passing f l) → Rising (cond b (y ∷ passing f l) (passing f l))
        go true k = (first_passing f y l r.0, k)
        go false k = k

    -- two lists in order with the same members are one
    pub one_list : (l m : List A) → Rising l → Rising m → ((x : A) → In x l → In x m) → ((x : A) → In x m → In x l) → l ≡ m
    one_list [] [] r q f g = refl
    one_list [] (y ∷ m) r q f g = absurd (g y (inl refl))
    one_list (x ∷ l) [] r q f g = absurd (f x (inl refl))
    one_list (x ∷ l) (y ∷ m) r q f g = go (f x (inl refl)) (g y (inl refl)) (one_list l m r.1 q.1)
      where
        inner : x ≡ y → (z : A) → In z l → In z (y ∷ m) → In z m
        inner e z h (inl k) = absurd (never x (subst (λ w. Before x w) (sym k ∙ sym e) (first_in_lem x z l r.0 h)))
        inner e z h (inr k) = k

        outer : x ≡ y → (z : A) → In z m → In z (x ∷ l) → In z l
        outer e z h (inl k) = absurd (never y (subst (λ w. Before y w) (sym k ∙ e) (first_in_lem y z m q.0 h)))
        outer e z h (inr k) = k

        same : x ≡ y → (((z : A) → In z l → In z m) → ((z : A) → In z m → In z l) → l ≡ m) → x ∷ l ≡ y ∷ m
        same e ih = let k = ih (λ z h. inner e z h (f z (inr h))) (λ z h. outer e z h (g z (inr h))) in cc

        go : In x (y ∷ m) → In y (x ∷ l) → (((z : A) → In z l → In z m) → ((z : A) → In z m → In z l) → l ≡ m) → x ∷ l ≡ y ∷ m
        go (inl e) h ih = same (sym e) ih
        go (inr k) (inl e) ih = same e ih
        go (inr k) (inr h) ih = absurd (never x (both x y x (first_in_lem x y l r.0 h) (first_in_lem y x m q.0 k)))
