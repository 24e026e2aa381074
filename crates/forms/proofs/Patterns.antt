-- Patterns of items: a computed test that one row of patterns is within another, and that it is right. The test knows no grammar.
-- Assumes nothing.
use Prim.Native.Nat.{ℕ, zero, suc}
use mathlib.Core.Path.{◌≡◌, refl, sym, ◌∙◌, ap, ap₂, subst}
use mathlib.Core.Logic.{⊎_elim}
use mathlib.Core.Bool.{Bool, true, false, not, ◌&&◌, ◌||◌}
use mathlib.Core.List.{List, [], ◌∷◌, ◌++◌, append_assoc, append-nil}
use lib.Dec.{T, eqb, eqb→eq}
use lib.ListN.{get_or}
use Rattle.grammars.proofs.Theory.{and_left, and_right, or_cases}
use Rattle.forms.specs.code.Kinds.{number_of, left_paren, right_paren}
use Rattle.forms.specs.Spellings.{is_in}
use Rattle.forms.specs.FormLines.{OwnItem, at, row, Pattern, nothing, one, operand, both, either, many, expressions, an_expression, IsOf, code_of, Fits, none, this, bare, inside, then, left, right, no_more, more}
use Rattle.forms.specs.code.Shapes.{symbol}

-- a list of items cut in two
pub record Cut (A B : List OwnItem → Type 0) (x : List OwnItem) : Type 0 where
  pub before : List OwnItem
  pub behind : List OwnItem
  pub first : A before
  pub last : B behind
  pub is : x ≡ before ++ behind

-- one pattern after the other
abbrev pub FitsAll : List ℕ → ℕ → List Pattern → List OwnItem → Type 0
FitsAll w q [] x = x ≡ []
FitsAll w q (p ∷ l) x = Cut (Fits w q p) (FitsAll w q l) x

abbrev pub subset : List ℕ → List ℕ → Bool
subset [] l = true
subset (k ∷ m) l = is_in k l && subset m l

pub subset_at : (m l : List ℕ) → T (subset m l) → (t : ℕ) → T (is_in t m) → T (is_in t l)
subset_at [] l h t i = absurd i
subset_at (k ∷ m) l h t i =
    ⊎_elim (λ z. subst (λ (x : ℕ). T (is_in x l)) (sym (eqb→eq t k z)) (and_left (is_in k l) (subset m l) h))
    (λ z. subset_at m l (and_right (is_in k l) (subset m l) h) t z)
    (or_cases (eqb t k) (is_in t m) i)

-- a pattern that fits no item at all as well
abbrev nullable : Pattern → Bool
nullable nothing = true
nullable (one t K) = false
nullable (operand S) = false
nullable (both a b) = nullable a && nullable b
nullable (either a b) = nullable a || nullable b
nullable (many a) = true

abbrev nullables : List Pattern → Bool
nullables [] = true
nullables (p ∷ l) = nullable p && nullables l

abbrev Test : Type 0
Test = List Pattern → List Pattern → Bool

abbrev one_in : ℕ → List ℕ → Pattern → Bool
one_in t K nothing = false
one_in t K (one t' K') = eqb t' t && subset K' K
one_in t K (operand S) = false
one_in t K (both a b) = false
one_in t K (either a b) = false
one_in t K (many a) = false

abbrev operand_in : List ℕ → Pattern → Bool
operand_in S nothing = false
operand_in S (one t K) = eqb t 2 && subset K S
operand_in S (operand S') = subset S' S
operand_in S (both a b) = false
operand_in S (either a b) = false
operand_in S (many a) = false

abbrev many_in : Test → Pattern → Pattern → Bool
many_in s a nothing = false
many_in s a (one t K) = false
many_in s a (operand S) = false
many_in s a (both b c) = false
many_in s a (either b c) = false
many_in s a (many b) = s (b ∷ []) (a ∷ [])

-- an operand in parentheses
abbrev parens : Test → Pattern → List Pattern → List Pattern → Bool
parens s p [] m = false
parens s p (b ∷ []) m = false
parens s p (b ∷ c ∷ l) m = s (p ∷ []) (symbol left_paren ∷ []) && (s (b ∷ []) (an_expression ∷ []) && (s (c ∷ []) (symbol right_paren ∷ []) && s l m))

abbrev rightly : Test → Pattern → List Pattern → List Pattern → Bool
rightly s p l [] = false
rightly s p l (nothing ∷ m) = s (p ∷ l) m
rightly s p l (one t K ∷ m) = one_in t K p && s l m
rightly s p l (operand S ∷ m) = (operand_in S p && s l m) || parens s p l m
rightly s p l (both a b ∷ m) = s (p ∷ l) (a ∷ b ∷ m)
rightly s p l (either a b ∷ m) = s (p ∷ l) (a ∷ m) || s (p ∷ l) (b ∷ m)
rightly s p l (many a ∷ m) = (many_in s a p && s l m) || (s (p ∷ l) m || s (p ∷ l) (a ∷ many a ∷ m))

abbrev step : Test → Test
step s [] m = nullables m
step s (nothing ∷ l) m = s l m
step s (one t K ∷ l) m = rightly s (one t K) l m
step s (operand S ∷ l) m = rightly s (operand S) l m
step s (both a b ∷ l) m = s (a ∷ b ∷ l) m
step s (either a b ∷ l) m = s (a ∷ l) m && s (b ∷ l) m
step s (many a ∷ l) m = rightly s (many a) l m

-- what fits the one row of patterns fits the other: at most n steps
abbrev pub sub : ℕ → List Pattern → List Pattern → Bool
sub zero l m = false
sub (suc n) l m = step (sub n) l m

module _ (w : List ℕ) (q : ℕ) where
  abbrev Sound : Test → Type 0
  Sound s = (l m : List Pattern) (x : List OwnItem) → T (s l m) → FitsAll w q l x → FitsAll w q m x

  pub single : (p : Pattern) (x : List OwnItem) → Fits w q p x → FitsAll w q (p ∷ []) x
  single p x h = record { before = x; behind = []; first = h; last = refl; is = sym (append-nil x) }

  pub alone : (p : Pattern) (x : List OwnItem) → FitsAll w q (p ∷ []) x → Fits w q p x
  alone p x h = subst (Fits w q p) (sym (h.is ∙ ap (λ (z : List OwnItem). h.before ++ z) h.last ∙ append-nil h.before)) h.first

  -- a row of patterns cut further on the left, and put together there
  regroup : (a b : List OwnItem) (y z x : List OwnItem) → x ≡ y ++ z → y ≡ a ++ b → x ≡ a ++ (b ++ z)
  regroup a b y z x d f = d ∙ ap (λ (v : List OwnItem). v ++ z) f ∙ append_assoc a b z

  null_fits : (p : Pattern) → T (nullable p) → Fits w q p []
  null_fits nothing h = none
  null_fits (one t K) h = absurd h
  null_fits (operand S) h = absurd h
  null_fits (both a b) h = then (null_fits a (and_left (nullable a) (nullable b) h)) (null_fits b (and_right (nullable a) (nullable b) h)) refl
  null_fits (either a b) h = ⊎_elim (λ z. left (null_fits a z)) (λ z. right (null_fits b z)) (or_cases (nullable a) (nullable b) h)
  null_fits (many a) h = no_more

  nulls_fit : (m : List Pattern) → T (nullables m) → FitsAll w q m []
  nulls_fit [] h = refl
  nulls_fit (p ∷ m) h =
      record { before = []; behind = []; first = null_fits p (and_left (nullable p) (nullables m) h); last = nulls_fit m (and_right (nullable p) (nullables m) h); is = refl }

  one_in_lem : (t : ℕ) (K : List ℕ) (p : Pattern) (x : List OwnItem) → T (one_in t K p) → Fits w q p x → Fits w q (one t K) x
  one_in_lem t K nothing x h f = absurd h
  one_in_lem t K (one t' K') x h (this {x = i} c m) =
      this (subst (λ (z : ℕ). IsOf q z i) (eqb→eq t' t (and_left (eqb t' t) (subset K' K) h)) c) (subset_at K' K (and_right (eqb t' t) (subset K' K) h) (code_of w i) m)
  one_in_lem t K (operand S) x h f = absurd h
  one_in_lem t K (both a b) x h f = absurd h
  one_in_lem t K (either a b) x h f = absurd h
  one_in_lem t K (many a) x h f = absurd h

  operand_one : (S : List ℕ) (t : ℕ) (i : OwnItem) → t ≡ 2 → IsOf q t i → T (is_in (code_of w i) S) → Fits w q (operand S) (i ∷ [])
  operand_one S t (at j) d c m = absurd (subst (λ (z : ℕ). IsOf q z (at j)) d c)
  operand_one S t (row s) d c m = bare m

  operand_in_lem : (S : List ℕ) (p : Pattern) (x : List OwnItem) → T (operand_in S p) → Fits w q p x → Fits w q (operand S) x
  operand_in_lem S nothing x h f = absurd h
  operand_in_lem S (one t K) x h (this {x = i} c m) =
      operand_one S t i (eqb→eq t 2 (and_left (eqb t 2) (subset K S) h)) c (subset_at K S (and_right (eqb t 2) (subset K S) h) (code_of w i) m)
  operand_in_lem S (operand S') x h (bare {s = s} m) = bare (subset_at S' S h s m)
  operand_in_lem S (operand S') x h (inside i j a f b d) = inside i j a f b d
  operand_in_lem S (both a b) x h f = absurd h
  operand_in_lem S (either a b) x h f = absurd h
  operand_in_lem S (many a) x h f = absurd h

  many_each : (a b : Pattern) → ((x : List OwnItem) → Fits w q b x → Fits w q a x) → (x : List OwnItem) → Fits w q (many b) x → Fits w q (many a) x
  many_each a b h x no_more = no_more
  many_each a b h x (more {y = y} f g d) = more (h _ f) (many_each a b h y g) d

  module _ (s : Test) (sound : Sound s) where
    one_sound : (p r : Pattern) (x : List OwnItem) → T (s (p ∷ []) (r ∷ [])) → Fits w q p x → Fits w q r x
    one_sound p r x h f = alone r x (sound (p ∷ []) (r ∷ []) x h (single p x f))

    many_in_lem : (a p : Pattern) (x : List OwnItem) → T (many_in s a p) → Fits w q p x → Fits w q (many a) x
    many_in_lem a nothing x h f = absurd h
    many_in_lem a (one t K) x h f = absurd h
    many_in_lem a (operand S) x h f = absurd h
    many_in_lem a (both b c) x h f = absurd h
    many_in_lem a (either b c) x h f = absurd h
    many_in_lem a (many b) x h f = many_each a b (λ y g. one_sound b a y h g) x f

    -- the first pattern is within that one, and the rest within the rest
    heads : (p r : Pattern) (l m : List Pattern) (x : List OwnItem) → ((y : List OwnItem) → Fits w q p y → Fits w q r y) → T (s l m) → FitsAll w q (p ∷ l) x → FitsAll w q (r ∷ m) x
    heads p r l m x h t f = record { before = f.before; behind = f.behind; first = h f.before f.first; last = sound l m f.behind t f.last; is = f.is }

    paren_left : (x : List OwnItem) → Fits w q (symbol left_paren) x → (i : ℕ) × ((get_or w i 0 ≡ number_of left_paren) × (x ≡ at i ∷ []))
    paren_left x (this {x = at i} c m) = (i, (⊎_elim (eqb→eq (get_or w i 0) _) (λ z. absurd z) (or_cases (eqb (get_or w i 0) _) false m), refl))
    paren_left x (this {x = row t} c m) = absurd c

    paren_right : (x : List OwnItem) → Fits w q (symbol right_paren) x → (i : ℕ) × ((get_or w i 0 ≡ number_of right_paren) × (x ≡ at i ∷ []))
    paren_right x (this {x = at i} c m) = (i, (⊎_elim (eqb→eq (get_or w i 0) _) (λ z. absurd z) (or_cases (eqb (get_or w i 0) _) false m), refl))
    paren_right x (this {x = row t} c m) = absurd c

    parens_in : (S : List ℕ) (p : Pattern) (l m : List Pattern) (x : List OwnItem) → T (parens s p l m) → FitsAll w q (p ∷ l) x → FitsAll w q (operand S ∷ m) x
    parens_in S p [] m x h f = absurd h
    parens_in S p (b ∷ []) m x h f = absurd h
    parens_in S p (b ∷ c ∷ l) m x h f =
        let A = s (p ∷ []) (symbol left_paren ∷ []) in
        let B = s (b ∷ []) (an_expression ∷ []) in
        let C = s (c ∷ []) (symbol right_paren ∷ []) in
        let D = s l m in
        let h₁ = and_right A (B && (C && D)) h in
        let h₂ = and_right B (C && D) h₁ in
        let g = f.last in
        let k = g.last in
        let i = paren_left f.before (one_sound p (symbol left_paren) f.before (and_left A (B && (C && D)) h) f.first) in
        let j = paren_right k.before (one_sound c (symbol right_paren) k.before (and_left C D h₂) k.first) in
        let mid : List OwnItem = at i.0 ∷ (g.before ++ (at j.0 ∷ [])) in
        record {
          before = mid;
          behind = k.behind;
          first = inside i.0 j.0 i.1.0 (one_sound b an_expression g.before (and_left B (C && D) h₁) g.first) j.1.0 refl;
          last = sound l m k.behind (and_right C D h₂) k.last;
          is = f.is ∙ ap₂ (λ (u v : List OwnItem). u ++ v) i.1.1 (g.is ∙ ap (λ (v : List OwnItem). g.before ++ v) (k.is ∙ ap (λ (v : List OwnItem). v ++ k.behind) j.1.1))
              ∙ ap (λ (v : List OwnItem). at i.0 ∷ v) (sym (append_assoc g.before (at j.0 ∷ []) k.behind));
        }

    rightly_sound : (p : Pattern) (l m : List Pattern) (x : List OwnItem) → T (rightly s p l m) → FitsAll w q (p ∷ l) x → FitsAll w q m x
    rightly_sound p l [] x h f = absurd h
    rightly_sound p l (nothing ∷ m) x h f = record { before = []; behind = x; first = none; last = sound (p ∷ l) m x h f; is = refl }
    rightly_sound p l (one t K ∷ m) x h f = heads p (one t K) l m x (λ y g. one_in_lem t K p y (and_left (one_in t K p) (s l m) h) g) (and_right (one_in t K p) (s l m) h) f
    rightly_sound p l (operand S ∷ m) x h f =
        ⊎_elim (λ z. heads p (operand S) l m x (λ y g. operand_in_lem S p y (and_left (operand_in S p) (s l m) z) g) (and_right (operand_in S p) (s l m) z) f)
        (λ z. parens_in S p l m x z f)
        (or_cases (operand_in S p && s l m) (parens s p l m) h)
    rightly_sound p l (both a b ∷ m) x h f =
        let g = sound (p ∷ l) (a ∷ b ∷ m) x h f in
        let k = g.last in
        record {
          before = g.before ++ k.before;
          behind = k.behind;
          first = then g.first k.first refl;
          last = k.last;
          is = g.is ∙ ap (λ (v : List OwnItem). g.before ++ v) k.is ∙ sym (append_assoc g.before k.before k.behind);
        }
    rightly_sound p l (either a b ∷ m) x h f =
        ⊎_elim (λ z. let g = sound (p ∷ l) (a ∷ m) x z f in record { before = g.before; behind = g.behind; first = left g.first; last = g.last; is = g.is })
        (λ z. let g = sound (p ∷ l) (b ∷ m) x z f in record { before = g.before; behind = g.behind; first = right g.first; last = g.last; is = g.is })
        (or_cases (s (p ∷ l) (a ∷ m)) (s (p ∷ l) (b ∷ m)) h)
    rightly_sound p l (many a ∷ m) x h f =
        ⊎_elim (λ z. heads p (many a) l m x (λ y g. many_in_lem a p y (and_left (many_in s a p) (s l m) z) g) (and_right (many_in s a p) (s l m) z) f)
        (λ u. ⊎_elim (λ z. record { before = []; behind = x; first = no_more; last = sound (p ∷ l) m x z f; is = refl })
        (λ z.
        let g = sound (p ∷ l) (a ∷ many a ∷ m) x z f in
        let k = g.last in
        record {
          before = g.before ++ k.before;
          behind = k.behind;
          first = more g.first k.first refl;
          last = k.last;
          is = g.is ∙ ap (λ (v : List OwnItem). g.before ++ v) k.is ∙ sym (append_assoc g.before k.before k.behind);
        })
        (or_cases (s (p ∷ l) m) (s (p ∷ l) (a ∷ many a ∷ m)) u))
        (or_cases (many_in s a p && s l m) (s (p ∷ l) m || s (p ∷ l) (a ∷ many a ∷ m)) h)

    step_sound : Sound (step s)
    step_sound [] m x h f = subst (FitsAll w q m) (sym f) (nulls_fit m h)
    step_sound (nothing ∷ l) m x h f = sound l m x h (un f.before f.behind f.first f.last f.is)
      where
        un : (y z : List OwnItem) → Fits w q nothing y → FitsAll w q l z → x ≡ y ++ z → FitsAll w q l x
        un y z none g d = subst (FitsAll w q l) (sym d) g
    step_sound (one t K ∷ l) m x h f = rightly_sound (one t K) l m x h f
    step_sound (operand S ∷ l) m x h f = rightly_sound (operand S) l m x h f
    step_sound (both a b ∷ l) m x h f = sound (a ∷ b ∷ l) m x h (un f.before f.behind f.first f.last f.is)
      where
        un : (y z : List OwnItem) → Fits w q (both a b) y → FitsAll w q l z → x ≡ y ++ z → FitsAll w q (a ∷ b ∷ l) x
        un y z (then {x = u} {y = v} g k d') r d =
            record { before = u; behind = v ++ z; first = g; last = record { before = v; behind = z; first = k; last = r; is = refl }; is = regroup u v y z x d d' }
    step_sound (either a b ∷ l) m x h f = un f.before f.behind f.first f.last f.is
      where
        un : (y z : List OwnItem) → Fits w q (either a b) y → FitsAll w q l z → x ≡ y ++ z → FitsAll w q m x
        un y z (left g) r d = sound (a ∷ l) m x (and_left (s (a ∷ l) m) (s (b ∷ l) m) h) (record { before = y; behind = z; first = g; last = r; is = d })
        un y z (right g) r d = sound (b ∷ l) m x (and_right (s (a ∷ l) m) (s (b ∷ l) m) h) (record { before = y; behind = z; first = g; last = r; is = d })
    step_sound (many a ∷ l) m x h f = rightly_sound (many a) l m x h f

  pub sub_sound : (n : ℕ) → Sound (sub n)
  sub_sound zero l m x h f = absurd h
  sub_sound (suc n) l m x h f = step_sound (sub n) (sub_sound n) l m x h f

-- a pattern that does not speak of the operator
abbrev pub plain : Pattern → Bool
plain nothing = true
plain (one t K) = not (eqb t 1)
plain (operand S) = true
plain (both a b) = plain a && plain b
plain (either a b) = plain a && plain b
plain (many a) = plain a

abbrev pub plains : List Pattern → Bool
plains [] = true
plains (p ∷ l) = plain p && plains l

other : (q q' t : ℕ) (i : OwnItem) → T (not (eqb t 1)) → IsOf q t i → IsOf q' t i
other q q' zero (at j) h c = c
other q q' zero (row s) h c = c
other q q' (suc zero) (at j) h c = absurd h
other q q' (suc zero) (row s) h c = absurd h
other q q' (suc (suc t)) (at j) h c = c
other q q' (suc (suc t)) (row s) h c = c

pub replain : (w : List ℕ) (q q' : ℕ) (p : Pattern) (x : List OwnItem) → T (plain p) → Fits w q p x → Fits w q' p x
replain w q q' nothing x h none = none
replain w q q' (one t K) x h (this {x = i} c m) = this (other q q' t i h c) m
replain w q q' (operand S) x h (bare m) = bare m
replain w q q' (operand S) x h (inside i j a f b d) = inside i j a (replain w q q' (operand expressions) _ tt f) b d
replain w q q' (both a b) x h (then f g d) = then (replain w q q' a _ (and_left (plain a) (plain b) h) f) (replain w q q' b _ (and_right (plain a) (plain b) h) g) d
replain w q q' (either a b) x h (left f) = left (replain w q q' a x (and_left (plain a) (plain b) h) f)
replain w q q' (either a b) x h (right f) = right (replain w q q' b x (and_right (plain a) (plain b) h) f)
replain w q q' (many a) x h no_more = no_more
replain w q q' (many a) x h (more f g d) = more (replain w q q' a _ h f) (replain w q q' (many a) _ h g) d

pub replains : (w : List ℕ) (q q' : ℕ) (l : List Pattern) (x : List OwnItem) → T (plains l) → FitsAll w q l x → FitsAll w q' l x
replains w q q' [] x h f = f
replains w q q' (p ∷ l) x h f =
    record {
      before = f.before;
      behind = f.behind;
      first = replain w q q' p f.before (and_left (plain p) (plains l) h) f.first;
      last = replains w q q' l f.behind (and_right (plain p) (plains l) h) f.last;
      is = f.is;
    }

pub fits_append : (w : List ℕ) (q : ℕ) (l m : List Pattern) (x y : List OwnItem) → FitsAll w q l x → FitsAll w q m y → FitsAll w q (l ++ m) (x ++ y)
fits_append w q [] m x y f g = subst (λ (z : List OwnItem). FitsAll w q m (z ++ y)) (sym f) g
fits_append w q (p ∷ l) m x y f g =
    record {
      before = f.before;
      behind = f.behind ++ y;
      first = f.first;
      last = fits_append w q l m f.behind y f.last g;
      is = ap (λ (z : List OwnItem). z ++ y) f.is ∙ append_assoc f.before f.behind y;
    }
