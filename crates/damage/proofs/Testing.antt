-- A test that computes: given names that are closed under use, it tells that an item of one of these names is undisturbed. Assumes nothing.
use Prim.Native.Nat.{ℕ, zero, suc, ◌-◌, ◌≤◌, ◌<◌}
use mathlib.Core.Path.{◌≡◌, refl, sym, ap, subst, ◌∙◌}
use mathlib.Core.Logic.{◌⊎◌, inl, inr}
use mathlib.Core.Bool.{Bool, true, false, not, cond, ◌&&◌, ◌||◌, false≢true}
use mathlib.Core.List.{List, [], ◌∷◌, ◌++◌, append-nil, append_assoc}
use native.Mathlib.Omega.{arith}
use borrow.Author.Tests.{leb-true, eqb-true}
use lib.Dec.{eqb, leb}
use lib.ListN.{length, get_or, take, drop, take-append-drop}
use lib.Seq.{drop-cons, length-take-le}
use Rattle.laws.proofs.Laws.{both_left, both_right}
use Rattle.classes.specs.Signs.{ends_line}
use Rattle.element_reading.specs.Promises.{InsideLine}
use Rattle.forms.specs.Tree.{Row}
use Rattle.records.specs.Records.{word_at}
use Rattle.pieces.specs.Columns as column
use Rattle.tree.specs.code.PieceRows.{rows_of_piece}
use Rattle.meaning.specs.Elements.{Element, Piece, at}
use Rattle.meaning.specs.Pieces.{kinds_in_piece}
use Rattle.meaning.specs.Names.{own_name, claims, same_as}
use Rattle.meaning.specs.code.PieceValues.{records_of}
use Rattle.meaning.proofs.Claimed.{claims_class, claims_name_lem, claims_by_lem}
use Rattle.damage.specs.PlacedElements.{In, LineNumber, Above, Changed, Below, PlacedPiece, closes_part, opens_part, bare, SameEach, PieceOf}
use Rattle.damage.specs.Damage.{OneLine, olds, news, NoneChanged, NotWithin, UsesName, NoClaim, LeadsTo, itself, through, Concerns, Undisturbed, ClosedAbove, OpenedBelow}
use Rattle.damage.proofs.Common.{same_each, always_common}
use Rattle.meaning.proofs.Sameness.{same_on, same_flips}
use Rattle.meaning.proofs.Trees.{rows_are}
use Rattle.survey_reading.specs.Permitted.{LeavesTables}
use Rattle.damage.proofs.Promises.{same_answer}
use Rattle.damage.proofs.ThirdDemand.{third_demand}
use Rattle.damage.proofs.Agreeing.{own_is}

module _ {A : Type 0} (f : A → Bool) where
  abbrev pub every : List A → Bool
  every [] = true
  every (x ∷ l) = f x && every l

  abbrev pub any : List A → Bool
  any [] = false
  any (x ∷ l) = f x || any l

  every_in : (l : List A) (x : A) → every l ≡ true → In x l → f x ≡ true
  every_in [] x h k = elim k [ ]
  every_in (y ∷ l) x h (inl e) = ap f (sym e) ∙ both_left (f y) (every l) h
  every_in (y ∷ l) x h (inr k) = every_in l x (both_right (f y) (every l) h) k

  either : (a b : Bool) → (a || b) ≡ true → (a ≡ true) ⊎ (b ≡ true)
  either true b h = inl refl
  either false b h = inr h

  any_in : (l : List A) → any l ≡ true → (x : A) × In x l × (f x ≡ true)
  any_in [] h = absurd (false≢true h)
  any_in (y ∷ l) h = go (either (f y) (any l) h) (any_in l)
    where
      go : (f y ≡ true) ⊎ (any l ≡ true) → (any l ≡ true → (x : A) × In x l × (f x ≡ true)) → (x : A) × In x (y ∷ l) × (f x ≡ true)
      go (inl e) ih = (y, inl refl, e)
      go (inr e) ih = let z = ih e in (z.0, inr z.1, z.2)

  in_any : (l : List A) (x : A) → In x l → f x ≡ true → any l ≡ true
  in_any [] x k h = elim k [ ]
  in_any (y ∷ l) x (inl e) h = rw (ap f e ∙ h)
  in_any (y ∷ l) x (inr k) h = go (f y) (in_any l x k h)
    where
      go : (b : Bool) → any l ≡ true → (b || any l) ≡ true
      go true e = refl
      go false e = e

-- the names that a piece uses, in a list, of rows the first k of which are inside a form 25 or 26
abbrev used_from : Piece → ℕ → List Row → List Element
used_from p k [] = []
used_from p zero (r ∷ rs) =
    cond (eqb r.form 25 || eqb r.form 26) (used_from p (r.rows - 1) rs) (cond (eqb r.form 24 || eqb r.form 31) (at p r.first ∷ used_from p zero rs) (used_from p zero rs))
used_from p (suc k) (r ∷ rs) = cond (eqb r.form 31) (at p r.first ∷ used_from p k rs) (used_from p k rs)

abbrev used_in : Piece → List Row → List Element
used_in p rs = used_from p zero rs

either_or : (a b : Bool) → (a || b) ≡ true → (a ≡ true) ⊎ (b ≡ true)
either_or true b h = inl refl
either_or false b h = inr h

in_cond : {A : Type 0} (b : Bool) (x y : A) (l : List A) → In x l → In x (cond b (y ∷ l) l)
in_cond true x y l h = inr h
in_cond false x y l h = h

module _ (p : Piece) where
  -- the row itself
  row_here : (k : ℕ) (r : Row) (d : List Row) → ((r.form ≡ 24) × (k ≡ 0)) ⊎ (r.form ≡ 31) → In (at p r.first) (used_from p k (r ∷ d))
  row_here zero r d (inl (e, z)) = rw e (inl refl)
  row_here zero r d (inr e) = rw e (inl refl)
  row_here (suc k) r d (inl (e, z)) = absurd (omega arith)
  row_here (suc k) r d (inr e) = rw e (inl refl)

  used_name : (c : List Row) (r : Row) (d : List Row) (k : ℕ) → r.form ≡ 24 → NotWithin c → k ≤ length c → In (at p r.first) (used_from p k (c ++ r ∷ d))
  used_name [] r d k f w l = row_here k r d (inl (f, omega arith))
  used_name (q ∷ c) r d (suc k) f w l = in_cond (eqb q.form 31) (at p r.first) (at p q.first) (used_from p k (c ++ r ∷ d)) (used_name c r d k f w.1 (omega arith))
  used_name (q ∷ c) r d zero f w l = go (eqb q.form 25 || eqb q.form 26) refl (λ k m. used_name c r d k f w.1 m)
    where
      form : (eqb q.form 25 ≡ true) ⊎ (eqb q.form 26 ≡ true) → (q.form ≡ 25) ⊎ (q.form ≡ 26)
      form (inl e) = inl (eqb-true q.form 25 e)
      form (inr e) = inr (eqb-true q.form 26 e)

      go : (b : Bool) → (eqb q.form 25 || eqb q.form 26) ≡ b → ((k : ℕ) → k ≤ length c → In (at p r.first) (used_from p k (c ++ r ∷ d)))
          → In (at p r.first) (cond b (used_from p (q.rows - 1) (c ++ r ∷ d)) (cond (eqb q.form 24 || eqb q.form 31) (at p q.first ∷ used_from p zero (c ++ r ∷ d)) (used_from p zero (c ++ r ∷ d))))
      go true e ih = ih (q.rows - 1) (omega (arith, w.0 (form (either_or (eqb q.form 25) (eqb q.form 26) e))))
      go false e ih = in_cond (eqb q.form 24 || eqb q.form 31) (at p r.first) (at p q.first) (used_from p zero (c ++ r ∷ d)) (ih zero (omega arith))

  used_mark : (c : List Row) (r : Row) (d : List Row) (k : ℕ) → r.form ≡ 31 → In (at p r.first) (used_from p k (c ++ r ∷ d))
  used_mark [] r d k f = row_here k r d (inr f)
  used_mark (q ∷ c) r d (suc k) f = in_cond (eqb q.form 31) (at p r.first) (at p q.first) (used_from p k (c ++ r ∷ d)) (used_mark c r d k f)
  used_mark (q ∷ c) r d zero f = go (eqb q.form 25 || eqb q.form 26) (λ k. used_mark c r d k f)
    where
      go : (b : Bool) → ((k : ℕ) → In (at p r.first) (used_from p k (c ++ r ∷ d)))
          → In (at p r.first) (cond b (used_from p (q.rows - 1) (c ++ r ∷ d)) (cond (eqb q.form 24 || eqb q.form 31) (at p q.first ∷ used_from p zero (c ++ r ∷ d)) (used_from p zero (c ++ r ∷ d))))
      go true ih = ih (q.rows - 1)
      go false ih = in_cond (eqb q.form 24 || eqb q.form 31) (at p r.first) (at p q.first) (used_from p zero (c ++ r ∷ d)) (ih zero)

  used_in_lem : (x : Element) → UsesName p x → In x (used_in p (rows_of_piece (kinds_in_piece p)))
  used_in_lem x u = subst (λ (z : Element). In z (used_in p (rows_of_piece (kinds_in_piece p)))) (sym u.named) (subst (λ (l : List Row). In (at p u.row.first) (used_in p l)) (sym (rows_are p _ u.tree)) (go u.looked_up))
    where
      go : ((u.row.form ≡ 24) × NotWithin u.above) ⊎ (u.row.form ≡ 31) → In (at p u.row.first) (used_in p (u.above ++ u.row ∷ u.below))
      go (inl k) = used_name u.above u.row u.below zero k.0 k.1 (omega arith)
      go (inr k) = used_mark u.above u.row u.below zero k

-- no form 25 or 26 among these rows holds what stands after them
abbrev pub outside : List Row → Bool
outside [] = true
outside (r ∷ rs) = (not (eqb r.form 25 || eqb r.form 26) || leb r.rows (suc (length rs))) && outside rs

pub is_outside : (rs : List Row) → outside rs ≡ true → NotWithin rs
is_outside [] h = tt
is_outside (r ∷ rs) h = (
  (λ k. go k (either_or (not (eqb r.form 25 || eqb r.form 26)) (leb r.rows (suc (length rs))) (both_left (not (eqb r.form 25 || eqb r.form 26) || leb r.rows (suc (length rs))) (outside rs) h))),
  is_outside rs (both_right (not (eqb r.form 25 || eqb r.form 26) || leb r.rows (suc (length rs))) (outside rs) h),
)
  where
    held : (r.form ≡ 25) ⊎ (r.form ≡ 26) → (eqb r.form 25 || eqb r.form 26) ≡ true
    held (inl e) = rw e
    held (inr e) = rw e

    go : (r.form ≡ 25) ⊎ (r.form ≡ 26) → (not (eqb r.form 25 || eqb r.form 26) ≡ true) ⊎ (leb r.rows (suc (length rs)) ≡ true) → r.rows ≤ suc (length rs)
    go k (inl e) = absurd (false≢true (ap not (sym (held k)) ∙ e))
    go k (inr e) = leb-true r.rows (suc (length rs)) e

-- of names: a piece claims one of them; an element is one of them
abbrev pub claims_any : List Element → PlacedPiece → Bool
claims_any names q = any (λ y. claims y (bare q)) names

abbrev is_any : List Element → Element → Bool
is_any names x = any (λ y. same_as x y) names

-- a piece uses none but these names
abbrev uses_only : List Element → PlacedPiece → Bool
uses_only names q = every (is_any names) (used_in (bare q) (rows_of_piece (kinds_in_piece (bare q))))

-- one of the names resolves to the piece below those before it: it claims the name, and none of them does
abbrev resolves : List Element → List PlacedPiece → PlacedPiece → Bool
resolves names before q = any (λ y. claims y (bare q) && every (λ r. not (claims y (bare r))) before) names

-- pieces to which one of the names resolves use no others
abbrev pub closed : List Element → List PlacedPiece → List PlacedPiece → Bool
closed names before [] = true
closed names before (q ∷ ps) = cond (resolves names before q) (uses_only names q) true && closed names (before ++ q ∷ []) ps

-- p uses none but these names, and neither do the pieces to which they resolve
abbrev pub alone : List Element → List PlacedPiece → PlacedPiece → Bool
alone names pieces p = uses_only names p && closed names [] pieces

abbrev is_above : LineNumber → Bool
is_above (Above k) = true
is_above (Changed k) = false
is_above (Below k) = false

abbrev is_below : LineNumber → Bool
is_below (Above k) = false
is_below (Changed k) = false
is_below (Below k) = true

abbrev closed_above : PlacedPiece → Bool
closed_above [] = false
closed_above (x ∷ []) = closes_part x && is_above x.line
closed_above (x ∷ y ∷ p) = closed_above (y ∷ p)

abbrev opened_below : PlacedPiece → Bool
opened_below [] = false
opened_below (x ∷ p) = opens_part x && is_below x.line

-- pieces that claim one of the names end above the change or open below it
abbrev pub apart : List Element → List PlacedPiece → Bool
apart names ps = every (λ q. cond (claims_any names q) (closed_above q || opened_below q) true) ps

implied : (b c : Bool) → cond b c true ≡ true → b ≡ true → c ≡ true
implied true c h e = h
implied false c h e = absurd (false≢true e)

line_above : (l : LineNumber) → is_above l ≡ true → (k : ℕ) × (l ≡ Above k)
line_above (Above k) h = (k, refl)
line_above (Changed k) h = absurd (false≢true h)
line_above (Below k) h = absurd (false≢true h)

line_below : (l : LineNumber) → is_below l ≡ true → (k : ℕ) × (l ≡ Below k)
line_below (Above k) h = absurd (false≢true h)
line_below (Changed k) h = absurd (false≢true h)
line_below (Below k) h = (k, refl)

is_closed : (p : PlacedPiece) → closed_above p ≡ true → ClosedAbove p
is_closed [] h = absurd (false≢true h)
is_closed (x ∷ []) h = (both_left (closes_part x) (is_above x.line) h, line_above x.line (both_right (closes_part x) (is_above x.line) h))
is_closed (x ∷ y ∷ p) h = is_closed (y ∷ p) h

is_opened : (p : PlacedPiece) → opened_below p ≡ true → OpenedBelow p
is_opened [] h = absurd (false≢true h)
is_opened (x ∷ p) h = (both_left (opens_part x) (is_below x.line) h, line_below x.line (both_right (opens_part x) (is_below x.line) h))

is_either_lem : (p : PlacedPiece) → (closed_above p || opened_below p) ≡ true → ClosedAbove p ⊎ OpenedBelow p
is_either_lem p h = go (closed_above p) refl h
  where
    go : (b : Bool) → closed_above p ≡ b → (b || opened_below p) ≡ true → ClosedAbove p ⊎ OpenedBelow p
    go true e k = inl (is_closed p e)
    go false e k = inr (is_opened p k)

claims_as : (x y : Element) (r : Piece) → claims x r ≡ true → same_as x y ≡ true → claims y r ≡ true
claims_as x y r h e = claims_by_lem y r (claims_class x r h) (same_on (own_name r) x y (claims_name_lem x r h) e)

-- a piece after others to which one of the names resolves
closed_at : (names : List Element) (before a : List PlacedPiece) (r : PlacedPiece) (c : List PlacedPiece) → closed names before (a ++ r ∷ c) ≡ true → resolves names (before ++ a) r ≡ true → uses_only names r ≡ true
closed_at names before [] r c h k =
    implied (resolves names before r) (uses_only names r) (both_left _ (closed names (before ++ r ∷ []) c) h) (subst (λ l. resolves names l r ≡ true) (append-nil before) k)
closed_at names before (q ∷ a) r c h k =
    closed_at names (before ++ q ∷ []) a r c (both_right (cond (resolves names before q) (uses_only names q) true) _ h) (subst (λ l. resolves names l r ≡ true) (sym (append_assoc before (q ∷ []) a)) k)

unclaimed : (x y : Element) (ps : List PlacedPiece) → same_as x y ≡ true → NoClaim x ps → every (λ r. not (claims y (bare r))) ps ≡ true
unclaimed x y [] e h = refl
unclaimed x y (q ∷ ps) e h = rw (off (claims y (bare q)) refl) (unclaimed x y ps e (λ r k. h r (inr k)))
  where
    off : (b : Bool) → claims y (bare q) ≡ b → b ≡ false
    off true k = absurd (false≢true (sym (h q (inl refl)) ∙ claims_as y x (bare q) k (same_flips x y e)))
    off false k = refl

module _ (s t : List ℕ) (d : OneLine s t) (p : PlacedPiece) (names : List Element) (own : claims_any names p ≡ true) (shut : alone names (olds d) p ≡ true) where
  -- a name that such a piece uses is one of the names
  uses_any : (q : PlacedPiece) (x : Element) → uses_only names q ≡ true → UsesName (bare q) x → is_any names x ≡ true
  uses_any q x h u = every_in (is_any names) (used_in (bare q) (rows_of_piece (kinds_in_piece (bare q)))) x h (used_in_lem (bare q) x u)

  any_claims : (x : Element) (r : PlacedPiece) → is_any names x ≡ true → claims x (bare r) ≡ true → claims_any names r ≡ true
  any_claims x r h c =
      let y = any_in (λ y. same_as x y) names h in
      in_any (λ y. claims y (bare r)) names y.0 y.1 (claims_as x y.0 (bare r) c y.2)

  leads_any : (q : PlacedPiece) → LeadsTo (olds d) p q → uses_only names q ≡ true
  leads_any q itself = both_left (uses_only names p) (closed names [] (olds d)) shut
  leads_any q (through {q = r} x l u c a) =
      let y = any_in (λ y. same_as x y) names (uses_any r x (leads_any r l) u) in
      closed_at names [] a.0 q (a.1 ++ r ∷ a.2) (subst (λ m. closed names [] m ≡ true) a.3 (both_right (uses_only names p) (closed names [] (olds d)) shut))
      (in_any (λ z. claims z (bare q) && every (λ w. not (claims z (bare w))) a.0) names y.0 y.1
      (rw (claims_as x y.0 (bare q) c y.2) (unclaimed x y.0 a.0 y.2 a.4)))

  concerns_any : (x : Element) → Concerns (olds d) p x → is_any names x ≡ true
  concerns_any x (inl h) =
      let y = any_in (λ y. claims y (bare p)) names own in
      in_any (λ y. same_as x y) names y.0 y.1 (subst (λ z. same_as z y.0 ≡ true) (sym (own_is (bare p) x h)) (claims_name_lem y.0 (bare p) y.2))
  concerns_any x (inr (q, l, u)) = uses_any q x (leads_any q l) u

  pub undisturbed : apart names (olds d) ≡ true → apart names (news d) ≡ true → Undisturbed (olds d) (news d) p
  undisturbed f g x c q k h = always_common s t d q k (is_either_lem q (implied (claims_any names q) _ (which k) (any_claims x q (concerns_any x c) h)))
    where
      which : In q (olds d) ⊎ In q (news d) → cond (claims_any names q) (closed_above q || opened_below q) true ≡ true
      which (inl j) = every_in (λ q. cond (claims_any names q) (closed_above q || opened_below q) true) (olds d) q f j
      which (inr j) = every_in (λ q. cond (claims_any names q) (closed_above q || opened_below q) true) (news d) q g j

pub all_inside : (l : List ℕ) → every (λ b. not (ends_line b)) l ≡ true → InsideLine l
all_inside [] h = tt
all_inside (b ∷ l) h = (off (ends_line b) (both_left (not (ends_line b)) (every (λ b. not (ends_line b)) l) h), all_inside l (both_right (not (ends_line b)) (every (λ b. not (ends_line b)) l) h))
  where
    off : (c : Bool) → not c ≡ true → c ≡ false
    off true e = sym e
    off false e = refl

-- no element of p is of the change
abbrev is_changed : LineNumber → Bool
is_changed (Above k) = false
is_changed (Changed k) = true
is_changed (Below k) = false

abbrev pub none_of : PlacedPiece → Bool
none_of p = every (λ x. not (is_changed x.line)) p

none_of_lem : (p : PlacedPiece) → none_of p ≡ true → NoneChanged p
none_of_lem [] h = tt
none_of_lem (x ∷ p) h = (off x.line (both_left (not (is_changed x.line)) (none_of p) h), none_of_lem p (both_right (not (is_changed x.line)) (none_of p) h))
  where
    off : (l : LineNumber) → not (is_changed l) ≡ true → (k : ℕ) → l ≡ Changed k → ⊥
    off l h k e = false≢true (ap (λ (m : LineNumber). not (is_changed m)) (sym e) ∙ h)

-- piece number i of a text
abbrev pub part_at : List PlacedPiece → ℕ → PlacedPiece
part_at pieces i = get_or pieces i []

abbrev pub part_of : (pieces : List PlacedPiece) (i : ℕ) → i < length pieces → PieceOf pieces (part_at pieces i)
part_of pieces i h =
    record {
      above = take i pieces;
      below = drop (suc i) pieces;
      split = sym (take-append-drop i pieces) ∙ ap (λ (l : List PlacedPiece). take i pieces ++ l) (drop-cons pieces i [] h);
    }

-- the premises of the third demand for piece i of one text and piece j of the other, by tests
pub record Kept {s t : List ℕ} (d : OneLine s t) (i j : ℕ) : Type 0 where
  pub old : i < length (olds d)
  pub new : j < length (news d)
  pub same : part_at (olds d) i ≡ part_at (news d) j
  pub none : none_of (part_at (olds d) i) ≡ true
  pub names : List Element
  pub own : claims_any names (part_at (olds d) i) ≡ true
  pub shut : alone names (olds d) (part_at (olds d) i) ≡ true
  pub apart_old : apart names (olds d) ≡ true
  pub apart_new : apart names (news d) ≡ true

-- their state, kind and numbers are the same
abbrev pub Keeps : {s t : List ℕ} → OneLine s t → ℕ → ℕ → Type 0
Keeps {s} {t} d i j = (rest others : List ℕ) (k : ℕ) → column.state ≤ k → k ≤ column.high → word_at (records_of s ++ rest) i k ≡ word_at (records_of t ++ others) j k

module _ (s t : List ℕ) (d : OneLine s t) (i j : ℕ) (h : Kept d i j) where
  abbrev this : PlacedPiece
  this = part_at (olds d) i

  pub calm : Undisturbed (olds d) (news d) this
  calm = undisturbed s t d this h.names h.own h.shut h.apart_old h.apart_new

  each : SameEach this (part_at (news d) j)
  each = subst (λ q. SameEach this q) h.same (same_each this)

  pub kept : Keeps d i j
  kept rest others k low high =
      ap (λ (m : ℕ). word_at (records_of s ++ rest) m k) (sym (length-take-le i (olds d) (omega (arith, h.old))))
      ∙ same_answer s t d this (part_at (news d) j) (part_of (olds d) i h.old) (part_of (news d) j h.new) each (none_of_lem this h.none) calm rest others k low high
      ∙ ap (λ (m : ℕ). word_at (records_of t ++ others) m k) (length-take-le j (news d) (omega (arith, h.new)))

  -- and over the tables that the surveys of both leave
  pub answered : (elements items elements' items' : List ℕ) → LeavesTables s elements items → LeavesTables t elements' items'
      → (k : ℕ) → column.state ≤ k → k ≤ column.high → word_at items i k ≡ word_at items' j k
  answered elements items elements' items' f g k low high =
      ap (λ (m : ℕ). word_at items m k) (sym (length-take-le i (olds d) (omega (arith, h.old))))
      ∙ third_demand s t elements items elements' items' f g d this (part_at (news d) j) (part_of (olds d) i h.old) (part_of (news d) j h.new) each (none_of_lem this h.none) calm k low high
      ∙ ap (λ (m : ℕ). word_at items' m k) (length-take-le j (news d) (omega (arith, h.new)))
