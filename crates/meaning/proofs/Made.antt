-- What the code makes of an item's mark and expressions is what the definitions say: the least state that the item meets, and its value, or one of
-- 7 to 10, where it meets none. Assumes nothing.
use Prim.Native.Nat.{ℕ}
use mathlib.Core.Path.{◌≡◌, refl, sym, ap, ap₂, subst, ◌∙◌}
use mathlib.Core.Logic.{◌⊎◌, inl, inr}
use mathlib.Core.Bool.{Bool, true, false}
use mathlib.Core.List.{List, [], ◌∷◌}
use native.Mathlib.Omega.{arith}
use Rattle.laws.proofs.Laws.{clash}
use Rattle.forms.specs.Tree.{Row}
use Rattle.integers.specs.declared.Folded.{Folded}
use Rattle.integers.specs.declared.Folded.TheVariants as F
use Rattle.integers.specs.declared.Arithmetic.TheVariants.{Add}
use Rattle.folding.specs.declared.Relation.TheVariants.{Equal}
use Rattle.folding.specs.declared.Operator.TheVariants as O
use Rattle.folding.specs.declared.Sort.{Sort}
use Rattle.folding.specs.declared.Sort.TheVariants as S
use Rattle.folding.specs.declared.Outcome.{Outcome}
use Rattle.folding.specs.code.Outcomes.{operator_sort, settle}
use Rattle.marks.specs.code.Marks.{mark_sort, value_in, constant_of, subtype_of, bounds_in, ranged_of}
use Rattle.marks.proofs.Sound.{late, Sound}
use Rattle.forms.specs.Tree.{behind}
use Rattle.values.specs.declared.Value.{Value}
use Rattle.values.specs.declared.Value.TheVariants.{Number, Truth, Range, Truths, Without}
use Rattle.integers.specs.declared.Kind.TheVariants as K
use Rattle.meaning.specs.Elements.{Element, Piece}
use Rattle.meaning.specs.ItemForms.{Expression, Is, ItemForm, constant, subtype, ranged}
use Rattle.meaning.specs.States.{Kind, integer, truth, neither, expression_kind, Meets, mark_of, NoneMet}
use Rattle.meaning.specs.States.{ItemMeets, mark_without, number_as_type, truth_as_type, value, truth_in_range, integer_in_boolean, range_on_boolean, first, first_truth, second, second_truth}
use Rattle.meaning.specs.Values.{Folds, Gives, value_stops, first_stops, second_stops, number_held, truth_held, same_range, boolean, upward, downward}
use Rattle.meaning.specs.code.PieceValues.{valued}
use Rattle.meaning.proofs.Sound.{SoundUse}
use Rattle.meaning.proofs.Least.{Among, mixed, no_truth, Exact, exact_via, operator_exact, valued_exact, one_least, truth_of, truth_met, mixed_of, mixed_met}
use Rattle.meaning.proofs.Folding.{OfKind, folds_sound, folds_complete, folded_kind_lem}
use Rattle.meaning.proofs.Later.{Ends, valued_fit, constant_ends, subtype_ends, ranged_ends}

-- an item and what the code makes of it
pub record Made (used : Element → Value) (i : ItemForm) (v : Value) : Type 0 where
  pub sort : Sort
  pub kind : Kind
  pub exact : Exact sort kind (ItemMeets used i)
  pub ends : Ends sort v
  pub gives : NoneMet (ItemMeets used i) → Gives used i v
  pub given : NoneMet (ItemMeets used i) → (u : Value) → Gives used i u → v ≡ u

-- ---- marks

abbrev mark_states : Value → List ℕ
mark_states (Number z) = 6 ∷ []
mark_states (Truth t) = 6 ∷ []
mark_states (Range low high) = []
mark_states Truths = []
mark_states (Without s) = s ∷ []

abbrev mark_kind : Value → Kind
mark_kind (Number z) = neither
mark_kind (Truth t) = neither
mark_kind (Range low high) = integer
mark_kind Truths = truth
mark_kind (Without s) = neither

mark_exact : (v : Value) → Sound late v → Exact (mark_sort v) (mark_kind v) (λ s. Among s (mark_states v))
mark_exact (Number z) h = (one_least 6, omega arith)
mark_exact (Truth t) h = (one_least 6, omega arith)
mark_exact (Range low high) h = (refl, λ t a. a)
mark_exact Truths h = (refl, λ t a. a)
mark_exact (Without s) h = (one_least s, h.1)

-- an expression whose sort is no state is settled by its value
settled : (r : Sort) (k : Kind) (M : ℕ → Type 0) (f : Folded) → Exact r k M → NoneMet M → settle r f ≡ f
settled (S.Of K.Integer) k M f h n = refl
settled (S.Of K.Truth) k M f h n = refl
settled (S.Wrong s) k M f h n = absurd (n s h.0.0)

module _ (used : Element → Value) where
  mark_met : (i : ItemForm) (s : ℕ) (v : Value) → used (mark_of i) ≡ v → Among s (mark_states v) → ItemMeets used i s
  mark_met i s (Number z) e (inl q) = subst (ItemMeets used i) (sym q) (number_as_type e)
  mark_met i s (Number z) e (inr h) = absurd h
  mark_met i s (Truth t) e (inl q) = subst (ItemMeets used i) (sym q) (truth_as_type e)
  mark_met i s (Truth t) e (inr h) = absurd h
  mark_met i s (Range low high) e h = absurd h
  mark_met i s Truths e h = absurd h
  mark_met i s (Without t) e (inl q) = subst (ItemMeets used i) (sym q) (mark_without e)
  mark_met i s (Without t) e (inr h) = absurd h

  mark_taken : (m : Element) (s : ℕ) (v : Value) → used m ≡ v → Among s (mark_states v) → Among s (mark_states (used m))
  mark_taken m s v e h = subst (λ (u : Value). Among s (mark_states u)) (sym e) h

  six_taken : (m : Element) (v : Value) (k : Kind) → used m ≡ v → Among 6 (mixed (mark_kind v) k) → Among 6 (mixed (mark_kind (used m)) k)
  six_taken m v k e h = subst (λ (u : Value). Among 6 (mixed (mark_kind u) k)) (sym e) h

  -- ---- subtype N is mark

  pub subtype_made : (m : Element) → Sound late (used m) → Made used (subtype m) (subtype_of (used m))
  subtype_made m h =
      record {
        sort = mark_sort (used m);
        kind = mark_kind (used m);
        exact = exact_via (mark_sort (used m)) (mark_kind (used m)) (λ s. Among s (mark_states (used m))) (ItemMeets used (subtype m)) (λ s a. mark_met (subtype m) s (used m) refl a) back (mark_exact (used m) h);
        ends = subtype_ends (used m);
        gives = λ n. by (used m) refl n;
        given = λ n. only;
      }
    where
      back : (s : ℕ) → ItemMeets used (subtype m) s → Among s (mark_states (used m))
      back s (mark_without {s = t} e) = mark_taken m s (Without t) e (inl refl)
      back s (number_as_type {z = z} e) = mark_taken m s (Number z) e (inl refl)
      back s (truth_as_type {t = t} e) = mark_taken m s (Truth t) e (inl refl)

      by : (v : Value) → used m ≡ v → NoneMet (ItemMeets used (subtype m)) → Gives used (subtype m) (subtype_of v)
      by (Number z) e n = absurd (n 6 (number_as_type e))
      by (Truth t) e n = absurd (n 6 (truth_as_type e))
      by (Range low high) e n = same_range e
      by Truths e n = boolean e
      by (Without s) e n = absurd (n s (mark_without e))

      only : (u : Value) → Gives used (subtype m) u → subtype_of (used m) ≡ u
      only u (same_range e) = ap subtype_of e
      only u (boolean e) = ap subtype_of e

  module _ (p : Piece) (sound : SoundUse late used) where
    -- ---- constant N : mark := expression

    module _ (m : Element) (x : Expression) where
      mixed_made : (s : ℕ) (v : Value) → used m ≡ v → Among s (mixed (mark_kind v) (expression_kind used x)) → ItemMeets used (constant m x) s
      mixed_made s (Number z) e h = absurd h
      mixed_made s (Truth t) e h = absurd h
      mixed_made s (Without t) e h = absurd h
      mixed_made s (Range low high) e h = let q = mixed_of integer (expression_kind used x) s h in subst (ItemMeets used (constant m x)) (sym q.1) (by q.0)
        where
          by : ((integer ≡ integer) × (expression_kind used x ≡ truth)) ⊎ ((integer ≡ truth) × (expression_kind used x ≡ integer)) → ItemMeets used (constant m x) 6
          by (inl a) = truth_in_range e a.1
          by (inr a) = let b = a.0 in let z : ◌≡◌ {A = ℕ} 0 1 = cc in clash z
      mixed_made s Truths e h = let q = mixed_of truth (expression_kind used x) s h in subst (ItemMeets used (constant m x)) (sym q.1) (by q.0)
        where
          by : ((truth ≡ integer) × (expression_kind used x ≡ truth)) ⊎ ((truth ≡ truth) × (expression_kind used x ≡ integer)) → ItemMeets used (constant m x) 6
          by (inl a) = let b = a.0 in let z : ◌≡◌ {A = ℕ} 0 1 = cc in clash z
          by (inr a) = integer_in_boolean e a.1

      abbrev Constant : ℕ → Type 0
      Constant s = Among s (mixed (mark_kind (used m)) (expression_kind used x)) ⊎ (Among s (mark_states (used m)) ⊎ Meets used x s)

      constant_there : (s : ℕ) → Constant s → ItemMeets used (constant m x) s
      constant_there s (inl a) = mixed_made s (used m) refl a
      constant_there s (inr (inl a)) = mark_met (constant m x) s (used m) refl a
      constant_there s (inr (inr a)) = value a

      constant_back : (s : ℕ) → ItemMeets used (constant m x) s → Constant s
      constant_back s (mark_without {s = t} e) = inr (inl (mark_taken m s (Without t) e (inl refl)))
      constant_back s (number_as_type {z = z} e) = inr (inl (mark_taken m s (Number z) e (inl refl)))
      constant_back s (truth_as_type {t = t} e) = inr (inl (mark_taken m s (Truth t) e (inl refl)))
      constant_back s (value h) = inr (inr h)
      constant_back s (truth_in_range {low = low} {high = high} e q) = inl (six_taken m (Range low high) (expression_kind used x) e (mixed_met integer (expression_kind used x) integer truth (inl refl) refl q))
      constant_back s (integer_in_boolean e q) = inl (six_taken m Truths (expression_kind used x) e (mixed_met truth (expression_kind used x) truth integer (inl refl) refl q))

      module _ (rs : List Row) (is : Is p rs x) where
        abbrev folded : Folded
        folded = (valued p used rs).folded

        abbrev sort_here : Sort
        sort_here = operator_sort (O.Relation Equal) (mark_sort (used m)) (valued p used rs).sort

        constant_exact : Exact sort_here truth (ItemMeets used (constant m x))
        constant_exact =
            exact_via sort_here truth Constant (ItemMeets used (constant m x)) constant_there constant_back
            (operator_exact (O.Relation Equal) (mark_sort (used m)) (valued p used rs).sort (mark_kind (used m)) (expression_kind used x) (λ s. Among s (mark_states (used m))) (Meets used x) (mark_exact (used m) (sound m)) (valued_exact p used sound rs x is))

        constant_value : NoneMet (ItemMeets used (constant m x)) → constant_of (used m) (valued p used rs) ≡ value_in (used m) folded
        unfolding constant_of
        constant_value n = ap (value_in (used m)) (settled sort_here truth (ItemMeets used (constant m x)) folded constant_exact n)

        constant_gives : NoneMet (ItemMeets used (constant m x)) → (v : Value) (f : Folded) → used m ≡ v → Folds used x f → OfKind p used (expression_kind used x) f → Gives used (constant m x) (value_in v f)
        constant_gives n (Number z) f e d k = absurd (n 6 (number_as_type e))
        constant_gives n (Truth t) f e d k = absurd (n 6 (truth_as_type e))
        constant_gives n (Range low high) (F.Whole z) e d k = number_held e d
        constant_gives n (Range low high) (F.Truth t) e d k = absurd (n 6 (truth_in_range e k))
        constant_gives n (Range low high) (F.Stopped s) e d k = value_stops d
        constant_gives n Truths (F.Whole z) e d k = absurd (n 6 (integer_in_boolean e k))
        constant_gives n Truths (F.Truth t) e d k = truth_held e d
        constant_gives n Truths (F.Stopped s) e d k = value_stops d
        constant_gives n (Without s) f e d k = absurd (n s (mark_without e))

        value_stopped : (v : Value) (s : ℕ) → value_in v (F.Stopped s) ≡ Without s
        value_stopped (Number z) s = refl
        value_stopped (Truth t) s = refl
        value_stopped (Range low high) s = refl
        value_stopped Truths s = refl
        value_stopped (Without t) s = refl

        constant_only : (u : Value) → Gives used (constant m x) u → value_in (used m) folded ≡ u
        constant_only u (value_stops {s = s} d) = ap (value_in (used m)) (folds_sound p used rs x (F.Stopped s) is d) ∙ value_stopped (used m) s
        constant_only u (number_held {z = z} e d) = ap₂ value_in e (folds_sound p used rs x (F.Whole z) is d)
        constant_only u (truth_held {t = t} e d) = ap₂ value_in e (folds_sound p used rs x (F.Truth t) is d)

        pub constant_made : Made used (constant m x) (constant_of (used m) (valued p used rs))
        constant_made =
            record {
              sort = sort_here;
              kind = truth;
              exact = constant_exact;
              ends = constant_ends (used m) (valued p used rs) (valued_fit p used rs);
              gives =
                  λ n.
                  let k : NoneMet (Meets used x) = λ t a. n t (value a) in
                  subst (Gives used (constant m x)) (sym (constant_value n)) (constant_gives n (used m) folded refl (folds_complete p used sound rs x is k) (folded_kind_lem p used sound rs x is k));
              given = λ n u g. constant_value n ∙ constant_only u g;
            }

    -- ---- subtype N is mark range 10

    module _ (m : Element) (x y : Expression) (down : Bool) where
      abbrev It : ItemForm
      It = ranged m x down y

      abbrev Bounds : ℕ → Type 0
      Bounds s = (Among s (no_truth (expression_kind used x)) ⊎ Among s (no_truth (expression_kind used y))) ⊎ (Meets used x s ⊎ Meets used y s)

      abbrev Sum : ℕ → Type 0
      Sum s = (Among s (no_truth (mark_kind (used m))) ⊎ ⊥) ⊎ (Among s (mark_states (used m)) ⊎ Bounds s)

      boolean_made : (s : ℕ) (v : Value) → used m ≡ v → Among s (no_truth (mark_kind v)) → ItemMeets used It s
      boolean_made s (Number z) e h = absurd h
      boolean_made s (Truth t) e h = absurd h
      boolean_made s (Range low high) e h = absurd h
      boolean_made s Truths e (inl q) = subst (ItemMeets used It) (sym q) (range_on_boolean e)
      boolean_made s Truths e (inr h) = absurd h
      boolean_made s (Without t) e h = absurd h

      ranged_there : (s : ℕ) → Sum s → ItemMeets used It s
      ranged_there s (inl (inl a)) = boolean_made s (used m) refl a
      ranged_there s (inl (inr a)) = absurd a
      ranged_there s (inr (inl a)) = mark_met It s (used m) refl a
      ranged_there s (inr (inr (inl (inl a)))) = let q = truth_of (expression_kind used x) s a in subst (ItemMeets used It) (sym q.1) (first_truth q.0)
      ranged_there s (inr (inr (inl (inr a)))) = let q = truth_of (expression_kind used y) s a in subst (ItemMeets used It) (sym q.1) (second_truth q.0)
      ranged_there s (inr (inr (inr (inl a)))) = first a
      ranged_there s (inr (inr (inr (inr a)))) = second a

      ranged_back : (s : ℕ) → ItemMeets used It s → Sum s
      ranged_back s (mark_without {s = t} e) = inr (inl (mark_taken m s (Without t) e (inl refl)))
      ranged_back s (number_as_type {z = z} e) = inr (inl (mark_taken m s (Number z) e (inl refl)))
      ranged_back s (truth_as_type {t = t} e) = inr (inl (mark_taken m s (Truth t) e (inl refl)))
      ranged_back s (range_on_boolean e) = inl (inl (subst (λ (v : Value). Among 6 (no_truth (mark_kind v))) (sym e) (inl refl)))
      ranged_back s (first a) = inr (inr (inr (inl a)))
      ranged_back s (first_truth e) = inr (inr (inl (inl (truth_met (expression_kind used x) e))))
      ranged_back s (second a) = inr (inr (inr (inr a)))
      ranged_back s (second_truth e) = inr (inr (inl (inr (truth_met (expression_kind used y) e))))

      module _ (rs : List Row) (is : Is p rs x) (js : Is p (behind rs) y) where
        abbrev a : Outcome
        a = valued p used rs

        abbrev b : Outcome
        b = valued p used (behind rs)

        abbrev sort_there : Sort
        sort_there = operator_sort (O.Arithmetic Add) (mark_sort (used m)) (operator_sort (O.Arithmetic Add) a.sort b.sort)

        ranged_exact : Exact sort_there integer (ItemMeets used It)
        ranged_exact =
            exact_via sort_there integer Sum (ItemMeets used It) ranged_there ranged_back
            (operator_exact (O.Arithmetic Add) (mark_sort (used m)) (operator_sort (O.Arithmetic Add) a.sort b.sort) (mark_kind (used m)) integer (λ s. Among s (mark_states (used m))) Bounds (mark_exact (used m) (sound m))
            (operator_exact (O.Arithmetic Add) a.sort b.sort (expression_kind used x) (expression_kind used y) (Meets used x) (Meets used y) (valued_exact p used sound rs x is) (valued_exact p used sound (behind rs) y js)))

        ranged_value : NoneMet (ItemMeets used It) → ranged_of (used m) a b down ≡ bounds_in (used m) down a.folded b.folded
        unfolding ranged_of
        ranged_value n = ap (λ (f : Folded). bounds_in (used m) down f b.folded) (settled sort_there integer (ItemMeets used It) a.folded ranged_exact n)

        ranged_gives : NoneMet (ItemMeets used It) → (v : Value) (f g : Folded) → used m ≡ v → Folds used x f → OfKind p used (expression_kind used x) f → Folds used y g → OfKind p used (expression_kind used y) g
            → (d : Bool) → down ≡ d → Gives used (ranged m x d y) (bounds_in v d f g)
        ranged_gives n v (F.Truth t) g e c k i l d q = absurd (n 6 (first_truth k))
        ranged_gives n v (F.Stopped s) g e c k i l d q = first_stops c
        ranged_gives n v (F.Whole z) (F.Truth t) e c k i l d q = absurd (n 6 (second_truth l))
        ranged_gives n v (F.Whole z) (F.Stopped s) e c k i l d q = second_stops c i
        ranged_gives n (Number w) (F.Whole z) (F.Whole u) e c k i l d q = absurd (n 6 (number_as_type e))
        ranged_gives n (Truth w) (F.Whole z) (F.Whole u) e c k i l d q = absurd (n 6 (truth_as_type e))
        ranged_gives n (Range low high) (F.Whole z) (F.Whole u) e c k i l false q = upward e c i
        ranged_gives n (Range low high) (F.Whole z) (F.Whole u) e c k i l true q = downward e c i
        ranged_gives n Truths (F.Whole z) (F.Whole u) e c k i l d q = absurd (n 6 (range_on_boolean e))
        ranged_gives n (Without s) (F.Whole z) (F.Whole u) e c k i l d q = absurd (n s (mark_without e))

        both : (d : Bool) (v : Value) (f g : Folded) → used m ≡ v → a.folded ≡ f → b.folded ≡ g → bounds_in (used m) d a.folded b.folded ≡ bounds_in v d f g
        both d v f g e h k = rw (e, h, k)

        ranged_only : (u : Value) (d : Bool) → down ≡ d → Gives used (ranged m x d y) u → bounds_in (used m) d a.folded b.folded ≡ u
        ranged_only u d q (first_stops {s = s} c) = ap (λ (f : Folded). bounds_in (used m) d f b.folded) (folds_sound p used rs x (F.Stopped s) is c)
        ranged_only u d q (second_stops {a = z} {s = s} c i) =
            both d (used m) (F.Whole z) (F.Stopped s) refl (folds_sound p used rs x (F.Whole z) is c) (folds_sound p used (behind rs) y (F.Stopped s) js i)
        ranged_only u d q (upward {least = least} {most = most} {a = z} {b = w} e c i) =
            both false (Range least most) (F.Whole z) (F.Whole w) e (folds_sound p used rs x (F.Whole z) is c) (folds_sound p used (behind rs) y (F.Whole w) js i)
        ranged_only u d q (downward {least = least} {most = most} {a = z} {b = w} e c i) =
            both true (Range least most) (F.Whole z) (F.Whole w) e (folds_sound p used rs x (F.Whole z) is c) (folds_sound p used (behind rs) y (F.Whole w) js i)

        pub ranged_made : Made used (ranged m x down y) (ranged_of (used m) a b down)
        ranged_made =
            record {
              sort = sort_there;
              kind = integer;
              exact = ranged_exact;
              ends = ranged_ends (used m) a b down (valued_fit p used rs) (valued_fit p used (behind rs));
              gives =
                  λ n.
                  let k : NoneMet (Meets used x) = λ t h. n t (first h) in
                  let l : NoneMet (Meets used y) = λ t h. n t (second h) in
                  subst (Gives used It) (sym (ranged_value n))
                  (ranged_gives n (used m) a.folded b.folded refl (folds_complete p used sound rs x is k) (folded_kind_lem p used sound rs x is k)
                  (folds_complete p used sound (behind rs) y js l) (folded_kind_lem p used sound (behind rs) y js l) down refl);
              given = λ n u g. ranged_value n ∙ ranged_only u down refl g;
            }
