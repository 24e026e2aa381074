-- What a record's words give back: the item's value to those that use its name, or 5. Constants and subtypes always fit their records.
-- Assumes nothing.
use mathlib.Core.Path.{◌≡◌, refl, ap, ap₂}
use mathlib.Core.Logic.{◌⊎◌, inl, inr}
use mathlib.Core.Bool.{Bool, true, false, cond, ◌&&◌}
use Prim.Native.Nat.{ℕ}
use native.Mathlib.Omega.{arith}
use lib.IntN.{ℤ}
use lib.Signed.{lt_z, le_z}
use borrow.Author.Tests.{ne_eqb}
use Rattle.integers.specs.declared.Folded.{Folded}
use Rattle.integers.specs.declared.Folded.TheVariants as F
use Rattle.integers.specs.declared.Arithmetic.TheVariants.{Add}
use Rattle.folding.specs.declared.Relation.TheVariants.{Equal}
use Rattle.folding.specs.declared.Operator.TheVariants as O
use Rattle.folding.specs.declared.Outcome.{Outcome}
use Rattle.folding.specs.code.Outcomes.{operator_sort}
use Rattle.values.specs.declared.Value.{Value}
use Rattle.values.specs.declared.Value.TheVariants.{Number, Truth, Range, Truths, Without}
use Rattle.values.specs.ValueWords.{state_of, value_kind, low_of, high_of}
use Rattle.values.specs.Values.{lean_of}
use Rattle.values.specs.code.Used.{used_constant, used_subtype, used_value}
use Rattle.values.proofs.Laws.{number_word}
use Rattle.states.specs.States as state
use Rattle.pieces.specs.Classes as classes
use Rattle.marks.specs.code.Marks.{without_of, beside_mark, value_in, constant_of, subtype_of, first_bound, inside_of, range_under, bounds_in, ranged_of, mark_sort}
use Rattle.marks.proofs.Sound.{Keeps, small, SoundFolded, SoundOutcome, Sound, sort_sound, settle_sound, mark_sound}

-- ---- what stands in a record

-- a number, a truth or a state
abbrev pub Constant : Keeps → Value → Type 0
Constant K (Number z) = K.number z
Constant K (Truth t) = Unit {0}
Constant K (Range low high) = ⊥
Constant K Truths = ⊥
Constant K (Without s) = K.ended s

-- two ends, the truths or a state
abbrev pub Subtype : Keeps → Value → Type 0
Subtype K (Number z) = ⊥
Subtype K (Truth t) = ⊥
Subtype K (Range low high) = K.number low × K.number high
Subtype K Truths = Unit {0}
Subtype K (Without s) = K.ended s

-- of a record's class, 3 or 4
abbrev pub Fits : ℕ → Value → Type 0
Fits class v = ((class ≡ classes.constant) × Constant small v) ⊎ ((class ≡ classes.subtype) × Subtype small v)

-- ---- a record's words

pub lean_constant : (v : Value) → Constant small v → used_value classes.constant (state_of v) (value_kind v) (low_of v) (high_of v) ≡ lean_of v
unfolding used_value used_constant
lean_constant (Number z) f = ap Number (number_word z f)
lean_constant (Truth true) f = refl
lean_constant (Truth false) f = refl
lean_constant (Range low high) f = absurd f
lean_constant Truths f = absurd f
lean_constant (Without s) f = rw (ne_eqb s 0 (λ e. omega arith))

pub lean_subtype : (v : Value) → Subtype small v → used_value classes.subtype (state_of v) (value_kind v) (low_of v) (high_of v) ≡ lean_of v
unfolding used_value used_subtype
lean_subtype (Number z) f = absurd f
lean_subtype (Truth t) f = absurd f
lean_subtype (Range low high) f = ap₂ Range (number_word low f.0) (number_word high f.1)
lean_subtype Truths f = refl
lean_subtype (Without s) f = rw (ne_eqb s 0 (λ e. omega arith))

pub used_lean : (class : ℕ) (v : Value) → Fits class v → used_value class (state_of v) (value_kind v) (low_of v) (high_of v) ≡ lean_of v
used_lean class v (inl f) = rw f.0 (lean_constant v f.1)
used_lean class v (inr f) = rw f.0 (lean_subtype v f.1)

-- what fits is sound for those that use it
pub fits_sound : (class : ℕ) (v : Value) → Fits class v → Sound small (lean_of v)
fits_sound class (Number z) (inl f) = f.1
fits_sound class (Truth t) (inl f) = tt
fits_sound class (Range low high) (inl f) = absurd f.1
fits_sound class Truths (inl f) = tt
fits_sound class (Without s) (inl f) = omega arith
fits_sound class (Number z) (inr f) = absurd f.1
fits_sound class (Truth t) (inr f) = tt
fits_sound class (Range low high) (inr f) = f.1
fits_sound class Truths (inr f) = tt
fits_sound class (Without s) (inr f) = omega arith

module _ (K : Keeps) where
  ends_six : K.ended state.kind
  ends_six = K.stop_ends state.kind (K.sort_stops state.kind K.six)

  -- ---- constants

  held_fits : (t : Bool) (z : ℤ) → K.number z → Constant K (cond t (Number z) (Without state.range))
  held_fits true z f = f
  held_fits false z f = K.outside

  without_constant : (f : Folded) → SoundFolded K f → Constant K (without_of f)
  without_constant (F.Whole z) h = ends_six
  without_constant (F.Truth t) h = ends_six
  without_constant (F.Stopped s) h = K.stop_ends s h

  value_fits : (mark : Value) (f : Folded) → SoundFolded K f → Constant K (value_in mark f)
  value_fits (Number y) f h = without_constant f h
  value_fits (Truth u) f h = without_constant f h
  value_fits (Range low high) (F.Whole z) h = held_fits (le_z low z && le_z z high) z h
  value_fits (Range low high) (F.Truth t) h = ends_six
  value_fits (Range low high) (F.Stopped s) h = K.stop_ends s h
  value_fits Truths (F.Whole z) h = ends_six
  value_fits Truths (F.Truth t) h = tt
  value_fits Truths (F.Stopped s) h = K.stop_ends s h
  value_fits (Without s) f h = without_constant f h

  pub constant_fits : (mark : Value) (x : Outcome) → Sound K mark → SoundOutcome K x → Constant K (constant_of mark x)
  unfolding constant_of
  constant_fits mark x m h =
      value_fits mark (beside_mark mark x)
      (settle_sound K (operator_sort (O.Relation Equal) (mark_sort mark) x.sort) x.folded (sort_sound K (O.Relation Equal) (mark_sort mark) x.sort (mark_sound K mark m) h.of_sort) h.of_folded)

  -- ---- subtypes

  pub subtype_fits : (mark : Value) → Sound K mark → Subtype K (subtype_of mark)
  subtype_fits (Number z) m = ends_six
  subtype_fits (Truth t) m = ends_six
  subtype_fits (Range low high) m = m
  subtype_fits Truths m = tt
  subtype_fits (Without s) m = K.stop_ends s (K.sort_stops s m)

  choose_fits : (t : Bool) (v u : Value) → Subtype K v → Subtype K u → Subtype K (cond t v u)
  choose_fits true v u h k = h
  choose_fits false v u h k = k

  module _ (low high : ℤ) (l : K.number low) (h : K.number high) where
    inside_fits : (mark : Value) → Subtype K (inside_of mark low high)
    inside_fits (Number z) = K.outside
    inside_fits (Truth t) = K.outside
    inside_fits (Range least most) = choose_fits (le_z least low && le_z high most) (Range low high) (Without state.range) (l, h) K.outside
    inside_fits Truths = K.outside
    inside_fits (Without s) = K.outside

    range_fits : (mark : Value) → Subtype K (range_under mark low high)
    range_fits mark = choose_fits (lt_z high low) (Range low high) (inside_of mark low high) (l, h) (inside_fits mark)

  bounds_fit : (mark : Value) (down : Bool) (f g : Folded) → SoundFolded K f → SoundFolded K g → Subtype K (bounds_in mark down f g)
  bounds_fit mark false (F.Whole x) (F.Whole y) h k = range_fits x y h k mark
  bounds_fit mark true (F.Whole x) (F.Whole y) h k = range_fits y x k h mark
  bounds_fit mark down (F.Whole x) (F.Truth u) h k = ends_six
  bounds_fit mark down (F.Whole x) (F.Stopped s) h k = K.stop_ends s k
  bounds_fit mark down (F.Truth t) g h k = ends_six
  bounds_fit mark down (F.Stopped s) g h k = K.stop_ends s h

  pub ranged_fits : (mark : Value) (a b : Outcome) (down : Bool) → Sound K mark → SoundOutcome K a → SoundOutcome K b → Subtype K (ranged_of mark a b down)
  unfolding ranged_of
  ranged_fits mark a b down m h k =
      let bounds = operator_sort (O.Arithmetic Add) a.sort b.sort in
      bounds_fit mark down (first_bound mark a b) b.folded
      (settle_sound K (operator_sort (O.Arithmetic Add) (mark_sort mark) bounds) a.folded (sort_sound K (O.Arithmetic Add) (mark_sort mark) bounds (mark_sound K mark m) (sort_sound K (O.Arithmetic Add) a.sort b.sort h.of_sort k.of_sort)) h.of_folded)
      k.of_folded
