-- The numbers of items that are stored are at most 2147483647 in size. Assumes nothing.
use Rattle.std.specs.Prelude.{Some}
use mathlib.Core.Path.{◌≡◌, refl, sym, subst}
use mathlib.Core.Bool.{Bool, true, false, cond, ◌&&◌}
use mathlib.Core.List.{List, [], ◌∷◌, ◌++◌}
use Prim.Native.Nat.{ℕ, zero, suc, ◌≤◌}
use native.Mathlib.Omega.{arith}
use lib.Dec.{eqb}
use Rattle.states.specs.States as state
use Rattle.pieces.specs.Classes as class
use Rattle.forms.specs.Tree.{Row}
use Rattle.tree.specs.code.PieceRows.{rows_of_piece}
use Rattle.values.specs.Values.{language_value, lean_of}
use Rattle.values.specs.declared.Value.{Value}
use Rattle.values.specs.declared.Value.TheVariants.{Number, Truth, Range, Truths, Without}
use Rattle.marks.specs.code.Marks.{constant_of}
use Rattle.marks.proofs.Sound.{Keeps, Sound, choose_sound}
use Rattle.marks.proofs.Laws.{Constant, Subtype, constant_fits}
use Rattle.stored.specs.StoredItems.{StoredItem}
use Rattle.stored.specs.Stored.{small, sized}
use Rattle.stored.specs.declared.StoredValue.{StoredValue}
use Rattle.stored.specs.declared.StoredValue.TheVariants as kept
use Rattle.meaning.specs.Elements.{Element, Piece, at}
use Rattle.meaning.specs.Pieces.{kinds_in_piece, class_of}
use Rattle.meaning.specs.Names.{names_claimed, language, claims, is_doubled, own_doubled, Done, claimed_above, first_above, use_of}
use Rattle.meaning.specs.code.PieceValues.{valued, bounded, formed, unless_doubled, value_of, done_of, dones_from}
use Rattle.meaning.proofs.Sound.{SoundUse, valued_sound, bounded_fits}
use Rattle.storing.specs.SurveyItems.{stored_value, items_named, stored_items}
use Rattle.storing.specs.Promises.{all_sized}

-- what is kept of a number: its size
abbrev narrow : Keeps
narrow = record {
  number = λ z. small z ≡ true;
  sorted = λ s. 1 ≤ s;
  stopped = λ s. 1 ≤ s;
  ended = λ s. 1 ≤ s;
  sized = λ z e. e;
  three = omega arith;
  four = omega arith;
  five = omega arith;
  six = omega arith;
  smaller = λ s t h k. omega arith;
  divisor = omega arith;
  exponent = omega arith;
  size = omega arith;
  sort_stops = λ s h. h;
  stop_ends = λ s h. h;
  outside = omega arith;
}

abbrev Tight : Value → Type 0
Tight (Number z) = small z ≡ true
Tight (Truth t) = Unit {0}
Tight (Range low high) = (small low ≡ true) × (small high ≡ true)
Tight Truths = Unit {0}
Tight (Without s) = Unit {0}

tight_lean : (v : Value) → Tight v → Sound narrow (lean_of v)
tight_lean (Number z) h = h
tight_lean (Truth t) h = tt
tight_lean (Range low high) h = h
tight_lean Truths h = tt
tight_lean (Without s) h = omega arith

constant_tight : (v : Value) → Constant narrow v → Tight v
constant_tight (Number z) h = h
constant_tight (Truth t) h = tt
constant_tight (Range low high) h = absurd h
constant_tight Truths h = tt
constant_tight (Without s) h = tt

subtype_tight : (v : Value) → Subtype narrow v → Tight v
subtype_tight (Number z) h = absurd h
subtype_tight (Truth t) h = tt
subtype_tight (Range low high) h = h
subtype_tight Truths h = tt
subtype_tight (Without s) h = tt

tight_cond : (b : Bool) (v u : Value) → Tight v → Tight u → Tight (cond b v u)
tight_cond true v u h k = h
tight_cond false v u h k = k

-- ---- names used

language_tight : (k : ℕ) → Sound narrow (language_value k)
unfolding language_value
language_tight zero = omega arith
language_tight (suc zero) = (refl, refl)
language_tight (suc (suc zero)) = (refl, refl)
language_tight (suc (suc (suc zero))) = (refl, refl)
language_tight (suc (suc (suc (suc zero)))) = tt
language_tight (suc (suc (suc (suc (suc zero))))) = tt
language_tight (suc (suc (suc (suc (suc (suc zero)))))) = tt
language_tight (suc (suc (suc (suc (suc (suc (suc k))))))) = omega arith

abbrev AllTight : List Done → Type 0
AllTight [] = Unit {0}
AllTight (d ∷ ds) = Tight d.value × AllTight ds

tight_append : (ds es : List Done) → AllTight ds → AllTight es → AllTight (ds ++ es)
tight_append [] es h k = k
tight_append (d ∷ ds) es h k = (h.0, tight_append ds es h.1 k)

language_lean : (k : ℕ) (v : Value) → language_value k ≡ v → Sound narrow v → Sound narrow (lean_of v)
language_lean k (Number z) e h = h
language_lean k (Truth t) e h = tt
language_lean k (Range low high) e h = h
language_lean k Truths e h = tt
language_lean k (Without s) e h = omega arith

first_tight : (ds : List Done) → AllTight ds → (x : Element) → Sound narrow (lean_of (first_above x ds))
unfolding first_above
first_tight [] g x = language_lean (language x) (language_value (language x)) refl (language_tight (language x))
first_tight (d ∷ ds) g x = go (claims x d.piece) (first_tight ds g.1 x)
  where
    go : (b : Bool) → Sound narrow (lean_of (first_above x ds)) → Sound narrow (lean_of (elim b [ true ↦ d.value | false ↦ first_above x ds ]))
    go true h = tight_lean d.value g.0
    go false h = h

use_tight : (all : List Piece) (ds : List Done) → AllTight ds → SoundUse narrow (use_of all ds)
unfolding use_of
use_tight all ds g x =
    choose_sound narrow (claimed_above x ds) _ _ (choose_sound narrow (is_doubled all x) (Without state.leans) _ (omega arith) (first_tight ds g x)) (omega arith)

-- ---- pieces

module _ (p : Piece) (used : Element → Value) (u : SoundUse narrow used) where
  formed_tight : (rs : List Row) → Tight (formed p used rs)
  formed_tight [] = tt
  formed_tight (item ∷ []) = tt
  formed_tight (item ∷ mark ∷ rs) =
      tight_cond (eqb (class_of p) class.constant) (constant_of (used (at p mark.first)) (valued p used rs)) (bounded p used (used (at p mark.first)) rs)
      (constant_tight (constant_of (used (at p mark.first)) (valued p used rs)) (constant_fits narrow (used (at p mark.first)) (valued p used rs) (u (at p mark.first)) (valued_sound narrow p used u rs)))
      (subtype_tight (bounded p used (used (at p mark.first)) rs) (bounded_fits narrow p used u (used (at p mark.first)) (u (at p mark.first)) rs))

unless_tight : (d : Bool) (rs : List Row) (v : Value) → Tight v → Tight (unless_doubled d rs v)
unless_tight d [] v h = tt
unless_tight true (r ∷ rs) v h = tt
unless_tight false (r ∷ rs) v h = h

value_tight : (all : List Piece) (ds : List Done) (p : Piece) → AllTight ds → Tight (value_of all ds p)
unfolding value_of
value_tight all ds p g = unless_tight (own_doubled all p) (rows_of_piece (kinds_in_piece p)) _ (formed_tight p (use_of all ds) (use_tight all ds g) (rows_of_piece (kinds_in_piece p)))

dones_tight : (all : List Piece) (above : List Done) (ps : List Piece) → AllTight above → AllTight (dones_from all above ps)
unfolding dones_from
dones_tight all above [] g = tt
dones_tight all above (p ∷ ps) g =
    let h = value_tight all above p g in
    (h, dones_tight all (above ++ done_of all above p ∷ []) ps (tight_append above (done_of all above p ∷ []) g (h, tt)))

-- ---- the items

holds_sized : (w : StoredValue) → sized w ≡ true → (xs : List Element) → all_sized (items_named (Some w) xs) ≡ true
unfolding items_named
holds_sized w h [] = refl
holds_sized w h (x ∷ xs) = rw h (holds_sized w h xs)

value_sized : (v : Value) → Tight v → (xs : List Element) → all_sized (items_named (stored_value v) xs) ≡ true
unfolding items_named sized
value_sized (Number z) h xs = holds_sized (kept.Number z) h xs
value_sized (Truth t) h xs = holds_sized (kept.Truth t) refl xs
value_sized (Range low high) h xs = holds_sized (kept.Range low high) (rw h.0 h.1) xs
value_sized Truths h xs = holds_sized kept.Truths refl xs
value_sized (Without s) h xs = refl

sized_append : (xs ys : List StoredItem) → all_sized xs ≡ true → all_sized ys ≡ true → all_sized (xs ++ ys) ≡ true
sized_append [] ys h k = k
sized_append (x ∷ xs) ys h k = go (sized x.value) h (λ e. sized_append xs ys e k)
  where
    go : (b : Bool) → (b && all_sized xs) ≡ true → (all_sized xs ≡ true → all_sized (xs ++ ys) ≡ true) → (b && all_sized (xs ++ ys)) ≡ true
    go true e ih = ih e
    go false e ih = e

pub items_sized : (ds : List Done) → AllTight ds → all_sized (stored_items ds) ≡ true
unfolding stored_items
items_sized [] h = refl
items_sized (d ∷ ds) h =
    sized_append (items_named (stored_value d.value) (names_claimed d.piece)) (stored_items ds) (value_sized d.value h.0 (names_claimed d.piece)) (items_sized ds h.1)

pub from_pieces : (all ps : List Piece) (ds : List Done) → ds ≡ dones_from all [] ps → all_sized (stored_items ds) ≡ true
from_pieces all ps ds e = subst (λ (es : List Done). all_sized (stored_items es) ≡ true) (sym e) (items_sized (dones_from all [] ps) (dones_tight all [] ps tt))
