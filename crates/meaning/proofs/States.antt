-- The states that an item may come to: one that a form fits and whose name is claimed once has its value, or is in one of 3 to 10. No premise
-- is on the pieces above, because what leans on them is in state 5. Assumes nothing.
use mathlib.Core.Bool.{Bool, true, false, cond}
use mathlib.Core.List.{List}
use native.Mathlib.Omega.{arith}
use lib.Dec.{eqb}
use Rattle.forms.specs.Tree.{Row}
use Rattle.values.specs.declared.Value.{Value}
use Rattle.values.specs.declared.Value.TheVariants.{Number, Truth, Range, Truths, Without}
use Rattle.marks.specs.code.Marks.{constant_of}
use Rattle.values.specs.Values.{lean_of}
use Rattle.marks.proofs.Sound.{Between, late, Sound, choose_sound}
use Rattle.marks.proofs.Laws.{Constant, Subtype, constant_fits}
use Rattle.states.specs.States as state
use Rattle.meaning.specs.Elements.{Element, Piece}
use Rattle.meaning.specs.Names.{is_doubled, Done, claimed_above, first_above, use_of}
use Rattle.meaning.specs.Pieces.{class_of}
use Rattle.meaning.specs.code.PieceValues.{valued, bounded, marked}
use Rattle.meaning.proofs.Sound.{SoundUse, valued_sound, bounded_fits}

abbrev pub Late : Value → Type 0
Late (Number z) = Unit {0}
Late (Truth t) = Unit {0}
Late (Range low high) = Unit {0}
Late Truths = Unit {0}
Late (Without s) = Between 10 s

of_constant : (v : Value) → Constant late v → Late v
of_constant (Number z) h = tt
of_constant (Truth t) h = tt
of_constant (Range low high) h = tt
of_constant Truths h = tt
of_constant (Without s) h = h

of_subtype : (v : Value) → Subtype late v → Late v
of_subtype (Number z) h = tt
of_subtype (Truth t) h = tt
of_subtype (Range low high) h = tt
of_subtype Truths h = tt
of_subtype (Without s) h = h

choose_late : (t : Bool) (v u : Value) → Late v → Late u → Late (cond t v u)
choose_late true v u h k = h
choose_late false v u h k = k

lean_late : (v : Value) → Sound late (lean_of v)
lean_late (Number z) = tt
lean_late (Truth t) = tt
lean_late (Range low high) = (tt, tt)
lean_late Truths = tt
lean_late (Without s) = (omega arith, omega arith)

pub use_late : (all : List Piece) (above : List Done) → SoundUse late (use_of all above)
unfolding use_of
use_late all above x =
    choose_sound late (claimed_above x above) _ _ (choose_sound late (is_doubled all x) (Without state.leans) _ (omega arith, omega arith) (lean_late (first_above x above))) (omega arith, omega arith)

-- an item with rows, whatever stands above it
pub marked_late : (all : List Piece) (above : List Done) (p : Piece) (mark : Element) (rs : List Row) → Late (marked p (use_of all above) (use_of all above mark) rs)
marked_late all above p mark rs =
    let used = use_of all above in
    let u = use_late all above in
    choose_late (eqb (class_of p) 3) (constant_of (used mark) (valued p used rs)) (bounded p used (used mark) rs)
    (of_constant (constant_of (used mark) (valued p used rs)) (constant_fits late (used mark) (valued p used rs) (u mark) (valued_sound late p used u rs)))
    (of_subtype (bounded p used (used mark) rs) (bounded_fits late p used u (used mark) (u mark) rs))
