-- The invariant: the records so far are marked. Assumes nothing.
use mathlib.Core.Path.{refl}
use native.Mathlib.Omega.{arith}
use lib.ListN.{length-set}
use Rattle.places.specs.Sizes.{most_pieces}
use Rattle.names.proofs.Tables.{all_zero, zeros_long}
use Rattle.names.proofs.Twins.{none_marked, mark_passes, mark_named, mark_room, mark_takes, flags_whole}
use Rattle.names.proofs.find_twins.Goals as goal
use Rattle.names.proofs.find_twins.Goals.{then-f-i, else-f-i}

pub loop-i-init : goal.loop-i-init
loop-i-init c = (zeros_long most_pieces _ c.requires.2, none_marked _ _ _ (all_zero most_pieces _ c.requires.2))

pub overflow_sub-flags : goal.overflow_sub-flags
overflow_sub-flags c = mark_named _ _ _ _ _ c.loop-i.invariant.1 c.loop-i-test.true _ refl c.requires.1 c.loop-i.invariant.0 c.requires.0 c.if-f-i.true

pub offset_bounds-flags-f : goal.offset_bounds-flags-f
offset_bounds-flags-f c = let h = mark_room _ _ _ _ _ c.loop-i.invariant.1 c.loop-i-test.true _ refl c.requires.1 c.loop-i.invariant.0 c.requires.0 c.if-f-i.true in omega arith

pub bounds-flags-f : goal.bounds-flags-f
bounds-flags-f c = mark_room _ _ _ _ _ c.loop-i.invariant.1 c.loop-i-test.true _ refl c.requires.1 c.loop-i.invariant.0 c.requires.0 c.if-f-i.true

pub loop-i-preserved : goal.loop-i-preserved
loop-i-preserved c = let t = c.loop-i-test.true in
    elim c.if-f-i.branch [
      | then-f-i w ↦ (
        rw w.flags-is (simp length-set c.loop-i.invariant.0),
        rw (w.flags-is, w.any-is) (mark_takes _ _ _ _ _ c.loop-i.invariant.1 t _ refl c.requires.1 c.loop-i.invariant.0 c.requires.0 w.if-f-i.true),
      )
      | else-f-i w ↦ (
        rw w.flags-is c.loop-i.invariant.0,
        rw (w.flags-is, w.any-is) (mark_passes _ _ _ _ _ c.loop-i.invariant.1 t _ refl w.if-f-i.false),
      )
    ]

pub returns : goal.returns
returns c = flags_whole _ _ _ _ _ c.loop-i.auto.i-end c.loop-i-test.false c.loop-i.invariant.1
