-- `tree::scan` meets its contract. The machine from here ends as it does from the start, within its bounds; the measure is what is due. One law of Going to each turn. Assumes nothing.
use Prim.Native.Nat.{◌≤◌}
use mathlib.Core.Path.{◌≡◌}
use lib.ListN.{length, drop}
use Rattle.form_table.specs.code.Symbols.{sym_of, syms}
use Rattle.same_names.specs.Alike.{same_name}
use Rattle.forms.specs.code.Reading.{reading_from}
use Rattle.tree.specs.code.Room.{stack_words, frames_words, most_rows, cells_words}
use Rattle.tree.specs.code.Answers.{terminals_of}
use Rattle.tree.proofs.Going.{Going}
use Rattle.tree.proofs.Turns as turns
use Rattle.tree.proofs.scan.Given as goal

abbrev pub invariant-loop-sp : goal.invariant-loop-sp
invariant-loop-sp l = (length l.machine.stk ≡ stack_words)
    × (l.sp ≤ stack_words)
    × (length l.machine.frames ≡ frames_words)
    × (length l.machine.cells ≡ cells_words)
    × (length l.machine.next ≡ most_rows)
    × (length l.machine.heads ≡ most_rows)
    × (l.at ≤ l.count)
    × Going l.text l.elements l.count (reading_from (sym_of l.from) (same_name l.text l.elements) (terminals_of l.count l.elements)) (syms (drop l.sp l.machine.stk)) l.machine.frames l.machine.cells l.machine.next l.machine.heads l.fp l.depth l.used l.at

abbrev pub decreases-loop-sp : goal.decreases-loop-sp
decreases-loop-sp l = turns.to_do l.count l.machine.stk l.sp l.at
