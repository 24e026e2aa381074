-- From what the scan found to what is answered, and what the tree table then holds. Assumes nothing.
use Rattle.std.specs.Prelude.{Ok}
use Prim.Native.Nat.{ℕ, ◌+◌, ◌-◌, ◌*◌, ◌/◌, ◌≤◌}
use mathlib.Core.Path.{◌≡◌, sym, ◌∙◌, ap}
use mathlib.Core.Bool.{Bool, cond}
use mathlib.Core.List.{List, ◌++◌}
use native.Mathlib.Omega.{arith}
use lib.ListN.{length, drop, length-replicate}
use lib.Seq.{sets, sets-eq}
use borrow.Author.Tests.{le-leb}
use Rattle.grammars.specs.code.Actions.{End, read, bad, stopped, spent}
use Rattle.forms.specs.Tree.{Row}
use Rattle.forms.specs.code.RuleActions.{State, Refusal, state_rows}
use Rattle.forms.specs.RowWords.{words_of}
use Rattle.tree.specs.code.Answers.{tree_table_of}
use Rattle.tree.specs.code.Held.{Spans, Tells}
use Rattle.tree.proofs.Zeros.{zeros, drop_zeros}
use Rattle.forms.proofs.RowWords.{words_size}

pub filled : (room : ℕ) (rows : List Row) → 5 * length rows ≤ room → sets (zeros room) 0 (words_of rows) ≡ words_of rows ++ zeros (room - 5 * length rows)
filled room rows h =
    let n = words_size rows in
    let z : room ≡ 0 + length (words_of rows) + (room - 5 * length rows) = omega arith in
    sets-eq (words_of rows) (zeros room) 0 (simp length-replicate (omega arith))
    ∙ ap (λ (l : List ℕ). words_of rows ++ l) (ap (λ (x : ℕ). drop (0 + length (words_of rows)) (zeros x)) z ∙ drop_zeros (0 + length (words_of rows)) (room - 5 * length rows))

-- what was read whole is written: the rows, and then zeros
pub table_whole : (cells next heads : List ℕ) (used room : ℕ) (tab₀ tab : List ℕ) (o : End State Refusal) → Tells (Ok used) cells next heads o → used ≤ room / 5 → tab₀ ≡ zeros room
    → ((rows : List Row) → Spans cells next heads used 0 rows → tab ≡ sets tab₀ 0 (words_of rows)) → tab ≡ tree_table_of room o
table_whole cells next heads used room tab₀ tab (read s) t l z w =
    let n : length (state_rows s) ≡ used = t.1 in
    let m : 5 * length (state_rows s) ≤ room = omega arith in
    w (state_rows s) t.0
    ∙ ap (λ (l : List ℕ). sets l 0 (words_of (state_rows s))) z
    ∙ filled room (state_rows s) m
    ∙ sym (ap (λ (x : Bool). cond x (words_of (state_rows s) ++ zeros (room - 5 * length (state_rows s))) (zeros room)) (le-leb (5 * length (state_rows s)) room m))
table_whole cells next heads used room tab₀ tab (bad j) t l z w = absurd t
table_whole cells next heads used room tab₀ tab (stopped j x) t l z w = absurd t
table_whole cells next heads used room tab₀ tab spent t l z w = absurd t
