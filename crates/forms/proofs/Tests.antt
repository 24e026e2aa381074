-- The computed tests: the grammar of files is LL(1), its steps are paid for, its stack stays low, it nests, and it has fewer rows than
-- elements. All else follows from these by the theory of any such grammar. Assumes nothing.
use Prim.Native.Nat.{ℕ, suc, ◌+◌, ◌≤◌, ◌<◌}
use mathlib.Core.Path.{refl}
use mathlib.Core.List.{[]}
use mathlib.Core.Bool.{Bool, false}
use native.Mathlib.Omega.{arith}
use lib.Dec.{T, leb, leb→le}
use lib.ListN.{get_or}
use Rattle.grammars.proofs.Running.{run}
use Rattle.grammars.proofs.Theory.{Tables, LL}
use Rattle.grammars.proofs.Check.{below_at, ll}
use Rattle.grammars.proofs.Budget.{Paid, paid}
use Rattle.grammars.proofs.Room.{nested, near, part, parts}
use Rattle.grammars.proofs.Spare.{spares, credit, debit}
use Rattle.forms.specs.code.RuleNames.{name_count, first_row}
use Rattle.forms.specs.code.Rules.{forms, body}
use Rattle.forms.specs.code.Picks.{picks, predict}
use Rattle.forms.proofs.Hints as hints

abbrev pub tables : Tables
tables = record {
  first = λ n. get_or hints.firsts n [];
  null = λ n. get_or hints.nulls n false;
  follow = λ n. get_or hints.follows n [];
  nts = name_count;
  word = λ n. get_or hints.words n [];
}

pub forms_ll : LL forms predict tables
unfolding run
forms_ll = ll forms predict tables picks (λ n t. refl) (tt, tt, tt, tt, tt, tt, tt, tt)

-- the steps
abbrev pub weight : ℕ → ℕ
weight n = get_or hints.weights n 0

abbrev pub leads : ℕ → ℕ
leads n = get_or hints.leads n 0

pub steps_paid : Paid body predict weight leads
steps_paid = paid forms predict tables forms_ll weight leads tt tt

-- the actions that the bounds speak of
abbrev pub opening : ℕ
opening = 0

abbrev pub closing : ℕ
closing = 1

abbrev pub deepening : ℕ
deepening = 5

abbrev pub ending : ℕ
ending = 6

abbrev pub is_row : ℕ → Bool
is_row a = leb first_row a

-- the stack
abbrev pub height : ℕ → ℕ
height n = suc (get_or hints.heights n 0)

pub height_pos : (n : ℕ) → 1 ≤ height n
height_pos n = omega arith

pub stretch : (p : ℕ) → p < forms.count → T (part ending height height_pos (forms.lhs p) (body p))
stretch p l = below_at forms.count (λ p. part ending height height_pos (forms.lhs p) (body p)) tt p l

pub stretches : (p : ℕ) → p < forms.count → T (parts ending height height_pos (forms.lhs p) (body p))
stretches p l = below_at forms.count (λ p. parts ending height height_pos (forms.lhs p) (body p)) tt p l

-- what nests
pub open_nests : (p : ℕ) → p < forms.count → T (nested deepening ending 0 0 (body p))
open_nests p l = below_at forms.count (λ p. nested deepening ending 0 0 (body p)) tt p l

pub open_near : (p : ℕ) → p < forms.count → T (near deepening (body p))
open_near p l = below_at forms.count (λ p. near deepening (body p)) tt p l

pub frames_nest : (p : ℕ) → p < forms.count → T (nested opening closing 0 0 (body p))
frames_nest p l = below_at forms.count (λ p. nested opening closing 0 0 (body p)) tt p l

-- the rows
abbrev pub spare : ℕ → ℕ
spare n = get_or hints.spares n 0

pub rows_spare : (p : ℕ) → p < forms.count → debit is_row spare (body p) + 1 ≤ credit (body p) + spare (forms.lhs p)
rows_spare p l = leb→le _ _ (below_at forms.count (λ p. spares is_row spare (forms.lhs p) (body p)) tt p l)
