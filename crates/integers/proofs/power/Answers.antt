-- A negative exponent stops, any other is a natural number. Assumes nothing.
use mathlib.Core.Path.{◌≡◌, refl}
use borrow.Author.Rules.{rules}
use lib.IntN.{ℤ, pos, negsuc}
use mir.Syntax.{w32}
use mir.Val.{SFits}
use Rattle.std.specs.Int.{FitsUnsignedBits}
use Rattle.states.specs.States as state
use Rattle.integers.specs.Integers.{power_of}
use Rattle.integers.specs.declared.Folded.TheVariants.{Stopped}
use Rattle.integers.proofs.power.Goals as goal

stops : (a e : ℤ) → SFits w32 e → (FitsUnsignedBits 64 e → ⊥) → Stopped state.exponent ≡ power_of a e
unfolding power_of
stops a (pos n) f h = absurd (h (search rules))
stops a (negsuc n) f h = refl

pub returns-in-Ok : goal.returns-in-Ok
unfolding power_of
returns-in-Ok c = search rules

pub returns-in-Err : goal.returns-in-Err
returns-in-Err c = search (rules, stops)
