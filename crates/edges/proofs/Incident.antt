-- The package with a missing operand, and one with a piece of each other class, computed from their bytes. Assumes nothing.
use mathlib.Core.Path.{refl}
use Rattle.edges.specs.Left.{first_records}
use Rattle.edges.specs.Incident.{gas, Incident, odd, Classes}
use Rattle.edges.proofs.Left.{left}
use Rattle.edges.proofs.Computing.{computing}

pub incident : Incident
unfolding computing
incident = left (first_records 6) gas _ refl (λ rest. refl)

pub classes : Classes
unfolding computing
classes = left (first_records 5) odd _ refl (λ rest. refl)
