-- 01's "Numbers at the edges", computed from bytes. Assumes nothing.
use mathlib.Core.Path.{refl}
use Rattle.edges.specs.Edges.{edges, EdgeTable, limit_lines, Limits}
use Rattle.edges.proofs.Left.{leaves_each}
use Rattle.edges.proofs.Computing.{computing}

pub edge_table : EdgeTable
unfolding computing
edge_table = leaves_each edges refl (λ rest. refl)

pub limits : Limits
unfolding computing
limits = leaves_each limit_lines refl (λ rest. refl)
