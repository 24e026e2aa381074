-- The invariant: the numbers so far are written. Assumes nothing.
use native.Mathlib.Omega.{arith}
use lib.ListN.{length-set}
use Rattle.places.specs.Sizes.{most_pieces}
use Rattle.names.proofs.Tables.{word_written, zeros_long}
use Rattle.names.proofs.own_links.Goals as goal

pub loop-i-init : goal.loop-i-init
loop-i-init c = (zeros_long most_pieces _ c.requires.1, λ k h. absurd (omega arith))

pub own_link-requires : goal.own_link-requires
own_link-requires c = c.requires.2

pub loop-i-preserved : goal.loop-i-preserved
loop-i-preserved c = let l = c.loop-i in
    (simp length-set l.invariant.0, word_written _ l.own l.i _ l.invariant.1 (omega (arith, c.requires.0, l.invariant.0)) c.own_link.ensures)

pub returns : goal.returns
returns c = λ k l. c.loop-i.invariant.1 k (omega arith)
