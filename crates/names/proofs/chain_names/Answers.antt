-- The invariant: the records from the i-th on are chained. Assumes nothing.
use mathlib.Core.Path.{refl}
use lib.ListN.{length-set}
use Rattle.places.specs.Sizes.{most_pieces}
use Rattle.names.specs.code.Chains.{buckets}
use Rattle.names.proofs.Tables.{all_zero, zeros_long}
use Rattle.names.proofs.Chaining.{chain_none, chain_whole, record_passed, record_chained}
use Rattle.names.proofs.chain_names.Goals as goal

pub loop-i-init : goal.loop-i-init
loop-i-init c = (zeros_long buckets _ c.requires.1, zeros_long most_pieces _ c.requires.2, chain_none _ _ _ _ (all_zero buckets _ c.requires.1))

pub loop-i-preserved-then-is_claim : goal.loop-i-preserved-then-is_claim
loop-i-preserved-then-is_claim c = (
  simp length-set c.loop-i.invariant.0,
  simp length-set c.loop-i.invariant.1,
  record_chained _ _ _ _ _ _ c.word.ensures c.is_claim.ensures _ _ _ _ refl c.loop-i-test.true c.loop-i.auto.i c.loop-i.invariant.2 _ _ c.if-is_claim.true c.word-then-is_claim.ensures c.bucket-b.ensures.0 c.bucket-b.ensures.1 c.loop-i.invariant.0 c.loop-i.invariant.1 c.requires.0,
)

pub loop-i-preserved : goal.loop-i-preserved
loop-i-preserved c = (
  c.loop-i.invariant.0,
  c.loop-i.invariant.1,
  record_passed _ _ _ _ _ _ c.word.ensures c.is_claim.ensures _ _ _ _ refl c.loop-i-test.true c.loop-i.auto.i c.loop-i.invariant.2 c.if-is_claim.false,
)

pub returns : goal.returns
returns c = chain_whole _ _ _ _ _ c.loop-i-test.false c.loop-i.invariant.2
