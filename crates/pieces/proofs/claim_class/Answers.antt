-- What a piece claims. Assumes nothing.
use Rattle.pieces.proofs.Classing.{claim_none, claim_constant, claim_subtype, claim_other}
use Rattle.pieces.proofs.claim_class.Goals as goal

pub returns-then-not-is_name : goal.returns-then-not-is_name
returns-then-not-is_name c = search claim_none

pub returns-then-k-eq-WORD_CONSTANT : goal.returns-then-k-eq-WORD_CONSTANT
returns-then-k-eq-WORD_CONSTANT c = search claim_constant

pub returns-then-k-eq-WORD_SUBTYPE : goal.returns-then-k-eq-WORD_SUBTYPE
returns-then-k-eq-WORD_SUBTYPE c = search claim_subtype

pub returns : goal.returns
returns c = search claim_other
