-- A name in the text has its hash's chain; any other the first. Assumes nothing.
use Rattle.names.specs.code.Chains.{chain_of}
use Rattle.names.proofs.Hashing.{bucket_out, bucket_in, stands_in, chain_low}
use borrow.Author.Rules.{rules}
use Rattle.names.proofs.bucket.Goals as goal

pub hashed-h-requires : goal.hashed-h-requires
hashed-h-requires c = stands_in c.args.text.now _ _ _ c.stands.ensures c.if-stands.true

pub returns-then-stands : goal.returns-then-stands
unfolding chain_of
returns-then-stands c = (bucket_in _ _ _ _ _ _ c.place_of-first.ensures c.size_of-n.ensures c.stands.ensures _ _ c.if-stands.true c.kind_of-kind.ensures c.hashed-h.ensures.0, chain_low _ c.hashed-h.ensures.1)

pub returns : goal.returns
returns c = (search bucket_out, search rules)
