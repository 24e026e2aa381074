-- A stored table has one reading, and the decoder is it. Assumes nothing.
use Rattle.stored.specs.Promises.{OneReading}
use Rattle.stored.specs.code.Promises.{DecoderFinds, FindsNothing}
use Rattle.stored.proofs.Inverse.{found, unique, only, nothing, none_found}

pub one_reading : OneReading
one_reading F s n m is js p q = unique F s n m is js p q

pub decoder_finds : DecoderFinds
decoder_finds F s n is h = ((λ e. only F s n is h e), λ p. found F s n is p)

pub finds_nothing : FindsNothing
finds_nothing F s h = ((λ e n is p. nothing F s n is e p), λ k. none_found F s h k)
