-- Good or bad. Assumes nothing.
use Rattle.record_lines.proofs.Laws.{good_put, bad_put}
use Rattle.words.specs.Words.{bytes_of}
use Rattle.record_lines.proofs.put_frame.Goals as goal

pub returns-then-frame-eq1 : goal.returns-then-frame-eq1
unfolding bytes_of
returns-then-frame-eq1 c = search good_put

pub returns : goal.returns
unfolding bytes_of
returns c = search bad_put
