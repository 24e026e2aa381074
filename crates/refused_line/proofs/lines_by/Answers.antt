-- As many as there would be, or one. Assumes nothing.
use Rattle.refused_line.proofs.Laws.{given_lines, refused_lines}
use Rattle.refused_line.proofs.lines_by.Goals as goal

pub returns-then-word_at-eq0 : goal.returns-then-word_at-eq0
returns-then-word_at-eq0 c = search given_lines

pub returns : goal.returns
returns c = search refused_lines
