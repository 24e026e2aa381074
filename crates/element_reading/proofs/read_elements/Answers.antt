-- One law for each answer. Assumes nothing.
use Rattle.element_reading.proofs.Answers.{refuse_long, refuse_many, refuse_short, answer_read}
use Rattle.element_reading.proofs.read_elements.Goals as goal

pub returns-then-s-gt-MOST_BYTES : goal.returns-then-s-gt-MOST_BYTES
returns-then-s-gt-MOST_BYTES c = let a = c.args in
    refuse_long a.s.now a.t.now _ c.clear.ensures c.if-s-gt-MOST_BYTES.true

pub returns-then-n-gt-MOST_ELEMENTS : goal.returns-then-n-gt-MOST_ELEMENTS
returns-then-n-gt-MOST_ELEMENTS c = let a = c.args in
    refuse_many a.s.now a.t.now _ c.clear.ensures _ _ c.if-s-gt-MOST_BYTES.false c.read_lines-n.ensures.value c.read_lines-n.ensures.t_after _ c.if-n-gt-MOST_ELEMENTS.true c.clear-then-n-gt-MOST_ELEMENTS.ensures

pub returns-then-rows-n : goal.returns-then-rows-n
returns-then-rows-n c = let a = c.args in
    refuse_short a.s.now a.t.now _ c.clear.ensures _ _ c.if-s-gt-MOST_BYTES.false c.read_lines-n.ensures.value c.read_lines-n.ensures.t_after _ _ c.rows_in-rows.ensures c.if-n-gt-MOST_ELEMENTS.false c.if-rows-n.true c.clear-then-rows-n.ensures

pub returns : goal.returns
returns c = let a = c.args in
    answer_read a.s.now a.t.now _ c.clear.ensures _ _ c.if-s-gt-MOST_BYTES.false c.read_lines-n.ensures.value c.read_lines-n.ensures.t_after _ c.rows_in-rows.ensures c.if-n-gt-MOST_ELEMENTS.false c.if-rows-n.false
