use Rattle.item_words.proofs.Laws.{ends, end_fits, stretch_in, stretch_out}
use Rattle.item_words.proofs.put_stretch.Goals as goal

pub overflow_add-end : goal.overflow_add-end
overflow_add-end c = search end_fits

pub slice_bounds-put_bytes-end : goal.slice_bounds-put_bytes-end
slice_bounds-put_bytes-end c = search ends

pub returns-then-stands : goal.returns-then-stands
returns-then-stands c = search stretch_in

pub returns : goal.returns
returns c = search stretch_out
