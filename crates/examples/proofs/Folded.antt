-- The three cases of a folded result, computed by the contract's definition. Assumes nothing.
use mathlib.Core.Path.{refl}
use Rattle.places.specs.Places.{cell_at}
use Rattle.records.specs.Records.{word_at}
use Rattle.element_reading.specs.Table.{cells}
use Rattle.operands.specs.code.Operands.{bytes_at, literal_in}
use Rattle.forms.specs.RowWords.{tree_rows_in}
use Rattle.expressions.specs.Folds.{element_in, literal_at, kind_in_piece, fold_of, folded_of}
use Rattle.edges.proofs.Computing.{computing}
use Rattle.examples.specs.Folded.{ThreeCases}

pub three_cases : ThreeCases
unfolding computing cell_at word_at cells bytes_at literal_in tree_rows_in element_in literal_at kind_in_piece fold_of folded_of
three_cases = (refl, refl, refl)
