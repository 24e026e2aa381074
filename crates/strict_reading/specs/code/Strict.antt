-- How the code comes to the answer of a text, step by step, given how many words the two lent tables have, and what they hold then.
-- Permitted.antt says what is right: proofs/Promises.antt joins the two. Assumes nothing: these are definitions.
use Rattle.std.specs.Prelude.{ℕ, suc, true, false, List, [], ◌∷◌, Option, Some, None, Result, Ok, Err, eqb, length, replicate}
use Rattle.places.specs.Kinds.{unreadable_kind}
use Rattle.places.specs.Places.{kinds_of}
use Rattle.element_reading.specs.Reading.{reading_of}
use Rattle.element_reading.specs.Reading as elements
use Rattle.places.specs.declared.ElementNumber.{ElementNumber}
use Rattle.refusals.specs.declared.Refusal.{Refusal}
use Rattle.tree.specs.code.Answers.{elements_counted, reading_in, tree_answer_of, Answer}
use Rattle.tree.specs.code.Answers as trees
use Rattle.verdict.specs.code.Judging.{verdict_of}
use Rattle.refusals.specs.declared.StrictRefusal.{StrictRefusal}
use Rattle.refusals.specs.declared.StrictRefusal.TheVariants as S
use Rattle.strict_reading.specs.declared.Judgement.{Judgement}

-- 2: "an unreadable element, the first": of elements of these kinds, the first of which is number i
unfoldable pub unreadable_from : ℕ → List ℕ → Option ℕ
unreadable_from i [] = None
unreadable_from i (k ∷ ks) = elim (eqb k unreadable_kind) [ true ↦ Some i | false ↦ unreadable_from (suc i) ks ]

-- the words of a tree table of so many words, once n elements of an element table were read as a file
unfoldable pub tree_table : List ℕ → List ℕ → ℕ → ℕ → List ℕ
tree_table text table n words = trees.tree_table_of words (reading_in text table (elements_counted table n))

-- 5, 6, 7, 8, or the tree's rows and the verdict on them
abbrev pub by_answer : Answer → List ℕ → Result Judgement StrictRefusal
by_answer (Ok rows) tree = Ok (record { rows = rows; verdict = verdict_of tree rows })
by_answer (Err r) tree = Err r

unfoldable pub file_of : List ℕ → List ℕ → ℕ → ℕ → Result Judgement StrictRefusal
file_of text table n words = by_answer (tree_answer_of words (reading_in text table (elements_counted table n))) (tree_table text table n words)

abbrev pub by_unread : Option ℕ → List ℕ → List ℕ → ℕ → ℕ → Result Judgement StrictRefusal
by_unread (Some k) text table n words = Err (S.Unreadable (record { 0 = k }))
by_unread None text table n words = file_of text table n words

-- n elements of a table: 2, then as above
unfoldable pub elements_as : List ℕ → List ℕ → ℕ → ℕ → Result Judgement StrictRefusal
elements_as text table n words = by_unread (unreadable_from 0 (kinds_of n table)) text table n words

-- 1, 3, 4, then as above
abbrev pub strict_by_reading : Result ElementNumber Refusal → List ℕ → List ℕ → ℕ → Result Judgement StrictRefusal
strict_by_reading (Err r) text table words = Err (S.Elements r)
strict_by_reading (Ok n) text table words = elements_as text table n.0 words

unfoldable pub strict_of : List ℕ → ℕ → ℕ → Result Judgement StrictRefusal
strict_of text element_words tree_words = strict_by_reading (reading_of text element_words) text (elements.table_of text element_words) tree_words

-- "On refusal every lent table is all zeros. On success unused rows are zeros."
abbrev pub kept_by_strict : Result Judgement StrictRefusal → List ℕ → List ℕ
kept_by_strict (Ok j) table = table
kept_by_strict (Err r) table = replicate (length table) 0

-- the element table afterwards
unfoldable pub elements_after_strict : List ℕ → ℕ → ℕ → List ℕ
elements_after_strict text element_words tree_words = kept_by_strict (strict_of text element_words tree_words) (elements.table_of text element_words)

-- the tree table afterwards: zeros where no tree was tried, else as the tree's own answer leaves it
abbrev pub tree_by_unread : Option ℕ → List ℕ → List ℕ → ℕ → ℕ → List ℕ
tree_by_unread (Some k) text table n words = replicate words 0
tree_by_unread None text table n words = tree_table text table n words

unfoldable pub tree_as : List ℕ → List ℕ → ℕ → ℕ → List ℕ
tree_as text table n words = tree_by_unread (unreadable_from 0 (kinds_of n table)) text table n words

abbrev pub tree_by_reading : Result ElementNumber Refusal → List ℕ → List ℕ → ℕ → List ℕ
tree_by_reading (Err r) text table words = replicate words 0
tree_by_reading (Ok n) text table words = tree_as text table n.0 words

unfoldable pub tree_after : List ℕ → ℕ → ℕ → List ℕ
tree_after text element_words tree_words = tree_by_reading (reading_of text element_words) text (elements.table_of text element_words) tree_words
