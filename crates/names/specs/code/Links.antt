-- Each name used, to the first record that claims it, and the records whose "name has another claim anywhere" (01, "Pieces, items, states"), as the
-- code's tables have them. A record or an element that points outside its table claims nothing and is no name. Assumes nothing.
use Rattle.std.specs.Prelude.{ℕ, zero, suc, ◌/◌, min, Bool, false, cond, not, ◌&&◌, ◌||◌, List, [], ◌∷◌, eqb, ltb, length}
use Rattle.places.specs.Sizes.{most_pieces}
use Rattle.places.specs.Places.{rows_in}
use Rattle.same_names.specs.Alike.{same_name}
use Rattle.pieces.specs.Columns.{record_words}
use Rattle.pieces.specs.Columns as column
use Rattle.records.specs.Records.{word_at, is_claim}
use Rattle.records.specs.Counting.{one_if}
use Rattle.names.specs.code.Names.{share}

-- how many records there are, "a survey at most 1,024 pieces"
unfoldable pub records_in : List ℕ → ℕ
records_in items = min (length items / record_words) most_pieces

-- the first of m numbers from j on that passes, and one more; 0 where none does
unfoldable pub first_from : (ℕ → Bool) → ℕ → ℕ → ℕ
first_from p j zero = 0
first_from p j (suc m) = cond (p j) (suc j) (first_from p (suc j) m)

-- one of m numbers from j on passes
unfoldable pub any_from : (ℕ → Bool) → ℕ → ℕ → Bool
any_from p j zero = false
any_from p j (suc m) = p j || any_from p (suc j) m

-- record j claims the name that element e is
unfoldable pub claims_element : List ℕ → List ℕ → List ℕ → ℕ → ℕ → Bool
claims_element text table items e j = is_claim (word_at items j column.class) && same_name text table (word_at items j column.name) e

-- the first record that claims element e's name, and one more; 0 where none does
unfoldable pub link_of : List ℕ → List ℕ → List ℕ → ℕ → ℕ
link_of text table items e = first_from (claims_element text table items e) 0 (records_in items)

-- the first record that claims record i's own name, and one more; 0 where it claims none
unfoldable pub own_of : List ℕ → List ℕ → List ℕ → ℕ → ℕ
own_of text table items i = cond (is_claim (word_at items i column.class)) (link_of text table items (word_at items i column.name)) 0

-- another record than i
abbrev pub another : (ℕ → ℕ → Bool) → ℕ → ℕ → Bool
another s i j = not (eqb i j) && s i j

-- another record claims record i's name
unfoldable pub twin_of : List ℕ → List ℕ → List ℕ → ℕ → Bool
twin_of text table items i = any_from (another (share text table items) i) 0 (records_in items)

-- some name is claimed twice
unfoldable pub any_twin : List ℕ → List ℕ → List ℕ → Bool
any_twin text table items = any_from (twin_of text table items) 0 (records_in items)

-- f of each of m numbers from i on
unfoldable pub each_from : (ℕ → ℕ) → ℕ → ℕ → List ℕ
each_from f i zero = []
each_from f i (suc m) = f i ∷ each_from f (suc i) m

-- f of i, for the first n; 0 for any other
unfoldable pub up_to : (ℕ → ℕ) → ℕ → ℕ → ℕ
up_to f n i = cond (ltb i n) (f i) 0

-- a table of m words: f of each of the first n, then zeros
unfoldable pub filled : (ℕ → ℕ) → ℕ → ℕ → List ℕ
filled f n m = each_from (up_to f n) 0 m

-- for each of `count` elements that the table has, the first record that claims its name
unfoldable pub links_table : List ℕ → List ℕ → ℕ → List ℕ → ℕ → List ℕ
links_table text table count items m = filled (link_of text table items) (min count (rows_in table)) m

-- for each record, the first that claims its name
unfoldable pub owns_table : List ℕ → List ℕ → List ℕ → ℕ → List ℕ
owns_table text table items m = filled (own_of text table items) (records_in items) m

-- for each record, 1 where another claims its name
unfoldable pub twins_table : List ℕ → List ℕ → List ℕ → ℕ → List ℕ
twins_table text table items m = filled (λ i. one_if (twin_of text table items i)) (records_in items) m
